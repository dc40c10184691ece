-- The growth of a log over a whole talk, and that of each of its calls.
use Rattle.std.specs.Prelude.{◌≡◌, List, [], ◌∷◌, ◌++◌}
use Rattle.bcv_base.specs.declared.id.Id16.{Id16}
use Rattle.bcv_base.specs.declared.log.Entry.{Entry}
use Rattle.bcv_client.specs.Talk.{Exchange, Point, Talks}
use Rattle.bcv_client.specs.declared.client.Client.{Client}
use Rattle.bcv_dbmap.specs.Honest.{GrewHonestly}
use Rattle.bcv_disk.specs.DiskShown.{DiskShown, DiskTold}
use Rattle.bcv_store.specs.StoreShown.{StoreTold}
use Rattle.bcv_talks.specs.Runs.{RunState, RunsOver}
use Rattle.bcv_talks.specs.TalkRuns.{OthersAreHonest}

-- a log is another one with more entries
pub record Extends (before after : List Entry) : Type 0 where
  pub added : List Entry
  pub grown : after ≡ before ++ added

-- each call of a talk leaves the log as it was, with more entries
abbrev pub CallsExtend : {D : Type 0} {g : _} (told : DiskTold) (shown : D → DiskShown)
    (store : StoreTold) (a : Point D g) (es : List Exchange) (b : Point D g)
    → Talks told shown store a es b → Type 0
CallsExtend told shown store a [] b talk = Unit {0}
CallsExtend told shown store a (e ∷ es) b talk =
    Extends a.store.log talk.0.store.log × CallsExtend told shown store talk.0 es b talk.2

-- where others appended lawful entries alone over the whole talk, they did so in each call
abbrev pub HonestInEach : {D : Type 0} {g : _} → DiskTold → (D → DiskShown) → StoreTold
    → Client D g → Type 0
HonestInEach told shown store client =
    (a b : Point _ _) (es : List Exchange) (talk : Talks told shown store a es b)
    (mine : List Id16)
    → a.client ≡ client → CallsExtend told shown store a es b talk
    → GrewHonestly store.alone mine a.store.log b.store.log
    → OthersAreHonest told shown store mine a es b talk

-- where a store is alone, nobody appended
abbrev pub HonestAlone : {D : Type 0} {g : _} → DiskTold → (D → DiskShown) → StoreTold
    → Client D g → Type 0
HonestAlone told shown store client =
    (a b : Point _ _) (es : List Exchange) (talk : Talks told shown store a es b)
    (mine : List Id16)
    → a.client ≡ client → store.alone → OthersAreHonest told shown store mine a es b talk

-- over a run the log only grows
abbrev pub RunsExtend : StoreTold → Type 0
RunsExtend store =
    (mine used : List Id16) (a b : RunState) (es : List Exchange) → RunsOver store mine used a es b
    → Extends a.store.log b.store.log
