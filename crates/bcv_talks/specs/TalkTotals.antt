-- What a whole talk leaves of its client, and the names that it draws.
use Rattle.std.specs.Prelude.{◌≡◌, ◌≤◌, ℕ, Bool, true, List, [], ◌∷◌, ◌++◌}
use Rattle.std.specs.List.{list_any}
use Rattle.bcv_base.specs.declared.id.Id16.{Id16}
use Rattle.bcv_base.specs.Drawn.{AddsNames}
use Rattle.bcv_base.specs.Faults.{Rose}
use Rattle.bcv_clientlog.specs.LogParts.{log_disk}
use Rattle.bcv_client.specs.AskCalls.{taken_with}
use Rattle.bcv_client.specs.Talk.{Exchange, Point, Talks}
use Rattle.bcv_client.specs.declared.client.Client.{Client}
use Rattle.bcv_disk.specs.DiskShown.{DiskShown, DiskTold}
use Rattle.bcv_store.specs.StoreShown.{StoreTold}
use Rattle.bcv_talks.specs.Runs.{is_disk_fault}

-- ---- the client

-- how often the client's disk has failed
abbrev pub disk_faults : {D : Type 0} {g : _} → (D → DiskShown) → Client D g → ℕ
disk_faults shown c = (shown (log_disk c.ledger.log)).faults

-- how many commits a client was given after these asks
abbrev pub taken_after : List Exchange → ℕ → ℕ
taken_after [] taken = taken
taken_after (e ∷ es) taken = taken_after es (taken_with e.ask taken)

-- the client is the same one with as many slots, and has counted the commits of the asks
pub record SameAfter {D : Type 0} {g : _} (es : List Exchange) (old new : Client D g)
    : Type 0 where
  pub id : new.id ≡ old.id
  pub taken : new.taken ≡ taken_after es old.taken
  pub slots : new.txns.slots ≡ old.txns.slots

-- so it is after each talk
abbrev pub TalksKeepClient : {D : Type 0} {g : _} → DiskTold → (D → DiskShown) → StoreTold
    → Client D g → Type 0
TalksKeepClient told shown store client =
    (a b : Point _ _) (es : List Exchange) → Talks told shown store a es b → a.client ≡ client
    → SameAfter es a.client b.client

-- ---- the disk

-- a fault of the disk is among the replies
abbrev pub meets_disk_fault : List Exchange → Bool
meets_disk_fault es = list_any (λ (e : Exchange). is_disk_fault e.reply) es

-- the disk's count of faults has not fallen, and rose where such a fault was answered
pub record CountsDiskFaults (es : List Exchange) (before after : ℕ) : Type 0 where
  pub later : before ≤ after
  pub rose : meets_disk_fault es ≡ true → Rose before after

-- so it is over each talk
abbrev pub TalksCountFaults : {D : Type 0} {g : _} → DiskTold → (D → DiskShown) → StoreTold
    → Client D g → Type 0
TalksCountFaults told shown store client =
    (a b : Point _ _) (es : List Exchange) → Talks told shown store a es b → a.client ≡ client
    → CountsDiskFaults es (disk_faults shown a.client) (disk_faults shown b.client)

-- ---- the names

-- the names that a talk draws, in order
abbrev pub talk_names : {D : Type 0} {g : _} (told : DiskTold) (shown : D → DiskShown)
    (store : StoreTold) (a : Point D g) (es : List Exchange) (b : Point D g)
    → Talks told shown store a es b → List Id16
talk_names told shown store a [] b talk = []
talk_names told shown store a (e ∷ es) b talk =
    talk.1.asks.calls.ids ++ talk_names told shown store talk.0 es b talk.2

-- the told names after it are those of before and then these
abbrev pub TalksDraw : {D : Type 0} {g : _} → DiskTold → (D → DiskShown) → StoreTold
    → Client D g → Type 0
TalksDraw told shown store client =
    (a b : Point _ _) (es : List Exchange) (talk : Talks told shown store a es b)
    → a.client ≡ client
    → AddsNames a.names.drawn b.names.drawn (talk_names told shown store a es b talk)
