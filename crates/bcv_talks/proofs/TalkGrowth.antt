-- The growth of a log over a talk and in each of its calls.
use Rattle.std.proofs.Common.{◌≡◌, ◌∙◌, inl, inr, List, [], ◌∷◌, ◌++◌, append-nil, append_assoc, sym, ap, subst}
use Rattle.bcv_base.specs.declared.id.Id16.{Id16}
use Rattle.bcv_base.specs.declared.log.Entry.{Entry}
use Rattle.bcv_base.specs.History.{Item, history_of, item_of}
use Rattle.bcv_base.specs.HistoryLaws.{history_after-append}
use Rattle.bcv_client.specs.Talk.{Exchange, Point, Talks}
use Rattle.bcv_dbmap.specs.Honest.{AreHonest, GrewHonestly}
use Rattle.bcv_dbmap.specs.RequestGrowth.{RequestGrowth}
use Rattle.bcv_disk.specs.DiskShown.{DiskShown, DiskTold}
use Rattle.bcv_store.specs.StoreShown.{StoreTold}
use Rattle.bcv_base.specs.History as history
use Rattle.bcv_talks.specs.Runs.{RunState}
use Rattle.bcv_talks.specs.TalkGrowth.{CallsExtend, Extends, RunsExtend}
use Rattle.bcv_talks.specs.TalkRuns.{OthersAreHonest}

-- ---- logs

extends_none : (log : List Entry) → Extends log log
extends_none log = record { added = []; grown = sym (append-nil log) }

extends_twice : (a b c : List Entry) → Extends a b → Extends b c → Extends a c
extends_twice a b c first next =
    record { added = first.added ++ next.added; grown = next.grown ∙ ap (λ (l : List Entry). l ++ next.added) first.grown ∙ append_assoc a first.added next.added }

-- ---- honest others

honest_front : (mine : List Id16) (past : List Item) (es more : List Entry) → AreHonest mine past (es ++ more) → AreHonest mine past es
honest_front mine past [] more h = tt
honest_front mine past (e ∷ es) more h = (h.0, honest_front mine (item_of e ∷ past) es more h.1)

honest_rest : (mine : List Id16) (past : List Item) (es more : List Entry) → AreHonest mine past (es ++ more)
    → AreHonest mine (history.history_after past es) more
honest_rest mine past [] more h = h
honest_rest mine past (e ∷ es) more h = honest_rest mine (item_of e ∷ past) es more h.1

-- over a log that grew twice others were honest each time
module _ (alone : Type 0) (mine : List Id16) (a b c : List Entry) (first : Extends a b) (next : Extends b c) where
  whole : (more : List Entry) → c ≡ b ++ more → (added : List Entry) → b ≡ a ++ added → c ≡ a ++ (added ++ more)
  whole more later added grown = later ∙ ap (λ (l : List Entry). l ++ more) grown ∙ append_assoc a added more

  honest_first : GrewHonestly alone mine a c → GrewHonestly alone mine a b
  honest_first (inl is_alone) = inl is_alone
  honest_first (inr honest) =
      inr (λ added grown. honest_front mine (history_of a) added next.added (honest (added ++ next.added) (whole next.added next.grown added grown)))

  honest_next : GrewHonestly alone mine a c → GrewHonestly alone mine b c
  honest_next (inl is_alone) = inl is_alone
  honest_next (inr honest) =
      inr
      (λ more later.
      let rest : AreHonest mine (history.history_after (history_of a) first.added) more =
      honest_rest mine (history_of a) first.added more (honest (first.added ++ more) (whole more later first.added first.grown)) in
      subst (λ (past : List Item). AreHonest mine past more) (sym (ap history_of first.grown ∙ history_after-append [] a first.added)) rest)

-- ---- talks

module _ {D : Type 0} {g : _} (told : DiskTold) (shown : D → DiskShown) (store : StoreTold) where
  calls_extend : (a b : Point D g) (es : List Exchange) (talk : Talks told shown store a es b) → CallsExtend told shown store a es b talk
      → Extends a.store.log b.store.log
  calls_extend a b [] talk extend = subst (λ (x : Point D g). Extends a.store.log x.store.log) (sym talk) (extends_none a.store.log)
  calls_extend a b (e ∷ es) talk extend = extends_twice a.store.log talk.0.store.log b.store.log extend.0 (calls_extend talk.0 b es talk.2 extend.1)

  pub honest_in_each : (a b : Point D g) (es : List Exchange) (talk : Talks told shown store a es b) (mine : List Id16)
      → CallsExtend told shown store a es b talk → GrewHonestly store.alone mine a.store.log b.store.log
      → OthersAreHonest told shown store mine a es b talk
  honest_in_each a b [] talk mine extend grew = tt
  honest_in_each a b (e ∷ es) talk mine extend grew =
      let rest : Extends talk.0.store.log b.store.log = calls_extend talk.0 b es talk.2 extend.1 in (
        honest_first store.alone mine a.store.log talk.0.store.log b.store.log extend.0 rest grew,
        honest_in_each talk.0 b es talk.2 mine extend.1 (honest_next store.alone mine a.store.log talk.0.store.log b.store.log extend.0 rest grew),
      )

  pub honest_alone : (a b : Point D g) (es : List Exchange) (talk : Talks told shown store a es b) (mine : List Id16) → store.alone
      → OthersAreHonest told shown store mine a es b talk
  honest_alone a b [] talk mine is_alone = tt
  honest_alone a b (e ∷ es) talk mine is_alone = (inl is_alone, honest_alone talk.0 b es talk.2 mine is_alone)

-- ---- runs

request_extends : (alone : Type 0) (mine : List Id16) (before after : List Entry) → RequestGrowth alone mine before after → Extends before after
request_extends alone mine before after growth =
    record { added = growth.others ++ growth.own; grown = growth.grown ∙ append_assoc before growth.others growth.own }

pub runs_extend : (store : StoreTold) → RunsExtend store
runs_extend store mine used a b [] run = subst (λ (x : RunState). Extends a.store.log x.store.log) (sym run) (extends_none a.store.log)
runs_extend store mine used a b (e ∷ es) run =
    extends_twice a.store.log run.0.store.log b.store.log (request_extends store.alone mine a.store.log run.0.store.log run.1.growth)
    (runs_extend store mine (used ++ run.1.ids) run.0 b es run.2)
