-- A step that reads or holds a page in the machine's words, over a sound log.
use Rattle.std.specs.Prelude.{◌≡◌, ℕ, Bool, true, false, List, [], None}
use Rattle.bcv_base.specs.declared.id.Id16.{Id16}
use Rattle.bcv_base.specs.declared.outcome.Outcome.{Outcome}
use Rattle.bcv_base.specs.History.{Item, history_of}
use Rattle.bcv_dbmap.specs.RequestGrowth.{RequestGrowth}
use Rattle.bcv_machine.specs.Reading.{FetchStepsOf}
use Rattle.bcv_machine.specs.Refusals.{page_refusal}
use Rattle.bcv_machine.specs.State.{Access, Side, Up, txn_at as machine_txn, with_up}
use Rattle.bcv_model.specs.declared.reply.Reply.TheVariants as reply
use Rattle.bcv_pages.specs.Held.{Held}
use Rattle.bcv_publish.specs.Request.{TakesOutcome}
use Rattle.bcv_store.specs.Plans.{next_of}
use Rattle.bcv_store.specs.StoreShown.{StoreShown, StoreTold}
use Rattle.bcv_transaction.specs.declared.answers.Stepped.{Stepped}
use Rattle.bcv_transaction.specs.declared.answers.Stepped.TheVariants as stepped
use Rattle.bcv_transaction.specs.MachineCalls.{HasContainer, IsSetOf, StandsFor, side_with}
use Rattle.bcv_transaction.specs.Open.{Open}

-- the machine's step of the task, under an outcome of the store; where memory ran out nothing has changed
abbrev pub StepsAs : Access → Side → Up → ℕ → ℕ → Outcome → Stepped → Side → Type 0
StepsAs access s u n p o (stepped.Page bytes) t = FetchStepsOf access s u (machine_txn u n) p o (reply.Page bytes.items) t
StepsAs access s u n p o stepped.Held t = FetchStepsOf access s u (machine_txn u n) p o reply.Held t
StepsAs access s u n p o stepped.CacheFull t = FetchStepsOf access s u (machine_txn u n) p o reply.CacheFull t
StepsAs access s u n p o stepped.BadPage t = ⊥
StepsAs access s u n p o stepped.NoTxn t = ⊥
StepsAs access s u n p o stepped.Gone t = FetchStepsOf access s u (machine_txn u n) p o reply.Gone t
StepsAs access s u n p o (stepped.BadBlock len) t = ⊥
StepsAs access s u n p o stepped.StoreFault t = FetchStepsOf access s u (machine_txn u n) p o reply.StoreFault t
StepsAs access s u n p o stepped.NoMemory t = t ≡ with_up s u

-- for each side that the transactions stand for over the log with what others appended, the machine's step to the side after:
-- under the outcome of the request that was made, and under each one where none was
abbrev pub StepsSides : Access → List Item → Held → Open → ℕ → ℕ → Bool → Outcome → Stepped → Open → Type 0
StepsSides access past pages o n p made request r last =
    (sets : ℕ → Held) (s : Side) (u : Up) → StandsFor past sets o s u → HasContainer past s
    → IsSetOf pages sets n o.txns → page_refusal u n p ≡ None
    → (at : Outcome) → (made ≡ true → at ≡ request) → StepsAs access s u n p at r (side_with past sets s u last.txns)

-- a step over a sound log that others grow by lawful entries: it appends none of its own, and makes at most one request
pub record StepSound (access : Access) (store : StoreTold) (mine : List Id16) (old new : StoreShown) (pages : Held)
    (o : Open) (n p : ℕ) (r : Stepped) (last : Open) : Type 0 where
  pub growth : RequestGrowth store.alone mine old.log new.log
  pub no_own : growth.own ≡ []
  pub made : Bool
  pub unmade : made ≡ false → new ≡ old
  pub taken : made ≡ true → TakesOutcome store old new
  pub request : Outcome
  pub next : made ≡ true → store.plans → request ≡ next_of old.plan
  pub steps : StepsSides access (history_of new.log) pages o n p made request r last
