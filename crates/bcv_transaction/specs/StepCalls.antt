-- What a step that reads or holds a page answers and does, whatever the store.
use Rattle.std.specs.Prelude.{◌≡◌, ◌≤◌, ℕ, List, ◌++◌, Option, Some, None, Result, Ok, Err}
use Rattle.bcv_base.specs.declared.id.Id16.{Id16}
use Rattle.bcv_base.specs.declared.log.Entry.{Entry as LogEntry}
use Rattle.bcv_base.specs.Faults.{Rose}
use Rattle.bcv_machine.specs.State.{Access, ToHold, ToRead}
use Rattle.bcv_pages.specs.Held.{Held}
use Rattle.bcv_publish.specs.Request.{MayTakeOutcome, TakesOutcome}
use Rattle.bcv_snapshot.specs.declared.fetched.Fetched.{Fetched}
use Rattle.bcv_snapshot.specs.declared.fetched.Fetched.TheVariants as fetched
use Rattle.bcv_snapshot.specs.BlockFetch.{BlockGets}
use Rattle.bcv_store.specs.Plans.{AreOthers}
use Rattle.bcv_store.specs.StoreShown.{StoreShown, StoreTold}
use Rattle.bcv_transaction.specs.declared.answers.Came.{Came}
use Rattle.bcv_transaction.specs.declared.answers.Came.TheVariants as came
use Rattle.bcv_transaction.specs.declared.answers.Stepped.{Stepped}
use Rattle.bcv_transaction.specs.declared.answers.Stepped.TheVariants as stepped
use Rattle.bcv_transaction.specs.ListCalls.{HoldsIn, ReadsIn}
use Rattle.bcv_transaction.specs.Open.{Open}
use Rattle.bcv_transaction.specs.OpenCalls.{CallsIn}

-- ---- answers

-- the step answers what came without a request
abbrev pub ComesAs : Came → Stepped → Type 0
ComesAs (came.Page bytes) r = r ≡ stepped.Page bytes
ComesAs came.Held r = r ≡ stepped.Held
ComesAs (came.Absent id) r = ⊥
ComesAs came.CacheFull r = r ≡ stepped.CacheFull
ComesAs came.BadPage r = r ≡ stepped.BadPage
ComesAs came.NoTxn r = r ≡ stepped.NoTxn
ComesAs came.NoMemory r = r ≡ stepped.NoMemory

-- the id of a block that is wanted, or the step's answer
abbrev pub Wants : Came → Result Id16 Stepped → Type 0
Wants c (Ok id) = c ≡ came.Absent id
Wants c (Err r) = ComesAs c r

-- what comes of a page whose block is in the cache
abbrev pub IsAgain : Came → Type 0
IsAgain (came.Page bytes) = Unit {0}
IsAgain came.Held = Unit {0}
IsAgain came.NoMemory = Unit {0}
IsAgain (came.Absent id) = ⊥
IsAgain came.CacheFull = ⊥
IsAgain came.BadPage = ⊥
IsAgain came.NoTxn = ⊥

-- what the step answers where a fetch does not bring the block in
abbrev pub kept_out : Fetched → Option Stepped
kept_out (fetched.In slot) = None
kept_out fetched.CacheFull = Some stepped.CacheFull
kept_out fetched.Gone = Some stepped.Gone
kept_out (fetched.BadBlock len) = Some (stepped.BadBlock len)
kept_out fetched.StoreFault = Some stepped.StoreFault
kept_out fetched.NoMemory = Some stepped.NoMemory

-- ---- the calls that it makes

-- a page is read, or its block is held
abbrev pub PageCalls : Access → Held → Open → ℕ → ℕ → Came → Open → Type 0
PageCalls ToRead pages o n p r new = CallsIn o new (r ≡ came.NoTxn) (λ c d. ReadsIn pages c o.txns n p r d) × (new.txns ≡ o.txns)
PageCalls ToHold pages o n p r new = CallsIn o new (r ≡ came.NoTxn) (λ c d. HoldsIn pages c o.txns n p r new.txns d)

-- one get of a block into the cache
abbrev pub Brings : StoreTold → StoreShown → StoreShown → Id16 → Open → Fetched → Open → Type 0
Brings store old new id o r got = CallsIn o got ⊥ (λ c d. BlockGets store old new id c r d) × (got.txns ≡ o.txns)

-- the block is in the cache, and the page comes; or what kept the block out is answered
abbrev pub GoesAfter : Access → Held → ℕ → ℕ → Fetched → Open → Stepped → Open → Type 0
GoesAfter access pages n p (fetched.In slot) got r new = (c : Came) × PageCalls access pages got n p c new × IsAgain c × ComesAs c r
GoesAfter access pages n p f got r new = (kept_out f ≡ Some r) × (new ≡ got)

-- a block that is not in the cache is got, where it can come in; else there is no request
abbrev pub GoesOn : Access → Held → StoreTold → StoreShown → StoreShown → ℕ → ℕ → Came → Open → Stepped → Open → Type 0
GoesOn access pages store old new n p (came.Absent id) o r last =
    (f : Fetched) × (got : Open) × Brings store old new id o f got × GoesAfter access pages n p f got r last
GoesOn access pages store old new n p c o r last = ComesAs c r × (last ≡ o) × (new ≡ old)

-- the whole step: the page is asked for, and it goes on from there
abbrev pub Steps : Access → Held → StoreTold → StoreShown → StoreShown → Open → ℕ → ℕ → Stepped → Open → Type 0
Steps access pages store old new o n p r last =
    (c : Came) × (asked : Open) × PageCalls access pages o n p c asked × GoesOn access pages store old new n p c asked r last

-- ---- what it says of the store

-- by the answer: a request was made, or none, or there may have been one
abbrev pub StepTakes : StoreTold → StoreShown → StoreShown → Stepped → Type 0
StepTakes store old new (stepped.Page bytes) = MayTakeOutcome store old new
StepTakes store old new stepped.Held = MayTakeOutcome store old new
StepTakes store old new stepped.CacheFull = new ≡ old
StepTakes store old new stepped.BadPage = new ≡ old
StepTakes store old new stepped.NoTxn = new ≡ old
StepTakes store old new stepped.Gone = TakesOutcome store old new
StepTakes store old new (stepped.BadBlock len) = TakesOutcome store old new
StepTakes store old new stepped.StoreFault = TakesOutcome store old new
StepTakes store old new stepped.NoMemory = MayTakeOutcome store old new

-- others alone may have appended entries
pub record OthersGrow (store : StoreTold) (old new : StoreShown) : Type 0 where
  pub others : List LogEntry
  pub by_others : AreOthers store.alone others
  pub grown : new.log ≡ old.log ++ others

-- the request that was taken, the count of faults and its cause, and what the log has then where the store tells it
pub record StepSays (store : StoreTold) (old new : StoreShown) (r : Stepped) : Type 0 where
  pub taken : StepTakes store old new r
  pub later : old.faults ≤ new.faults
  pub failed : r ≡ stepped.StoreFault → Rose old.faults new.faults
  pub told : store.tells → OthersGrow store old new
