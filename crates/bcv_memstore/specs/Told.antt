-- What a store in memory tells and shows.
use Rattle.std.specs.Prelude.{◌≡◌, ℕ, List, length}
use Rattle.bcv_base.specs.declared.outcome.Outcome.{Outcome}
use Rattle.bcv_base.specs.declared.log.Entry.{Entry}
use Rattle.bcv_base.specs.Plan.{one_more}
use Rattle.bcv_store.specs.declared.store.Put.{Put}
use Rattle.bcv_store.specs.declared.store.Put.TheVariants as put
use Rattle.bcv_store.specs.StoreShown.{StoreTold, StoreShown}
use Rattle.bcv_memstore.specs.declared.mem_store.MemStore.{MemStore}

-- it tells its log and its plan, and is alone
abbrev pub told_here : StoreTold
told_here = record { tells = Unit {0}; alone = Unit {0}; plans = Unit {0} }

-- the log: all entries so far, the oldest first
abbrev pub log_of : MemStore → List Entry
log_of store = store.history

-- the planned outcomes: those of the next requests
abbrev pub plan_of : MemStore → List Outcome
plan_of store = store.plan

-- how many requests have failed
abbrev pub faults_of : MemStore → ℕ
faults_of store = store.faults

-- all three
abbrev pub shown_by : MemStore → StoreShown
shown_by store = record { log = log_of store; plan = plan_of store; faults = faults_of store }

-- a request that fails is counted, in a count that stands still at the end of its type, and no other one is
pub record CountsFault (failed : Type 0) (before now : ℕ) : Type 0 where
  pub rises : failed → now ≡ one_more before
  pub stays : (failed → ⊥) → now ≡ before

-- the etag of what was stored is the number of the log's entries with it
abbrev pub IsNumbered : List Entry → Put → Type 0
IsNumbered log (put.Stored etag) = etag ≡ length log
IsNumbered log put.Refused = Unit {0}
IsNumbered log put.Failed = Unit {0}
IsNumbered log put.NoMemory = Unit {0}
