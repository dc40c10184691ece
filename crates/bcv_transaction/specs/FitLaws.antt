-- What ties the open transactions and the cached entries to a log stays under each call, and under whatever is appended.
use Rattle.std.specs.Prelude.{◌≡◌, ◌≤◌, ℕ, Bool, true, false, List, ◌++◌, map, Some, None, IfSome, Result}
use Rattle.std.specs.declared.alloc.AllocError.{AllocError}
use Rattle.std.specs.List.{AllByRecursion, list_all}
use Rattle.bcv_base.specs.declared.log.Entry.{Entry as LogEntry}
use Rattle.bcv_base.specs.declared.seen.TxnBase.{TxnBase}
use Rattle.bcv_base.specs.History.{Item, history_of}
use Rattle.bcv_base.specs.Views.{is_commit}
use Rattle.bcv_cache.specs.Entry.{Blocks}
use Rattle.bcv_clientstate.specs.Fits.{FitsTxn}
use Rattle.bcv_clientstate.specs.SeenClient.{seen_txn}
use Rattle.bcv_clientstate.specs.SeenContainer.{HasBase}
use Rattle.bcv_dbmap.specs.Sound.{IsSoundLog}
use Rattle.bcv_machine.specs.State.{Access}
use Rattle.bcv_pages.specs.Held.{Held, KeepsView}
use Rattle.bcv_store.specs.StoreShown.{StoreShown}
use Rattle.bcv_transaction.specs.declared.answers.Begun.{Begun}
use Rattle.bcv_transaction.specs.declared.answers.Came.{Came}
use Rattle.bcv_transaction.specs.declared.answers.Freed.{Freed}
use Rattle.bcv_transaction.specs.declared.answers.Freed.TheVariants as freed
use Rattle.bcv_transaction.specs.declared.open_txn.OpenTxn.{OpenTxn}
use Rattle.bcv_transaction.specs.ListCalls.{EndsIn, FreesIn}
use Rattle.bcv_transaction.specs.MachineCalls.{AreFit, open_part, open_parts, seen_txns}
use Rattle.bcv_transaction.specs.Open.{AreOpen, CanRead, Open, base_view, oldest_in}
use Rattle.bcv_transaction.specs.OpenCalls.{Begins, CallsIn, OpensCache}
use Rattle.bcv_transaction.specs.StepCalls.{PageCalls}
use Rattle.bcv_upload.specs.UploadWork.{AreFirstPuts}

-- a transaction may begin over the base: it is a version's, and the commits of its view are commits of its page size
pub record FitsBase (past : List Item) (base : TxnBase) (pages : Held) : Type 0 where
  pub base_is : HasBase past base.number base.block base.entry
  pub commits : list_all (is_commit base.entry.page_size) (base_view pages base) ≡ true

-- each call over a log leaves them fit
pub record CallsLeaveFit : Type 0 where
  pub makes : (past : List Item) (sets : ℕ → Held) (o n : Open) (block : ℕ) (r : Result (Unit {0}) AllocError)
      → AreFit past sets o → OpensCache o block r n → AreFit past sets n
  pub begins : (past : List Item) (sets : ℕ → Held) (o n : Open) (base : TxnBase) (set : ℕ) (pages : Held) (r : Begun)
      → AreFit past sets o → AreOpen n → sets set ≡ pages → FitsBase past base pages
      → Begins o base set pages r n → AreFit past sets n
  pub comes : (past : List Item) (sets : ℕ → Held) (access : Access) (pages : Held) (o n : Open) (number p : ℕ) (r : Came) → AreFit past sets o → AreOpen o → AreOpen n → PageCalls access pages o number p r n
      → AreFit past sets n
  pub frees : (past : List Item) (sets : ℕ → Held) (o n : Open) (number p : ℕ) (r : Freed) → AreFit past sets o
      → AreOpen o → AreOpen n
      → CallsIn o n (r ≡ freed.NoTxn) (λ c d. FreesIn c o.txns number p r n.txns d) → AreFit past sets n
  pub ends : (past : List Item) (sets : ℕ → Held) (o n : Open) (number : ℕ) (r : Bool) → AreFit past sets o
      → CallsIn o n (r ≡ false) (λ c d. EndsIn c o.txns number r n.txns d) → AreFit past sets n

-- what fits a log fits it with what others appended, after a call
abbrev pub LeavesFit : StoreShown → StoreShown → Open → Open → Type 0
LeavesFit old new o n = (sets : ℕ → Held) → AreFit (history_of old.log) sets o → AreFit (history_of new.log) sets n

-- whatever is appended to the log leaves them fit, and the machine's transactions as they were
pub record GrowthLeavesFit : Type 0 where
  pub fit : (log more : List LogEntry) (sets : ℕ → Held) (o : Open) → AreFit (history_of log) sets o
      → AreFit (history_of (log ++ more)) sets o
  pub seen : (log more : List LogEntry) (sets : ℕ → Held) (o : Open) → IsSoundLog log → AreFit (history_of log) sets o
      → seen_txns (history_of (log ++ more)) sets o.txns ≡ seen_txns (history_of log) sets o.txns

-- sets that keep the views of the transactions leave them fit, and the machine's transactions as they were
abbrev pub KeepsTxnView : (ℕ → Held) → (ℕ → Held) → OpenTxn → Type 0
KeepsTxnView old new t = CanRead (old t.set) t × KeepsView (old t.set) (new t.set) t.txn.base.from t.txn.base.to

pub record ViewsLeaveFit : Type 0 where
  pub fit : (past : List Item) (old new : ℕ → Held) (o : Open) → AllByRecursion (KeepsTxnView old new) o.txns
      → AreFit past old o → AreFit past new o
  pub seen : (past : List Item) (old new : ℕ → Held) (o : Open) → AllByRecursion (KeepsTxnView old new) o.txns
      → seen_txns past new o.txns ≡ seen_txns past old o.txns

-- each cached block has the bytes first put under its id, as an upload asks for
abbrev pub CachedAreFirst : Type 0
CachedAreFirst = (past : List Item) (sets : ℕ → Held) (o : Open) → AreFit past sets o
    → IfSome o.cache (λ (c : Blocks). AreFirstPuts past c.entries)

-- as parts of a client they are seen as the machine's transactions, and fit a log where the client's do
pub record PartsAreSeen : Type 0 where
  pub seen : (past : List Item) (sets : ℕ → Held) (ts : List OpenTxn)
      → map (seen_txn past) (open_parts sets ts) ≡ seen_txns past sets ts
  pub fit : (past : List Item) (sets : ℕ → Held) (ts : List OpenTxn)
      → AllByRecursion (FitsTxn past) (open_parts sets ts)
      → AllByRecursion (λ (t : OpenTxn). FitsTxn past (open_part sets t)) ts
  pub back : (past : List Item) (sets : ℕ → Held) (ts : List OpenTxn)
      → AllByRecursion (λ (t : OpenTxn). FitsTxn past (open_part sets t)) ts
      → AllByRecursion (FitsTxn past) (open_parts sets ts)

-- the commits of no transaction over a set begin before the oldest number, and where there is none no transaction is over it
pub record OldestIsLeast : Type 0 where
  pub some : (set : ℕ) (ts : List OpenTxn) (o : ℕ) → oldest_in set ts ≡ Some o
      → AllByRecursion (λ (t : OpenTxn). t.set ≡ set → o ≤ t.txn.base.from) ts
  pub none : (set : ℕ) (ts : List OpenTxn) → oldest_in set ts ≡ None
      → AllByRecursion (λ (t : OpenTxn). t.set ≡ set → ⊥) ts
