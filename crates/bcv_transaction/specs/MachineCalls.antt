-- The calls in the machine's words, over a log that the open transactions fit.
use Rattle.std.specs.Prelude.{◌≡◌, ℕ, Bool, true, false, not, List, map, filter, Some, None, IfSome}
use Rattle.std.specs.List.{AllByRecursion}
use Rattle.bcv_base.specs.declared.seen.TxnBase.{TxnBase}
use Rattle.bcv_base.specs.History.{Item}
use Rattle.bcv_base.specs.Image.{zeros}
use Rattle.bcv_cache.specs.Entry.{Blocks}
use Rattle.bcv_clientstate.specs.Fits.{FitsEntry, FitsTxn}
use Rattle.bcv_clientstate.specs.Parts as parts
use Rattle.bcv_clientstate.specs.SeenClient.{seen_txn}
use Rattle.bcv_clientstate.specs.SeenContainer.{HasBase, container_of}
use Rattle.bcv_dbmap.specs.Sound.{Sound}
use Rattle.bcv_machine.specs.Reading.{Begins, Ends, Fetches, Frees, Looks, is_job_of}
use Rattle.bcv_machine.specs.Refusals.{page_refusal}
use Rattle.bcv_machine.specs.State.{Access, Side, Task, Txn, Up, is_at_hand, txn_at as machine_txn, view_of, with_up}
use Rattle.bcv_model.specs.declared.reply.Reply.TheVariants as reply
use Rattle.bcv_pages.specs.Held.{Held}
use Rattle.bcv_snapshot.specs.declared.look.Look.{Look}
use Rattle.bcv_snapshot.specs.declared.look.Look.TheVariants as look
use Rattle.bcv_transaction.specs.declared.answers.Begun.{Begun}
use Rattle.bcv_transaction.specs.declared.answers.Begun.TheVariants as begun
use Rattle.bcv_transaction.specs.declared.answers.Came.{Came}
use Rattle.bcv_transaction.specs.declared.answers.Came.TheVariants as came
use Rattle.bcv_transaction.specs.declared.answers.Freed.{Freed}
use Rattle.bcv_transaction.specs.declared.answers.Freed.TheVariants as freed
use Rattle.bcv_transaction.specs.declared.open_txn.OpenTxn.{OpenTxn}
use Rattle.bcv_transaction.specs.Open.{Open, base_view, txn_at, view_in}

-- ---- what the transactions stand for

-- a transaction with the commits of its view, which are in the set of its number
abbrev pub open_part : (ℕ → Held) → OpenTxn → parts.OpenTxn
open_part sets t = record { number = t.number; txn = t.txn; view = view_in (sets t.set) t }

-- each with the commits of its view
abbrev pub open_parts : (ℕ → Held) → List OpenTxn → List parts.OpenTxn
open_parts sets ts = map (open_part sets) ts

abbrev pub seen_txns : List Item → (ℕ → Held) → List OpenTxn → List Txn
seen_txns past sets ts = map (λ (t : OpenTxn). seen_txn past (open_part sets t)) ts

-- the set that is handed in is that of the transaction of a number
abbrev pub IsSetOf : Held → (ℕ → Held) → ℕ → List OpenTxn → Type 0
IsSetOf pages sets n ts = IfSome (txn_at n ts) (λ (t : OpenTxn). sets t.set ≡ pages)

-- the transactions fit a log, and each cached block has the bytes first put under its id
pub record AreFit (past : List Item) (sets : ℕ → Held) (o : Open) : Type 0 where
  pub txns : AllByRecursion (λ (t : OpenTxn). FitsTxn past (open_part sets t)) o.txns
  pub cached : IfSome o.cache (λ (c : Blocks). AllByRecursion (FitsEntry past) c.entries)

-- the machine's client has these transactions over a sound log that they fit, and the block size and the slots are those of
-- the cache
pub record StandsFor (past : List Item) (sets : ℕ → Held) (o : Open) (s : Side) (u : Up) : Type 0 where
  pub sound : Sound past
  pub fit : AreFit past sets o
  pub txns : u.txns ≡ seen_txns past sets o.txns
  pub block : IfSome o.cache (λ (c : Blocks). s.container.block ≡ c.block)
  pub slots : s.client.slots ≡ o.slots

-- what all clients share is so in this log
abbrev pub HasContainer : List Item → Side → Type 0
HasContainer past s = s.container ≡ container_of s.container.moment past

-- the side with these transactions
abbrev pub side_with : List Item → (ℕ → Held) → Side → Up → List OpenTxn → Side
side_with past sets s u ts = with_up s (record u { txns = seen_txns past sets ts })

-- ---- read and hold

-- a page that is not at hand wants a task: the call is not refused, and nothing has changed
pub record WantsTask (s : Side) (u : Up) (n p : ℕ) (t : Side) : Type 0 where
  pub passes : page_refusal u n p ≡ None
  pub txn : Txn
  pub is_open : machine_txn u n ≡ Some txn
  pub away : is_at_hand s.container txn p ≡ false
  pub same : t ≡ with_up s u

-- what a read or a hold comes to
abbrev pub Comes : Access → Side → Up → ℕ → ℕ → Came → Side → Type 0
Comes access s u n p (came.Page bytes) t = Fetches access s u n p (reply.Page bytes.items) t
Comes access s u n p came.Held t = Fetches access s u n p reply.Held t
Comes access s u n p (came.Absent id) t = WantsTask s u n p t
Comes access s u n p came.CacheFull t = Fetches access s u n p reply.CacheFull t
Comes access s u n p came.BadPage t = Fetches access s u n p reply.BadPage t
Comes access s u n p came.NoTxn t = Fetches access s u n p reply.NoTxn t
Comes access s u n p came.NoMemory t = t ≡ with_up s u

-- ---- look, free and end

-- what a look shows; zeros are a page of the transaction's page size
abbrev pub LooksAs : Side → Up → ℕ → ℕ → Look → Side → Type 0
LooksAs s u n p (look.Page bytes) t = Looks s u n p (reply.Page bytes.now) t
LooksAs s u n p look.Zeros t = (x : Txn) × (machine_txn u n ≡ Some x) × Looks s u n p (reply.Page (zeros x.page_size)) t
LooksAs s u n p look.BadPage t = Looks s u n p reply.BadPage t
LooksAs s u n p look.NoTxn t = Looks s u n p reply.NoTxn t
LooksAs s u n p look.NotHeld t = Looks s u n p reply.NotHeld t

-- what a free comes to
abbrev pub FreesAs : Side → Up → ℕ → ℕ → Freed → Side → Type 0
FreesAs s u n p freed.Fine t = Frees s u n p reply.Fine t
FreesAs s u n p freed.NoTxn t = Frees s u n p reply.NoTxn t
FreesAs s u n p freed.BadPage t = Frees s u n p reply.BadPage t
FreesAs s u n p freed.NotHeld t = Frees s u n p reply.NotHeld t

-- the side without the transaction of a number and its tasks
abbrev pub side_ended : List Item → (ℕ → Held) → Side → Up → ℕ → List OpenTxn → Side
side_ended past sets s u n ts =
    with_up s (record u { txns = seen_txns past sets ts; tasks = filter (λ (t : Task). not (is_job_of n t.job)) u.tasks })

-- what an end comes to, by whether the transaction was open
abbrev pub EndsAs : List Item → (ℕ → Held) → Side → Up → ℕ → Bool → List OpenTxn → Type 0
EndsAs past sets s u n true ts = Ends s u n reply.Fine (side_ended past sets s u n ts)
EndsAs past sets s u n false ts = Ends s u n reply.NoTxn (side_with past sets s u ts)

-- ---- begin

-- what a begin comes to, over the base of a view of a known database
abbrev pub BeginsAs : Side → Up → List ℕ → Begun → Side → Type 0
BeginsAs s u db (begun.Number n) t = Begins s u db (reply.Txn n) t
BeginsAs s u db begun.TooMany t = Begins s u db reply.TooMany t
BeginsAs s u db begun.NoMemory t = t ≡ with_up s u

-- the base of a begin is that of a known database's view, in its version
pub record IsKnownBase (past : List Item) (s : Side) (u : Up) (base : TxnBase) (pages : Held) : Type 0 where
  pub container : HasContainer past s
  pub base_is : HasBase past base.number base.block base.entry
  pub view : view_of s.client.kept u base.entry.name ≡ Some (record { base = base.number; commits = base_view pages base })
