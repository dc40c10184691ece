-- What the private parts of an upload promise.
use Rattle.std.specs.Prelude.{◌≡◌, ◌≢◌, ◌≤◌, ◌<◌, ℕ, true, false, List, length, Result, Ok, Err, Option, slice_set}
use Rattle.std.specs.Global.{Vec}
use Rattle.std.specs.declared.alloc.AllocError.{AllocError}
use Rattle.bcv_base.specs.declared.id.Id16.{Id16}
use Rattle.bcv_base.specs.declared.seen.TxnBase.{TxnBase}
use Rattle.bcv_base.specs.Drawn.{NamesShown}
use Rattle.bcv_base.specs.Faults.{Rose}
use Rattle.bcv_base.specs.Image.{Writes}
use Rattle.bcv_cache.specs.Entry as cache
use Rattle.bcv_dbmap.specs.declared.plan.EditPlan.{EditPlan}
use Rattle.bcv_dbmap.specs.declared.plan.EditPlan.TheVariants as edit
use Rattle.bcv_publish.specs.declared.work.BlockEnd.{BlockEnd}
use Rattle.bcv_publish.specs.declared.work.Work.{Work}
use Rattle.bcv_publish.specs.declared.work.Work.TheVariants as work
use Rattle.bcv_publish.specs.BlockPut.{BlockPuts, block_work}
use Rattle.bcv_publish.specs.Request.{TakesOutcome}
use Rattle.bcv_store.specs.declared.store.Got.{Got}
use Rattle.bcv_store.specs.declared.store.Got.TheVariants as got
use Rattle.bcv_store.specs.StoreShown.{StoreTold, StoreShown}
use Rattle.bcv_upload.specs.declared.next_text.NextText.{NextText}
use Rattle.bcv_upload.specs.declared.next_text.NextText.TheVariants as next
use Rattle.bcv_upload.specs.State.{State, IsTask, asked_plan, base_id, plan_of}
use Rattle.bcv_upload.specs.UploadWork.{FetchTold, asks_store, text_of}

-- ---- the plans that are kept

-- the edit with another id for a block
abbrev pub listed_at : EditPlan → ℕ → Id16 → EditPlan
listed_at (edit.Upload from e) n i = edit.Upload from (record e { blocks = slice_set e.blocks n i })
listed_at p n i = p

-- the edit lists a block of this number
abbrev pub HasPlace : EditPlan → ℕ → Type 0
HasPlace (edit.Upload from e) n = n < length e.blocks
HasPlace p n = ⊥

-- the plans that an upload keeps are those that a get and the put ask for
pub record IsUpload (s : State) (asked plan : EditPlan) : Type 0 where
  pub task : IsTask s
  pub asked_is : asked ≡ asked_plan s
  pub plan_is : plan ≡ plan_of s

-- ---- the next block

-- what there is of a block before its request: its bytes, or the id of old bytes that have to be fetched
abbrev pub IsNext : TxnBase → List Writes → ℕ → Option (List ℕ) → List cache.Entry → NextText → Type 0
IsNext base view n fetched es (next.Made bytes) =
    (asks_store base view n fetched es ≡ false)
    × (bytes.items ≡ text_of base view n fetched es) × (length bytes.items ≡ base.block)
IsNext base view n fetched es (next.Missing i) = (asks_store base view n fetched es ≡ true) × (i ≡ base_id base n)
IsNext base view n fetched es next.NoMemory = asks_store base view n fetched es ≡ false

abbrev pub made_text : Result (Vec ℕ) AllocError → NextText
made_text (Ok bytes) = next.Made bytes
made_text (Err e) = next.NoMemory

-- ---- the requests

-- what is made of the store's answer to the get of a block
abbrev pub FetchAnswered : Got → List ℕ → ℕ → Result (Vec ℕ) Work → Type 0
FetchAnswered (got.Found etag) bytes block (Ok kept) = (kept.items ≡ bytes) × (length bytes ≡ block)
FetchAnswered (got.Found etag) bytes block (Err result) = (result ≡ work.BadBlock (length bytes)) × (length bytes ≢ block)
FetchAnswered got.Same bytes block result = ⊥
FetchAnswered got.Missing bytes block result = result ≡ Err work.Gone
FetchAnswered (got.TooLong len) bytes block result = result ≡ Err (work.BadBlock len)
FetchAnswered got.Failed bytes block result = result ≡ Err work.StoreFault
FetchAnswered got.NoMemory bytes block result = result ≡ Err work.NoMemory

-- what the get of a block says of the store, and its causes
pub record BlockGets (store : StoreTold) (old new : StoreShown) (id : Id16) (block : ℕ) (result : Work)
    (kept : Option (List ℕ)) : Type 0 where
  pub told : store.tells → FetchTold store old new id block result kept
  pub taken : TakesOutcome store old new
  pub later : old.faults ≤ new.faults
  pub failed : result ≡ work.StoreFault → Rose old.faults new.faults

-- the put of a block says all that it says of its end, which is the answer
abbrev pub PutsNext : StoreTold → StoreShown → StoreShown → NamesShown → NamesShown → List ℕ → List Id16 → Work
    → List Id16 → Type 0
PutsNext store old new names later_names bytes ids result ids_new =
    (end : BlockEnd) × (result ≡ block_work end) × BlockPuts store old new names later_names bytes ids end ids_new
