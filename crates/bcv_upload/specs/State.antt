-- What an upload keeps.
use Rattle.std.specs.Prelude.{◌≡◌, ◌≤◌, ◌<◌, ℕ, ◌+◌, ◌-◌, ◌*◌, ◌^◌, ◌==◌, ◌&&◌, Bool, true, false, List, [], ◌∷◌, ◌++◌, length, map, Option, Some, None, is_some, unwrap_or, slice_get, IfSome, if◌then◌else◌}
use Rattle.std.specs.List.{AllByRecursion, list_any, range_with_len}
use Rattle.bcv_base.specs.declared.id.Id16.{Id16}
use Rattle.bcv_base.specs.declared.manifest.DbEntry.{DbEntry}
use Rattle.bcv_base.specs.declared.seen.Latest.{Latest}
use Rattle.bcv_base.specs.declared.seen.TxnBase.{TxnBase}
use Rattle.bcv_base.specs.Ids.{IsId}
use Rattle.bcv_base.specs.Image.{Writes}
use Rattle.bcv_base.specs.ManifestRules.{MeetsRules, MeetsLimits, MeetsEntryRules, is_block_size, blocks_needed}
use Rattle.bcv_base.specs.SizeLimits.{most_blocks}
use Rattle.bcv_base.specs.Views.{view_size}
use Rattle.bcv_dbmap.specs.declared.plan.EditPlan.{EditPlan}
use Rattle.bcv_dbmap.specs.declared.plan.EditPlan.TheVariants as edit
use Rattle.bcv_dbmap.specs.Checked.{checked, zero_id}
use Rattle.bcv_pages.specs.Held.{Held, CanView, view_of}
use Rattle.bcv_publish.specs.State.{new_publish}
use Rattle.bcv_publish.specs.State as publish
use Rattle.bcv_upload.specs.BlockText.{IsViewOf}

-- an upload: the base of its view; the view's size, in pages; the blocks that hold a local page, ascending; the ids
-- under which the first of them were put; the old bytes of the next one, where a get brought them; its publication; and
-- whether the edit was published
pub record State : Type 0 where
  pub base : TxnBase
  pub size : ℕ
  pub touched : List ℕ
  pub ids : List Id16
  pub fetched : Option (List ℕ)
  pub publish : publish.State
  pub published : Bool

abbrev pub new_upload : TxnBase → ℕ → List ℕ → Id16 → Id16 → State
new_upload base size touched writer id =
    record {
      base = base;
      size = size;
      touched = touched;
      ids = [];
      fetched = None;
      publish = new_publish writer id;
      published = false;
    }

-- ---- the edit

-- the id of a block among those of a base, and zeros for a block that the base has not
abbrev pub id_at : List Id16 → ℕ → Id16
id_at blocks n = unwrap_or (slice_get blocks n) zero_id

abbrev pub base_id : TxnBase → ℕ → Id16
base_id base n = id_at base.entry.blocks n

-- the block is one of these
abbrev pub is_among : ℕ → List ℕ → Bool
is_among n ns = list_any (λ k. k == n) ns

-- the id that a block keeps, and zeros for a block that is to be put
abbrev pub kept_id : List Id16 → List ℕ → ℕ → Id16
kept_id blocks touched n = if is_among n touched then zero_id else id_at blocks n

-- the id under which a block was put, where it was
abbrev pub put_id : List Id16 → List ℕ → ℕ → Option Id16
put_id [] ks n = None
put_id (i ∷ is) [] n = None
put_id (i ∷ is) (k ∷ ks) n = if k == n then Some i else put_id is ks n

-- the id of a block, where these were put
abbrev pub block_id : List Id16 → List ℕ → List Id16 → ℕ → Id16
block_id blocks touched ids n = unwrap_or (put_id ids touched n) (kept_id blocks touched n)

-- the ids of so many blocks, where these were put
abbrev pub ids_with : List Id16 → List ℕ → List Id16 → ℕ → List Id16
ids_with blocks touched ids count = map (block_id blocks touched ids) (range_with_len 0 count)

-- how many blocks the view's size needs
abbrev pub needed : TxnBase → ℕ → ℕ
needed base size = blocks_needed base.block base.entry.page_size size

-- the entry of the view, where these ids were put
abbrev pub entry_with : TxnBase → ℕ → List ℕ → List Id16 → Id16 → DbEntry
entry_with base size touched ids id =
    record base.entry { tag = id; pages = size; blocks = ids_with base.entry.blocks touched ids (needed base size) }

abbrev pub plan_with : State → List Id16 → EditPlan
plan_with s ids = edit.Upload s.base.entry.tag (entry_with s.base s.size s.touched ids s.publish.id)

-- what a get asks for: zeros stand for all blocks that the upload puts
abbrev pub asked_plan : State → EditPlan
asked_plan s = plan_with s []

-- the edit, with the ids of the blocks that were put so far
abbrev pub plan_of : State → EditPlan
plan_of s = plan_with s s.ids

-- ---- the next block

-- the number of the block that is put next
abbrev pub next_block : State → ℕ
next_block s = unwrap_or (slice_get s.touched (length s.ids)) 0

-- its id in the base
abbrev pub old_id : State → Id16
old_id s = base_id s.base (next_block s)

-- with the old bytes of the next block
abbrev pub with_fetched : State → List ℕ → State
with_fetched s bytes = record s { fetched = Some bytes }

-- with one more block
abbrev pub with_block : State → Id16 → State
with_block s i = record s { ids = s.ids ++ i ∷ []; fetched = None }

-- ---- the requests that are left

-- the manifest's get and put, or the put alone
abbrev pub manifest_requests : Option Latest → ℕ
manifest_requests None = 2
manifest_requests (Some l) = 1

-- a get and a put for each block that was not put, but for the get that was made
abbrev pub block_requests : State → ℕ
block_requests s = 2 * (length s.touched - length s.ids) - (if is_some s.fetched then 1 else 0)

-- after a publication there is none
abbrev pub left_of : State → ℕ
left_of s = if s.published then 0 else block_requests s + manifest_requests s.publish.latest

-- a manifest is kept and all blocks were put
abbrev pub is_ready : State → Bool
is_ready s = is_some s.publish.latest && left_of s == 1

-- ---- what holds of every upload

-- the base of an upload: an entry that meets the rules for the block size
pub record IsBase (base : TxnBase) : Type 0 where
  pub block : is_block_size base.block ≡ true
  pub entry : MeetsEntryRules base.block base.entry

-- a manifest that was read is of the base's block size, and the edit passed over it
pub record Passed (s : State) (l : Latest) : Type 0 where
  pub block : l.manifest.block ≡ s.base.block
  pub rules : MeetsRules l.manifest
  pub limits : MeetsLimits l.manifest
  pub passes : checked l.manifest (asked_plan s) s.publish.writer ≡ None

-- the old bytes that a get brought are those of a block that was not put
pub record IsFetched (s : State) (bytes : List ℕ) : Type 0 where
  pub whole : length bytes ≡ s.base.block
  pub more : length s.ids < length s.touched

pub record IsTask (s : State) : Type 0 where
  pub base : IsBase s.base
  pub small : s.size < 2 ^ 32
  pub few : needed s.base s.size ≤ most_blocks
  pub view : List Writes
  pub of_view : IsViewOf s.base view s.size s.touched
  pub id : IsId s.publish.id
  pub ids : AllByRecursion IsId s.ids
  pub most : length s.ids ≤ length s.touched
  pub fetched : IfSome s.fetched (IsFetched s)
  pub read : s.published ≡ false → IfSome s.publish.latest (Passed s)

-- what a caller keeps of an upload from call to call: it is one, it was not published, and fewer than eight puts were
-- refused
pub record IsRunning (s : State) : Type 0 where
  pub task : IsTask s
  pub waits : s.published ≡ false
  pub few : length s.publish.refused < 8

-- ---- the pages that a caller hands in

-- the view of an upload, in the set that holds its commits
abbrev pub view_in : Held → TxnBase → List Writes
view_in h base = view_of h base.from base.to

-- its size, in pages
abbrev pub size_in : Held → TxnBase → ℕ
size_in h base = view_size base.entry.pages (view_in h base)

-- the set holds the upload's view: its commits have the base's page size, its size, and local pages in the same blocks
pub record HoldsView (h : Held) (s : State) : Type 0 where
  pub can : CanView h s.base.from s.base.to
  pub page_size : h.page_size ≡ s.base.entry.page_size
  pub of_view : IsViewOf s.base (view_in h s.base) s.size s.touched
