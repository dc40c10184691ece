-- The manifest's put of an upload, and what it publishes.
use Rattle.std.specs.Prelude.{◌≡◌, ◌<◌, ◌*◌, ℕ, Bool, true, false, List, [], ◌∷◌, ◌++◌, length, unwrap_or}
use Rattle.std.specs.List.{flat_map, list_all}
use Rattle.bcv_base.specs.declared.id.Id16.{Id16}
use Rattle.bcv_base.specs.declared.log.Entry.{Entry}
use Rattle.bcv_base.specs.declared.log.Entry.TheVariants as entry
use Rattle.bcv_base.specs.declared.object.ObjName.TheVariants as object
use Rattle.bcv_base.specs.declared.seen.Latest.{Latest}
use Rattle.bcv_base.specs.declared.seen.TxnBase.{TxnBase}
use Rattle.bcv_base.specs.Edits as edits
use Rattle.bcv_base.specs.History.{Item, history_of}
use Rattle.bcv_base.specs.Ids.{has_id}
use Rattle.bcv_base.specs.Image.{Page, Writes, page_of, view_image}
use Rattle.bcv_base.specs.Joined.{image_of}
use Rattle.bcv_base.specs.Padded.{padded}
use Rattle.bcv_base.specs.Views.{block_pages, is_commit, view_size}
use Rattle.bcv_dbmap.specs.Applied.{edit_of}
use Rattle.bcv_dbmap.specs.Growth.{AreLawful}
use Rattle.bcv_dbmap.specs.Kept.{IsKept}
use Rattle.bcv_dbmap.specs.Past.{has_version}
use Rattle.bcv_dbmap.specs.Sound.{Sound}
use Rattle.bcv_publish.specs.declared.work.PutEnd.{PutEnd}
use Rattle.bcv_publish.specs.declared.work.PutEnd.TheVariants as put
use Rattle.bcv_publish.specs.ManifestPut as publishing
use Rattle.bcv_publish.specs.State as publish
use Rattle.bcv_upload.specs.BlockText.{IsViewOf, per_block, view_block}
use Rattle.bcv_upload.specs.State.{State, IsBase, IsTask, is_ready, plan_of}
use Rattle.bcv_upload.specs.UploadWork.{OwnsBlocks, WasListed, old_text}

-- ---- a put

abbrev pub is_published : PutEnd → Bool
is_published (put.Published n) = true
is_published _ = false

-- the upload with its publication after a put that ended so
abbrev pub behind_put : State → publish.State → PutEnd → State
behind_put s p end = record s { publish = p; published = is_published end }

-- whatever the store: the publication's put of the upload's edit, and nothing else of the upload has changed
abbrev pub PutLeaves : ℕ → State → Latest → PutEnd → State → Type 0
PutLeaves moment old read result new =
    (p : publish.State) × publishing.PutLeaves (plan_of old) moment old.publish read result p
    × (new ≡ behind_put old p result)

-- the publication may come after a log: what was read is there, its id is a fresh one of mine, and so are its blocks
pub record MayPut (mine : List Id16) (log : List Entry) (view : List Writes) (s : State) (read : Latest) : Type 0 where
  pub kept : IsKept log read
  pub writer : has_id s.publish.writer mine ≡ true
  pub id : has_id s.publish.id mine ≡ true
  pub fresh : has_version (history_of log) s.publish.id ≡ false
  pub blocks : OwnsBlocks mine log view s

-- ---- what is published

-- the image of a view over its base, as a history has it
abbrev pub view_over : List Item → TxnBase → List Writes → List Page
view_over past base view =
    view_image base.entry.page_size (image_of past base.entry.pages base.entry.page_size base.entry.blocks) view

-- the bytes of a block of an image: its pages, and zeros after the last one
abbrev pub image_block : TxnBase → List Page → ℕ → List ℕ
image_block base image n =
    padded base.block (flat_map (λ p. unwrap_or (page_of image p) []) (block_pages (per_block base) (length image) n))

-- what is put for a block is the block of the view's image, which the view's commits make of the base's image
abbrev pub BlocksHoldTheView : Type 0
BlocksHoldTheView =
    (past : List Item) (base : TxnBase) (view : List Writes) (n : ℕ) → Sound past → IsBase base → WasListed past base
    → list_all (is_commit base.entry.page_size) view ≡ true → n * per_block base < view_size base.entry.pages view
    → view_block base view (old_text past base n) n ≡ image_block base (view_over past base view) n

-- an upload that has put all its blocks publishes exactly the view
abbrev pub UploadedIsTheView : Type 0
UploadedIsTheView =
    (mine : List Id16) (log : List Entry) (view : List Writes) (s : State) → Sound (history_of log) → IsTask s
    → is_ready s ≡ true → IsViewOf s.base view s.size s.touched
    → list_all (is_commit s.base.entry.page_size) view ≡ true → OwnsBlocks mine log view s
    → edit_of (history_of log) (plan_of s)
    ≡ edits.Upload s.base.entry.name s.base.entry.page_size (view_over (history_of log) s.base view)

-- what an upload stands on and has put stays while others append lawful entries
abbrev pub BlocksStay : Type 0
BlocksStay =
    (mine : List Id16) (log others : List Entry) (view : List Writes) (s : State) → Sound (history_of log)
    → AreLawful mine (history_of log) others → OwnsBlocks mine log view s → OwnsBlocks mine (log ++ others) view s

-- it stays after one more own block
abbrev pub BlocksStayAfterPut : Type 0
BlocksStayAfterPut =
    (mine : List Id16) (log : List Entry) (view : List Writes) (s : State) (i : Id16) (bytes : List ℕ) (etag : ℕ)
    → Sound (history_of log) → OwnsBlocks mine log view s
    → OwnsBlocks mine (log ++ entry.Put true (object.Block i) bytes etag ∷ []) view s
