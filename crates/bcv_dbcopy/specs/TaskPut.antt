-- The manifest's put of a task.
use Rattle.std.specs.Prelude.{◌≡◌, ℕ, Bool, true, false, List, [], ◌∷◌, ◌++◌}
use Rattle.bcv_base.specs.declared.id.Id16.{Id16}
use Rattle.bcv_base.specs.declared.log.Entry.{Entry}
use Rattle.bcv_base.specs.declared.log.Entry.TheVariants as entry
use Rattle.bcv_base.specs.declared.object.ObjName.TheVariants as object
use Rattle.bcv_base.specs.declared.seen.Latest.{Latest}
use Rattle.bcv_base.specs.Edits as edits
use Rattle.bcv_base.specs.History.{history_of}
use Rattle.bcv_base.specs.Ids.{has_id}
use Rattle.bcv_base.specs.Image.{Page}
use Rattle.bcv_dbmap.specs.declared.plan.EditPlan.{EditPlan}
use Rattle.bcv_dbmap.specs.declared.plan.EditPlan.TheVariants as edit
use Rattle.bcv_dbmap.specs.Applied.{edit_of}
use Rattle.bcv_dbmap.specs.Growth.{AreLawful}
use Rattle.bcv_dbmap.specs.Past.{has_version}
use Rattle.bcv_dbmap.specs.Sound.{Sound}
use Rattle.bcv_publish.specs.declared.work.PutEnd.{PutEnd}
use Rattle.bcv_publish.specs.declared.work.PutEnd.TheVariants as put
use Rattle.bcv_dbmap.specs.Kept.{IsKept}
use Rattle.bcv_publish.specs.ManifestPut as publishing
use Rattle.bcv_publish.specs.State as publish
use Rattle.bcv_dbcopy.specs.State.{State, IsTask, is_ready}
use Rattle.bcv_dbcopy.specs.TaskWork.{OwnsBlocks}

-- ---- a put

abbrev pub is_published : PutEnd → Bool
is_published (put.Published n) = true
is_published _ = false

-- the task with its publication after a put that ended so
abbrev pub behind_put : State → publish.State → PutEnd → State
behind_put s p end = record s { publish = p; published = is_published end }

-- whatever the store: the publication's put of the task's edit, and nothing else of the task has changed
abbrev pub PutLeaves : ℕ → State → Latest → PutEnd → State → Type 0
PutLeaves moment old read result new = (p : publish.State) × publishing.PutLeaves old.edit moment old.publish read result p × (new ≡ behind_put old p result)

-- ---- what is published

-- the machine's edit that a task makes, with its whole image
abbrev pub edit_made : EditPlan → List Page → edits.Edit
edit_made (edit.New e) pages = edits.New e.name e.page_size pages
edit_made (edit.Upload from e) pages = edits.Upload e.name e.page_size pages
edit_made (edit.Copy from to) pages = edits.Copy from to
edit_made (edit.Remove name) pages = edits.Remove name
edit_made (edit.Sweep ids) pages = edits.Sweep

-- the publication may come after a log: what was read is there, its id is a fresh one of mine, and so are its blocks
pub record MayPut (mine : List Id16) (log : List Entry) (s : State) (read : Latest) : Type 0 where
  pub kept : IsKept log read
  pub writer : has_id s.publish.writer mine ≡ true
  pub id : has_id s.publish.id mine ≡ true
  pub fresh : has_version (history_of log) s.publish.id ≡ false
  pub blocks : OwnsBlocks mine log s

-- a task that has put all its blocks publishes exactly its edit
abbrev pub BlocksAreThePages : Type 0
BlocksAreThePages =
    (mine : List Id16) (log : List Entry) (s : State) → IsTask s → is_ready s ≡ true → OwnsBlocks mine log s → edit_of (history_of log) s.edit ≡ edit_made s.edit s.pages

-- what a task has put stays while others append lawful entries
abbrev pub BlocksStay : Type 0
BlocksStay =
    (mine : List Id16) (log others : List Entry) (s : State) → Sound (history_of log) → AreLawful mine (history_of log) others → OwnsBlocks mine log s → OwnsBlocks mine (log ++ others) s

-- it stays after one more own block
abbrev pub BlocksStayAfterPut : Type 0
BlocksStayAfterPut =
    (mine : List Id16) (log : List Entry) (s : State) (i : Id16) (bytes : List ℕ) (etag : ℕ) → OwnsBlocks mine log s → OwnsBlocks mine (log ++ entry.Put true (object.Block i) bytes etag ∷ []) s
