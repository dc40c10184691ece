-- What a task of a new database, a copy or a removal keeps.
use Rattle.std.specs.Prelude.{◌≡◌, ◌≤◌, ◌<◌, ◌⊎◌, ℕ, ◌+◌, ◌-◌, ◌*◌, ◌/◌, ◌^◌, ◌==◌, ◌&&◌, Bool, true, false, List, [], ◌∷◌, ◌++◌, length, take, drop, replicate, Option, Some, None, is_some, MatchOption, if◌then◌else◌}
use Rattle.std.specs.List.{AllByRecursion, flat_map}
use Rattle.bcv_base.specs.declared.id.Id16.{Id16}
use Rattle.bcv_base.specs.declared.manifest.DbEntry.{DbEntry}
use Rattle.bcv_base.specs.declared.seen.Latest.{Latest}
use Rattle.bcv_base.specs.Ids.{IsId}
use Rattle.bcv_base.specs.Image.{Page}
use Rattle.bcv_base.specs.ManifestRules.{MeetsRules, MeetsLimits, is_block_size, is_page_size, blocks_needed}
use Rattle.bcv_base.specs.Names.{is_name}
use Rattle.bcv_dbmap.specs.declared.plan.EditPlan.{EditPlan}
use Rattle.bcv_dbmap.specs.declared.plan.EditPlan.TheVariants as edit
use Rattle.bcv_dbmap.specs.Checked.{checked}
use Rattle.bcv_dbmap.specs.Filled.{Fills}
use Rattle.bcv_publish.specs.State.{new_publish}
use Rattle.bcv_publish.specs.State as publish
use Rattle.bcv_dbcopy.specs.declared.plan.CopyPlan.{CopyPlan}
use Rattle.bcv_dbcopy.specs.declared.plan.CopyPlan.TheVariants as plan

-- a task: the edit, with the ids of the blocks that were put so far; the pages of a new database; its publication; the block
-- size, once a manifest was read; and whether the edit was published
pub record State : Type 0 where
  pub edit : EditPlan
  pub pages : List Page
  pub publish : publish.State
  pub block : Option ℕ
  pub published : Bool

-- ---- a new task

abbrev pub edit_of_plan : CopyPlan → Id16 → EditPlan
edit_of_plan (plan.New name page_size pages) id = edit.New (record { name = name; tag = id; page_size = page_size; pages = length pages; blocks = [] })
edit_of_plan (plan.Copy from to) id = edit.Copy from to
edit_of_plan (plan.Remove name) id = edit.Remove name

abbrev pub pages_of_plan : CopyPlan → List Page
pages_of_plan (plan.New name page_size pages) = pages
pages_of_plan (plan.Copy from to) = []
pages_of_plan (plan.Remove name) = []

abbrev pub new_task : CopyPlan → Id16 → Id16 → State
new_task p writer id = record { edit = edit_of_plan p id; pages = pages_of_plan p; publish = new_publish writer id; block = None; published = false }

-- the pages of a new database have its page size, which is of the limits, and are fewer than 2^31
abbrev pub FitsPages : CopyPlan → Type 0
FitsPages (plan.New name page_size pages) = (is_page_size 16777216 page_size ≡ true) × AllByRecursion (λ (p : Page). length p ≡ page_size) pages × (length pages < 2 ^ 31)
FitsPages (plan.Copy from to) = Unit {0}
FitsPages (plan.Remove name) = Unit {0}

-- ---- the blocks

-- the ids of the blocks that were put
abbrev pub put_ids : EditPlan → List Id16
put_ids (edit.New e) = e.blocks
put_ids _ = []

-- how many blocks of a size the edit puts
abbrev pub needed : ℕ → EditPlan → ℕ
needed block (edit.New e) = blocks_needed block e.page_size e.pages
needed block _ = 0

-- the edit with one more block
abbrev pub with_id : EditPlan → Id16 → EditPlan
with_id (edit.New e) i = edit.New (record e { blocks = e.blocks ++ i ∷ [] })
with_id p i = p

abbrev pub with_block : State → Id16 → State
with_block s i = record s { edit = with_id s.edit i }

-- the bytes of some pages, one after the other
abbrev pub pages_text : List Page → List ℕ
pages_text pages = flat_map (λ (p : Page). p) pages

-- bytes up to a size, with zeros after them
abbrev pub padded : ℕ → List ℕ → List ℕ
padded size bytes = bytes ++ replicate (size - length bytes) 0

-- the bytes of the block of a number, from 0: its pages, and zeros after the last one
abbrev pub block_text : ℕ → ℕ → List Page → ℕ → List ℕ
block_text block page_size pages n = padded block (pages_text (take (block / page_size) (drop (n * (block / page_size)) pages)))

-- ---- the requests that are left

-- the manifest's get and put, or the put alone
abbrev pub manifest_requests : Option Latest → ℕ
manifest_requests None = 2
manifest_requests (Some l) = 1

-- before the first get a new database counts a block for each page
abbrev pub left_by : Option ℕ → State → ℕ
left_by None s = length s.pages + 2
left_by (Some block) s = (needed block s.edit - length (put_ids s.edit)) + manifest_requests s.publish.latest

-- after a publication there is none
abbrev pub left_of : State → ℕ
left_of s = if s.published then 0 else left_by s.block s

-- a manifest is kept and all blocks were put
abbrev pub is_ready : State → Bool
is_ready s = is_some s.publish.latest && left_of s == 1

-- ---- what holds of every task

-- the entry of a new database
pub record IsNew (e : DbEntry) (pages : List Page) : Type 0 where
  pub name : is_name e.name ≡ true
  pub tag : IsId e.tag
  pub page_size : is_page_size 16777216 e.page_size ≡ true
  pub count : e.pages ≡ length pages
  pub few : length pages < 2 ^ 31
  pub each : AllByRecursion (λ (p : Page). length p ≡ e.page_size) pages
  pub ids : AllByRecursion IsId e.blocks

abbrev pub IsEdit : EditPlan → List Page → Type 0
IsEdit (edit.New e) pages = IsNew e pages
IsEdit (edit.Copy from to) pages = (pages ≡ []) × (is_name to ≡ true)
IsEdit (edit.Remove name) pages = pages ≡ []
IsEdit _ pages = ⊥

-- the pages fit blocks of a size
abbrev pub FitsBlock : ℕ → EditPlan → Type 0
FitsBlock block (edit.New e) = (is_page_size block e.page_size ≡ true) × (length e.blocks ≤ blocks_needed block e.page_size e.pages) × (blocks_needed block e.page_size e.pages ≤ 65536)
FitsBlock block _ = Unit {0}

-- a manifest that was read is of the block size, and the edit passed over it, with the ids that were put before
pub record Passed (s : State) (l : Latest) (known : ℕ) : Type 0 where
  pub block : l.manifest.block ≡ known
  pub rules : MeetsRules l.manifest
  pub limits : MeetsLimits l.manifest
  pub asked : EditPlan
  pub fills : Fills asked s.edit
  pub passes : checked l.manifest asked s.publish.writer ≡ None

-- a put was refused before, and then all blocks were put, or none was
abbrev pub PutBefore : State → ℕ → Type 0
PutBefore s block = (s.publish.refused ≡ []) ⊎ (length (put_ids s.edit) ≡ needed block s.edit)

-- after a refused put no manifest is kept, and all blocks were put
pub record IsRefused (s : State) (block : ℕ) : Type 0 where
  pub block_is : s.publish.block ≡ Some block
  pub all_put : length (put_ids s.edit) ≡ needed block s.edit
  pub some : 1 ≤ length s.publish.refused

-- a manifest is kept, or none is after a refused put
abbrev pub IsRead : State → Option Latest → ℕ → Type 0
IsRead s None block = IsRefused s block
IsRead s (Some l) block = Passed s l block × PutBefore s block

-- before the first get nothing was read, nothing put and nothing refused
pub record IsFresh (s : State) : Type 0 where
  pub latest : s.publish.latest ≡ None
  pub block : s.publish.block ≡ None
  pub ids : put_ids s.edit ≡ []
  pub refused : s.publish.refused ≡ []

-- with the block size known
pub record IsUnderWay (s : State) (block : ℕ) : Type 0 where
  pub size : is_block_size block ≡ true
  pub fits : FitsBlock block s.edit
  pub read : IsRead s s.publish.latest block

-- once the edit was published, nothing is left to be known
pub record IsTask (s : State) : Type 0 where
  pub edit : IsEdit s.edit s.pages
  pub stage : s.published ≡ false → MatchOption s.block (IsFresh s) (IsUnderWay s)

-- what a caller keeps of a task from call to call: it is one, it was not published, and fewer than eight puts were refused
pub record IsRunning (s : State) : Type 0 where
  pub task : IsTask s
  pub waits : s.published ≡ false
  pub few : length s.publish.refused < 8
