-- What a cleanup keeps.
use Rattle.std.specs.Prelude.{◌≡◌, ◌≤◌, ◌<◌, ℕ, ◌+◌, ◌-◌, ◌==◌, ◌&&◌, Bool, false, List, [], ◌∷◌, length, Option, Some, None, IsSome, is_some, if◌then◌else◌}
use Rattle.bcv_base.specs.declared.id.Id16.{Id16}
use Rattle.bcv_base.specs.declared.seen.Latest.{Latest}
use Rattle.bcv_base.specs.ManifestRules.{MeetsRules, MeetsLimits}
use Rattle.bcv_dbmap.specs.declared.plan.EditPlan.{EditPlan}
use Rattle.bcv_dbmap.specs.declared.plan.EditPlan.TheVariants as edit
use Rattle.bcv_dbmap.specs.Applied.{swept_ids}
use Rattle.bcv_dbmap.specs.Checked.{checked}
use Rattle.bcv_dbmap.specs.Deletions.{most_cleaned}
use Rattle.bcv_publish.specs.State.{new_publish}
use Rattle.bcv_publish.specs.State as publish

-- a cleanup: the edit, which sweeps the ids that were taken; its publication; the moment, once the clock was read; how
-- many of the ids were deleted; whether the manifest that was read last has a further entry; and whether the edit was
-- published
pub record State : Type 0 where
  pub edit : EditPlan
  pub publish : publish.State
  pub moment : Option ℕ
  pub deleted : ℕ
  pub more : Bool
  pub published : Bool

abbrev pub new_cleanup : Id16 → Id16 → State
new_cleanup writer id = record {
  edit = edit.Sweep [];
  publish = new_publish writer id;
  moment = None;
  deleted = 0;
  more = false;
  published = false;
}

-- the ids that were taken
abbrev pub taken_ids : State → List Id16
taken_ids s = swept_ids s.edit

-- ---- the requests that are left

-- the manifest's get and put, or the put alone
abbrev pub manifest_requests : Option Latest → ℕ
manifest_requests None = 2
manifest_requests (Some l) = 1

-- the entries that are still to be deleted: before the first get as many as it may take
abbrev pub deletions_left : Option Latest → List Id16 → ℕ → ℕ
deletions_left None [] deleted = most_cleaned
deletions_left None (i ∷ is) deleted = length (i ∷ is) - deleted
deletions_left (Some l) ids deleted = length ids - deleted

-- after a publication there is none
abbrev pub left_of : State → ℕ
left_of s =
    if s.published then 0 else deletions_left s.publish.latest (taken_ids s) s.deleted + manifest_requests s.publish.latest

-- a manifest is kept and all entries were deleted
abbrev pub is_ready : State → Bool
is_ready s = is_some s.publish.latest && left_of s == 1

-- ---- what holds of every cleanup

-- a manifest that is kept meets the rules, and the sweep passes over it
pub record Passed (s : State) (l : Latest) : Type 0 where
  pub rules : MeetsRules l.manifest
  pub limits : MeetsLimits l.manifest
  pub passes : checked l.manifest s.edit s.publish.writer ≡ None

-- where no manifest is kept, nothing was taken or all of it was deleted
abbrev pub IsRead : State → Option Latest → Type 0
IsRead s None = s.deleted ≡ length (taken_ids s)
IsRead s (Some l) = Passed s l

-- the moment is known from when entries were taken
abbrev pub IsTimed : Option ℕ → List Id16 → Type 0
IsTimed moment [] = Unit {0}
IsTimed moment (i ∷ is) = IsSome moment

-- once the edit was published, nothing is left to be known of a manifest
pub record IsTask (s : State) : Type 0 where
  pub edit : s.edit ≡ edit.Sweep (taken_ids s)
  pub few_taken : length (taken_ids s) ≤ most_cleaned
  pub few_deleted : s.deleted ≤ length (taken_ids s)
  pub timed : IsTimed s.moment (taken_ids s)
  pub stage : s.published ≡ false → IsRead s s.publish.latest

-- where a manifest is kept, entries of one were taken
abbrev pub HasBegun : Option Latest → List Id16 → Type 0
HasBegun None ids = Unit {0}
HasBegun (Some l) ids = 1 ≤ length ids

-- what a caller keeps of a cleanup from call to call: it is one, it was not published, fewer than eight puts were refused,
-- and after the first get it has taken entries
pub record IsRunning (s : State) : Type 0 where
  pub task : IsTask s
  pub waits : s.published ≡ false
  pub few : length s.publish.refused < 8
  pub begun : HasBegun s.publish.latest (taken_ids s)
