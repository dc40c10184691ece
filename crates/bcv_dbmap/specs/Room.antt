-- When a manifest has no room for an edit: only where the blocks of all databases of all versions together are many.
use Rattle.std.specs.Prelude.{◌≡◌, ◌<◌, ◌≤◌, ℕ, Bool, true, false, List, Some}
use Rattle.bcv_base.specs.declared.id.Id16.{Id16}
use Rattle.bcv_base.specs.declared.manifest.Manifest.{Manifest}
use Rattle.bcv_base.specs.BlockCounts.{all_blocks}
use Rattle.bcv_base.specs.History.{Item, last_of}
use Rattle.bcv_base.specs.ManifestRules.{blocks_needed}
use Rattle.bcv_base.specs.Names.{is_name}
use Rattle.bcv_base.specs.SizeLimits.{most_blocks, most_dead}
use Rattle.bcv_base.specs.Versions.{versions_of}
use Rattle.bcv_dbmap.specs.declared.fault.EditFault.{EditFault}
use Rattle.bcv_dbmap.specs.declared.fault.EditFault.TheVariants as fault
use Rattle.bcv_dbmap.specs.declared.plan.EditPlan.{EditPlan}
use Rattle.bcv_dbmap.specs.declared.plan.EditPlan.TheVariants as plan
use Rattle.bcv_dbmap.specs.Checked.{checked}
use Rattle.bcv_dbmap.specs.Sound.{Sound}

-- the fault says that the result has no room in the delete list or in the manifest
abbrev pub is_want_of_room : EditFault → Bool
is_want_of_room fault.DeleteListFull = true
is_want_of_room fault.ManifestTooLong = true
is_want_of_room _ = false

-- a new name is a name, of at most 64 bytes, and an upload needs at most 65,536 blocks, as the tests say of a new database
abbrev pub BringsFew : ℕ → EditPlan → Type 0
BringsFew block (plan.New e) = is_name e.name ≡ true
BringsFew block (plan.Upload from e) = blocks_needed block e.page_size e.pages ≤ most_blocks
BringsFew block (plan.Copy from to) = is_name to ≡ true
BringsFew block (plan.Remove name) = Unit {0}
BringsFew block (plan.Sweep ids) = Unit {0}

-- a plan has no room over the last manifest only where the blocks of all versions are more than 1,048,576
abbrev pub FullIsMany : Type 0
FullIsMany =
    (past : List Item) (m : Manifest) (p : EditPlan) (writer : Id16) (f : EditFault)
    → Sound past → last_of past ≡ Some m → BringsFew m.block p → checked m p writer ≡ Some f → is_want_of_room f ≡ true
    → most_dead < all_blocks m.block (versions_of past)
