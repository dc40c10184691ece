-- The size of the result, counted without making it.
use Rattle.std.specs.Prelude.{ℕ, ◌+◌, ◌*◌, Bool, not, ◌&&◌, ◌||◌, List, [], length, Option, Some, None, nat_lt, if◌then◌else◌}
use Rattle.std.specs.List.{list_any}
use Rattle.std.specs.Str.{bytes_eq}
use Rattle.bcv_base.specs.declared.id.Id16.{Id16}
use Rattle.bcv_base.specs.declared.manifest.DbEntry.{DbEntry}
use Rattle.bcv_base.specs.Ids.{id_eq, has_id}
use Rattle.bcv_dbmap.specs.declared.fault.EditFault.{EditFault}
use Rattle.bcv_dbmap.specs.declared.fault.EditFault.TheVariants as fault
use Rattle.bcv_base.specs.Keyed.{keyed}
use Rattle.bcv_base.specs.ManifestRules.{db_name}
use Rattle.bcv_base.specs.SizeLimits.{most_dead, most_bytes}
use Rattle.bcv_dbmap.specs.declared.plan.EditPlan.{EditPlan}
use Rattle.bcv_dbmap.specs.declared.plan.EditPlan.TheVariants as plan
use Rattle.bcv_dbmap.specs.Checked.{zero_id}
use Rattle.bcv_dbmap.specs.Merged.{blocks_of, chosen}

-- a database of another name lists the block
abbrev pub lists_other : List ℕ → List DbEntry → Id16 → Bool
lists_other name dbs i = list_any (λ d. not (bytes_eq d.name name) && has_id i d.blocks) dbs

-- the id is one of these that is not of zeros
abbrev pub is_filled : List Id16 → Id16 → Bool
is_filled ids i = list_any (λ x. not (id_eq x zero_id) && id_eq x i) ids

-- the block is listed behind a plan that puts these blocks under a name: `filled` are the blocks of the name
abbrev pub lists_behind : List ℕ → List Id16 → List DbEntry → Id16 → Bool
lists_behind name filled dbs i = lists_other name dbs i || is_filled filled i

-- how many blocks a plan lists no longer
abbrev pub gone_length : EditPlan → List DbEntry → ℕ
gone_length (plan.New e) dbs = 0
gone_length (plan.Upload from e) dbs = length (chosen (λ i. not (lists_behind e.name e.blocks dbs i)) (blocks_of (keyed db_name e.name dbs)))
gone_length (plan.Copy from to) dbs = 0
gone_length (plan.Remove name) dbs = length (chosen (λ i. not (lists_behind name [] dbs i)) (blocks_of (keyed db_name name dbs)))
gone_length (plan.Sweep ids) dbs = 0

-- why a result of so many dead blocks, and of so many bytes beside them, is too large, or none
abbrev pub too_large : ℕ → ℕ → Option EditFault
too_large bytes dead = if nat_lt most_dead dead then Some fault.DeleteListFull else (if nat_lt most_bytes (bytes + 24 * dead) then Some fault.ManifestTooLong else None)
