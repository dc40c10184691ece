-- The delete list behind a plan, made in one pass: ids that are sorted and taken once, and merged into it.
use Rattle.std.specs.Prelude.{ℕ, Bool, ◌||◌, List, [], ◌∷◌, Option, Some, None, if◌then◌else◌}
use Rattle.std.specs.Cmp.Lexicographic.{slice_cmp}
use Rattle.std.specs.Ordering.{nat_cmp}
use Rattle.std.specs.declared.cmp.Ordering.{Ordering}
use Rattle.std.specs.declared.cmp.Ordering.TheVariants.{Less, Equal, Greater}
use Rattle.bcv_base.specs.declared.id.Id16.{Id16}
use Rattle.bcv_base.specs.declared.manifest.DbEntry.{DbEntry}
use Rattle.bcv_base.specs.declared.manifest.Dead.{Dead}
use Rattle.bcv_base.specs.Keyed.{keyed, with_keyed}
use Rattle.bcv_base.specs.ManifestRules.{db_name, dead_id}
use Rattle.bcv_dbmap.specs.declared.plan.EditPlan.{EditPlan}
use Rattle.bcv_dbmap.specs.declared.plan.EditPlan.TheVariants as plan

-- ---- ids

-- an id is its own key
abbrev pub own_key : Id16 → List ℕ
own_key i = i.0

-- of these ids, those that pass a test, ascending and each once
abbrev pub chosen : (Id16 → Bool) → List Id16 → List Id16
chosen test [] = []
chosen test (i ∷ is) = if test i then with_keyed own_key i (chosen test is) else chosen test is

-- the marks of some ids, and a mark where a test is passed
abbrev pub marked : (Id16 → Bool) → List Id16 → List Bool → List Bool
marked test [] marks = []
marked test (i ∷ is) [] = []
marked test (i ∷ is) (b ∷ bs) = (b || test i) ∷ marked test is bs

-- the ids that have no mark
abbrev pub unmarked : List Id16 → List Bool → List Id16
unmarked [] marks = []
unmarked (i ∷ is) [] = []
unmarked (i ∷ is) (b ∷ bs) = if b then unmarked is bs else i ∷ unmarked is bs

-- ---- what a plan moves

abbrev pub blocks_of : Option DbEntry → List Id16
blocks_of None = []
blocks_of (Some d) = d.blocks

-- the blocks of the entry that a plan replaces or removes: no other block can be listed no longer
abbrev pub leaving : EditPlan → List DbEntry → List Id16
leaving (plan.New e) dbs = []
leaving (plan.Upload from e) dbs = blocks_of (keyed db_name e.name dbs)
leaving (plan.Copy from to) dbs = []
leaving (plan.Remove name) dbs = blocks_of (keyed db_name name dbs)
leaving (plan.Sweep ids) dbs = []

-- the ids that a plan lists anew or sweeps: no other dead block can leave the delete list
abbrev pub taken_off : EditPlan → List Id16
taken_off (plan.New e) = e.blocks
taken_off (plan.Upload from e) = e.blocks
taken_off (plan.Copy from to) = []
taken_off (plan.Remove name) = []
taken_off (plan.Sweep ids) = ids

-- ---- the delete list

abbrev pub dead_of : ℕ → Id16 → Dead
dead_of stamp i = record { id = i; stamp = stamp }

-- the dead blocks, and these ids with a stamp
abbrev pub with_dead : ℕ → List Id16 → List Dead → List Dead
with_dead stamp [] dead = dead
with_dead stamp (i ∷ is) dead = with_keyed dead_id (dead_of stamp i) (with_dead stamp is dead)

-- of an id and a dead block the one that stands first, the id's own where both have one id, and how many of either are done with
abbrev pub step_by : Ordering → ℕ → Id16 → Dead → Dead × ℕ × ℕ
step_by Less stamp i e = (dead_of stamp i, 1, 0)
step_by Equal stamp i e = (dead_of stamp i, 1, 1)
step_by Greater stamp i e = (e, 0, 1)

abbrev pub step_of : ℕ → Id16 → Dead → Dead × ℕ × ℕ
step_of stamp i e = step_by (slice_cmp nat_cmp i.0 e.id.0) stamp i e
