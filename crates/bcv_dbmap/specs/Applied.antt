-- What a plan makes of a manifest.
use Rattle.std.specs.Prelude.{◌≡◌, ℕ, ◌+◌, max, true, ◌||◌, List, [], ◌∷◌, Option, Some, None, if◌then◌else◌}
use Rattle.std.specs.Option.{option_map}
use Rattle.bcv_base.specs.declared.id.Id16.{Id16}
use Rattle.bcv_base.specs.declared.manifest.DbEntry.{DbEntry}
use Rattle.bcv_base.specs.declared.manifest.Dead.{Dead}
use Rattle.bcv_base.specs.declared.manifest.Manifest.{Manifest}
use Rattle.bcv_base.specs.declared.manifest.Writer.{Writer}
use Rattle.bcv_base.specs.Edits as edits
use Rattle.bcv_base.specs.History.{Item}
use Rattle.bcv_base.specs.Ids.{has_id}
use Rattle.bcv_base.specs.Joined.{image_of}
use Rattle.bcv_base.specs.Keyed.{keyed, with_keyed, without_keyed, with_made}
use Rattle.bcv_base.specs.ManifestRules.{MeetsEntryRules, writer_id, db_name, dead_id, lists}
use Rattle.bcv_base.specs.Names.{is_name}
use Rattle.bcv_dbmap.specs.declared.plan.EditPlan.{EditPlan}
use Rattle.bcv_dbmap.specs.declared.plan.EditPlan.TheVariants as plan

-- ---- the databases

-- the entry that a plan makes, tagged with the publication's id
abbrev pub made_entry : EditPlan → Id16 → List DbEntry → Option DbEntry
made_entry (plan.New e) id dbs = Some (record e { tag = id })
made_entry (plan.Upload from e) id dbs = Some (record e { tag = id })
made_entry (plan.Copy from to) id dbs = option_map (λ (d : DbEntry). record d { name = to; tag = id }) (keyed db_name from dbs)
made_entry (plan.Remove name) id dbs = None
made_entry (plan.Sweep ids) id dbs = None

-- the entries that a plan leaves as they are
abbrev pub kept_entries : EditPlan → List DbEntry → List DbEntry
kept_entries (plan.New e) dbs = dbs
kept_entries (plan.Upload from e) dbs = dbs
kept_entries (plan.Copy from to) dbs = dbs
kept_entries (plan.Remove name) dbs = without_keyed db_name name dbs
kept_entries (plan.Sweep ids) dbs = dbs

-- the databases after a plan
abbrev pub dbs_after : EditPlan → Id16 → List DbEntry → List DbEntry
dbs_after p id dbs = with_made db_name (made_entry p id dbs) (kept_entries p dbs)

-- ---- the delete list

-- the ids that a plan takes off the delete list
abbrev pub swept_ids : EditPlan → List Id16
swept_ids (plan.New e) = []
swept_ids (plan.Upload from e) = []
swept_ids (plan.Copy from to) = []
swept_ids (plan.Remove name) = []
swept_ids (plan.Sweep ids) = ids

-- of these ids, those that no database lists enter the delete list with a stamp
abbrev pub bury : ℕ → List DbEntry → List Id16 → List Dead → List Dead
bury stamp dbs [] dead = dead
bury stamp dbs (i ∷ is) dead = bury stamp dbs is (if lists dbs i then dead else with_keyed dead_id (record { id = i; stamp = stamp }) dead)

-- of the blocks of some entries, those that no database lists enter the delete list with a stamp
abbrev pub bury_all : ℕ → List DbEntry → List DbEntry → List Dead → List Dead
bury_all stamp dbs [] dead = dead
bury_all stamp dbs (d ∷ ds) dead = bury_all stamp dbs ds (bury stamp dbs d.blocks dead)

-- the dead blocks that no database lists and that are not swept
abbrev pub still_dead : List DbEntry → List Id16 → List Dead → List Dead
still_dead dbs swept [] = []
still_dead dbs swept (e ∷ es) = if lists dbs e.id || has_id e.id swept then still_dead dbs swept es else e ∷ still_dead dbs swept es

-- the delete list behind a plan: what stays dead, and the blocks that are listed no longer
abbrev pub dead_after : EditPlan → ℕ → List DbEntry → List DbEntry → List Dead → List Dead
dead_after p stamp now before dead = bury_all stamp now before (still_dead now (swept_ids p) dead)

-- ---- the manifest

-- the writers with one whose last publication is this one
abbrev pub writers_after : Id16 → Id16 → ℕ → List Writer → List Writer
writers_after writer id number ws = with_keyed writer_id (record { id = writer; last = id; number = number }) ws

-- the manifest that a plan makes of another one, under an id, by a writer, at a moment
abbrev pub applied : Manifest → EditPlan → Id16 → Id16 → ℕ → Manifest
applied m p id writer moment = record m {
  number = m.number + 1;
  moment = max m.moment moment;
  id = id;
  writers = writers_after writer id (m.number + 1) m.writers;
  dbs = dbs_after p id m.dbs;
  dead = dead_after p (max m.moment moment) (dbs_after p id m.dbs) m.dbs m.dead;
}

-- the first manifest of a container: no database, no dead block, one writer
abbrev pub first_manifest : ℕ → ℕ → Id16 → Id16 → ℕ → Manifest
first_manifest block retention id writer moment = record {
  number = 1;
  moment = moment;
  block = block;
  retention = retention;
  id = id;
  writers = record { id = writer; last = id; number = 1 } ∷ [];
  dbs = [];
  dead = [];
}

-- what a plan brings meets the rules, for a block size
abbrev pub FitsPlan : ℕ → EditPlan → Type 0
FitsPlan block (plan.New e) = MeetsEntryRules block e
FitsPlan block (plan.Upload from e) = MeetsEntryRules block e
FitsPlan block (plan.Copy from to) = is_name to ≡ true
FitsPlan block (plan.Remove name) = Unit {0}
FitsPlan block (plan.Sweep ids) = Unit {0}

-- ---- the edit of a version that a plan is

-- over the blocks that were put
abbrev pub edit_of : List Item → EditPlan → edits.Edit
edit_of past (plan.New e) = edits.New e.name e.page_size (image_of past e.pages e.page_size e.blocks)
edit_of past (plan.Upload from e) = edits.Upload e.name e.page_size (image_of past e.pages e.page_size e.blocks)
edit_of past (plan.Copy from to) = edits.Copy from to
edit_of past (plan.Remove name) = edits.Remove name
edit_of past (plan.Sweep ids) = edits.Sweep
