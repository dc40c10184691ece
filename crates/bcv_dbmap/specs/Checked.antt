-- Why a plan cannot be published over a manifest: the tests in their order.
use Rattle.std.specs.Prelude.{ℕ, ◌+◌, ◌-◌, ◌*◌, ◌^◌, not, ◌&&◌, ◌==◌, List, [], ◌∷◌, length, replicate, Option, Some, None, is_some, is_none, nat_lt, nat_le, if◌then◌else◌}
use Rattle.std.specs.List.{filter}
use Rattle.bcv_base.specs.declared.id.Id16.{Id16}
use Rattle.bcv_base.specs.declared.manifest.DbEntry.{DbEntry}
use Rattle.bcv_base.specs.declared.manifest.Manifest.{Manifest}
use Rattle.bcv_base.specs.Ids.{id_eq}
use Rattle.bcv_base.specs.Image.{or_else}
use Rattle.bcv_base.specs.Keyed.{keyed}
use Rattle.bcv_base.specs.ManifestRules.{db_name, writer_id, blocks_needed, length_of}
use Rattle.bcv_base.specs.SizeLimits.{most_writers, most_databases, most_blocks, most_dead, most_bytes}
use Rattle.bcv_dbmap.specs.declared.fault.EditFault.{EditFault}
use Rattle.bcv_dbmap.specs.declared.fault.EditFault.TheVariants as fault
use Rattle.bcv_dbmap.specs.declared.plan.EditPlan.{EditPlan}
use Rattle.bcv_dbmap.specs.declared.plan.EditPlan.TheVariants as plan
use Rattle.bcv_dbmap.specs.Applied.{applied}

-- ---- the database

abbrev pub new_fault : ℕ → List DbEntry → DbEntry → Option EditFault
new_fault block dbs e =
    if is_some (keyed db_name e.name dbs) then Some fault.Exists
    else (if nat_lt block e.page_size then Some fault.PageTooLarge
    else (if nat_lt most_blocks (blocks_needed block e.page_size e.pages) then Some fault.TooLarge
    else (if nat_le most_databases (length dbs) then Some fault.TooManyDatabases else None)))

-- the database is there, with the tag on which the upload stands
abbrev pub upload_fault : Option DbEntry → Id16 → Option EditFault
upload_fault None from = Some fault.NoDatabase
upload_fault (Some d) from = if id_eq d.tag from then None else Some (fault.Conflict from d.tag)

abbrev pub copy_fault : List DbEntry → List ℕ → List ℕ → Option EditFault
copy_fault dbs from to =
    if is_none (keyed db_name from dbs) then Some fault.NoDatabase
    else (if is_some (keyed db_name to dbs) then Some fault.Exists
    else (if nat_le most_databases (length dbs) then Some fault.TooManyDatabases else None))

abbrev pub plan_fault : ℕ → List DbEntry → EditPlan → Option EditFault
plan_fault block dbs (plan.New e) = new_fault block dbs e
plan_fault block dbs (plan.Upload from e) = upload_fault (keyed db_name e.name dbs) from
plan_fault block dbs (plan.Copy from to) = copy_fault dbs from to
plan_fault block dbs (plan.Remove name) = if is_none (keyed db_name name dbs) then Some fault.NoDatabase else None
plan_fault block dbs (plan.Sweep ids) = None

-- ---- the size of the result

-- ids of zeros stand for blocks that are still to be put
abbrev pub zero_id : Id16
zero_id = record { 0 = replicate 16 0 }

-- without the ids of zeros: they count as ids that the manifest neither lists nor has in its delete list
abbrev pub without_zeros : DbEntry → DbEntry
without_zeros e = record e { blocks = filter (λ i. not (id_eq i zero_id)) e.blocks }

abbrev pub counted : EditPlan → EditPlan
counted (plan.New e) = plan.New (without_zeros e)
counted (plan.Upload from e) = plan.Upload from (without_zeros e)
counted (plan.Copy from to) = plan.Copy from to
counted (plan.Remove name) = plan.Remove name
counted (plan.Sweep ids) = plan.Sweep ids

-- how many dead blocks the result has
abbrev pub dead_length : Manifest → EditPlan → ℕ
dead_length m p = length (applied m (counted p) zero_id zero_id 0).dead

-- the bytes of an entry with as many ids as its pages need, whether or not they are filled in
abbrev pub needed_length : ℕ → DbEntry → ℕ
needed_length block d = 25 + length d.name + 16 * blocks_needed block d.page_size d.pages

abbrev pub needed_total : ℕ → List DbEntry → ℕ
needed_total block [] = 0
needed_total block (d ∷ ds) = needed_length block d + needed_total block ds

-- the bytes of the result
abbrev pub result_length : Manifest → EditPlan → Id16 → ℕ
result_length m p writer =
    length_of (length (applied m p zero_id writer 0).writers) (needed_total m.block (applied m p zero_id writer 0).dbs) (dead_length m p)

abbrev pub size_fault : Manifest → EditPlan → Id16 → Option EditFault
size_fault m p writer =
    if is_none (keyed writer_id writer.0 m.writers) && nat_le most_writers (length m.writers) then Some fault.WritersFull
    else (if nat_lt most_dead (dead_length m p) then Some fault.DeleteListFull
    else (if nat_lt most_bytes (result_length m p writer) then Some fault.ManifestTooLong else None))

-- ---- the first fault

-- why the plan cannot be published, or none
abbrev pub checked : Manifest → EditPlan → Id16 → Option EditFault
checked m p writer = if m.number == 2 ^ 64 - 1 then Some fault.VersionsFull else or_else (plan_fault m.block m.dbs p) (size_fault m p writer)
