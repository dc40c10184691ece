-- The manifest's get of a publication.
use Rattle.std.specs.Prelude.{◌≡◌, ℕ, ◌+◌, ◌-◌, ◌*◌, ◌^◌, ◌<◌, ◌≤◌, ◌⊎◌, ◌==◌, false, List, [], ◌∷◌, length, Option, Some, None, is_some, is_none, nat_lt, nat_le, if◌then◌else◌}
use Rattle.bcv_base.specs.declared.outcome.Outcome.{Outcome}
use Rattle.bcv_base.specs.declared.outcome.Outcome.TheVariants as outcome
use Rattle.bcv_base.specs.Ids.{id_eq}
use Rattle.bcv_base.specs.Keyed.{keyed}
use Rattle.bcv_base.specs.ManifestRules.{blocks_needed}
use Rattle.bcv_base.specs.Version.{Database, Version, the_name}
use Rattle.bcv_model.specs.declared.reply.Reply.{Reply}
use Rattle.bcv_model.specs.declared.reply.Reply.TheVariants as reply
use Rattle.bcv_machine.specs.Noting.{FaultEnds}
use Rattle.bcv_machine.specs.Refusals.{first_reason}
use Rattle.bcv_machine.specs.Starting.{upload_blocks}
use Rattle.bcv_machine.specs.State.{Container, Kind, Creating, Making, Uploading, Copying, Removing, Cleaning, CleanupBegun, Publication, Up, Side, version_count, last_version, database_at, with_up}

-- ---- faults that the version read decides

-- why a new database can't be published over these
abbrev pub new_fault : ℕ → List Database → List ℕ → ℕ → ℕ → Option Reply
new_fault block dbs name page_size pages =
    first_reason (
    (is_some (keyed the_name name dbs), reply.Exists)
    ∷ (nat_lt block page_size, reply.PageTooLarge)
    ∷ (nat_lt 65536 (blocks_needed block page_size pages), reply.TooLarge)
    ∷ (nat_le 1024 (length dbs), reply.TooManyDatabases)
    ∷ []
    )

-- the database that an upload is over has another tag now
abbrev pub conflict : Option Database → Database → Option Reply
conflict None theirs = None
conflict (Some mine) theirs = if id_eq mine.tag theirs.tag then None else Some (reply.Conflict mine.tag theirs.tag)

-- why an upload can't
abbrev pub upload_fault : Option Database → Option Database → Option Reply
upload_fault mine None = Some reply.NoDatabase
upload_fault mine (Some theirs) = conflict mine theirs

-- why a copy can't
abbrev pub copy_fault : List Database → List ℕ → List ℕ → Option Reply
copy_fault dbs from to =
    first_reason ((is_none (keyed the_name from dbs), reply.NoDatabase) ∷ (is_some (keyed the_name to dbs), reply.Exists) ∷ (nat_le 1024 (length dbs), reply.TooManyDatabases) ∷ [])

abbrev pub kind_fault : Container → List Database → Kind → Option Reply
kind_fault c dbs (Creating block retention) = None
kind_fault c dbs (Making d page_size pages) = new_fault c.block dbs d page_size (length pages)
kind_fault c dbs (Uploading d base commits) = upload_fault (database_at c base d) (keyed the_name d dbs)
kind_fault c dbs (Copying a b) = copy_fault dbs a b
kind_fault c dbs (Removing a) = first_reason ((is_none (keyed the_name a dbs), reply.NoDatabase) ∷ [])
kind_fault c dbs Cleaning = None

-- why an edit can't be published over a version, the first reason
abbrev pub edit_fault : Container → Version → Kind → Option Reply
edit_fault c v kind = if version_count c == 2 ^ 64 - 1 then Some reply.VersionsFull else kind_fault c v.dbs kind

-- ---- a lack of room

-- the blocks of some databases, over blocks of a size
abbrev pub database_blocks : ℕ → List Database → ℕ
database_blocks block [] = 0
database_blocks block (d ∷ ds) = blocks_needed block d.page_size (length d.image) + database_blocks block ds

-- the blocks of all databases of some versions
abbrev pub all_blocks : ℕ → List Version → ℕ
all_blocks block [] = 0
all_blocks block (v ∷ vs) = database_blocks block v.dbs + all_blocks block vs

-- a fault of the edit: the first that the version decides, exactly; else a lack of room, which may come only where there are
-- very many versions, or blocks of all versions together
abbrev pub IsEditFault : Container → Version → Kind → Reply → Type 0
IsEditFault c v kind reply.WritersFull = (edit_fault c v kind ≡ None) × (4096 ≤ version_count c)
IsEditFault c v kind reply.DeleteListFull = (edit_fault c v kind ≡ None) × (1048576 < all_blocks c.block c.versions)
IsEditFault c v kind reply.ManifestTooLong = (edit_fault c v kind ≡ None) × (1048576 < all_blocks c.block c.versions)
IsEditFault c v kind r = edit_fault c v kind ≡ Some r

-- ---- what a get finds

-- nothing is there to be cleaned up, which a cleanup's first get alone may find
abbrev pub MayFindNothing : Kind → List ℕ → Type 0
MayFindNothing (Creating block retention) refused = ⊥
MayFindNothing (Making d page_size pages) refused = ⊥
MayFindNothing (Uploading d base commits) refused = ⊥
MayFindNothing (Copying a b) refused = ⊥
MayFindNothing (Removing a) refused = ⊥
MayFindNothing Cleaning refused = refused ≡ []

-- what ends the publication at a get that was done: there is no version, or the edit can't be published over the last one,
-- or nothing is there to be cleaned up
abbrev pub IsFound : Container → Publication → Option Version → Reply → Type 0
IsFound c p None reply.NoContainer = Unit {0}
IsFound c p None _ = ⊥
IsFound c p (Some v) (reply.Cleaned deleted more) = (edit_fault c v p.kind ≡ None) × MayFindNothing p.kind p.refused × (deleted ≡ 0) × (more ≡ false)
IsFound c p (Some v) r = IsEditFault c v p.kind r

-- the edit can be published over the version read
abbrev pub CanPublish : Container → Kind → Option Version → Type 0
CanPublish c kind None = ⊥
CanPublish c kind (Some v) = edit_fault c v kind ≡ None

-- ---- what is left after it

-- the retention since some version has passed
abbrev pub MayRelease : Container → List Version → Type 0
MayRelease c [] = ⊥
MayRelease c (v ∷ vs) = (v.moment + c.retention ≤ c.moment) ⊎ MayRelease c vs

-- the requests left after a first get: of a cleanup one for each entry that it takes, from 1 to 64, and the put
abbrev pub IsLeftFirst : Container → Kind → ℕ → Type 0
IsLeftFirst c (Creating block retention) left = ⊥
IsLeftFirst c (Making d page_size pages) left = left ≡ blocks_needed c.block page_size (length pages) + 1
IsLeftFirst c (Uploading d base commits) left = left ≡ 2 * upload_blocks c d base commits + 1
IsLeftFirst c (Copying a b) left = left ≡ 1
IsLeftFirst c (Removing a) left = left ≡ 1
IsLeftFirst c Cleaning left = (2 ≤ left) × (left ≤ 65) × MayRelease c c.versions

-- after a later get the put alone is left
abbrev pub IsLeft : Container → Kind → List ℕ → ℕ → Type 0
IsLeft c kind [] left = IsLeftFirst c kind left
IsLeft c kind (n ∷ ns) left = left ≡ 1

-- a cleanup begins at its first get
abbrev pub begun_first : Container → Kind → ℕ → Option CleanupBegun
begun_first c (Creating block retention) left = None
begun_first c (Making d page_size pages) left = None
begun_first c (Uploading d base commits) left = None
begun_first c (Copying a b) left = None
begun_first c (Removing a) left = None
begun_first c Cleaning left = Some (record { moment = c.moment; count = left - 1 })

abbrev pub begun_after : Container → Publication → List ℕ → ℕ → Option CleanupBegun
begun_after c p [] left = begun_first c p.kind left
begun_after c p (n ∷ ns) left = p.begun

-- the publication once it has read the last version
abbrev pub after_get : Container → Publication → ℕ → Publication
after_get c p left = record p { left = left; read = Some (version_count c); begun = begun_after c p p.refused left }

-- ---- the get

-- the last version is read, and the publication goes on; or what is found, or the request, ends it
abbrev pub GetsManifest : Side → Up → Publication → Outcome → Reply → Side → Option Publication → Type 0
GetsManifest s u p outcome.Ok (reply.Working left) t rest =
    CanPublish s.container p.kind (last_version s.container) × IsLeft s.container p.kind p.refused left × (t ≡ with_up s u) × (rest ≡ Some (after_get s.container p left))
GetsManifest s u p outcome.Ok r t rest =
    ((fault : Reply) × IsFound s.container p (last_version s.container) fault × FaultEnds p.intended s u fault r t) × (rest ≡ None)
GetsManifest s u p outcome.Fail r t rest = FaultEnds p.intended s u reply.StoreFault r t × (rest ≡ None)
GetsManifest s u p outcome.Lost r t rest = FaultEnds p.intended s u reply.StoreFault r t × (rest ≡ None)
