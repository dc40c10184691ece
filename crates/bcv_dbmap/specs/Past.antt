-- What a history says of blocks, ids, entries and writers.
use Rattle.std.specs.Prelude.{◌≡◌, ◌⊎◌, ℕ, ◌+◌, Bool, false, ◌||◌, List, [], ◌∷◌, Option, Some, None, nat_eq, nat_le, if◌then◌else◌}
use Rattle.bcv_base.specs.declared.id.Id16.{Id16}
use Rattle.bcv_base.specs.declared.manifest.DbEntry.{DbEntry}
use Rattle.bcv_base.specs.declared.manifest.Dead.{Dead}
use Rattle.bcv_base.specs.declared.manifest.Manifest.{Manifest}
use Rattle.bcv_base.specs.declared.manifest.Writer.{Writer}
use Rattle.bcv_base.specs.History.{Item, BlockPut, Published, Unreadable, BlockDeleted, ManifestDeleted}
use Rattle.bcv_base.specs.Ids.{id_eq}
use Rattle.bcv_base.specs.Keyed.{keyed}
use Rattle.bcv_base.specs.ManifestRules.{writer_id, dead_id, lists, is_dead}

-- ---- manifests

-- some manifest has the property
abbrev pub some_manifest : (Manifest → Bool) → List Item → Bool
some_manifest test [] = false
some_manifest test (BlockPut i bytes ∷ past) = some_manifest test past
some_manifest test (Published m ∷ past) = test m || some_manifest test past
some_manifest test (Unreadable ∷ past) = some_manifest test past
some_manifest test (BlockDeleted i at ∷ past) = some_manifest test past
some_manifest test (ManifestDeleted ∷ past) = some_manifest test past

-- some manifest listed the block
abbrev pub was_listed : List Item → Id16 → Bool
was_listed past i = some_manifest (λ m. lists m.dbs i) past

-- the delete list of some manifest had the block
abbrev pub was_dead : List Item → Id16 → Bool
was_dead past i = some_manifest (λ m. is_dead m.dead i) past

-- some manifest has the id
abbrev pub has_version : List Item → Id16 → Bool
has_version past id = some_manifest (λ m. id_eq m.id id) past

-- ---- the retention

-- the stamp lies the retention back
abbrev pub is_old : Option Dead → ℕ → ℕ → Bool
is_old None retention at = false
is_old (Some e) retention at = nat_le (e.stamp + retention) at

-- the delete list of some manifest had the block with a stamp that lies the retention back
abbrev pub was_expired : List Item → Id16 → ℕ → Bool
was_expired past i at = some_manifest (λ m. is_old (keyed dead_id i.0 m.dead) m.retention at) past

-- ---- deletions

-- the block was deleted
abbrev pub was_deleted : List Item → Id16 → Bool
was_deleted [] i = false
was_deleted (BlockPut j bytes ∷ past) i = was_deleted past i
was_deleted (Published m ∷ past) i = was_deleted past i
was_deleted (Unreadable ∷ past) i = was_deleted past i
was_deleted (BlockDeleted j at ∷ past) i = id_eq j i || was_deleted past i
was_deleted (ManifestDeleted ∷ past) i = was_deleted past i

-- ---- entries

-- the entry is one of these
abbrev pub IsAmong : DbEntry → List DbEntry → Type 0
IsAmong d [] = ⊥
IsAmong d (e ∷ es) = (d ≡ e) ⊎ IsAmong d es

-- some manifest has the entry
abbrev pub WasEntry : DbEntry → List Item → Type 0
WasEntry d [] = ⊥
WasEntry d (BlockPut i bytes ∷ past) = WasEntry d past
WasEntry d (Published m ∷ past) = IsAmong d m.dbs ⊎ WasEntry d past
WasEntry d (Unreadable ∷ past) = WasEntry d past
WasEntry d (BlockDeleted i at ∷ past) = WasEntry d past
WasEntry d (ManifestDeleted ∷ past) = WasEntry d past

-- ---- writers

-- a writer's line in a table
abbrev pub writer_of : Id16 → List Writer → Option Writer
writer_of i ws = keyed writer_id i.0 ws

abbrev pub is_numbered : Option Writer → ℕ → Bool
is_numbered None n = false
is_numbered (Some w) n = nat_eq w.number n

-- the manifest is the writer's own: his number in it is the manifest's
abbrev pub is_own : Id16 → Manifest → Bool
is_own i m = is_numbered (writer_of i m.writers) m.number

-- a publication: its id, and the number of its version
pub record Publication : Type 0 where
  pub id : Id16
  pub number : ℕ

-- the publication that a writer's line tells, where there is a line
abbrev pub told_by : Option Writer → Option Publication
told_by None = None
told_by (Some w) = Some (record { id = w.last; number = w.number })

-- the last manifest that is the writer's own
abbrev pub last_own : List Item → Id16 → Option Publication
last_own [] i = None
last_own (BlockPut j bytes ∷ past) i = last_own past i
last_own (Published m ∷ past) i = if is_own i m then Some (record { id = m.id; number = m.number }) else last_own past i
last_own (Unreadable ∷ past) i = last_own past i
last_own (BlockDeleted j at ∷ past) i = last_own past i
last_own (ManifestDeleted ∷ past) i = last_own past i
