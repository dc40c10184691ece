-- What a manifest is to keep: the rules of its values, the limits on how many they are, and the limit on its length.
use Rattle.std.specs.Prelude.{◌≡◌, ℕ, ◌+◌, ◌-◌, ◌*◌, ◌/◌, ◌^◌, ◌<◌, ◌≤◌, Bool, true, false, ◌&&◌, List, [], ◌∷◌, length, is_some, nat_le}
use Rattle.std.specs.List.{list_any, AllByRecursion}
use Rattle.std.specs.Int.{is_power_of_two}
use Rattle.bcv_base.specs.declared.id.Id16.{Id16}
use Rattle.bcv_base.specs.declared.manifest.DbEntry.{DbEntry}
use Rattle.bcv_base.specs.declared.manifest.Dead.{Dead}
use Rattle.bcv_base.specs.declared.manifest.Manifest.{Manifest}
use Rattle.bcv_base.specs.declared.manifest.Writer.{Writer}
use Rattle.bcv_base.specs.Ids.{has_id, IsId}
use Rattle.bcv_base.specs.Keyed.{comes_before, keyed}
use Rattle.bcv_base.specs.Names.{is_name}
use Rattle.bcv_base.specs.SizeLimits.{most_writers, most_databases, most_blocks, most_dead, most_bytes}

-- ---- keys and look-ups

abbrev pub writer_id : Writer → List ℕ
writer_id w = w.id.0

abbrev pub db_name : DbEntry → List ℕ
db_name d = d.name

abbrev pub dead_id : Dead → List ℕ
dead_id e = e.id.0

-- some database lists the block
abbrev pub lists : List DbEntry → Id16 → Bool
lists dbs i = list_any (λ d. has_id i d.blocks) dbs

-- the delete list has the block
abbrev pub is_dead : List Dead → Id16 → Bool
is_dead es i = is_some (keyed dead_id i.0 es)

-- ---- ascending lists

-- the key stands before each key of the list
abbrev pub IsAbove : {A : Type 0} → (A → List ℕ) → List ℕ → List A → Type 0
IsAbove key k [] = Unit {0}
IsAbove key k (x ∷ xs) = (comes_before k (key x) ≡ true) × IsAbove key k xs

-- each key stands before all later ones
abbrev pub Ascends : {A : Type 0} → (A → List ℕ) → List A → Type 0
Ascends key [] = Unit {0}
Ascends key (x ∷ xs) = IsAbove key (key x) xs × Ascends key xs

-- ---- sizes

-- a power of two from 512 to 16,777,216
abbrev pub is_block_size : ℕ → Bool
is_block_size n = nat_le 512 n && nat_le n 16777216 && is_power_of_two n

-- a power of two from 512 to 65,536, at most the block size
abbrev pub is_page_size : ℕ → ℕ → Bool
is_page_size block n = nat_le 512 n && nat_le n 65536 && is_power_of_two n && nat_le n block

-- how many blocks hold so many pages: their bytes over the block size, rounded up
abbrev pub blocks_needed : ℕ → ℕ → ℕ → ℕ
blocks_needed block page_size pages = (pages * page_size + (block - 1)) / block

-- ---- the rules

-- the numbers of a writer: from 1 to the manifest's
pub record MeetsWriterRules (number : ℕ) (w : Writer) : Type 0 where
  pub id : IsId w.id
  pub last : IsId w.last
  pub least : 1 ≤ w.number
  pub most : w.number ≤ number

-- a database's own rules, for a block size
pub record MeetsEntryRules (block : ℕ) (d : DbEntry) : Type 0 where
  pub name : is_name d.name ≡ true
  pub tag : IsId d.tag
  pub page_size : is_page_size block d.page_size ≡ true
  pub pages : d.pages < 2 ^ 32
  pub blocks : length d.blocks ≡ blocks_needed block d.page_size d.pages
  pub few : length d.blocks ≤ most_blocks
  pub ids : AllByRecursion IsId d.blocks

-- no database lists a dead block
pub record MeetsDeadRules (dbs : List DbEntry) (e : Dead) : Type 0 where
  pub id : IsId e.id
  pub unlisted : lists dbs e.id ≡ false
  pub stamp : e.stamp < 2 ^ 64

-- each rule but those on how many there are and how long they are
pub record MeetsRules (m : Manifest) : Type 0 where
  pub least : 1 ≤ m.number
  pub number : m.number < 2 ^ 64
  pub moment : m.moment < 2 ^ 64
  pub block : is_block_size m.block ≡ true
  pub retention : m.retention < 2 ^ 64
  pub id : IsId m.id
  pub writers : Ascends writer_id m.writers
  pub each_writer : AllByRecursion (MeetsWriterRules m.number) m.writers
  pub dbs : Ascends db_name m.dbs
  pub each_db : AllByRecursion (MeetsEntryRules m.block) m.dbs
  pub dead : Ascends dead_id m.dead
  pub each_dead : AllByRecursion (MeetsDeadRules m.dbs) m.dead

-- ---- lengths and limits

-- the bytes of a database's entry
abbrev pub entry_length : DbEntry → ℕ
entry_length d = 25 + length d.name + 16 * length d.blocks

abbrev pub total_length : List DbEntry → ℕ
total_length [] = 0
total_length (d ∷ ds) = entry_length d + total_length ds

-- the bytes of a manifest with so many writers, so many bytes of entries and so many dead blocks
abbrev pub length_of : ℕ → ℕ → ℕ → ℕ
length_of writers entries dead = 64 + 40 * writers + entries + 24 * dead

-- the bytes of a manifest
abbrev pub manifest_length : Manifest → ℕ
manifest_length m = length_of (length m.writers) (total_length m.dbs) (length m.dead)

-- no more writers, databases and dead blocks than there may be
pub record MeetsLimits (m : Manifest) : Type 0 where
  pub few_writers : length m.writers ≤ most_writers
  pub few_dbs : length m.dbs ≤ most_databases
  pub few_dead : length m.dead ≤ most_dead

-- the bytes of a manifest as it is written are no more than there may be
abbrev pub IsShort : Manifest → Type 0
IsShort m = manifest_length m ≤ most_bytes
