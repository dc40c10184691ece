-- Which bytes are a manifest, field by field from the left, and where the first field at fault starts.
use Rattle.std.specs.Prelude.{ℕ, zero, suc, ◌-◌, Bool, true, ◌&&◌, List, [], ◌∷◌, length, take, drop, Option, Some, None, Result, Ok, Err, nat_lt, nat_le, not, ◌==◌, if◌then◌else◌}
use Rattle.std.specs.Int.{Width, w8, w32, w64, byte_len, from_be_bytes}
use Rattle.std.specs.Str.{bytes_eq}
use Rattle.bcv_base.specs.declared.id.Id16.{Id16}
use Rattle.bcv_base.specs.declared.manifest.DbEntry.{DbEntry}
use Rattle.bcv_base.specs.declared.manifest.Dead.{Dead}
use Rattle.bcv_base.specs.declared.manifest.Manifest.{Manifest}
use Rattle.bcv_base.specs.declared.manifest.Writer.{Writer}
use Rattle.bcv_base.specs.Keyed.{comes_before}
use Rattle.bcv_base.specs.ManifestRules.{writer_id, db_name, dead_id, lists, is_block_size, is_page_size, blocks_needed}
use Rattle.bcv_base.specs.ManifestText.{magic, id_text}
use Rattle.bcv_base.specs.Names.{is_name}
use Rattle.bcv_base.specs.SizeLimits.{most_writers, most_databases, most_blocks, most_dead, most_bytes}

-- a value and the bytes after it, or how many bytes there are from the start of the field at fault on
abbrev pub Read : Type 0 → Type 0
Read A = Result (A × List ℕ) ℕ

infixl 10 ◌>>=◌
abbrev pub ◌>>=◌ : {A B : Type 0} → Result A ℕ → (A → Result B ℕ) → Result B ℕ
(Ok x) >>= f = f x
(Err left) >>= f = Err left

-- ---- single fields

-- so many bytes; they may be cut
abbrev pub bytes_at : ℕ → List ℕ → Read (List ℕ)
bytes_at n bytes = if nat_lt (length bytes) n then Err (length bytes) else Ok (take n bytes, drop n bytes)

abbrev pub number_at : Width → List ℕ → Read ℕ
number_at w bytes = do
  field ← bytes_at (byte_len w) bytes
  Ok (from_be_bytes w field.0, field.1)

abbrev pub id_at : List ℕ → Read Id16
id_at bytes = do
  field ← bytes_at 16 bytes
  Ok (record { 0 = field.0 }, field.1)

-- a field that is to meet a rule; where it doesn't, the fault is the field's
abbrev pub such : {A : Type 0} → (List ℕ → Read A) → (A → Bool) → List ℕ → Read A
such field rule bytes = do
  x ← field bytes
  if rule x.0 then Ok x else Err (length bytes)

-- ---- lists

-- the key stands behind the one before it, where there is one
abbrev pub is_above : Option (List ℕ) → List ℕ → Bool
is_above None k = true
is_above (Some before) k = comes_before before k

-- so many items, each read with the key of the one before it
unfoldable pub items_at : {A : Type 0} → (A → List ℕ) → (Option (List ℕ) → List ℕ → Read A) → ℕ → Option (List ℕ) → List ℕ → Read (List A)
items_at key item zero before bytes = Ok ([], bytes)
items_at key item (suc n) before bytes = do
  first ← item before bytes
  others ← items_at key item n (Some (key first.0)) first.1
  Ok (first.0 ∷ others.0, others.1)

-- a count, at most so great, and as many items
unfoldable pub counted_at : {A : Type 0} → ℕ → (A → List ℕ) → (Option (List ℕ) → List ℕ → Read A) → List ℕ → Read (List A)
counted_at most key item bytes = do
  count ← such (number_at w32) (λ n. nat_le n most) bytes
  items_at key item count.0 None count.1

-- a writer, in a manifest of some number
unfoldable pub writer_at : ℕ → Option (List ℕ) → List ℕ → Read Writer
writer_at most before bytes = do
  id ← such id_at (λ i. is_above before i.0) bytes
  last ← id_at id.1
  number ← such (number_at w64) (λ n. nat_le 1 n && nat_le n most) last.1
  Ok (record { id = id.0; last = last.0; number = number.0 }, number.1)

-- a database, over blocks of some size
unfoldable pub entry_at : ℕ → Option (List ℕ) → List ℕ → Read DbEntry
entry_at block before bytes = do
  len ← such (number_at w8) (λ n. nat_le 1 n && nat_le n 64) bytes
  name ← such (bytes_at len.0) (λ k. is_name k && is_above before k) len.1
  tag ← id_at name.1
  page_size ← such (number_at w32) (is_page_size block) tag.1
  pages ← such (number_at w32) (λ n. nat_le (blocks_needed block page_size.0 n) most_blocks) page_size.1
  blocks ← items_at id_text (λ _. id_at) (blocks_needed block page_size.0 pages.0) None pages.1
  Ok (record { name = name.0; tag = tag.0; page_size = page_size.0; pages = pages.0; blocks = blocks.0 }, blocks.1)

-- a dead block, where some blocks are listed
unfoldable pub dead_at : (Id16 → Bool) → Option (List ℕ) → List ℕ → Read Dead
dead_at is_listed before bytes = do
  id ← such id_at (λ i. is_above before i.0 && not (is_listed i)) bytes
  stamp ← number_at w64 id.1
  Ok (record { id = id.0; stamp = stamp.0 }, stamp.1)

-- ---- the whole

-- what stands before the lists, from the magic to the publication's id: a manifest with empty lists
unfoldable pub head_at : List ℕ → Read Manifest
head_at bytes = do
  front ← such (bytes_at 8) (λ k. bytes_eq k magic) bytes
  number ← such (number_at w64) (λ n. nat_le 1 n) front.1
  moment ← number_at w64 number.1
  block ← such (number_at w32) is_block_size moment.1
  retention ← number_at w64 block.1
  id ← id_at retention.1
  Ok (record { number = number.0; moment = moment.0; block = block.0; retention = retention.0; id = id.0; writers = []; dbs = []; dead = [] }, id.1)

-- the lists of a manifest, after its head
unfoldable pub lists_at : Manifest → List ℕ → Read Manifest
lists_at head bytes = do
  writers ← counted_at most_writers writer_id (writer_at head.number) bytes
  dbs ← counted_at most_databases db_name (entry_at head.block) writers.1
  dead ← counted_at most_dead dead_id (dead_at (lists dbs.0)) dbs.1
  Ok (record head { writers = writers.0; dbs = dbs.0; dead = dead.0 }, dead.1)

-- a manifest at the front of the bytes
unfoldable pub manifest_at : List ℕ → Read Manifest
manifest_at bytes = do
  head ← head_at bytes
  lists_at head.0 head.1

-- the manifest that all of the bytes are; where they go on behind it, the fault is there
unfoldable pub whole_at : List ℕ → Result Manifest ℕ
whole_at bytes = do
  m ← manifest_at bytes
  if length m.1 == 0 then Ok m.0 else Err (length m.1)

-- a fault, told by its place in so many bytes
abbrev pub placed : {A : Type 0} → ℕ → Result A ℕ → Result A ℕ
placed total (Ok x) = Ok x
placed total (Err left) = Err (total - left)

-- the manifest that the bytes are, or the place of the fault; where they are too long, that is the length allowed
unfoldable pub manifest_of : List ℕ → Result Manifest ℕ
manifest_of bytes = if nat_lt most_bytes (length bytes) then Err most_bytes else placed (length bytes) (whole_at bytes)

-- the database's entry at the front of the bytes and its length, or the place of the fault
unfoldable pub entry_of : ℕ → List ℕ → Result (DbEntry × ℕ) ℕ
entry_of block bytes = placed (length bytes) (do
  d ← entry_at block None bytes
  Ok (d.0, length bytes - length d.1))
