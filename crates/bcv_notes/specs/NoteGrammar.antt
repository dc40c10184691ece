-- Which bytes are a note that may stand where something is kept, field by field from the left.
use Rattle.std.specs.Prelude.{ℕ, zero, suc, Bool, true, false, ◌&&◌, ◌==◌, List, [], ◌∷◌, length, Option, Some, None, Ok, Err, is_some, is_none, nat_lt, nat_le, if◌then◌else◌}
use Rattle.std.specs.Int.{w8, w32, w64}
use Rattle.std.specs.List.{list_all}
use Rattle.bcv_base.specs.declared.id.Id16.{Id16}
use Rattle.bcv_base.specs.Ids.{id_eq}
use Rattle.bcv_base.specs.Image.{Page}
use Rattle.bcv_base.specs.Keyed.{keyed}
use Rattle.bcv_base.specs.ManifestGrammar.{Read, such, bytes_at, number_at, id_at, entry_at}
use Rattle.bcv_base.specs.ManifestRules.{is_block_size, blocks_needed}
use Rattle.bcv_base.specs.Names.{is_name}
use Rattle.bcv_model.specs.declared.ask.Commit.{Commit}
use Rattle.bcv_model.specs.declared.kept.Kept.{Kept}
use Rattle.bcv_model.specs.declared.kept.Local.{Local}
use Rattle.bcv_model.specs.declared.kept.PendingPub.{PendingPub}
use Rattle.bcv_model.specs.declared.kept.Uploading.{Uploading}
use Rattle.bcv_model.specs.declared.note.Note.{Note}
use Rattle.bcv_model.specs.declared.note.Note.TheVariants.{Me, First, Committed, Intent, Done, Void, Revert}
use Rattle.bcv_model.specs.Notes.{kept_name}

-- a value and the bytes after it, where there is one at the front
abbrev pub Front : Type 0 → Type 0
Front A = Option (A × List ℕ)

infixl 10 ◌>>=◌
abbrev pub ◌>>=◌ : {A B : Type 0} → Option A → (A → Option B) → Option B
None >>= f = None
(Some x) >>= f = f x

-- what the manifest's grammar reads
abbrev pub front : {A : Type 0} → Read A → Front A
front (Ok x) = Some x
front (Err left) = None

-- ---- a name and an entry

abbrev pub name_at : List ℕ → Front (List ℕ)
name_at bytes = do
  len ← front (number_at w8 bytes)
  front (such (bytes_at len.0) is_name len.1)

-- ---- commits

-- a page after its number, which is above the one before it and at most the size
abbrev pub page_at : ℕ → ℕ → ℕ → List ℕ → Front (ℕ × Page)
page_at page_size most before bytes = do
  number ← front (such (number_at w32) (λ n. nat_lt before n && nat_le n most) bytes)
  page ← front (bytes_at page_size number.1)
  Some ((number.0, page.0), page.1)

-- so many pages
unfoldable pub pages_at : ℕ → ℕ → ℕ → ℕ → List ℕ → Front (List (ℕ × Page))
pages_at page_size most zero before bytes = Some ([], bytes)
pages_at page_size most (suc n) before bytes = do
  first ← page_at page_size most before bytes
  others ← pages_at page_size most n first.0.0 first.1
  Some (first.0 ∷ others.0, others.1)

unfoldable pub commit_at : ℕ → ℕ → List ℕ → Front Commit
commit_at block page_size bytes = do
  size ← front (such (number_at w32) (λ n. nat_le (blocks_needed block page_size n) 65536) bytes)
  count ← front (number_at w32 size.1)
  pages ← pages_at page_size size.0 count.0 0 count.1
  Some (record { size = size.0; pages = pages.0 }, pages.1)

-- ---- uploads

-- the upload is of a database with as many commits, and with these sizes
abbrev pub is_upload_of : Option Local → Uploading → Bool
is_upload_of None u = false
is_upload_of (Some l) u = nat_le 1 u.count && nat_le u.count (length l.commits) && (u.block == l.block) && (u.entry.page_size == l.entry.page_size)

abbrev pub may_upload : Kept → Uploading → Bool
may_upload k u = is_upload_of (keyed kept_name u.entry.name k.locals) u

-- the upload, where it passes a test
abbrev pub taken_where : Bool → Uploading → List ℕ → Front (Option Uploading)
taken_where may u rest = if may then Some (Some u, rest) else None

unfoldable pub uploading_at : Kept → List ℕ → Front (Option Uploading)
uploading_at k bytes = do
  count ← front (number_at w64 bytes)
  block ← front (such (number_at w32) is_block_size count.1)
  entry ← front (entry_at block.0 None block.1)
  taken_where (may_upload k (record { count = count.0; block = block.0; entry = entry.0 })) (record { count = count.0; block = block.0; entry = entry.0 }) entry.1

abbrev pub flagged : Kept → ℕ → List ℕ → Front (Option Uploading)
flagged k flag bytes = if flag == 0 then Some (None, bytes) else (if flag == 1 then uploading_at k bytes else None)

unfoldable pub upload_at : Kept → List ℕ → Front (Option Uploading)
upload_at k bytes = do
  flag ← front (number_at w8 bytes)
  flagged k flag.0 flag.1

-- ---- notes

-- a note that passes a test, where nothing follows it
abbrev pub ends_at : Bool → Note → List ℕ → Option Note
ends_at may note rest = if may && (length rest == 0) then Some note else None

-- no database of the name has commits, and all databases with commits have the block size
abbrev pub is_new_local : Kept → List ℕ → ℕ → Bool
is_new_local k db block = is_none (keyed kept_name db k.locals) && list_all (λ (l : Local). l.block == block) k.locals

-- the publication of this id is pending
abbrev pub is_pending_as : Option PendingPub → Id16 → Bool
is_pending_as None id = false
is_pending_as (Some p) id = id_eq p.id id

unfoldable pub me_at : Kept → List ℕ → Option Note
me_at k bytes = do
  id ← front (id_at bytes)
  ends_at (is_none k.me) (Me id.0) id.1

unfoldable pub first_at : Kept → List ℕ → Option Note
first_at k bytes = do
  block ← front (such (number_at w32) is_block_size bytes)
  number ← front (such (number_at w64) (nat_le 1) block.1)
  entry ← front (entry_at block.0 None number.1)
  commit ← commit_at block.0 entry.0.page_size entry.1
  ends_at (is_new_local k entry.0.name block.0) (First entry.0 number.0 block.0 commit.0) commit.1

unfoldable pub committed_at : Kept → List ℕ → Option Note
committed_at k bytes = do
  db ← name_at bytes
  local ← keyed kept_name db.0 k.locals
  commit ← commit_at local.block local.entry.page_size db.1
  ends_at true (Committed db.0 commit.0) commit.1

unfoldable pub intent_at : Kept → List ℕ → Option Note
intent_at k bytes = do
  id ← front (id_at bytes)
  upload ← upload_at k id.1
  ends_at (is_none k.pending) (Intent (record { id = id.0; upload = upload.0 })) upload.1

unfoldable pub done_at : Kept → List ℕ → Option Note
done_at k bytes = do
  id ← front (id_at bytes)
  number ← front (such (number_at w64) (nat_le 1) id.1)
  ends_at (is_pending_as k.pending id.0) (Done id.0 number.0) number.1

unfoldable pub void_at : Kept → List ℕ → Option Note
void_at k bytes = do
  id ← front (id_at bytes)
  ends_at (is_pending_as k.pending id.0) (Void id.0) id.1

unfoldable pub revert_at : Kept → List ℕ → Option Note
revert_at k bytes = do
  db ← name_at bytes
  ends_at (is_some (keyed kept_name db.0 k.locals) && is_none k.pending) (Revert db.0) db.1

-- the fields of a note after a Me, by its kind
abbrev pub kind_at : ℕ → Kept → List ℕ → Option Note
kind_at kind k bytes =
    if kind == 2 then first_at k bytes
    else (if kind == 3 then committed_at k bytes
    else (if kind == 4 then intent_at k bytes
    else (if kind == 5 then done_at k bytes
    else (if kind == 6 then void_at k bytes
    else (if kind == 7 then revert_at k bytes else None)))))

-- the note that the bytes are, all of them
unfoldable pub note_at : Kept → List ℕ → Option Note
note_at k [] = None
note_at k (kind ∷ bytes) = if kind == 1 then me_at k bytes else (if is_some k.me then kind_at kind k bytes else None)
