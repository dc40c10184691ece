-- The notes of a client's log: the bytes of a note, how many they are, and what a client keeps after it.
use Rattle.std.specs.Prelude.{ℕ, ◌+◌, List, [], ◌∷◌, ◌++◌, length, drop, Option, Some, None, if◌then◌else◌}
use Rattle.std.specs.Int.{w8, w32, w64, to_be_bytes}
use Rattle.std.specs.List.{flat_map}
use Rattle.std.specs.Str.{bytes_eq}
use Rattle.bcv_base.specs.Image.{Page}
use Rattle.bcv_base.specs.Keyed.{with_keyed, without_keyed}
use Rattle.bcv_base.specs.ManifestRules.{entry_length}
use Rattle.bcv_base.specs.ManifestText.{entry_text}
use Rattle.bcv_model.specs.declared.ask.Commit.{Commit}
use Rattle.bcv_model.specs.declared.kept.Kept.{Kept}
use Rattle.bcv_model.specs.declared.kept.Local.{Local}
use Rattle.bcv_model.specs.declared.kept.PendingPub.{PendingPub}
use Rattle.bcv_model.specs.declared.kept.Uploading.{Uploading}
use Rattle.bcv_model.specs.declared.note.Note.{Note}
use Rattle.bcv_model.specs.declared.note.Note.TheVariants.{Me, First, Committed, Intent, Done, Void, Revert}

-- ---- bytes

-- a page after its number
abbrev pub numbered_page : ℕ × Page → List ℕ
numbered_page p = to_be_bytes w32 p.0 ++ p.1

-- the size, how many pages, and the pages
abbrev pub commit_text : Commit → List ℕ
commit_text c = to_be_bytes w32 c.size ++ (to_be_bytes w32 (length c.pages) ++ flat_map numbered_page c.pages)

-- a name after its length
abbrev pub name_field : List ℕ → List ℕ
name_field name = to_be_bytes w8 (length name) ++ name

-- a flag, and where it is 1 the count, the block size and the entry of an upload
abbrev pub upload_text : Option Uploading → List ℕ
upload_text None = 0 ∷ []
upload_text (Some u) = 1 ∷ (to_be_bytes w64 u.count ++ (to_be_bytes w32 u.block ++ entry_text u.entry))

-- a note's bytes: its kind, and its fields
abbrev pub note_text : Note → List ℕ
note_text (Me id) = 1 ∷ id.0
note_text (First entry number block commit) = 2 ∷ (to_be_bytes w32 block ++ (to_be_bytes w64 number ++ (entry_text entry ++ commit_text commit)))
note_text (Committed db commit) = 3 ∷ (name_field db ++ commit_text commit)
note_text (Intent p) = 4 ∷ (p.id.0 ++ upload_text p.upload)
note_text (Done id number) = 5 ∷ (id.0 ++ to_be_bytes w64 number)
note_text (Void id) = 6 ∷ id.0
note_text (Revert db) = 7 ∷ name_field db

-- ---- how many bytes

-- the bytes of pages, each after its number
abbrev pub pages_size : List (ℕ × Page) → ℕ
pages_size [] = 0
pages_size (p ∷ ps) = 4 + length p.1 + pages_size ps

abbrev pub commit_size : List (ℕ × Page) → ℕ
commit_size pages = 8 + pages_size pages

abbrev pub upload_size : Option Uploading → ℕ
upload_size None = 0
upload_size (Some u) = 12 + entry_length u.entry

-- the length of a note's bytes
abbrev pub note_size : Note → ℕ
note_size (Me id) = 17
note_size (First entry number block commit) = 13 + entry_length entry + commit_size commit.pages
note_size (Committed db commit) = 2 + length db + commit_size commit.pages
note_size (Intent p) = 18 + upload_size p.upload
note_size (Done id number) = 25
note_size (Void id) = 17
note_size (Revert db) = 2 + length db

-- ---- what is kept after a note

abbrev pub kept_name : Local → List ℕ
kept_name l = l.entry.name

-- a client that has noted nothing
abbrev pub nothing_kept : Kept
nothing_kept = record { me = None; locals = []; pending = None }

-- the databases with others in the place of the first of a name
abbrev pub replaced_local : (Local → List Local) → List ℕ → List Local → List Local
replaced_local change db [] = []
replaced_local change db (l ∷ ls) = if bytes_eq (kept_name l) db then change l ++ ls else l ∷ replaced_local change db ls

-- the databases with one more commit of one of them
abbrev pub with_local_commit : List ℕ → Commit → List Local → List Local
with_local_commit db c ls = replaced_local (λ l. record l { commits = l.commits ++ c ∷ [] } ∷ []) db ls

-- a database over the base of an upload, where it has commits that the upload did not take
abbrev pub rebased : ℕ → Uploading → List Commit → List Local
rebased number u [] = []
rebased number u (c ∷ cs) = record { entry = u.entry; number = number; block = u.block; commits = c ∷ cs } ∷ []

-- the databases after an upload that was published as the version of this number: the commits that it took leave
abbrev pub with_uploaded : ℕ → Uploading → List Local → List Local
with_uploaded number u ls = replaced_local (λ l. rebased number u (drop u.count l.commits)) u.entry.name ls

-- the databases after a publication of which this was the upload
abbrev pub with_published : ℕ → Option Uploading → List Local → List Local
with_published number None ls = ls
with_published number (Some u) ls = with_uploaded number u ls

-- what is kept after a publication that was pending has been made
abbrev pub kept_published : ℕ → Kept → Option PendingPub → Kept
kept_published number k None = k
kept_published number k (Some p) = record { me = k.me; locals = with_published number p.upload k.locals; pending = None }

-- what is kept after a note
abbrev pub after_note : Kept → Note → Kept
after_note k (Me id) = record k { me = Some id }
after_note k (First entry number block commit) = record k { locals = with_keyed kept_name (record { entry = entry; number = number; block = block; commits = commit ∷ [] }) k.locals }
after_note k (Committed db commit) = record k { locals = with_local_commit db commit k.locals }
after_note k (Intent p) = record k { pending = Some p }
after_note k (Done id number) = kept_published number k k.pending
after_note k (Void id) = record k { pending = None }
after_note k (Revert db) = record k { locals = without_keyed kept_name db k.locals }
