-- Laws on bases: what they are in the machine's words, that they stay, and how long the notes over them are.
use Rattle.std.specs.Prelude.{◌≡◌, ℕ, List, ◌++◌, map, take, Some, IfSome}
use Rattle.std.specs.List.{AllByRecursion}
use Rattle.bcv_base.specs.declared.log.Entry.{Entry}
use Rattle.bcv_base.specs.declared.manifest.DbEntry.{DbEntry}
use Rattle.bcv_base.specs.History.{Item, history_of, last_of}
use Rattle.bcv_base.specs.Joined.{database_of}
use Rattle.bcv_base.specs.Keyed.{keyed}
use Rattle.bcv_base.specs.Views.{view_size}
use Rattle.bcv_dbmap.specs.Sound.{Sound}
use Rattle.bcv_model.specs.declared.kept.Kept.{Kept}
use Rattle.bcv_model.specs.declared.kept.Local.{Local}
use Rattle.bcv_model.specs.declared.kept.Uploading.{Uploading}
use Rattle.bcv_model.specs.declared.note.Note as bytes
use Rattle.bcv_model.specs.declared.note.Note.TheVariants as note
use Rattle.bcv_model.specs.Commits.{writes_of}
use Rattle.bcv_model.specs.NoteRules.{MayStand}
use Rattle.bcv_model.specs.Notes.{kept_name, note_size}
use Rattle.bcv_machine.specs.Noting.{logged}
use Rattle.bcv_machine.specs.State.{database_at}
use Rattle.bcv_clientstate.specs.SeenContainer.{HasBase, block_in, container_of}
use Rattle.bcv_clientstate.specs.SeenKept.{seen_kept, seen_note}

-- ---- databases

-- a base is the machine's database of its version, with the image that its blocks make
abbrev pub BaseIsDatabase : Type 0
BaseIsDatabase =
    (moment : ℕ) (past : List Item) (number block : ℕ) (e : DbEntry) → Sound past → HasBase past number block e
    → database_at (container_of moment past) number e.name ≡ Some (database_of past e)

-- its block size is the container's
abbrev pub BaseHasBlock : Type 0
BaseHasBlock = (past : List Item) (number block : ℕ) (e : DbEntry) → Sound past → HasBase past number block e → block_in (last_of past) ≡ block

-- a base stays, whatever is appended
abbrev pub BaseStays : Type 0
BaseStays =
    (log more : List Entry) (number block : ℕ) (e : DbEntry) → HasBase (history_of log) number block e → HasBase (history_of (log ++ more)) number block e

-- ---- notes

-- a database with commits stands on a base of its block size
abbrev pub FitsLocal : List Item → Local → Type 0
FitsLocal past l = HasBase past l.number l.block l.entry

-- what an upload publishes has the pages of the view of the commits that it takes
abbrev pub FitsUpload : Kept → Uploading → Type 0
FitsUpload k u = IfSome (keyed kept_name u.entry.name k.locals) (λ l. u.entry.pages ≡ view_size l.entry.pages (take u.count (map writes_of l.commits)))

-- a first commit stands on a base, and an upload is that of a view
abbrev pub FitsNote : List Item → Kept → bytes.Note → Type 0
FitsNote past k (note.Me id) = Unit {0}
FitsNote past k (note.First entry number block commit) = HasBase past number block entry
FitsNote past k (note.Committed db commit) = Unit {0}
FitsNote past k (note.Intent p) = IfSome p.upload (FitsUpload k)
FitsNote past k (note.Done id number) = Unit {0}
FitsNote past k (note.Void id) = Unit {0}
FitsNote past k (note.Revert db) = Unit {0}

-- a note has as many bytes as the machine counts
abbrev pub NotesHaveSizes : Type 0
NotesHaveSizes =
    (moment : ℕ) (past : List Item) (k : Kept) (x : bytes.Note) → Sound past → AllByRecursion (FitsLocal past) k.locals → MayStand k x → FitsNote past k x
    → IfSome (seen_note k x) (λ y. note_size x ≡ note_size (logged (container_of moment past) (seen_kept k) y))
