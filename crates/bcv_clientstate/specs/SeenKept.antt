-- What a client keeps through a crash, in the machine's words.
use Rattle.std.specs.Prelude.{ℕ, List, map, Option, Some, None}
use Rattle.std.specs.Option.{option_map}
use Rattle.bcv_base.specs.Keyed.{keyed}
use Rattle.bcv_model.specs.Commits.{writes_of}
use Rattle.bcv_model.specs.declared.ask.Commit.{Commit}
use Rattle.bcv_model.specs.declared.kept.Kept.{Kept}
use Rattle.bcv_model.specs.declared.kept.Local.{Local}
use Rattle.bcv_model.specs.declared.kept.PendingPub.{PendingPub}
use Rattle.bcv_model.specs.declared.kept.Uploading.{Uploading}
use Rattle.bcv_model.specs.declared.note.Note as bytes
use Rattle.bcv_model.specs.declared.note.Note.TheVariants as note
use Rattle.bcv_model.specs.Notes.{kept_name}
use Rattle.bcv_machine.specs.State.{KeptState, LocalDb, Taken, Pending, Note, Committing, Reverting, Intending, Finishing, Voiding}

-- a database with commits: the number of its base, and what each commit writes
abbrev pub seen_local : Local → LocalDb
seen_local l = record { name = kept_name l; base = l.number; commits = map writes_of l.commits }

-- an upload takes the first commits of a database
abbrev pub seen_upload : Uploading → Taken
seen_upload u = record { db = u.entry.name; count = u.count }

abbrev pub seen_pending : PendingPub → Pending
seen_pending p = record { id = p.id; upload = option_map seen_upload p.upload }

abbrev pub seen_kept : Kept → KeptState
seen_kept k = record { locals = map seen_local k.locals; pending = option_map seen_pending k.pending }

-- one more commit of a database, over the base that it has
abbrev pub seen_commit : List ℕ → Commit → Option Local → Option Note
seen_commit db c None = None
seen_commit db c (Some l) = Some (Committing db l.number (writes_of c))

-- a note of the log where this is kept, as the machine's note; the note of the client's own id is none of these
abbrev pub seen_note : Kept → bytes.Note → Option Note
seen_note k (note.Me id) = None
seen_note k (note.First entry number block commit) = Some (Committing entry.name number (writes_of commit))
seen_note k (note.Committed db commit) = seen_commit db commit (keyed kept_name db k.locals)
seen_note k (note.Intent p) = Some (Intending (seen_pending p))
seen_note k (note.Done id number) = Some (Finishing number)
seen_note k (note.Void id) = Some Voiding
seen_note k (note.Revert db) = Some (Reverting db)
