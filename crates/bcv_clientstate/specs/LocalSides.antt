-- A commit and a revert in the machine's words, by how their note ended.
use Rattle.std.specs.Prelude.{◌≡◌, ◌+◌, ◌*◌, ◌^◌, ◌<◌, ℕ, true, List, Some, None}
use Rattle.bcv_base.specs.declared.log.Entry.{Entry}
use Rattle.bcv_base.specs.History.{history_of}
use Rattle.bcv_base.specs.Image.{Writes}
use Rattle.bcv_base.specs.Keyed.{keyed, with_keyed, without_keyed}
use Rattle.bcv_cache.specs.Entry as cache
use Rattle.bcv_dbmap.specs.Sound.{IsSoundLog}
use Rattle.bcv_machine.specs.LocalWriting.{Commits, Reverts}
use Rattle.bcv_machine.specs.State as m
use Rattle.bcv_model.specs.declared.kept.Local.{Local}
use Rattle.bcv_model.specs.declared.note.Note as bytes
use Rattle.bcv_model.specs.declared.note.Note.TheVariants as note
use Rattle.bcv_model.specs.declared.reply.Reply.{Reply}
use Rattle.bcv_model.specs.declared.reply.Reply.TheVariants as reply
use Rattle.bcv_model.specs.Notes.{kept_name, note_size}
use Rattle.bcv_databases.specs.Catalog.{known_name}
use Rattle.bcv_clientstate.specs.Fits.{Fits}
use Rattle.bcv_clientstate.specs.Journaled.{free_failed, free_noted}
use Rattle.bcv_clientstate.specs.NoteSides.{MayNote, with_note}
use Rattle.bcv_clientstate.specs.PartRefusals.{PartView, commit_reason, part_view, revert_reason}
use Rattle.bcv_databases.specs.declared.known.Known.{Known}
use Rattle.bcv_clientstate.specs.Parts.{Parts}
use Rattle.bcv_clientstate.specs.SeenClient.{Free, seen_up, side_of}

-- ---- the client afterwards

-- the note of a commit stands, and the database is among those with commits
abbrev pub committed : List ℕ → bytes.Note → Parts → Parts
committed db x p = record (with_note x p) { known = without_keyed known_name db p.known }

-- the database of some commits without them
abbrev pub known_again : Local → Known
known_again l = record { entry = l.entry; number = l.number; block = l.block }

-- the note of a revert stands, and the database is among those without commits, over its base
abbrev pub reverted : Local → bytes.Note → Parts → Parts
reverted l x p = record (with_note x p) { known = with_keyed known_name (known_again l) p.known }

-- the journal is closed
abbrev pub shut : Parts → Parts
shut p = record p { closed = true }

-- how the noting of a note ended, by the answer: the client goes on with this, or the disk failed, or the journal was too full
abbrev pub EndsLocally : Parts → Parts → Free → bytes.Note → m.Note → Reply → Parts → Free → Type 0
EndsLocally after p f x y reply.Fine q g = (q ≡ after) × (g ≡ free_noted (note_size x) f)
EndsLocally after p f x y reply.DiskFault q g = (f.failing ≡ true) × (q ≡ shut p) × (g ≡ free_failed (note_size x) y f)
EndsLocally after p f x y reply.JournalFull q g = (2 ^ 31 < 2 * f.noted + 87 + note_size x) × (q ≡ p) × (g ≡ f)
EndsLocally after p f x y _ q g = ⊥

-- ---- that these are the machine's

abbrev pub CommitsAsAsked : Type 0
CommitsAsAsked =
    (moment : ℕ) (log : List Entry) (entries : List cache.Entry) (p q : Parts) (f g : Free) (db : List ℕ) (w : Writes) (v : PartView) (x : bytes.Note) (r : Reply)
    → IsSoundLog log → Fits p entries log → commit_reason p db w ≡ None → part_view p db ≡ Some v → MayNote (history_of log) p x (m.Committing db v.number w)
    → EndsLocally (committed db x p) p f x (m.Committing db v.number w) r q g
    → Commits (side_of moment (history_of log) p f) (seen_up (history_of log) p) db w r (side_of moment (history_of log) q g)

-- a commit that is refused leaves the client
abbrev pub RefusesCommit : Type 0
RefusesCommit =
    (moment : ℕ) (log : List Entry) (entries : List cache.Entry) (p : Parts) (f : Free) (db : List ℕ) (w : Writes) (r : Reply)
    → IsSoundLog log → Fits p entries log → commit_reason p db w ≡ Some r
    → Commits (side_of moment (history_of log) p f) (seen_up (history_of log) p) db w r (side_of moment (history_of log) p f)

abbrev pub RevertsAsAsked : Type 0
RevertsAsAsked =
    (moment : ℕ) (log : List Entry) (p q : Parts) (f g : Free) (db : List ℕ) (l : Local) (r : Reply)
    → revert_reason p db ≡ None → keyed kept_name db p.kept.locals ≡ Some l → MayNote (history_of log) p (note.Revert db) (m.Reverting db)
    → EndsLocally (reverted l (note.Revert db) p) p f (note.Revert db) (m.Reverting db) r q g
    → Reverts (side_of moment (history_of log) p f) (seen_up (history_of log) p) db r (side_of moment (history_of log) q g)

abbrev pub RefusesRevert : Type 0
RefusesRevert =
    (moment : ℕ) (log : List Entry) (p : Parts) (f : Free) (db : List ℕ) (r : Reply) → revert_reason p db ≡ Some r
    → Reverts (side_of moment (history_of log) p f) (seen_up (history_of log) p) db r (side_of moment (history_of log) p f)
