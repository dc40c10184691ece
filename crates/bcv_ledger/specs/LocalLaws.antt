-- Where a commit and a revert pass, their note may stand.
use Rattle.std.specs.Prelude.{◌≡◌, ◌^◌, ◌<◌, ℕ, List, Some, None}
use Rattle.bcv_base.specs.declared.log.Entry.{Entry}
use Rattle.bcv_base.specs.History.{history_of}
use Rattle.bcv_base.specs.Keyed.{keyed}
use Rattle.bcv_cache.specs.Entry as cache
use Rattle.bcv_databases.specs.Catalog.{known_name}
use Rattle.bcv_databases.specs.Changes.{note_over}
use Rattle.bcv_dbmap.specs.Sound.{IsSoundLog}
use Rattle.bcv_machine.specs.State as m
use Rattle.bcv_model.specs.declared.ask.Commit.{Commit}
use Rattle.bcv_model.specs.declared.note.Note.{Note}
use Rattle.bcv_model.specs.declared.note.Note.TheVariants as note
use Rattle.bcv_model.specs.Commits.{writes_of}
use Rattle.bcv_model.specs.Notes.{kept_name}
use Rattle.bcv_clientstate.specs.Fits.{Fits}
use Rattle.bcv_clientstate.specs.NoteSides.{MayNote}
use Rattle.bcv_clientstate.specs.PartRefusals.{PartView, commit_reason, part_view, revert_reason}
use Rattle.bcv_clientstate.specs.Parts.{Parts}

-- a commit that is not refused: its size is a number of 32 bits
abbrev pub CommitMayStand : Type 0
CommitMayStand =
    (log : List Entry) (entries : List cache.Entry) (p : Parts) (db : List ℕ) (c : Commit) (v : PartView) (x : Note) → IsSoundLog log → Fits p entries log
    → c.size < 2 ^ 32 → commit_reason p db (writes_of c) ≡ None → part_view p db ≡ Some v
    → note_over db c (keyed kept_name db p.kept.locals) (keyed known_name db p.known) ≡ Some x
    → MayNote (history_of log) p x (m.Committing db v.number (writes_of c))

abbrev pub RevertMayStand : Type 0
RevertMayStand =
    (log : List Entry) (entries : List cache.Entry) (p : Parts) (db : List ℕ) → IsSoundLog log → Fits p entries log → revert_reason p db ≡ None
    → MayNote (history_of log) p (note.Revert db) (m.Reverting db)
