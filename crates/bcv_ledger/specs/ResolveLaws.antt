-- The end of a resolve in the machine's words, by how its note ended.
use Rattle.std.specs.Prelude.{◌≡◌, ℕ, true, false, List, Some, None}
use Rattle.bcv_base.specs.declared.id.Id16.{Id16}
use Rattle.bcv_base.specs.declared.outcome.Outcome.TheVariants as outcome
use Rattle.bcv_base.specs.History.{Item}
use Rattle.bcv_base.specs.Versions.{versions_of}
use Rattle.bcv_machine.specs.Resolve.{Resolves, number_from}
use Rattle.bcv_machine.specs.State as m
use Rattle.bcv_model.specs.declared.kept.PendingPub.{PendingPub}
use Rattle.bcv_model.specs.declared.note.Note as bytes
use Rattle.bcv_model.specs.declared.note.Note.TheVariants as note
use Rattle.bcv_model.specs.declared.reply.Reply.TheVariants as reply
use Rattle.bcv_model.specs.Notes.{after_note, note_size}
use Rattle.bcv_clientstate.specs.Journaled.{free_failed, free_noted}
use Rattle.bcv_clientstate.specs.LocalSides.{shut}
use Rattle.bcv_clientstate.specs.NoteSides.{MayNote, with_note}
use Rattle.bcv_clientstate.specs.PartRefusals.{runs_publication}
use Rattle.bcv_clientstate.specs.Parts.{Parts}
use Rattle.bcv_clientstate.specs.SeenClient.{Free, seen_up, side_of}
use Rattle.bcv_ledger.specs.NoteEnds.{known_found}

-- the client whose pending publication was found to be made as the version of a number
abbrev pub found_made : Id16 → ℕ → Parts → Parts
found_made id number p = record p { kept = after_note p.kept (note.Done id number); known = known_found p.kept id number p.known }

-- the pending publication of a client of which nothing else publishes
pub record IsResolved (past : List Item) (p : Parts) (x : PendingPub) (z : bytes.Note) (y : m.Note) : Type 0 where
  pub may : MayNote past p z y
  pub pending : p.kept.pending ≡ Some x
  pub quiet : runs_publication p ≡ false

-- it was made, and the note stands, or the disk failed at it
abbrev pub MadeIsResolved : Type 0
MadeIsResolved =
    (moment : ℕ) (past : List Item) (p : Parts) (f : Free) (x : PendingPub) (n : ℕ) → IsResolved past p x (note.Done x.id n) (m.Finishing n) → number_from 1 x.id (versions_of past) ≡ Some n
    → Resolves (side_of moment past p f) (seen_up past p) outcome.Ok (reply.Resolved n) (side_of moment past (found_made x.id n p) (free_noted (note_size (note.Done x.id n)) f))

abbrev pub MadeMeetsFault : Type 0
MadeMeetsFault =
    (moment : ℕ) (past : List Item) (p : Parts) (f : Free) (x : PendingPub) (n : ℕ) → IsResolved past p x (note.Done x.id n) (m.Finishing n) → number_from 1 x.id (versions_of past) ≡ Some n → f.failing ≡ true
    → Resolves (side_of moment past p f) (seen_up past p) outcome.Ok reply.DiskFault (side_of moment past (shut p) (free_failed (note_size (note.Done x.id n)) (m.Finishing n) f))

-- it was not made
abbrev pub VoidedIsResolved : Type 0
VoidedIsResolved =
    (moment : ℕ) (past : List Item) (p : Parts) (f : Free) (x : PendingPub) → IsResolved past p x (note.Void x.id) m.Voiding → number_from 1 x.id (versions_of past) ≡ None
    → Resolves (side_of moment past p f) (seen_up past p) outcome.Ok reply.Voided (side_of moment past (with_note (note.Void x.id) p) (free_noted (note_size (note.Void x.id)) f))

abbrev pub VoidedMeetsFault : Type 0
VoidedMeetsFault =
    (moment : ℕ) (past : List Item) (p : Parts) (f : Free) (x : PendingPub) → IsResolved past p x (note.Void x.id) m.Voiding → number_from 1 x.id (versions_of past) ≡ None → f.failing ≡ true
    → Resolves (side_of moment past p f) (seen_up past p) outcome.Ok reply.DiskFault (side_of moment past (shut p) (free_failed (note_size (note.Void x.id)) m.Voiding f))
