use Rattle.std.proofs.Common.{subst, arith}
use Rattle.bcv_notes.specs.NoteGrammar.{note_at}
use Rattle.bcv_notes.specs.Reading.{StopsOn}
use Rattle.bcv_notes.specs.declared.stop.Stop.{Stop}
use Rattle.bcv_notes.proofs.ReadNotes.{note_take, note_never}
use Rattle.bcv_notes.proofs.reading.read_note.Goals as goal

pub returns-in-Ok : goal.returns-in-Ok
returns-in-Ok c = note_take c.args.kept.now c.args.item.now c.in-Ok.note (λ i. omega (arith, c.type_inv.item i)) c.in-Ok.ensures

pub returns-in-Err-NoNote : goal.returns-in-Err-NoNote
returns-in-Err-NoNote c =
    note_never c.args.kept.now c.args.item.now
    (subst (λ (s : Stop). StopsOn s (note_at c.args.kept.now c.args.item.now)) c.in-Err-NoNote.field-0-is c.in-Err-NoNote.ensures)
