use Rattle.std.proofs.Common.{◌∙◌, Option, sym, subst}
use Rattle.bcv_model.specs.declared.note.Note.TheVariants.{Void}
use Rattle.bcv_model.specs.declared.reply.Reply.{Reply}
use Rattle.bcv_ledger.specs.NoteEnds.{NoteEnds}
use Rattle.bcv_ledger.proofs.NotesEnded.{ended, kept_where, known_kept, known_where, never_full, views_where}
use Rattle.bcv_ledger.proofs.ledger.Ledger.unmade.Goals as goal

pub void-requires : goal.void-requires
void-requires g c = c.requires.waits

pub returns-clause-ends : goal.returns-clause-ends
returns-clause-ends g c =
    let d = g.D.Disk in
    let old = c.args.self.now in
    let new = c.void.new.self in
    let x = Void c.args.id in
    let r = c.void.result in
    subst (λ (fault : Option Reply). NoteEnds d.told d.shown old new x old.databases.known fault) (sym c.noted_fault.ensures)
    (ended d.told d.shown old new x c.requires.is_open r old.databases.known c.void.ensures.notes.tried
    (kept_where r x old.databases new.databases c.void.ensures.notes.databases)
    (known_where r x old.databases new.databases c.void.ensures.notes.databases ∙ sym (known_kept _ old.databases.known))
    (views_where r x old.databases new.databases c.void.ensures.notes.databases))

pub returns-clause-fits : goal.returns-clause-fits
returns-clause-fits g c full = never_full c.void.result c.void.ensures.fits (sym c.noted_fault.ensures ∙ full)
