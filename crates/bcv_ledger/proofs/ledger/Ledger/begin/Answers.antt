use Rattle.std.proofs.Common.{◌≡◌, ◌∙◌, true, false, Option, is_some, rules, sym, subst}
use Rattle.bcv_model.specs.declared.note.Note.TheVariants.{Intent}
use Rattle.bcv_model.specs.declared.reply.Reply.{Reply}
use Rattle.bcv_ledger.specs.Begins.{Begins}
use Rattle.bcv_ledger.proofs.Begun.{begun, begun_before}
use Rattle.bcv_ledger.proofs.NotesEnded.{ended, kept_where, known_kept, known_where, views_where}
use Rattle.bcv_ledger.proofs.ledger.Ledger.begin.Goals as goal

pub returns-then-is_some : goal.returns-then-is_some
returns-then-is_some g c =
    let d = g.D.Disk in
    let some : is_some c.args.self.now.databases.kept.pending ≡ true = (search rules) in
    begun_before d.told d.shown g.met.D.Disk.only_now c.args.self.now c.args.pending c.requires.is_open c.span.ensures.leaves some c.requires.waits

pub returns : goal.returns
returns g c =
    let d = g.D.Disk in
    let old = c.args.self.now in
    let new = c.intend.new.self in
    let x = Intent c.args.pending in
    let r = c.intend.result in
    let free : is_some old.databases.kept.pending ≡ false = (search rules) in
    subst (λ (fault : Option Reply). Begins d.told d.shown old new c.args.pending fault) (sym c.noted_fault.ensures)
    (begun d.told d.shown old new c.args.pending _ free
    (ended d.told d.shown old new x c.requires.is_open r old.databases.known c.intend.ensures.tried
    (kept_where r x old.databases new.databases c.intend.ensures.databases)
    (known_where r x old.databases new.databases c.intend.ensures.databases ∙ sym (known_kept _ old.databases.known))
    (views_where r x old.databases new.databases c.intend.ensures.databases)))
