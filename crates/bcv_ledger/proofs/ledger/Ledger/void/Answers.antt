use Rattle.std.proofs.Common.{Bool, refl, subst}
use Rattle.bcv_model.specs.declared.note.Note.TheVariants.{Void}
use Rattle.bcv_ledger.specs.LedgerNotes.{EndsWhere, stands}
use Rattle.bcv_ledger.proofs.LedgerNoted.{tried}
use Rattle.bcv_ledger.proofs.NotesEnded.{kept_where, still_waits}
use Rattle.bcv_ledger.proofs.ledger.Ledger.void.Goals as goal

pub returns-clause-notes : goal.returns-clause-notes
returns-clause-notes g c =
    let old = c.args.self.now in
    let d = g.D.Disk in
    let x = Void c.args.id in
    record {
      tried = tried d.told d.shown g.met.D.Disk.counts_now old.log c.void-noted.new.self old.databases.kept x c.void-noted.result c.span-2.ensures.leaves refl c.void-noted.ensures.notes;
      databases = subst (λ (b : Bool). EndsWhere b old.databases c.void_where.new.databases x) c.stands.ensures (c.void_where.ensures c.args.id);
    }

pub invariant_of-self : goal.invariant_of-self
invariant_of-self g c =
    let old = c.args.self.now in
    let d = g.D.Disk in
    let x = Void c.args.id in
    let r = c.void-noted.result in
    let ends : EndsWhere (stands r) old.databases c.void_where.new.databases x = subst (λ (b : Bool). EndsWhere b old.databases c.void_where.new.databases x) c.stands.ensures (c.void_where.ensures c.args.id) in
    record {
      waits = still_waits d.told d.shown old.log c.void-noted.new.self x r old.databases.kept c.void_where.new.databases.kept c.void-noted.ensures.notes.leaves (kept_where r x old.databases c.void_where.new.databases ends) old.waits (λ some. absurd (cc));
    }
