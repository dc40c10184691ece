use Rattle.std.proofs.Common.{Bool, subst}
use Rattle.bcv_clientlog.specs.Noting.{LogCompacts}
use Rattle.bcv_model.specs.declared.kept.Kept.{Kept}
use Rattle.bcv_model.specs.declared.note.Note.TheVariants.{Intent}
use Rattle.bcv_ledger.specs.LedgerNotes.{EndsWhere}
use Rattle.bcv_ledger.proofs.LedgerNoted.{tried_compactly}
use Rattle.bcv_ledger.proofs.ledger.Ledger.intend.Goals as goal

pub returns : goal.returns
returns g c =
    let old = c.args.self.now in
    let d = g.D.Disk in
    record {
      tried =
          tried_compactly d.told d.shown g.met.D.Disk.counts_now old.log c.intent-noted.new.self old.databases.kept (Intent c.args.pending) c.intent-noted.result c.span-2.ensures.leaves c.span.ensures.order (λ calls is. is)
          (subst (λ (k : Kept). LogCompacts d.told d.shown old.log c.intent-noted.new.self k (Intent c.args.pending) c.intent-noted.result) c.kept.ensures.kept c.intent-noted.ensures.notes);
      databases = subst (λ (b : Bool). EndsWhere b old.databases c.intend_where.new.databases (Intent c.args.pending)) c.stands.ensures c.intend_where.ensures;
    }
