use Rattle.std.proofs.Common.{refl}
use Rattle.bcv_model.specs.declared.note.Note.TheVariants.{Revert}
use Rattle.bcv_clientlog.proofs.LogNoted.{compacts}
use Rattle.bcv_clientlog.proofs.log.ClientLog.revert.Goals as goal

pub returns : goal.returns
returns g c =
    compacts g.D.Disk.told g.D.Disk.shown g.met.D.Disk.only_now c.args.self.now _ (Revert c.args.db.now) c.add_compactly.result (λ done. refl) (λ other. refl) c.args.kept.now c.is_dense-dense.result c.is_dense-dense.ensures (λ is. absurd (cc (is))) c.revert_note.result c.revert_note.ensures (λ may. may.named) refl c.add_compactly.ensures
