use Rattle.std.proofs.Common.{refl}
use Rattle.bcv_model.specs.declared.note.Note.TheVariants.{Committed}
use Rattle.bcv_clientlog.proofs.LogNoted.{compacts}
use Rattle.bcv_clientlog.proofs.log.ClientLog.commit.Goals as goal

pub returns : goal.returns
returns g c =
    compacts g.D.Disk.told g.D.Disk.shown g.met.D.Disk.only_now c.args.self.now _ (Committed c.args.db.now c.args.commit.now) c.add_compactly.result (λ done. refl) (λ other. refl) c.args.kept.now c.is_dense-self.result c.is_dense-self.ensures (λ is. (is, tt)) c.committed_note-text.result c.committed_note-text.ensures (λ may. may.named) refl c.add_compactly.ensures
