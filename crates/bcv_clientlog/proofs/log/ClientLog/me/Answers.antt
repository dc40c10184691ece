use Rattle.std.proofs.Common.{refl, rules}
use Rattle.bcv_model.specs.declared.note.Note.TheVariants.{Me}
use Rattle.bcv_clientlog.proofs.LogNoted.{id_fits, notes}
use Rattle.bcv_clientlog.proofs.log.ClientLog.me.Goals as goal

pub returns-clause-notes : goal.returns-clause-notes
returns-clause-notes g c =
    notes g.D.Disk.told g.D.Disk.shown g.met.D.Disk.only_now c.args.self.now _ (Me c.args.id.now) c.add.result (λ done. refl) (λ other. refl) refl c.me_note.result c.me_note.ensures c.add.ensures

pub returns-clause-fits : goal.returns-clause-fits
returns-clause-fits g c free =
    id_fits g.D.Disk.told g.D.Disk.shown c.args.self.now.journal c.add.new.journal c.me_note.result c.args.id.now c.add.result c.add.ensures (search rules) c.me_note.ensures free
