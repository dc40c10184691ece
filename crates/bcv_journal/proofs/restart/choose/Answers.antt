use Rattle.bcv_journal.proofs.Restarted.{chooses}
use Rattle.bcv_journal.proofs.restart.choose.Goals as goal

pub returns : goal.returns
returns g c =
    let d = g.D.Disk in
    chooses d.told (d.shown c.args.disk.now) (d.shown c.keep.new.disk) c.args.area c.selector.result c.keep.result (g.met.D.Disk.only_now c.args.disk.now) c.selector.ensures c.requires c.keep.ensures
