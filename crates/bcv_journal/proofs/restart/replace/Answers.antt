use Rattle.bcv_journal.proofs.Restarted.{move_both, move_failed, move_starved}
use Rattle.bcv_journal.proofs.restart.replace.Goals as goal

pub returns-in-Done : goal.returns-in-Done
returns-in-Done g c =
    let d = g.D.Disk in
    move_both d.told (d.shown c.args.disk.now) (d.shown c.lay.new.disk) c.args.area c.args.start c.args.block.now c.in-Done.ensures (d.shown c.choose.new.disk) c.choose.result c.choose.ensures

pub returns-in-Failed : goal.returns-in-Failed
returns-in-Failed g c =
    let d = g.D.Disk in
    move_failed d.told (d.shown c.args.disk.now) (d.shown c.lay.new.disk) c.args.area c.args.start c.args.block.now c.in-Failed.ensures

pub returns-in-NoMemory : goal.returns-in-NoMemory
returns-in-NoMemory g c =
    let d = g.D.Disk in
    move_starved d.told (d.shown c.args.disk.now) (d.shown c.lay.new.disk) c.args.area c.args.start c.args.block.now c.in-NoMemory.ensures
