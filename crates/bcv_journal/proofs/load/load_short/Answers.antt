use Rattle.bcv_journal.proofs.LoadParts.{short_done, short_failed, short_starved}
use Rattle.bcv_journal.proofs.load.load_short.Goals as goal

pub returns-in-Done : goal.returns-in-Done
returns-in-Done g c =
    let d = g.D.Disk in
    short_done d.told (d.shown c.args.disk.now) (d.shown c.keep.new.disk) (g.met.D.Disk.only_now c.args.disk.now) c.requires c.new.result c.new.ensures.items c.in-Done.ensures

pub returns-in-Failed : goal.returns-in-Failed
returns-in-Failed g c =
    let d = g.D.Disk in
    short_failed d.told (d.shown c.args.disk.now) (d.shown c.keep.new.disk) (g.met.D.Disk.only_now c.args.disk.now) c.requires c.in-Failed.ensures

pub returns-in-NoMemory : goal.returns-in-NoMemory
returns-in-NoMemory g c =
    let d = g.D.Disk in
    short_starved d.told (d.shown c.args.disk.now) (d.shown c.keep.new.disk) (g.met.D.Disk.only_now c.args.disk.now) c.requires c.in-NoMemory.ensures
