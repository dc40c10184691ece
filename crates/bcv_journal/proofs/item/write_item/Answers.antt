use Rattle.std.proofs.Common.{◌∙◌, arith}
use Rattle.bcv_journal.proofs.Added.{added_both, added_failed, added_none, added_starved}
use Rattle.bcv_journal.proofs.item.write_item.Goals as goal

pub returns-in_default : goal.returns-in_default
returns-in_default g c =
    let d = g.D.Disk in
    added_none d.told (d.shown c.args.disk.now) c.args.area c.args.item.now (c.requires.some, omega (arith, c.requires.fits)) c.requires.fits c.requires.from (g.met.D.Disk.only_now c.args.disk.now)

pub returns-in-Done : goal.returns-in-Done
returns-in-Done g c =
    let d = g.D.Disk in
    added_both d.told (d.shown c.args.disk.now) c.args.area c.args.item.now (c.requires.some, omega (arith, c.requires.fits)) c.requires.fits c.requires.from (g.met.D.Disk.only_now c.args.disk.now) c.deref.result.now (c.deref.ensures.value ∙ c.in-Ok.ensures)
    (d.shown c.keep.new.disk) c.in-Done.ensures (d.shown c.keep-in-Done.new.disk) c.keep-in-Done.result c.keep-in-Done.ensures

pub returns-in-Failed : goal.returns-in-Failed
returns-in-Failed g c =
    let d = g.D.Disk in
    added_failed d.told (d.shown c.args.disk.now) c.args.area c.args.item.now (c.requires.some, omega (arith, c.requires.fits)) c.requires.fits c.requires.from (g.met.D.Disk.only_now c.args.disk.now) c.deref.result.now (c.deref.ensures.value ∙ c.in-Ok.ensures)
    (d.shown c.keep.new.disk) c.in-Failed.ensures

pub returns : goal.returns
returns g c =
    let d = g.D.Disk in
    added_starved d.told (d.shown c.args.disk.now) c.args.area c.args.item.now (c.requires.some, omega (arith, c.requires.fits)) c.requires.fits c.requires.from (g.met.D.Disk.only_now c.args.disk.now) c.deref.result.now (c.deref.ensures.value ∙ c.in-Ok.ensures)
    (d.shown c.keep.new.disk) c.in-NoMemory.ensures
