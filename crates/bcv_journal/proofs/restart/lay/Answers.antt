use Rattle.bcv_journal.proofs.Restarted.{lay_broke, lay_done, lay_failed, lay_kept, lay_lost, lay_starved}
use Rattle.bcv_journal.proofs.restart.lay.Goals as goal

pub returns-in-Failed : goal.returns-in-Failed
returns-in-Failed g c =
    let d = g.D.Disk in
    lay_failed d.told (d.shown c.args.disk.now) c.args.area c.args.start c.args.block.now c.requires.apart c.requires.from (g.met.D.Disk.only_now c.args.disk.now) (d.shown c.write_at.new.self) c.in-Failed.ensures.writes

pub returns-in-NoMemory : goal.returns-in-NoMemory
returns-in-NoMemory g c =
    let d = g.D.Disk in
    lay_starved d.told (d.shown c.args.disk.now) c.args.area c.args.start c.args.block.now c.requires.apart c.requires.from (g.met.D.Disk.only_now c.args.disk.now) (d.shown c.write_at.new.self) c.in-NoMemory.ensures.writes

pub returns-in-Done-keep : goal.returns-in-Done-keep
returns-in-Done-keep g c =
    let d = g.D.Disk in
    lay_done d.told (d.shown c.args.disk.now) c.args.area c.args.start c.args.block.now c.requires.apart c.requires.from (g.met.D.Disk.only_now c.args.disk.now) (d.shown c.write_at.new.self) c.in-Done.ensures.writes
    _ c.to_be_bytes-field.ensures c.start_field.result c.start_field.ensures (d.shown c.keep.new.disk) c.in-Done-keep.ensures

pub returns-in-Failed-keep : goal.returns-in-Failed-keep
returns-in-Failed-keep g c =
    let d = g.D.Disk in
    lay_broke d.told (d.shown c.args.disk.now) c.args.area c.args.start c.args.block.now c.requires.apart c.requires.from (g.met.D.Disk.only_now c.args.disk.now) (d.shown c.write_at.new.self) c.in-Done.ensures.writes
    _ c.to_be_bytes-field.ensures c.start_field.result c.start_field.ensures (d.shown c.keep.new.disk) c.in-Failed-keep.ensures

pub returns-in-Done-sync : goal.returns-in-Done-sync
returns-in-Done-sync g c =
    let d = g.D.Disk in
    lay_kept d.told (d.shown c.args.disk.now) c.args.area c.args.start c.args.block.now c.requires.apart c.requires.from (g.met.D.Disk.only_now c.args.disk.now) (d.shown c.write_at.new.self) c.in-Done.ensures.writes
    _ c.to_be_bytes-field.ensures c.start_field.result c.start_field.ensures (d.shown c.keep.new.disk) c.in-NoMemory-keep.ensures (d.shown c.sync.new.self) c.in-Done-sync.ensures.syncs

pub returns-in-Failed-sync : goal.returns-in-Failed-sync
returns-in-Failed-sync g c =
    let d = g.D.Disk in
    lay_lost d.told (d.shown c.args.disk.now) c.args.area c.args.start c.args.block.now c.requires.apart c.requires.from (g.met.D.Disk.only_now c.args.disk.now) (d.shown c.write_at.new.self) c.in-Done.ensures.writes
    _ c.to_be_bytes-field.ensures c.start_field.result c.start_field.ensures (d.shown c.keep.new.disk) c.in-NoMemory-keep.ensures (d.shown c.sync.new.self) c.in-Failed-sync.ensures.syncs
