use Rattle.bcv_journal.specs.declared.fault.Noted.TheVariants as noted
use Rattle.bcv_risen.proofs.NamedClient.{fails_to_name, named_up, never}
use Rattle.bcv_risen.proofs.client_rise.name_client.Goals as goal

pub returns-in-Failed : goal.returns-in-Failed
returns-in-Failed g c = (c.down.ensures.disk, c.in-Failed.ensures.draws)

pub me-requires : goal.me-requires
me-requires g c = c.requires.kept

pub unreachable-requires : goal.unreachable-requires
unreachable-requires g c =
    let d = g.D.Disk in
    never d.told d.shown c.args.ledger c.me.new.self c.in-Drawn.id c.me.result c.requires.is_open (c.me.ensures.fits c.requires.room) c.me.ensures.notes c.in-JournalFull.is

pub unreachable-unreachable : goal.unreachable-unreachable
unreachable-unreachable g c = c.unreachable.type_inv

pub returns-in-Done : goal.returns-in-Done
returns-in-Done g c =
    let d = g.D.Disk in
    named_up d.told d.shown c.args.ledger c.me.new.self c.in-Drawn.id (g.N.Names.shown c.args.names.now) (g.N.Names.shown c.draw.new.self) c.bytes.ensures.id c.in-Drawn.ensures.draws
    c.in-Done.ensures.notes c.up_with.result c.up_with.ensures

pub returns-in-DiskFault : goal.returns-in-DiskFault
returns-in-DiskFault g c =
    let d = g.D.Disk in
    fails_to_name d.told d.shown c.args.ledger c.me.new.self c.in-Drawn.id (g.N.Names.shown c.args.names.now) (g.N.Names.shown c.draw.new.self) c.bytes.ensures.id c.in-Drawn.ensures.draws
    noted.DiskFault c.down-in-DiskFault.result c.down-in-DiskFault.ensures.disk c.in-DiskFault.ensures.notes

pub returns-in-NoMemory : goal.returns-in-NoMemory
returns-in-NoMemory g c =
    let d = g.D.Disk in
    fails_to_name d.told d.shown c.args.ledger c.me.new.self c.in-Drawn.id (g.N.Names.shown c.args.names.now) (g.N.Names.shown c.draw.new.self) c.bytes.ensures.id c.in-Drawn.ensures.draws
    noted.NoMemory c.down-in-NoMemory.result c.down-in-NoMemory.ensures.disk c.in-NoMemory.ensures.notes
