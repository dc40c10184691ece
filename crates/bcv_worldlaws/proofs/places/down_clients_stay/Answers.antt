use Rattle.bcv_worldlaws.proofs.PlacesStay.{down_crashes, down_stays}
use Rattle.bcv_worldlaws.proofs.places.down_clients_stay.Goals as goal

pub returns-clause-stays : goal.returns-clause-stays
returns-clause-stays g c = down_stays g.D.Disk.shown c.args.disk.now

pub returns-clause-crash : goal.returns-clause-crash
returns-clause-crash g c = down_crashes g.D.Disk.shown c.args.was.now c.args.disk.now
