use Rattle.bcv_risen.proofs.StaysDown.{crash_leaves_down, flight_leaves_down, growth_leaves_down}
use Rattle.bcv_risen.proofs.laws.crashes_leave_clients_down.Goals as goal

pub returns-clause-crash : goal.returns-clause-crash
returns-clause-crash g c = crash_leaves_down g.D.Disk.shown c.args.log.now c.args.disk.now

pub returns-clause-flight : goal.returns-clause-flight
returns-clause-flight g c = flight_leaves_down g.D.Disk.shown c.args.disk.now

pub returns-clause-growth : goal.returns-clause-growth
returns-clause-growth g c = growth_leaves_down g.D.Disk.shown c.args.disk.now
