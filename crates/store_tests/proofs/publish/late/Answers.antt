use Rattle.std.proofs.Common.{None}
use Rattle.store_tests.proofs.Ready.{ready_behind}
use Rattle.store_tests.proofs.publish.late.Goals as goal

pub put-requires-clause-ready : goal.put-requires-clause-ready
put-requires-clause-ready c = ready_behind (record { block = None; number = 0 }) c.args.plan.now c.args.publication.now c.get.new.self c.in-More.ensures.leaves c.requires.fits
