use Rattle.std.proofs.Common.{None}
use Rattle.store_tests.proofs.Ready.{ready_behind}
use Rattle.store_tests.proofs.races.raced.Goals as goal

pub put-first-requires-clause-ready : goal.put-first-requires-clause-ready
put-first-requires-clause-ready c = ready_behind (record { block = None; number = 0 }) c.args.plan.now c.args.one.now c.get.new.self c.in-More.ensures.leaves c.requires.fits

pub put-second-requires-clause-ready : goal.put-second-requires-clause-ready
put-second-requires-clause-ready c = ready_behind (record { block = None; number = 0 }) c.args.plan.now c.args.other.now c.get-2.new.self c.in-More-get.ensures.leaves c.requires.fits
