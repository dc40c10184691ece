use Rattle.bcv_world.proofs.AskedStores.{asked_place}
use Rattle.bcv_world.proofs.place.ask_once.Goals as goal

pub returns-clause-caches : goal.returns-clause-caches
returns-clause-caches g c =
    asked_place c.args.around.now.store c.plan.new.self c.call-reply.new.outside.store c.plan-2.new.self c.args.ask c.args.outcome c.args.client.now c.call-reply.new.self c.call-reply.result
    (record { log = c.plan.ensures.log; plan = c.plan.ensures.plan; faults = c.plan.ensures.faults })
    c.call-reply.ensures.caches
    (record { log = c.plan-2.ensures.log; plan = c.plan-2.ensures.plan; faults = c.plan-2.ensures.faults })
