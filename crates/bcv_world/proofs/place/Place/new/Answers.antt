use Rattle.std.proofs.Common.{arith}
use Rattle.bcv_world.proofs.NewPlaces.{new_up}
use Rattle.bcv_world.proofs.RisenPlaces.{empty_client}
use Rattle.bcv_world.proofs.place.Place.new.Goals as goal

pub returns-in-Ready-clause-within : goal.returns-in-Ready-clause-within
returns-in-Ready-clause-within c =
    record { form = empty_client c.args.slots c.in-Ready.client c.in-Ready.ensures.empty; taken = omega (arith, c.in-Ready.ensures.empty.taken) }

pub returns-in-Ready-clause-is_new : goal.returns-in-Ready-clause-is_new
returns-in-Ready-clause-is_new c =
    new_up c.new.result (record { platter = c.new.ensures.platter; trouble = c.new.ensures.trouble }) c.args.names.now c.up.new.names c.args.slots c.in-Ready.client c.in-Ready.ensures.rises
    c.in-Ready.ensures.empty c.in-Ready.ensures.first
