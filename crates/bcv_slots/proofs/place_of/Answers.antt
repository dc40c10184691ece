use Rattle.std.proofs.Common.{refl, arith}
use Rattle.bcv_slots.proofs.PlacesFound.{found_nowhere, found_there, none_more}
use Rattle.bcv_slots.proofs.place_of.Goals as goal

pub loop-place-init : goal.loop-place-init
loop-place-init g c = refl

pub returns-then-slot-number : goal.returns-then-slot-number
returns-then-slot-number g c =
    found_there c.args.number c.args.slots.now c.loop-place.place c.index-slots-place.result c.loop-place.invariant c.loop-place-test.true c.index-slots-place.is c.if-slot-number.true

pub loop-place-preserved : goal.loop-place-preserved
loop-place-preserved g c =
    none_more c.args.number c.args.slots.now c.loop-place.place c.index-slots-place.result c.loop-place.invariant c.loop-place-test.true c.index-slots-place.is c.if-slot-number.false

pub returns : goal.returns
returns g c = found_nowhere c.args.number c.args.slots.now c.loop-place.place c.loop-place.invariant (omega (arith, c.loop-place-test.false))
