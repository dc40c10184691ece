use Rattle.std.proofs.Common.{[], arith}
use Rattle.bcv_base.specs.declared.manifest.Dead.{Dead}
use Rattle.bcv_cleanup.proofs.Walks.{picked, skipped}
use Rattle.bcv_cleanup.proofs.released.take_released.Goals as goal

abbrev no_entry : Dead
no_entry = record { id = record { 0 = [] }; stamp = 0 }

pub loop-place-preserved-then-not-releases : goal.loop-place-preserved-then-not-releases
loop-place-preserved-then-not-releases g c = record {
  picks = skipped (goal.F-post g c.args.rule.now.rule) c.args.moment c.args.retention c.args.dead.now c.loop-place.ids.items c.loop-place.place no_entry c.releases.result c.loop-place-test.true
      c.loop-place.invariant.picks c.releases.ensures.answer c.if-not-releases.true;
  few = c.loop-place.invariant.few;
  room = c.loop-place.invariant.room;
}

pub loop-place-preserved : goal.loop-place-preserved
loop-place-preserved g c = record {
  picks = picked (goal.F-post g c.args.rule.now.rule) c.args.moment c.args.retention c.args.dead.now c.loop-place.ids.items c.push.new.self.items c.loop-place.place no_entry c.releases.result c.loop-place-test.true
      c.loop-place.invariant.picks c.releases.ensures.answer c.if-not-releases.false c.in-Ok.ensures.items;
  few = grind arith;
  room = grind arith;
}
