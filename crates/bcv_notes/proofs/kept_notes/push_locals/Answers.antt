use Rattle.std.proofs.Common.{rules, arith}
use Rattle.bcv_notes.specs.KeptBy.{items_of}
use Rattle.bcv_notes.proofs.KeptSizes.{locals_more, locals_step}
use Rattle.bcv_notes.proofs.kept_notes.push_locals.Goals as goal

pub push_local-requires : goal.push_local-requires
push_local-requires c = omega (arith, locals_more c.loop-local.rest.now c.in-Some.local.now c.in-Some.after.now (search rules), c.loop-local.invariant.1)

pub loop-local-preserved : goal.loop-local-preserved
loop-local-preserved c = (
  locals_step (items_of c.loop-local.items.items) (items_of c.push_local.new.items.items) _ c.loop-local.rest.now c.in-Some.local.now c.in-Some.after.now (search rules) (search rules) c.loop-local.invariant.0,
  omega (arith, locals_more c.loop-local.rest.now c.in-Some.local.now c.in-Some.after.now (search rules), c.loop-local.invariant.1),
)
