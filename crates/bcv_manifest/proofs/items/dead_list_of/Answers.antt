use Rattle.std.proofs.Common.{None}
use Rattle.std.proofs.lemmas.Result.{err_from_is_err_and}
use Rattle.std.specs.Option.{option_map}
use Rattle.bcv_base.specs.declared.id.Id16.{Id16}
use Rattle.bcv_base.specs.Ids.{has_id}
use Rattle.bcv_base.specs.ManifestGrammar.{items_at, dead_at}
use Rattle.bcv_base.specs.ManifestRules.{dead_id}
use Rattle.bcv_manifest.proofs.Loop.{goes_on, ends, is_done}
use Rattle.bcv_manifest.proofs.items.dead_list_of.Goals as goal

pub returns-in_err-entry : goal.returns-in_err-entry
returns-in_err-entry c =
    let p = err_from_is_err_and c.from_residual-in_err-entry.result c.from_residual-in_err-entry.ensures.1 in
    rw (p.1, p.2) (ends dead_id (dead_at (λ i. has_id i c.args.listed.now)) c.in_err-entry.field-0.0 c.loop.dead.items c.args.count c.loop.counter (option_map (λ (b : Id16). b.0) c.loop.before) c.loop.rest.now (items_at dead_id (dead_at (λ i. has_id i c.args.listed.now)) c.args.count None c.args.bytes.now) c.loop-test.true c.in_err-entry.ensures c.loop.invariant)

pub loop-preserved : goal.loop-preserved
loop-preserved c =
    rw c.in_ok-push.ensures.items (goes_on dead_id (dead_at (λ i. has_id i c.args.listed.now)) c.loop.dead.items c.args.count c.loop.counter (option_map (λ (b : Id16). b.0) c.loop.before) c.loop.rest.now c.in_ok-entry.entry c.in_ok-entry.after.now (items_at dead_id (dead_at (λ i. has_id i c.args.listed.now)) c.args.count None c.args.bytes.now) c.loop-test.true c.in_ok-entry.ensures c.loop.invariant)

pub returns : goal.returns
returns c = is_done dead_id (dead_at (λ i. has_id i c.args.listed.now)) c.loop.dead.items c.args.count c.loop.counter (option_map (λ (b : Id16). b.0) c.loop.before) c.loop.rest.now (items_at dead_id (dead_at (λ i. has_id i c.args.listed.now)) c.args.count None c.args.bytes.now) c.loop-test.false c.loop.invariant
