use Rattle.std.proofs.Common.{None}
use Rattle.std.proofs.lemmas.Result.{err_from_is_err_and}
use Rattle.std.specs.Option.{option_map}
use Rattle.bcv_base.specs.declared.id.Id16.{Id16}
use Rattle.bcv_base.specs.ManifestGrammar.{items_at, writer_at}
use Rattle.bcv_base.specs.ManifestRules.{writer_id}
use Rattle.bcv_manifest.proofs.Loop.{goes_on, ends, is_done}
use Rattle.bcv_manifest.proofs.items.writers_of.Goals as goal

pub returns-in_err-writer : goal.returns-in_err-writer
returns-in_err-writer c =
    let p = err_from_is_err_and c.from_residual-in_err-writer.result c.from_residual-in_err-writer.ensures.1 in
    rw (p.1, p.2) (ends writer_id (writer_at c.args.most) c.in_err-writer.field-0.0 c.loop.writers.items c.args.count c.loop.counter (option_map (λ (b : Id16). b.0) c.loop.before) c.loop.rest.now (items_at writer_id (writer_at c.args.most) c.args.count None c.args.bytes.now) c.loop-test.true c.in_err-writer.ensures c.loop.invariant)

pub loop-preserved : goal.loop-preserved
loop-preserved c =
    rw c.in_ok-push.ensures.items (goes_on writer_id (writer_at c.args.most) c.loop.writers.items c.args.count c.loop.counter (option_map (λ (b : Id16). b.0) c.loop.before) c.loop.rest.now c.in_ok-writer.writer c.in_ok-writer.after.now (items_at writer_id (writer_at c.args.most) c.args.count None c.args.bytes.now) c.loop-test.true c.in_ok-writer.ensures c.loop.invariant)

pub returns : goal.returns
returns c = is_done writer_id (writer_at c.args.most) c.loop.writers.items c.args.count c.loop.counter (option_map (λ (b : Id16). b.0) c.loop.before) c.loop.rest.now (items_at writer_id (writer_at c.args.most) c.args.count None c.args.bytes.now) c.loop-test.false c.loop.invariant
