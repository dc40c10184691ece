use Rattle.std.proofs.Common.{None}
use Rattle.bcv_base.specs.ManifestGrammar.{items_at, entry_at}
use Rattle.bcv_base.specs.ManifestRules.{db_name}
use Rattle.bcv_manifest.proofs.Loop.{goes_on, ends, is_done}
use Rattle.bcv_manifest.proofs.items.entries_of.Goals as goal

pub returns-in-Err : goal.returns-in-Err
returns-in-Err c =
    ends db_name (entry_at c.args.block) c.in-Err.stop c.loop.dbs.items c.args.count c.loop.counter c.loop.before c.loop.rest.now (items_at db_name (entry_at c.args.block) c.args.count None c.args.bytes.now) c.loop-test.true c.in-Err.ensures c.loop.invariant

pub loop-preserved : goal.loop-preserved
loop-preserved c =
    rw c.in_ok-push.ensures.items (goes_on db_name (entry_at c.args.block) c.loop.dbs.items c.args.count c.loop.counter c.loop.before c.loop.rest.now c.in-Ok.field.0 c.in-Ok.field.1.now (items_at db_name (entry_at c.args.block) c.args.count None c.args.bytes.now) c.loop-test.true c.in-Ok.ensures c.loop.invariant)

pub returns : goal.returns
returns c = is_done db_name (entry_at c.args.block) c.loop.dbs.items c.args.count c.loop.counter c.loop.before c.loop.rest.now (items_at db_name (entry_at c.args.block) c.args.count None c.args.bytes.now) c.loop-test.false c.loop.invariant
