use Rattle.task_tests.proofs.Pinned.{few_after, there_after}
use Rattle.task_tests.proofs.shared.hold.Goals as goal

pub returns-clause-entry : goal.returns-clause-entry
returns-clause-entry c = λ id. there_after id c.args.slot _ c.args.txn.now _ c.args.cache.now c.hold.new.cache _ _ c.hold.ensures.holds

pub returns-clause-few : goal.returns-clause-few
returns-clause-few c = few_after c.args.pins c.args.slot _ c.args.txn.now _ c.args.cache.now c.hold.new.cache _ _ c.hold.ensures.holds c.requires.few
