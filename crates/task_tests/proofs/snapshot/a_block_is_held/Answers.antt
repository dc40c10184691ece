use Rattle.task_tests.proofs.Powers.{is_power}
use Rattle.task_tests.proofs.snapshot.a_block_is_held.Goals as goal

pub begin-txn-requires-clause-block : goal.begin-txn-requires-clause-block
begin-txn-requires-clause-block g c = is_power
