use Rattle.task_tests.proofs.Powers.{is_power}
use Rattle.task_tests.proofs.snapshot.pages_after_a_cut_and_growth.Goals as goal

pub begin-txn-requires-clause-block : goal.begin-txn-requires-clause-block
begin-txn-requires-clause-block g c = is_power
