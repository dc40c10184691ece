use Rattle.task_tests.proofs.Powers.{is_power}
use Rattle.task_tests.proofs.shared.a_block_of_two_databases.Goals as goal

pub begin-first-requires-clause-block : goal.begin-first-requires-clause-block
begin-first-requires-clause-block g c = is_power
