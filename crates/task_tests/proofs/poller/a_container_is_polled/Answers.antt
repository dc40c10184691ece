use Rattle.task_tests.proofs.Powers.{is_power}
use Rattle.task_tests.proofs.poller.a_container_is_polled.Goals as goal

pub create-first-requires : goal.create-first-requires
create-first-requires g c = is_power
