use Rattle.bcv_machine.proofs.OneState.{one_state}
use Rattle.bcv_machine.proofs.laws.one_state_follows.Goals as goal

pub returns : goal.returns
returns c = one_state
