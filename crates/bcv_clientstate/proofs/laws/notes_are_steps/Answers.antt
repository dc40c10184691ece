use Rattle.bcv_clientstate.proofs.NoteLaws.{are_steps}
use Rattle.bcv_clientstate.proofs.laws.notes_are_steps.Goals as goal

pub returns : goal.returns
returns c = are_steps
