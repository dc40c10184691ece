use Rattle.bcv_clientstate.proofs.NoteLaws.{keep_order}
use Rattle.bcv_clientstate.proofs.laws.notes_keep_order.Goals as goal

pub returns : goal.returns
returns c = keep_order
