use Rattle.bcv_clientstate.proofs.SizeLaws.{have_sizes}
use Rattle.bcv_clientstate.proofs.laws.notes_have_sizes.Goals as goal

pub returns : goal.returns
returns c = have_sizes
