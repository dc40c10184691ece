use Rattle.bcv_notes.proofs.KeptSizes.{sizes_add}
use Rattle.bcv_notes.proofs.laws.sizes_add.Goals as goal

pub returns : goal.returns
returns c = sizes_add
