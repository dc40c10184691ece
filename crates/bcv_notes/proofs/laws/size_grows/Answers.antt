use Rattle.bcv_notes.proofs.KeptGrowth.{size_grows}
use Rattle.bcv_notes.proofs.laws.size_grows.Goals as goal

pub returns : goal.returns
returns c = size_grows
