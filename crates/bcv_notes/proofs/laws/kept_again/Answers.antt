use Rattle.bcv_notes.proofs.Refolded.{kept_again}
use Rattle.bcv_notes.proofs.laws.kept_again.Goals as goal

pub returns : goal.returns
returns c = kept_again
