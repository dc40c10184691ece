use Rattle.bcv_notes.proofs.Folded.{fold_once}
use Rattle.bcv_notes.proofs.laws.folds_once.Goals as goal

pub returns : goal.returns
returns c = fold_once
