use Rattle.bcv_databases.proofs.FoldLoaded.{folds_loaded}
use Rattle.bcv_databases.proofs.laws.folds_are_loaded.Goals as goal

pub returns : goal.returns
returns c = folds_loaded
