use Rattle.bcv_dbmap.proofs.CleanupLaws.{cleaned_is_dead}
use Rattle.bcv_dbmap.proofs.block_laws.cleaned_is_dead.Goals as goal

pub returns : goal.returns
returns c = cleaned_is_dead
