use Rattle.bcv_cleanup.proofs.Taken.{new_has_taken, taken_stays}
use Rattle.bcv_cleanup.proofs.laws.taken_stays.Goals as goal

pub returns-clause-new : goal.returns-clause-new
returns-clause-new c = new_has_taken

pub returns-clause-stays : goal.returns-clause-stays
returns-clause-stays c = taken_stays
