use Rattle.bcv_clientstate.proofs.UpSides.{loads_what_is_left, rises}
use Rattle.bcv_clientstate.proofs.laws.crashes_leave_what_is_kept.Goals as goal

pub returns-clause-left : goal.returns-clause-left
returns-clause-left c = loads_what_is_left

pub returns-clause-rises : goal.returns-clause-rises
returns-clause-rises c = rises
