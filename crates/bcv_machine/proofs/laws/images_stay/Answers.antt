use Rattle.bcv_machine.proofs.TxnsStay.{images_stay}
use Rattle.bcv_machine.proofs.TxnRuns.{images_stay_in_runs}
use Rattle.bcv_machine.proofs.laws.images_stay.Goals as goal

pub returns-clause-step : goal.returns-clause-step
returns-clause-step c = images_stay

pub returns-clause-run : goal.returns-clause-run
returns-clause-run c = images_stay_in_runs
