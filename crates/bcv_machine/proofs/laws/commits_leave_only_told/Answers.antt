use Rattle.bcv_machine.proofs.CommitsStay.{commits_leave_only, commits_leave_only_in_runs}
use Rattle.bcv_machine.proofs.laws.commits_leave_only_told.Goals as goal

pub returns-clause-step : goal.returns-clause-step
returns-clause-step c = commits_leave_only

pub returns-clause-run : goal.returns-clause-run
returns-clause-run c = commits_leave_only_in_runs
