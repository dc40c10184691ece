use Rattle.bcv_machine.proofs.Accepted.{resolved_after_crash, done_after_crash, voided_after_crash, never_intended}
use Rattle.bcv_machine.proofs.runs.crash_around_a_publication.Goals as goal

pub returns-clause-resolved : goal.returns-clause-resolved
returns-clause-resolved c = resolved_after_crash

pub returns-clause-done : goal.returns-clause-done
returns-clause-done c = done_after_crash

pub returns-clause-voided : goal.returns-clause-voided
returns-clause-voided c = voided_after_crash

pub returns-clause-not_intended : goal.returns-clause-not_intended
returns-clause-not_intended c = never_intended
