use Rattle.bcv_machine.proofs.Accepted.{resolved}
use Rattle.bcv_machine.proofs.Refused.{other_version, not_voided}
use Rattle.bcv_machine.proofs.runs.lost_answer_is_resolved.Goals as goal

pub returns-clause-accepted : goal.returns-clause-accepted
returns-clause-accepted c = resolved

pub returns-clause-version : goal.returns-clause-version
returns-clause-version c = other_version

pub returns-clause-not_voided : goal.returns-clause-not_voided
returns-clause-not_voided c = not_voided
