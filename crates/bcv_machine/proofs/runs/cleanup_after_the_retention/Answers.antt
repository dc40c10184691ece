use Rattle.bcv_machine.proofs.Accepted.{nothing_found, cleaned}
use Rattle.bcv_machine.proofs.Refused.{too_early, not_gone_yet}
use Rattle.bcv_machine.proofs.runs.cleanup_after_the_retention.Goals as goal

pub returns-clause-too_early : goal.returns-clause-too_early
returns-clause-too_early c = nothing_found

pub returns-clause-not_earlier : goal.returns-clause-not_earlier
returns-clause-not_earlier c = too_early

pub returns-clause-accepted : goal.returns-clause-accepted
returns-clause-accepted c = cleaned

pub returns-clause-not_gone_yet : goal.returns-clause-not_gone_yet
returns-clause-not_gone_yet c = not_gone_yet
