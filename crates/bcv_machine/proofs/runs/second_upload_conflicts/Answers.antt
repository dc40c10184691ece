use Rattle.bcv_machine.proofs.Accepted.{conflicted}
use Rattle.bcv_machine.proofs.Refused.{other_tags, no_merge}
use Rattle.bcv_machine.proofs.runs.second_upload_conflicts.Goals as goal

pub returns-clause-accepted : goal.returns-clause-accepted
returns-clause-accepted c = conflicted

pub returns-clause-tags : goal.returns-clause-tags
returns-clause-tags c = other_tags

pub returns-clause-no_merge : goal.returns-clause-no_merge
returns-clause-no_merge c = no_merge
