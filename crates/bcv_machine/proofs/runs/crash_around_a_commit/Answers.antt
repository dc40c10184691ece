use Rattle.bcv_machine.proofs.Accepted.{kept, without, with}
use Rattle.bcv_machine.proofs.Refused.{acknowledged_stays, whole_or_not}
use Rattle.bcv_machine.proofs.runs.crash_around_a_commit.Goals as goal

pub returns-clause-kept : goal.returns-clause-kept
returns-clause-kept c = kept

pub returns-clause-never_lost : goal.returns-clause-never_lost
returns-clause-never_lost c = acknowledged_stays

pub returns-clause-may_be_absent : goal.returns-clause-may_be_absent
returns-clause-may_be_absent c = without

pub returns-clause-may_be_whole : goal.returns-clause-may_be_whole
returns-clause-may_be_whole c = with

pub returns-clause-once : goal.returns-clause-once
returns-clause-once c = whole_or_not
