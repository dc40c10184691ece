use Rattle.bcv_clientlaws.proofs.Different.{differ_as_before, differ_with_ended, differ_with_new, differ_with_txn, differ_without_task, differ_without_txn, one_with, one_with_ended, one_with_other, one_without, others_are_none}
use Rattle.bcv_clientlaws.proofs.tasks.numbers_stay_different.Goals as goal

pub returns-clause-without : goal.returns-clause-without
returns-clause-without c = differ_without_task

pub returns-clause-with : goal.returns-clause-with
returns-clause-with c = differ_with_new

pub returns-clause-as_before : goal.returns-clause-as_before
returns-clause-as_before c = differ_as_before

pub returns-clause-ended : goal.returns-clause-ended
returns-clause-ended c = differ_with_ended

pub returns-clause-without_txn : goal.returns-clause-without_txn
returns-clause-without_txn c = differ_without_txn

pub returns-clause-with_txn : goal.returns-clause-with_txn
returns-clause-with_txn c = differ_with_txn

pub returns-clause-others : goal.returns-clause-others
returns-clause-others c = others_are_none

pub returns-clause-one_without : goal.returns-clause-one_without
returns-clause-one_without c = one_without

pub returns-clause-one_ended : goal.returns-clause-one_ended
returns-clause-one_ended c = one_with_ended

pub returns-clause-one_with : goal.returns-clause-one_with
returns-clause-one_with c = one_with

pub returns-clause-one_with_other : goal.returns-clause-one_with_other
returns-clause-one_with_other c = one_with_other
