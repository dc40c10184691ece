use Rattle.bcv_clientstate.proofs.PartRefusals.{view_is_view, view_has_base, busy_is_busy, begin_is_refused, commit_is_refused, revert_is_refused}
use Rattle.bcv_clientstate.proofs.laws.refusals_are_the_machines.Goals as goal

pub returns-clause-view : goal.returns-clause-view
returns-clause-view c = view_is_view

pub returns-clause-base : goal.returns-clause-base
returns-clause-base c = view_has_base

pub returns-clause-busy : goal.returns-clause-busy
returns-clause-busy c = busy_is_busy

pub returns-clause-begin : goal.returns-clause-begin
returns-clause-begin c = begin_is_refused

pub returns-clause-commit : goal.returns-clause-commit
returns-clause-commit c = commit_is_refused

pub returns-clause-revert : goal.returns-clause-revert
returns-clause-revert c = revert_is_refused
