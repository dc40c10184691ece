use Rattle.bcv_clientstate.proofs.LocalSides.{commits_as_asked, refuses_commit, refuses_revert, reverts_as_asked}
use Rattle.bcv_clientstate.proofs.laws.local_calls_are_the_machines.Goals as goal

pub returns-clause-commits : goal.returns-clause-commits
returns-clause-commits c = commits_as_asked

pub returns-clause-no_commit : goal.returns-clause-no_commit
returns-clause-no_commit c = refuses_commit

pub returns-clause-reverts : goal.returns-clause-reverts
returns-clause-reverts c = reverts_as_asked

pub returns-clause-no_revert : goal.returns-clause-no_revert
returns-clause-no_revert c = refuses_revert
