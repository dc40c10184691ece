use Rattle.bcv_ledger.proofs.LocalLaws.{commit_may_stand, revert_may_stand}
use Rattle.bcv_ledger.proofs.laws.local_notes_may_stand.Goals as goal

pub returns-clause-commit : goal.returns-clause-commit
returns-clause-commit c = commit_may_stand

pub returns-clause-revert : goal.returns-clause-revert
returns-clause-revert c = revert_may_stand
