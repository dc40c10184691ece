use Rattle.bcv_ledger.proofs.FitsLedger.{commit_keeps_fit, intent_keeps_fit, made_keeps_fit, poll_keeps_fit, resolved_keeps_fit, revert_keeps_fit, void_keeps_fit}
use Rattle.bcv_ledger.proofs.laws.ends_keep_fits.Goals as goal

pub returns-clause-commit : goal.returns-clause-commit
returns-clause-commit c = commit_keeps_fit

pub returns-clause-revert : goal.returns-clause-revert
returns-clause-revert c = revert_keeps_fit

pub returns-clause-intent : goal.returns-clause-intent
returns-clause-intent c = intent_keeps_fit

pub returns-clause-void : goal.returns-clause-void
returns-clause-void c = void_keeps_fit

pub returns-clause-made : goal.returns-clause-made
returns-clause-made c = made_keeps_fit

pub returns-clause-resolved : goal.returns-clause-resolved
returns-clause-resolved c = resolved_keeps_fit

pub returns-clause-poll : goal.returns-clause-poll
returns-clause-poll c = poll_keeps_fit
