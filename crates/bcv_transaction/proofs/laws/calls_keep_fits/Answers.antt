use Rattle.bcv_transaction.proofs.FitLaws.{cached_are_first, calls_leave_fit, growth_leaves_fit, views_leave_fit}
use Rattle.bcv_transaction.proofs.laws.calls_keep_fits.Goals as goal

pub returns-clause-calls : goal.returns-clause-calls
returns-clause-calls c = calls_leave_fit

pub returns-clause-growth : goal.returns-clause-growth
returns-clause-growth c = growth_leaves_fit

pub returns-clause-views : goal.returns-clause-views
returns-clause-views c = views_leave_fit

pub returns-clause-first : goal.returns-clause-first
returns-clause-first c = cached_are_first
