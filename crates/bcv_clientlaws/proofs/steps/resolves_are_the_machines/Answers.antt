use Rattle.bcv_clientlaws.proofs.ResolveSteps.{resolve_meets_fault, resolved_is_not_noted, resolves_at, resolves_void, void_is_not_noted}
use Rattle.bcv_clientlaws.proofs.steps.resolves_are_the_machines.Goals as goal

pub returns-clause-at : goal.returns-clause-at
returns-clause-at c = resolves_at

pub returns-clause-not_noted : goal.returns-clause-not_noted
returns-clause-not_noted c = resolved_is_not_noted

pub returns-clause-void : goal.returns-clause-void
returns-clause-void c = resolves_void

pub returns-clause-void_not_noted : goal.returns-clause-void_not_noted
returns-clause-void_not_noted c = void_is_not_noted

pub returns-clause-fault : goal.returns-clause-fault
returns-clause-fault c = resolve_meets_fault
