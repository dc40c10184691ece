use Rattle.bcv_ledger.proofs.ResolveLaws.{made_is_resolved, made_meets_fault, voided_is_resolved, voided_meets_fault}
use Rattle.bcv_ledger.proofs.laws.resolves_are_the_machines.Goals as goal

pub returns-clause-made : goal.returns-clause-made
returns-clause-made c = made_is_resolved

pub returns-clause-made_fault : goal.returns-clause-made_fault
returns-clause-made_fault c = made_meets_fault

pub returns-clause-voided : goal.returns-clause-voided
returns-clause-voided c = voided_is_resolved

pub returns-clause-voided_fault : goal.returns-clause-voided_fault
returns-clause-voided_fault c = voided_meets_fault
