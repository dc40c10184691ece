use Rattle.bcv_clientlaws.proofs.FaultsEnd.{read_fails_voided, read_finds_fault_voided, read_finds_none_voided, request_fails_voided, request_finds_gone_voided}
use Rattle.bcv_clientlaws.proofs.steps.faults_end_as_the_machines.Goals as goal

pub returns-clause-read : goal.returns-clause-read
returns-clause-read c = read_fails_voided

pub returns-clause-edit : goal.returns-clause-edit
returns-clause-edit c = read_finds_fault_voided

pub returns-clause-none : goal.returns-clause-none
returns-clause-none c = read_finds_none_voided

pub returns-clause-request : goal.returns-clause-request
returns-clause-request c = request_fails_voided

pub returns-clause-gone : goal.returns-clause-gone
returns-clause-gone c = request_finds_gone_voided
