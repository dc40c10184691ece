use Rattle.bcv_clientstate.proofs.WorkSides.{read_fails, read_finds_fault, read_finds_none, request_fails, request_finds_gone}
use Rattle.bcv_clientstate.proofs.laws.faults_end_publications.Goals as goal

pub returns-clause-read : goal.returns-clause-read
returns-clause-read c = read_fails

pub returns-clause-edit : goal.returns-clause-edit
returns-clause-edit c = read_finds_fault

pub returns-clause-none : goal.returns-clause-none
returns-clause-none c = read_finds_none

pub returns-clause-request : goal.returns-clause-request
returns-clause-request c = request_fails

pub returns-clause-gone : goal.returns-clause-gone
returns-clause-gone c = request_finds_gone
