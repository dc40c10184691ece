use Rattle.bcv_clientstate.proofs.StartRefusals.{poll_is_refused, resolve_is_refused, start_is_refused, upload_is_over}
use Rattle.bcv_clientstate.proofs.laws.starts_are_the_machines.Goals as goal

pub returns-clause-start : goal.returns-clause-start
returns-clause-start c = start_is_refused

pub returns-clause-poll : goal.returns-clause-poll
returns-clause-poll c = poll_is_refused

pub returns-clause-resolve : goal.returns-clause-resolve
returns-clause-resolve c = resolve_is_refused

pub returns-clause-over : goal.returns-clause-over
returns-clause-over c = upload_is_over
