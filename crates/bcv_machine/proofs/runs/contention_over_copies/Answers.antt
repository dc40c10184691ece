use Rattle.bcv_machine.proofs.Accepted.{contended}
use Rattle.bcv_machine.proofs.Refused.{other_numbers, no_ninth_try, not_published}
use Rattle.bcv_machine.proofs.runs.contention_over_copies.Goals as goal

pub returns-clause-accepted : goal.returns-clause-accepted
returns-clause-accepted c = contended

pub returns-clause-numbers : goal.returns-clause-numbers
returns-clause-numbers c = other_numbers

pub returns-clause-no_ninth_try : goal.returns-clause-no_ninth_try
returns-clause-no_ninth_try c = no_ninth_try

pub returns-clause-not_published : goal.returns-clause-not_published
returns-clause-not_published c = not_published
