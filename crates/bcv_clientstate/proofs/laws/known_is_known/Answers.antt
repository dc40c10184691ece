use Rattle.bcv_clientstate.proofs.KnownLaws.{known_fits, known_is_known}
use Rattle.bcv_clientstate.proofs.laws.known_is_known.Goals as goal

pub returns-clause-known : goal.returns-clause-known
returns-clause-known c = known_is_known

pub returns-clause-fits : goal.returns-clause-fits
returns-clause-fits c = known_fits
