use Rattle.bcv_machine.proofs.Single.{stays_single, always_single}
use Rattle.bcv_machine.proofs.laws.publications_are_single.Goals as goal

pub returns-clause-stays : goal.returns-clause-stays
returns-clause-stays c = stays_single

pub returns-clause-always : goal.returns-clause-always
returns-clause-always c = always_single
