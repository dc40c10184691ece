use Rattle.bcv_snapshot.proofs.PinLaws.{pins_stay}
use Rattle.bcv_snapshot.proofs.laws.pins_stay.Goals as goal

pub returns : goal.returns
returns c = pins_stay
