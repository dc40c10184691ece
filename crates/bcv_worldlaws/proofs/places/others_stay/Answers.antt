use Rattle.bcv_worldlaws.proofs.PlacesStay.{others_stay, seen_stays}
use Rattle.bcv_worldlaws.proofs.places.others_stay.Goals as goal

pub returns-clause-stays : goal.returns-clause-stays
returns-clause-stays c = others_stay

pub returns-clause-seen : goal.returns-clause-seen
returns-clause-seen c = seen_stays
