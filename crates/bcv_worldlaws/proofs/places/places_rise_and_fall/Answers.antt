use Rattle.bcv_worldlaws.proofs.WorldOn.{place_moves}
use Rattle.bcv_worldlaws.proofs.PlacesStay.{place_falls, place_rises}
use Rattle.bcv_worldlaws.proofs.places.places_rise_and_fall.Goals as goal

pub returns-clause-falls : goal.returns-clause-falls
returns-clause-falls c = place_falls

pub returns-clause-rises : goal.returns-clause-rises
returns-clause-rises c = place_rises

pub returns-clause-moves : goal.returns-clause-moves
returns-clause-moves c = place_moves
