use Rattle.bcv_worldlaws.proofs.WorldOn.{first_world_fits}
use Rattle.bcv_worldlaws.proofs.FirstWorld.{first_state, new_place, tick_is_next}
use Rattle.bcv_worldlaws.proofs.places.worlds_begin_and_go_on.Goals as goal

pub returns-clause-new : goal.returns-clause-new
returns-clause-new c = new_place

pub returns-clause-first : goal.returns-clause-first
returns-clause-first c = first_state

pub returns-clause-tick : goal.returns-clause-tick
returns-clause-tick c = tick_is_next

pub returns-clause-fits : goal.returns-clause-fits
returns-clause-fits c = first_world_fits
