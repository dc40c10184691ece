use Rattle.bcv_worldlaws.proofs.WorldOn.{act_goes_on, nothing_grows, world_goes_on}
use Rattle.bcv_worldlaws.proofs.Acting.{act_is_next, acts_in_place, place_is_client}
use Rattle.bcv_worldlaws.proofs.acts.acts_are_steps.Goals as goal

pub returns-clause-client : goal.returns-clause-client
returns-clause-client c = place_is_client

pub returns-clause-acts : goal.returns-clause-acts
returns-clause-acts c = acts_in_place

pub returns-clause-next : goal.returns-clause-next
returns-clause-next c = act_is_next

pub returns-clause-still : goal.returns-clause-still
returns-clause-still c = nothing_grows

pub returns-clause-on : goal.returns-clause-on
returns-clause-on c = world_goes_on

pub returns-clause-goes : goal.returns-clause-goes
returns-clause-goes c = act_goes_on
