use Rattle.bcv_worldlaws.proofs.QuietPlaces.{quiet_act_goes_on, quiet_acts, quiet_acts_fit}
use Rattle.bcv_worldlaws.proofs.acts.quiet_acts_are_the_machines.Goals as goal

pub returns-clause-acts : goal.returns-clause-acts
returns-clause-acts c = quiet_acts

pub returns-clause-fit : goal.returns-clause-fit
returns-clause-fit c = quiet_acts_fit

pub returns-clause-goes : goal.returns-clause-goes
returns-clause-goes c = quiet_act_goes_on
