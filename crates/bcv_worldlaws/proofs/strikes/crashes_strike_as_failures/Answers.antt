use Rattle.bcv_worldlaws.proofs.CrashedAsks.{act_strikes, crash_strikes, places_fall, struck_acts}
use Rattle.bcv_worldlaws.proofs.strikes.crashes_strike_as_failures.Goals as goal

pub returns-clause-strikes : goal.returns-clause-strikes
returns-clause-strikes c = crash_strikes

pub returns-clause-acts : goal.returns-clause-acts
returns-clause-acts c = act_strikes

pub returns-clause-places : goal.returns-clause-places
returns-clause-places c = places_fall

pub returns-clause-struck : goal.returns-clause-struck
returns-clause-struck c = struck_acts
