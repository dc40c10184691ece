use Rattle.bcv_clientstate.proofs.NoteSides.{stands_as_noted, fails_as_noted, full_as_noted}
use Rattle.bcv_clientstate.proofs.laws.notes_are_the_machines.Goals as goal

pub returns-clause-stands : goal.returns-clause-stands
returns-clause-stands c = stands_as_noted

pub returns-clause-fails : goal.returns-clause-fails
returns-clause-fails c = fails_as_noted

pub returns-clause-full : goal.returns-clause-full
returns-clause-full c = full_as_noted
