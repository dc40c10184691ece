use Rattle.bcv_machine.proofs.Accepted.{pinned}
use Rattle.bcv_machine.proofs.Refused.{not_full_yet, not_held_any_more}
use Rattle.bcv_machine.proofs.runs.pins_fill_the_cache.Goals as goal

pub returns-clause-accepted : goal.returns-clause-accepted
returns-clause-accepted c = pinned

pub returns-clause-not_full_yet : goal.returns-clause-not_full_yet
returns-clause-not_full_yet c = not_full_yet

pub returns-clause-not_held_any_more : goal.returns-clause-not_held_any_more
returns-clause-not_held_any_more c = not_held_any_more
