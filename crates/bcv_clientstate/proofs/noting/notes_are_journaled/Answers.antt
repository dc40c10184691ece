use Rattle.bcv_clientstate.proofs.NotesTried.{compacts_go_on, notes_go_on}
use Rattle.bcv_clientstate.proofs.noting.notes_are_journaled.Goals as goal

pub returns-clause-note : goal.returns-clause-note
returns-clause-note g c = notes_go_on _ _ c.args.old.now c.args.new.now

pub returns-clause-compact : goal.returns-clause-compact
returns-clause-compact g c = compacts_go_on _ _ c.args.old.now c.args.new.now
