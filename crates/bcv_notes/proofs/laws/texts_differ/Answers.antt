use Rattle.bcv_notes.proofs.ReadNotes.{texts_differ}
use Rattle.bcv_notes.proofs.laws.texts_differ.Goals as goal

pub returns : goal.returns
returns c = texts_differ
