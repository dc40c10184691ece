use Rattle.bcv_notes.proofs.NoteSizes.{note_len}
use Rattle.bcv_notes.proofs.laws.sizes_agree.Goals as goal

pub returns : goal.returns
returns c = note_len
