use Rattle.bcv_dbmap.proofs.SoundLaws.{empty_is_sound}
use Rattle.bcv_dbmap.proofs.laws.empty_is_sound.Goals as goal

pub returns : goal.returns
returns c = empty_is_sound
