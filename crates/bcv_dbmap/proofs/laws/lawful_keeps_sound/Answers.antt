use Rattle.bcv_dbmap.proofs.SoundLaws.{lawful_keeps_sound}
use Rattle.bcv_dbmap.proofs.laws.lawful_keeps_sound.Goals as goal

pub returns : goal.returns
returns c = lawful_keeps_sound
