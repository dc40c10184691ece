use Rattle.bcv_dbmap.proofs.OthersLaws.{others_keep_sound}
use Rattle.bcv_dbmap.proofs.laws.others_keep_sound.Goals as goal

pub returns : goal.returns
returns c = others_keep_sound
