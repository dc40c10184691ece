use Rattle.bcv_dbmap.proofs.Worked.{life_is_sound, early_is_unlawful, listed_is_unlawful}
use Rattle.bcv_dbmap.proofs.laws.a_life_is_sound.Goals as goal

pub returns-clause-sound : goal.returns-clause-sound
returns-clause-sound c = life_is_sound

pub returns-clause-early : goal.returns-clause-early
returns-clause-early c = early_is_unlawful

pub returns-clause-listed : goal.returns-clause-listed
returns-clause-listed c = listed_is_unlawful
