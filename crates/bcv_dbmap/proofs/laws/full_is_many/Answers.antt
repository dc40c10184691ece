use Rattle.bcv_dbmap.proofs.Room.{full_is_many}
use Rattle.bcv_dbmap.proofs.laws.full_is_many.Goals as goal

pub returns : goal.returns
returns c = full_is_many
