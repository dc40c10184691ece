use Rattle.bcv_dbmap.proofs.OthersLaws.{others_leave_mine}
use Rattle.bcv_dbmap.proofs.laws.others_leave_mine.Goals as goal

pub returns : goal.returns
returns c = others_leave_mine
