use Rattle.bcv_clientstate.proofs.GoneLaws.{outlived_may_be_gone}
use Rattle.bcv_clientstate.proofs.laws.outlived_may_be_gone.Goals as goal

pub returns : goal.returns
returns c = outlived_may_be_gone
