use Rattle.bcv_snapshot.proofs.CallKinds.{calls_change_no_image}
use Rattle.bcv_snapshot.proofs.laws.calls_change_no_image.Goals as goal

pub returns : goal.returns
returns c = calls_change_no_image
