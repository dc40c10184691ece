use Rattle.bcv_tasks.proofs.PutLaws.{puts_keep_names}
use Rattle.bcv_tasks.proofs.laws.puts_keep_names.Goals as goal

pub returns : goal.returns
returns c = puts_keep_names
