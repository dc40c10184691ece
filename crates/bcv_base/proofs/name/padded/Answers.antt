use Rattle.bcv_base.proofs.Filled.{drop-written}
use Rattle.bcv_base.proofs.name.padded.Goals as goal

pub returns-clause-back : goal.returns-clause-back
returns-clause-back c = drop-written c.copy_from_slice.new.self c.args.text.now c.copy_from_slice.ensures.after c.requires
