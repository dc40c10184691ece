use Rattle.bcv_base.proofs.Filled.{take-joined}
use Rattle.bcv_base.proofs.object.ended.Goals as goal

pub returns-clause-text : goal.returns-clause-text
returns-clause-text c =
    take-joined c.args.stem.now c.copy_from_slice.new.self c.copy_from_slice-2.new.self
    c.requires c.copy_from_slice.ensures.after c.copy_from_slice-2.ensures.after
