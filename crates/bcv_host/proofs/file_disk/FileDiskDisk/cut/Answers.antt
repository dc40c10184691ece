use Rattle.bcv_host.proofs.Untold.{cuts}
use Rattle.bcv_host.proofs.file_disk.FileDiskDisk.cut.Goals as goal

pub returns-clause-cuts : goal.returns-clause-cuts
returns-clause-cuts c = cuts _ _ _ _ c.ended.ensures.ends c.ended.ensures.later c.args.len
