use Rattle.bcv_host.proofs.Untold.{writes}
use Rattle.bcv_host.proofs.file_disk.FileDiskDisk.write_at.Goals as goal

pub returns-clause-writes : goal.returns-clause-writes
returns-clause-writes c = writes _ _ _ _ c.ended.ensures.ends c.ended.ensures.later c.args.at c.args.bytes.now
