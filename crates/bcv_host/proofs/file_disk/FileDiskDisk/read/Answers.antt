use Rattle.bcv_host.proofs.Untold.{reads}
use Rattle.bcv_host.proofs.file_disk.FileDiskDisk.read.Goals as goal

pub returns-clause-reads : goal.returns-clause-reads
returns-clause-reads c = reads _ _ _ _ c.ended.ensures.ends c.ended.ensures.later c.args.at c.args.into.now c.read_exact_at.new.buf
