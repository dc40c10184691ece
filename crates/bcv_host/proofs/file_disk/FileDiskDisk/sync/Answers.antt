use Rattle.bcv_host.proofs.Untold.{syncs}
use Rattle.bcv_host.proofs.file_disk.FileDiskDisk.sync.Goals as goal

pub returns-clause-syncs : goal.returns-clause-syncs
returns-clause-syncs c = syncs _ _ _ _ c.ended.ensures.ends c.ended.ensures.later
