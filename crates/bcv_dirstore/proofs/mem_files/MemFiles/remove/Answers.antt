use Rattle.std.proofs.Common.{None}
use Rattle.bcv_dirstore.proofs.Files.{file_changed}
use Rattle.bcv_dirstore.proofs.mem_files.MemFiles.remove.Goals as goal

pub returns-in-Block : goal.returns-in-Block
returns-in-Block c = rw c.in-Block.is (file_changed c.args.self.now.manifest c.args.self.now.blocks c.remove.new.self c.in-Block.id None c.remove.ensures.updates)
