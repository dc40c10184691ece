use Rattle.std.proofs.Common.{Some}
use Rattle.bcv_dirstore.proofs.Files.{file_changed}
use Rattle.bcv_dirstore.proofs.mem_files.MemFiles.set.Goals as goal

pub returns-in_ok-insert-in-Block-clause-set : goal.returns-in_ok-insert-in-Block-clause-set
returns-in_ok-insert-in-Block-clause-set c =
    rw c.in-Block.is (file_changed c.args.self.now.manifest c.args.self.now.blocks c.insert.new.self c.in-Block.id (Some c.args.bytes) c.in_ok-insert-in-Block.ensures.updates)
