use Rattle.std.proofs.Common.{◌≡◌, ◌++◌}
use Rattle.std.specs.Map.{keys_of}
use Rattle.bcv_dirstore.proofs.mem_files.MemFiles.ids.Given as goal

abbrev pub invariant-loop-id : goal.invariant-loop-id
invariant-loop-id l = l.into.items ++ keys_of l.id-iterator ≡ keys_of l.self.blocks.entries
