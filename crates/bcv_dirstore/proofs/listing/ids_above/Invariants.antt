use Rattle.std.proofs.Common.{◌≡◌, ◌≤◌, ◌++◌, length}
use Rattle.std.specs.Option.{option_copied}
use Rattle.std.specs.Map.{keys_of}
use Rattle.bcv_dirstore.specs.Index.{ids_past}
use Rattle.bcv_dirstore.proofs.listing.ids_above.Given as goal

abbrev pub invariant-loop-id : goal.invariant-loop-id
invariant-loop-id l = (l.into.items ++ keys_of l.id-iterator ≡ ids_past (option_copied l.after) l.sorted) × (length l.into.items ≤ 1024)
