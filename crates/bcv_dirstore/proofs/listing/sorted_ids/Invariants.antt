use Rattle.std.proofs.Common.{drop}
use Rattle.bcv_dirstore.proofs.FirstIds.{Comes}
use Rattle.bcv_dirstore.proofs.listing.sorted_ids.Given as goal

abbrev pub invariant-loop-id : goal.invariant-loop-id
invariant-loop-id l = Comes l.sorted (drop l.id-index l.found) l.found
