use Rattle.std.proofs.Common.{rules, true}
use Rattle.bcv_memstore.proofs.Counting.{counted_put}
use Rattle.bcv_memstore.proofs.Placing.{index_put}
use Rattle.bcv_memstore.proofs.history.History.add_put.Goals as goal

pub invariant_of-self-2 : goal.invariant_of-self-2
invariant_of-self-2 c =
    rw c.add.ensures (rw c.reserve.ensures.items (
      index_put _ _ _ _ _ _ _ _ c.self.invariant.0 (search rules) c.in_ok-set.ensures.set,
      rw (c.from.ensures, c.is_manifest.ensures) (counted_put c.self.inside.entries.items true c.args.name.now c.args.bytes c.args.etag _ c.self.invariant.1),
    ))
