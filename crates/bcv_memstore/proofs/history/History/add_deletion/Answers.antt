use Rattle.std.proofs.Common.{true}
use Rattle.bcv_memstore.proofs.Counting.{counted_deletion}
use Rattle.bcv_memstore.proofs.Placing.{index_deletion}
use Rattle.bcv_memstore.proofs.history.History.add_deletion.Goals as goal

pub invariant_of-self-2 : goal.invariant_of-self-2
invariant_of-self-2 c =
    rw c.add.ensures (rw c.reserve.ensures.items (
      index_deletion _ _ _ _ _ _ c.self.invariant.0 c.remove.ensures,
      counted_deletion c.self.inside.entries.items true c.args.name.now c.args.at _ c.self.invariant.1,
    ))
