use Rattle.std.proofs.Common.{◌≡◌, ◌++◌, List, map, vec_len}
use Rattle.bcv_snapshot.specs.declared.held_block.HeldBlock.{HeldBlock}
use Rattle.bcv_snapshot.specs.Pins.{given_back}
use Rattle.bcv_snapshot.proofs.txn.give_back.Given as goal

-- the pins of these held blocks are given back
abbrev pub invariant-loop-pin : goal.invariant-loop-pin
invariant-loop-pin l = record {
  gone : List HeldBlock;
  split : l.fn.held.items ≡ l.held.items ++ gone;
  cache : l.cache ≡ record l.fn.cache { entries = map (given_back gone) l.fn.cache.entries };
}

abbrev pub decreases-loop-pin : goal.decreases-loop-pin
decreases-loop-pin l = vec_len l.held
