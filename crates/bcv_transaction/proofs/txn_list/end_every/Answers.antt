use Rattle.bcv_transaction.proofs.OpenMoves.{ended_last, last_pins}
use Rattle.bcv_transaction.proofs.txn_list.end_every.Goals as goal

pub end-requires-clause-pins : goal.end-requires-clause-pins
end-requires-clause-pins c = last_pins c.loop-txn.cache c.loop-txn.txns.items c.pop.new.self.items c.in-Some.field-0 c.loop-txn.invariant c.in-Some.ensures.items

pub loop-txn-preserved : goal.loop-txn-preserved
loop-txn-preserved c =
    ended_last c.loop-txn.cache c.end.new.cache c.loop-txn.txns.items c.pop.new.self.items c.in-Some.field-0 c.loop-txn.invariant c.in-Some.ensures.items c.end.ensures.entries c.end.ensures.pins
