use Rattle.std.proofs.Common.{vec_len}
use Rattle.bcv_transaction.specs.Open.{AreOpenIn}
use Rattle.bcv_transaction.proofs.txn_list.end_every.Given as goal

-- the transactions that are left are open
abbrev pub invariant-loop-txn : goal.invariant-loop-txn
invariant-loop-txn l = AreOpenIn l.cache l.txns.items

abbrev pub decreases-loop-txn : goal.decreases-loop-txn
decreases-loop-txn l = vec_len l.txns
