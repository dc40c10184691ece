use Rattle.std.proofs.Common.{◌≡◌, drop}
use Rattle.bcv_databases.specs.Changes.{least_of}
use Rattle.bcv_transaction.specs.Open.{oldest_in}
use Rattle.bcv_transaction.proofs.txn_list.oldest_of.Given as goal

-- what was found so far and what is still to be found come to the whole
abbrev pub invariant-loop-txn : goal.invariant-loop-txn
invariant-loop-txn l = least_of l.oldest (oldest_in l.set (drop l.txn-index l.txns)) ≡ oldest_in l.set l.txns
