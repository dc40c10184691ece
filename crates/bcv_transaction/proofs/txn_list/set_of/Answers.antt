use Rattle.std.proofs.Common.{option_map, ap, sym}
use Rattle.bcv_transaction.specs.declared.open_txn.OpenTxn.{OpenTxn}
use Rattle.bcv_transaction.proofs.ListSteps.{none_at}
use Rattle.bcv_transaction.proofs.TxnPlaces.{read_at}
use Rattle.bcv_transaction.proofs.txn_list.set_of.Goals as goal

pub returns-in-Some : goal.returns-in-Some
returns-in-Some c =
    sym (ap (option_map (λ (t : OpenTxn). t.set)) (read_at c.args.number c.args.txns.now c.place_of.result c.in-Some.at c.index-txns-at.result c.place_of.ensures c.in-Some.is c.index-txns-at.is))

pub returns-in-None : goal.returns-in-None
returns-in-None c = sym (ap (option_map (λ (t : OpenTxn). t.set)) (none_at c.args.number c.args.txns.now c.place_of.result c.place_of.ensures c.in-None.is))
