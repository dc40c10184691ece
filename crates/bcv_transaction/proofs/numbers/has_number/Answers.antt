use Rattle.std.proofs.Common.{◌==◌, rules, tests, sym, ◌∙◌}
use Rattle.std.proofs.lemmas.Iterator.{YieldsList-from_slice}
use Rattle.std.proofs.lemmas.Iterator.Search.{any_from_yields_List}
use Rattle.bcv_transaction.specs.declared.open_txn.OpenTxn.{OpenTxn}
use Rattle.bcv_transaction.proofs.TxnNumbers.{numbers_any}
use Rattle.bcv_transaction.proofs.numbers.has_number.Goals as goal

pub returns : goal.returns
returns c =
    any_from_yields_List (λ (t : OpenTxn). t.number == c.args.number) _ _ c.any.result c.any.ensures.ran (YieldsList-from_slice c.args.txns.now cc) (λ x b q k. search (rules, tests))
    ∙ sym (numbers_any c.args.number c.args.txns.now)
