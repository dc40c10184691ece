use Rattle.std.proofs.Common.{arith, sym, ◌∙◌}
use Rattle.bcv_transaction.specs.Open.{numbers_of}
use Rattle.bcv_transaction.proofs.TxnNumbers.{least_is, not_all_taken, taken_more}
use Rattle.bcv_transaction.proofs.numbers.least_free.Goals as goal

pub loop-number-init : goal.loop-number-init
loop-number-init c = λ k low high. absurd (omega (arith, low, high))

pub returns-then-not-has_number-clause-free : goal.returns-then-not-has_number-clause-free
returns-then-not-has_number-clause-free c =
    least_is (numbers_of c.args.txns.now) c.loop-number.number c.loop-number.auto.number c.loop-number.invariant (sym c.has_number.ensures ∙ c.if-not-has_number.true)

pub loop-number-preserved : goal.loop-number-preserved
loop-number-preserved c = taken_more (numbers_of c.args.txns.now) c.loop-number.number c.loop-number.invariant (sym c.has_number.ensures ∙ c.if-not-has_number.false)

pub unreachable-requires : goal.unreachable-requires
unreachable-requires c =
    let past = c.loop-number-test.false in not_all_taken c.args.txns.now c.requires (λ k low high. c.loop-number.invariant k low (omega (arith, past, high)))
