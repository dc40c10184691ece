use Rattle.std.proofs.Common.{inr, rules, arith}
use Rattle.bcv_journal.specs.Settled.{items_of}
use Rattle.bcv_journal.proofs.Reader.{read-end, read-no}
use Rattle.bcv_journal.proofs.layout.read_items.Goals as goal

pub returns-in_default-front_item-clause-fault : goal.returns-in_default-front_item-clause-fault
returns-in_default-front_item-clause-fault c =
    inr (
      c.requires.long,
      c.requires.short,
      inr (inr (
          read-no c.args.bytes.now c.chosen_start-start.result (items_of c.loop-after.items.items) c.loop-after.rest.now c.in-Some.after.now c.in-Some.ensures (search rules) (search rules) (omega (arith, c.if-start-lt17.false)) (omega (arith, c.if-bytes-start.false))
          c.loop-after.invariant c.in_default-front_item.ensures
          )),
    )

pub returns-clause-items : goal.returns-clause-items
returns-clause-items c =
    read-end c.args.bytes.now _ (items_of c.loop-after.items.items) c.loop-after.rest.now (search rules) (search rules) (omega (arith, c.if-start-lt17.false)) (omega (arith, c.if-bytes-start.false)) (search rules) (search rules) c.loop-after.invariant c.in_default.ensures
