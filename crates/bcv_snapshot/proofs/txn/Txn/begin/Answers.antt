use Rattle.std.proofs.Common.{List, sym, subst}
use Rattle.bcv_snapshot.specs.declared.held_block.HeldBlock.{HeldBlock}
use Rattle.bcv_snapshot.specs.Opened.{Opened, IsTxn}
use Rattle.bcv_snapshot.proofs.BaseBlocks.{begun}
use Rattle.bcv_snapshot.proofs.txn.Txn.begin.Goals as goal

pub invariant_of-result : goal.invariant_of-result
invariant_of-result c =
    subst (λ (hs : List HeldBlock). let t : Opened = record { base = c.args.base; size = c.size.result; held = hs } in IsTxn t) (sym c.new.ensures.items) (begun c.args.base c.size.result c.requires.entry c.requires.block)

pub returns-clause-txn : goal.returns-clause-txn
returns-clause-txn c =
    subst (λ (hs : List HeldBlock). let t : Opened = record { base = c.args.base; size = c.size.result; held = hs } in IsTxn t) (sym c.new.ensures.items) (begun c.args.base c.size.result c.requires.entry c.requires.block)
