use Rattle.std.proofs.Common.{◌∙◌, ap, subst}
use Rattle.bcv_snapshot.specs.Opened.{Opened, IsTxn, number_of}
use Rattle.bcv_snapshot.proofs.BaseBlocks.{inside, number_below, id_read}
use Rattle.bcv_snapshot.proofs.txn.Txn.block_id.Goals as goal

pub bounds-items-block_of : goal.bounds-items-block_of
bounds-items-block_of c =
    number_below c.items.result.now c.args.self.now.base.entry.blocks c.block_of.result (number_of c.args.self.now.base c.args.page) (c.items.ensures ∙ ap (λ (t : Opened). t.base.entry.blocks) c.self.view_is) c.block_of.ensures.number
    (inside c.args.self.now c.args.page (subst IsTxn c.self.view_is c.self.invariant) c.requires.first c.requires.last)

pub returns : goal.returns
returns c =
    id_read c.items.result.now c.args.self.now.base.entry.blocks c.block_of.result (number_of c.args.self.now.base c.args.page) (record { 0 = _ }) (c.items.ensures ∙ ap (λ (t : Opened). t.base.entry.blocks) c.self.view_is) c.block_of.ensures.number
    (inside c.args.self.now c.args.page (subst IsTxn c.self.view_is c.self.invariant) c.requires.first c.requires.last)
