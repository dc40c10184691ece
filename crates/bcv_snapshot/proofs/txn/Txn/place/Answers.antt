use Rattle.std.proofs.Common.{◌∙◌, Some, ap, sym}
use Rattle.bcv_pages.specs.declared.search.PageAt.{PageAt}
use Rattle.bcv_pages.specs.Found.{shown}
use Rattle.bcv_pages.specs.Held.{view_of}
use Rattle.bcv_snapshot.proofs.BaseBlocks.{from_base}
use Rattle.bcv_snapshot.proofs.txn.Txn.place.Goals as goal

pub block_id-requires-clause-last : goal.block_id-requires-clause-last
block_id-requires-clause-last c =
    let page = from_base c.args.self.now.base (view_of c.args.pages.now c.args.self.now.base.from c.args.self.now.base.to) c.args.page
    (sym c.in-Some-Base.ensures ∙ ap (λ (x : PageAt). Some (shown x)) c.in-Some-Base.field-0-is) in
    page.1
