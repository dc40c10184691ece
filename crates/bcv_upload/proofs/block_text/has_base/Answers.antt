use Rattle.std.proofs.Common.{◌∙◌, sym}
use Rattle.bcv_base.specs.Image.{is_base}
use Rattle.bcv_upload.specs.State.{view_in}
use Rattle.bcv_upload.proofs.BlockTexts.{any_next, base_there}
use Rattle.bcv_upload.proofs.block_text.has_base.Goals as goal

pub loop-place-preserved : goal.loop-place-preserved
loop-place-preserved c =
    any_next (is_base c.args.base.now.entry.pages (view_in c.args.pages.now c.args.base.now)) c.page_span-before.result.0 c.loop-place.place c.loop-place.invariant (sym c.is_base.ensures ∙ c.if-is_base.false)

pub returns-then-is_base : goal.returns-then-is_base
returns-then-is_base c =
    sym (base_there c.args.base.now (view_in c.args.pages.now c.args.base.now) c.args.number c.page_span-before.result.0 c.page_span-before.result.1 c.loop-place.place
    c.page_span-before.ensures.before c.page_span-before.ensures.count c.loop-place-test.true (sym c.is_base.ensures ∙ c.if-is_base.true))
