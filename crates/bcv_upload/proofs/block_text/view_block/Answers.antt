use Rattle.std.proofs.Common.{◌∙◌, ◌*◌, ◌-◌, sym, arith}
use Rattle.bcv_base.specs.Views.{view_size}
use Rattle.bcv_upload.specs.BlockText.{per_block, view_page}
use Rattle.bcv_upload.specs.State.{view_in}
use Rattle.bcv_upload.proofs.BlockNumbers.{full_of}
use Rattle.bcv_upload.proofs.BlockTexts.{base_there, one_page_more, page_here, page_inside, text_next, whole_block}
use Rattle.bcv_upload.proofs.block_text.view_block.Goals as goal

pub push_page-requires-clause-old : goal.push_page-requires-clause-old
push_page-requires-clause-old c =
    λ is.
    let there = base_there c.args.base.now (view_in c.args.pages.now c.args.base.now) c.args.number c.page_span-before.result.0 c.page_span-before.result.1 c.loop-place.place
    c.page_span-before.ensures.before c.page_span-before.ensures.count c.loop-place-test.true is in
    omega (
      arith,
      c.requires.old there,
      page_inside c.args.base.now c.loop-place.place c.page_span-before.result.1 (view_size c.args.base.now.entry.pages (view_in c.args.pages.now c.args.base.now) - c.args.number * per_block c.args.base.now)
          (full_of c.args.base.now c.requires.base) c.loop-place-test.true c.page_span-before.ensures.count,
    )

pub loop-place-preserved : goal.loop-place-preserved
loop-place-preserved c = (
  text_next (view_page c.args.base.now (view_in c.args.pages.now c.args.base.now) c.args.old.now c.args.number) c.page_span-before.result.0 c.loop-place.place c.args.base.now.entry.page_size
      _ _ _ c.loop-place.invariant.0 c.in_ok-push_page.ensures.added
      (page_here c.args.base.now (view_in c.args.pages.now c.args.base.now) c.args.old.now c.args.number c.page_span-before.result.0 c.loop-place.place c.page_span-before.ensures.before),
  one_page_more _ c.args.base.now.entry.page_size c.loop-place.place _ (c.loop-place.bytes.ok.0 ∙ c.loop-place.invariant.1) (sym c.push_page.new.bytes.ok.0 ∙ c.in_ok-push_page.ensures.longer),
)

pub returns-clause-bytes : goal.returns-clause-bytes
returns-clause-bytes c =
    whole_block c.args.base.now (view_in c.args.pages.now c.args.base.now) c.args.old.now c.args.number c.page_span-before.result.0 c.page_span-before.result.1 c.loop-place.place _ c.loop-place.bytes.items _
    (full_of c.args.base.now c.requires.base) c.page_span-before.ensures.before c.page_span-before.ensures.count (omega (arith, c.loop-place-test.false, c.loop-place.auto.place-end))
    c.loop-place.invariant.0 c.loop-place.invariant.1 c.loop-place.bytes.ok.0 c.in_ok-resize.ensures.items
