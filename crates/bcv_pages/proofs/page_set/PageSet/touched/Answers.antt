use Rattle.std.proofs.Common.{◌++◌, ◌∷◌, [], List, ℕ, sym, ◌∙◌, ap, arith}
use Rattle.bcv_pages.proofs.NextLocal.{filter-none, filter-next}
use Rattle.bcv_pages.proofs.page_set.PageSet.touched.Goals as goal

pub loop-block-preserved : goal.loop-block-preserved
loop-block-preserved c = record {
  start = omega (arith, c.in-Some.ensures.found.inside);
  blocks = c.in_ok-push.ensures.items ∙ ap (λ (ns : List ℕ). ns ++ c.in-Some.block ∷ []) c.loop-block.invariant.blocks ∙ sym (filter-next _ c.loop-block.start _ c.in-Some.block c.in-Some.ensures.found);
}

pub returns : goal.returns
returns c = c.loop-block.invariant.blocks ∙ sym (filter-none _ c.loop-block.start _ c.loop-block.invariant.start c.in_default.ensures.found)
