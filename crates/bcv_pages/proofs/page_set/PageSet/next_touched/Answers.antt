use Rattle.std.proofs.Common.{◌≡◌, ◌+◌, ◌-◌, ◌*◌, ◌≤◌, ◌∙◌, ap, subst, arith, div-le_self}
use Rattle.bcv_pages.specs.Held.{view_of}
use Rattle.bcv_pages.specs.Touched.{IsNextLocal}
use Rattle.bcv_pages.proofs.NextLocal.{block-next, no-block}
use Rattle.bcv_pages.proofs.page_set.PageSet.next_touched.Goals as goal

pub returns-then-page-from : goal.returns-then-page-from
returns-then-page-from c = record {
  fits = tt;
  found = λ b from inside.
      let page : c.from.result * c.from-2.result ≡ c.args.start * c.args.per_block = ap (λ n. n * c.from-2.result) c.from.ensures ∙ ap (λ n. c.args.start * n) c.from-2.ensures in
      let next = subst (λ n. IsNextLocal c.args.base_pages (view_of c.args.self.now c.args.from c.args.to) (n + 1) c.next_local-page.result) page c.next_local-page.ensures in
      no-block c.args.base_pages c.args.per_block c.args.start c.next_local-page.result c.size-size.result b _ c.size-size.ensures.size next (omega arith) from;
}

pub returns : goal.returns
returns c =
    let page : c.from.result * c.from-2.result ≡ c.args.start * c.args.per_block = ap (λ n. n * c.from-2.result) c.from.ensures ∙ ap (λ n. c.args.start * n) c.from-2.ensures in
    let next = subst (λ n. IsNextLocal c.args.base_pages (view_of c.args.self.now c.args.from c.args.to) (n + 1) c.next_local-page.result) page c.next_local-page.ensures in
    let low : c.args.start * c.args.per_block + 1 ≤ c.next_local-page.result = next.from in
    record {
      fits = omega (arith, div-le_self (c.next_local-page.result - 1) c.args.per_block);
      found = rw (← c.size-size.ensures.size) (block-next c.args.base_pages c.args.per_block c.args.start c.next_local-page.result c.size-size.result _ c.size-size.ensures.size c.requires.some next (omega arith));
    }
