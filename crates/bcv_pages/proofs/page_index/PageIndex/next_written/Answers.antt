use Rattle.std.proofs.Common.{◌≡◌, ℕ, [], Option, Some, unwrap_or, option_map, sym, ◌∙◌, ap, subst, arith}
use Rattle.std.specs.Global.{Vec}
use Rattle.std.specs.BTreeMap.{get}
use Rattle.std.specs.Ordering.{nat_cmp}
use Rattle.std.proofs.lemmas.Grind.{common_steps}
use Rattle.bcv_pages.specs.Index.{listed, are_rising}
use Rattle.bcv_pages.proofs.page_index.PageIndex.next_written.Goals as goal

pub within-requires : goal.within-requires
within-requires c =
    let first = (c.range.ensures.in_range tt).1 in
    let found : get nat_cmp c.args.self.now.lists c.in-Some.number.now ≡ Some c.in-Some.writes.now = grind (arith, common_steps, first) in
    let same : listed c.args.self.now.lists c.in-Some.number.now ≡ c.as_slice.result.now =
    ap (λ (o : Option (Vec ℕ)). unwrap_or (option_map (λ (v : Vec ℕ). v.items) o) []) found ∙ sym c.as_slice.ensures.value in
    subst are_rising same (c.requires c.in-Some.number.now)
