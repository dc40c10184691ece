use Rattle.std.proofs.Common.{◌≡◌, ◌-◌, ap, arith}
use Rattle.bcv_pages.specs.Held.{Held}
use Rattle.bcv_pages.proofs.Sets.{part-view, part-well, part-ascends}
use Rattle.bcv_pages.proofs.page_set.PageSet.commits_of.Goals as goal

pub returns-clause-view : goal.returns-clause-view
returns-clause-view c =
    let forgotten : c.self.inside.forgotten ≡ c.args.self.now.forgotten = ap (λ (h : Held). h.forgotten) c.self.view_is in
    let many : c.args.to - c.self.inside.forgotten - (c.args.from - c.self.inside.forgotten) ≡ c.args.to - c.args.from = omega arith in
    rw (c.deref.ensures.value, ← c.self.view_is) (part-view c.self.inside.commits.items _ _ _ many)

pub returns-clause-well : goal.returns-clause-well
returns-clause-well c = rw (c.deref.ensures.value, ← c.self.view_is) (part-well _ c.self.inside.commits.items _ _ c.self.invariant.0.well)

pub returns-clause-ascend : goal.returns-clause-ascend
returns-clause-ascend c = rw c.deref.ensures.value (part-ascends _ c.self.inside.commits.items _ _ c.self.invariant.0.well)
