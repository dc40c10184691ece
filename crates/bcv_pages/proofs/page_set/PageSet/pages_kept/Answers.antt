use Rattle.std.proofs.Common.{◌≡◌, ℕ, ◌+◌, ◌-◌, List, length, map, ap, ◌∙◌, subst, arith}
use Rattle.bcv_base.specs.Image.{Writes}
use Rattle.bcv_model.specs.Commits.{writes_of}
use Rattle.bcv_pages.specs.Held.{Held, last_of}
use Rattle.bcv_pages.specs.Indexed.{sizes}
use Rattle.bcv_pages.specs.Minima.{IsLeast}
use Rattle.bcv_pages.proofs.Kept.{kept-least}
use Rattle.bcv_pages.proofs.page_set.PageSet.pages_kept.Goals as goal

pub returns : goal.returns
returns c =
    let kept : List Writes = map writes_of c.self.inside.commits.items in
    let start : ℕ = c.args.from - c.self.inside.forgotten in
    let count : ℕ = c.args.to - c.args.from in
    let forgotten : c.self.inside.forgotten ≡ c.args.self.now.forgotten = ap (λ (h : Held). h.forgotten) c.self.view_is in
    let last : c.self.inside.forgotten + length kept ≡ last_of c.args.self.now = ap last_of c.self.view_is in
    let end : c.args.to - c.self.inside.forgotten ≡ start + count = omega (arith, c.requires.kept, c.requires.order) in
    let least = subst (λ n. IsLeast (sizes kept) start n c.least.result) end (rw c.self.invariant.1.least at c.least.ensures) in
    rw (← c.self.view_is) (c.min.ensures ∙ kept-least c.args.base_pages kept start count c.least.result (omega (arith, c.requires.there, c.requires.kept, c.requires.order)) least)
