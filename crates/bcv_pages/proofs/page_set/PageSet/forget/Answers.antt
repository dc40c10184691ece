use Rattle.std.proofs.Common.{◌≡◌, ℕ, ◌+◌, ◌-◌, Vec, Global, min, length, List, map, drop, nat_lt, sym, ◌∙◌, ap, subst, arith}
use Rattle.std.specs.Option.{option_map}
use Rattle.bcv_model.specs.declared.ask.Commit.{Commit}
use Rattle.bcv_pages.specs.Held.{Held, KeepsView, held_of, without_upto}
use Rattle.bcv_model.specs.Commits.{writes_of}
use Rattle.std.specs.List.{filter}
use Rattle.bcv_pages.specs.Index.{are_rising}
use Rattle.bcv_pages.specs.Minima.{Minima}
use Rattle.bcv_pages.proofs.Writings.{writing-rises}
use Rattle.bcv_pages.proofs.Sets.{drop-well, forgot-is, views-after, pages-forgot, sizes-forgot, ready-after}
use Rattle.bcv_pages.proofs.page_set.PageSet.forget.Goals as goal

pub forget-requires : goal.forget-requires
forget-requires c p = subst are_rising (sym (c.self.invariant.1.pages p)) (writing-rises (c.self.inside.forgotten + 1) (map writes_of c.self.inside.commits.items) p)

pub invariant_of-self : goal.invariant_of-self
invariant_of-self c =
    let items : List Commit = c.self.inside.commits.items in
    let count : ℕ = c.min-count.result in
    let dropped : c.drop_first-2.new.self.sizes ≡ drop count c.self.inside.minima.sizes = ap (λ (m : Minima). m.sizes) c.drop_first-2.ensures in (
      record {
        well = rw c.drop_first.ensures.items (drop-well c.self.inside.page_size items count c.self.invariant.0.well);
        fits = omega (arith, c.self.invariant.0.fits);
        room = λ ready. omega (arith, c.self.invariant.0.room ready);
        next = λ ready. omega (arith, c.self.invariant.0.next ready);
      },
      record {
        pages = λ p. rw c.drop_first.ensures.items (c.forget.ensures.listed p ∙ ap (filter (nat_lt (c.self.inside.forgotten + count))) (c.self.invariant.1.pages p) ∙ pages-forgot c.self.inside.forgotten count items p);
        least = rw c.drop_first.ensures.items (dropped ∙ ap (drop count) c.self.invariant.1.least ∙ sizes-forgot count items);
        ready = ready-after c.self.inside.index.lists c.forget.new.self.lists c.self.inside.minima.ready c.drop_first-2.new.self.ready _ c.ready_pages.result.now c.ready_pages.ensures (ap (λ (m : Minima). m.ready) c.drop_first-2.ensures) c.forget.ensures.room c.self.invariant.1.ready;
      },
    )

pub returns-clause-forgot : goal.returns-clause-forgot
returns-clause-forgot c =
    let s = c.self.inside in
    let ready = option_map (λ (numbers : Vec ℕ Global). numbers.items) s.ready in
    let many : c.min-count.result ≡ min (c.args.upto - s.forgotten) (length s.commits.items) = omega arith in
    ap (λ (commits : List Commit). held_of s.page_size (s.forgotten + c.min-count.result) commits ready) c.drop_first.ensures.items
    ∙ forgot-is s.page_size s.forgotten s.commits.items ready c.args.upto c.min-count.result many
    ∙ ap (λ (h : Held). without_upto c.args.upto h) c.self.view_is

pub returns-clause-views : goal.returns-clause-views
returns-clause-views c from to le = subst (λ (h : Held). KeepsView c.args.self.now h from to) (sym (returns-clause-forgot c)) (views-after c.args.self.now c.args.upto from to le)
