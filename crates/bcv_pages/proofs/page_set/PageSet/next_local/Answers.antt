use Rattle.std.proofs.Common.{◌≡◌, ℕ, ◌+◌, ◌-◌, max, min, List, map, take, drop, sym, ◌∙◌, ap, subst, arith}
use Rattle.bcv_base.specs.Image.{Writes}
use Rattle.bcv_model.specs.Commits.{writes_of}
use Rattle.bcv_pages.specs.Held.{Held, view_of}
use Rattle.bcv_pages.specs.Index.{are_rising}
use Rattle.bcv_pages.proofs.Writings.{writing-rises, found-within}
use Rattle.bcv_pages.proofs.NextLocal.{local-grown, local-next}
use Rattle.bcv_pages.proofs.page_set.PageSet.next_local.Goals as goal

pub next_written-requires : goal.next_written-requires
next_written-requires c p =
    let kept : List Writes = map writes_of c.self.inside.commits.items in
    subst are_rising (sym (c.self.invariant.1.pages p)) (writing-rises (c.self.inside.forgotten + 1) kept p)

pub returns-in-Some : goal.returns-in-Some
returns-in-Some c =
    let kept : List Writes = map writes_of c.self.inside.commits.items in
    let forgotten : c.self.inside.forgotten ≡ c.args.self.now.forgotten = ap (λ (h : Held). h.forgotten) c.self.view_is in
    let V : List Writes = view_of c.args.self.now c.args.from c.args.to in
    let found = λ (p : ℕ). found-within c.self.inside.index.lists c.self.inside.forgotten c.args.from c.args.to kept p (c.self.invariant.1.pages p) (omega (arith, c.requires.view.kept)) in
    rw (← c.self.view_is) (local-next c.args.base_pages c.args.page (c.args.from + 1) c.pages_kept.result c.max-grown.result c.in-Some.written c.min.result (take (c.args.to - c.args.from) (drop (c.args.from - c.self.inside.forgotten) kept))
    (rw (← c.self.view_is) at c.pages_kept.ensures)
    (c.max-grown.ensures ∙ ap (λ n. max (n + 1) c.from.result) c.from-past.ensures ∙ ap (λ n. max (c.pages_kept.result + 1) n) c.from.ensures)
    (c.min.ensures ∙ ap (λ n. min c.max-grown.result n) c.from-in-Some.ensures)
    c.in-Some.ensures.start
    (λ none. c.in-Some.ensures.found (found c.in-Some.written ∙ none))
    (λ p low lt. sym (found p) ∙ c.in-Some.ensures.before p low lt))

pub returns-in-None : goal.returns-in-None
returns-in-None c =
    let kept : List Writes = map writes_of c.self.inside.commits.items in
    let forgotten : c.self.inside.forgotten ≡ c.args.self.now.forgotten = ap (λ (h : Held). h.forgotten) c.self.view_is in
    let found = λ (p : ℕ). found-within c.self.inside.index.lists c.self.inside.forgotten c.args.from c.args.to kept p (c.self.invariant.1.pages p) (omega (arith, c.requires.view.kept)) in
    rw (← c.self.view_is) (local-grown c.args.base_pages c.args.page (c.args.from + 1) c.pages_kept.result c.max-grown.result (take (c.args.to - c.args.from) (drop (c.args.from - c.self.inside.forgotten) kept))
    (rw (← c.self.view_is) at c.pages_kept.ensures)
    (c.max-grown.ensures ∙ ap (λ n. max (n + 1) c.from.result) c.from-past.ensures ∙ ap (λ n. max (c.pages_kept.result + 1) n) c.from.ensures)
    (λ p low most. sym (found p) ∙ c.in-None.ensures p low (omega (arith, c.pages_kept.type_inv))))
