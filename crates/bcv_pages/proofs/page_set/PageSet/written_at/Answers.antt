use Rattle.std.proofs.Common.{◌≡◌, ℕ, ◌+◌, ◌-◌, ◌≤◌, ◌<◌, List, ◌∷◌, map, take, drop, length, Some, None, is_some, true, sym, ◌∙◌, ap, subst, arith}
use Rattle.std.proofs.lemmas.List.{length-map}
use Rattle.bcv_base.specs.Image.{Page, Writes, written}
use Rattle.bcv_model.specs.Commits.{writes_of}
use Rattle.bcv_pages.specs.Held.{Held, view_of, last_of}
use Rattle.bcv_pages.specs.Touched.{pages_kept}
use Rattle.bcv_pages.proofs.Kept.{origin-zeros, origin-local, first-writes, view-from}
use Rattle.bcv_pages.proofs.Sets.{commit-ascends}
use Rattle.bcv_pages.proofs.page_set.PageSet.written_at.Goals as goal

pub returns-then-pages_kept-page : goal.returns-then-pages_kept-page
returns-then-pages_kept-page c base_pages =
    let less : pages_kept c.args.page (view_of c.args.self.now (c.args.number - 1) c.args.to) < c.args.page = omega (arith, c.pages_kept.ensures, c.if-pages_kept-page.true) in
    origin-zeros c.args.number c.args.page base_pages (view_of c.args.self.now (c.args.number - 1) c.args.to) c.requires.last less

pub written_bytes-requires : goal.written_bytes-requires
written_bytes-requires c =
    let last : c.self.inside.forgotten + length (map writes_of c.self.inside.commits.items) ≡ last_of c.args.self.now = ap last_of c.self.view_is in
    let forgotten : c.self.inside.forgotten ≡ c.args.self.now.forgotten = ap (λ (h : Held). h.forgotten) c.self.view_is in
    let place : c.args.number - 1 - c.self.inside.forgotten < length c.self.inside.commits.items =
    omega (arith, length-map c.self.inside.commits.items writes_of, c.requires.first, c.requires.there, c.requires.view.kept, c.requires.view.there) in
    rw c.items.ensures (commit-ascends c.self.inside.page_size c.self.inside.commits.items (c.args.number - 1 - c.self.inside.forgotten) c.index.result.now c.self.invariant.0.well place c.index.ensures)

pub unreachable-requires : goal.unreachable-requires
unreachable-requires c =
    let kept : List Writes = map writes_of c.self.inside.commits.items in
    let last : c.self.inside.forgotten + length kept ≡ last_of c.args.self.now = ap last_of c.self.view_is in
    let forgotten : c.self.inside.forgotten ≡ c.args.self.now.forgotten = ap (λ (h : Held). h.forgotten) c.self.view_is in
    let place : ℕ = c.args.number - 1 - c.self.inside.forgotten in
    let count : ℕ = c.args.to - (c.args.number - 1) in
    let inside : place < length c.self.inside.commits.items =
    omega (arith, length-map c.self.inside.commits.items writes_of, c.requires.first, c.requires.there, c.requires.view.kept, c.requires.view.there) in
    let some : 0 < count = omega (arith, c.requires.first, c.requires.there) in
    let is : view_of c.args.self.now (c.args.number - 1) c.args.to ≡ writes_of c.index.result.now ∷ take (count - 1) (drop (place + 1) kept) =
    rw (← c.self.view_is) (view-from c.self.inside.commits.items place count c.index.result.now inside some c.index.ensures) in
    let writes = first-writes c.args.number (writes_of c.index.result.now) (take (count - 1) (drop (place + 1) kept)) c.args.page (rw is at c.requires.last) in
    let none : written c.index.result.now.pages c.args.page ≡ None = rw c.items.ensures at (sym c.in-None.ensures) in
    let both : is_some {T = Page} None ≡ true = sym (ap is_some none) ∙ writes.0 in
    cc

pub returns : goal.returns
returns c base_pages =
    let kept : List Writes = map writes_of c.self.inside.commits.items in
    let last : c.self.inside.forgotten + length kept ≡ last_of c.args.self.now = ap last_of c.self.view_is in
    let forgotten : c.self.inside.forgotten ≡ c.args.self.now.forgotten = ap (λ (h : Held). h.forgotten) c.self.view_is in
    let place : ℕ = c.args.number - 1 - c.self.inside.forgotten in
    let count : ℕ = c.args.to - (c.args.number - 1) in
    let inside : place < length c.self.inside.commits.items =
    omega (arith, length-map c.self.inside.commits.items writes_of, c.requires.first, c.requires.there, c.requires.view.kept, c.requires.view.there) in
    let some : 0 < count = omega (arith, c.requires.first, c.requires.there) in
    let is : view_of c.args.self.now (c.args.number - 1) c.args.to ≡ writes_of c.index.result.now ∷ take (count - 1) (drop (place + 1) kept) =
    rw (← c.self.view_is) (view-from c.self.inside.commits.items place count c.index.result.now inside some c.index.ensures) in
    let enough : c.args.page ≤ pages_kept c.args.page (view_of c.args.self.now (c.args.number - 1) c.args.to) = omega (arith, c.pages_kept.ensures, c.if-pages_kept-page.false) in
    let page : written c.index.result.now.pages c.args.page ≡ Some c.in-Some.bytes.now = rw c.items.ensures at (sym c.in-Some.ensures) in
    rw is (origin-local c.args.number c.args.page base_pages (writes_of c.index.result.now) (take (count - 1) (drop (place + 1) kept)) c.in-Some.bytes.now
    (rw is at c.requires.last) (subst (λ (cs : List Writes). c.args.page ≤ pages_kept c.args.page cs) is enough) page)
