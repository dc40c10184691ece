use Rattle.std.proofs.Common.{◌≡◌, ◌+◌, ◌-◌, List, map, true, sym, ◌∙◌, ap, subst, arith}
use Rattle.std.specs.List.{list_all}
use Rattle.bcv_base.specs.Image.{Writes}
use Rattle.bcv_base.specs.Views.{is_commit}
use Rattle.bcv_model.specs.Commits.{writes_of}
use Rattle.bcv_pages.specs.Held.{Held, view_of}
use Rattle.bcv_pages.specs.Index.{writing, are_rising, numbers_within}
use Rattle.bcv_pages.proofs.Finding.{finds}
use Rattle.bcv_pages.proofs.Kept.{view-last, none-last}
use Rattle.bcv_pages.proofs.Sets.{view-well}
use Rattle.bcv_pages.proofs.Writings.{writing-rises, found-within}
use Rattle.bcv_pages.proofs.page_set.PageSet.find.Goals as goal

pub within-writes-requires : goal.within-writes-requires
within-writes-requires c =
    subst are_rising (sym (c.writes.ensures ∙ c.self.invariant.1.pages c.args.page)) (writing-rises (c.self.inside.forgotten + 1) (map writes_of c.self.inside.commits.items) c.args.page)

pub written_at-requires-clause-first : goal.written_at-requires-clause-first
written_at-requires-clause-first c =
    let kept : List Writes = map writes_of c.self.inside.commits.items in
    let forgotten : c.self.inside.forgotten ≡ c.args.self.now.forgotten = ap (λ (h : Held). h.forgotten) c.self.view_is in
    let found : c.within-writes.result.now ≡ writing (c.args.from + 1) (view_of c.args.self.now c.args.from c.args.to) c.args.page =
    c.within-writes.ensures ∙ ap (numbers_within c.args.from c.args.to) c.writes.ensures
    ∙ rw (← c.self.view_is) (found-within c.self.inside.index.lists c.self.inside.forgotten c.args.from c.args.to kept c.args.page (c.self.invariant.1.pages c.args.page) (omega (arith, c.requires.view.kept))) in
    let last = view-last c.args.self.now c.args.from c.args.to c.args.page c.in-Some.number.now c.within-writes.result.now c.requires.view found (sym c.in-Some.ensures.value) in
    last.0

pub written_at-requires-clause-there : goal.written_at-requires-clause-there
written_at-requires-clause-there c =
    let kept : List Writes = map writes_of c.self.inside.commits.items in
    let forgotten : c.self.inside.forgotten ≡ c.args.self.now.forgotten = ap (λ (h : Held). h.forgotten) c.self.view_is in
    let found : c.within-writes.result.now ≡ writing (c.args.from + 1) (view_of c.args.self.now c.args.from c.args.to) c.args.page =
    c.within-writes.ensures ∙ ap (numbers_within c.args.from c.args.to) c.writes.ensures
    ∙ rw (← c.self.view_is) (found-within c.self.inside.index.lists c.self.inside.forgotten c.args.from c.args.to kept c.args.page (c.self.invariant.1.pages c.args.page) (omega (arith, c.requires.view.kept))) in
    let last = view-last c.args.self.now c.args.from c.args.to c.args.page c.in-Some.number.now c.within-writes.result.now c.requires.view found (sym c.in-Some.ensures.value) in
    last.1

pub written_at-requires-clause-view : goal.written_at-requires-clause-view
written_at-requires-clause-view c =
    let kept : List Writes = map writes_of c.self.inside.commits.items in
    let forgotten : c.self.inside.forgotten ≡ c.args.self.now.forgotten = ap (λ (h : Held). h.forgotten) c.self.view_is in
    let found : c.within-writes.result.now ≡ writing (c.args.from + 1) (view_of c.args.self.now c.args.from c.args.to) c.args.page =
    c.within-writes.ensures ∙ ap (numbers_within c.args.from c.args.to) c.writes.ensures
    ∙ rw (← c.self.view_is) (found-within c.self.inside.index.lists c.self.inside.forgotten c.args.from c.args.to kept c.args.page (c.self.invariant.1.pages c.args.page) (omega (arith, c.requires.view.kept))) in
    let last = view-last c.args.self.now c.args.from c.args.to c.args.page c.in-Some.number.now c.within-writes.result.now c.requires.view found (sym c.in-Some.ensures.value) in
    last.2

pub written_at-requires-clause-last : goal.written_at-requires-clause-last
written_at-requires-clause-last c =
    let kept : List Writes = map writes_of c.self.inside.commits.items in
    let forgotten : c.self.inside.forgotten ≡ c.args.self.now.forgotten = ap (λ (h : Held). h.forgotten) c.self.view_is in
    let found : c.within-writes.result.now ≡ writing (c.args.from + 1) (view_of c.args.self.now c.args.from c.args.to) c.args.page =
    c.within-writes.ensures ∙ ap (numbers_within c.args.from c.args.to) c.writes.ensures
    ∙ rw (← c.self.view_is) (found-within c.self.inside.index.lists c.self.inside.forgotten c.args.from c.args.to kept c.args.page (c.self.invariant.1.pages c.args.page) (omega (arith, c.requires.view.kept))) in
    let last = view-last c.args.self.now c.args.from c.args.to c.args.page c.in-Some.number.now c.within-writes.result.now c.requires.view found (sym c.in-Some.ensures.value) in
    last.3

pub unwritten_at-requires-clause-none : goal.unwritten_at-requires-clause-none
unwritten_at-requires-clause-none c =
    let kept : List Writes = map writes_of c.self.inside.commits.items in
    let forgotten : c.self.inside.forgotten ≡ c.args.self.now.forgotten = ap (λ (h : Held). h.forgotten) c.self.view_is in
    let found : c.within-writes.result.now ≡ writing (c.args.from + 1) (view_of c.args.self.now c.args.from c.args.to) c.args.page =
    c.within-writes.ensures ∙ ap (numbers_within c.args.from c.args.to) c.writes.ensures
    ∙ rw (← c.self.view_is) (found-within c.self.inside.index.lists c.self.inside.forgotten c.args.from c.args.to kept c.args.page (c.self.invariant.1.pages c.args.page) (omega (arith, c.requires.view.kept))) in
    sym found ∙ none-last c.within-writes.result.now c.in-None.ensures.value

pub returns-in-Some-clause-origin : goal.returns-in-Some-clause-origin
returns-in-Some-clause-origin c =
    let kept : List Writes = map writes_of c.self.inside.commits.items in
    let forgotten : c.self.inside.forgotten ≡ c.args.self.now.forgotten = ap (λ (h : Held). h.forgotten) c.self.view_is in
    let found : c.within-writes.result.now ≡ writing (c.args.from + 1) (view_of c.args.self.now c.args.from c.args.to) c.args.page =
    c.within-writes.ensures ∙ ap (numbers_within c.args.from c.args.to) c.writes.ensures
    ∙ rw (← c.self.view_is) (found-within c.self.inside.index.lists c.self.inside.forgotten c.args.from c.args.to kept c.args.page (c.self.invariant.1.pages c.args.page) (omega (arith, c.requires.view.kept))) in
    let last = view-last c.args.self.now c.args.from c.args.to c.args.page c.in-Some.number.now c.within-writes.result.now c.requires.view found (sym c.in-Some.ensures.value) in
    c.written_at.ensures c.args.base_pages ∙ last.4 c.args.base_pages

pub returns-in-Some-clause-found : goal.returns-in-Some-clause-found
returns-in-Some-clause-found c =
    let kept : List Writes = map writes_of c.self.inside.commits.items in
    let forgotten : c.self.inside.forgotten ≡ c.args.self.now.forgotten = ap (λ (h : Held). h.forgotten) c.self.view_is in
    let found : c.within-writes.result.now ≡ writing (c.args.from + 1) (view_of c.args.self.now c.args.from c.args.to) c.args.page =
    c.within-writes.ensures ∙ ap (numbers_within c.args.from c.args.to) c.writes.ensures
    ∙ rw (← c.self.view_is) (found-within c.self.inside.index.lists c.self.inside.forgotten c.args.from c.args.to kept c.args.page (c.self.invariant.1.pages c.args.page) (omega (arith, c.requires.view.kept))) in
    let last = view-last c.args.self.now c.args.from c.args.to c.args.page c.in-Some.number.now c.within-writes.result.now c.requires.view found (sym c.in-Some.ensures.value) in
    let well : list_all (is_commit c.args.self.now.page_size) (view_of c.args.self.now c.args.from c.args.to) ≡ true =
    rw (← c.self.view_is) (view-well c.self.inside.page_size (map writes_of c.self.inside.commits.items) (c.args.to - c.args.from) (c.args.from - c.self.inside.forgotten) c.self.invariant.0.well) in
    finds _ _ _ _ _ well (c.written_at.ensures c.args.base_pages ∙ last.4 c.args.base_pages) c.requires.first c.requires.last

pub returns-in-None-clause-found : goal.returns-in-None-clause-found
returns-in-None-clause-found c =
    let well : list_all (is_commit c.args.self.now.page_size) (view_of c.args.self.now c.args.from c.args.to) ≡ true =
    rw (← c.self.view_is) (view-well c.self.inside.page_size (map writes_of c.self.inside.commits.items) (c.args.to - c.args.from) (c.args.from - c.self.inside.forgotten) c.self.invariant.0.well) in
    finds _ _ _ _ _ well c.unwritten_at.ensures c.requires.first c.requires.last
