use Rattle.std.proofs.Common.{◌≡◌, ℕ, ◌≤◌, List, [], ◌++◌, length, take, take_all, drop, append-nil, refl, sym, ap, ◌∙◌, subst, arith}
use Rattle.std.specs.Io.KnownBytes.{Consumes, IsAtEnd}
use Rattle.std.proofs.lemmas.List.{drop_all}
use Rattle.bcv_commands.specs.declared.pages.NextPage.TheVariants as page
use Rattle.bcv_commands.specs.Filling.{TakesPage}
use Rattle.bcv_commands.proofs.Fillings.{page_whole, page_part, page_limit, page_fault}
use Rattle.bcv_commands.proofs.pages.next_page.Goals as goal

pub returns-in-Full-clause-read : goal.returns-in-Full-clause-read
returns-in-Full-clause-read g c =
    let new = c.fill_from.new.slice in
    let old = c.in-Ok.page.items in
    let len : length new ≡ length old = c.in-Full.ensures.len ∙ ap length c.deref_mut.ensures.value in
    let none : drop (length new) old ≡ [] = drop_all (length new) old (omega (arith, len)) in
    let fits : length new ≤ c.in-Ok.page.len = omega (arith, c.in-Full.ensures.len, c.deref_mut.ensures.len) in
    let shown : c.of.result ≡ new =
    c.of.ensures ∙ ap (λ (l : List ℕ). take c.in-Ok.page.len (new ++ l)) none ∙ ap (λ (l : List ℕ). take c.in-Ok.page.len l) (append-nil new) ∙ take_all c.in-Ok.page.len new fits in
    subst (λ (p : List ℕ). (taken : List ℕ) × Consumes (g.I.Source.left c.args.input.now) (g.I.Source.left c.fill_from.new.input) taken × TakesPage (page.Whole p) c.args.page_size c.args.before (c.args.front.now ++ taken) (IsAtEnd (g.I.Source.left c.fill_from.new.input))) (sym shown)
    (page_whole (g.I.Source.left c.args.input.now) (g.I.Source.left c.fill_from.new.input) c.args.before c.args.page_size (length c.args.front.now) c.args.front.now c.in-Ok.page.items c.fill_from.new.slice c.in-Ok.ensures.1 c.in-Ok.ensures.0 (c.in-Full.ensures.front ∙ ap (λ (l : List ℕ). take (length c.args.front.now) l) c.deref_mut.ensures.value) (c.in-Full.ensures.len ∙ ap length c.deref_mut.ensures.value) refl c.requires.front c.in-Full.ensures.bytes)

pub returns-in-Ended-clause-read : goal.returns-in-Ended-clause-read
returns-in-Ended-clause-read g c = page_part (g.I.Source.left c.args.input.now) (g.I.Source.left c.fill_from.new.input) c.args.before c.args.page_size (length c.args.front.now) c.args.front.now c.in-Ok.page.items c.fill_from.new.slice c.in-Ok.ensures.1 c.in-Ok.ensures.0 (c.in-Ended.ensures.front ∙ ap (λ (l : List ℕ). take (length c.args.front.now) l) c.deref_mut.ensures.value) (c.in-Ended.ensures.len ∙ ap length c.deref_mut.ensures.value) refl c.in-Ended.count c.in-Ended.ensures.bytes

pub returns-in-TooLong-clause-read : goal.returns-in-TooLong-clause-read
returns-in-TooLong-clause-read g c = page_limit (g.I.Source.left c.args.input.now) (g.I.Source.left c.fill_from.new.input) c.args.before c.args.page_size (length c.args.front.now) c.args.front.now c.in-Ok.page.items c.fill_from.new.slice c.in-Ok.ensures.1 c.in-Ok.ensures.0 (c.in-TooLong.ensures.front ∙ ap (λ (l : List ℕ). take (length c.args.front.now) l) c.deref_mut.ensures.value) (c.in-TooLong.ensures.len ∙ ap length c.deref_mut.ensures.value) refl c.in-TooLong.ensures.bytes

pub returns-in-Failed-clause-read : goal.returns-in-Failed-clause-read
returns-in-Failed-clause-read g c = page_fault (g.I.Source.left c.args.input.now) (g.I.Source.left c.fill_from.new.input) c.args.before c.args.page_size (length c.args.front.now) c.args.front.now c.in-Ok.page.items c.fill_from.new.slice c.in-Ok.ensures.1 c.in-Ok.ensures.0 (c.in-Failed.ensures.front ∙ ap (λ (l : List ℕ). take (length c.args.front.now) l) c.deref_mut.ensures.value) (c.in-Failed.ensures.len ∙ ap length c.deref_mut.ensures.value) refl c.in-Failed.ensures.bytes
