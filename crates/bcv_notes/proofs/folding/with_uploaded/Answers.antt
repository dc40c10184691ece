use Rattle.std.proofs.Common.{List, length, sym, ap, subst, ◌∙◌}
use Rattle.std.specs.List.{insert}
use Rattle.std.proofs.lemmas.Bool.{eqb-true, eqb-false}
use Rattle.bcv_model.specs.declared.kept.Local.{Local}
use Rattle.bcv_model.specs.Notes.{with_uploaded}
use Rattle.bcv_notes.proofs.Placing.{IsFirstNamed, uploaded_all, uploaded_some}
use Rattle.bcv_notes.proofs.folding.with_uploaded.Goals as goal

pub returns-then-is_empty : goal.returns-then-is_empty
returns-then-is_empty c =
    let ls = c.into_vec-locals.result.items in
    let i = c.in-Some.place in
    let db = c.args.upload.entry.name in
    let first : IsFirstNamed db ls i = subst (λ (xs : List Local). IsFirstNamed db xs i) c.deref.ensures.value c.in-Some.ensures in
    c.of-then-is_empty.ensures
    ∙ c.remove-local.ensures.items
    ∙ uploaded_all c.args.number c.args.upload ls i c.remove-local.result first c.remove-local.ensures.value c.in_ok-commits.commits c.in_ok-commits.ensures (ap length (sym c.items.ensures) ∙ eqb-true _ _ (sym c.is_empty.ensures ∙ c.if-is_empty.true))
    ∙ ap (with_uploaded c.args.number c.args.upload) c.into_vec-locals.ensures

pub returns : goal.returns
returns c =
    let ls = c.into_vec-locals.result.items in
    let i = c.in-Some.place in
    let db = c.args.upload.entry.name in
    let first : IsFirstNamed db ls i = subst (λ (xs : List Local). IsFirstNamed db xs i) c.deref.ensures.value c.in-Some.ensures in
    c.of-2.ensures
    ∙ c.in_ok-insert.ensures.items
    ∙ ap (λ (l : List Local). insert l i (record { entry = c.args.upload.entry; number = c.args.number; block = c.args.upload.block; commits = c.in_ok-commits.commits })) c.remove-local.ensures.items
    ∙ uploaded_some c.args.number c.args.upload ls i c.remove-local.result first c.remove-local.ensures.value c.in_ok-commits.commits c.in_ok-commits.ensures (λ none. eqb-false _ _ (sym c.is_empty.ensures ∙ c.if-is_empty.false) (ap length c.items.ensures ∙ none))
    ∙ ap (with_uploaded c.args.number c.args.upload) c.into_vec-locals.ensures
