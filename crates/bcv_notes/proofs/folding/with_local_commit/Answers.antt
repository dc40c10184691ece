use Rattle.std.proofs.Common.{sym, ap, subst, ◌∙◌, List, [], ◌∷◌, ◌++◌, set}
use Rattle.bcv_model.specs.declared.ask.Commit.{Commit}
use Rattle.bcv_model.specs.declared.kept.Local.{Local}
use Rattle.bcv_model.specs.Notes.{with_local_commit}
use Rattle.bcv_notes.proofs.Placing.{IsFirstNamed, set_at}
use Rattle.bcv_notes.proofs.folding.with_local_commit.Goals as goal

pub returns : goal.returns
returns c =
    let ls = c.into_vec-locals.result.items in
    let i = c.in-Some.place in
    let l : Local = c.index_mut-local.result.now in
    let first : IsFirstNamed c.args.db.now ls i = subst (λ (xs : List Local). IsFirstNamed c.args.db.now xs i) c.deref.ensures.value c.in-Some.ensures in
    c.of-3.ensures
    ∙ ap (λ (cs : List Commit). set ls i (record l { commits = cs })) (c.in_ok-local.ensures ∙ ap (λ (cs : List Commit). cs ++ c.args.commit ∷ []) c.replace-commits.ensures.value)
    ∙ set_at ls i (record l { commits = l.commits ++ c.args.commit ∷ [] }) first.0
    ∙ sym (first.1 (λ (x : Local). record x { commits = x.commits ++ c.args.commit ∷ [] } ∷ []) l c.index_mut-local.ensures.value)
    ∙ ap (with_local_commit c.args.db.now c.args.commit) c.into_vec-locals.ensures
