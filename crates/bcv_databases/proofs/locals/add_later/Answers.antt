use Rattle.std.proofs.Common.{◌≡◌, List, sym, ap, subst, ◌∙◌}
use Rattle.bcv_base.specs.ManifestRules.{Ascends}
use Rattle.bcv_model.specs.declared.kept.Local.{Local}
use Rattle.bcv_model.specs.Notes.{kept_name, with_local_commit}
use Rattle.bcv_databases.specs.NamedLists.{IsThere}
use Rattle.bcv_databases.proofs.Replaced.{more_there}
use Rattle.bcv_databases.proofs.locals.add_later.Goals as goal

pub returns-clause-locals : goal.returns-clause-locals
returns-clause-locals c =
    let ls : List Local = c.into_vec-changed.result.items in
    let i = c.in-Ok.place in
    let is : ls ≡ c.args.locals.now = c.into_vec-changed.ensures ∙ c.replace.ensures.value in
    let there : IsThere kept_name c.args.db.now ls i = subst (λ (xs : List Local). IsThere kept_name c.args.db.now xs i) c.deref.ensures.value c.in-Ok.ensures.there in
    c.of-2.ensures
    ∙ more_there c.args.db.now c.args.commit ls i c.index_mut.result.now c.add_at.new.local (subst (Ascends kept_name) (sym is) c.requires.order) there c.index_mut.ensures.value c.add_at.ensures.local
    ∙ ap (with_local_commit c.args.db.now c.args.commit) is
