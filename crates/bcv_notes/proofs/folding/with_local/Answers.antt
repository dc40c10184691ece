use Rattle.std.proofs.Common.{List, refl, sym, ap, subst, ◌∙◌}
use Rattle.bcv_base.specs.Keyed.{with_keyed}
use Rattle.bcv_model.specs.declared.kept.Local.{Local}
use Rattle.bcv_model.specs.Notes.{kept_name}
use Rattle.bcv_notes.proofs.Placing.{IsThere, set_at}
use Rattle.bcv_notes.proofs.folding.with_local.Goals as goal

pub returns-in-Ok : goal.returns-in-Ok
returns-in-Ok c =
    let there : IsThere (kept_name c.args.local) c.into_vec-locals.result.items c.in-Ok.place = subst (λ (ls : List Local). IsThere (kept_name c.args.local) ls c.in-Ok.place) c.deref.ensures.value c.in-Ok.ensures.there in
    c.of.ensures
    ∙ set_at c.into_vec-locals.result.items c.in-Ok.place c.args.local there.0
    ∙ sym (there.1 c.args.local refl)
    ∙ ap (with_keyed kept_name c.args.local) c.into_vec-locals.ensures
