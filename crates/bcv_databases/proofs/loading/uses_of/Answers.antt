use Rattle.std.proofs.Common.{List, ap, sym, take, get_or, ◌∙◌, [], ◌∷◌, ◌++◌}
use Rattle.bcv_model.specs.declared.kept.Local.{Local}
use Rattle.bcv_databases.specs.Slots.{uses_from}
use Rattle.bcv_databases.specs.declared.set_use.SetUse.{SetUse}
use Rattle.bcv_databases.proofs.Loaded.{use_at, uses_more}
use Rattle.bcv_databases.proofs.loading.uses_of.Goals as goal

pub loop-place-preserved : goal.loop-place-preserved
loop-place-preserved c =
    let l = c.index-locals-place.result in
    let i = c.loop-place.place in
    let ls : List Local = c.args.locals.now in
    c.in_ok-push.ensures.items
    ∙ ap (λ (us : List SetUse). us ++ use_at (get_or ls i l) i ∷ []) c.loop-place.invariant
    ∙ ap (λ (z : Local). uses_from 0 (take i ls) ++ use_at z i ∷ []) (sym c.index-locals-place.is)
    ∙ uses_more ls i l c.loop-place-test.true c.index-locals-place.is
