use Rattle.std.proofs.Common.{◌++◌, ◌∷◌, [], ◌-◌, ◌+◌, None, Some, ap, ◌∙◌}
use Rattle.std.proofs.lemmas.Result.{err_from_is_err_and}
use Rattle.bcv_base.specs.ManifestGrammar.{items_at, id_at}
use Rattle.bcv_base.specs.ManifestText.{id_text}
use Rattle.bcv_manifest.proofs.Loop.{with_front, goes_on, ends, is_done, any_before}
use Rattle.bcv_manifest.proofs.items.ids_of.Goals as goal

pub returns-in_err-id : goal.returns-in_err-id
returns-in_err-id c =
    let p = err_from_is_err_and c.from_residual-in_err-id.result c.from_residual-in_err-id.ensures.1 in
    rw (p.1, p.2) (ends id_text (λ _. id_at) c.in_err-id.field-0.0 c.loop.ids.items c.args.count c.loop.counter None c.loop.rest.now (items_at id_text (λ _. id_at) c.args.count None c.args.bytes.now) c.loop-test.true c.in_err-id.ensures c.loop.invariant)

pub loop-preserved : goal.loop-preserved
loop-preserved c =
    let next = goes_on id_text (λ _. id_at) c.loop.ids.items c.args.count c.loop.counter None c.loop.rest.now c.in_ok-id.id c.in_ok-id.after.now (items_at id_text (λ _. id_at) c.args.count None c.args.bytes.now) c.loop-test.true c.in_ok-id.ensures c.loop.invariant in
    let same = ap (with_front (c.loop.ids.items ++ c.in_ok-id.id ∷ [])) (any_before id_text id_at (c.args.count - (c.loop.counter + 1)) None (Some c.in_ok-id.id.0) c.in_ok-id.after.now) in
    rw c.in_ok-push.ensures.items (same ∙ next)

pub returns : goal.returns
returns c = is_done id_text (λ _. id_at) c.loop.ids.items c.args.count c.loop.counter None c.loop.rest.now (items_at id_text (λ _. id_at) c.args.count None c.args.bytes.now) c.loop-test.false c.loop.invariant
