use Rattle.std.proofs.Common.{ℕ, ◌+◌, ap, ap₂, ◌∙◌, arith}
use Rattle.std.proofs.lemmas.List.{take_rest}
use Rattle.bcv_dbmap.specs.Checked.{needed_total}
use Rattle.bcv_dbmap.proofs.Needs.{total_parts, total_put}
use Rattle.bcv_dbmap.proofs.sizes.needed_with.Goals as goal

pub needed_total-requires-clause-fits : goal.needed_total-requires-clause-fits
needed_total-requires-clause-fits c = omega (arith, total_parts c.args.block c.place_of-place.result.0 c.args.dbs.now)

pub needed_total-requires-2-clause-fits : goal.needed_total-requires-2-clause-fits
needed_total-requires-2-clause-fits c =
    omega (arith, total_parts c.args.block c.place_of-place.result.1 c.args.dbs.now, ap (needed_total c.args.block) (take_rest c.args.dbs.now c.place_of-place.result.1))

pub overflow_add-result : goal.overflow_add-result
overflow_add-result c =
    let first = c.needed_total.ensures in
    omega (arith, total_parts c.args.block c.place_of-place.result.0 c.args.dbs.now)

pub overflow_add-result-2 : goal.overflow_add-result-2
overflow_add-result-2 c =
    let first = c.needed_total.ensures in
    let last = c.needed_total-2.ensures in
    omega (arith, total_parts c.args.block c.place_of-place.result.0 c.args.dbs.now, total_parts c.args.block c.place_of-place.result.1 c.args.dbs.now, ap (needed_total c.args.block) (take_rest c.args.dbs.now c.place_of-place.result.1))

pub returns-clause-value : goal.returns-clause-value
returns-clause-value c = λ d e own.
    ap₂ (λ (a b : ℕ). (a + c.args.own) + b) c.needed_total.ensures (c.needed_total-2.ensures ∙ ap (needed_total c.args.block) (take_rest c.args.dbs.now c.place_of-place.result.1))
    ∙ total_put c.args.block c.place_of-place.result.0 c.place_of-place.result.1 c.args.own c.args.dbs.now d (c.place_of-place.ensures.place d e) own

pub returns-clause-small : goal.returns-clause-small
returns-clause-small c =
    let first = c.needed_total.ensures in
    let last = c.needed_total-2.ensures in
    omega (arith, total_parts c.args.block c.place_of-place.result.0 c.args.dbs.now, total_parts c.args.block c.place_of-place.result.1 c.args.dbs.now, ap (needed_total c.args.block) (take_rest c.args.dbs.now c.place_of-place.result.1))
