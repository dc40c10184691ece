use Rattle.std.specs.Cmp.Lexicographic.{slice_cmp}
use Rattle.std.specs.Ordering.{nat_cmp}
use Rattle.std.proofs.Common.{List, ℕ, sym, ap, ◌∙◌, arith, length, subst, ◌≡◌}
use Rattle.bcv_databases.proofs.Places.{IsPast, free_before, free_end, is_before, is_behind, is_same, past_more, there}
use Rattle.bcv_databases.proofs.named.place_of.Goals as goal

pub returns-then-is_eq-clause-there : goal.returns-then-is_eq-clause-there
returns-then-is_eq-clause-there g c =
    let name = c.args.name.now in
    let x = c.index-items-place.result in
    let cmp = c.cmp_bytes-order.ensures ∙ ap (λ (k : List ℕ). slice_cmp nat_cmp k name) c.name.ensures in
    there g.T.Named.key name c.args.items.now c.loop-place.place x c.loop-place-test.true c.loop-place.invariant c.index-items-place.is
    (is_same (g.T.Named.key x) name c.cmp_bytes-order.result cmp (sym c.is_eq.ensures ∙ c.if-is_eq.true))

pub returns-then-is_gt-clause-free : goal.returns-then-is_gt-clause-free
returns-then-is_gt-clause-free g c =
    let name = c.args.name.now in
    let x = c.index-items-place.result in
    let cmp = c.cmp_bytes-order.ensures ∙ ap (λ (k : List ℕ). slice_cmp nat_cmp k name) c.name.ensures in
    free_before g.T.Named.key name c.args.items.now c.loop-place.place x c.loop-place-test.true c.loop-place.invariant c.index-items-place.is
    (is_behind (g.T.Named.key x) name c.cmp_bytes-order.result cmp (sym c.is_gt.ensures ∙ c.if-is_gt.true))

pub loop-place-preserved : goal.loop-place-preserved
loop-place-preserved g c =
    let name = c.args.name.now in
    let x = c.index-items-place.result in
    let cmp = c.cmp_bytes-order.ensures ∙ ap (λ (k : List ℕ). slice_cmp nat_cmp k name) c.name.ensures in
    past_more g.T.Named.key name c.args.items.now c.loop-place.place x c.loop-place-test.true c.loop-place.invariant c.index-items-place.is
    (is_before (g.T.Named.key x) name c.cmp_bytes-order.result cmp (sym c.is_eq.ensures ∙ c.if-is_eq.false) (sym c.is_gt.ensures ∙ c.if-is_gt.false))

pub returns-clause-free : goal.returns-clause-free
returns-clause-free g c =
    let n = length c.args.items.now in
    let end : c.loop-place.place ≡ n = omega (arith, c.loop-place-test.false, c.loop-place.auto.place-end) in
    free_end g.T.Named.key c.args.name.now c.args.items.now n (omega arith) (subst (IsPast g.T.Named.key c.args.name.now c.args.items.now) end c.loop-place.invariant)
