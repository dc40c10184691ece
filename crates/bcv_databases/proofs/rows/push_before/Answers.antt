use Rattle.std.proofs.Common.{◌≡◌, ◌∙◌, ℕ, List, true, length, ap, sym, subst, arith, ◌++◌, ◌∷◌, []}
use Rattle.std.specs.Cmp.Lexicographic.{slice_cmp}
use Rattle.std.specs.Ordering.{nat_cmp}
use Rattle.std.proofs.lemmas.Option.{same_Some}
use Rattle.bcv_base.specs.Keyed.{comes_before}
use Rattle.bcv_model.specs.declared.kept.Local.{Local}
use Rattle.bcv_model.specs.declared.reply.Row.{Row}
use Rattle.bcv_model.specs.Notes.{kept_name}
use Rattle.bcv_databases.proofs.Merged.{GoesOn, goes_at, goes_end, goes_more, is_before, not_before}
use Rattle.bcv_databases.proofs.Replaced.{item_read}
use Rattle.bcv_databases.proofs.rows.push_before.Goals as goal

pub returns-then-is_ge : goal.returns-then-is_ge
returns-then-is_ge c =
    let ls : List Local = c.args.locals.now in
    let name = c.args.name.now in
    let x : Local = c.index-locals-place.result in
    let cmp = c.cmp_bytes.ensures ∙ ap (λ (z : Local). slice_cmp nat_cmp (kept_name z) name) (sym c.index-locals-place.is) in
    goes_at ls c.args.from name c.args.rows.now.items c.loop-place.rows.items c.loop-place.place c.loop-place.invariant x c.loop-place-test.true c.index-locals-place.is c.requires.order c.requires.without
    (not_before (kept_name x) name c.cmp_bytes.result cmp (sym c.is_ge.ensures ∙ c.if-is_ge.true))

pub loop-place-preserved : goal.loop-place-preserved
loop-place-preserved c =
    let ls : List Local = c.args.locals.now in
    let name = c.args.name.now in
    let i = c.loop-place.place in
    let x : Local = c.index-locals-place.result in
    let y : Local = c.index-locals-place-in-loop-place.result in
    let cmp = c.cmp_bytes.ensures ∙ ap (λ (z : Local). slice_cmp nat_cmp (kept_name z) name) (sym c.index-locals-place.is) in
    let before : comes_before (kept_name x) name ≡ true = is_before (kept_name x) name c.cmp_bytes.result cmp (sym c.is_ge.ensures ∙ c.if-is_ge.false) in
    let same : x ≡ y = same_Some x y (sym (item_read ls i x c.loop-place-test.true c.index-locals-place.is) ∙ item_read ls i y c.loop-place-test.true c.index-locals-place-in-loop-place.is) in
    let more = c.in_ok-push.ensures.items ∙ ap (λ (r : Row). c.loop-place.rows.items ++ r ∷ []) c.local_row.ensures in
    goes_more ls c.args.from name c.args.rows.now.items c.loop-place.rows.items i c.loop-place.invariant y c.push.new.self.items c.loop-place-test.true c.index-locals-place-in-loop-place.is
    (ap (λ (z : Local). comes_before (kept_name z) name) (sym same) ∙ before) more

pub returns : goal.returns
returns c =
    let ls : List Local = c.args.locals.now in
    let n : ℕ = length ls in
    let end : c.loop-place.place ≡ n = omega (arith, c.loop-place-test.false, c.loop-place.auto.place, c.loop-place.auto.place-end) in
    goes_end ls c.args.from c.args.name.now c.args.rows.now.items c.loop-place.rows.items n (subst (GoesOn ls c.args.from c.args.name.now c.args.rows.now.items c.loop-place.rows.items) end c.loop-place.invariant) (omega arith) (omega arith)
