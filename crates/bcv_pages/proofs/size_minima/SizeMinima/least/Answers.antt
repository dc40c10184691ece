use Rattle.std.proofs.Common.{◌≡◌, ℕ, List, length, get_or, min, ap, sym, ◌∙◌, subst, arith}
use Rattle.bcv_pages.specs.Minima.{Minima, IsLeast, held_columns, sizes_of}
use Rattle.bcv_pages.proofs.Least.{column-front, column-end, least-over, length-sizes, read-at}
use Rattle.bcv_pages.proofs.size_minima.SizeMinima.least.Goals as goal

pub index-requires : goal.index-requires
index-requires c =
    let columns = c.self.inside.columns.items in
    let long : length c.args.self.now.sizes ≡ length columns = ap (λ (m : Minima). length m.sizes) (sym c.self.view_is) ∙ length-sizes columns in
    let front = column-front columns c.args.start c.ilog2-level.result c.pow.result c.index-front.result.now c.self.invariant.columns_are c.pow.ensures (omega (arith, c.ilog2-level.ensures.power_le, c.requires.some, c.requires.there)) c.index-front.ensures in
    omega (arith, (front c.ilog2-level.result (omega arith)).0, c.index-front.result.now.ok)

pub index-requires-2 : goal.index-requires-2
index-requires-2 c =
    let columns = c.self.inside.columns.items in
    let long : length c.args.self.now.sizes ≡ length columns = ap (λ (m : Minima). length m.sizes) (sym c.self.view_is) ∙ length-sizes columns in
    let back = column-end columns c.args.end c.index-back.result.now c.self.invariant.columns_are (omega (arith, c.requires.some)) (omega (arith, c.requires.there)) c.index-back.ensures in
    omega (arith, (back c.ilog2-level.result (omega (arith, c.ilog2-level.ensures.power_le))).0, c.index-back.result.now.ok)

pub returns : goal.returns
returns c =
    let columns = c.self.inside.columns.items in
    let level = c.ilog2-level.result in
    let long : length c.args.self.now.sizes ≡ length columns = ap (λ (m : Minima). length m.sizes) (sym c.self.view_is) ∙ length-sizes columns in
    let front = column-front columns c.args.start level c.pow.result c.index-front.result.now c.self.invariant.columns_are c.pow.ensures (omega (arith, c.ilog2-level.ensures.power_le, c.requires.some, c.requires.there)) c.index-front.ensures in
    let back = column-end columns c.args.end c.index-back.result.now c.self.invariant.columns_are (omega (arith, c.requires.some)) (omega (arith, c.requires.there)) c.index-back.ensures in
    let left = read-at c.index-front.result.now.items level c.index.result.now (front level (omega arith)).0 c.index.ensures in
    let right = read-at c.index-back.result.now.items level c.index-2.result.now (back level (omega (arith, c.ilog2-level.ensures.power_le))).0 c.index-2.ensures in
    let least = least-over (sizes_of (held_columns columns)) c.args.start c.args.end level c.index-front.result.now.items c.index-back.result.now.items c.ilog2-level.ensures.power_le c.ilog2-level.ensures.next_power_gt (omega (arith, c.requires.some)) front back in
    let value : min (get_or c.index-front.result.now.items level 0) (get_or c.index-back.result.now.items level 0) ≡ c.min.result =
    sym (c.min.ensures ∙ ap (λ (n : ℕ). min n c.index-2.result.now) left ∙ ap (λ (n : ℕ). min (get_or c.index-front.result.now.items level 0) n) right) in
    subst (λ (xs : List ℕ). IsLeast xs c.args.start c.args.end c.min.result) (ap (λ (m : Minima). m.sizes) c.self.view_is)
    (subst (λ (n : ℕ). IsLeast (sizes_of (held_columns columns)) c.args.start c.args.end n) value least)
