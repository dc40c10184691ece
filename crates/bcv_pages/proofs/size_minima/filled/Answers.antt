use Rattle.std.proofs.Common.{◌≡◌, ℕ, ◌+◌, ◌*◌, ◌^◌, ◌<◌, ◌≤◌, [], ◌∷◌, ◌++◌, List, length, get_or, min, vec_capacity, refl, ◌∙◌, ap, arith, add-one, pow-suc, pow_mono}
use Rattle.std.proofs.lemmas.List.{get_or_append_left}
use Rattle.bcv_pages.specs.Minima.{held_columns, sizes_of}
use Rattle.bcv_pages.proofs.Least.{column-back, column-first, column-step, level-below, length-sizes, read-at}
use Rattle.bcv_pages.proofs.size_minima.filled.Goals as goal

pub loop-width-init : goal.loop-width-init
loop-width-init c =
    let items : c.append.new.numbers.items ≡ c.args.size ∷ [] = c.append.ensures.items ∙ ap (λ (xs : List ℕ). xs ++ c.args.size ∷ []) c.requires.empty in
    record {
      length = omega (arith, ap (length {A = ℕ}) items, c.append.new.numbers.ok);
      width = refl;
      fits = omega arith;
      room = let more : 2 ^ vec_capacity c.args.next ≤ 2 ^ vec_capacity c.append.new.numbers = pow_mono c.append.ensures.room in omega (arith, c.requires.levels);
      first = rw items refl;
      least = λ j most. rw items (column-first (sizes_of (held_columns c.args.columns.now)) c.args.size (length c.args.columns.now + 1) j (omega (arith, length-sizes c.args.columns.now)) most);
    }

pub index-requires-in-loop-width : goal.index-requires-in-loop-width
index-requires-in-loop-width c = omega (arith, c.loop-width.invariant.length)

pub append-requires-in-loop-width : goal.append-requires-in-loop-width
append-requires-in-loop-width c =
    let double : 2 ^ (c.loop-width.level + 1) ≡ 2 ^ c.loop-width.level * 2 = rw (add-one, pow-suc) refl in
    let lt = level-below (c.loop-width.level + 1) (vec_capacity c.loop-width.column) (length c.args.columns.now + 1) (omega (arith, c.loop-width.invariant.width)) c.loop-width.invariant.room in
    omega (arith, c.loop-width.invariant.length)

pub index-requires : goal.index-requires
index-requires c =
    let before = column-back c.args.columns.now c.loop-width.width c.loop-width.level c.index-columns-count.result c.requires.columns c.loop-width.invariant.width c.loop-width-test.true c.index-columns-count.is in
    omega (arith, (before c.loop-width.level (omega (arith, c.loop-width.invariant.width))).0, c.index-columns-count.result.ok)

pub loop-width-preserved : goal.loop-width-preserved
loop-width-preserved c =
    let columns = c.args.columns.now in
    let level = c.loop-width.level in
    let count : ℕ = length columns + 1 in
    let column : List ℕ = c.loop-width.column.items in
    let inv = c.loop-width.invariant in
    let double : 2 ^ (level + 1) ≡ 2 ^ level * 2 = rw (add-one, pow-suc) refl in
    let before = column-back columns c.loop-width.width level c.index-columns-count.result c.requires.columns inv.width c.loop-width-test.true c.index-columns-count.is in
    let long : length column ≡ level + 1 = omega (arith, inv.length, c.loop-width.column.ok) in
    let there : level < length c.index-columns-count.result.items = (before level (omega (arith, inv.width))).0 in
    let left = read-at c.index-columns-count.result.items level c.index.result.now there c.index.ensures in
    let right = read-at column level c.index-in-loop-width.result.now (omega arith) c.index-in-loop-width.ensures in
    let items : c.append-in-loop-width.new.numbers.items ≡ column ++ min (get_or c.index-columns-count.result.items level 0) (get_or column level 0) ∷ [] =
    c.append-in-loop-width.ensures.items ∙ ap (λ (n : ℕ). column ++ n ∷ []) (c.min-least.ensures ∙ ap (λ (n : ℕ). min n c.index-in-loop-width.result.now) left ∙ ap (λ (n : ℕ). min (get_or c.index-columns-count.result.items level 0) n) right) in
    record {
      length = omega (arith, c.append-in-loop-width.ensures.len, inv.length);
      width = omega (arith, inv.width);
      fits = omega arith;
      room = let more : 2 ^ vec_capacity c.loop-width.column ≤ 2 ^ vec_capacity c.append-in-loop-width.new.numbers = pow_mono c.append-in-loop-width.ensures.room in omega (arith, inv.room);
      first = let some : 0 < length column = omega arith in rw (items, get_or_append_left column _ 0 0 some) inv.first;
      least = λ j most. rw items (column-step (sizes_of (held_columns columns)) c.args.size count level column c.index-columns-count.result.items (omega (arith, length-sizes columns)) long (omega (arith, inv.width)) inv.least before j most);
    }

pub returns-clause-column : goal.returns-clause-column
returns-clause-column c j fits =
    let double : 2 ^ (c.loop-width.level + 1) ≡ 2 ^ c.loop-width.level * 2 = rw (add-one, pow-suc) refl in
    let lt = level-below j (c.loop-width.level + 1) (length c.args.columns.now + 1) fits (omega (arith, c.loop-width.invariant.width)) in
    let within : j < length c.loop-width.column.items = omega (arith, c.loop-width.invariant.length, c.loop-width.column.ok) in
    (within, c.loop-width.invariant.least j (omega arith))
