-- The least of some sizes, and the columns that keep it.
use Rattle.std.proofs.Common.{◌≡◌, ℕ, zero, suc, ◌+◌, ◌-◌, ◌*◌, ◌^◌, ◌<◌, ◌≤◌, min, List, [], ◌∷◌, ◌++◌, length, drop, get_or, refl, sym, ◌∙◌, ap, subst, inl, inr, arith, length-append, length-drop, pow_mono, pow_pos, add-one, pow-suc, ◌/◌, Option, Some, None, IfSome}
use Rattle.std.proofs.lemmas.Bool.{cases_lt}
use Rattle.std.proofs.lemmas.List.{get_or_append_left, get_or_push, get_or-drop, get_or-map, drop-map, map-append, length-map, get_or_default}
use Rattle.std.specs.Global.{Vec}
use Rattle.bcv_pages.specs.Minima.{IsLeast, IsColumn, sizes_of, are_columns, held_columns, HasRoom, minima_of}

-- the least of two stretches that meet or overlap
pub least-join : (xs : List ℕ) (a m n b v w : ℕ) → IsLeast xs a n v → IsLeast xs m b w → a ≤ m → m ≤ n → n ≤ b → IsLeast xs a b (min v w)
least-join xs a m n b v w first second am mn nb =
    record {
      below = λ k low high. elim (cases_lt k n) [
        | inl lt ↦ omega (arith, first.below k low lt)
        | inr ge ↦ omega (arith, second.below k (omega arith) high)
      ];
      greatest = λ p all. omega (arith, first.greatest p (λ k low high. all k low (omega arith)), second.greatest p (λ k low high. all k (omega arith) high));
    }

-- it stays with more sizes at the end
pub least-append : (xs ys : List ℕ) (a b v : ℕ) → b ≤ length xs → IsLeast xs a b v → IsLeast (xs ++ ys) a b v
least-append xs ys a b v inside least =
    record {
      below = λ k low high. let lt : k < length xs = omega arith in rw (get_or_append_left xs ys 0 k lt) (least.below k low high);
      greatest = λ p all. least.greatest p (λ k low high. let lt : k < length xs = omega arith in rw (get_or_append_left xs ys 0 k lt) at (all k low high));
    }

-- and without the first sizes
pub least-drop : (xs : List ℕ) (n a b v : ℕ) → IsLeast xs (n + a) (n + b) v → IsLeast (drop n xs) a b v
least-drop xs n a b v least =
    record {
      below = λ k low high. rw (get_or-drop n xs k 0) (least.below (n + k) (omega arith) (omega arith));
      greatest = λ p all. least.greatest p (λ k low high.
          let at : n + (k - n) ≡ k = omega arith in
          let here : p ≤ get_or xs (n + (k - n)) 0 = rw (get_or-drop n xs (k - n) 0) at (all (k - n) (omega arith) (omega arith)) in
          subst (λ (i : ℕ). p ≤ get_or xs i 0) at here);
    }

-- the least of one size
pub least-one : (xs : List ℕ) (a b v : ℕ) → b ≡ a + 1 → get_or xs a 0 ≡ v → IsLeast xs a b v
least-one xs a b v end is =
    record {
      below = λ k low high. let at : a ≡ k = omega arith in let here : v ≡ get_or xs k 0 = sym is ∙ ap (λ i. get_or xs i 0) at in omega arith;
      greatest = λ p all. let here : p ≤ get_or xs a 0 = all a (omega arith) (omega arith) in omega arith;
    }

-- a column stays with more sizes at the end
column-append : (xs ys : List ℕ) (n : ℕ) (column : List ℕ) → n ≤ length xs → IsColumn xs n column → IsColumn (xs ++ ys) n column
column-append xs ys n column inside is j fits = ((is j fits).0, least-append xs ys (n - 2 ^ j) n (get_or column j 0) inside (is j fits).1)

sizes-push : (columns : List (List ℕ)) (column : List ℕ) (size : ℕ) → get_or column 0 0 ≡ size → sizes_of (columns ++ column ∷ []) ≡ sizes_of columns ++ size ∷ []
sizes-push columns column size top = map-append (λ c. get_or c 0 0) columns (column ∷ []) ∙ ap (λ x. sizes_of columns ++ x ∷ []) top

pub columns-push : (columns : List (List ℕ)) (column : List ℕ) (size : ℕ) → are_columns columns → IsColumn (sizes_of columns ++ size ∷ []) (length columns + 1) column
    → get_or column 0 0 ≡ size → are_columns (columns ++ column ∷ [])
columns-push columns column size are is top k inside =
    rw (sizes-push columns column size top)
    (elim (cases_lt k (length columns)) [
      | inl lt ↦
          let fits : k + 1 ≤ length (sizes_of columns) = omega (arith, length-map columns (λ (c : List ℕ). get_or c 0 0)) in
          rw (get_or_append_left columns (column ∷ []) [] k lt) (column-append (sizes_of columns) (size ∷ []) (k + 1) (get_or columns k []) fits (are k lt))
      | inr ge ↦
          let at : length columns ≡ k = omega (arith, length-append columns (column ∷ [])) in
          rw (get_or_push columns column [] k at) (subst (λ (n : ℕ). IsColumn (sizes_of columns ++ size ∷ []) (n + 1) column) at is)
    ])

pub sizes-pushed : (columns : List (List ℕ)) (column : List ℕ) (size : ℕ) → get_or column 0 0 ≡ size → sizes_of (columns ++ column ∷ []) ≡ sizes_of columns ++ size ∷ []
sizes-pushed = sizes-push

pub columns-drop : (n : ℕ) (columns : List (List ℕ)) → are_columns columns → are_columns (drop n columns)
columns-drop n columns are k inside j fits =
    let there : n + k < length columns = omega (arith, length-drop n columns) in
    let old = are (n + k) there j (omega arith) in
    let start : n + k + 1 - 2 ^ j ≡ n + (k + 1 - 2 ^ j) = omega arith in
    let end : n + k + 1 ≡ n + (k + 1) = omega arith in
    let moved = subst (λ (a : ℕ). IsLeast (sizes_of columns) a (n + (k + 1)) (get_or (get_or columns (n + k) []) j 0)) start
    (subst (λ (b : ℕ). IsLeast (sizes_of columns) (n + k + 1 - 2 ^ j) b (get_or (get_or columns (n + k) []) j 0)) end old.1) in
    rw (get_or-drop n columns k [], ← drop-map (λ (c : List ℕ). get_or c 0 0) n columns) (old.0, least-drop (sizes_of columns) n (k + 1 - 2 ^ j) (k + 1) _ moved)

-- one of the columns, as it is read
pub column-at : (columns : List (Vec ℕ)) (k : ℕ) (v : Vec ℕ) → are_columns (held_columns columns) → k < length columns → v ≡ get_or columns k v
    → IsColumn (sizes_of (held_columns columns)) (k + 1) v.items
column-at columns k v are inside is =
    let there : k < length (held_columns columns) = omega (arith, length-map columns (λ (c : Vec ℕ). c.items)) in
    let at : get_or (held_columns columns) k [] ≡ v.items = get_or-map (λ (c : Vec ℕ). c.items) columns k v [] inside ∙ ap (λ (c : Vec ℕ). c.items) (sym is) in
    subst (λ (c : List ℕ). IsColumn (sizes_of (held_columns columns)) (k + 1) c) at (are k there)

-- the least of a stretch, by the two columns that cover it
pub least-over : (xs : List ℕ) (start end level : ℕ) (front back : List ℕ) → 2 ^ level ≤ end - start → end - start < 2 * 2 ^ level → start ≤ end
    → IsColumn xs (start + 2 ^ level) front → IsColumn xs end back → IsLeast xs start end (min (get_or front level 0) (get_or back level 0))
least-over xs start end level front back fits most order first last =
    let at : start + 2 ^ level - 2 ^ level ≡ start = omega arith in
    let one = subst (λ (a : ℕ). IsLeast xs a (start + 2 ^ level) (get_or front level 0)) at (first level (omega arith)).1 in
    least-join xs start (end - 2 ^ level) (start + 2 ^ level) end _ _ one (last level (omega arith)).1 (omega arith) (omega arith) (omega arith)

-- one more entry of a column
pub column-step : (xs : List ℕ) (size count level : ℕ) (column before : List ℕ) → count ≡ length xs + 1 → length column ≡ level + 1 → 2 ^ level ≤ count / 2
    → ((j : ℕ) → j ≤ level → IsLeast (xs ++ size ∷ []) (count - 2 ^ j) count (get_or column j 0)) → IsColumn xs (count - 2 ^ level) before
    → (j : ℕ) → j ≤ level + 1 → IsLeast (xs ++ size ∷ []) (count - 2 ^ j) count (get_or (column ++ min (get_or before level 0) (get_or column level 0) ∷ []) j 0)
column-step xs size count level column before len long fits old is j most =
    elim (cases_lt j (level + 1)) [
      | inl lt ↦
          let inside : j < length column = omega arith in
          rw (get_or_append_left column _ 0 j inside) (old j (omega arith))
      | inr ge ↦
          let same : level + 1 ≡ j = omega arith in
          let end : length column ≡ j = omega arith in
          let double : 2 ^ (level + 1) ≡ 2 ^ level * 2 = rw (add-one, pow-suc) refl in
          let start : count - 2 ^ level - 2 ^ level ≡ count - 2 ^ (level + 1) = omega arith in
          let some : 0 < 2 ^ level = pow_pos level in
          let first = least-append xs (size ∷ []) (count - 2 ^ level - 2 ^ level) (count - 2 ^ level) (get_or before level 0) (omega arith) (is level (omega arith)).1 in
          let both = least-join (xs ++ size ∷ []) (count - 2 ^ level - 2 ^ level) (count - 2 ^ level) (count - 2 ^ level) count _ _ first (old level (omega arith)) (omega arith) (omega arith) (omega arith) in
          rw (get_or_push column _ 0 j end)
          (subst (λ (i : ℕ). IsLeast (xs ++ size ∷ []) (count - 2 ^ i) count (min (get_or before level 0) (get_or column level 0))) same
          (subst (λ (a : ℕ). IsLeast (xs ++ size ∷ []) a count (min (get_or before level 0) (get_or column level 0))) start both))
    ]

-- a power of two below another one has the smaller exponent
pub level-below : (j n count : ℕ) → 2 ^ j ≤ count → count < 2 ^ n → j < n
level-below j n count low high =
    elim (cases_lt j n) [
      | inl lt ↦ lt
      | inr ge ↦ let up : 2 ^ n ≤ 2 ^ j = pow_mono ge in absurd (omega arith)
    ]

-- the first entry of a column
pub column-first : (xs : List ℕ) (size count j : ℕ) → count ≡ length xs + 1 → j ≤ 0 → IsLeast (xs ++ size ∷ []) (count - 2 ^ j) count (get_or (size ∷ []) j 0)
column-first xs size count zero len most =
    let start : length xs ≡ count - 1 = omega arith in
    least-one (xs ++ size ∷ []) (count - 1) count size (omega arith) (get_or_push xs size 0 (count - 1) start)
column-first xs size count (suc j) len most = absurd (omega arith)

-- the column that ends where the last of a new one's stretches begins
pub column-back : (columns : List (Vec ℕ)) (width level : ℕ) (v : Vec ℕ) → are_columns (held_columns columns) → width ≡ 2 ^ level → width ≤ (length columns + 1) / 2
    → v ≡ get_or columns (length columns + 1 - width - 1) v → IsColumn (sizes_of (held_columns columns)) (length columns + 1 - 2 ^ level) v.items
column-back columns width level v are is fits read =
    let some : 0 < 2 ^ level = pow_pos level in
    let end : length columns + 1 - width - 1 + 1 ≡ length columns + 1 - 2 ^ level = omega arith in
    subst (λ (n : ℕ). IsColumn (sizes_of (held_columns columns)) n v.items) end (column-at columns (length columns + 1 - width - 1) v are (omega arith) read)

pub length-sizes : (columns : List (Vec ℕ)) → length (sizes_of (held_columns columns)) ≡ length columns
length-sizes columns = length-map (held_columns columns) (λ (c : List ℕ). get_or c 0 0) ∙ length-map columns (λ (c : Vec ℕ). c.items)

-- a number that was read is the one at its place
pub read-at : (xs : List ℕ) (i x : ℕ) → i < length xs → x ≡ get_or xs i x → x ≡ get_or xs i 0
read-at xs i x inside is = is ∙ get_or_default xs i x 0 inside

-- the two columns that cover a stretch
pub column-front : (columns : List (Vec ℕ)) (start level width : ℕ) (v : Vec ℕ) → are_columns (held_columns columns) → width ≡ 2 ^ level → start + 2 ^ level ≤ length columns
    → v ≡ get_or columns (start + width - 1) v → IsColumn (sizes_of (held_columns columns)) (start + 2 ^ level) v.items
column-front columns start level width v are is fits read =
    let some : 0 < 2 ^ level = pow_pos level in
    let end : start + width - 1 + 1 ≡ start + 2 ^ level = omega arith in
    subst (λ (n : ℕ). IsColumn (sizes_of (held_columns columns)) n v.items) end (column-at columns (start + width - 1) v are (omega arith) read)

pub column-end : (columns : List (Vec ℕ)) (end : ℕ) (v : Vec ℕ) → are_columns (held_columns columns) → 0 < end → end ≤ length columns
    → v ≡ get_or columns (end - 1) v → IsColumn (sizes_of (held_columns columns)) end v.items
column-end columns end v are some fits read =
    let last : end - 1 + 1 ≡ end = omega arith in
    subst (λ (n : ℕ). IsColumn (sizes_of (held_columns columns)) n v.items) last (column-at columns (end - 1) v are (omega arith) read)

pub held-push : (columns : List (Vec ℕ)) (column : Vec ℕ) → held_columns (columns ++ column ∷ []) ≡ held_columns columns ++ column.items ∷ []
held-push columns column = map-append (λ (c : Vec ℕ). c.items) columns (column ∷ [])

pub held-drop : (n : ℕ) (columns : List (Vec ℕ)) → held_columns (drop n columns) ≡ drop n (held_columns columns)
held-drop n columns = sym (drop-map (λ (c : Vec ℕ). c.items) n columns)

pub sizes-drop : (n : ℕ) (columns : List (List ℕ)) → sizes_of (drop n columns) ≡ drop n (sizes_of columns)
sizes-drop n columns = sym (drop-map (λ (c : List ℕ). get_or c 0 0) n columns)

-- what is ready stays so with fewer sizes
pub room-drop : (next : Option (Vec ℕ)) (len room len2 room2 : ℕ) → len2 ≤ len → room2 ≡ room → IfSome next (HasRoom len room) → IfSome next (HasRoom len2 room2)
room-drop None len room len2 room2 fewer same has = tt
room-drop (Some next) len room len2 room2 fewer same has =
    record { empty = has.empty; place = omega (arith, has.place); levels = omega (arith, has.levels) }

pub minima-drop : (n : ℕ) (columns : List (Vec ℕ)) (next : Option (Vec ℕ)) → minima_of (drop n columns) next ≡ record (minima_of columns next) { sizes = drop n (sizes_of (held_columns columns)) }
minima-drop n columns next = ap (λ (xs : List ℕ). record (minima_of columns next) { sizes = xs }) (ap sizes_of (held-drop n columns) ∙ sizes-drop n (held_columns columns))

pub columns-pushed : (columns : List (Vec ℕ)) (column : Vec ℕ) (size : ℕ) → are_columns (held_columns columns)
    → IsColumn (sizes_of (held_columns columns) ++ size ∷ []) (length columns + 1) column.items → get_or column.items 0 0 ≡ size → are_columns (held_columns (columns ++ column ∷ []))
columns-pushed columns column size are is top =
    let len : length columns ≡ length (held_columns columns) = sym (length-map columns (λ (c : Vec ℕ). c.items)) in
    rw held-push (columns-push (held_columns columns) column.items size are (subst (λ (n : ℕ). IsColumn (sizes_of (held_columns columns) ++ size ∷ []) (n + 1) column.items) len is) top)
