-- What is found in a map whose values were changed, and some of them dropped.
use Rattle.std.proofs.Common.{◌≡◌, ℕ, zero, suc, ◌<◌, ◌||◌, length, get_or, eq-eqb, arith, Bool, true, false, cond, List, [], ◌∷◌, Option, Some, None, unwrap_or, option_map, IsSomeAnd, nat_lt, nat_eq, refl, sym, ◌∙◌, ap, subst, vec_len, vec_capacity}
use Rattle.std.specs.Global.{Vec}
use Rattle.std.specs.List.{filter, list_any, IsDistinct}
use Rattle.std.specs.Map.{lookup, keys_of}
use Rattle.std.specs.Map.Calls.{RetainsPairs}
use Rattle.std.specs.Ordering.{nat_cmp, eq_by_cmp}
use Rattle.std.proofs.lemmas.Cmp.{nat_cmp_total, eq_by_cmp_equiv}
use Rattle.std.proofs.lemmas.Map.{lookup-none}
use Rattle.std.proofs.lemmas.Map.Entries.{none_past_head}
use Rattle.std.proofs.lemmas.Map.Views.{tells_apart}
use Rattle.std.proofs.lemmas.Map.Lookups.{exact_unsigned}
use Rattle.bcv_pages.specs.Index.{are_rising, Leaves}

-- the numbers that are found under a page among entries
abbrev pub found : List (ℕ × Vec ℕ) → ℕ → List ℕ
found es q = unwrap_or (option_map (λ (v : Vec ℕ). v.items) (lookup (eq_by_cmp nat_cmp q) es)) []

tail-distinct : (e : ℕ × Vec ℕ) (es : List (ℕ × Vec ℕ)) → IsDistinct (eq_by_cmp nat_cmp) (keys_of (e ∷ es)) → IsDistinct (eq_by_cmp nat_cmp) (keys_of es)
unfolding IsDistinct
tail-distinct e es distinct = distinct.1

true-false : true ≡ false → ⊥
true-false e = cc

or-true : (b : Bool) → (b || true) ≡ true
or-true true = refl
or-true false = refl

none-cons : (t : Bool) (v : Vec ℕ) (rest : Option (Vec ℕ)) → cond t (Some v) rest ≡ None → (t ≡ false) × (rest ≡ None)
none-cons true v rest none = cc
none-cons false v rest none = (refl, none)

-- the numbers under a page of one entry more
one-after : {upto : ℕ} {ready : List ℕ} (e : ℕ × Vec ℕ) (es : List (ℕ × Vec ℕ)) (q : ℕ) (b : Bool) (w : Vec ℕ) (rest : List (ℕ × Vec ℕ)) (t : Bool) → eq_by_cmp nat_cmp q e.0 ≡ t
    → are_rising (found (e ∷ es) q) → Leaves upto ready e.0 e.1 b w → (eq_by_cmp nat_cmp q e.0 ≡ true → lookup (eq_by_cmp nat_cmp q) rest ≡ None)
    → (are_rising (found es q) → found rest q ≡ filter (nat_lt upto) (found es q)) → found (cond b ((e.0, w) ∷ rest) rest) q ≡ filter (nat_lt upto) (found (e ∷ es) q)
one-after e es q true w rest true is up left none more = rw (is, left.numbers (rw is at up)) refl
one-after e es q false w rest true is up left none more = rw (is, none is) (sym (left.empty refl) ∙ left.numbers (rw is at up))
one-after e es q true w rest false is up left none more = rw is (more (rw is at up))
one-after e es q false w rest false is up left none more = rw is (more (rw is at up))

-- and its room
one-room : {upto : ℕ} {ready : List ℕ} (e : ℕ × Vec ℕ) (es : List (ℕ × Vec ℕ)) (q : ℕ) (b : Bool) (w : Vec ℕ) (rest : List (ℕ × Vec ℕ)) (t : Bool) → eq_by_cmp nat_cmp q e.0 ≡ t
    → Leaves upto ready e.0 e.1 b w → (eq_by_cmp nat_cmp q e.0 ≡ true → q ≡ e.0) → list_any (λ n. nat_eq n q) ready ≡ true
    → IsSomeAnd (lookup (eq_by_cmp nat_cmp q) (e ∷ es)) (λ v. vec_len v < vec_capacity v)
    → (IsSomeAnd (lookup (eq_by_cmp nat_cmp q) es) (λ v. vec_len v < vec_capacity v) → IsSomeAnd (lookup (eq_by_cmp nat_cmp q) rest) (λ v. vec_len v < vec_capacity v))
    → IsSomeAnd (lookup (eq_by_cmp nat_cmp q) (cond b ((e.0, w) ∷ rest) rest)) (λ v. vec_len v < vec_capacity v)
one-room e es q true w rest true is left apart among has more = rw is (left.room (rw is at has))
one-room {ready = ready} e es q false w rest true is left apart among has more =
    let other : list_any (λ n. nat_eq n q) ready ≡ false = ap (λ k. list_any (λ n. nat_eq n k) ready) (apart is) ∙ left.other refl in
    absurd (true-false (sym among ∙ other))
one-room e es q true w rest false is left apart among has more = rw is (more (rw is at has))
one-room e es q false w rest false is left apart among has more = more (rw is at has)

-- a number is among those of which it is one
pub among-at : (ns : List ℕ) (k : ℕ) → k < length ns → list_any (λ n. nat_eq n (get_or ns k 0)) ns ≡ true
among-at [] k inside = absurd (omega arith)
among-at (n ∷ ns) zero inside = rw (eq-eqb n n refl) refl
among-at (n ∷ ns) (suc k) inside = rw (among-at ns k (omega arith)) (or-true (nat_eq n (get_or ns k 0)))

module _ {F : Type 0} (T : F → ℕ → Vec ℕ → Bool → Vec ℕ → F → Type 0) where
  -- what isn't found before isn't found after
  none-after : (f : F) (es kept : List (ℕ × Vec ℕ)) (q : ℕ) → RetainsPairs T f es kept → lookup (eq_by_cmp nat_cmp q) es ≡ None → lookup (eq_by_cmp nat_cmp q) kept ≡ None
  none-after f [] kept q ran none = ap (lookup (eq_by_cmp nat_cmp q)) ran
  none-after f (e ∷ es) kept q (b, w, f', rest, call, ran, is) none =
      let parts = none-cons (eq_by_cmp nat_cmp q e.0) e.1 (lookup (eq_by_cmp nat_cmp q) es) none in
      let after = none-after f' es rest q ran parts.1 in
      ap (lookup (eq_by_cmp nat_cmp q)) is
      ∙ (elim b as (λ b. lookup (eq_by_cmp nat_cmp q) (cond b ((e.0, w) ∷ rest) rest) ≡ None) [
        | true ↦ rw parts.0 after
        | false ↦ after
      ])

  module _ (upto : ℕ) (ready : List ℕ) (f : F) (leaves : (k : ℕ) (v : Vec ℕ) (b : Bool) (w : Vec ℕ) (f' : F) → T f k v b w f' → Leaves upto ready k v b w × (f' ≡ f)) where
    -- the numbers under a page are those past the one
    pub found-after : (es kept : List (ℕ × Vec ℕ)) (q : ℕ) → IsDistinct (eq_by_cmp nat_cmp) (keys_of es) → RetainsPairs T f es kept → are_rising (found es q)
        → found kept q ≡ filter (nat_lt upto) (found es q)
    found-after [] kept q distinct ran up = ap (λ es. found es q) ran
    found-after (e ∷ es) kept q distinct (b, w, f', rest, call, ran, is) up =
        let left = leaves e.0 e.1 b w f' call in
        let after : RetainsPairs T f es rest = subst (λ g. RetainsPairs T g es rest) left.1 ran in
        ap (λ es. found es q) is ∙ one-after e es q b w rest (eq_by_cmp nat_cmp q e.0) refl up left.0
        (λ here. none-after f es rest q after (lookup-none (eq_by_cmp nat_cmp q) es (none_past_head (eq_by_cmp_equiv nat_cmp_total) q e es distinct here)))
        (λ up. found-after es rest q (tail-distinct e es distinct) after up)

    -- what had room has it, where the page is to be kept
    pub room-after : (es kept : List (ℕ × Vec ℕ)) (q : ℕ) → RetainsPairs T f es kept → list_any (λ n. nat_eq n q) ready ≡ true
        → IsSomeAnd (lookup (eq_by_cmp nat_cmp q) es) (λ v. vec_len v < vec_capacity v) → IsSomeAnd (lookup (eq_by_cmp nat_cmp q) kept) (λ v. vec_len v < vec_capacity v)
    room-after [] kept q ran among has = absurd has
    room-after (e ∷ es) kept q (b, w, f', rest, call, ran, is) among has =
        let left = leaves e.0 e.1 b w f' call in
        let after : RetainsPairs T f es rest = subst (λ g. RetainsPairs T g es rest) left.1 ran in
        let P : List (ℕ × Vec ℕ) → Type 0 = λ es. IsSomeAnd (lookup (eq_by_cmp nat_cmp q) es) (λ (v : Vec ℕ). vec_len v < vec_capacity v) in
        subst P (sym is) (one-room e es q b w rest (eq_by_cmp nat_cmp q e.0) refl left.0 (tells_apart exact_unsigned q e.0) among has (λ has. room-after es rest q after among has))
