-- What a file loads as is one thing alone.
use Rattle.std.proofs.Common.{◌≡◌, ◌≢◌, ◌⊎◌, inl, inr, ℕ, Bool, ◌<◌, ◌≤◌, List, [], ◌∷◌, ◌++◌, length, take, drop, ⊎_elim, Result, Ok, Err, refl, sym, ◌∙◌, ap, arith, append_assoc, length-append}
use Rattle.std.proofs.lemmas.List.{take_at, drop_at, take-append-le}
use Rattle.std.proofs.lemmas.Nat.{from_be_bytes-to_be_bytes_4}
use Rattle.std.specs.Int.{w32, from_be_bytes, to_be_bytes}
use Rattle.std.specs.List.{AllByRecursion, flat_map}
use Rattle.bcv_journal.specs.Layout.{BreaksAt, EndsAt, HasItem, HasNoStart, IsFront, IsItem, IsSpelled, Loads, area_of, is_second, magic, open_item, start_in, tail_of, written}
use Rattle.bcv_journal.proofs.Head.{second-front, start-front}

-- what stands after the last whole item: a closed gate, or an open one with no whole item after it
abbrev IsEnd : List ℕ → Type 0
IsEnd end = ((gate : ℕ) × (rest : List ℕ) × (end ≡ gate ∷ rest) × (gate ≢ 1)) ⊎ ((after : List ℕ) × (end ≡ 1 ∷ after) × ((item next : List ℕ) → HasItem after item next → ⊥))

-- an item and what follows it are read from the bytes in one way
one_item : (x y more other : List ℕ) → IsItem x → IsItem y → to_be_bytes w32 (length x) ++ (x ++ more) ≡ to_be_bytes w32 (length y) ++ (y ++ other) → (x ≡ y) × (more ≡ other)
one_item x y more other is_x is_y same =
    let fields : to_be_bytes w32 (length x) ≡ to_be_bytes w32 (length y) =
    sym (take_at (to_be_bytes w32 (length x)) (x ++ more) 4 refl) ∙ ap (λ (l : List ℕ). take 4 l) same ∙ take_at (to_be_bytes w32 (length y)) (y ++ other) 4 refl in
    let lengths : length x ≡ length y = sym (from_be_bytes-to_be_bytes_4 (length x) is_x.1) ∙ ap (λ (l : List ℕ). from_be_bytes w32 l) fields ∙ from_be_bytes-to_be_bytes_4 (length y) is_y.1 in
    let rests : x ++ more ≡ y ++ other = sym (drop_at (to_be_bytes w32 (length x)) (x ++ more) 4 refl) ∙ ap (λ (l : List ℕ). drop 4 l) same ∙ drop_at (to_be_bytes w32 (length y)) (y ++ other) 4 refl in (
      sym (take_at x more (length y) lengths) ∙ ap (λ (l : List ℕ). take (length y) l) rests ∙ take_at y other (length y) refl,
      sym (drop_at x more (length y) lengths) ∙ ap (λ (l : List ℕ). drop (length y) l) rests ∙ drop_at y other (length y) refl,
    )

-- an item in front of anything but nothing is no end
no_end : (x more end : List ℕ) → IsItem x → 0 < length more → IsEnd end → end ≡ 1 ∷ (to_be_bytes w32 (length x) ++ (x ++ more)) → ⊥
no_end x more end is some (inl shut) same = shut.3 (cc (shut.2, same))
no_end x more end is some (inr broken) same =
    let after_is : broken.0 ≡ to_be_bytes w32 (length x) ++ (x ++ more) = cc (broken.1, same) in
    broken.2 x more (record { item_is = is; next_is = some; whole = after_is ∙ sym (append_assoc (to_be_bytes w32 (length x)) x more) })

end_some : (end : List ℕ) → IsEnd end → 0 < length end
end_some end (inl shut) = omega (arith, ap length shut.2)
end_some end (inr broken) = omega (arith, ap length broken.1)

-- an item, written out in front of more
first_item : (x : List ℕ) (xs : List (List ℕ)) (end : List ℕ) → flat_map open_item (x ∷ xs) ++ end ≡ 1 ∷ (to_be_bytes w32 (length x) ++ (x ++ (flat_map open_item xs ++ end)))
first_item x xs end = append_assoc (open_item x) (flat_map open_item xs) end ∙ ap (λ (l : List ℕ). 1 ∷ l) (append_assoc (to_be_bytes w32 (length x)) x (flat_map open_item xs ++ end))

one_reading : (xs ys : List (List ℕ)) (end other : List ℕ) → AllByRecursion IsItem xs → AllByRecursion IsItem ys → IsEnd end → IsEnd other → flat_map open_item xs ++ end ≡ flat_map open_item ys ++ other → (xs ≡ ys) × (end ≡ other)
one_reading [] [] end other each_x each_y is_end is_other same = (refl, same)
one_reading [] (y ∷ ys) end other each_x each_y is_end is_other same =
    absurd (no_end y (flat_map open_item ys ++ other) end each_y.0 (omega (arith, length-append (flat_map open_item ys) other, end_some other is_other)) is_end (same ∙ first_item y ys other))
one_reading (x ∷ xs) [] end other each_x each_y is_end is_other same =
    absurd (no_end x (flat_map open_item xs ++ end) other each_x.0 (omega (arith, length-append (flat_map open_item xs) end, end_some end is_end)) is_other (sym same ∙ first_item x xs end))
one_reading (x ∷ xs) (y ∷ ys) end other each_x each_y is_end is_other same =
    let whole : 1 ∷ (to_be_bytes w32 (length x) ++ (x ++ (flat_map open_item xs ++ end))) ≡ 1 ∷ (to_be_bytes w32 (length y) ++ (y ++ (flat_map open_item ys ++ other))) = sym (first_item x xs end) ∙ same ∙ first_item y ys other in
    let first = one_item x y (flat_map open_item xs ++ end) (flat_map open_item ys ++ other) each_x.0 each_y.0 (ap (λ (l : List ℕ). drop 1 l) whole) in
    let more = one_reading xs ys end other each_x.1 each_y.1 is_end is_other first.1 in
    ((λ i. first.0 i ∷ more.0 i), more.1)

-- what a front says of the file that it begins
head_is : (bytes front rest : List ℕ) → IsFront front → bytes ≡ front ++ rest → (take 8 bytes ≡ magic) × (is_second bytes ≡ is_second front) × (start_in bytes (is_second bytes) ≡ length front)
head_is bytes front rest f whole =
    let front_is : take (length front) bytes ≡ front = ap (λ (l : List ℕ). take (length front) l) whole ∙ take_at front rest (length front) refl in
    let second : is_second bytes ≡ is_second front = sym (second-front bytes (length front) f.long) ∙ ap is_second front_is in (
      ap (λ (l : List ℕ). take 8 l) whole ∙ take-append-le 8 front rest (omega (arith, f.long)) ∙ f.magic_is,
      second,
      ap (λ (b : Bool). start_in bytes b) second ∙ sym (start-front bytes (length front) (is_second front) f.long) ∙ ap (λ (l : List ℕ). start_in l (is_second front)) front_is ∙ f.starts,
    )

same_front : (bytes front other rest more : List ℕ) → IsFront front → IsFront other → bytes ≡ front ++ rest → bytes ≡ other ++ more → (length front ≡ length other) × (rest ≡ more)
same_front bytes front other rest more f g first second =
    let long : length front ≡ length other = sym (head_is bytes front rest f first).2 ∙ (head_is bytes other more g second).2 in
    (long, sym (drop_at front rest (length front) refl) ∙ ap (λ (l : List ℕ). drop (length front) l) (sym first ∙ second) ∙ drop_at other more (length front) (sym long))

-- the same after a front
one_file : (bytes front back : List ℕ) (xs ys : List (List ℕ)) (end other : List ℕ) → IsFront front → IsFront back → AllByRecursion IsItem xs → AllByRecursion IsItem ys → IsEnd end → IsEnd other → bytes ≡ written front xs ++ end → bytes ≡ written back ys ++ other
    → (xs ≡ ys) × (end ≡ other) × (length front ≡ length back)
one_file bytes front back xs ys end other f g each_x each_y is_end is_other first second =
    let parts = same_front bytes front back (area_of xs ++ end) (area_of ys ++ other) f g (first ∙ append_assoc front (area_of xs) end) (second ∙ append_assoc back (area_of ys) other) in
    let reading = one_reading xs ys end other each_x each_y is_end is_other parts.1 in
    (reading.0, reading.1, parts.0)

-- items end at a closed gate
spelled_end : (bytes : List ℕ) (items : List (List ℕ)) (s : IsSpelled bytes items) → IsEnd (s.gate ∷ s.rest)
spelled_end bytes items s = inl (s.gate, s.rest, refl, s.closed)

breaks_end : (bytes : List ℕ) (place : ℕ) (b : BreaksAt bytes place) → IsEnd (1 ∷ b.after)
breaks_end bytes place b = inr (b.after, refl, b.broken)

one_spelling : (bytes : List ℕ) (xs ys : List (List ℕ)) → IsSpelled bytes xs → IsSpelled bytes ys → xs ≡ ys
one_spelling bytes xs ys s t =
    (one_file bytes s.front t.front xs ys (s.gate ∷ s.rest) (t.gate ∷ t.rest) s.is_front t.is_front s.each t.each (spelled_end bytes xs s) (spelled_end bytes ys t) s.whole t.whole).0

one_break : (bytes : List ℕ) (place other : ℕ) → BreaksAt bytes place → BreaksAt bytes other → place ≡ other
one_break bytes place other b d =
    let same = one_file bytes b.front d.front b.items d.items (1 ∷ b.after) (1 ∷ d.after) b.is_front d.is_front b.each d.each (breaks_end bytes place b) (breaks_end bytes other d) b.whole d.whole in
    b.is_place ∙ (λ i. tail_of (same.2 i) (same.0 i)) ∙ sym d.is_place

not_both : (bytes : List ℕ) (items : List (List ℕ)) (place : ℕ) → IsSpelled bytes items → BreaksAt bytes place → ⊥
not_both bytes items place s b =
    let same = one_file bytes s.front b.front items b.items (s.gate ∷ s.rest) (1 ∷ b.after) s.is_front b.is_front s.each b.each (spelled_end bytes items s) (breaks_end bytes place b) s.whole b.whole in
    s.closed (cc same.1)

pub spelled_head : (bytes : List ℕ) (items : List (List ℕ)) (s : IsSpelled bytes items) → (take 8 bytes ≡ magic) × (is_second bytes ≡ is_second s.front) × (start_in bytes (is_second bytes) ≡ length s.front)
spelled_head bytes items s = head_is bytes s.front (area_of items ++ s.gate ∷ s.rest) s.is_front (s.whole ∙ append_assoc s.front (area_of items) (s.gate ∷ s.rest))

breaks_head : (bytes : List ℕ) (place : ℕ) (b : BreaksAt bytes place) → (take 8 bytes ≡ magic) × (is_second bytes ≡ is_second b.front) × (start_in bytes (is_second bytes) ≡ length b.front)
breaks_head bytes place b = head_is bytes b.front (area_of b.items ++ 1 ∷ b.after) b.is_front (b.whole ∙ append_assoc b.front (area_of b.items) (1 ∷ b.after))

-- a file with a front has a start
has_start : (bytes front : List ℕ) (place : ℕ) (items : List (List ℕ)) (gate : ℕ) (rest : List ℕ) → IsFront front → bytes ≡ written front items ++ gate ∷ rest → start_in bytes (is_second bytes) ≡ length front → HasNoStart bytes place → ⊥
has_start bytes front place items gate rest f whole start none =
    ⊎_elim (λ low. omega (arith, low, start, f.long)) (λ high. omega (arith, high, start, ap length whole, length-append (written front items) (gate ∷ rest), length-append front (area_of items))) none.1

-- eighteen bytes have no room for an item
pub short_items : (bytes : List ℕ) (items : List (List ℕ)) → IsSpelled bytes items → length bytes ≤ 18 → items ≡ []
short_items bytes [] s short = refl
short_items bytes (item ∷ items) s short =
    absurd (omega (
      arith,
      short,
      s.is_front.long,
      ap length s.whole,
      length-append (written s.front (item ∷ items)) (s.gate ∷ s.rest),
      length-append s.front (area_of (item ∷ items)),
      length-append (open_item item) (area_of items),
      length-append (to_be_bytes w32 (length item)) item,
    ))

pub short_tail : (bytes : List ℕ) (items : List (List ℕ)) (s : IsSpelled bytes items) → length bytes ≤ 18 → tail_of (length s.front) items ≡ 17
short_tail bytes items s short =
    omega (arith, short, s.is_front.long, ap length s.whole, length-append (written s.front items) (s.gate ∷ s.rest), length-append s.front (area_of items))

-- what ends at a tail loads so, and with one tail
pub ends_load : (bytes : List ℕ) (items : List (List ℕ)) (tail : ℕ) → EndsAt bytes items tail → Loads bytes (Ok items)
ends_load bytes items tail (inl none) = inl (none.0, none.1)
ends_load bytes items tail (inr whole) = inr (whole.0, whole.1)

pub ends_once : (bytes : List ℕ) (items : List (List ℕ)) (tail other : ℕ) → EndsAt bytes items tail → EndsAt bytes items other → tail ≡ other
ends_once bytes items tail other (inl a) (inl b) = a.2 ∙ sym b.2
ends_once bytes items tail other (inl a) (inr b) = a.2 ∙ sym (b.2 ∙ short_tail bytes items b.1 a.0)
ends_once bytes items tail other (inr a) (inl b) = a.2 ∙ short_tail bytes items a.1 b.0 ∙ sym b.2
ends_once bytes items tail other (inr a) (inr b) =
    let s = a.1 in
    let t = b.1 in
    let same = one_file bytes s.front t.front items items (s.gate ∷ s.rest) (t.gate ∷ t.rest) s.is_front t.is_front s.each t.each (spelled_end bytes items s) (spelled_end bytes items t) s.whole t.whole in
    a.2 ∙ ap (λ (n : ℕ). tail_of n items) same.2 ∙ sym b.2

items_once : (bytes : List ℕ) (xs ys : List (List ℕ)) → Loads bytes (Ok xs) → Loads bytes (Ok ys) → xs ≡ ys
items_once bytes xs ys (inl a) (inl b) = a.1 ∙ sym b.1
items_once bytes xs ys (inl a) (inr b) = a.1 ∙ sym (short_items bytes ys b.1 a.0)
items_once bytes xs ys (inr a) (inl b) = short_items bytes xs a.1 b.0 ∙ sym b.1
items_once bytes xs ys (inr a) (inr b) = one_spelling bytes xs ys a.1 b.1

-- what is wrong with a file that is not too long
abbrev IsWrong : List ℕ → ℕ → Type 0
IsWrong bytes place = ((take 8 bytes ≢ magic) × (place ≡ 0)) ⊎ (HasNoStart bytes place ⊎ BreaksAt bytes place)

not_wrong : (bytes : List ℕ) (xs : List (List ℕ)) (place : ℕ) → IsSpelled bytes xs → IsWrong bytes place → ⊥
not_wrong bytes xs place s (inl other) = other.0 (spelled_head bytes xs s).0
not_wrong bytes xs place s (inr (inl none)) = has_start bytes s.front place xs s.gate s.rest s.is_front s.whole (spelled_head bytes xs s).2 none
not_wrong bytes xs place s (inr (inr breaks)) = not_both bytes xs place s breaks

items_or_place : (bytes : List ℕ) (xs : List (List ℕ)) (place : ℕ) → Loads bytes (Ok xs) → Loads bytes (Err place) → ⊥
items_or_place bytes xs place (inl a) (inl b) = omega (arith, a.0, b.0)
items_or_place bytes xs place (inl a) (inr b) = omega (arith, a.0, b.0)
items_or_place bytes xs place (inr a) (inl b) = omega (arith, a.0, b.0)
items_or_place bytes xs place (inr a) (inr b) = not_wrong bytes xs place a.1 b.2

no_break : (bytes : List ℕ) (p q : ℕ) → HasNoStart bytes p → BreaksAt bytes q → ⊥
no_break bytes p q none b = has_start bytes b.front p b.items 1 b.after b.is_front b.whole (breaks_head bytes q b).2 none

one_wrong : (bytes : List ℕ) (p q : ℕ) → IsWrong bytes p → IsWrong bytes q → p ≡ q
one_wrong bytes p q (inl a) (inl b) = a.1 ∙ sym b.1
one_wrong bytes p q (inl a) (inr (inl b)) = absurd (a.0 b.0)
one_wrong bytes p q (inl a) (inr (inr b)) = absurd (a.0 (breaks_head bytes q b).0)
one_wrong bytes p q (inr (inl a)) (inl b) = absurd (b.0 a.0)
one_wrong bytes p q (inr (inl a)) (inr (inl b)) = a.2 ∙ sym b.2
one_wrong bytes p q (inr (inl a)) (inr (inr b)) = absurd (no_break bytes p q a b)
one_wrong bytes p q (inr (inr a)) (inl b) = absurd (b.0 (breaks_head bytes p a).0)
one_wrong bytes p q (inr (inr a)) (inr (inl b)) = absurd (no_break bytes q p b a)
one_wrong bytes p q (inr (inr a)) (inr (inr b)) = one_break bytes p q a b

place_once : (bytes : List ℕ) (p q : ℕ) → Loads bytes (Err p) → Loads bytes (Err q) → p ≡ q
place_once bytes p q (inl a) (inl b) = a.1 ∙ sym b.1
place_once bytes p q (inl a) (inr b) = absurd (omega (arith, a.0, b.1))
place_once bytes p q (inr a) (inl b) = absurd (omega (arith, a.1, b.0))
place_once bytes p q (inr a) (inr b) = one_wrong bytes p q a.2 b.2

-- a file loads as one thing: as one list of items, or as no journal for one place
pub Loads-once : (bytes : List ℕ) (a b : Result (List (List ℕ)) ℕ) → Loads bytes a → Loads bytes b → a ≡ b
Loads-once bytes (Ok xs) (Ok ys) a b = ap (λ (l : List (List ℕ)). Ok l) (items_once bytes xs ys a b)
Loads-once bytes (Ok xs) (Err q) a b = absurd (items_or_place bytes xs q a b)
Loads-once bytes (Err p) (Ok ys) a b = absurd (items_or_place bytes ys p b a)
Loads-once bytes (Err p) (Err q) a b = ap (λ (n : ℕ). Err n) (place_once bytes p q a b)
