-- Puts of two values with one key: they go to the same place, so that the results list the same blocks and are as long. And
-- a list with all keys of another one is no shorter.
use Rattle.std.proofs.Common.{◌≡◌, ◌∙◌, ℕ, suc, ◌+◌, ◌≤◌, Bool, true, false, cond, not, ◌||◌, List, [], ◌∷◌, length, filter, Option, Some, None, is_some, bytes_eq, refl, sym, ap, subst, le_antisymm, arith}
use Rattle.bcv_base.specs.declared.id.Id16.{Id16}
use Rattle.bcv_base.specs.declared.manifest.DbEntry.{DbEntry}
use Rattle.bcv_base.specs.HistoryLaws.{id_eq-is}
use Rattle.bcv_base.specs.Ids.{id_eq, has_id}
use Rattle.bcv_base.specs.Keyed.{comes_before, keyed, with_keyed, without_keyed}
use Rattle.bcv_base.specs.ManifestRules.{db_name, lists, IsAbove, Ascends}
use Rattle.bcv_dbmap.specs.Checked.{needed_length, needed_total}
use Rattle.bcv_dbmap.proofs.Bools.{neither_or, or_left, or_right, not_passed, not_both}
use Rattle.bcv_dbmap.proofs.Keys.{by_test, same_key, by_place, by_removal, with_over, with_front, with_later, keyed_here, keyed_there, key_same, key_turned, before_back, above_none, above_found}

-- ---- tests

or_more : (a b c : Bool) → (a ≡ true → b ≡ true) → (a || c) ≡ true → (b || c) ≡ true
or_more true b c more h = or_left b c (more refl)
or_more false b c more h = or_right b c h

or_later : (a b c : Bool) → (b ≡ true → c ≡ true) → (a || b) ≡ true → (a || c) ≡ true
or_later true b c more h = refl
or_later false b c more h = more h

-- ---- two puts

module _ {A : Type 0} (key : A → List ℕ) where
  -- a fact of each of the three places of two puts
  pub by_places : (P : List A → List A → Type 0) (a b x : A) (xs : List A) → key a ≡ key b
      → P (a ∷ xs) (b ∷ xs) → P (a ∷ x ∷ xs) (b ∷ x ∷ xs) → P (x ∷ with_keyed key a xs) (x ∷ with_keyed key b xs)
      → P (with_keyed key a (x ∷ xs)) (with_keyed key b (x ∷ xs))
  by_places P a b x xs same over front later =
      by_place key (λ (l : List A). P l (with_keyed key b (x ∷ xs))) a x xs
      (λ e. subst (P (a ∷ xs)) (sym (with_over key b x xs (ap (bytes_eq (key x)) (sym same) ∙ e))) over)
      (λ e f. subst (P (a ∷ x ∷ xs)) (sym (with_front key b x xs (ap (bytes_eq (key x)) (sym same) ∙ e) (ap (λ (k : List ℕ). comes_before k (key x)) (sym same) ∙ f))) front)
      (λ e f. subst (P (x ∷ with_keyed key a xs)) (sym (with_later key b x xs (ap (bytes_eq (key x)) (sym same) ∙ e) (ap (λ (k : List ℕ). comes_before k (key x)) (sym same) ∙ f))) later)

  pub length_alike : (a b : A) (xs : List A) → key a ≡ key b → length (with_keyed key a xs) ≡ length (with_keyed key b xs)
  length_alike a b [] same = refl
  length_alike a b (x ∷ xs) same =
      by_places (λ (l k : List A). length l ≡ length k) a b x xs same refl refl (ap suc (length_alike a b xs same))

  pub length_without : (k : List ℕ) (xs : List A) → length (without_keyed key k xs) ≤ length xs
  length_without k [] = omega arith
  length_without k (x ∷ xs) =
      let less : length (without_keyed key k xs) ≤ length xs = length_without k xs in
      by_removal key (λ (l : List A). length l ≤ length (x ∷ xs)) k x xs (λ e. omega arith) (λ e. omega arith)

-- where each block of the first is one of the second
pub lists_within : (a b : DbEntry) (i : Id16) (ds : List DbEntry) → a.name ≡ b.name → (has_id i a.blocks ≡ true → has_id i b.blocks ≡ true)
    → lists (with_keyed db_name a ds) i ≡ true → lists (with_keyed db_name b ds) i ≡ true
lists_within a b i [] same has = or_more (has_id i a.blocks) (has_id i b.blocks) false has
lists_within a b i (d ∷ ds) same has =
    by_places db_name (λ (l k : List DbEntry). lists l i ≡ true → lists k i ≡ true) a b d ds same
    (or_more (has_id i a.blocks) (has_id i b.blocks) (lists ds i) has)
    (or_more (has_id i a.blocks) (has_id i b.blocks) (lists (d ∷ ds) i) has)
    (or_later (has_id i d.blocks) (lists (with_keyed db_name a ds) i) (lists (with_keyed db_name b ds) i) (lists_within a b i ds same has))

pub lists_alike : (a b : DbEntry) (i : Id16) (ds : List DbEntry) → a.name ≡ b.name → has_id i a.blocks ≡ has_id i b.blocks → lists (with_keyed db_name a ds) i ≡ lists (with_keyed db_name b ds) i
lists_alike a b i [] same has = ap (λ (t : Bool). t || false) has
lists_alike a b i (d ∷ ds) same has =
    by_places db_name (λ (l k : List DbEntry). lists l i ≡ lists k i) a b d ds same (ap (λ (t : Bool). t || lists ds i) has) (ap (λ (t : Bool). t || lists (d ∷ ds) i) has)
    (ap (λ (t : Bool). has_id i d.blocks || t) (lists_alike a b i ds same has))

pub needed_alike : (block : ℕ) (a b : DbEntry) (ds : List DbEntry) → a.name ≡ b.name → needed_length block a ≡ needed_length block b
    → needed_total block (with_keyed db_name a ds) ≡ needed_total block (with_keyed db_name b ds)
needed_alike block a b [] same needed = ap (λ (n : ℕ). n + 0) needed
needed_alike block a b (d ∷ ds) same needed =
    by_places db_name (λ (l k : List DbEntry). needed_total block l ≡ needed_total block k) a b d ds same (ap (λ (n : ℕ). n + needed_total block ds) needed) (ap (λ (n : ℕ). n + needed_total block (d ∷ ds)) needed)
    (ap (λ (n : ℕ). needed_length block d + n) (needed_alike block a b ds same needed))

-- ---- a list with all keys of another one

some_of : {A : Type 0} (o : Option A) → is_some o ≡ true → (a : A) × (o ≡ Some a)
some_of None h = absurd cc
some_of (Some a) h = (a, refl)

module _ {A : Type 0} (key : A → List ℕ) where
  -- each key of the first is one of the second
  abbrev pub KeysWithin : List A → List A → Type 0
  KeysWithin xs ys = (k : List ℕ) → is_some (keyed key k xs) ≡ true → is_some (keyed key k ys) ≡ true

  tails_within : (x y : A) (xs ys : List A) → IsAbove key (key x) xs → key x ≡ key y → KeysWithin (x ∷ xs) (y ∷ ys) → KeysWithin xs ys
  tails_within x y xs ys above same within k h =
      by_test (bytes_eq (key x) k)
      (λ e.
      let none : keyed key k xs ≡ None = above_none key k xs (subst (λ (l : List ℕ). IsAbove key l xs) (same_key (key x) k e) above) in
      not_both (is_some (keyed key k xs)) h (ap is_some none))
      (λ e. sym (ap is_some (keyed_there key k y ys (ap (λ (l : List ℕ). bytes_eq l k) (sym same) ∙ e))) ∙ within k (ap is_some (keyed_there key k x xs e) ∙ h))

  -- where the first of the second list is another one, it is none of the first
  later_within : (x y : A) (xs ys : List A) → IsAbove key (key x) xs → IsAbove key (key y) ys → bytes_eq (key x) (key y) ≡ false → KeysWithin (x ∷ xs) (y ∷ ys) → KeysWithin (x ∷ xs) ys
  later_within x y xs ys ax ay other within k h =
      by_test (bytes_eq (key y) k)
      (λ e.
      let at : key y ≡ k = same_key (key y) k e in
      let of_x = some_of (keyed key (key x) ys) (sym (ap is_some (keyed_there key (key x) y ys (key_turned (key y) (key x) ∙ other))) ∙ within (key x) (ap is_some (keyed_here key (key x) x xs (key_same (key x))))) in
      let of_y = some_of (keyed key (key y) xs) (sym (ap is_some (keyed_there key (key y) x xs other)) ∙ ap (λ (l : List ℕ). is_some (keyed key l (x ∷ xs))) at ∙ h) in
      let x_later : comes_before (key y) (key x) ≡ true = above_found key (key y) (key x) ys of_x.0 ay of_x.1 in
      let y_later : comes_before (key x) (key y) ≡ true = above_found key (key x) (key y) xs of_y.0 ax of_y.1 in
      not_both (comes_before (key x) (key y)) y_later (before_back (key y) (key x) x_later))
      (λ e. sym (ap is_some (keyed_there key k y ys e)) ∙ within k h)

  -- of two ascending lists, the one with all keys of the other is as long or longer
  pub longer : (xs ys : List A) → Ascends key xs → Ascends key ys → KeysWithin xs ys → length xs ≤ length ys
  longer [] ys ax ay within = omega arith
  longer (x ∷ xs) [] ax ay within = let found : false ≡ true = within (key x) (ap is_some (keyed_here key (key x) x xs (key_same (key x)))) in absurd cc
  longer (x ∷ xs) (y ∷ ys) ax ay within =
      by_test (bytes_eq (key x) (key y))
      (λ e. let less : length xs ≤ length ys = longer xs ys ax.1 ay.1 (tails_within x y xs ys ax.0 (same_key (key x) (key y) e) within) in omega arith)
      (λ e. let less : length (x ∷ xs) ≤ length ys = longer (x ∷ xs) ys ax ay.1 (later_within x y xs ys ax.0 ay.0 e within) in omega arith)

  -- with the same keys they are equally long
  pub same_lengths : (xs ys : List A) → Ascends key xs → Ascends key ys → ((k : List ℕ) → is_some (keyed key k xs) ≡ is_some (keyed key k ys)) → length xs ≡ length ys
  same_lengths xs ys ax ay same = le_antisymm (longer xs ys ax ay (λ k h. sym (same k) ∙ h)) (longer ys xs ay ax (λ k h. same k ∙ h))

-- ---- ids without one

pub has_kept : (z i : Id16) (is : List Id16) → id_eq i z ≡ false → has_id i (filter (λ (j : Id16). not (id_eq j z)) is) ≡ has_id i is
has_kept z i [] other = refl
has_kept z i (j ∷ is) other =
    by_test (id_eq j z)
    (λ e.
    ap (λ (b : Bool). has_id i (cond (not b) (j ∷ filter (λ (j : Id16). not (id_eq j z)) is) (filter (λ (j : Id16). not (id_eq j z)) is))) e
    ∙ has_kept z i is other
    ∙ sym (ap (λ (b : Bool). b || has_id i is) (not_passed (id_eq j i) (λ f. not_both (id_eq j z) e (ap (λ (k : Id16). id_eq k z) (id_eq-is j i f) ∙ other)))))
    (λ e.
    ap (λ (b : Bool). has_id i (cond (not b) (j ∷ filter (λ (j : Id16). not (id_eq j z)) is) (filter (λ (j : Id16). not (id_eq j z)) is))) e
    ∙ ap (λ (b : Bool). id_eq j i || b) (has_kept z i is other))

pub has_dropped : (z : Id16) (is : List Id16) → has_id z (filter (λ (j : Id16). not (id_eq j z)) is) ≡ false
has_dropped z [] = refl
has_dropped z (j ∷ is) =
    by_test (id_eq j z)
    (λ e. ap (λ (b : Bool). has_id z (cond (not b) (j ∷ filter (λ (j : Id16). not (id_eq j z)) is) (filter (λ (j : Id16). not (id_eq j z)) is))) e ∙ has_dropped z is)
    (λ e.
    ap (λ (b : Bool). has_id z (cond (not b) (j ∷ filter (λ (j : Id16). not (id_eq j z)) is) (filter (λ (j : Id16). not (id_eq j z)) is))) e
    ∙ neither_or (id_eq j z) (has_id z (filter (λ (j : Id16). not (id_eq j z)) is)) e (has_dropped z is))
