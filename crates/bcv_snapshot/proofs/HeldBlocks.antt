-- Lists of held blocks: the one of a number, one more, one less.
use Rattle.std.proofs.Common.{◌≡◌, ◌∙◌, ℕ, zero, suc, ◌<◌, ◌≤◌, Bool, false, nat_eq, List, [], ◌∷◌, ◌++◌, length, map, slice_get, get_or, Option, Some, None, is_some, option_map, refl, sym, ap, subst, inl, inr, arith}
use Rattle.std.specs.List.{AllByRecursion, IsDistinct, find, position, position_or_len, remove}
use Rattle.std.proofs.lemmas.Bool.{cases_Bool}
use Rattle.std.proofs.lemmas.Grind.{common_steps}
use Rattle.std.proofs.lemmas.List.{map-append}
use Rattle.std.proofs.lemmas.List.Folds.{find_at}
use Rattle.std.proofs.lemmas.Option.{slice_get_past, slice_get_read}
use Rattle.bcv_cache.specs.Cache.{without}
use Rattle.bcv_snapshot.specs.declared.held_block.HeldBlock.{HeldBlock}
use Rattle.bcv_snapshot.specs.Opened.{has_block_number, pin_of}

-- ---- all elements of a list

pub all_imply : {X : Type 0} (P Q : X → Type 0) → ((x : X) → P x → Q x) → (xs : List X) → AllByRecursion P xs → AllByRecursion Q xs
all_imply P Q f [] all = tt
all_imply P Q f (x ∷ xs) all = (f x all.0, all_imply P Q f xs all.1)

pub all_both : {X : Type 0} (P : X → Type 0) (xs ys : List X) → AllByRecursion P xs → AllByRecursion P ys → AllByRecursion P (xs ++ ys)
all_both P [] ys a b = b
all_both P (x ∷ xs) ys a b = (a.0, all_both P xs ys a.1 b)

pub all_front : {X : Type 0} (P : X → Type 0) (xs ys : List X) → AllByRecursion P (xs ++ ys) → AllByRecursion P xs
all_front P [] ys all = tt
all_front P (x ∷ xs) ys all = (all.0, all_front P xs ys all.1)

pub all_rest : {X : Type 0} (P : X → Type 0) (xs ys : List X) → AllByRecursion P (xs ++ ys) → AllByRecursion P ys
all_rest P [] ys all = all
all_rest P (x ∷ xs) ys all = all_rest P xs ys all.1

pub all_at : {X : Type 0} (P : X → Type 0) (xs : List X) (n : ℕ) (x : X) → AllByRecursion P xs → slice_get xs n ≡ Some x → P x
all_at P [] n x all at = absurd (cc)
all_at P (y ∷ ys) zero x all at = let same : y ≡ x = cc in subst P same all.0
all_at P (y ∷ ys) (suc n) x all at = all_at P ys n x all.1 at

-- ---- the first element that passes

first_at : {X : Type 0} (test : X → Bool) (xs : List X) (at : ℕ) → position test xs ≡ Some at → (position_or_len test xs ≡ at) × (at < length xs)
first_at test xs at e = (grind (arith, common_steps), grind (arith, common_steps))

none_first : {X : Type 0} (test : X → Bool) (xs : List X) → position test xs ≡ None → length xs ≤ position_or_len test xs
none_first test xs e = grind (arith, common_steps)

remove_first : {X : Type 0} (test : X → Bool) (xs : List X) → position_or_len test xs < length xs → remove xs (position_or_len test xs) ≡ without test xs
remove_first test [] lt = absurd (omega arith)
remove_first test (x ∷ xs) lt = elim (cases_Bool (test x)) [
  | inl t ↦ rw t refl
  | inr t ↦ let at : position_or_len test (x ∷ xs) ≡ suc (position_or_len test xs) = rw t (omega arith) in
      let rest : without test (x ∷ xs) ≡ x ∷ without test xs = rw t refl in
      ap (remove (x ∷ xs)) at ∙ ap (λ ys. x ∷ ys) (remove_first test xs (omega (arith, at, lt))) ∙ sym rest
]

-- what is at the place of a number
pub record IsHeldAt (n : ℕ) (hs : List HeldBlock) (at : ℕ) (h : HeldBlock) : Type 0 where
  pub get : slice_get hs at ≡ Some h
  pub found : find (has_block_number n) hs ≡ Some h
  pub pin : pin_of n hs ≡ Some h.pin
  pub removed : remove hs at ≡ without (has_block_number n) hs

pub held_at : (n : ℕ) (hs : List HeldBlock) (at : ℕ) (h : HeldBlock) → position (has_block_number n) hs ≡ Some at → h ≡ get_or hs at h → IsHeldAt n hs at h
held_at n hs at h e is =
    let first = first_at (has_block_number n) hs at e in
    let get : slice_get hs at ≡ Some h = slice_get_read hs (length hs) at h refl first.1 is in
    let found : find (has_block_number n) hs ≡ Some h = find_at (has_block_number n) hs ∙ ap (slice_get hs) first.0 ∙ get in
    record {
      get = get;
      found = found;
      pin = ap (option_map (λ (x : HeldBlock). x.pin)) found;
      removed = ap (remove hs) (sym first.0) ∙ remove_first (has_block_number n) hs (subst (λ (k : ℕ). k < length hs) (sym first.0) first.1);
    }

pub not_held : (n : ℕ) (hs : List HeldBlock) → position (has_block_number n) hs ≡ None → find (has_block_number n) hs ≡ None
not_held n hs e = find_at (has_block_number n) hs ∙ slice_get_past hs (position_or_len (has_block_number n) hs) (none_first (has_block_number n) hs e)

-- a block has a pin where it has a place
pub pin_where : (n : ℕ) (hs : List HeldBlock) → is_some (pin_of n hs) ≡ is_some (position (has_block_number n) hs)
pin_where n hs = by (position (has_block_number n) hs) refl
  where
    slice_get_there : (xs : List HeldBlock) (k : ℕ) → k < length xs → (h : HeldBlock) × (slice_get xs k ≡ Some h)
    slice_get_there [] k lt = absurd (omega arith)
    slice_get_there (x ∷ xs) zero lt = (x, refl)
    slice_get_there (x ∷ xs) (suc k) lt = slice_get_there xs k (omega arith)

    by : (o : Option ℕ) → position (has_block_number n) hs ≡ o → is_some (pin_of n hs) ≡ is_some o
    by None none = ap (λ (x : Option HeldBlock). is_some (option_map (λ (h : HeldBlock). h.pin) x)) (not_held n hs none)
    by (Some at) some =
        let first = first_at (has_block_number n) hs at some in
        let there = slice_get_there hs at first.1 in
        ap (λ (x : Option HeldBlock). is_some (option_map (λ (h : HeldBlock). h.pin) x)) (find_at (has_block_number n) hs ∙ ap (slice_get hs) first.0 ∙ there.1)

pub none_found : (n : ℕ) (hs : List HeldBlock) → is_some (pin_of n hs) ≡ false → find (has_block_number n) hs ≡ None
none_found n hs none = by (find (has_block_number n) hs) refl none
  where
    by : (o : Option HeldBlock) → find (has_block_number n) hs ≡ o → is_some (option_map (λ (h : HeldBlock). h.pin) o) ≡ false → find (has_block_number n) hs ≡ None
    by None is none = is
    by (Some h) is none = absurd (cc)

-- a place that is found, by way of equal numbers and lists
pub position_at : (n m : ℕ) (xs hs : List HeldBlock) (r o : Option ℕ) → r ≡ position (has_block_number n) xs → n ≡ m → xs ≡ hs → r ≡ o → position (has_block_number m) hs ≡ o
position_at n m xs hs r o is same list answer =
    subst (λ (k : ℕ). position (has_block_number k) hs ≡ o) same (subst (λ (ys : List HeldBlock). position (has_block_number n) ys ≡ o) list (sym is ∙ answer))

-- ---- one less

pub all_without : {X : Type 0} (P : X → Type 0) (test : X → Bool) (xs : List X) → AllByRecursion P xs → AllByRecursion P (without test xs)
all_without P test [] all = tt
all_without P test (x ∷ xs) all = elim (cases_Bool (test x)) [
  | inl t ↦ rw t all.1
  | inr t ↦ rw t (all.0, all_without P test xs all.1)
]

-- the numbers of held blocks
abbrev pub numbers : List HeldBlock → List ℕ
numbers hs = map (λ h. h.number) hs

all_numbers : (P : ℕ → Type 0) (hs : List HeldBlock) → AllByRecursion P (numbers hs) → AllByRecursion (λ h. P h.number) hs
all_numbers P [] all = tt
all_numbers P (h ∷ hs) all = (all.0, all_numbers P hs all.1)

numbers_all : (P : ℕ → Type 0) (hs : List HeldBlock) → AllByRecursion (λ h. P h.number) hs → AllByRecursion P (numbers hs)
numbers_all P [] all = tt
numbers_all P (h ∷ hs) all = (all.0, numbers_all P hs all.1)

pub differ_without : (test : HeldBlock → Bool) (hs : List HeldBlock) → IsDistinct nat_eq (numbers hs) → IsDistinct nat_eq (numbers (without test hs))
unfolding IsDistinct
differ_without test [] d = tt
differ_without test (h ∷ hs) d = elim (cases_Bool (test h)) [
  | inl t ↦ rw t d.1
  | inr t ↦ rw t (numbers_all (λ k. nat_eq h.number k ≡ false) (without test hs) (all_without (λ x. nat_eq h.number x.number ≡ false) test hs (all_numbers (λ k. nat_eq h.number k ≡ false) hs d.0)), differ_without test hs d.1)
]

-- ---- one more

differ_from : (n : ℕ) (hs : List HeldBlock) → find (has_block_number n) hs ≡ None → AllByRecursion (λ k. nat_eq k n ≡ false) (numbers hs)
differ_from n [] none = tt
differ_from n (h ∷ hs) none = elim (cases_Bool (nat_eq h.number n)) [
  | inl t ↦ let some = rw t at none in absurd (cc)
  | inr t ↦ (t, differ_from n hs (rw t at none))
]

one_more : (n : ℕ) (ks : List ℕ) → AllByRecursion (λ k. nat_eq k n ≡ false) ks → IsDistinct nat_eq ks → IsDistinct nat_eq (ks ++ n ∷ [])
unfolding IsDistinct
one_more n [] all d = (tt, tt)
one_more n (k ∷ ks) all d = (all_both (λ y. nat_eq k y ≡ false) ks (n ∷ []) d.0 (all.0, tt), one_more n ks all.1 d.1)

pub differ_push : (h : HeldBlock) (hs : List HeldBlock) → find (has_block_number h.number) hs ≡ None → IsDistinct nat_eq (numbers hs) → IsDistinct nat_eq (numbers (hs ++ h ∷ []))
differ_push h hs none d =
    subst (IsDistinct nat_eq) (sym (map-append (λ (x : HeldBlock). x.number) hs (h ∷ []))) (one_more h.number (numbers hs) (differ_from h.number hs none) d)
