-- Numbers one after the other: a test and the texts of one more.
use Rattle.std.proofs.Common.{◌≡◌, ◌∙◌, ℕ, zero, suc, ◌+◌, ◌<◌, Bool, true, false, ◌||◌, List, [], ◌∷◌, ◌++◌, refl, sym, ap, arith, append_assoc}
use Rattle.std.specs.List.{flat_map, list_any, range_with_len}
use Rattle.bcv_dbmap.proofs.Bools.{or_right}
use Rattle.bcv_upload.proofs.Bools.{or_none, or_or}

none_more : (a : ℕ) → a + 0 ≡ a
none_more a = omega arith

one_more : (a k : ℕ) → (a + 1) + k ≡ a + suc k
one_more a k = omega arith

pub any_more : (test : ℕ → Bool) (a n : ℕ) → list_any test (range_with_len a (suc n)) ≡ (list_any test (range_with_len a n) || test (a + n))
any_more test a zero = or_none (test a) ∙ ap test (sym (none_more a))
any_more test a (suc n) =
    ap (λ (b : Bool). test a || b) (any_more test (a + 1) n) ∙ or_or (test a) (list_any test (range_with_len (a + 1) n)) (test ((a + 1) + n))
    ∙ ap (λ (k : ℕ). (test a || list_any test (range_with_len (a + 1) n)) || test k) (one_more a n)

pub any_there : (test : ℕ → Bool) (a n k : ℕ) → k < n → test (a + k) ≡ true → list_any test (range_with_len a n) ≡ true
any_there test a zero k within is = absurd (omega (arith, within))
any_there test a (suc n) zero within is = ap (λ (b : Bool). b || list_any test (range_with_len (a + 1) n)) (sym (ap test (none_more a)) ∙ is)
any_there test a (suc n) (suc k) within is = or_right (test a) (list_any test (range_with_len (a + 1) n)) (any_there test (a + 1) n k (omega (arith, within)) (ap test (one_more a k) ∙ is))

pub none_there : (test : ℕ → Bool) (a n k : ℕ) → k < n → list_any test (range_with_len a n) ≡ false → test (a + k) ≡ false
none_there test a n k within none = by_test (test (a + k)) (any_there test a n k within) none
  where
    by_test : (b : Bool) → (b ≡ true → list_any test (range_with_len a n) ≡ true) → list_any test (range_with_len a n) ≡ false → b ≡ false
    by_test true f none = absurd (let both : true ≡ false = sym (f refl) ∙ none in cc)
    by_test false f none = refl

pub text_more : (text : ℕ → List ℕ) (a n : ℕ) → flat_map text (range_with_len a (suc n)) ≡ flat_map text (range_with_len a n) ++ text (a + n)
text_more text a zero = nothing (text a) ∙ ap text (sym (none_more a))
  where
    nothing : (xs : List ℕ) → xs ++ [] ≡ xs
    nothing [] = refl
    nothing (x ∷ xs) = ap (λ (ys : List ℕ). x ∷ ys) (nothing xs)
text_more text a (suc n) =
    ap (λ (xs : List ℕ). text a ++ xs) (text_more text (a + 1) n) ∙ sym (append_assoc (text a) (flat_map text (range_with_len (a + 1) n)) (text ((a + 1) + n)))
    ∙ ap (λ (k : ℕ). (text a ++ flat_map text (range_with_len (a + 1) n)) ++ text k) (one_more a n)

-- texts that are the same one by one
pub same_text : (f g : ℕ → List ℕ) (a n : ℕ) → ((k : ℕ) → k < n → f (a + k) ≡ g (a + k)) → flat_map f (range_with_len a n) ≡ flat_map g (range_with_len a n)
same_text f g a zero same = refl
same_text f g a (suc n) same =
    ap (λ (xs : List ℕ). xs ++ flat_map f (range_with_len (a + 1) n)) (sym (ap f (none_more a)) ∙ same 0 (omega arith) ∙ ap g (none_more a))
    ∙ ap (λ (xs : List ℕ). g a ++ xs) (same_text f g (a + 1) n (λ k within. ap f (one_more a k) ∙ same (suc k) (omega (arith, within)) ∙ sym (ap g (one_more a k))))

-- a place where a test passes
pub any_found : (test : ℕ → Bool) (a n : ℕ) → list_any test (range_with_len a n) ≡ true → (k : ℕ) × (test (a + k) ≡ true)
any_found test a zero is = absurd (cc)
any_found test a (suc n) is = by_first (test a) refl is (any_found test (a + 1) n)
  where
    by_first : (b : Bool) → test a ≡ b → (b || list_any test (range_with_len (a + 1) n)) ≡ true → (list_any test (range_with_len (a + 1) n) ≡ true → (k : ℕ) × (test ((a + 1) + k) ≡ true))
        → (k : ℕ) × (test (a + k) ≡ true)
    by_first true here is later = (0, ap test (none_more a) ∙ here)
    by_first false here is later = let f = later is in (suc f.0, ap test (sym (one_more a f.0)) ∙ f.1)
