-- Keyed lists under a map that keeps the keys.
use Rattle.std.proofs.Common.{◌≡◌, ◌∙◌, ℕ, Bool, true, false, cond, List, [], ◌∷◌, map, Option, Some, refl, ap}
use Rattle.std.specs.Option.{option_map}
use Rattle.std.specs.Str.{bytes_eq}
use Rattle.bcv_base.specs.Keyed.{comes_before, keyed, with_keyed, without_keyed}

module _ {A B : Type 0} (ka : A → List ℕ) (kb : B → List ℕ) (f : A → B) (same : (x : A) → kb (f x) ≡ ka x) where
  found : (b : Bool) (x : A) (o : Option A) → cond b (Some (f x)) (option_map f o) ≡ option_map f (cond b (Some x) o)
  found true x o = refl
  found false x o = refl

  -- a look-up
  pub keyed_map : (k : List ℕ) (xs : List A) → keyed kb k (map f xs) ≡ option_map f (keyed ka k xs)
  keyed_map k [] = refl
  keyed_map k (x ∷ xs) =
      ap (λ t. cond (bytes_eq t k) (Some (f x)) (keyed kb k (map f xs))) (same x)
      ∙ ap (λ (o : Option B). cond (bytes_eq (ka x) k) (Some (f x)) o) (keyed_map k xs)
      ∙ found (bytes_eq (ka x) k) x (keyed ka k xs)

  listed : (b : Bool) (xs ys : List A) → cond b (map f xs) (map f ys) ≡ map f (cond b xs ys)
  listed true xs ys = refl
  listed false xs ys = refl

  -- a removal
  pub without_map : (k : List ℕ) (xs : List A) → without_keyed kb k (map f xs) ≡ map f (without_keyed ka k xs)
  without_map k [] = refl
  without_map k (x ∷ xs) =
      ap (λ t. cond (bytes_eq t k) (without_keyed kb k (map f xs)) (f x ∷ without_keyed kb k (map f xs))) (same x)
      ∙ ap (λ (ys : List B). cond (bytes_eq (ka x) k) ys (f x ∷ ys)) (without_map k xs)
      ∙ listed (bytes_eq (ka x) k) (without_keyed ka k xs) (x ∷ without_keyed ka k xs)

  -- a put
  pub with_map : (a : A) (xs : List A) → with_keyed kb (f a) (map f xs) ≡ map f (with_keyed ka a xs)
  with_map a [] = refl
  with_map a (x ∷ xs) =
      ap (λ t. cond (bytes_eq t (kb (f a))) (f a ∷ map f xs) (cond (comes_before (kb (f a)) t) (f a ∷ f x ∷ map f xs) (f x ∷ with_keyed kb (f a) (map f xs)))) (same x)
      ∙ ap (λ t. cond (bytes_eq (ka x) t) (f a ∷ map f xs) (cond (comes_before t (ka x)) (f a ∷ f x ∷ map f xs) (f x ∷ with_keyed kb (f a) (map f xs)))) (same a)
      ∙ ap (λ (ys : List B). cond (bytes_eq (ka x) (ka a)) (f a ∷ map f xs) (cond (comes_before (ka a) (ka x)) (f a ∷ f x ∷ map f xs) (f x ∷ ys))) (with_map a xs)
      ∙ ap (λ (ys : List B). cond (bytes_eq (ka x) (ka a)) (f a ∷ map f xs) ys) (listed (comes_before (ka a) (ka x)) (a ∷ x ∷ xs) (x ∷ with_keyed ka a xs))
      ∙ listed (bytes_eq (ka x) (ka a)) (a ∷ xs) (cond (comes_before (ka a) (ka x)) (a ∷ x ∷ xs) (x ∷ with_keyed ka a xs))
