-- Lists under a map that a test does not see.
use Rattle.std.proofs.Common.{◌≡◌, ◌∙◌, Bool, true, false, cond, List, [], ◌∷◌, ◌++◌, map, filter, find, Option, Some, refl, ap}
use Rattle.std.specs.Option.{option_map}

module _ {A B : Type 0} (f : A → B) (p : B → Bool) (q : A → Bool) (same : (x : A) → p (f x) ≡ q x) where
  kept : (b : Bool) (x : A) (xs : List A) → cond b (f x ∷ map f xs) (map f xs) ≡ map f (cond b (x ∷ xs) xs)
  kept true x xs = refl
  kept false x xs = refl

  pub filter_map : (xs : List A) → filter p (map f xs) ≡ map f (filter q xs)
  filter_map [] = refl
  filter_map (x ∷ xs) =
      ap (λ (b : Bool). cond b (f x ∷ filter p (map f xs)) (filter p (map f xs))) (same x)
      ∙ ap (λ (ys : List B). cond (q x) (f x ∷ ys) ys) (filter_map xs)
      ∙ kept (q x) x (filter q xs)

  found : (b : Bool) (x : A) (o : Option A) → cond b (Some (f x)) (option_map f o) ≡ option_map f (cond b (Some x) o)
  found true x o = refl
  found false x o = refl

  pub find_map : (xs : List A) → find p (map f xs) ≡ option_map f (find q xs)
  find_map [] = refl
  find_map (x ∷ xs) =
      ap (λ (b : Bool). cond b (Some (f x)) (find p (map f xs))) (same x)
      ∙ ap (λ (o : Option B). cond (q x) (Some (f x)) o) (find_map xs)
      ∙ found (q x) x (find q xs)

pub map_append : {A B : Type 0} (f : A → B) (xs ys : List A) → map f (xs ++ ys) ≡ map f xs ++ map f ys
map_append f [] ys = refl
map_append f (x ∷ xs) ys = ap (λ l. f x ∷ l) (map_append f xs ys)

pub map_map : {A B C : Type 0} (g : B → C) (f : A → B) (h : A → C) → ((x : A) → g (f x) ≡ h x) → (xs : List A) → map g (map f xs) ≡ map h xs
map_map g f h same [] = refl
map_map g f h same (x ∷ xs) = ap (λ y. y ∷ map g (map f xs)) (same x) ∙ ap (λ ys. h x ∷ ys) (map_map g f h same xs)
