-- A loop that keeps what passes a test.
use Rattle.std.proofs.Common.{◌≡◌, ◌∙◌, ℕ, ◌+◌, ◌<◌, Bool, true, false, cond, List, [], ◌∷◌, ◌++◌, length, get_or, take, sym, ap}
use Rattle.std.specs.List.{filter}
use Rattle.std.proofs.lemmas.List.{append-nil}
use Rattle.std.proofs.lemmas.List.Elements.{filter_more}

module _ {A : Type 0} (test : A → Bool) (xs kept : List A) (i : ℕ) (d : A) (lt : i < length xs) (so_far : kept ≡ filter test (take i xs)) where
  more : (b : Bool) → test (get_or xs i d) ≡ b → filter test (take (i + 1) xs) ≡ kept ++ cond b (get_or xs i d ∷ []) []
  more b e =
      filter_more test xs i d lt ∙ ap (λ (t : Bool). filter test (take i xs) ++ cond t (get_or xs i d ∷ []) []) e
      ∙ ap (λ (l : List A). l ++ cond b (get_or xs i d ∷ []) []) (sym so_far)

  pub keeps : test (get_or xs i d) ≡ true → kept ++ get_or xs i d ∷ [] ≡ filter test (take (i + 1) xs)
  keeps e = sym (more true e)

  pub skips : test (get_or xs i d) ≡ false → kept ≡ filter test (take (i + 1) xs)
  skips e = sym (append-nil kept) ∙ sym (more false e)
