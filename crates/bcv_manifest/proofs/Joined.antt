-- Texts that were appended one after the other.
use Rattle.std.proofs.Common.{◌≡◌, ℕ, List, ◌++◌, Result, Ok, Err, ap, ◌∙◌, append_assoc}
use Rattle.std.specs.Prelude.{OnOk}

-- six appended texts are one
pub joined6 : (o a b c d e f : List ℕ) {o1 o2 o3 o4 o5 o6 : List ℕ} → o1 ≡ o ++ a → o2 ≡ o1 ++ b → o3 ≡ o2 ++ c → o4 ≡ o3 ++ d → o5 ≡ o4 ++ e → o6 ≡ o5 ++ f → o6 ≡ o ++ (a ++ (b ++ (c ++ (d ++ (e ++ f)))))
joined6 o a b c d e f h1 h2 h3 h4 h5 h6 =
    h6 ∙ ap (λ (x : List ℕ). x ++ f) (h5 ∙ ap (λ (x : List ℕ). x ++ e) (h4 ∙ ap (λ (x : List ℕ). x ++ d) (h3 ∙ ap (λ (x : List ℕ). x ++ c) (h2 ∙ ap (λ (x : List ℕ). x ++ b) h1)))) ∙ regroup
  where
    regroup : (((((o ++ a) ++ b) ++ c) ++ d) ++ e) ++ f ≡ o ++ (a ++ (b ++ (c ++ (d ++ (e ++ f)))))
    regroup = simp append_assoc

-- what follows from the fact at an Ok
pub on_ok : {A E : Type 0} {P Q : Type 0} (r : Result A E) → (P → Q) → OnOk r P → OnOk r Q
on_ok (Ok x) f p = f p
on_ok (Err e) f p = tt
