-- Reading items one after the other, as a loop does.
use Rattle.std.proofs.Common.{◌≡◌, ℕ, zero, suc, ◌-◌, ◌+◌, ◌≤◌, ◌<◌, List, [], ◌∷◌, ◌++◌, Option, Some, Ok, Err, refl, sym, ap, ◌∙◌, append_assoc, arith}
use Rattle.std.proofs.lemmas.List.{append-nil}
use Rattle.bcv_base.specs.ManifestGrammar.{Read, ◌>>=◌, items_at}
use Rattle.bcv_manifest.specs.declared.fault.Stop.{Stop}
use Rattle.bcv_manifest.specs.declared.fault.Stop.TheVariants as stop
use Rattle.bcv_manifest.specs.Reading.{Stops}

-- what was read before, and what is still read
abbrev pub with_front : {A : Type 0} → List A → Read (List A) → Read (List A)
with_front front read = read >>= λ x. Ok (front ++ x.0, x.1)

regroup : {A : Type 0} (front : List A) (a : A) (read : Read (List A)) → with_front front (read >>= λ x. Ok (a ∷ x.0, x.1)) ≡ with_front (front ++ a ∷ []) read
regroup front a (Ok x) = ap (λ (xs : List _). Ok (xs, x.1)) (simp append_assoc)
regroup front a (Err left) = refl

module _ {A : Type 0} (key : A → List ℕ) (item : Option (List ℕ) → List ℕ → Read A) where
  pub goes_on : (front : List A) (count i : ℕ) (before : Option (List ℕ)) (bytes : List ℕ) (a : A) (after : List ℕ) (total : Read (List A)) → i < count → item before bytes ≡ Ok (a, after)
      → with_front front (items_at key item (count - i) before bytes) ≡ total → with_front (front ++ a ∷ []) (items_at key item (count - (i + 1)) (Some (key a)) after) ≡ total
  unfolding items_at
  goes_on front count i before bytes a after total lt h so_far =
      let k : count - i ≡ suc (count - (i + 1)) = omega arith in
      let one : with_front front (items_at key item (count - i) before bytes) ≡ with_front (front ++ a ∷ []) (items_at key item (count - (i + 1)) (Some (key a)) after) = rw (k, h) (regroup front a (items_at key item (count - (i + 1)) (Some (key a)) after)) in
      sym one ∙ so_far

  pub ends : (e : Stop) (front : List A) (count i : ℕ) (before : Option (List ℕ)) (bytes : List ℕ) (total : Read (List A)) → i < count → Stops e (item before bytes)
      → with_front front (items_at key item (count - i) before bytes) ≡ total → Stops e total
  unfolding items_at
  ends stop.NoMemory front count i before bytes total lt h so_far = tt
  ends (stop.Fault left) front count i before bytes total lt h so_far =
      let k : count - i ≡ suc (count - (i + 1)) = omega arith in
      let one : with_front front (items_at key item (count - i) before bytes) ≡ Err left = rw (k, h) refl in
      sym so_far ∙ one

  pub is_done : (front : List A) (count i : ℕ) (before : Option (List ℕ)) (bytes : List ℕ) (total : Read (List A)) → count ≤ i → with_front front (items_at key item (count - i) before bytes) ≡ total → total ≡ Ok (front, bytes)
  unfolding items_at
  is_done front count i before bytes total le so_far =
      let k : count - i ≡ 0 = omega arith in
      let one : with_front front (items_at key item (count - i) before bytes) ≡ Ok (front, bytes) = rw k (ap (λ (xs : List A). Ok (xs, bytes)) (append-nil front)) in
      sym so_far ∙ one

-- items that don't look at the one before them
pub any_before : {A : Type 0} (key : A → List ℕ) (item : List ℕ → Read A) (n : ℕ) (b c : Option (List ℕ)) (bytes : List ℕ) → items_at key (λ _. item) n b bytes ≡ items_at key (λ _. item) n c bytes
unfolding items_at
any_before key item zero b c bytes = refl
any_before key item (suc n) b c bytes = refl
