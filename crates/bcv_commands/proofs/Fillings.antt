-- What a slice holds of an input while it is filled.
use Rattle.std.proofs.Common.{◌≡◌, ℕ, ◌+◌, ◌≤◌, List, ◌++◌, length, length-append, take, drop, sym, ap, ◌∙◌, subst, arith}
use Rattle.std.specs.Prelude.{Option}
use Rattle.std.specs.Io.KnownBytes.{Keeps, Consumes, IsAtEnd}
use Rattle.std.proofs.KnownBytes.{Consumes-trans, Consumes-kept}
use Rattle.std.proofs.Math.Seq.{take-add}
use Rattle.std.proofs.lemmas.List.{length-take-le, length-drop, take-append-drop}
use Rattle.bcv_commands.specs.declared.filling.Drained.TheVariants as drained
use Rattle.bcv_commands.specs.declared.filling.Filled.TheVariants as filled
use Rattle.bcv_commands.specs.declared.pages.NextPage.TheVariants as page
use Rattle.bcv_commands.specs.Filling.{Fills, Drains, TakesPage}

-- a take gives more bytes after the front that was taken
pub filled_more : (a b c : Option (List ℕ)) (n k : ℕ) (old new : List ℕ) → Consumes a b (take n old) → take n new ≡ take n old → Consumes b c (take k (drop n new))
    → Consumes a c (take (n + k) new)
filled_more a b c n k old new h same m =
    subst (Consumes a c) (ap (λ (l : List ℕ). l ++ take k (drop n new)) (sym same) ∙ sym (take-add n k new)) (Consumes-trans a b c (take n old) (take k (drop n new)) h m)

-- a take gives none
pub filled_kept : (a b c : Option (List ℕ)) (n : ℕ) (old new : List ℕ) → Consumes a b (take n old) → take n new ≡ take n old → Keeps b c → Consumes a c (take n new)
filled_kept a b c n old new h same k = Consumes-kept a b c (take n new) (subst (Consumes a b) (sym same) h) k

-- ---- the rest of an input, slice by slice

module _ (a b c : Option (List ℕ)) (before so_far : ℕ) (taken slice : List ℕ) (h : Consumes a b taken) (count : so_far ≡ before + length taken) where
  pub drains_end : (n : ℕ) → Fills (filled.Ended n) so_far b c slice → Drains drained.Ended before a c
  drains_end n f =
      let fits : n ≤ length slice = omega (arith, f.2) in
      (f.0, (taken ++ take n slice, Consumes-trans a b c taken (take n slice) h f.1, omega (arith, count, f.3, length-append taken (take n slice), length-take-le n slice fits)))

  pub drains_limit : Fills filled.TooLong so_far b c slice → Drains drained.TooLong before a c
  drains_limit f = (taken ++ f.0, Consumes-trans a b c taken f.0 h f.1, omega (arith, count, f.2, length-append taken f.0))

  pub drains_fault : Fills filled.Failed so_far b c slice → Drains drained.Failed before a c
  drains_fault f = (taken ++ f.0, Consumes-trans a b c taken f.0 h f.1, omega (arith, count, f.2, length-append taken f.0))

-- ---- a page that begins with what was taken before

module _ (a b : Option (List ℕ)) (before size k : ℕ) (front old new : List ℕ) (begins : take k old ≡ front) (whole : length old ≡ size) (same : take k new ≡ take k old) (len : length new ≡ length old) (count : k ≡ length front) where
  all_new : front ++ drop k new ≡ new
  all_new = ap (λ (l : List ℕ). l ++ drop k new) (sym (same ∙ begins)) ∙ take-append-drop k new

  pub page_whole : k ≤ size → Fills filled.Full (before + k) a b (drop k new) → (taken : List ℕ) × Consumes a b taken × TakesPage (page.Whole new) size before (front ++ taken) (IsAtEnd b)
  page_whole h f = (drop k new, f.0, (sym all_new, len ∙ whole, omega (arith, f.1, h, len, whole, length-drop k new)))

  pub page_part : (n : ℕ) → Fills (filled.Ended n) (before + k) a b (drop k new) → (taken : List ℕ) × Consumes a b taken × TakesPage (page.Ended (k + n)) size before (front ++ taken) (IsAtEnd b)
  page_part n f =
      let fits : n ≤ length (drop k new) = omega (arith, f.2) in
      (take n (drop k new), f.1, (f.0, omega (arith, count, length-append front (take n (drop k new)), length-take-le n (drop k new) fits), omega (arith, f.2, len, whole, length-drop k new), omega (arith, f.3)))

  pub page_limit : Fills filled.TooLong (before + k) a b (drop k new) → (taken : List ℕ) × Consumes a b taken × TakesPage page.TooLong size before (front ++ taken) (IsAtEnd b)
  page_limit f = (f.0, f.1, omega (arith, f.2, count, length-append front f.0))

  pub page_fault : Fills filled.Failed (before + k) a b (drop k new) → (taken : List ℕ) × Consumes a b taken × TakesPage page.Failed size before (front ++ taken) (IsAtEnd b)
  page_fault f = (f.0, f.1, omega (arith, f.2, count, length-append front f.0))
