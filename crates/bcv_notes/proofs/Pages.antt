-- Reading pages one after the other, as a loop does.
use Rattle.std.proofs.Common.{◌≡◌, ℕ, suc, ◌-◌, ◌+◌, ◌≤◌, ◌<◌, List, [], ◌∷◌, ◌++◌, Some, None, refl, sym, ap, ◌∙◌, append_assoc, arith}
use Rattle.std.proofs.lemmas.List.{append-nil}
use Rattle.bcv_base.specs.Image.{Page}
use Rattle.bcv_notes.specs.NoteGrammar.{Front, ◌>>=◌, page_at, pages_at}
use Rattle.bcv_notes.specs.declared.stop.Stop.{Stop}
use Rattle.bcv_notes.specs.declared.stop.Stop.TheVariants as stop
use Rattle.bcv_notes.specs.Reading.{StopsOn}

-- what was read before, and what is still read
abbrev pub with_front : List (ℕ × Page) → Front (List (ℕ × Page)) → Front (List (ℕ × Page))
with_front front read = read >>= λ x. Some (front ++ x.0, x.1)

regroup : (front : List (ℕ × Page)) (p : ℕ × Page) (read : Front (List (ℕ × Page))) → with_front front (read >>= λ x. Some (p ∷ x.0, x.1)) ≡ with_front (front ++ p ∷ []) read
regroup front p (Some x) = ap (λ (xs : List (ℕ × Page)). Some (xs, x.1)) (simp append_assoc)
regroup front p None = refl

pub goes_on : (page_size most : ℕ) (front : List (ℕ × Page)) (count i before : ℕ) (bytes : List ℕ) (p : ℕ × Page) (after : List ℕ) (total : Front (List (ℕ × Page))) → i < count → page_at page_size most before bytes ≡ Some (p, after)
    → with_front front (pages_at page_size most (count - i) before bytes) ≡ total → with_front (front ++ p ∷ []) (pages_at page_size most (count - (i + 1)) p.0 after) ≡ total
unfolding pages_at
goes_on page_size most front count i before bytes p after total lt h so_far =
    let k : count - i ≡ suc (count - (i + 1)) = omega arith in
    let one : with_front front (pages_at page_size most (count - i) before bytes) ≡ with_front (front ++ p ∷ []) (pages_at page_size most (count - (i + 1)) p.0 after) = rw (k, h) (regroup front p (pages_at page_size most (count - (i + 1)) p.0 after)) in
    sym one ∙ so_far

pub ends : (page_size most : ℕ) (e : Stop) (front : List (ℕ × Page)) (count i before : ℕ) (bytes : List ℕ) (total : Front (List (ℕ × Page))) → i < count → StopsOn e (page_at page_size most before bytes)
    → with_front front (pages_at page_size most (count - i) before bytes) ≡ total → StopsOn e total
unfolding pages_at
ends page_size most stop.NoMemory front count i before bytes total lt h so_far = tt
ends page_size most stop.NoNote front count i before bytes total lt h so_far =
    let k : count - i ≡ suc (count - (i + 1)) = omega arith in
    let one : with_front front (pages_at page_size most (count - i) before bytes) ≡ None = rw (k, h) refl in
    sym so_far ∙ one

pub is_done : (page_size most : ℕ) (front : List (ℕ × Page)) (count i before : ℕ) (bytes : List ℕ) (total : Front (List (ℕ × Page))) → count ≤ i → with_front front (pages_at page_size most (count - i) before bytes) ≡ total → total ≡ Some (front, bytes)
unfolding pages_at
is_done page_size most front count i before bytes total le so_far =
    let k : count - i ≡ 0 = omega arith in
    let one : with_front front (pages_at page_size most (count - i) before bytes) ≡ Some (front, bytes) = rw k (ap (λ (xs : List (ℕ × Page)). Some (xs, bytes)) (append-nil front)) in
    sym so_far ∙ one
