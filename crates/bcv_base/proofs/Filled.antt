-- An array of zeros whose front is written over.
use Rattle.std.proofs.Common.{◌≡◌, ℕ, ◌+◌, ◌-◌, ◌≤◌, List, ◌++◌, length, take, drop, replicate, codes, ◌∙◌, ap, sym, arith, length-append}
use Rattle.std.proofs.Math.Seq.{drop-append_seam, take-append_seam}
use Rattle.std.proofs.lemmas.List.{drop-replicate}
use Rattle.std.proofs.lemmas.Slice.{take-put_mid}
use borrow.Rule.Slice.PartMut.{put_mid}

-- past a text that was written over zeros there are zeros
pub drop-written : (front text : List ℕ) → front ≡ text → length text ≤ 64
    → drop (length text) (front ++ drop (length text) (replicate 64 0)) ≡ replicate (64 - length text) 0
drop-written front text same fits =
    rw same (drop-append_seam text (drop (length text) (replicate 64 0)) ∙ drop-replicate (length text) 64 0)

-- a text and then the ending of a name, both written over zeros
pub take-joined : (stem front back : List ℕ) → length stem ≤ 32 → front ≡ stem → back ≡ codes ".bcv"
    → take (length stem + 4) (put_mid (length stem) (length stem + 4 - length stem) (front ++ drop (length stem) (replicate 36 0)) back)
    ≡ stem ++ codes ".bcv"
take-joined stem front back fits same_front same_back =
    let zeros : List ℕ = drop (length stem) (replicate 36 0) in
    let ending : length stem + 4 ≡ length stem + length back = ap (λ (l : List ℕ). length stem + length l) (sym same_back) in
    let room : length stem ≤ length (front ++ zeros) = omega (arith, length-append front zeros, ap length same_front) in
    let cut = take-put_mid (length stem) (length stem + 4 - length stem) (front ++ zeros) back (length stem + 4) ending room in
    cut ∙ rw (same_front, same_back) (ap (λ (l : List ℕ). l ++ codes ".bcv") (take-append_seam stem zeros))
