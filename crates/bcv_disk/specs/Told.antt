-- A disk in memory keeps the laws of a disk that tells its bytes.
use Rattle.std.proofs.Common.{◌≡◌, ◌⊎◌, inl, inr, ℕ, zero, suc, Bool, true, false, if◌then◌else◌, ◌+◌, ◌-◌, ◌<◌, ◌≤◌, min, List, [], ◌∷◌, ◌++◌, length, take, drop, refl, arith, ⊎_elim, sym, ◌∙◌, ap, subst}
use Rattle.std.proofs.lemmas.Bool.{cases_lt}
use Rattle.std.proofs.lemmas.List.{length-append, length-take, length-drop, take_at, drop_at, drop_all, take-take, take_all, append_assoc}
use Rattle.bcv_disk.specs.Crash.{put, Torn, Shortened, Passes}
use Rattle.bcv_disk.specs.DiskShown.{DiskShown}
use Rattle.bcv_disk.specs.Record.{content, filled, idle_before, image_of, is_unsynced, Leaves, LeftSince, moment_of, torn_bytes}
use Rattle.bcv_disk.specs.declared.platter.Act.{Act}
use Rattle.bcv_disk.specs.declared.platter.Act.TheVariants.{Wrote, CutTo, Synced, Crashed}

-- what stands after a write stays
pub behind : (old : List ℕ) (at : ℕ) (bytes : List ℕ) → (length old < at) ⊎ (at ≤ length old) → drop (at + length bytes) (put old at bytes) ≡ drop (at + length bytes) old
behind old at bytes (inl past) =
    let none : drop (at + length bytes) old ≡ [] = drop_all (at + length bytes) old (omega arith) in
    ap (λ (l : List ℕ). drop (at + length bytes) (take at old ++ bytes ++ l)) none
    ∙ drop_all (at + length bytes) (take at old ++ bytes ++ []) (omega (arith, length-append (take at old ++ bytes) [], length-append (take at old) bytes, length-take at old))
    ∙ sym none
behind old at bytes (inr within) =
    drop_at (take at old ++ bytes) (drop (at + length bytes) old) (at + length bytes) (omega (arith, length-append (take at old) bytes, length-take at old))

pub length-put : (old : List ℕ) (at : ℕ) (bytes : List ℕ) → length (put old at bytes) ≡ min at (length old) + length bytes + (length old - (at + length bytes))
length-put old at bytes =
    length-append (take at old ++ bytes) (drop (at + length bytes) old)
    ∙ (λ i. length-append (take at old) bytes i + length-drop (at + length bytes) old i)
    ∙ ap (λ n. n + length bytes + (length old - (at + length bytes))) (length-take at old)

-- a write that is whole is one of the outcomes of a torn one
pub put_is_torn : (old : List ℕ) (at : ℕ) (bytes : List ℕ) → Torn at (length bytes) old (put old at bytes)
put_is_torn old at bytes = record {
  before =
      ap (λ (l : List ℕ). take (min at (length old)) l) (append_assoc (take at old) bytes (drop (at + length bytes) old))
      ∙ take_at (take at old) (bytes ++ drop (at + length bytes) old) (min at (length old)) (length-take at old);
  after = behind old at bytes (cases_lt (length old) at);
  no_shorter = omega (arith, length-put old at bytes);
  no_longer = omega (arith, length-put old at bytes);
}

cut_is_short : (old : List ℕ) (n : ℕ) → Shortened n old (take n old)
cut_is_short old n = record { before = take-take n n old (omega arith); no_shorter = omega (arith, length-take n old); no_longer = omega (arith, length-take n old) }

-- bytes that change nothing, of any range
pub torn_same : (old : List ℕ) (at n : ℕ) → Torn at n old old
torn_same old at n = record {
  before = torn_front old at (cases_lt (length old) at);
  after = refl;
  no_shorter = omega arith;
  no_longer = omega arith;
}
  where
    torn_front : (l : List ℕ) (k : ℕ) → (length l < k) ⊎ (k ≤ length l) → take (min k (length l)) l ≡ take k l
    torn_front l k (inl past) = ap (λ (n : ℕ). take n l) (omega arith) ∙ take_all (length l) l (omega arith) ∙ sym (take_all k l (omega arith))
    torn_front l k (inr within) = ap (λ (n : ℕ). take n l) (omega arith)

-- a write of any bytes of that number is one of the outcomes of a torn one
put_as_torn : (old : List ℕ) (at n : ℕ) (bytes : List ℕ) → length bytes ≡ n → Torn at n old (put old at bytes)
put_as_torn old at n bytes long = subst (λ (k : ℕ). Torn at k old (put old at bytes)) long (put_is_torn old at bytes)

pub cut_same : (old : List ℕ) (n : ℕ) → Shortened n old old
cut_same old n = record { before = refl; no_shorter = omega arith; no_longer = omega arith }

pub length-torn_bytes : (image : ℕ) (old : List ℕ) (place : ℕ) (bytes : List ℕ) → length (torn_bytes image old place bytes) ≡ length bytes
length-torn_bytes image old place [] = refl
length-torn_bytes image old place (byte ∷ bytes) = ap suc (length-torn_bytes image old (suc place) bytes)

pub length-filled : (n : ℕ) (old : List ℕ) (place : ℕ) (bytes : List ℕ) → length (filled n old place bytes) ≡ length bytes
length-filled zero old place bytes = refl
length-filled (suc zero) old place bytes = refl
length-filled (suc (suc n)) old place bytes = length-torn_bytes (suc (suc n)) old place bytes

-- each image is one that a crash may leave
pub leaves_image : (acts : List Act) (n : ℕ) → Leaves acts (image_of acts n)
leaves_image [] n = refl
leaves_image (Wrote idle at bytes ∷ past) zero = (image_of past zero, leaves_image past zero, torn_same (image_of past zero) at (length bytes))
leaves_image (Wrote idle at bytes ∷ past) (suc n) =
    (image_of past (suc n), leaves_image past (suc n), put_as_torn (image_of past (suc n)) at (length bytes) (filled (suc n) (image_of past zero) at bytes) (length-filled (suc n) (image_of past zero) at bytes))
leaves_image (CutTo idle len ∷ past) zero = (image_of past zero, leaves_image past zero, cut_same (image_of past zero) len)
leaves_image (CutTo idle len ∷ past) (suc n) = (image_of past (suc n), leaves_image past (suc n), cut_is_short (image_of past (suc n)) len)
leaves_image (Synced idle ∷ past) n = refl
leaves_image (Crashed idle image ∷ past) n = refl

pub stands_now : (acts : List Act) → Leaves acts (content acts)
stands_now acts = leaves_image acts 1

pub counts_then : (idle : ℕ) (acts : List Act) (t : ℕ) (image : List ℕ) → t ≤ moment_of idle acts → Leaves acts image → LeftSince idle acts t image
counts_then idle [] t image le left = (le, left)
counts_then idle (act ∷ past) t image le left = inl (le, left)

-- nothing is told since a moment that has not come
not_yet : (idle : ℕ) (acts : List Act) (t : ℕ) (image : List ℕ) → LeftSince idle acts t image → t ≤ moment_of idle acts
not_yet idle [] t image left = left.0
not_yet idle (act ∷ past) t image (inl now) = now.0
not_yet idle (act ∷ past) t image (inr earlier) = omega (arith, not_yet (idle_before act) past t image earlier)

pub only_then : (idle : ℕ) (acts : List Act) (image : List ℕ) → LeftSince idle acts (moment_of idle acts) image → Leaves acts image
only_then idle [] image left = left.1
only_then idle (act ∷ past) image (inl now) = now.1
only_then idle (act ∷ past) image (inr earlier) = absurd (omega (arith, not_yet (idle_before act) past (moment_of idle (act ∷ past)) image earlier))
