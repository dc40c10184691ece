-- What a record keeps of its older part.
use Rattle.std.proofs.Common.{◌≡◌, ℕ, zero, suc, ◌+◌, ◌-◌, ◌≤◌, min, max, List, [], ◌∷◌, ◌++◌, length, get_or, take, reverse, refl, sym, ap, ◌∙◌, subst, arith}
use Rattle.std.proofs.lemmas.List.{reverse-append, length-take, take_all, take_more}
use Rattle.bcv_disk.specs.Inside.{IsLawful, greatest, saved_of}
use Rattle.bcv_disk.specs.Record.{content, filled, image_of}
use Rattle.bcv_disk.specs.Told.{length-filled, length-put}
use Rattle.bcv_disk.specs.declared.platter.Act.{Act}
use Rattle.bcv_disk.specs.declared.platter.Act.TheVariants.{Wrote, CutTo, Synced, Crashed}

pub IsLawful-older : (xs ys : List Act) → IsLawful (xs ++ ys) → IsLawful ys
IsLawful-older [] ys law = law
IsLawful-older (Wrote idle at bytes ∷ xs) ys law = IsLawful-older xs ys law.1
IsLawful-older (CutTo idle len ∷ xs) ys law = IsLawful-older xs ys law
IsLawful-older (Synced idle ∷ xs) ys law = IsLawful-older xs ys law
IsLawful-older (Crashed idle image ∷ xs) ys law = IsLawful-older xs ys law

pub greatest-older : (xs ys : List Act) → greatest ys ≤ greatest (xs ++ ys)
greatest-older [] ys = omega arith
greatest-older (x ∷ xs) ys = omega (arith, greatest-older xs ys)

pub content-greatest : (acts : List Act) → length (content acts) ≤ greatest acts
content-greatest [] = omega arith
content-greatest (act ∷ past) = omega arith

pub reverse_push : (xs : List Act) (act : Act) → reverse (xs ++ act ∷ []) ≡ act ∷ reverse xs
reverse_push xs act = reverse-append xs (act ∷ [])

-- each image but the first is as long as what a read gives
pub length-image : (acts : List Act) (n : ℕ) → length (image_of acts (suc n)) ≡ length (content acts)
length-image [] n = refl
length-image (Wrote idle at bytes ∷ past) n =
    omega (
      arith,
      length-put (image_of past (suc n)) at (filled (suc n) (image_of past zero) at bytes),
      length-filled (suc n) (image_of past zero) at bytes,
      length-image past n,
      length-put (content past) at bytes,
    )
length-image (CutTo idle len ∷ past) n = omega (arith, length-take len (image_of past (suc n)), length-take len (content past), length-image past n)
length-image (Synced idle ∷ past) n = refl
length-image (Crashed idle image ∷ past) n = refl

-- where nothing is unsynced, each image is what a read gives
pub at_sync : (acts : List Act) → saved_of acts ≡ [] → (n : ℕ) → content acts ≡ image_of acts n
at_sync [] none n = refl
at_sync (Wrote idle at bytes ∷ past) none n = absurd (cc none)
at_sync (CutTo idle len ∷ past) none n = absurd (cc none)
at_sync (Synced idle ∷ past) none n = refl
at_sync (Crashed idle image ∷ past) none n = refl

-- a list that ends with this call
pub last_split : (rest : List Act) (act : Act) → 1 ≤ length rest → act ≡ get_or rest (length rest - 1) act → rest ≡ take (length rest - 1) rest ++ act ∷ []
last_split rest act some is =
    sym (take_all (length rest) rest (omega arith)) ∙ ap (λ (n : ℕ). take n rest) (omega (arith, some)) ∙ take_more rest (length rest - 1) act (omega (arith, some))
    ∙ ap (λ (x : Act). take (length rest - 1) rest ++ x ∷ []) (sym is)
