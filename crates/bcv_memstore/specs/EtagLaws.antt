-- Etags that are the numbers of their entries rise.
use Rattle.std.proofs.Common.{◌≡◌, ◌∙◌, ℕ, ◌+◌, ◌<◌, ◌≤◌, Bool, true, false, ◌&&◌, List, [], ◌∷◌, ◌++◌, length, nat_lt, if◌then◌else◌, refl, ap, subst, arith, eqb-true}
use Rattle.std.proofs.lemmas.Bool.Decides.{Decides-ltb}
use Rattle.std.specs.Cmp.{first_so, second_so}
use Rattle.std.specs.List.{list_all}
use Rattle.bcv_base.specs.declared.object.ObjName.{ObjName}
use Rattle.bcv_base.specs.declared.log.Entry.{Entry}
use Rattle.bcv_base.specs.declared.log.Entry.TheVariants as entry
use Rattle.bcv_base.specs.Log.{name_eq, rises_over, may_follow, are_rising}
use Rattle.bcv_memstore.specs.Etags.{is_numbered, are_numbered}

both : (a b : Bool) → a ≡ true → b ≡ true → (a && b) ≡ true
both a b g h = ap (λ (x : Bool). x && b) g ∙ h

below : (b : Bool) (x y : ℕ) → x < y → (if b then nat_lt x y else true) ≡ true
below true x y h = (Decides-ltb x y).1 h
below false x y h = refl

-- the puts of entries with higher numbers stand above an etag
above_all : (own : Bool) (name : ObjName) (bytes : List ℕ) (etag before : ℕ) (es : List Entry) → etag ≤ before → are_numbered before es ≡ true
    → list_all (rises_over (entry.Put own name bytes etag)) es ≡ true
above_all own name bytes etag before [] low h = refl
above_all own name bytes etag before (entry.Put mine other more later ∷ es) low h =
    let numbered : later ≡ before + 1 = eqb-true _ _ (first_so _ _ h) in
    both _ _ (below (name_eq name other) etag later (omega arith)) (above_all own name bytes etag (before + 1) es (omega arith) (second_so _ _ h))
above_all own name bytes etag before (entry.Deleted mine other at ∷ es) low h = above_all own name bytes etag (before + 1) es (omega arith) h

-- behind a deletion anything may come
free_all : (own : Bool) (name : ObjName) (at : ℕ) (es : List Entry) → list_all (rises_over (entry.Deleted own name at)) es ≡ true
free_all own name at [] = refl
free_all own name at (e ∷ es) = free_all own name at es

-- etags that are the numbers of their entries rise
pub rising_numbered : (before : ℕ) (log : List Entry) → are_numbered before log ≡ true → are_rising log ≡ true
rising_numbered before [] h = refl
rising_numbered before (entry.Put own name bytes etag ∷ es) h =
    let numbered : etag ≡ before + 1 = eqb-true _ _ (first_so _ _ h) in
    both _ _ (above_all own name bytes etag (before + 1) es (omega arith) (second_so _ _ h)) (rising_numbered (before + 1) es (second_so _ _ h))
rising_numbered before (entry.Deleted own name at ∷ es) h = both _ _ (free_all own name at es) (rising_numbered (before + 1) es h)

-- one more entry with its number
pub numbered_more : (before : ℕ) (log : List Entry) (e : Entry) → are_numbered before log ≡ true → is_numbered (before + length log + 1) e ≡ true
    → are_numbered before (log ++ e ∷ []) ≡ true
numbered_more before [] e h one = both _ _ (subst (λ (n : ℕ). is_numbered n e ≡ true) (omega arith) one) refl
numbered_more before (first ∷ es) e h one =
    both _ _ (first_so _ _ h) (numbered_more (before + 1) es e (second_so _ _ h) (subst (λ (n : ℕ). is_numbered n e ≡ true) (omega arith) one))

-- a put with a number above all others may follow
pub follows_numbered : (before : ℕ) (log : List Entry) (own : Bool) (name : ObjName) (bytes : List ℕ) (etag : ℕ) → are_numbered before log ≡ true → before + length log < etag
    → may_follow log (entry.Put own name bytes etag) ≡ true
follows_numbered before [] own name bytes etag h high = refl
follows_numbered before (entry.Put mine other more earlier ∷ es) own name bytes etag h high =
    let numbered : earlier ≡ before + 1 = eqb-true _ _ (first_so _ _ h) in
    both _ _ (below (name_eq other name) earlier etag (omega arith)) (follows_numbered (before + 1) es own name bytes etag (second_so _ _ h) (omega arith))
follows_numbered before (entry.Deleted mine other at ∷ es) own name bytes etag h high = follows_numbered (before + 1) es own name bytes etag h (omega arith)

-- one more entry with its number, or none
pub numbered_if : (more : Bool) (log later : List Entry) (e : Entry) → later ≡ (if more then log ++ e ∷ [] else log) → are_numbered 0 log ≡ true
    → is_numbered (length log + 1) e ≡ true → are_numbered 0 later ≡ true
numbered_if true log later e is h one = ap (are_numbered 0) is ∙ numbered_more 0 log e h (subst (λ (n : ℕ). is_numbered n e ≡ true) (omega arith) one)
numbered_if false log later e is h one = ap (are_numbered 0) is ∙ h
