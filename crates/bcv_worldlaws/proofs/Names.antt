-- Names that are mine, and names that are apart.
use Rattle.std.proofs.Common.{◌≡◌, ◌∙◌, ◌⊎◌, inl, inr, true, false, List, [], ◌∷◌, ◌++◌, sym, subst}
use Rattle.std.proofs.lemmas.List.Folds.{list_any-append}
use Rattle.bcv_base.specs.declared.id.Id16.{Id16}
use Rattle.bcv_base.specs.HistoryLaws.{has_id-first, has_id-later, id_eq-is}
use Rattle.bcv_base.specs.Ids.{has_id, id_eq}
use Rattle.bcv_clientlaws.specs.OtherParts.{Includes}
use Rattle.bcv_dbmap.specs.Honest.{AreApart}
use Rattle.bcv_dbmap.proofs.Bools.{not_both, not_passed, or_cases}

-- an id of two lists of ids is one of either
pub of_either : (a b : List Id16) (i : Id16) → has_id i (a ++ b) ≡ true → (has_id i a ≡ true) ⊎ (has_id i b ≡ true)
of_either a b i h = or_cases (has_id i a) (has_id i b) (sym (list_any-append (λ x. id_eq x i) a b) ∙ h)

-- ---- names that are mine

pub none_mine : (mine : List Id16) → Includes mine []
none_mine mine i h = absurd (let no_one : false ≡ true = h in cc)

pub one_mine : (mine : List Id16) (j : Id16) (is : List Id16) → has_id j mine ≡ true → Includes mine is → Includes mine (j ∷ is)
one_mine mine j is first rest i h = by (or_cases (id_eq j i) (has_id i is) h)
  where
    by : (id_eq j i ≡ true) ⊎ (has_id i is ≡ true) → has_id i mine ≡ true
    by (inl same) = subst (λ (x : Id16). has_id x mine ≡ true) (id_eq-is j i same) first
    by (inr later) = rest i later

pub both_mine : (mine a b : List Id16) → Includes mine a → Includes mine b → Includes mine (a ++ b)
both_mine mine a b front rest i h = by (of_either a b i h)
  where
    by : (has_id i a ≡ true) ⊎ (has_id i b ≡ true) → has_id i mine ≡ true
    by (inl g) = front i g
    by (inr g) = rest i g

-- what is not mine is none of fewer names
pub not_among : (mine less : List Id16) (i : Id16) → Includes mine less → has_id i mine ≡ false → has_id i less ≡ false
not_among mine less i all no_one = not_passed (has_id i less) (λ h. not_both (has_id i mine) (all i h) no_one)

-- ---- names that are apart

pub apart_turned : (a b : List Id16) → AreApart a b → AreApart b a
apart_turned a b apart i h = not_passed (has_id i a) (λ g. not_both (has_id i b) h (apart i g))

pub less_apart : (a less theirs : List Id16) → Includes a less → AreApart a theirs → AreApart less theirs
less_apart a less theirs all apart i h = apart i (all i h)

pub both_apart : (a b theirs : List Id16) → AreApart a theirs → AreApart b theirs → AreApart (a ++ b) theirs
both_apart a b theirs here there i h = by (of_either a b i h)
  where
    by : (has_id i a ≡ true) ⊎ (has_id i b ≡ true) → has_id i theirs ≡ false
    by (inl g) = here i g
    by (inr g) = there i g

-- the first of some ids is apart, and so are the others
pub first_apart : (j : Id16) (is theirs : List Id16) → AreApart (j ∷ is) theirs → has_id j theirs ≡ false
first_apart j is theirs apart = apart j (has_id-first j is)

pub rest_apart : (j : Id16) (is theirs : List Id16) → AreApart (j ∷ is) theirs → AreApart is theirs
rest_apart j is theirs apart i h = apart i (has_id-later i j is h)
