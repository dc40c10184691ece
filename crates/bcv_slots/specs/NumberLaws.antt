-- Laws on numbers: they stay different, and the least free one is free.
use Rattle.std.specs.Prelude.{◌≡◌, ℕ, false, List, [], ◌∷◌, ◌++◌, Some}
use Rattle.bcv_slots.specs.Numbered.{AreDifferent, but_for, has_number, least_free}

abbrev pub DifferWithout : Type 0
DifferWithout = (n : ℕ) (ns : List ℕ) → AreDifferent ns → AreDifferent (but_for n ns)

abbrev pub DifferWith : Type 0
DifferWith = (n : ℕ) (ns : List ℕ) → AreDifferent ns → has_number n ns ≡ false → AreDifferent (ns ++ n ∷ [])

abbrev pub FreeIsNone : Type 0
FreeIsNone = (n : ℕ) (ns : List ℕ) → least_free ns ≡ Some n → has_number n ns ≡ false

-- none of the others is the number
abbrev pub OthersHaveNone : Type 0
OthersHaveNone = (n : ℕ) (ns : List ℕ) → has_number n (but_for n ns) ≡ false
