-- What a list of numbered items holds, by their numbers.
use Rattle.std.specs.Prelude.{◌≡◌, ℕ, ◌+◌, ◌==◌, Bool, false, not, List, [], ◌∷◌, length, map, find, filter, Option, if◌then◌else◌}
use Rattle.std.specs.List.{list_any, range_with_len}
use Rattle.std.specs.Option.{option_map}
use Rattle.bcv_slots.specs.declared.Slot.{Slot}

-- ---- numbers

abbrev pub has_number : ℕ → List ℕ → Bool
has_number n ns = list_any (λ x. x == n) ns

-- the least number from 1 that is none of these
abbrev pub least_free : List ℕ → Option ℕ
least_free ns = find (λ k. not (has_number k ns)) (range_with_len 1 (length ns + 1))

-- no two of these are the same
abbrev pub AreDifferent : List ℕ → Type 0
AreDifferent [] = Unit {0}
AreDifferent (n ∷ ns) = (has_number n ns ≡ false) × AreDifferent ns

-- the numbers but for one
abbrev pub but_for : ℕ → List ℕ → List ℕ
but_for n ns = filter (λ k. not (k == n)) ns

-- ---- slots

-- the numbers of all slots, in order
abbrev pub numbers_of : {T : Type 0} → List (Slot T) → List ℕ
numbers_of {T} slots = map (λ (s : Slot T). s.number) slots

-- the item of the first slot of a number
abbrev pub item_at : {T : Type 0} → ℕ → List (Slot T) → Option T
item_at {T} n slots = option_map (λ (s : Slot T). s.item) (find (λ (s : Slot T). s.number == n) slots)

-- all slots but those of a number, in order
abbrev pub other_slots : {T : Type 0} → ℕ → List (Slot T) → List (Slot T)
other_slots {T} n slots = filter (λ (s : Slot T). not (s.number == n)) slots

-- the slots without the first one of a number, in order
abbrev pub without_number : {T : Type 0} → ℕ → List (Slot T) → List (Slot T)
without_number n [] = []
without_number n (s ∷ ss) = if s.number == n then ss else s ∷ without_number n ss
