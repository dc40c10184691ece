-- Where the first slot of a number stands.
use Rattle.std.specs.Prelude.{◌≡◌, ◌<◌, ℕ, List, Some, None, length, slice_get}
use Rattle.std.specs.List.{remove}
use Rattle.bcv_slots.specs.declared.Slot.{Slot}
use Rattle.bcv_slots.specs.Numbered.{item_at, without_number}

module _ {T : Type 0} (n : ℕ) (slots : List (Slot T)) where
  -- the first slot of the number stands there
  pub record IsPlaceOf (place : ℕ) : Type 0 where
    pub inside : place < length slots
    pub slot : Slot T
    pub at : slice_get slots place ≡ Some slot
    pub found : item_at n slots ≡ Some slot.item
    pub left : without_number n slots ≡ remove slots place

  -- no slot has the number
  pub record IsNowhere : Type 0 where
    pub none : item_at n slots ≡ None
    pub left : without_number n slots ≡ slots
