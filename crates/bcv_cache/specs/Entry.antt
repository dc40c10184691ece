-- What contracts see of a cache and of a pin.
use Rattle.std.specs.Prelude.{ℕ, List}
use Rattle.bcv_base.specs.declared.id.Id16.{Id16}

-- a cached block: its slot, its name, how many pins it has, and its bytes
pub record Entry : Type 0 where
  pub slot : ℕ
  pub id : Id16
  pub count : ℕ
  pub bytes : List ℕ

-- the entries, the most recently found or filled first, with how many there may be and the length of a block
pub record Blocks : Type 0 where
  pub entries : List Entry
  pub most : ℕ
  pub block : ℕ

-- what a pin holds: the entry of this slot and this name
pub record Pinned : Type 0 where
  pub slot : ℕ
  pub id : Id16
