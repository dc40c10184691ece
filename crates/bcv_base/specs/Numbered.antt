-- Names that are numbers.
use Rattle.std.specs.Prelude.{ℕ, List, map, Some}
use Rattle.std.specs.Int.{w128, to_be_bytes}
use Rattle.std.specs.List.{range_with_len}
use Rattle.bcv_base.specs.declared.id.Id16.{Id16}
use Rattle.bcv_base.specs.Drawn.{NamesShown}

-- how many names a counter gave, and how often it failed
pub record Counter : Type 0 where
  pub count : ℕ
  pub faults : ℕ

-- the n-th name: n as 16 bytes, the highest first
abbrev pub numbered : ℕ → Id16
numbered n = record { 0 = to_be_bytes w128 n }

-- the first n names
abbrev pub numbered_names : ℕ → List Id16
numbered_names n = map numbered (range_with_len 1 n)

-- what a counter shows: the names that it gave, and how often it failed
abbrev pub counted : Counter → NamesShown
counted c = record { drawn = Some (numbered_names c.count); faults = c.faults }
