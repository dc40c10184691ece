-- The least of the sizes of commits that stand one after another.
use Rattle.std.specs.Prelude.{◌≡◌, ℕ, Bool, ◌+◌, ◌-◌, ◌^◌, ◌<◌, ◌≤◌, List, [], length, map, slice_index, slice_index_or, Option, is_some, vec_capacity}
use Rattle.std.specs.Global.{Vec}
use Rattle.std.specs.Option.{IfSome}

-- the sizes, oldest first, and whether there is room for one more
pub record Minima : Type 0 where
  pub sizes : List ℕ
  pub ready : Bool

-- the number is the least of the sizes from place `start` to before place `end`
pub record IsLeast (sizes : List ℕ) (start end least : ℕ) : Type 0 where
  pub below : (k : ℕ) → start ≤ k → k < end → least ≤ slice_index sizes k
  pub greatest : (n : ℕ) → ((k : ℕ) → start ≤ k → k < end → n ≤ slice_index sizes k) → n ≤ least

-- entry j of a column is the least of the last 2^j of the first `count` sizes, where there are so many
abbrev pub IsColumn : List ℕ → ℕ → List ℕ → Type 0
IsColumn sizes count column = (j : ℕ) → 2 ^ j ≤ count → (j < length column) × IsLeast sizes (count - 2 ^ j) count (slice_index column j)

-- the sizes of which these are the columns
abbrev pub sizes_of : List (List ℕ) → List ℕ
sizes_of columns = map (λ column. slice_index column 0) columns

-- each is the column of the sizes up to its own
abbrev pub are_columns : List (List ℕ) → Type 0
are_columns columns = (k : ℕ) → k < length columns → IsColumn (sizes_of columns) (k + 1) (slice_index_or columns k [])

-- what the columns hold, without their memory
abbrev pub held_columns : List (Vec ℕ) → List (List ℕ)
held_columns columns = map (λ column. column.items) columns

-- what is held in these fields
abbrev pub minima_of : List (Vec ℕ) → Option (Vec ℕ) → Minima
minima_of columns next = record { sizes = sizes_of (held_columns columns); ready = is_some next }

-- the memory of one more column, empty and long enough for it
pub record HasRoom (len capacity : ℕ) (next : Vec ℕ) : Type 0 where
  pub empty : next.items ≡ []
  pub place : len < capacity
  pub levels : len + 1 < 2 ^ vec_capacity next

-- what is true of all minima: the columns are as they should be, and what is ready has room
pub record IsMinima (columns : List (Vec ℕ)) (len capacity : ℕ) (next : Option (Vec ℕ)) : Type 0 where
  pub columns_are : are_columns (held_columns columns)
  pub room : IfSome next (HasRoom len capacity)
