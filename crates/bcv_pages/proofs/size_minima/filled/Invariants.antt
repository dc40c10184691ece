use Rattle.std.proofs.Common.{◌≡◌, ℕ, ◌+◌, ◌-◌, ◌^◌, ◌<◌, ◌≤◌, [], ◌∷◌, ◌++◌, get_or, vec_len, vec_capacity}
use Rattle.bcv_pages.specs.Minima.{IsLeast, held_columns, sizes_of}
use Rattle.bcv_pages.proofs.size_minima.filled.Given as goal

-- the column is filled up to the level
abbrev pub invariant-loop-width : goal.invariant-loop-width
invariant-loop-width l = record {
  length : vec_len l.column ≡ l.level + 1;
  width : l.width ≡ 2 ^ l.level;
  fits : l.width ≤ l.count;
  room : l.count < 2 ^ vec_capacity l.column;
  first : get_or l.column.items 0 0 ≡ l.size;
  least : (j : ℕ) → j ≤ l.level → IsLeast (sizes_of (held_columns l.columns) ++ l.size ∷ []) (l.count - 2 ^ j) l.count (get_or l.column.items j 0);
}

abbrev pub decreases-loop-width : goal.decreases-loop-width
decreases-loop-width l = l.count - l.width
