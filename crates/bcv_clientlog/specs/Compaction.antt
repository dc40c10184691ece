-- When a log is written anew, and where its notes stand then.
use Rattle.std.specs.Prelude.{◌≡◌, ◌⊎◌, ℕ, ◌+◌, ◌-◌, ◌*◌, ◌^◌, ◌<◌, ◌≤◌}
use Rattle.bcv_journal.specs.Moved.{new_start}

-- Notes from start to tail give way to the fewest that come to what is kept, which take so many bytes, before a note of
-- so many more: the log is long, more than half of it is dead, and there is room before it or after it.
pub record Compacts (start tail size more : ℕ) : Type 0 where
  pub long : 65536 < tail - start
  pub halves : 2 * (size + 1) ≤ tail - start
  pub fits : (18 + size ≤ start) ⊎ (tail + 71 + size + more ≤ 2 ^ 31)

-- where the notes begin and end before the note to come, and how many calls of the disk all take
abbrev pub MovesTo : ℕ → ℕ → ℕ → ℕ → ℕ → ℕ → ℕ → Type 0
MovesTo start tail size more begin end calls =
    (Compacts start tail size more × (begin ≡ new_start size start tail) × (end ≡ begin + size) × (calls ≡ 9))
    ⊎ ((Compacts start tail size more → ⊥) × (begin ≡ start) × (end ≡ tail) × (calls ≡ 4))
