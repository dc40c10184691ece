-- What the parts of a crash promise.
use Rattle.std.specs.Prelude.{◌≡◌, ℕ, zero, suc, ◌+◌, ◌<◌, ◌≤◌, Bool, true, false, List, [], ◌∷◌, ◌++◌, length, take, drop, nat_lt, reverse, if◌then◌else◌}
use Rattle.std.specs.List.{AllByRecursion}
use Rattle.bcv_disk.specs.Crash.{put}
use Rattle.bcv_disk.specs.Inside.{greatest}
use Rattle.bcv_disk.specs.Record.{image_of, filled}
use Rattle.bcv_disk.specs.declared.platter.Act.{Act}
use Rattle.bcv_disk.specs.declared.platter.Act.TheVariants.{Wrote, CutTo, Synced, Crashed}

-- a write or a cut
abbrev pub IsChange : Act → Type 0
IsChange (Wrote idle at bytes) = Unit {0}
IsChange (CutTo idle len) = Unit {0}
IsChange (Synced idle) = ⊥
IsChange (Crashed idle image) = ⊥

-- the bytes before a call, from those after it and what it took away
abbrev pub undone : Act → List ℕ → List ℕ → List ℕ
undone (Wrote idle at bytes) over after = if nat_lt (length over) (length bytes) then take (at + length over) (put after at over) else put after at over
undone (CutTo idle len) over after = after ++ over
undone (Synced idle) over after = after
undone (Crashed idle image) over after = after

-- there is room for what the call took away
abbrev pub HoldsFirst : Act → List ℕ → List ℕ → ℕ → Type 0
HoldsFirst (Wrote idle at bytes) over after capacity = at + length over ≤ length after
HoldsFirst (CutTo idle len) over after capacity = length after + length over ≤ capacity
HoldsFirst (Synced idle) over after capacity = Unit {0}
HoldsFirst (Crashed idle image) over after capacity = Unit {0}

-- the calls from this place on are writes and cuts since the last sync, and the bytes are those before them
pub record UndoneTo (acts : List Act) (first : ℕ) (bytes : List ℕ) : Type 0 where
  pub within : first ≤ length acts
  pub changes : AllByRecursion IsChange (drop first acts)
  pub bytes_are : (n : ℕ) → bytes ≡ image_of (reverse (take first acts)) n
  pub old_are : bytes ≡ image_of (reverse acts) 0
  pub short : length bytes ≤ greatest (reverse acts)

-- the bytes after a call that is made again with the bytes that an image has
abbrev pub redone : ℕ → List ℕ → Act → List ℕ → List ℕ
redone image old (Wrote idle at bytes) before = put before at (filled image old at bytes)
redone image old (CutTo idle len) before = take len before
redone image old (Synced idle) before = before
redone image old (Crashed idle n) before = before

-- the write begins within the bytes, and there is room for it
abbrev pub HasPlace : Act → List ℕ → ℕ → Type 0
HasPlace (Wrote idle at bytes) before capacity = (at ≤ length before) × (at + length bytes ≤ capacity)
HasPlace (CutTo idle len) before capacity = Unit {0}
HasPlace (Synced idle) before capacity = Unit {0}
HasPlace (Crashed idle n) before capacity = Unit {0}
