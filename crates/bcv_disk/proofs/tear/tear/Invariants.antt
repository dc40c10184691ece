use Rattle.std.proofs.Common.{◌≡◌, ◌+◌, ◌<◌, ◌≤◌, ℕ, length, get_or}
use Rattle.bcv_disk.specs.Record.{torn_byte}
use Rattle.bcv_disk.proofs.tear.tear.Given as goal

abbrev pub invariant-loop-i : goal.invariant-loop-i
invariant-loop-i l =
    (length l.part ≡ length l.initial.part) × ((k : ℕ) → k < l.i → get_or l.part k 0 ≡ torn_byte l.image l.old (l.at + k) (get_or l.initial.part k 0))
    × ((k : ℕ) → l.i ≤ k → get_or l.part k 0 ≡ get_or l.initial.part k 0)
