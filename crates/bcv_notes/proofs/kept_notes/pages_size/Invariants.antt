use Rattle.std.proofs.Common.{◌≡◌, ◌+◌, ◌-◌, ◌^◌, ◌<◌, length, min}
use Rattle.bcv_model.specs.Notes.{pages_size}
use Rattle.bcv_notes.proofs.kept_notes.pages_size.Given as goal

abbrev pub invariant-loop-page : goal.invariant-loop-page
invariant-loop-page l =
    (l.size < 2 ^ 64) × (min (l.size + pages_size l.rest) (2 ^ 64 - 1) ≡ min (pages_size l.pages) (2 ^ 64 - 1))

abbrev pub decreases-loop-page : goal.decreases-loop-page
decreases-loop-page l = length l.rest
