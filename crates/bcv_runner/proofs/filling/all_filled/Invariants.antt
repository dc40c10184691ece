use Rattle.std.proofs.Common.{◌≡◌, ℕ, List, map}
use Rattle.bcv_base.specs.Padded.{padded}
use Rattle.bcv_runner.proofs.filling.all_filled.Given as goal

abbrev pub invariant-loop-page : goal.invariant-loop-page
invariant-loop-page l = l.whole.items ≡ map (λ (p : ℕ × List ℕ). (p.0, padded l.page_size p.1)) l.yielded
