use Rattle.std.proofs.Common.{◌≡◌, length}
use Rattle.bcv_model.specs.Script.{pairs_at}
use Rattle.bcv_script.proofs.Pages.{with_front}
use Rattle.bcv_script.proofs.page.pairs.Given as goal

abbrev pub invariant-loop-alloc : goal.invariant-loop-alloc
invariant-loop-alloc l = pairs_at l.page_size 0 l.initial.words ≡ with_front l.pairs.items (pairs_at l.page_size l.after l.words)

abbrev pub decreases-loop-alloc : goal.decreases-loop-alloc
decreases-loop-alloc l = length l.words
