use Rattle.std.proofs.Common.{◌≡◌, length}
use Rattle.bcv_model.specs.Script.{pages_at}
use Rattle.bcv_script.proofs.Pages.{with_front}
use Rattle.bcv_script.proofs.page.pages.Given as goal

abbrev pub invariant-loop-alloc : goal.invariant-loop-alloc
invariant-loop-alloc l = pages_at l.page_size l.initial.words ≡ with_front l.pages.items (pages_at l.page_size l.words)

abbrev pub decreases-loop-alloc : goal.decreases-loop-alloc
decreases-loop-alloc l = length l.words
