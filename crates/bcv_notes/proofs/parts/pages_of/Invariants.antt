use Rattle.std.proofs.Common.{◌≡◌, ◌-◌}
use Rattle.bcv_notes.specs.NoteGrammar.{pages_at}
use Rattle.bcv_notes.proofs.Pages.{with_front}
use Rattle.bcv_notes.proofs.parts.pages_of.Given as goal

abbrev pub invariant-loop : goal.invariant-loop
invariant-loop l = with_front l.pages.items (pages_at l.page_size l.most (l.count - l.counter) l.before l.rest) ≡ pages_at l.page_size l.most l.count 0 l.bytes
