use Rattle.std.proofs.Common.{◌≡◌, false, ◌≤◌, ◌-◌, length}
use Rattle.bcv_commands.proofs.PageCuts.{PagesTaken}
use Rattle.bcv_commands.proofs.pages.read_pages.Given as goal

abbrev pub invariant-pages : goal.invariant-pages
invariant-pages g l = record {
  paged : PagesTaken (g.I.Source.left l.initial.input) (g.I.Source.left l.input) l.header l.front l.page_size l.length l.pages.items;
  unended : g.I.Source.ended l.input ≡ false;
  later : g.I.Source.faults l.initial.input ≤ g.I.Source.faults l.input;
}

abbrev pub decreases-pages : goal.decreases-pages
decreases-pages g l = 268435456 - l.length
