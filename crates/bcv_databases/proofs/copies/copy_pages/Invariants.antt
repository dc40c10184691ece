use Rattle.std.proofs.Common.{◌≡◌, take}
use Rattle.bcv_databases.proofs.copies.copy_pages.Given as goal

abbrev pub invariant-loop-number : goal.invariant-loop-number
invariant-loop-number l = l.copies.items ≡ take l.number-index l.pages
