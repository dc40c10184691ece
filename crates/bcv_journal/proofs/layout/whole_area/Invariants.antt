use Rattle.std.proofs.Common.{◌≡◌, ◌++◌, length}
use Rattle.std.specs.List.{AllByRecursion}
use Rattle.bcv_journal.specs.Layout.{IsItem, area_of}
use Rattle.bcv_journal.specs.Settled.{items_of}
use Rattle.bcv_journal.proofs.layout.whole_area.Given as goal

abbrev pub invariant-loop-rest : goal.invariant-loop-rest
invariant-loop-rest l =
    (l.bytes.items ++ area_of (items_of l.rest) ≡ area_of (items_of l.items)) × AllByRecursion IsItem (items_of l.rest)

abbrev pub decreases-loop-rest : goal.decreases-loop-rest
decreases-loop-rest l = length l.rest
