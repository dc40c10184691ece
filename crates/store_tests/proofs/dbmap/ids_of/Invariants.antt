use Rattle.std.proofs.Common.{◌≡◌, length}
use Rattle.std.specs.List.{AllByRecursion}
use Rattle.bcv_base.specs.Ids.{IsId}
use Rattle.store_tests.proofs.dbmap.ids_of.Given as goal

abbrev pub invariant-loop-number : goal.invariant-loop-number
invariant-loop-number l = AllByRecursion IsId l.ids.items × (length l.ids.items ≡ l.number)
