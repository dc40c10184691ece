use Rattle.std.proofs.Common.{◌≡◌, ◌++◌, drop}
use Rattle.bcv_dbmap.specs.Merged.{unmarked}
use Rattle.bcv_dbmap.proofs.marks.without_mark.Given as goal

abbrev pub invariant-loop-place : goal.invariant-loop-place
invariant-loop-place l = l.kept.items ++ unmarked (drop l.place l.ids) (drop l.place l.marks) ≡ unmarked l.ids l.marks
