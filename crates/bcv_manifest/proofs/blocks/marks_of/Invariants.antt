use Rattle.std.proofs.Common.{◌≡◌, ◌≤◌, true, false, length, get_or, take}
use Rattle.bcv_base.specs.declared.id.Id16.{Id16}
use Rattle.bcv_manifest.specs.Marks.{is_dead_id, place_of_mark}
use Rattle.bcv_manifest.proofs.blocks.marks_of.Given as goal

abbrev pub invariant-loop-entry : goal.invariant-loop-entry
invariant-loop-entry l =
    (1 ≤ l.count) × (length l.marks.items ≡ l.count) × ((i : Id16) → is_dead_id (take l.entry-index l.dead) i ≡ true → get_or l.marks.items (place_of_mark l.count i) false ≡ true)
