use Rattle.std.proofs.Common.{◌≡◌, ◌++◌, take}
use Rattle.bcv_script.specs.Lines.{parts_text}
use Rattle.bcv_script.proofs.writing.add_parts.Given as goal

abbrev pub invariant-loop-part : goal.invariant-loop-part
invariant-loop-part l = l.into.items ≡ l.initial.into.items ++ parts_text (take l.part-index l.parts)
