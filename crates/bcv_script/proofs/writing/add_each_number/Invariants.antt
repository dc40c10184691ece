use Rattle.std.proofs.Common.{◌≡◌, ◌++◌, take}
use Rattle.bcv_model.specs.ReplyText.{numbers_text}
use Rattle.bcv_script.proofs.writing.add_each_number.Given as goal

abbrev pub invariant-loop-number : goal.invariant-loop-number
invariant-loop-number l = l.into.items ≡ l.initial.into.items ++ numbers_text (take l.number-index l.numbers)
