use Rattle.std.proofs.Common.{◌≡◌, length}
use Rattle.bcv_model.specs.ReplyText.{trimmed}
use Rattle.bcv_script.proofs.writing.trimmed.Given as goal

abbrev pub invariant-loop-last : goal.invariant-loop-last
invariant-loop-last l = trimmed l.bytes ≡ trimmed l.rest

abbrev pub decreases-loop-last : goal.decreases-loop-last
decreases-loop-last l = length l.rest
