use Rattle.std.proofs.Common.{rules, arith}
use Rattle.std.proofs.lemmas.Grind.{common_steps}
use Rattle.bcv_script.proofs.Splits.{words_not_ended}
use Rattle.bcv_script.proofs.words.Words.end.Goals as goal

pub returns-in-Some-clause-ended : goal.returns-in-Some-clause-ended
returns-in-Some-clause-ended c = let e = words_not_ended c.in-Some.line.now in grind (arith, common_steps, e, c.self.view_is, c.in-Some.line-is)
