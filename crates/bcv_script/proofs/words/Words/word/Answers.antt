use Rattle.std.proofs.Common.{◌==◌, arith}
use Rattle.std.proofs.lemmas.Grind.{common_steps}
use Rattle.bcv_script.proofs.Splits.{slice_split-some, slice_split-none, words_bytes}
use Rattle.bcv_script.proofs.words.Words.word.Goals as goal

pub returns-in-Some : goal.returns-in-Some
returns-in-Some c =
    let split = slice_split-some (λ b. b == 32) c.in_ok-line.line.now c.in-Some.end c.in-Some.ensures in
    grind (arith, common_steps, split, c.self.view_is, c.in_ok-line.was, words_bytes c.in_ok-line.line.now)

pub returns-in-None : goal.returns-in-None
returns-in-None c =
    let split = slice_split-none (λ b. b == 32) c.in_ok-line.line.now c.in-None.ensures in
    grind (arith, common_steps, split, c.self.view_is, c.in_ok-line.was, words_bytes c.in_ok-line.line.now)
