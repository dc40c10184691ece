use Rattle.std.proofs.Common.{◌≡◌, rules, arith, subst, sym}
use Rattle.std.proofs.lemmas.Grind.{common_steps}
use Rattle.bcv_model.specs.Words.{words_of}
use Rattle.bcv_script.specs.Left.{HasMore}
use Rattle.bcv_script.proofs.Splits.{words_more}
use Rattle.bcv_script.proofs.words.Words.is_empty.Goals as goal

pub returns-in-Some-clause-no : goal.returns-in-Some-clause-no
returns-in-Some-clause-no c =
    let e : c.args.self.now ≡ words_of c.in-Some.field-0.now = grind (arith, common_steps, c.self.view_is, c.in-Some.is) in
    λ _. subst HasMore (sym e) (words_more c.in-Some.field-0.now)
