use Rattle.std.proofs.Common.{rules, arith}
use Rattle.std.proofs.lemmas.Result.{err_from_is_err_and}
use Rattle.bcv_script.proofs.Pages.{pair_took, pair_stopped}
use Rattle.bcv_script.proofs.page.pair.Goals as goal

pub returns-in_err-bytes-clause-value : goal.returns-in_err-bytes-clause-value
returns-in_err-bytes-clause-value c =
    let p = err_from_is_err_and c.from_residual-in_err-bytes.result c.from_residual-in_err-bytes.ensures.1 in
    rw (p.1, p.2) (pair_stopped c.args.page_size c.args.after c.args.words.now c.word.new.self c.in_ok-word.word.now c.in_ok-page.text.now c.in_ok-page.page c.in_ok-word.left c.in_err-bytes.field-0.0 c.in_ok-word.ensures.0 c.in_ok-word.ensures.1 (search rules) c.in_err-bytes.ensures.value)

pub returns-clause-value : goal.returns-clause-value
returns-clause-value c =
    pair_took c.args.page_size c.args.after c.args.words.now c.word.new.self c.in_ok-word.word.now c.in_ok-page.text.now c.in_ok-bytes.bytes.items c.in_ok-page.page c.in_ok-word.left c.in_ok-word.ensures.0 (search rules) c.in_ok-bytes.ensures.value
