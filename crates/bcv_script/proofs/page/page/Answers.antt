use Rattle.std.proofs.Common.{rules, arith}
use Rattle.bcv_script.proofs.Pages.{page_took}
use Rattle.bcv_script.proofs.page.page.Goals as goal

pub returns : goal.returns
returns c =
    page_took c.args.page_size c.args.words.now c.word.new.self c.in_ok-word.word.now c.in_ok-bytes.bytes.items c.in_ok-padded.field-0 c.in_ok-word.left c.in_ok-word.ensures.0 c.in_ok-bytes.ensures.value c.in_ok-padded.ensures
