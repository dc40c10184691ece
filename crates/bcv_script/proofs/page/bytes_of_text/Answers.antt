use Rattle.std.proofs.Common.{rules, refl, arith}
use Rattle.bcv_script.proofs.Hex.{text-unfit, text-other}
use Rattle.bcv_script.proofs.page.bytes_of_text.Goals as goal

pub returns-then-count-page_size-clause-value : goal.returns-then-count-page_size-clause-value
returns-then-count-page_size-clause-value c = let e = text-unfit c.args.page_size c.args.text.now (search rules) (λ low high. omega arith) in rw e refl

pub returns-then-not-all_lower_hex-clause-value : goal.returns-then-not-all_lower_hex-clause-value
returns-then-not-all_lower_hex-clause-value c = let e = text-other c.args.page_size c.args.text.now (search rules) (search rules) in rw e refl
