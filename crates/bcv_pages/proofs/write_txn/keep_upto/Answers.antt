use Rattle.std.proofs.Common.{ℕ, nat_le, rules}
use Rattle.std.proofs.lemmas.Fn.{filter_same}
use Rattle.bcv_base.specs.Image.{Page}
use Rattle.bcv_pages.proofs.write_txn.keep_upto.Goals as goal

pub returns : goal.returns
returns c = filter_same _ (λ (w : ℕ × Page). nat_le w.0 c.args.size) _ (λ w b f called. search rules) _ _ c.retain.ensures.filtered
