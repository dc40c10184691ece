use Rattle.std.proofs.Common.{not, rules}
use Rattle.std.proofs.lemmas.Fn.{filter_same}
use Rattle.bcv_slots.specs.declared.Slot.{Slot}
use Rattle.bcv_client.specs.Transactions.{is_fetch_for}
use Rattle.bcv_client.specs.declared.job.Job.{Job}
use Rattle.bcv_client.proofs.reading.drop_fetches.Goals as goal

pub returns : goal.returns
returns c = filter_same _ (λ (s : Slot Job). not (is_fetch_for c.args.txn s.item)) _ (λ x r f' k. search rules) _ _ c.retain.ensures.filtered
