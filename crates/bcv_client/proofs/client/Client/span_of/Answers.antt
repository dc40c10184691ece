use Rattle.std.proofs.Common.{ap, option_map, sym, ◌∙◌, ℕ}
use Rattle.bcv_client.specs.RangeReads.{span_of}
use Rattle.bcv_client.proofs.RangeSteps.{opened_sized}
use Rattle.bcv_client.proofs.client.Client.span_of.Goals as goal

pub opened-requires : goal.opened-requires
opened-requires g c = record { form = c.requires.form }

pub returns-in-Some-clause-span : goal.returns-in-Some-clause-span
returns-in-Some-clause-span g c = ap (option_map (λ (x : ℕ × ℕ × ℕ). span_of x c.args.off c.args.len)) (sym c.in-Some.is ∙ c.opened.ensures)

pub returns-in-Some-clause-size : goal.returns-in-Some-clause-size
returns-in-Some-clause-size g c = opened_sized c.args.self.now.txns c.args.txn _ c.in-Some.page_size _ c.is_full.ensures.are_open (sym c.opened.ensures ∙ c.in-Some.is)

pub returns-in-None-clause-span : goal.returns-in-None-clause-span
returns-in-None-clause-span g c = ap (option_map (λ (x : ℕ × ℕ × ℕ). span_of x c.args.off c.args.len)) (sym c.in-None.is ∙ c.opened.ensures)
