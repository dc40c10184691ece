use Rattle.std.proofs.Common.{◌∙◌, sym, arith}
use Rattle.bcv_base.specs.declared.outcome.Outcome.TheVariants as outcome
use Rattle.bcv_memstore.proofs.Asking.{puts}
use Rattle.bcv_memstore.proofs.mem_store.MemStoreStore.put.Goals as goal

pub returns-in-Ok-clause-puts : goal.returns-in-Ok-clause-puts
returns-in-Ok-clause-puts c = record {
  told = λ _. puts _ _ outcome.Ok (sym c.in-Ok.is ∙ c.take.ensures.outcome) _ _ _ _ c.write.ensures.told;
  taken = λ _. c.write.ensures.plan ∙ c.take.ensures.rest;
  later = omega (arith, c.write.ensures.faults);
  failed = λ is. absurd (c.write.ensures.answered is);
}

pub returns-in-Fail-clause-puts : goal.returns-in-Fail-clause-puts
returns-in-Fail-clause-puts c = record {
  told = λ _. puts _ _ outcome.Fail (sym c.in-Fail.is ∙ c.take.ensures.outcome) _ _ _ _ c.count_fault.ensures.log;
  taken = λ _. c.count_fault.ensures.plan ∙ c.take.ensures.rest;
  later = c.count_fault.ensures.later;
  failed = λ _. omega (arith, c.count_fault.ensures.faults);
}

pub returns-in-Lost-clause-puts : goal.returns-in-Lost-clause-puts
returns-in-Lost-clause-puts c = record {
  told = λ _. puts _ _ outcome.Lost (sym c.in-Lost.is ∙ c.take.ensures.outcome) _ _ _ _ c.lose_put.ensures.told;
  taken = λ _. c.lose_put.ensures.plan ∙ c.take.ensures.rest;
  later = c.lose_put.ensures.later;
  failed = λ is. omega (arith, c.lose_put.ensures.counts.rises is);
}
