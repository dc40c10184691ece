use Rattle.std.proofs.Common.{◌∙◌, sym, arith}
use Rattle.bcv_base.specs.declared.outcome.Outcome.TheVariants as outcome
use Rattle.bcv_memstore.proofs.Asking.{deletes}
use Rattle.bcv_memstore.proofs.mem_store.MemStoreStore.delete.Goals as goal

pub returns-in-Ok-clause-deletes : goal.returns-in-Ok-clause-deletes
returns-in-Ok-clause-deletes c = record {
  told = λ _. deletes _ _ outcome.Ok (sym c.in-Ok.is ∙ c.take.ensures.outcome) _ _ _ c.erase.ensures.told;
  taken = λ _. c.erase.ensures.plan ∙ c.take.ensures.rest;
  later = omega (arith, c.erase.ensures.faults);
  failed = λ is. absurd (c.erase.ensures.answered is);
}

pub returns-in-Fail-clause-deletes : goal.returns-in-Fail-clause-deletes
returns-in-Fail-clause-deletes c = record {
  told = λ _. deletes _ _ outcome.Fail (sym c.in-Fail.is ∙ c.take.ensures.outcome) _ _ _ c.count_fault.ensures.log;
  taken = λ _. c.count_fault.ensures.plan ∙ c.take.ensures.rest;
  later = c.count_fault.ensures.later;
  failed = λ _. omega (arith, c.count_fault.ensures.faults);
}

pub returns-in-Lost-clause-deletes : goal.returns-in-Lost-clause-deletes
returns-in-Lost-clause-deletes c = record {
  told = λ _. deletes _ _ outcome.Lost (sym c.in-Lost.is ∙ c.take.ensures.outcome) _ _ _ c.lose_deletion.ensures.told;
  taken = λ _. c.lose_deletion.ensures.plan ∙ c.take.ensures.rest;
  later = c.lose_deletion.ensures.later;
  failed = λ is. omega (arith, c.lose_deletion.ensures.counts.rises is);
}
