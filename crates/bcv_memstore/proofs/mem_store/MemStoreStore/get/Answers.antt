use Rattle.std.proofs.Common.{◌∙◌, sym, refl, arith}
use Rattle.bcv_base.specs.declared.outcome.Outcome.TheVariants as outcome
use Rattle.bcv_memstore.proofs.Asking.{gets, not_done}
use Rattle.bcv_memstore.proofs.mem_store.MemStoreStore.get.Goals as goal

pub returns-in-Ok-clause-gets : goal.returns-in-Ok-clause-gets
returns-in-Ok-clause-gets c = record {
  told = λ _. gets _ _ outcome.Ok (sym c.in-Ok.is ∙ c.take.ensures.outcome) _ _ _ _ _ refl c.read.ensures.told;
  taken = λ _. c.take.ensures.rest;
  within = c.read.ensures.within;
  later = omega arith;
  failed = λ is. absurd (c.read.ensures.answered is);
}

pub returns-in-Fail : goal.returns-in-Fail
returns-in-Fail c = record {
  gets = record {
    told = λ _. gets _ _ c.take.result c.take.ensures.outcome _ _ _ _ _ c.count_fault.ensures.log (not_done c.take.result c.in-Fail.is);
    taken = λ _. c.count_fault.ensures.plan ∙ c.take.ensures.rest;
    within = c.clear.ensures.items;
    later = c.count_fault.ensures.later;
    failed = λ _. omega (arith, c.count_fault.ensures.faults);
  };
  reached = c.count_fault.ensures.later;
  counts = record { rises = λ _. c.count_fault.ensures.faults; stays = λ no. absurd (no refl) };
}
