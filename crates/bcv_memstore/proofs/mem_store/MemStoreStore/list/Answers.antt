use Rattle.std.proofs.Common.{◌∙◌, sym, refl, arith}
use Rattle.bcv_base.specs.declared.outcome.Outcome.TheVariants as outcome
use Rattle.bcv_memstore.proofs.Asking.{lists, not_done}
use Rattle.bcv_memstore.proofs.mem_store.MemStoreStore.list.Goals as goal

pub returns-in-Ok-clause-lists : goal.returns-in-Ok-clause-lists
returns-in-Ok-clause-lists c = record {
  told = λ _. lists _ _ outcome.Ok (sym c.in-Ok.is ∙ c.take.ensures.outcome) _ _ _ refl c.list.ensures.told;
  taken = λ _. c.take.ensures.rest;
  within = c.list.ensures.within;
  later = omega arith;
  failed = λ is. absurd (c.list.ensures.answered is);
}

pub returns-in-Fail : goal.returns-in-Fail
returns-in-Fail c = record {
  lists = record {
    told = λ _. lists _ _ c.take.result c.take.ensures.outcome _ _ _ c.count_fault.ensures.log (not_done c.take.result c.in-Fail.is);
    taken = λ _. c.count_fault.ensures.plan ∙ c.take.ensures.rest;
    within = c.clear.ensures.items;
    later = c.count_fault.ensures.later;
    failed = λ _. omega (arith, c.count_fault.ensures.faults);
  };
  reached = c.count_fault.ensures.later;
  counts = record { rises = λ _. c.count_fault.ensures.faults; stays = λ no. absurd (no refl) };
}
