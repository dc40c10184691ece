use Rattle.bcv_memstore.proofs.odd_store.OddStoreStore.TheImpl.Goals as goal

pub get-tells : goal.get-tells
get-tells c = record {
  gets = record { told = λ t. absurd t; taken = λ t. absurd t; within = c.ensures.within; later = c.ensures.later; failed = c.ensures.failed };
  reached = c.ensures.later;
}

pub put-tells : goal.put-tells
put-tells c = record {
  puts = record { told = λ t. absurd t; taken = λ t. absurd t; later = c.ensures.later; failed = c.ensures.failed };
  reached = c.ensures.later;
}
