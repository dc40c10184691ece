use Rattle.bcv_memstore.proofs.odd_store.OddStoreStore.get.Goals as goal

pub returns-in-Some-Swapped-clause-within : goal.returns-in-Some-Swapped-clause-within
returns-in-Some-Swapped-clause-within c = c.swapped.ensures.within c.args.unless
