use Rattle.std.proofs.Common.{◌∙◌, Option, ap, eq-eqb, refl}
use Rattle.bcv_base.specs.Log.{Object}
use Rattle.bcv_store.specs.declared.store.Cond.TheVariants as cond
use Rattle.bcv_store.specs.Asked.{holds}
use Rattle.store_tests.proofs.Called.{replaced}
use Rattle.store_tests.proofs.memstore.replace.Goals as goal

pub returns-in-Found-clause-replaces : goal.returns-in-Found-clause-replaces
returns-in-Found-clause-replaces g c told alone =
    replaced _ _ _ _ _ _ _ alone (ap (λ (x : Option Object). holds (cond.Match c.in-Found.etag) x) (c.in-Found.ensures.gets.told told).answers.1 ∙ eq-eqb c.in-Found.etag c.in-Found.etag refl) (c.put.ensures.puts.told told)

pub returns-in-Missing-clause-replaces : goal.returns-in-Missing-clause-replaces
returns-in-Missing-clause-replaces g c told alone =
    replaced _ _ _ _ _ _ _ alone (ap (λ (x : Option Object). holds cond.Absent x) (c.in-Missing.ensures.gets.told told).answers.1) (c.put-in-Missing.ensures.puts.told told)
