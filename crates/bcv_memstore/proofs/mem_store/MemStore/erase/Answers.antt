use Rattle.std.proofs.Common.{true, refl, is_ok}
use Rattle.bcv_base.specs.declared.log.Entry.TheVariants as entry
use Rattle.bcv_memstore.specs.Told.{log_of}
use Rattle.bcv_memstore.specs.EtagLaws.{numbered_if}
use Rattle.bcv_memstore.proofs.mem_store.MemStore.erase.Goals as goal

pub invariant_of-self : goal.invariant_of-self
invariant_of-self c = record {
  numbered =
      numbered_if (is_ok c.add_deletion.result) (log_of c.args.self.now) _ (entry.Deleted true c.args.name.now c.args.at) c.add_deletion.ensures c.args.self.now.numbered refl;
}
