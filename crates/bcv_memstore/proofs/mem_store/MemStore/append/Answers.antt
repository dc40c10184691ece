use Rattle.std.proofs.Common.{◌≡◌, ◌<◌, ◌+◌, true, length, is_ok, eq-eqb, arith, rules}
use Rattle.bcv_base.specs.declared.log.Entry.TheVariants as entry
use Rattle.bcv_memstore.specs.Told.{log_of}
use Rattle.bcv_memstore.specs.EtagLaws.{numbered_if, follows_numbered}
use Rattle.bcv_memstore.proofs.mem_store.MemStore.append.Goals as goal

pub invariant_of-self : goal.invariant_of-self
invariant_of-self c =
    let number : c.in_ok-etag.etag ≡ length (log_of c.args.self.now) + 1 = omega (arith, c.in_ok-etag.ensures) in
    record {
      numbered = numbered_if (is_ok c.add_put.result) (log_of c.args.self.now) _ (entry.Put true c.args.name.now c.of.result c.in_ok-etag.etag)
          c.add_put.ensures c.args.self.now.numbered (eq-eqb _ _ number);
    }

pub returns-clause-added : goal.returns-clause-added
returns-clause-added c =
    let high : 0 + length (log_of c.args.self.now) < c.in_ok-etag.etag = omega (arith, c.in_ok-etag.ensures) in
    record { rises = follows_numbered 0 (log_of c.args.self.now) true c.args.name.now c.args.bytes.now c.in_ok-etag.etag c.args.self.now.numbered high; added = search rules }
