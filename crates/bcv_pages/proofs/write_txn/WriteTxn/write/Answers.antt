use Rattle.std.proofs.Common.{arith}
use Rattle.std.proofs.lemmas.Bool.{and_parts}
use Rattle.bcv_base.specs.Views.{ascends, have_size}
use Rattle.bcv_pages.proofs.Places.{IsAscending-from_ascends}
use Rattle.bcv_pages.proofs.Drafts.{is_commit-with}
use Rattle.bcv_pages.proofs.write_txn.WriteTxn.write.Goals as goal
use Rattle.bcv_pages.proofs.write_txn.WriteTxn.write.Goals.{in-Ok, in-Err}

pub put-requires : goal.put-requires
put-requires c =
    let pages = c.self.inside.pages.items in
    IsAscending-from_ascends 0 c.self.inside.size pages (and_parts (ascends 0 c.self.inside.size pages) (have_size c.self.inside.page_size pages) c.self.invariant).0

pub invariant_of-self : goal.invariant_of-self
invariant_of-self c = elim c.match-put.branch [
  | in-Ok w ↦
      rw w.in-Ok.ensures.ok
      (is_commit-with c.self.inside.page_size c.self.inside.size c.args.page c.args.bytes.now c.self.inside.pages.items c.self.invariant (omega arith) (omega arith) c.if-bytes-self.false)
  | in-Err w ↦ rw w.in-Err.ensures.err c.self.invariant
]
