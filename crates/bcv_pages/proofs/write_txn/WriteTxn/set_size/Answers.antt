use Rattle.bcv_pages.proofs.Drafts.{is_commit-upto}
use Rattle.bcv_pages.proofs.write_txn.WriteTxn.set_size.Goals as goal

pub invariant_of-self : goal.invariant_of-self
invariant_of-self c = rw c.keep_upto.ensures (is_commit-upto _ _ c.args.size _ c.self.invariant)
