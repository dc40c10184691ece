use Rattle.std.proofs.Common.{rules}
use Rattle.bcv_notes.proofs.KeptSizes.{few_committed}
use Rattle.bcv_notes.proofs.kept_notes.push_committed.Goals as goal

pub committed_note-requires : goal.committed_note-requires
committed_note-requires c = few_committed c.args.db.now c.loop-commit.rest.now c.in-Some.commit.now c.in-Some.after.now (search rules) c.loop-commit.invariant.1
