use Rattle.std.proofs.Common.{List, refl}
use Rattle.bcv_model.specs.declared.ask.Commit.{Commit}
use Rattle.bcv_notes.specs.KeptNotes.{committed_notes, notes_size}
use Rattle.bcv_notes.proofs.KeptSizes.{ended}
use Rattle.bcv_notes.proofs.kept_notes.committed_size.Goals as goal

pub returns : goal.returns
returns c db long =
    ended (λ (cs : List Commit). notes_size (committed_notes db cs)) c.loop-commit.rest.now c.loop-commit.size (notes_size (committed_notes db c.args.commits.now)) refl c.in_default.ensures.cases c.loop-commit.invariant.0 (c.loop-commit.invariant.1 db long)
