use Rattle.bcv_model.specs.Notes.{pages_size}
use Rattle.std.proofs.Common.{refl}
use Rattle.bcv_notes.proofs.KeptSizes.{ended}
use Rattle.bcv_notes.proofs.kept_notes.pages_size.Goals as goal

pub returns : goal.returns
returns c = ended pages_size c.loop-page.rest.now c.loop-page.size (pages_size c.args.pages.now) refl c.in_default.ensures.cases c.loop-page.invariant.0 c.loop-page.invariant.1
