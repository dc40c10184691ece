use Rattle.std.proofs.Common.{◌≡◌}
use Rattle.bcv_model.specs.declared.kept.Local.{Local}
use Rattle.bcv_model.specs.Notes.{kept_name}
use Rattle.bcv_notes.proofs.Placing.{IsPast}
use Rattle.bcv_notes.proofs.folding.place_of.Given as goal

abbrev pub invariant-loop-place : goal.invariant-loop-place
invariant-loop-place l = (a : Local) → kept_name a ≡ l.db → IsPast a l.locals l.place
