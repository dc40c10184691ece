use Rattle.std.proofs.Common.{◌≡◌, drop}
use Rattle.bcv_base.specs.Keyed.{keyed}
use Rattle.bcv_model.specs.Notes.{kept_name}
use Rattle.bcv_notes.proofs.locals.local_of.Given as goal

abbrev pub invariant-loop-local : goal.invariant-loop-local
invariant-loop-local l = keyed kept_name l.db (drop l.local-index l.locals) ≡ keyed kept_name l.db l.locals
