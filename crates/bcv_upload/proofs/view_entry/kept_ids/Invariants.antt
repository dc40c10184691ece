use Rattle.std.proofs.Common.{◌≡◌, [], take}
use Rattle.bcv_upload.specs.State.{ids_with}
use Rattle.bcv_upload.proofs.view_entry.kept_ids.Given as goal

abbrev pub invariant-loop-number : goal.invariant-loop-number
invariant-loop-number l = l.ids.items ≡ ids_with l.base (take l.number-index l.touched) [] l.needed
