use Rattle.std.proofs.Common.{codes, ap, ◌∙◌}
use Rattle.std.specs.Str.{bytes_eq}
use Rattle.bcv_base.proofs.ObjectNames.{no_ending, no_stem, not_same}
use Rattle.bcv_base.proofs.object.ObjName.read.Goals as goal

pub returns-in_err-stem : goal.returns-in_err-stem
returns-in_err-stem c = rw c.from_residual.ensures (no_ending c.args.text.now c.in_err-stem.ensures)

pub returns-in_err-read_hex : goal.returns-in_err-read_hex
returns-in_err-read_hex c =
    let other = not_same c.in_ok-stem.stem.now (codes "manifest") c.eq.result
    (c.eq.ensures ∙ ap (bytes_eq c.in_ok-stem.stem.now) c.as_slice.ensures) c.if-eq.false in
    rw c.from_residual-in_err-read_hex.ensures
    (no_stem c.args.text.now c.in_ok-stem.stem.now c.in_ok-stem.ensures other c.in_err-read_hex.ensures)
