use Rattle.std.proofs.Common.{◌<◌, length, sym, ◌∙◌, arith}
use Rattle.bcv_dbmap.proofs.Packed.{packed_all, not_none}
use Rattle.bcv_dbmap.proofs.ids.pack.Goals as goal

pub returns-clause-front : goal.returns-clause-front
returns-clause-front c =
    let some : 0 < length c.args.ids.now = not_none (length c.args.ids.now) (sym c.is_empty.ensures ∙ c.if-is_empty.false) in
    packed_all c.args.ids.now c.loop-place.ids c.loop-place.kept c.loop-place.place (omega arith) (omega arith) c.loop-place.invariant
