use Rattle.std.proofs.Common.{◌≡◌, ◌<◌, ◌^◌, ap, arith}
use Rattle.bcv_dbmap.specs.Checked.{needed_total}
use Rattle.bcv_dbmap.proofs.Needs.{manifest_needs}
use Rattle.bcv_dbmap.proofs.checking.bytes_beside.Goals as goal

pub needed_after-requires-clause-fits : goal.needed_after-requires-clause-fits
needed_after-requires-clause-fits c =
    let m = c.args.m.now in
    let needs : needed_total m.block m.dbs < 2 ^ 60 = manifest_needs m c.requires.rules c.requires.limits in
    let same : needed_total m.block c.items-2.result.now ≡ needed_total m.block m.dbs = ap (needed_total m.block) c.items-2.ensures in
    omega arith
