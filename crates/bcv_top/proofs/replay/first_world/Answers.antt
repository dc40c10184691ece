use Rattle.std.proofs.Common.{rules}
use Rattle.std.proofs.lemmas.Result.{err_from_is_err_and}
use Rattle.bcv_world.proofs.LinesKept.{world_line_keeps}
use Rattle.bcv_top.proofs.Stepping.{first_unread, first_fixed}
use Rattle.bcv_top.proofs.replay.first_world.Goals as goal

pub returns-in_err-spec : goal.returns-in_err-spec
returns-in_err-spec c =
    let p = err_from_is_err_and c.from_residual.result c.from_residual.ensures.1 in
    rw (p.1, p.2) (first_unread c.in_err-spec.field-0.0 c.args.line.now c.in_err-spec.ensures.reads)

pub new-requires-clause-sizes : goal.new-requires-clause-sizes
new-requires-clause-sizes c = (world_line_keeps c.args.line.now c.in_ok-spec.spec c.in_ok-spec.ensures.reads).sizes

pub new-requires-clause-clients : goal.new-requires-clause-clients
new-requires-clause-clients c = (world_line_keeps c.args.line.now c.in_ok-spec.spec c.in_ok-spec.ensures.reads).clients

pub returns : goal.returns
returns c =
    first_fixed c.args.line.now c.in_ok-world.world c.in_ok-spec.spec c.in_ok-spec.ensures.reads c.in_ok-world.ensures.spec c.in_ok-world.ensures.world c.in_ok-world.ensures.tally c.in_ok-world.ensures.first
