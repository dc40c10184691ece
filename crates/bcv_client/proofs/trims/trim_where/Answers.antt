use Rattle.std.proofs.Common.{false, not, rules, ◌≡◌}
use Rattle.bcv_client.proofs.NeededKept.{is_gone, trimmed, trims_set}
use Rattle.bcv_client.proofs.trims.trim_where.Goals as goal

pub returns-in-Some-clause-trims : goal.returns-in-Some-clause-trims
returns-in-Some-clause-trims g c =
    let held : not c.args.gone ≡ false = (search rules) in
    trims_set c.args.ledger.now c.trim.new.self c.in-Some.set c.needed.result c.args.txns.now c.args.tasks.now c.args.gone c.args.set (is_gone c.args.gone held) c.in-Some.is c.trim.ensures.log c.trim.ensures.trims c.needed.ensures

pub returns-in-Some-clause-views : goal.returns-in-Some-clause-views
returns-in-Some-clause-views g c =
    trimmed c.args.ledger.now c.trim.new.self c.in-Some.set c.needed.result c.args.txns.now c.args.tasks.now c.trim.ensures.log c.trim.ensures.trims c.trim.ensures.views c.needed.ensures
