use Rattle.std.proofs.Common.{◌≡◌, ◌≤◌, length, ap, ◌∙◌, arith}
use Rattle.bcv_dbmap.specs.Merged.{leaving}
use Rattle.bcv_dbmap.proofs.Counts.{few_leaving}
use Rattle.bcv_dbmap.proofs.checking.dead_bound.Goals as goal

pub returns-clause-small : goal.returns-clause-small
returns-clause-small c =
    let m = c.args.m.now in
    let p = c.args.plan.now in
    let dead : length c.items.result.now ≡ length m.dead = ap length c.items.ensures in
    let own : length c.leaving.result.now ≡ length (leaving p m.dbs) = ap length (c.leaving.ensures ∙ ap (leaving p) c.items-2.ensures) in
    let most : length (leaving p m.dbs) ≤ 65536 = few_leaving p m.block m.dbs c.requires.rules.each_db in
    omega arith
