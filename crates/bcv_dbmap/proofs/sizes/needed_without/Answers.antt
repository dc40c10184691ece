use Rattle.std.proofs.Common.{◌≤◌, cond, ap, ◌∙◌, arith}
use Rattle.std.specs.Str.{bytes_eq}
use Rattle.bcv_base.specs.declared.manifest.DbEntry.{DbEntry}
use Rattle.bcv_base.specs.Keyed.{without_keyed}
use Rattle.bcv_base.specs.ManifestRules.{db_name}
use Rattle.bcv_dbmap.specs.Checked.{needed_length, needed_total}
use Rattle.bcv_dbmap.proofs.Needs.{without_more, without_less}
use Rattle.bcv_dbmap.proofs.sizes.needed_without.Goals as goal

pub overflow_add-total : goal.overflow_add-total
overflow_add-total c =
    let name = c.args.name.now in
    let more =
    without_more c.args.block c.loop-db.total c.needed_unless-total.result name c.args.dbs.now c.loop-db.db-index c.db-item.result c.loop-db-test.true
    (c.needed_unless-total.ensures ∙ ap (λ (d : DbEntry). cond (bytes_eq d.name name) 0 (needed_length c.args.block d)) c.db-item.is) c.loop-db.invariant in
    let less : needed_total c.args.block (without_keyed db_name name c.args.dbs.now) ≤ needed_total c.args.block c.args.dbs.now = without_less c.args.block name c.args.dbs.now in
    omega arith

pub returns-clause-small : goal.returns-clause-small
returns-clause-small c =
    let so_far = c.loop-db.invariant in
    let less : needed_total c.args.block (without_keyed db_name c.args.name.now c.args.dbs.now) ≤ needed_total c.args.block c.args.dbs.now = without_less c.args.block c.args.name.now c.args.dbs.now in
    omega arith
