use Rattle.std.proofs.Common.{◌≡◌, ℕ, ◌+◌, ◌≤◌, List, length, sym, ap, ap₂, subst, ◌∙◌, arith}
use Rattle.std.specs.Prelude.{not}
use Rattle.std.specs.List.{filter}
use Rattle.bcv_base.specs.declared.manifest.DbEntry.{DbEntry}
use Rattle.bcv_base.specs.declared.manifest.Dead.{Dead}
use Rattle.bcv_base.specs.Ids.{has_id}
use Rattle.bcv_dbmap.specs.Checked.{counted}
use Rattle.bcv_dbmap.specs.Counted.{gone_length}
use Rattle.bcv_dbmap.specs.Merged.{leaving, taken_off}
use Rattle.bcv_dbmap.proofs.Counts.{dead_length_is, few_filtered, few_gone, few_leaving}
use Rattle.bcv_dbmap.proofs.counting.dead_count.Goals as goal

pub count_gone-requires : goal.count_gone-requires
count_gone-requires c =
    subst (λ (dbs : List DbEntry). length (leaving c.args.plan.now dbs) ≤ 65536) (sym c.items-2.ensures) (few_leaving c.args.plan.now c.args.m.now.block c.args.m.now.dbs c.requires.rules.each_db)

pub overflow_add-result : goal.overflow_add-result
overflow_add-result c =
    let m = c.args.m.now in
    let test = λ (e : Dead). not (has_id e.id (taken_off (counted c.args.plan.now))) in
    let staying : c.count_staying.result ≡ length (filter test m.dead) = c.count_staying.ensures ∙ ap (λ (l : List Dead). length (filter test l)) c.items.ensures in
    let gone : c.count_gone.result ≡ gone_length c.args.plan.now m.dbs = c.count_gone.ensures ∙ ap (gone_length c.args.plan.now) c.items-2.ensures in
    let few_staying : length (filter test m.dead) ≤ length m.dead = few_filtered test m.dead in
    let few : gone_length c.args.plan.now m.dbs ≤ length (leaving c.args.plan.now m.dbs) = few_gone c.args.plan.now m.dbs c.requires.rules.dbs in
    let most : length (leaving c.args.plan.now m.dbs) ≤ 65536 = few_leaving c.args.plan.now m.block m.dbs c.requires.rules.each_db in
    omega arith

pub returns : goal.returns
returns c =
    let m = c.args.m.now in
    let test = λ (e : Dead). not (has_id e.id (taken_off (counted c.args.plan.now))) in
    ap₂ (λ (a b : ℕ). a + b) (c.count_staying.ensures ∙ ap (λ (l : List Dead). length (filter test l)) c.items.ensures) (c.count_gone.ensures ∙ ap (gone_length c.args.plan.now) c.items-2.ensures)
    ∙ sym (dead_length_is m c.args.plan.now c.requires.rules c.requires.passes)
