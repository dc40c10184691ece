use Rattle.std.proofs.Common.{◌≡◌, List, sym, ap, ap₂, subst, ◌∙◌}
use Rattle.std.specs.Prelude.{not, IfOk}
use Rattle.std.specs.List.{filter}
use Rattle.bcv_base.specs.declared.id.Id16.{Id16}
use Rattle.bcv_base.specs.declared.manifest.DbEntry.{DbEntry}
use Rattle.bcv_base.specs.declared.manifest.Dead.{Dead}
use Rattle.bcv_base.specs.Ids.{has_id}
use Rattle.bcv_base.specs.ManifestRules.{Ascends, dead_id, lists}
use Rattle.bcv_dbmap.specs.Applied.{dead_after}
use Rattle.bcv_dbmap.specs.Merged.{own_key, chosen, leaving, taken_off, with_dead}
use Rattle.bcv_dbmap.proofs.Chosen.{ascends_chosen}
use Rattle.bcv_dbmap.proofs.Moved.{dead_after_is, stays_ascend}
use Rattle.bcv_dbmap.proofs.dead.dead_after.Goals as goal

pub with_dead-requires-clause-ids : goal.with_dead-requires-clause-ids
with_dead-requires-clause-ids c = subst (Ascends own_key) (sym (c.deref.ensures.value ∙ c.in_ok-gone.ensures)) (ascends_chosen (λ i. not (lists c.args.dbs.now i)) c.leaving.result.now)

pub with_dead-requires-clause-dead : goal.with_dead-requires-clause-dead
with_dead-requires-clause-dead c =
    let stays = c.deref-2.ensures.value ∙ c.in_ok-stays.ensures ∙ ap₂ (λ (ids : List Id16) (dead : List Dead). filter (λ e. not (has_id e.id ids)) dead) c.taken_off.ensures c.items.ensures in
    subst (Ascends dead_id) (sym stays) (stays_ascend c.args.plan.now c.requires.after.0 c.args.m.now.dbs c.args.m.now.dead c.requires.rules.dead c.requires.rules.each_dead)

pub returns : goal.returns
returns c =
    let m = c.args.m.now in
    let gone = c.deref.ensures.value ∙ c.in_ok-gone.ensures ∙ ap (chosen (λ i. not (lists c.args.dbs.now i))) (c.leaving.ensures ∙ ap (leaving c.args.plan.now) c.items-2.ensures) in
    let stays = c.deref-2.ensures.value ∙ c.in_ok-stays.ensures ∙ ap₂ (λ (ids : List Id16) (dead : List Dead). filter (λ e. not (has_id e.id ids)) dead) c.taken_off.ensures c.items.ensures in
    let kept : List Dead = filter (λ e. not (has_id e.id (taken_off c.args.plan.now))) m.dead in
    let after = c.requires.after.1 in
    let whole =
    ap₂ (with_dead c.args.stamp) gone stays
    ∙ ap (λ (ds : List DbEntry). with_dead c.args.stamp (chosen (λ i. not (lists ds i)) (leaving c.args.plan.now m.dbs)) kept) after
    ∙ dead_after_is c.args.plan.now c.args.stamp m.block c.requires.after.0 m.dbs m.dead c.requires.rules.dbs c.requires.rules.dead c.requires.rules.each_dead c.requires.passes
    ∙ ap (λ (ds : List DbEntry). dead_after c.args.plan.now c.args.stamp ds m.dbs m.dead) (sym after) in
    subst (λ (l : List Dead). IfOk c.with_dead.result (λ v. v.items ≡ l)) whole c.with_dead.ensures
