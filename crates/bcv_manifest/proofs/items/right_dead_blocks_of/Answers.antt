use Rattle.std.proofs.Common.{List, sym, ap, ◌∙◌, arith}
use Rattle.std.specs.List.{list_any}
use Rattle.bcv_base.specs.declared.manifest.Dead.{Dead}
use Rattle.bcv_base.specs.ManifestRules.{lists}
use Rattle.bcv_manifest.proofs.Unlisted.{dead_sorted, read_alike}
use Rattle.bcv_manifest.proofs.items.right_dead_blocks_of.Goals as goal

pub lists_dead-requires : goal.lists_dead-requires
lists_dead-requires c = rw c.deref.ensures.value (dead_sorted c.args.count c.args.bytes.now c.in-Ok.rest.now c.in-Ok.dead.items (λ i. omega (arith, c.type_inv.bytes i)) c.in-Ok.ensures)

pub returns-in-Ok-false : goal.returns-in-Ok-false
returns-in-Ok-false c =
    let none = sym c.in-Ok-false.field-0-test ∙ c.in-Ok-false.ensures ∙ ap (λ (es : List Dead). list_any (λ e. lists c.args.dbs.now e.id) es) c.deref.ensures.value in
    read_alike c.args.dbs.now c.args.count c.args.bytes.now c.in-Ok.rest.now c.in-Ok.dead.items (λ i. omega (arith, c.type_inv.bytes i)) c.in-Ok.ensures none
