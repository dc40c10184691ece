use Rattle.std.proofs.Common.{ap, ◌∙◌, map}
use Rattle.std.specs.Vec.{vec_capacity}
use Rattle.bcv_databases.specs.Slots.{loaded_set, uses_from}
use Rattle.bcv_databases.proofs.Loaded.{loaded_are}
use Rattle.bcv_databases.proofs.databases.Databases.new.Goals as goal

pub invariant_of-result : goal.invariant_of-result
invariant_of-result c = (
  loaded_are c.args.kept c.new.result.items c.in_ok-uses.uses.items c.in_ok-sets.sets.items (record { known = vec_capacity c.new.result; uses = vec_capacity c.in_ok-uses.uses; commits = vec_capacity c.new-2.result }) c.requires
      c.new.ensures.items (c.in_ok-uses.ensures ∙ ap (uses_from 0) c.items-2.ensures) (c.in_ok-sets.ensures ∙ ap (map loaded_set) c.items.ensures),
  c.new-2.ensures.items,
)
