use Rattle.std.proofs.Common.{List, refl, sym, subst}
use Rattle.std.specs.Vec.{vec_capacity}
use Rattle.bcv_databases.specs.Catalog.{Catalog, Rooms}
use Rattle.bcv_databases.specs.Sound.{AreDatabases}
use Rattle.bcv_databases.specs.declared.set_use.SetUse.{SetUse}
use Rattle.bcv_databases.proofs.Ends.{same_over}
use Rattle.bcv_databases.proofs.Readying.{place_sound}
use Rattle.bcv_databases.proofs.Slots.{keeps_all}
use Rattle.bcv_databases.proofs.databases.Databases.ready_first.Goals as goal

pub returns-in_err-reserve-clause-same : goal.returns-in_err-reserve-clause-same
returns-in_err-reserve-clause-same c = same_over c.args.self.now _ _ c.self.view_is refl refl (keeps_all c.self.inside.sets.items)

pub invariant_of-self-2 : goal.invariant_of-self-2
invariant_of-self-2 c =
    let i = c.self.inside in
    let cat : Catalog = record { kept = i.kept; known = i.known.items; uses = i.uses.items; sets = i.sets.items; rooms = record { known = vec_capacity i.known; uses = vec_capacity i.uses; commits = vec_capacity i.spare } } in
    let after : Rooms = record { known = vec_capacity i.known; uses = vec_capacity c.reserve.new.self; commits = vec_capacity i.spare } in (
      subst (λ (us : List SetUse). AreDatabases (record { kept = i.kept; known = i.known.items; uses = us; sets = c.free_place.new.sets.items; rooms = after })) (sym c.reserve.ensures.items)
          (place_sound cat c.free_place.new.sets.items after c.self.invariant.0 c.free_place.ensures.same),
      c.self.invariant.1,
    )
