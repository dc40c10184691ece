use Rattle.std.proofs.Common.{refl, subst}
use Rattle.std.specs.Vec.{vec_capacity}
use Rattle.bcv_databases.specs.Catalog.{Catalog, Rooms}
use Rattle.bcv_databases.specs.Slots.{OpensSet}
use Rattle.bcv_databases.proofs.Ends.{same_over}
use Rattle.bcv_databases.proofs.SetsOpened.{opened, opened_sound, opened_views, opens}
use Rattle.bcv_databases.proofs.databases.Databases.open_set.Goals as goal

pub invariant_of-self-2 : goal.invariant_of-self-2
invariant_of-self-2 c =
    let i = c.self.inside in
    let rooms : Rooms = record { known = vec_capacity i.known; uses = vec_capacity i.uses; commits = vec_capacity i.spare } in
    let cat : Catalog = record { kept = i.kept; known = i.known.items; uses = i.uses.items; sets = i.sets.items; rooms = rooms } in
    (opened_sound cat c.free_place.new.sets.items c.in_ok-place.place c.new.result c.self.invariant.0 c.free_place.ensures.same c.in_ok-place.ensures.inside c.in_ok-place.ensures.free rooms, c.self.invariant.1)

pub returns-clause-same : goal.returns-clause-same
returns-clause-same c =
    let i = c.self.inside in
    let rooms : Rooms = record { known = vec_capacity i.known; uses = vec_capacity i.uses; commits = vec_capacity i.spare } in
    let cat : Catalog = record { kept = i.kept; known = i.known.items; uses = i.uses.items; sets = i.sets.items; rooms = rooms } in
    same_over c.args.self.now cat _ c.self.view_is refl refl
    (opened_views cat c.free_place.new.sets.items c.in_ok-place.place c.new.result c.self.invariant.0 c.free_place.ensures.same c.in_ok-place.ensures.inside c.in_ok-place.ensures.free)

pub returns-clause-set : goal.returns-clause-set
returns-clause-set c =
    let i = c.self.inside in
    let rooms : Rooms = record { known = vec_capacity i.known; uses = vec_capacity i.uses; commits = vec_capacity i.spare } in
    let cat : Catalog = record { kept = i.kept; known = i.known.items; uses = i.uses.items; sets = i.sets.items; rooms = rooms } in
    subst (λ (k : Catalog). OpensSet k (record { kept = i.kept; known = i.known.items; uses = i.uses.items; sets = opened cat c.free_place.new.sets.items c.in_ok-place.place c.new.result c.self.invariant.0 c.free_place.ensures.same c.in_ok-place.ensures.inside c.in_ok-place.ensures.free; rooms = rooms }) c.args.page_size c.in_ok-place.place) c.self.view_is
    (opens cat c.free_place.new.sets.items c.in_ok-place.place c.new.result c.self.invariant.0 c.free_place.ensures.same c.in_ok-place.ensures.inside c.in_ok-place.ensures.free c.args.page_size rooms c.new.ensures)
