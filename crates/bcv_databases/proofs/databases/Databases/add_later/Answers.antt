use Rattle.std.proofs.Common.{◌≡◌, ◌∙◌, Some, ap, sym, subst}
use Rattle.std.specs.Vec.{vec_capacity}
use Rattle.bcv_base.specs.Keyed.{keyed}
use Rattle.bcv_databases.specs.Catalog.{Catalog, Rooms, use_name}
use Rattle.bcv_databases.specs.Changes.{Adds, IsLaterReady}
use Rattle.bcv_databases.proofs.Adding.{later_adds, later_are}
use Rattle.bcv_databases.proofs.databases.Databases.add_later.Goals as goal

pub invariant_of-self : goal.invariant_of-self
invariant_of-self c =
    let db = c.args.db.now in
    let i = c.self.inside in
    let rooms : Rooms = record { known = vec_capacity i.known; uses = vec_capacity i.uses; commits = vec_capacity i.spare } in
    let cat : Catalog = record { kept = i.kept; known = i.known.items; uses = i.uses.items; sets = i.sets.items; rooms = rooms } in
    let after : Rooms = record { known = vec_capacity i.known; uses = vec_capacity i.uses; commits = vec_capacity c.add_later.new.spare } in
    let r : IsLaterReady cat db c.args.copy c.args.commit = subst (λ (k : Catalog). IsLaterReady k db c.args.copy c.args.commit) (sym c.self.view_is) c.requires in
    let used : keyed use_name db i.uses.items ≡ Some c.in-Some.used.now = sym (c.in-Some.ensures ∙ ap (keyed use_name db) c.deref.ensures.value) in
    (later_are cat db c.args.copy c.args.commit c.self.invariant.0 r c.in-Some.used.now used c.add_later.new.locals c.add_in.new.sets.items after c.add_later.ensures.locals c.add_in.ensures, c.add_later.ensures.spare)

pub returns : goal.returns
returns c =
    let db = c.args.db.now in
    let i = c.self.inside in
    let rooms : Rooms = record { known = vec_capacity i.known; uses = vec_capacity i.uses; commits = vec_capacity i.spare } in
    let cat : Catalog = record { kept = i.kept; known = i.known.items; uses = i.uses.items; sets = i.sets.items; rooms = rooms } in
    let after : Rooms = record { known = vec_capacity i.known; uses = vec_capacity i.uses; commits = vec_capacity c.add_later.new.spare } in
    let r : IsLaterReady cat db c.args.copy c.args.commit = subst (λ (k : Catalog). IsLaterReady k db c.args.copy c.args.commit) (sym c.self.view_is) c.requires in
    let used : keyed use_name db i.uses.items ≡ Some c.in-Some.used.now = sym (c.in-Some.ensures ∙ ap (keyed use_name db) c.deref.ensures.value) in
    let new : Catalog = record { kept = record { me = i.kept.me; locals = c.add_later.new.locals; pending = i.kept.pending }; known = i.known.items; uses = i.uses.items; sets = c.add_in.new.sets.items; rooms = after } in
    subst (λ (k : Catalog). Adds k new db c.args.commit) c.self.view_is
    (later_adds cat db c.args.copy c.args.commit c.self.invariant.0 r c.in-Some.used.now used c.add_later.new.locals c.add_in.new.sets.items after c.add_later.ensures.locals c.add_in.ensures)
