use Rattle.std.proofs.Common.{◌≡◌, ◌∙◌, ℕ, List, Some, ap, sym, subst, set}
use Rattle.std.specs.Vec.{vec_capacity}
use Rattle.bcv_base.specs.Keyed.{keyed, with_keyed}
use Rattle.bcv_model.specs.declared.kept.Local.{Local}
use Rattle.bcv_model.specs.Notes.{kept_name}
use Rattle.bcv_databases.specs.Catalog.{Catalog, Rooms, known_name, use_name}
use Rattle.bcv_databases.specs.Changes.{Adds, IsFirstReady}
use Rattle.bcv_databases.proofs.FirstAdded.{first_adds, first_are, local_of, use_of_set}
use Rattle.bcv_databases.proofs.Parts.{with_parts}
use Rattle.bcv_databases.proofs.databases.Databases.add_first.Goals as goal

pub invariant_of-self : goal.invariant_of-self
invariant_of-self c =
    let db = c.args.db.now in
    let i = c.self.inside in
    let f = c.args.first in
    let known = c.in-Some.known in
    let rooms : Rooms = record { known = vec_capacity i.known; uses = vec_capacity i.uses; commits = vec_capacity i.spare } in
    let cat : Catalog = record { kept = i.kept; known = i.known.items; uses = i.uses.items; sets = i.sets.items; rooms = rooms } in
    let after : Rooms = record { known = vec_capacity c.take.new.items; uses = vec_capacity c.put.new.items; commits = vec_capacity i.spare } in
    let r : IsFirstReady cat db f c.args.commit = subst (λ (k : Catalog). IsFirstReady k db f c.args.commit) (sym c.self.view_is) c.requires in
    let found : keyed known_name db i.known.items ≡ Some known = sym c.in-Some.ensures.found in
    let locals : c.add_first.new.locals ≡ with_keyed kept_name (local_of known f.commits) i.kept.locals = c.add_first.ensures ∙ ap (λ (l : Local). with_keyed kept_name l i.kept.locals) c.local_over-local.ensures in
    let uses : c.put.new.items.items ≡ with_keyed use_name (use_of_set known f.place) i.uses.items = c.put.ensures ∙ ap (λ (n : List ℕ). with_keyed use_name (record { name = n; set = f.place; from = 0 }) i.uses.items) c.name.ensures in
    (first_are cat db f c.args.commit c.self.invariant.0 r known found after c.add_first.new.locals c.take.new.items.items c.put.new.items.items c.add.new.self locals c.in-Some.ensures.others uses c.add.ensures.added, c.self.invariant.1)

pub returns : goal.returns
returns c =
    let db = c.args.db.now in
    let i = c.self.inside in
    let f = c.args.first in
    let known = c.in-Some.known in
    let rooms : Rooms = record { known = vec_capacity i.known; uses = vec_capacity i.uses; commits = vec_capacity i.spare } in
    let cat : Catalog = record { kept = i.kept; known = i.known.items; uses = i.uses.items; sets = i.sets.items; rooms = rooms } in
    let after : Rooms = record { known = vec_capacity c.take.new.items; uses = vec_capacity c.put.new.items; commits = vec_capacity i.spare } in
    let r : IsFirstReady cat db f c.args.commit = subst (λ (k : Catalog). IsFirstReady k db f c.args.commit) (sym c.self.view_is) c.requires in
    let found : keyed known_name db i.known.items ≡ Some known = sym c.in-Some.ensures.found in
    let locals : c.add_first.new.locals ≡ with_keyed kept_name (local_of known f.commits) i.kept.locals = c.add_first.ensures ∙ ap (λ (l : Local). with_keyed kept_name l i.kept.locals) c.local_over-local.ensures in
    let uses : c.put.new.items.items ≡ with_keyed use_name (use_of_set known f.place) i.uses.items = c.put.ensures ∙ ap (λ (n : List ℕ). with_keyed use_name (record { name = n; set = f.place; from = 0 }) i.uses.items) c.name.ensures in
    subst (λ (k : Catalog). Adds k (with_parts cat c.add_first.new.locals c.take.new.items.items c.put.new.items.items (set i.sets.items f.place (Some c.add.new.self)) after) db c.args.commit) c.self.view_is
    (first_adds cat db f c.args.commit c.self.invariant.0 r known found after c.add_first.new.locals c.take.new.items.items c.put.new.items.items c.add.new.self locals c.in-Some.ensures.others uses c.add.ensures.added)
