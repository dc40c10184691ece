use Rattle.std.proofs.Common.{◌≡◌, ◌∙◌, Some, None, ap, sym, subst}
use Rattle.std.specs.Vec.{vec_capacity}
use Rattle.bcv_base.specs.Keyed.{keyed, with_keyed}
use Rattle.bcv_model.specs.Notes.{kept_name}
use Rattle.bcv_databases.specs.Catalog.{Catalog, Rooms, known_name}
use Rattle.bcv_databases.specs.Changes.{Reverts, base_of}
use Rattle.bcv_databases.specs.declared.known.Known.{Known}
use Rattle.bcv_databases.proofs.Reverted.{reverted_are, reverts}
use Rattle.bcv_databases.proofs.Parts.{with_parts}
use Rattle.bcv_databases.proofs.databases.Databases.revert.Goals as goal

pub invariant_of-self : goal.invariant_of-self
invariant_of-self c =
    let db = c.args.db.now in
    let i = c.self.inside in
    let l = c.in-Some.local in
    let rooms : Rooms = record { known = vec_capacity i.known; uses = vec_capacity i.uses; commits = vec_capacity i.spare } in
    let cat : Catalog = record { kept = i.kept; known = i.known.items; uses = i.uses.items; sets = i.sets.items; rooms = rooms } in
    let after : Rooms = record { known = vec_capacity c.put.new.items; uses = vec_capacity c.take.new.items; commits = vec_capacity i.spare } in
    let found : keyed kept_name db i.kept.locals ≡ Some l = sym c.in-Some.ensures.found in
    let free : i.kept.pending ≡ None = ap (λ (k : Catalog). k.kept.pending) c.self.view_is ∙ c.requires.free in
    let known : c.put.new.items.items ≡ with_keyed known_name (base_of l) i.known.items = c.put.ensures ∙ ap (λ (k : Known). with_keyed known_name k i.known.items) c.base_of.ensures in
    (reverted_are cat db l c.self.invariant.0 found free after c.take_local.new.locals c.put.new.items.items c.take.new.items.items c.in-Some.ensures.others known c.take.ensures.others, c.self.invariant.1)

pub returns : goal.returns
returns c =
    let db = c.args.db.now in
    let i = c.self.inside in
    let l = c.in-Some.local in
    let rooms : Rooms = record { known = vec_capacity i.known; uses = vec_capacity i.uses; commits = vec_capacity i.spare } in
    let cat : Catalog = record { kept = i.kept; known = i.known.items; uses = i.uses.items; sets = i.sets.items; rooms = rooms } in
    let after : Rooms = record { known = vec_capacity c.put.new.items; uses = vec_capacity c.take.new.items; commits = vec_capacity i.spare } in
    let found : keyed kept_name db i.kept.locals ≡ Some l = sym c.in-Some.ensures.found in
    let free : i.kept.pending ≡ None = ap (λ (k : Catalog). k.kept.pending) c.self.view_is ∙ c.requires.free in
    let known : c.put.new.items.items ≡ with_keyed known_name (base_of l) i.known.items = c.put.ensures ∙ ap (λ (k : Known). with_keyed known_name k i.known.items) c.base_of.ensures in
    subst (λ (k : Catalog). Reverts k (with_parts cat c.take_local.new.locals c.put.new.items.items c.take.new.items.items i.sets.items after) db) c.self.view_is
    (reverts cat db l c.self.invariant.0 found free after c.take_local.new.locals c.put.new.items.items c.take.new.items.items c.in-Some.ensures.others known c.take.ensures.others)
