use Rattle.std.proofs.Common.{◌≡◌, ◌∙◌, Option, Some, length, ap, sym, subst, arith}
use Rattle.std.specs.Vec.{vec_capacity}
use Rattle.bcv_base.specs.Keyed.{with_keyed, with_made}
use Rattle.bcv_databases.specs.Catalog.{Catalog, Rooms, known_name}
use Rattle.bcv_databases.specs.Changes.{known_left}
use Rattle.bcv_databases.specs.declared.known.Known.{Known}
use Rattle.bcv_databases.specs.Sound.{KeepsViews}
use Rattle.bcv_databases.proofs.Resolved.{known_more, left_without}
use Rattle.bcv_databases.proofs.databases.Databases.resolved.Goals as goal

pub put-requires : goal.put-requires
put-requires c =
    let i = c.self.inside in
    let known : length i.known.items ≡ length c.args.self.now.known = ap (λ (k : Catalog). length k.known) c.self.view_is ∙ ap length c.end_pending.ensures.known in
    let room : vec_capacity i.known ≡ c.args.self.now.rooms.known = ap (λ (k : Catalog). k.rooms.known) c.self.view_is ∙ c.end_pending.ensures.rooms in
    omega (arith, c.requires, known, room, i.known.ok)

pub invariant_of-self : goal.invariant_of-self
invariant_of-self c =
    let i = c.self.inside in
    let rooms : Rooms = record { known = vec_capacity i.known; uses = vec_capacity i.uses; commits = vec_capacity i.spare } in
    let cat : Catalog = record { kept = i.kept; known = i.known.items; uses = i.uses.items; sets = i.sets.items; rooms = rooms } in
    let after : Rooms = record { known = vec_capacity c.put.new.items; uses = vec_capacity i.uses; commits = vec_capacity i.spare } in
    let left : known_left c.args.number i.kept.locals c.args.self.now.kept.pending ≡ Some c.in-Some.known =
    ap (λ (k : Catalog). known_left c.args.number k.kept.locals c.args.self.now.kept.pending) c.self.view_is ∙ sym c.in-Some.ensures.left in
    (known_more cat c.in-Some.known c.put.new.items.items after c.self.invariant.0 (left_without c.args.number i.kept.locals c.args.self.now.kept.pending c.in-Some.known left) c.put.ensures, c.self.invariant.1)

pub returns-in-Some : goal.returns-in-Some
returns-in-Some c =
    let i = c.self.inside in
    let old = c.args.self.now in
    let left : known_left c.args.number i.kept.locals old.kept.pending ≡ Some c.in-Some.known =
    ap (λ (k : Catalog). known_left c.args.number k.kept.locals old.kept.pending) c.self.view_is ∙ sym c.in-Some.ensures.left in
    let known : i.known.items ≡ old.known = ap (λ (k : Catalog). k.known) c.self.view_is ∙ c.end_pending.ensures.known in
    record {
      kept = λ id. ap (λ (k : Catalog). k.kept) c.self.view_is ∙ c.end_pending.ensures.kept id;
      known = c.put.ensures ∙ ap (with_keyed known_name c.in-Some.known) known ∙ ap (λ (o : Option Known). with_made known_name o old.known) (sym left);
      views = subst (λ (k : Catalog). KeepsViews old.sets k.sets) (sym c.self.view_is) c.end_pending.ensures.views;
    }

pub returns-in_default : goal.returns-in_default
returns-in_default c = record {
  kept = c.end_pending.ensures.kept;
  known = c.end_pending.ensures.known ∙ ap (λ (o : Option Known). with_made known_name o c.args.self.now.known) (sym c.in_default.is ∙ c.end_pending.ensures.left);
  views = c.end_pending.ensures.views;
}
