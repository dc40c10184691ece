use Rattle.std.proofs.Common.{◌≡◌, ◌∙◌, ◌<◌, Some, true, length, ap, refl, sym, subst, arith}
use Rattle.std.specs.Vec.{vec_capacity}
use Rattle.bcv_base.specs.Keyed.{keyed}
use Rattle.bcv_base.specs.Views.{is_commit}
use Rattle.bcv_model.specs.Notes.{kept_name}
use Rattle.std.specs.Prelude.{IfSome, IsSome}
use Rattle.bcv_model.specs.Commits.{writes_of}
use Rattle.bcv_pages.specs.Held.{with_room}
use Rattle.bcv_databases.specs.Catalog.{Catalog, Rooms, use_name}
use Rattle.bcv_databases.specs.Sound.{KeepsViews}
use Rattle.bcv_databases.proofs.Ends.{same_over}
use Rattle.bcv_databases.proofs.Readying.{later_ready, room_sound, use_inside}
use Rattle.bcv_databases.proofs.SetViews.{keeps_changed}
use Rattle.bcv_databases.proofs.Slots.{keeps_all, room_keeps}
use Rattle.bcv_databases.proofs.databases.Databases.ready_later.Goals as goal

pub returns-in_err-reserve-clause-same : goal.returns-in_err-reserve-clause-same
returns-in_err-reserve-clause-same c = same_over c.args.self.now _ _ c.self.view_is refl refl (keeps_all c.self.inside.sets.items)

pub returns-in_err-copy-clause-same : goal.returns-in_err-copy-clause-same
returns-in_err-copy-clause-same c = same_over c.args.self.now _ _ c.self.view_is refl refl (keeps_all c.self.inside.sets.items)

pub reserve_in-requires-clause-inside : goal.reserve_in-requires-clause-inside
reserve_in-requires-clause-inside c =
    let i = c.self.inside in
    let cat : Catalog = record { kept = i.kept; known = i.known.items; uses = i.uses.items; sets = i.sets.items; rooms = record { known = vec_capacity i.known; uses = vec_capacity i.uses; commits = vec_capacity i.spare } } in
    use_inside cat c.args.db.now c.in-Some.used.now c.self.invariant.0 (sym (c.in-Some.ensures ∙ ap (keyed use_name c.args.db.now) c.deref.ensures.value))

pub returns-in_err-reserve_in-clause-same : goal.returns-in_err-reserve_in-clause-same
returns-in_err-reserve_in-clause-same c =
    same_over c.args.self.now _ _ c.self.view_is refl refl (subst (KeepsViews c.self.inside.sets.items) (sym c.in_err-reserve_in.ensures) (keeps_all c.self.inside.sets.items))

pub invariant_of-self-2 : goal.invariant_of-self-2
invariant_of-self-2 c =
    let i = c.self.inside in
    let cat : Catalog = record { kept = i.kept; known = i.known.items; uses = i.uses.items; sets = i.sets.items; rooms = record { known = vec_capacity i.known; uses = vec_capacity i.uses; commits = vec_capacity i.spare } } in
    let used : keyed use_name c.args.db.now i.uses.items ≡ Some c.in-Some.used.now = sym (c.in-Some.ensures ∙ ap (keyed use_name c.args.db.now) c.deref.ensures.value) in
    let after : Rooms = record { known = vec_capacity i.known; uses = vec_capacity i.uses; commits = vec_capacity c.reserve.new.self } in (
      room_sound cat (writes_of c.args.commit.now) c.in-Some.used.now.set c.reserve_in.new.sets.items after c.self.invariant.0 (use_inside cat c.args.db.now c.in-Some.used.now c.self.invariant.0 used) c.in_ok-reserve_in.ensures,
      c.reserve.ensures.items ∙ c.self.invariant.1,
    )

pub returns-clause-same : goal.returns-clause-same
returns-clause-same c =
    let i = c.self.inside in
    let w = writes_of c.args.commit.now in
    let cat : Catalog = record { kept = i.kept; known = i.known.items; uses = i.uses.items; sets = i.sets.items; rooms = record { known = vec_capacity i.known; uses = vec_capacity i.uses; commits = vec_capacity i.spare } } in
    let used : keyed use_name c.args.db.now i.uses.items ≡ Some c.in-Some.used.now = sym (c.in-Some.ensures ∙ ap (keyed use_name c.args.db.now) c.deref.ensures.value) in
    same_over c.args.self.now _ _ c.self.view_is refl refl
    (subst (KeepsViews i.sets.items) (sym c.in_ok-reserve_in.ensures) (keeps_changed (with_room w) (room_keeps w) (λ h. refl) i.sets.items c.in-Some.used.now.set (use_inside cat c.args.db.now c.in-Some.used.now c.self.invariant.0 used)))

pub returns-clause-ready : goal.returns-clause-ready
returns-clause-ready c =
    let i = c.self.inside in
    let db = c.args.db.now in
    let cat : Catalog = record { kept = i.kept; known = i.known.items; uses = i.uses.items; sets = i.sets.items; rooms = record { known = vec_capacity i.known; uses = vec_capacity i.uses; commits = vec_capacity i.spare } } in
    let used : keyed use_name db i.uses.items ≡ Some c.in-Some.used.now = sym (c.in-Some.ensures ∙ ap (keyed use_name db) c.deref.ensures.value) in
    let after : Rooms = record { known = vec_capacity i.known; uses = vec_capacity i.uses; commits = vec_capacity c.reserve.new.self } in
    let back = sym c.self.view_is in
    let room : c.args.count < vec_capacity c.reserve.new.self = omega (arith, c.in_ok-reserve.ensures.ok) in
    later_ready cat db c.in_ok-copy.copy c.args.commit.now c.in-Some.used.now c.args.count c.reserve_in.new.sets.items after c.self.invariant.0
    (subst (λ (k : Catalog). IsSome (keyed kept_name db k.kept.locals)) back c.requires.there)
    (subst (λ (k : Catalog). IfSome (keyed kept_name db k.kept.locals) (λ l. (length l.commits ≡ c.args.count) × (is_commit l.entry.page_size (writes_of c.args.commit.now) ≡ true))) back c.requires.local)
    used c.in_ok-copy.ensures room c.in_ok-reserve_in.ensures
