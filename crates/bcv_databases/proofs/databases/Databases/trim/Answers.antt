use Rattle.std.proofs.Common.{◌≡◌, ◌∙◌, ◌<◌, ◌≤◌, List, Option, Some, None, length, ap, sym, subst, arith}
use Rattle.std.specs.Prelude.{IfSome}
use Rattle.std.specs.Vec.{vec_capacity}
use Rattle.bcv_pages.specs.Held.{Held}
use Rattle.bcv_databases.specs.Catalog.{Catalog, Rooms}
use Rattle.bcv_databases.specs.Changes.{KeepsFrom, Trims, needed_from}
use Rattle.bcv_databases.specs.Sound.{AreDatabases}
use Rattle.bcv_databases.specs.declared.set_use.SetUse.{SetUse}
use Rattle.bcv_databases.proofs.Trimmed.{dropped_sound, dropped_trims, forgot_sound, forgot_trims, forgot_views}
use Rattle.bcv_databases.proofs.databases.Databases.trim.Goals as goal

pub invariant_of-self : goal.invariant_of-self
invariant_of-self c =
    let i = c.self.inside in
    let place = c.args.set in
    let rooms : Rooms = record { known = vec_capacity i.known; uses = vec_capacity i.uses; commits = vec_capacity i.spare } in
    let cat : Catalog = record { kept = i.kept; known = i.known.items; uses = i.uses.items; sets = i.sets.items; rooms = rooms } in
    let inside : place < length i.sets.items = omega (arith, c.if-set-len.false, c.len.ensures) in
    let needed : Some c.in-Some.upto ≡ needed_from i.uses.items place c.args.oldest = c.in-Some.ensures ∙ ap (λ (us : List SetUse). needed_from us place c.args.oldest) c.deref.ensures.value in
    (forgot_sound cat c.self.invariant.0 place c.args.oldest rooms c.in-Some.upto needed inside c.forget_in.ensures.views c.forget_in.new.sets.items c.forget_in.ensures.sets, c.self.invariant.1)

pub returns-in-Some-clause-trims : goal.returns-in-Some-clause-trims
returns-in-Some-clause-trims c =
    let i = c.self.inside in
    let place = c.args.set in
    let rooms : Rooms = record { known = vec_capacity i.known; uses = vec_capacity i.uses; commits = vec_capacity i.spare } in
    let cat : Catalog = record { kept = i.kept; known = i.known.items; uses = i.uses.items; sets = i.sets.items; rooms = rooms } in
    let inside : place < length i.sets.items = omega (arith, c.if-set-len.false, c.len.ensures) in
    let needed : Some c.in-Some.upto ≡ needed_from i.uses.items place c.args.oldest = c.in-Some.ensures ∙ ap (λ (us : List SetUse). needed_from us place c.args.oldest) c.deref.ensures.value in
    subst (λ (k : Catalog). Trims k (record { kept = i.kept; known = i.known.items; uses = i.uses.items; sets = c.forget_in.new.sets.items; rooms = rooms }) place c.args.oldest) c.self.view_is
    (forgot_trims cat c.self.invariant.0 place c.args.oldest rooms c.in-Some.upto needed inside c.forget_in.ensures.views c.forget_in.new.sets.items c.forget_in.ensures.sets)

pub returns-in-Some-clause-views : goal.returns-in-Some-clause-views
returns-in-Some-clause-views c from to =
    let i = c.self.inside in
    let place = c.args.set in
    let rooms : Rooms = record { known = vec_capacity i.known; uses = vec_capacity i.uses; commits = vec_capacity i.spare } in
    let cat : Catalog = record { kept = i.kept; known = i.known.items; uses = i.uses.items; sets = i.sets.items; rooms = rooms } in
    let inside : place < length i.sets.items = omega (arith, c.if-set-len.false, c.len.ensures) in
    let needed : Some c.in-Some.upto ≡ needed_from i.uses.items place c.args.oldest = c.in-Some.ensures ∙ ap (λ (us : List SetUse). needed_from us place c.args.oldest) c.deref.ensures.value in
    subst (λ (k : Catalog). IfSome c.args.oldest (λ o. o ≤ from → KeepsFrom k.sets c.forget_in.new.sets.items place from to)) c.self.view_is
    (forgot_views cat c.self.invariant.0 place c.args.oldest rooms c.in-Some.upto needed inside c.forget_in.ensures.views c.forget_in.new.sets.items c.forget_in.ensures.sets from to)

pub invariant_of-self-in-None : goal.invariant_of-self-in-None
invariant_of-self-in-None c =
    let i = c.self.inside in
    let place = c.args.set in
    let rooms : Rooms = record { known = vec_capacity i.known; uses = vec_capacity i.uses; commits = vec_capacity i.spare } in
    let cat : Catalog = record { kept = i.kept; known = i.known.items; uses = i.uses.items; sets = i.sets.items; rooms = rooms } in
    let inside : place < length i.sets.items = omega (arith, c.if-set-len.false, c.len.ensures) in
    let needed : None ≡ needed_from i.uses.items place c.args.oldest = c.in-None.ensures ∙ ap (λ (us : List SetUse). needed_from us place c.args.oldest) c.deref.ensures.value in (
      subst (λ (xs : List (Option Held)). AreDatabases (record { kept = i.kept; known = i.known.items; uses = i.uses.items; sets = xs; rooms = rooms })) (sym c.drop_in.ensures)
          (dropped_sound cat c.self.invariant.0 place c.args.oldest rooms needed inside),
      c.self.invariant.1,
    )

pub returns-in-None-clause-trims : goal.returns-in-None-clause-trims
returns-in-None-clause-trims c =
    let i = c.self.inside in
    let place = c.args.set in
    let rooms : Rooms = record { known = vec_capacity i.known; uses = vec_capacity i.uses; commits = vec_capacity i.spare } in
    let cat : Catalog = record { kept = i.kept; known = i.known.items; uses = i.uses.items; sets = i.sets.items; rooms = rooms } in
    let inside : place < length i.sets.items = omega (arith, c.if-set-len.false, c.len.ensures) in
    let needed : None ≡ needed_from i.uses.items place c.args.oldest = c.in-None.ensures ∙ ap (λ (us : List SetUse). needed_from us place c.args.oldest) c.deref.ensures.value in
    subst (λ (k : Catalog). Trims k (record { kept = i.kept; known = i.known.items; uses = i.uses.items; sets = c.drop_in.new.sets.items; rooms = rooms }) place c.args.oldest) c.self.view_is
    (subst (λ (xs : List (Option Held)). Trims cat (record { kept = i.kept; known = i.known.items; uses = i.uses.items; sets = xs; rooms = rooms }) place c.args.oldest) (sym c.drop_in.ensures)
    (dropped_trims cat c.self.invariant.0 place c.args.oldest rooms needed inside))
