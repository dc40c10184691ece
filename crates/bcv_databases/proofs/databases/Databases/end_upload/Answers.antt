use Rattle.std.proofs.Common.{◌≡◌, ◌∙◌, ◌<◌, ◌≤◌, ◌+◌, ℕ, List, Option, Some, None, is_some, ap, sym, subst, arith}
use Rattle.std.specs.Prelude.{IfSome, option_and_then}
use Rattle.std.specs.Vec.{vec_capacity}
use Rattle.std.proofs.lemmas.Option.{same_Some}
use Rattle.bcv_base.specs.Keyed.{keyed}
use Rattle.bcv_pages.specs.Held.{Held, last_of}
use Rattle.bcv_databases.specs.Catalog.{Catalog, Rooms, commits_of, use_name}
use Rattle.bcv_databases.specs.Slots.{uses_after}
use Rattle.bcv_databases.specs.Sound.{CanUpload, KeepsViews}
use Rattle.bcv_databases.specs.declared.database_view.CommitsAt.{CommitsAt}
use Rattle.bcv_databases.specs.declared.set_use.SetUse.{SetUse}
use Rattle.bcv_databases.proofs.Slots.{keeps_all}
use Rattle.bcv_databases.proofs.UploadEnds.{has_set, has_use, is_at, small_from, upload_ends}
use Rattle.bcv_databases.proofs.databases.Databases.end_upload.Goals as goal

pub end_use-requires-clause-small : goal.end_use-requires-clause-small
end_use-requires-clause-small c ends =
    let i = c.self.inside in
    let up = c.args.upload in
    let n = c.args.number in
    let rooms : Rooms = record { known = vec_capacity i.known; uses = vec_capacity i.uses; commits = vec_capacity i.spare } in
    let cat : Catalog = record { kept = i.kept; known = i.known.items; uses = i.uses.items; sets = i.sets.items; rooms = rooms } in
    let free : i.kept.pending ≡ None = ap (λ (k : Catalog). k.kept.pending) c.self.view_is ∙ c.requires.free in
    let can : CanUpload i.kept.locals up = subst (λ (k : Catalog). CanUpload k.kept.locals up) (sym c.self.view_is) c.requires.there in
    let s = c.self.invariant.0 in
    let used = has_use cat n up s free can in
    let its = has_set cat n up s free can in
    let at : Some c.in-Some.at ≡ option_and_then (commits_of i.sets.items) (keyed use_name up.entry.name i.uses.items) =
    c.in-Some.ensures
    ∙ ap (λ (xs : List (Option Held)). option_and_then (commits_of xs) (keyed use_name c.upload_name-db.result c.deref.result.now)) c.deref-2.ensures.value
    ∙ ap (λ (us : List SetUse). option_and_then (commits_of i.sets.items) (keyed use_name c.upload_name-db.result us)) c.deref.ensures.value
    ∙ ap (λ (k : List ℕ). option_and_then (commits_of i.sets.items) (keyed use_name k i.uses.items)) c.upload_name-db.ensures in
    let end : CommitsAt = record { set = used.0.set; from = used.0.from; to = last_of its.0 } in
    let to_is : c.in-Some.at.to ≡ last_of its.0 = ap (λ (z : CommitsAt). z.to) (same_Some c.in-Some.at end (at ∙ is_at cat n up s free can)) in
    let small : used.0.from + up.count < last_of its.0 =
    small_from cat n up s free can c.end_upload-left.new.locals c.end_upload-left.ensures.locals c.end_upload-left.result c.end_upload-left.ensures.known (sym c.is_some.ensures ∙ ends) in
    let found : keyed use_name c.upload_name-db.result i.uses.items ≡ Some used.0 = ap (λ (k : List ℕ). keyed use_name k i.uses.items) c.upload_name-db.ensures ∙ used.1 in
    subst (λ (o : Option SetUse). IfSome o (λ u. u.from + up.count ≤ c.in-Some.at.to)) (sym found) (omega (arith, small, to_is))

pub invariant_of-self : goal.invariant_of-self
invariant_of-self c =
    let i = c.self.inside in
    let up = c.args.upload in
    let rooms : Rooms = record { known = vec_capacity i.known; uses = vec_capacity i.uses; commits = vec_capacity i.spare } in
    let cat : Catalog = record { kept = i.kept; known = i.known.items; uses = i.uses.items; sets = i.sets.items; rooms = rooms } in
    let after : Rooms = record { known = vec_capacity i.known; uses = vec_capacity c.end_use.new.uses; commits = vec_capacity i.spare } in
    let free : i.kept.pending ≡ None = ap (λ (k : Catalog). k.kept.pending) c.self.view_is ∙ c.requires.free in
    let can : CanUpload i.kept.locals up = subst (λ (k : Catalog). CanUpload k.kept.locals up) (sym c.self.view_is) c.requires.there in
    let uses = c.end_use.ensures ∙ ap (λ b. uses_after b c.upload_name-db.result up.count i.uses.items) c.is_some.ensures ∙ ap (λ (k : List ℕ). uses_after (is_some c.end_upload-left.result) k up.count i.uses.items) c.upload_name-db.ensures in
    (upload_ends cat c.args.number up c.self.invariant.0 free can c.end_upload-left.new.locals c.end_upload-left.ensures.locals c.end_use.new.uses.items after c.end_upload-left.result c.end_upload-left.ensures.known uses, c.self.invariant.1)

pub returns-clause-views : goal.returns-clause-views
returns-clause-views c = subst (λ (k : Catalog). KeepsViews k.sets c.self.inside.sets.items) c.self.view_is (keeps_all c.self.inside.sets.items)
