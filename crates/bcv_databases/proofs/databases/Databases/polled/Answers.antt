use Rattle.std.proofs.Common.{◌≡◌, rules, not, is_some, subst}
use Rattle.std.specs.Vec.{vec_capacity}
use Rattle.std.proofs.lemmas.Fn.{filter_same}
use Rattle.bcv_base.specs.Keyed.{keyed}
use Rattle.bcv_model.specs.Notes.{kept_name}
use Rattle.bcv_databases.specs.Catalog.{Catalog, Rooms, known_name}
use Rattle.bcv_databases.specs.Changes.{Polls, known_at}
use Rattle.bcv_databases.specs.declared.known.Known.{Known}
use Rattle.bcv_databases.proofs.Parts.{with_parts}
use Rattle.bcv_databases.proofs.Polled.{polled_are, polls}
use Rattle.bcv_databases.proofs.databases.Databases.polled.Goals as goal

pub invariant_of-self : goal.invariant_of-self
invariant_of-self c =
    let i = c.self.inside in
    let rooms : Rooms = record { known = vec_capacity i.known; uses = vec_capacity i.uses; commits = vec_capacity i.spare } in
    let cat : Catalog = record { kept = i.kept; known = i.known.items; uses = i.uses.items; sets = i.sets.items; rooms = rooms } in
    let after : Rooms = record { known = vec_capacity c.retain.new.self; uses = vec_capacity i.uses; commits = vec_capacity i.spare } in
    let known : c.retain.new.self.items ≡ known_at i.kept c.args.found.items =
    filter_same _ (λ (x : Known). not (is_some (keyed kept_name (known_name x) i.kept.locals))) _ (λ x r f' k. search rules) _ _ c.retain.ensures.filtered in
    (polled_are cat c.self.invariant.0 c.args.found.items c.retain.new.self.items after c.requires known, c.self.invariant.1)

pub returns : goal.returns
returns c =
    let i = c.self.inside in
    let rooms : Rooms = record { known = vec_capacity i.known; uses = vec_capacity i.uses; commits = vec_capacity i.spare } in
    let cat : Catalog = record { kept = i.kept; known = i.known.items; uses = i.uses.items; sets = i.sets.items; rooms = rooms } in
    let after : Rooms = record { known = vec_capacity c.retain.new.self; uses = vec_capacity i.uses; commits = vec_capacity i.spare } in
    let known : c.retain.new.self.items ≡ known_at i.kept c.args.found.items =
    filter_same _ (λ (x : Known). not (is_some (keyed kept_name (known_name x) i.kept.locals))) _ (λ x r f' k. search rules) _ _ c.retain.ensures.filtered in
    subst (λ (k : Catalog). Polls k (with_parts cat i.kept.locals c.retain.new.self.items i.uses.items i.sets.items after) c.args.found.items) c.self.view_is
    (polls cat c.self.invariant.0 c.args.found.items c.retain.new.self.items after c.requires known)
