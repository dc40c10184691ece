-- The databases while memory is taken for a commit.
use Rattle.std.proofs.Common.{◌≡◌, ◌∙◌, ℕ, ◌<◌, true, List, length, refl, sym, ap, subst, arith, Option, Some, None, inl, inr}
use Rattle.std.specs.Prelude.{IfSome, IsSome}
use Rattle.std.specs.Option.{option_map}
use Rattle.std.proofs.lemmas.Bool.{cases_eq}
use Rattle.bcv_base.specs.Image.{Writes}
use Rattle.bcv_base.specs.Keyed.{keyed}
use Rattle.bcv_base.specs.Views.{is_commit}
use Rattle.bcv_model.specs.declared.ask.Commit.{Commit}
use Rattle.bcv_model.specs.declared.kept.Local.{Local}
use Rattle.bcv_model.specs.Commits.{writes_of}
use Rattle.bcv_model.specs.Notes.{kept_name}
use Rattle.bcv_pages.specs.Held.{Held, with_room}
use Rattle.bcv_databases.specs.Catalog.{Catalog, Rooms, set_at, use_name}
use Rattle.bcv_databases.specs.Changes.{IsLaterReady}
use Rattle.bcv_databases.specs.Slots.{changed}
use Rattle.bcv_databases.specs.Sound.{AreDatabases, HasSet, IsSetOf}
use Rattle.bcv_databases.specs.declared.set_use.SetUse.{SetUse}
use Rattle.bcv_databases.proofs.Adding.{is_inside, set_found}
use Rattle.bcv_databases.proofs.OneChanged.{has_moved, if_found}
use Rattle.bcv_databases.proofs.Slots.{at_other, at_same}

some_of : {A : Type 0} (o : Option A) → IsSome o → (x : A) × (o ≡ Some x)
some_of None some = absurd cc
some_of (Some x) some = (x, refl)

-- the use of a database is that of a set
used_inside : (sets : List (Option Held)) (o : Option Local) (u : SetUse) → HasSet sets o (Some u) → u.set < length sets
used_inside sets None u has = absurd has
used_inside sets (Some l) u has = is_inside sets u.set has.0 has.1

pub use_inside : (c : Catalog) (db : List ℕ) (u : SetUse) → AreDatabases c → keyed use_name db c.uses ≡ Some u → u.set < length c.sets
use_inside c db u s is_use = used_inside c.sets (keyed kept_name db c.kept.locals) u (subst (λ (p : Option SetUse). HasSet c.sets (keyed kept_name db c.kept.locals) p) is_use (s.held db))

-- room in a set changes nothing that a database has
room_set : (w : Writes) (l : Local) (from : ℕ) (h : Held) → IsSetOf l from h → IsSetOf l from (with_room w h)
room_set w l from h is = record { size = is.size; view = record { kept = is.view.kept; order = is.view.order; there = is.view.there }; commits = is.commits }

room_has : (w : Writes) (sets : List (Option Held)) (place : ℕ) → place < length sets → (o : Option Local) (p : Option SetUse) → HasSet sets o p → HasSet (changed (with_room w) place sets) o p
room_has w sets place lt None None has = tt
room_has w sets place lt None (Some u) has = absurd has
room_has w sets place lt (Some l) None has = absurd has
room_has w sets place lt (Some l) (Some u) has = elim (cases_eq u.set place) [
  | inl e ↦ (
    with_room w has.0,
    ap (set_at (changed (with_room w) place sets)) e ∙ at_same sets place (option_map (with_room w) (set_at sets place)) lt ∙ ap (option_map (with_room w)) (ap (set_at sets) (sym e) ∙ has.1),
    room_set w l u.from has.0 has.2,
  )
  | inr other ↦ (has.0, at_other sets place u.set (option_map (with_room w) (set_at sets place)) other ∙ has.1, has.2)
]

pub room_sound : (c : Catalog) (w : Writes) (place : ℕ) (new : List (Option Held)) (rooms : Rooms) → AreDatabases c → place < length c.sets → new ≡ changed (with_room w) place c.sets
    → AreDatabases (record { kept = c.kept; known = c.known; uses = c.uses; sets = new; rooms = rooms })
room_sound c w place new rooms s lt is =
    subst (λ (xs : List (Option Held)). AreDatabases (record { kept = c.kept; known = c.known; uses = c.uses; sets = xs; rooms = rooms })) (sym is)
    (record {
      order = s.order;
      known_order = s.known_order;
      without = s.without;
      held = λ a. room_has w c.sets place lt (keyed kept_name a c.kept.locals) (keyed use_name a c.uses) (s.held a);
      uses_order = s.uses_order;
      apart = s.apart;
      pending = s.pending;
    })

-- another place without a set changes nothing either
pub place_sound : (c : Catalog) (new : List (Option Held)) (rooms : Rooms) → AreDatabases c → ((place : ℕ) → set_at new place ≡ set_at c.sets place)
    → AreDatabases (record { kept = c.kept; known = c.known; uses = c.uses; sets = new; rooms = rooms })
place_sound c new rooms s same = record {
  order = s.order;
  known_order = s.known_order;
  without = s.without;
  held = λ a.
      has_moved c.sets new (keyed kept_name a c.kept.locals) (keyed use_name a c.uses)
      (if_found (λ (v : SetUse). set_at new v.set ≡ set_at c.sets v.set) (keyed use_name a c.uses) (λ v found. same v.set)) (s.held a);
  uses_order = s.uses_order;
  apart = s.apart;
  pending = s.pending;
}

-- the memory for one more commit
pub later_ready : (c : Catalog) (db : List ℕ) (copy commit : Commit) (u : SetUse) (count : ℕ) (new : List (Option Held)) (rooms : Rooms) → AreDatabases c
    → IsSome (keyed kept_name db c.kept.locals) → IfSome (keyed kept_name db c.kept.locals) (λ l. (length l.commits ≡ count) × (is_commit l.entry.page_size (writes_of commit) ≡ true))
    → keyed use_name db c.uses ≡ Some u → copy ≡ commit → count < rooms.commits → new ≡ changed (with_room (writes_of commit)) u.set c.sets
    → IsLaterReady (record { kept = c.kept; known = c.known; uses = c.uses; sets = new; rooms = rooms }) db copy commit
later_ready c db copy commit u count new rooms s there all is_use same room new_is =
    let f : Held → Held = with_room (writes_of commit) in
    let l = some_of (keyed kept_name db c.kept.locals) there in
    let facts = subst (λ (o : Option Local). IfSome o (λ l. (length l.commits ≡ count) × (is_commit l.entry.page_size (writes_of commit) ≡ true))) l.1 all in
    let has = set_found c.sets (keyed kept_name db c.kept.locals) (keyed use_name db c.uses) l.0 u l.1 is_use (s.held db) in
    let inside : u.set < length c.sets = is_inside c.sets u.set has.0 has.1 in
    record {
      local = l.0;
      is_local = l.1;
      is_copy = same;
      room = omega (arith, facts.0, room);
      set_use = u;
      is_use = is_use;
      held = f has.0;
      is_held = ap (λ (xs : List (Option Held)). set_at xs u.set) new_is ∙ at_same c.sets u.set (option_map f (set_at c.sets u.set)) inside ∙ ap (option_map f) has.1;
      has_room = record { ready = refl; fits = ap (λ (n : ℕ). is_commit n (writes_of commit)) has.2.size ∙ facts.1 };
    }
