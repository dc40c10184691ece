-- The places of a world that begins stand for the machine's first state.
use Rattle.std.proofs.Common.{◌≡◌, ◌∙◌, ◌+◌, ◌-◌, ◌^◌, ◌<◌, ◌≤◌, ◌==◌, ℕ, zero, suc, Bool, true, false, ◌||◌, List, [], ◌∷◌, ◌++◌, length, Option, Some, None, MatchOption, slice_get, if◌then◌else◌, refl, sym, ap, subst, arith}
use Rattle.std.proofs.lemmas.Bool.{ne_eqb}
use Rattle.std.proofs.lemmas.List.{length-append}
use Rattle.std.proofs.lemmas.List.Folds.{list_any-append}
use Rattle.std.proofs.lemmas.List.FromFn.{map-range_with_len_more}
use Rattle.std.specs.List.{AllByRecursion}
use Rattle.bcv_base.specs.declared.id.Id16.{Id16}
use Rattle.bcv_base.specs.declared.log.Entry.{Entry}
use Rattle.bcv_base.specs.History.{history_of}
use Rattle.bcv_base.specs.Ids.{has_id, id_eq}
use Rattle.bcv_base.specs.Numbered.{Counter, numbered, numbered_names}
use Rattle.bcv_dbmap.specs.Honest.{AreApart}
use Rattle.bcv_dbmap.proofs.Bools.{neither_or}
use Rattle.bcv_machine.specs.State.{first_state}
use Rattle.bcv_memstore.specs.Told.{log_of}
use Rattle.bcv_slots.specs.declared.Slot.{Slot}
use Rattle.bcv_slots.specs.NumberLaws.{DifferWith}
use Rattle.bcv_worldlaws.specs.Places.{ClientPlace, FitsPlace, PlacesFit, WorldFits, place_at, world_seen}
use Rattle.bcv_worldlaws.specs.WorldLaws.{AreNewPlaces, DifferentIds, IsNewPlace}
use Rattle.bcv_worldlaws.proofs.FirstWorld.{first_state as worlds_begin}
use Rattle.bcv_worldlaws.proofs.Names.{first_apart, rest_apart}
use Rattle.bcv_worldlaws.proofs.WorldOn.{first_world_fits, numbers_are_new}
use Rattle.bcv_world.specs.FirstPlaces.{FirstPlaces}
use Rattle.bcv_world.specs.declared.place.Place.{Place}
use Rattle.bcv_world.specs.declared.world.World.{World}
use Rattle.bcv_world.specs.Standing.{IsFirst, IsNewUp, StandsAs, StandsAt, slots_in}
use Rattle.bcv_world.specs.WorldForm.{HasPlaces}
use Rattle.bcv_world.proofs.PlacesKept.{no_places, places_more}
use Rattle.bcv_world.proofs.WorldStands.{stands_as}

-- ---- one more

get_front : (ps : List ClientPlace) (x : ClientPlace) (j : ℕ) → j < length ps → slice_get (ps ++ x ∷ []) j ≡ slice_get ps j
get_front [] x j lt = absurd (omega (arith, lt))
get_front (p ∷ ps) x zero lt = refl
get_front (p ∷ ps) x (suc j) lt = get_front ps x j (omega (arith, lt))

get_last : (ps : List ClientPlace) (x : ClientPlace) → slice_get (ps ++ x ∷ []) (length ps) ≡ Some x
get_last [] x = refl
get_last (p ∷ ps) x = get_last ps x

all_more : (P : ClientPlace → Type 0) (ps : List ClientPlace) (x : ClientPlace) → AllByRecursion P ps → P x → AllByRecursion P (ps ++ x ∷ [])
all_more P [] x all is = (is, tt)
all_more P (p ∷ ps) x all is = (all.0, all_more P ps x all.1 is)

new_more : (slots : ℕ) (ids : List Id16) (ps : List ClientPlace) (i : Id16) (x : ClientPlace) → AreNewPlaces slots ids ps → IsNewPlace slots i x
    → AreNewPlaces slots (ids ++ i ∷ []) (ps ++ x ∷ [])
new_more slots [] [] i x are is = (is, tt)
new_more slots [] (p ∷ ps) i x are is = absurd are
new_more slots (j ∷ js) [] i x are is = absurd are
new_more slots (j ∷ js) (p ∷ ps) i x are is = (are.0, new_more slots js ps i x are.1 is)

names_more : (k : ℕ) → numbered_names (k + 1) ≡ numbered_names k ++ numbered (k + 1) ∷ []
names_more k = map-range_with_len_more numbered 1 k (k + 1) (omega arith)

module _ (k : ℕ) (ps : List ClientPlace) (x : ClientPlace) (many : length ps ≡ k) where
  place_front : (m : ℕ) → 1 ≤ m → m ≤ k → place_at m (ps ++ x ∷ []) ≡ place_at m ps
  place_front m low high =
      ap (λ (o : Option ClientPlace). if m == 0 then None else o) (get_front ps x (m - 1) (omega (arith, low, high, many)))

  place_last : (n : ℕ) → n ≡ k + 1 → place_at n (ps ++ x ∷ []) ≡ Some x
  place_last n next =
      let at : n - 1 ≡ length ps = omega (arith, next, many) in
      ap (λ (b : Bool). if b then None else slice_get (ps ++ x ∷ []) (n - 1)) (ne_eqb n 0 (λ e. absurd (omega (arith, e, next))))
      ∙ ap (slice_get (ps ++ x ∷ [])) at ∙ get_last ps x

pub no_first : (names : Counter) (slots : ℕ) → names.count ≡ 0 → FirstPlaces 0 names slots []
no_first names slots none =
    record { places = []; many = refl; drawn = none; each = no_places (StandsAt [] []) 0 refl; fit = tt; are_new = tt; slots_are = tt }

module _ (k n : ℕ) (names later : Counter) (slots : ℕ) (items : List (Slot Place)) (p : Place) (next : n ≡ k + 1) (with : DifferWith)
    (old : FirstPlaces k names slots items) (new : IsNewUp names later slots p) where
  abbrev more : List ClientPlace
  more = old.places ++ new.now ∷ []

  id_is : names.count + 1 ≡ n
  id_is = omega (arith, old.drawn, next)

  is_new : IsNewPlace slots (numbered (k + 1)) new.now
  is_new = subst (λ (c : ℕ). IsNewPlace slots (numbered (c + 1)) new.now) old.drawn new.is_new

  stay : (m : ℕ) (q : Place) → 1 ≤ m → m ≤ k → StandsAt [] old.places m q → StandsAt [] more m q
  stay m q low high at = subst (λ (o : Option ClientPlace). MatchOption o ⊥ (StandsAs [] q)) (sym (place_front k old.places new.now old.many m low high)) at

  last : StandsAt [] more n p
  last = subst (λ (o : Option ClientPlace). MatchOption o ⊥ (StandsAs [] p)) (sym (place_last k old.places new.now old.many n next)) new.stands

  pub one_more_place : FirstPlaces n later slots (items ++ record { number = n; item = p } ∷ [])
  one_more_place = record {
    places = more;
    many = length-append old.places (new.now ∷ []) ∙ omega (arith, old.many, next);
    drawn = new.drawn ∙ id_is;
    each = places_more (StandsAt [] old.places) (StandsAt [] more) k n items p next with old.each stay last;
    fit = all_more (FitsPlace []) old.places new.now old.fit new.fits;
    are_new =
        subst (λ (ids : List Id16). AreNewPlaces slots ids more) (sym (names_more k) ∙ ap numbered_names (sym next))
        (new_more slots (numbered_names k) old.places (numbered (k + 1)) new.now old.are_new is_new);
    slots_are = all_more (λ q. slots_in q ≡ slots) old.places new.now old.slots_are new.given;
  }

-- ---- the names of new clients

both_differ : (a b : List Id16) → DifferentIds a → DifferentIds b → AreApart a b → DifferentIds (a ++ b)
both_differ [] b da db apart = db
both_differ (i ∷ is) b da db apart =
    (list_any-append (λ (j : Id16). id_eq j i) is b ∙ neither_or (has_id i is) (has_id i b) da.0 (first_apart i is b apart), both_differ is b da.1 db (rest_apart i is b apart))

names_differ : (k : ℕ) → k < 2 ^ 128 → DifferentIds (numbered_names k)
names_differ zero small = tt
names_differ (suc k) small =
    let suc_is : k + 1 ≡ suc k = omega arith in
    let more : numbered_names (suc k) ≡ numbered_names k ++ numbered (k + 1) ∷ [] = ap numbered_names (sym suc_is) ∙ names_more k in
    subst DifferentIds (sym more)
    (both_differ (numbered_names k) (numbered (k + 1) ∷ []) (names_differ k (omega (arith, small))) (refl, tt)
    (numbers_are_new k (suc k) (numbered (k + 1) ∷ []) small more))

-- ---- the world

-- a world of such places over an empty store, at the moment 0, is the machine's first state
pub is_first : (w : World) (names : Counter) → FirstPlaces w.spec.clients names w.spec.slots w.places.items → w.spec.clients ≤ 16 → w.around.names ≡ names
    → log_of w.around.store ≡ [] → w.moment ≡ 0 → IsFirst w
is_first w names f few drawn empty begins =
    let differ : DifferentIds (numbered_names w.spec.clients) = names_differ w.spec.clients (omega (arith, few)) in
    let fits : WorldFits (numbered_names names.count) [] f.places =
    subst (λ (n : ℕ). WorldFits (numbered_names n) [] f.places) (sym f.drawn) (first_world_fits w.spec.slots (numbered_names w.spec.clients) f.places f.are_new differ f.fit) in
    let begin = worlds_begin w.spec.slots (numbered_names w.spec.clients) f.places f.are_new differ in
    record {
      places = f.places;
      stands = stands_as w f.places w.spec.clients w.spec.slots names [] w.places.items refl refl drawn empty refl f.many fits f.each f.slots_are;
      state =
          ap (λ (m : ℕ). world_seen m (history_of (log_of w.around.store)) f.places) begins
          ∙ ap (λ (log : List Entry). world_seen 0 (history_of log) f.places) empty
          ∙ begin.state ∙ ap (λ (n : ℕ). first_state n w.spec.slots) f.many;
    }
