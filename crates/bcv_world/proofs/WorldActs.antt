-- One place of a world acts: the world stands for the places after it, and the machine takes the event.
use Rattle.std.proofs.Common.{◌≡◌, ◌≢◌, ◌∙◌, ◌+◌, ◌-◌, ◌^◌, ◌<◌, ◌≤◌, ◌==◌, ◌⊎◌, inl, inr, ℕ, zero, suc, Bool, false, List, [], ◌∷◌, ◌++◌, length, Option, Some, None, MatchOption, slice_get, slice_set, append-nil, if◌then◌else◌, refl, sym, ap, subst, arith}
use Rattle.std.proofs.lemmas.Bool.{ne_eqb}
use Rattle.std.proofs.lemmas.Option.{same_Some}
use Rattle.std.specs.List.{AllByRecursion}
use Rattle.bcv_base.specs.declared.id.Id16.{Id16}
use Rattle.bcv_base.specs.declared.log.Entry.{Entry}
use Rattle.bcv_base.specs.History.{history_of}
use Rattle.bcv_base.specs.Ids.{has_id}
use Rattle.bcv_base.specs.Numbered.{Counter, numbered_names}
use Rattle.bcv_clientlaws.specs.OtherParts.{Includes}
use Rattle.bcv_client.specs.TaskCalls.{AreNew}
use Rattle.bcv_dbmap.specs.Growth.{AreLawful}
use Rattle.bcv_dbmap.specs.Honest.{AreApart}
use Rattle.bcv_dbmap.specs.RequestGrowth.{RequestGrowth}
use Rattle.bcv_dbmap.specs.Sound.{IsSoundLog}
use Rattle.bcv_machine.specs.Step.{Choice, Next, drawn_by}
use Rattle.bcv_model.specs.declared.event.Act.{Act}
use Rattle.bcv_model.specs.declared.event.Event.TheVariants as event
use Rattle.bcv_model.specs.declared.reply.Reply.{Reply}
use Rattle.bcv_model.specs.declared.reply.Reply.TheVariants as reply
use Rattle.bcv_model.specs.declared.reply.Said.{Said}
use Rattle.bcv_publisher.specs.PutStep.{version_added}
use Rattle.bcv_slots.specs.declared.Slot.{Slot}
use Rattle.bcv_slots.specs.Numbered.{item_at, other_slots}
use Rattle.bcv_slots.specs.NumberLaws.{DifferWith, DifferWithout, OthersHaveNone}
use Rattle.bcv_worldlaws.specs.Places.{ClientPlace, DownPlace, UpPlace, ArePlacesApart, AwayFrom, FitsPlace, IsUnknown, WorldFits, place_at, place_names, with_place, world_seen}
use Rattle.bcv_worldlaws.specs.WorldLaws.{AreAwayNames, WorldStep}
use Rattle.bcv_worldlaws.proofs.Acting.{grew_alone, own_lawful}
use Rattle.bcv_worldlaws.proofs.Names.{apart_turned, both_apart}
use Rattle.bcv_worldlaws.proofs.WorldOn.{act_goes_on, new_names_are_away, numbers_are_new, world_goes_on}
use Rattle.bcv_world.specs.declared.place.Place.{Place}
use Rattle.bcv_world.specs.declared.place.Place.TheVariants as place
use Rattle.bcv_world.specs.Standing.{ActsAs, PlaceActs, StandsAs, StandsAt, slots_in}
use Rattle.bcv_world.specs.WorldForm.{HasPlaces}
use Rattle.bcv_world.proofs.PlacesKept.{places_put}
use Rattle.bcv_world.proofs.PlacesOver.{place_over}

-- ---- places by their numbers

set_here : (ps : List ClientPlace) (k : ℕ) (old new : ClientPlace) → slice_get ps k ≡ Some old → slice_get (slice_set ps k new) k ≡ Some new
set_here [] k old new at = absurd (let none : None ≡ Some old = at in cc)
set_here (p ∷ ps) zero old new at = refl
set_here (p ∷ ps) (suc k) old new at = set_here ps k old new at

set_other : (ps : List ClientPlace) (k j : ℕ) (new : ClientPlace) → (j ≡ k → ⊥) → slice_get (slice_set ps k new) j ≡ slice_get ps j
set_other [] k j new ne = refl
set_other (p ∷ ps) zero zero new ne = absurd (ne refl)
set_other (p ∷ ps) zero (suc j) new ne = refl
set_other (p ∷ ps) (suc k) zero new ne = refl
set_other (p ∷ ps) (suc k) (suc j) new ne = set_other ps k j new (λ same. ne (ap suc same))

pub set_length : (ps : List ClientPlace) (k : ℕ) (new : ClientPlace) → length (slice_set ps k new) ≡ length ps
set_length [] k new = refl
set_length (p ∷ ps) zero new = refl
set_length (p ∷ ps) (suc k) new = ap suc (set_length ps k new)

set_all : (P : ClientPlace → Type 0) (ps : List ClientPlace) (k : ℕ) (new : ClientPlace) → AllByRecursion P ps → P new → AllByRecursion P (slice_set ps k new)
set_all P [] k new all is = tt
set_all P (p ∷ ps) zero new all is = (is, all.1)
set_all P (p ∷ ps) (suc k) new all is = (all.0, set_all P ps k new all.1 is)

pub all_at : (P : ClientPlace → Type 0) (ps : List ClientPlace) (k : ℕ) (x : ClientPlace) → AllByRecursion P ps → slice_get ps k ≡ Some x → P x
all_at P [] k x all at = absurd (let none : None ≡ Some x = at in cc)
all_at P (p ∷ ps) zero x all at = subst P (same_Some p x at) all.0
all_at P (p ∷ ps) (suc k) x all at = all_at P ps k x all.1 at

module _ (n : ℕ) (from : 1 ≤ n) (places : List ClientPlace) where
  pub at_number : place_at n places ≡ slice_get places (n - 1)
  at_number = ap (λ (b : Bool). if b then None else slice_get places (n - 1)) (ne_eqb n 0 (λ e. absurd (omega (arith, e, from))))

  pub put_here : (old new : ClientPlace) → place_at n places ≡ Some old → place_at n (with_place n new places) ≡ Some new
  put_here old new at =
      ap (λ (b : Bool). if b then None else slice_get (with_place n new places) (n - 1)) (ne_eqb n 0 (λ e. absurd (omega (arith, e, from))))
      ∙ set_here places (n - 1) old new (sym at_number ∙ at)

  pub put_other : (m : ℕ) (new : ClientPlace) → 1 ≤ m → (m ≡ n → ⊥) → place_at m (with_place n new places) ≡ place_at m places
  put_other m new low ne =
      let first : (m == 0) ≡ false = ne_eqb m 0 (λ e. absurd (omega (arith, e, low))) in
      let differ : m - 1 ≡ n - 1 → ⊥ = λ same. ne (omega (arith, same, low, from)) in
      ap (λ (b : Bool). if b then None else slice_get (with_place n new places) (m - 1)) first ∙ set_other places (n - 1) (m - 1) new differ
      ∙ sym (ap (λ (b : Bool). if b then None else slice_get places (m - 1)) first)

-- ---- places of different numbers

away_at : (names : List Id16) (ps : List ClientPlace) (k : ℕ) (x : ClientPlace) → AwayFrom names ps → slice_get ps k ≡ Some x → AreApart names (place_names x)
away_at names ps k x away at = all_at (λ p. AreApart names (place_names p)) ps k x away at

apart_at : (ps : List ClientPlace) (j k : ℕ) (a b : ClientPlace) → ArePlacesApart ps → slice_get ps j ≡ Some a → slice_get ps k ≡ Some b → (k ≡ j → ⊥)
    → AreApart (place_names a) (place_names b)
apart_at [] j k a b apart at there ne = absurd (let none : None ≡ Some a = at in cc)
apart_at (p ∷ ps) zero zero a b apart at there ne = absurd (ne refl)
apart_at (p ∷ ps) zero (suc k) a b apart at there ne =
    subst (λ (x : ClientPlace). AreApart (place_names x) (place_names b)) (same_Some p a at) (away_at (place_names p) ps k b apart.0 there)
apart_at (p ∷ ps) (suc j) zero a b apart at there ne =
    apart_turned (place_names b) (place_names a)
    (subst (λ (x : ClientPlace). AreApart (place_names x) (place_names a)) (same_Some p b there) (away_at (place_names p) ps j a apart.0 at))
apart_at (p ∷ ps) (suc j) (suc k) a b apart at there ne = apart_at ps j k a b apart.1 at there (λ same. ne (ap suc same))

-- ---- the world

module _ (names : List Id16) (before after : List Entry) (places : List ClientPlace) (moment count : ℕ) (slots : List (Slot Place))
    (n : ℕ) (from : 1 ≤ n) (to : n ≤ count) (old new : Place) (what : Act) (r : Reply) (ids : List Id16) (was : ClientPlace)
    (fits : WorldFits names before places) (each : HasPlaces (StandsAt before places) count slots)
    (apart : AreApart names ids) (at : place_at n places ≡ Some was)
    (acts : ActsAs before after moment ids new was what r) where
  abbrev mine : List Id16
  mine = place_names was ++ ids

  abbrev pub later : List ClientPlace
  later = with_place n acts.now places

  abbrev pub own : List Entry
  own = acts.growth.own

  abbrev pub moved : List (Slot Place)
  moved = other_slots n slots ++ record { number = n; item = new } ∷ []

  pub grew : after ≡ before ++ own
  grew = grew_alone mine before after acts.growth

  -- the entry keeps away from the names of another place
  leaves : (m : ℕ) → 1 ≤ m → (m ≡ n → ⊥) → (x : ClientPlace) → place_at m places ≡ Some x → AreLawful (place_names x) (history_of before) own
  leaves m low ne x there =
      let here : slice_get places (n - 1) ≡ Some was = sym (at_number n from places) ∙ at in
      let other : slice_get places (m - 1) ≡ Some x = sym (at_number m low places) ∙ there in
      let differ : m - 1 ≡ n - 1 → ⊥ = λ same. ne (omega (arith, same, low, from)) in
      let away : AwayFrom ids places = (new_names_are_away names ids before places fits apart).away in
      own_lawful mine before after acts.growth (place_names x)
      (both_apart (place_names was) ids (place_names x) (apart_at places (n - 1) (m - 1) was x fits.apart here other differ) (away_at ids places (m - 1) x away other))

  others_over : (m : ℕ) (p : Place) (o : Option ClientPlace) → 1 ≤ m → (m ≡ n → ⊥) → place_at m places ≡ o → MatchOption o ⊥ (StandsAs before p) → MatchOption o ⊥ (StandsAs after p)
  others_over m p None low ne there stands = stands
  others_over m p (Some x) low ne there stands =
      subst (λ (log : List Entry). StandsAs log p x) (sym grew)
      (place_over before own fits.sound (subst IsSoundLog grew acts.growth.sound) p x (leaves m low ne x there) stands)

  -- another place stands after it
  other_stands : (m : ℕ) (p : Place) → 1 ≤ m → (m ≡ n → ⊥) → StandsAt before places m p → StandsAt after later m p
  other_stands m p low ne stands =
      subst (λ (o : Option ClientPlace). MatchOption o ⊥ (StandsAs after p)) (sym (put_other n from places m acts.now low ne))
      (others_over m p (place_at m places) low ne refl stands)

  own_stands : StandsAt after later n new
  own_stands = subst (λ (o : Option ClientPlace). MatchOption o ⊥ (StandsAs after new)) (sym (put_here n from places was acts.now at)) acts.stands

  pub fits_after : WorldFits (names ++ ids) after later
  fits_after = world_goes_on names ids before after places n was acts.now fits apart at acts.growth acts.fits acts.names

  abbrev pub tells : Said
  tells = record { published = version_added (history_of before) (history_of after); reply = r }

  pub next_after : r ≢ reply.NoMemory
      → (choice : Choice) × Includes ids (drawn_by (event.Of n what) tells choice)
      × Next (world_seen moment (history_of before) places) (event.Of n what) tells choice (world_seen moment (history_of after) later)
  next_after memory =
      let e = acts.event memory in
      (e.0, e.1, (act_goes_on moment names ids before after places n was acts.now what tells e.0 fits apart at acts.growth acts.fits acts.names e.1 e.2).next)

  pub slots_after : (given : ℕ) → AllByRecursion (λ p. slots_in p ≡ given) places → AllByRecursion (λ p. slots_in p ≡ given) later
  slots_after given all =
      let here : slice_get places (n - 1) ≡ Some was = sym (at_number n from places) ∙ at in
      set_all (λ p. slots_in p ≡ given) places (n - 1) acts.now all (acts.slots ∙ all_at (λ p. slots_in p ≡ given) places (n - 1) was all here)

  pub each_after : DifferWith → DifferWithout → OthersHaveNone → HasPlaces (StandsAt after later) count moved
  each_after with without none =
      places_put (StandsAt before places) count n slots each from to (StandsAt after later) new with without none stays own_stands
    where
      -- only numbers from 1 have a place
      stays : (m : ℕ) (p : Place) → (m ≡ n → ⊥) → StandsAt before places m p → StandsAt after later m p
      stays zero p ne stands = absurd stands
      stays (suc m) p ne stands = other_stands (suc m) p (omega arith) ne stands

-- what is drawn after others is new to a log that uses no other names
pub new_names : (count later : ℕ) (log : List Entry) (places : List ClientPlace) (ids : List Id16) → later < 2 ^ 128
    → numbered_names later ≡ numbered_names count ++ ids → WorldFits (numbered_names count) log places
    → AreApart (numbered_names count) ids × AreNew (history_of log) ids
new_names count later log places ids small grown fits =
    let apart : AreApart (numbered_names count) ids = numbers_are_new count later ids small grown in
    let away = new_names_are_away (numbered_names count) ids log places fits apart in (
      apart,
      (
        λ i h. (let u : IsUnknown (history_of log) i = away.unknown i h in (u.unlisted, u.unput)),
        λ i h. (let u : IsUnknown (history_of log) i = away.unknown i h in u.unpublished),
      ),
    )
