-- What a world's events come to: time that goes on, and one client that acts.
use Rattle.std.proofs.Common.{◌≡◌, ◌≢◌, ◌∙◌, ◌+◌, ◌-◌, ◌^◌, ◌<◌, ◌≤◌, ℕ, min, Bool, false, List, [], ◌∷◌, ◌++◌, length, append-nil, Option, Some, None, MatchOption, slice_get, is_some, if◌then◌else◌, refl, sym, ap, subst, arith}
use Rattle.std.proofs.lemmas.List.{length-append}
use Rattle.std.proofs.lemmas.List.FromFn.{length-map-range_with_len}
use Rattle.std.specs.List.{AllByRecursion}
use Rattle.bcv_base.specs.declared.id.Id16.{Id16}
use Rattle.bcv_base.specs.declared.log.Entry.{Entry}
use Rattle.bcv_base.specs.declared.object.ObjName.TheVariants as object
use Rattle.bcv_base.specs.History.{history_of}
use Rattle.bcv_base.specs.Log.{put_count}
use Rattle.bcv_base.specs.Numbered.{Counter, numbered, numbered_names}
use Rattle.bcv_clientlaws.specs.OtherParts.{Includes}
use Rattle.bcv_dbmap.specs.Honest.{AreApart}
use Rattle.bcv_machine.specs.Step.{Choice, Next, drawn_by}
use Rattle.bcv_memstore.specs.Told.{log_of}
use Rattle.bcv_model.specs.declared.event.Act.{Act}
use Rattle.bcv_model.specs.declared.event.Event.TheVariants as event
use Rattle.bcv_model.specs.declared.reply.Reply.{Reply}
use Rattle.bcv_model.specs.declared.reply.Reply.TheVariants as reply
use Rattle.bcv_model.specs.declared.reply.Said.{Said}
use Rattle.bcv_model.specs.declared.spec.WorldSpec.{WorldSpec}
use Rattle.bcv_publisher.specs.PutStep.{version_added}
use Rattle.bcv_slots.specs.declared.Slot.{Slot}
use Rattle.bcv_slots.specs.Numbered.{item_at, other_slots}
use Rattle.bcv_slots.specs.NumberLaws.{DifferWith, DifferWithout, OthersHaveNone}
use Rattle.bcv_worldlaws.specs.Places.{ClientPlace, FitsPlace, WorldFits, place_at, with_place, world_seen}
use Rattle.bcv_worldlaws.proofs.FirstWorld.{tick_is_next}
use Rattle.bcv_world.specs.declared.place.Place.{Place}
use Rattle.bcv_world.specs.declared.tally.Tally.{Tally}
use Rattle.bcv_world.specs.declared.world.World.{World}
use Rattle.bcv_world.specs.LineEvents.{IsSpec}
use Rattle.bcv_world.specs.Standing.{ActsAs, EventTaken, PlaceActs, Stands, StandsAs, StandsAt, TakesEvent, slots_in}
use Rattle.bcv_world.specs.Tallies.{IsGoingOn, IsOther, IsPage, IsTally, ReplyKind, kind_of_reply, tallied, with_reply}
use Rattle.bcv_world.specs.WorldForm.{HasPlaces, IsWorld, PlaceWithin, last_of_more, taken_in}
use Rattle.bcv_world.proofs.Counted.{nothing_published, published_is}
use Rattle.bcv_world.proofs.PlacesKept.{place_found, places_put}
use Rattle.bcv_world.proofs.WorldActs.{all_at, at_number, each_after, fits_after, grew, new_names, next_after, set_length, slots_after}
use Rattle.bcv_world.proofs.WorldStands.{stands_as}

abbrev pub said_with : Option ℕ → Reply → Said
said_with published r = record { published = published; reply = r }

-- ---- the tally

events_kept : (k : ReplyKind) (t : Tally) → (with_reply k t).events ≡ t.events
events_kept IsPage t = refl
events_kept IsGoingOn t = refl
events_kept IsOther t = refl

pub events_counted : (t : Tally) (said : Said) → (tallied t said).events ≡ t.events + 1
events_counted t said =
    events_kept (kind_of_reply said.reply) (record t { events = t.events + 1; versions = if is_some said.published then t.versions + 1 else t.versions })

-- ---- time goes on

module _ (old new : World) (seconds : ℕ) (is : IsWorld old) (spec : new.spec ≡ old.spec) (store : log_of new.around.store ≡ log_of old.around.store)
    (names : new.around.names ≡ old.around.names) (items : new.places.items ≡ old.places.items) (moment : new.moment ≡ min (old.moment + seconds) (2 ^ 64 - 1))
    (set : new.around.clock.moment ≡ new.moment) where
  pub ticked_world : (tally : new.tally ≡ tallied old.tally (said_with None reply.Fine)) → IsTally new.tally → IsWorld new
  ticked_world tally is_tally =
      let events : new.tally.events ≡ old.tally.events + 1 = ap (λ (t : Tally). t.events) tally ∙ events_counted old.tally (said_with None reply.Fine) in
      let clients : new.spec.clients ≡ old.spec.clients = ap (λ (s : WorldSpec). s.clients) spec in
      let count : new.around.names.count ≡ old.around.names.count = ap (λ (c : Counter). c.count) names in
      record {
        sizes = subst IsSpec (sym spec) is.sizes;
        clients = omega (arith, clients, is.clients);
        places_are = subst (λ (n : ℕ). HasPlaces (λ (m : ℕ). PlaceWithin new.tally.events) n new.places.items) (sym clients) (subst (HasPlaces (λ (m : ℕ). PlaceWithin new.tally.events) old.spec.clients) (sym items) (weaker events));
        names = omega (arith, count, events, clients, is.names);
        clock = set;
        tally_is = is_tally;
      }
    where
      within : (e : ℕ) → e ≡ old.tally.events + 1 → (o : Option Place) → MatchOption o ⊥ (PlaceWithin old.tally.events) → MatchOption o ⊥ (PlaceWithin e)
      within e more None at = at
      within e more (Some p) at = record { form = at.form; taken = omega (arith, at.taken, more) }

      weaker : new.tally.events ≡ old.tally.events + 1 → HasPlaces (λ (m : ℕ). PlaceWithin new.tally.events) old.spec.clients old.places.items
      weaker more = record { differ = is.places_are.differ; at = λ n low high. within new.tally.events more (item_at n old.places.items) (is.places_are.at n low high); others = is.places_are.others }

  pub ticked_takes : TakesEvent old new (event.Tick seconds) (said_with None reply.Fine)
  ticked_takes places s =
      let choice : Choice = record { name = numbered 0; second = false } in
      record {
        later = places;
        stands =
            stands_as new places old.spec.clients old.spec.slots old.around.names (log_of old.around.store) old.places.items (ap (λ (x : WorldSpec). x.clients) spec)
            (ap (λ (x : WorldSpec). x.slots) spec) names store items s.count s.fits s.each s.slots;
        ids = [];
        drawn = ap (λ (c : Counter). numbered_names c.count) names ∙ sym (append-nil (numbered_names old.around.names.count));
        few = omega arith;
        own = [];
        grew = store ∙ sym (append-nil (log_of old.around.store));
        one = omega arith;
        published = sym (subst (λ (log : List Entry). version_added (history_of (log_of old.around.store)) (history_of log) ≡ None) (sym store) (nothing_published (history_of (log_of old.around.store))));
        next = λ memory. (
          choice,
          (λ i h. h),
          subst (λ (m : ℕ). Next (world_seen old.moment (history_of (log_of old.around.store)) places) (event.Tick seconds) (said_with None reply.Fine) choice (world_seen m (history_of (log_of new.around.store)) places)) (sym moment)
              (subst (λ (log : List Entry). Next (world_seen old.moment (history_of (log_of old.around.store)) places) (event.Tick seconds) (said_with None reply.Fine) choice (world_seen (min (old.moment + seconds) (2 ^ 64 - 1)) (history_of log) places)) (sym store)
              (tick_is_next old.moment seconds (history_of (log_of old.around.store)) places choice)),
        );
      }

-- ---- one client acts

names_few : (n k : ℕ) (ids : List Id16) → numbered_names k ≡ numbered_names n ++ ids → length ids ≤ 1 → k ≤ n + 1
names_few n k ids e few =
    let a : length (numbered_names k) ≡ k = length-map-range_with_len numbered 1 k in
    let b : length (numbered_names n) ≡ n = length-map-range_with_len numbered 1 n in
    let d : length (numbered_names k) ≡ length (numbered_names n) + length ids = ap length e ∙ length-append (numbered_names n) ids in
    omega (arith, a, b, d, few)

module _ (old new : World) (n : ℕ) (what : Act) (r : Reply) (p q : Place) (said : Said) (is : IsWorld old) (few : old.tally.events < 2 ^ 63)
    (from : 1 ≤ n) (to : n ≤ old.spec.clients) (found : Some p ≡ item_at n old.places.items)
    (acts : PlaceActs (log_of old.around.store) (log_of new.around.store) old.around.names new.around.names old.around.clock.moment old.spec.slots p q what r)
    (spec : new.spec ≡ old.spec) (items : new.places.items ≡ other_slots n old.places.items ++ record { number = n; item = q } ∷ [])
    (with : DifferWith) (without : DifferWithout) (none : OthersHaveNone) where
  abbrev before : List Entry
  before = log_of old.around.store

  abbrev after : List Entry
  after = log_of new.around.store

  count : new.around.names.count ≤ old.around.names.count + 1
  count = names_few old.around.names.count new.around.names.count acts.ids acts.drawn acts.few

  small : new.around.names.count < 2 ^ 128 - 1
  small = omega (arith, count, few, is.names, is.clients)

  pub acted_world : new.tally ≡ tallied old.tally said → IsTally new.tally → new.around.clock.moment ≡ new.moment → PlaceWithin (taken_in p + 1) q → IsWorld new
  acted_world tally is_tally set within =
      let events : new.tally.events ≡ old.tally.events + 1 = ap (λ (t : Tally). t.events) tally ∙ events_counted old.tally said in
      let clients : new.spec.clients ≡ old.spec.clients = ap (λ (s : WorldSpec). s.clients) spec in
      let was : PlaceWithin old.tally.events p = place_found (λ (m : ℕ). PlaceWithin old.tally.events) old.spec.clients n old.places.items is.places_are from to p found in
      let here : PlaceWithin new.tally.events q = record { form = within.form; taken = omega (arith, within.taken, was.taken, events) } in
      let stay : (m : ℕ) (x : Place) → (m ≡ n → ⊥) → PlaceWithin old.tally.events x → PlaceWithin new.tally.events x =
      λ m x ne at. record { form = at.form; taken = omega (arith, at.taken, events) } in
      record {
        sizes = subst IsSpec (sym spec) is.sizes;
        clients = omega (arith, clients, is.clients);
        places_are =
            subst (λ (k : ℕ). HasPlaces (λ (m : ℕ). PlaceWithin new.tally.events) k new.places.items) (sym clients)
            (subst (HasPlaces (λ (m : ℕ). PlaceWithin new.tally.events) old.spec.clients) (sym items)
            (places_put (λ (m : ℕ). PlaceWithin old.tally.events) old.spec.clients n old.places.items is.places_are from to (λ (m : ℕ). PlaceWithin new.tally.events) q with without none stay here));
        names = omega (arith, count, events, clients, is.names);
        clock = set;
        tally_is = is_tally;
      }

  module _ (moment : new.moment ≡ old.moment) (said_is : said ≡ said_with (last_of_more (put_count object.Manifest before) (put_count object.Manifest after)) r) where
    module _ (places : List ClientPlace) (s : Stands old places) (was : ClientPlace) (at : place_at n places ≡ Some was) (stands : StandsAs before p was) where
      here : slice_get places (n - 1) ≡ Some was
      here = sym (at_number n from places) ∙ at

      goes : ActsAs before after old.around.clock.moment acts.ids q was what r
      goes =
          acts.over was small s.fits.sound stands (all_at (FitsPlace before) places (n - 1) was s.fits.fit here)
          (all_at (λ c. slots_in c ≡ old.spec.slots) places (n - 1) was s.slots here)
          (new_names old.around.names.count new.around.names.count before places acts.ids (omega (arith, small)) acts.drawn s.fits).1

      apart : AreApart (numbered_names old.around.names.count) acts.ids
      apart = (new_names old.around.names.count new.around.names.count before places acts.ids (omega (arith, small)) acts.drawn s.fits).0

      abbrev later : List ClientPlace
      later = with_place n goes.now places

      abbrev tells : Said
      tells = said_with (version_added (history_of before) (history_of after)) r

      grown : after ≡ before ++ goes.growth.own
      grown = grew (numbered_names old.around.names.count) before after places old.around.clock.moment old.spec.clients old.places.items n from to p q what r acts.ids was s.fits s.each apart at goes

      said_tells : said ≡ tells
      said_tells = said_is ∙ ap (λ (o : Option ℕ). said_with o r) (published_is before after goes.growth.own grown s.fits.sound goes.growth.sound)

      abbrev Goes : Said → ℕ → ℕ → Type 0
      Goes told at_first later_moment = (choice : Choice) × Includes acts.ids (drawn_by (event.Of n what) told choice)
          × Next (world_seen at_first (history_of before) places) (event.Of n what) told choice (world_seen later_moment (history_of after) later)

      goes_on : r ≢ reply.NoMemory → Goes tells old.around.clock.moment old.around.clock.moment
      goes_on = next_after (numbered_names old.around.names.count) before after places old.around.clock.moment old.spec.clients old.places.items n from to p q what r acts.ids was s.fits s.each apart at goes

      event_taken : EventTaken old new (event.Of n what) said places
      event_taken = record {
        later = later;
        stands =
            stands_as new later old.spec.clients old.spec.slots new.around.names after (other_slots n old.places.items ++ record { number = n; item = q } ∷ [])
            (ap (λ (x : WorldSpec). x.clients) spec) (ap (λ (x : WorldSpec). x.slots) spec) refl refl items
            (set_length places (n - 1) goes.now ∙ s.count)
            (subst (λ (ids : List Id16). WorldFits ids after later) (sym acts.drawn)
            (fits_after (numbered_names old.around.names.count) before after places old.around.clock.moment old.spec.clients old.places.items n from to p q what r acts.ids was s.fits s.each apart at goes))
            (each_after (numbered_names old.around.names.count) before after places old.around.clock.moment old.spec.clients old.places.items n from to p q what r acts.ids was s.fits s.each apart at goes with without none)
            (slots_after (numbered_names old.around.names.count) before after places old.around.clock.moment old.spec.clients old.places.items n from to p q what r acts.ids was s.fits s.each apart at goes old.spec.slots s.slots);
        ids = acts.ids;
        drawn = acts.drawn;
        few = acts.few;
        own = goes.growth.own;
        grew = grown;
        one = goes.growth.one;
        published = ap (λ (x : Said). x.published) said_tells;
        next = λ memory.
            subst (λ (m : ℕ). Goes said old.moment m) (sym moment)
            (subst (λ (t : Said). Goes t old.moment old.moment) (sym said_tells)
            (subst (λ (m : ℕ). Goes tells m m) is.clock (goes_on (λ e. memory (ap (λ (x : Said). x.reply) said_tells ∙ e)))));
      }

    by : (places : List ClientPlace) (s : Stands old places) (o : Option ClientPlace) → place_at n places ≡ o → MatchOption o ⊥ (StandsAs before p) → EventTaken old new (event.Of n what) said places
    by places s None at stands = absurd stands
    by places s (Some was) at stands = event_taken places s was at stands

    pub acted_takes : TakesEvent old new (event.Of n what) said
    acted_takes places s = by places s (place_at n places) refl (place_found (StandsAt before places) old.spec.clients n old.places.items s.each from to p found)
