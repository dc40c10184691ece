use Rattle.std.proofs.Common.{◌≡◌, ◌∙◌, ◌++◌, ◌∷◌, ◌<◌, ◌^◌, ℕ, List, [], Option, Some, None, sym, ap, subst, refl, arith}
use Rattle.bcv_base.specs.Log.{put_count}
use Rattle.bcv_base.specs.declared.object.ObjName.TheVariants as object
use Rattle.bcv_memstore.specs.Told.{log_of}
use Rattle.bcv_model.specs.declared.event.Act.{Act}
use Rattle.bcv_model.specs.declared.event.Event.TheVariants as event
use Rattle.bcv_model.specs.declared.reply.Reply.{Reply}
use Rattle.bcv_model.specs.declared.reply.Said.{Said}
use Rattle.bcv_slots.specs.declared.Slot.{Slot}
use Rattle.bcv_slots.specs.Numbered.{item_at}
use Rattle.bcv_world.specs.declared.place.Place.{Place}
use Rattle.bcv_world.specs.declared.world.World.{World}
use Rattle.bcv_world.specs.EventCaching.{EventCaches}
use Rattle.bcv_world.specs.SetTroubles.{SetsAsTold, SetsTrouble}
use Rattle.bcv_world.specs.Standing.{TakesEvent}
use Rattle.bcv_world.specs.Tallies.{IsTally}
use Rattle.bcv_world.specs.WorldForm.{IsWorld, PlaceWithin, last_of_more}
use Rattle.bcv_world.proofs.ActForms.{act_in_form}
use Rattle.bcv_world.proofs.EventsTaken.{acted_takes, acted_world, said_with}
use Rattle.bcv_world.proofs.PlacesKept.{place_found, place_there, put_found, put_others}
use Rattle.bcv_world.proofs.world.World.act.Goals as goal

pub unreachable-requires : goal.unreachable-requires
unreachable-requires g c =
    place_there (λ (m : ℕ). PlaceWithin c.args.self.now.tally.events) c.args.self.now.spec.clients c.args.number c.args.self.now.places.items c.requires.world.places_are c.requires.from c.requires.to
    (sym c.in_default.is ∙ c.take.ensures.found)

pub unreachable-unreachable : goal.unreachable-unreachable
unreachable-unreachable g c = c.unreachable.type_inv

pub act-place-requires-clause-form : goal.act-place-requires-clause-form
act-place-requires-clause-form g c =
    (place_found (λ (m : ℕ). PlaceWithin c.args.self.now.tally.events) c.args.self.now.spec.clients c.args.number c.args.self.now.places.items c.requires.world.places_are c.requires.from c.requires.to
    c.in-Some.place (sym c.in-Some.is ∙ c.take.ensures.found)).form

pub act-place-requires-clause-act : goal.act-place-requires-clause-act
act-place-requires-clause-act g c =
    let within =
    (place_found (λ (m : ℕ). PlaceWithin c.args.self.now.tally.events) c.args.self.now.spec.clients c.args.number c.args.self.now.places.items c.requires.world.places_are c.requires.from c.requires.to
    c.in-Some.place (sym c.in-Some.is ∙ c.take.ensures.found)).taken in
    act_in_form c.args.self.now.spec c.requires.world.sizes _ (omega (arith, within, c.requires.few)) c.args.act c.requires.keeps

pub act-place-requires-clause-rule : goal.act-place-requires-clause-rule
act-place-requires-clause-rule g c = c.requires.rule

pub add-requires : goal.add-requires
add-requires g c = c.take.ensures.room (cc (c.in-Some.is))

pub say-requires-clause-few : goal.say-requires-clause-few
say-requires-clause-few g c = c.requires.few

pub say-requires-clause-tally : goal.say-requires-clause-tally
say-requires-clause-tally g c = c.requires.world.tally_is

pub returns-clause-world : goal.returns-clause-world
returns-clause-world g c =
    let found = sym c.in-Some.is ∙ c.take.ensures.found in
    let items = c.add.ensures ∙ ap (λ (l : List (Slot Place)). l ++ record { number = c.args.number; item = c.act-place.result.0 } ∷ []) (c.take.ensures.only c.requires.world.places_are.differ) in
    subst IsWorld (sym c.say.ensures.only)
    (acted_world c.args.self.now _ c.args.number c.args.act c.act-place.result.1 c.in-Some.place c.act-place.result.0 c.say.result c.requires.world c.requires.few c.requires.from c.requires.to found
    c.act-place.ensures.acts refl items c.numbers_differ.ensures.with c.numbers_differ.ensures.without c.numbers_differ.ensures.none refl
    (subst (λ (w : World). IsTally w.tally) c.say.ensures.only c.say.ensures.tally) (ap (λ k. k.moment) c.set.ensures) c.act-place.ensures.within)

pub returns-clause-spec : goal.returns-clause-spec
returns-clause-spec g c = ap (λ (w : World). w.spec) c.say.ensures.only

pub returns-clause-tally : goal.returns-clause-tally
returns-clause-tally g c = ap (λ (w : World). w.tally) c.say.ensures.only

pub returns-clause-takes : goal.returns-clause-takes
returns-clause-takes g c =
    let found = sym c.in-Some.is ∙ c.take.ensures.found in
    let items = c.add.ensures ∙ ap (λ (l : List (Slot Place)). l ++ record { number = c.args.number; item = c.act-place.result.0 } ∷ []) (c.take.ensures.only c.requires.world.places_are.differ) in
    let published =
    c.published_since-published.ensures
    ∙ ap (λ (n : ℕ). last_of_more n (put_count object.Manifest (log_of c.act-place.new.around.store))) c.version_count-before.ensures in
    subst (λ (w : World). TakesEvent c.args.self.now w (event.Of c.args.number c.args.act) c.say.result) (sym c.say.ensures.only)
    (acted_takes c.args.self.now _ c.args.number c.args.act c.act-place.result.1 c.in-Some.place c.act-place.result.0 c.say.result c.requires.world c.requires.few c.requires.from c.requires.to found
    c.act-place.ensures.acts refl items c.numbers_differ.ensures.with c.numbers_differ.ensures.without c.numbers_differ.ensures.none refl
    (c.say.ensures.said ∙ ap (λ (o : Option ℕ). said_with o c.act-place.result.1) published))

-- what is set of a place is set of the one that has the number afterwards
set_as_told : (n : ℕ) (what : Act) (slots later : List (Slot Place)) (p new : Place) → Some p ≡ item_at n slots → item_at n later ≡ Some new → SetsTrouble what p new
    → (before after : Place) → item_at n slots ≡ Some before → item_at n later ≡ Some after → SetsTrouble what before after
set_as_told n what slots later p new found put sets before after is is_after =
    subst (λ (x : Place). SetsTrouble what x after) (cc (found, is)) (subst (λ (x : Place). SetsTrouble what p x) (cc (put, is_after)) sets)

pub returns-clause-sets : goal.returns-clause-sets
returns-clause-sets g c =
    let items = c.add.ensures ∙ ap (λ (l : List (Slot Place)). l ++ record { number = c.args.number; item = c.act-place.result.0 } ∷ []) (c.take.ensures.only c.requires.world.places_are.differ) in
    subst (λ (w : World). SetsAsTold c.args.self.now w (event.Of c.args.number c.args.act)) (sym c.say.ensures.only)
    (set_as_told c.args.number c.args.act c.args.self.now.places.items _ c.in-Some.place c.act-place.result.0 (sym c.in-Some.is ∙ c.take.ensures.found)
    (ap (item_at c.args.number) items ∙ put_found c.args.number c.args.self.now.places.items c.act-place.result.0 c.numbers_differ.ensures.none) c.act-place.ensures.sets)

pub returns-clause-caches : goal.returns-clause-caches
returns-clause-caches g c =
    let n : ℕ = c.args.number in
    let old : List (Slot Place) = c.args.self.now.places.items in
    let new : Place = c.act-place.result.0 in
    let items = c.add.ensures ∙ ap (λ (l : List (Slot Place)). l ++ record { number = n; item = new } ∷ []) (c.take.ensures.only c.requires.world.places_are.differ) in
    subst (λ (r : Reply). EventCaches c.args.self.now c.say.new.self (event.Of n c.args.act) r) (sym (ap (λ (s : Said). s.reply) c.say.ensures.said))
    (subst (λ (w : World). EventCaches c.args.self.now w (event.Of n c.args.act) c.act-place.result.1) (sym c.say.ensures.only)
    (record {
      before = c.in-Some.place;
      after = new;
      was = sym c.take.ensures.found ∙ c.in-Some.is;
      becomes = ap (item_at n) items ∙ put_found n old new c.numbers_differ.ensures.none;
      caches = c.act-place.ensures.caches;
      others = λ m other. ap (item_at m) items ∙ put_others m n old new other;
    }))
