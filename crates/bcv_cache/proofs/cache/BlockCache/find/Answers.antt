use Rattle.std.proofs.Common.{◌≡◌, Option, Some, None, IfSome, IfNone, refl, sym, ◌∙◌}
use Rattle.bcv_cache.specs.Inside.{seen}
use Rattle.bcv_cache.proofs.Entries.{KeepsEntries-found_first, found_first-none, IsSlotOf-found}
use Rattle.bcv_cache.proofs.Places.{IsSound-promoted, found_first-seen, slot_of-seen, IsCache-seen, slots_differ}
use Rattle.bcv_cache.proofs.cache.BlockCache.find.Goals as goal

pub invariant_of-self : goal.invariant_of-self
invariant_of-self c = rw c.promote.ensures.entries (IsSound-promoted c.args.id.now _ _ _ _ _ c.self.invariant)

pub returns-clause-slot : goal.returns-clause-slot
returns-clause-slot c = let e = slot_of-seen c.args.id.now c.self.inside.slots.items c.self.inside.places.entries in rw (← c.self.view_is) (c.copied-slot.ensures ∙ c.peek.ensures ∙ sym e)

pub returns-clause-entries : goal.returns-clause-entries
returns-clause-entries c = rw (c.promote.ensures.entries, ← c.self.view_is) (let e = found_first-seen c.args.id.now c.self.inside.slots.items c.self.inside.places.entries in cc)

pub returns-clause-same : goal.returns-clause-same
returns-clause-same c =
    let slots = c.self.inside.slots.items in
    let places = c.self.inside.places.entries in
    ifNone c.copied-slot.result (λ none. rw (c.promote.ensures.entries, ← c.self.view_is)
    (let e = found_first-seen c.args.id.now slots places in
    let n = found_first-none c.args.id.now (seen slots places) (slot_of-seen c.args.id.now slots places ∙ sym c.peek.ensures ∙ sym c.copied-slot.ensures ∙ none) in cc))
  where
    ifNone : {X : Type 0} {P : Type 0} (o : Option X) → (o ≡ None → P) → IfNone o P
    ifNone None f = f refl
    ifNone (Some x) f = tt

pub returns-clause-entry : goal.returns-clause-entry
returns-clause-entry c =
    let slots = c.self.inside.slots.items in
    let places = c.self.inside.places.entries in
    let differ = slots_differ _ slots places c.self.invariant.placed in
    ifSome c.copied-slot.result (λ slot some. rw (c.promote.ensures.entries, ← found_first-seen c.args.id.now slots places, KeepsEntries-found_first c.args.id.now (seen slots places) differ slot)
    (IsSlotOf-found c.args.id.now (seen slots places) slot differ (slot_of-seen c.args.id.now slots places ∙ sym c.peek.ensures ∙ sym c.copied-slot.ensures ∙ some)))
  where
    ifSome : {X : Type 0} {P : X → Type 0} (o : Option X) → ((x : X) → o ≡ Some x → P x) → IfSome o P
    ifSome None f = tt
    ifSome (Some x) f = f x refl

pub returns-clause-stay : goal.returns-clause-stay
returns-clause-stay c =
    let slots = c.self.inside.slots.items in
    let places = c.self.inside.places.entries in
    rw (c.promote.ensures.entries, ← c.self.view_is) (rw (← found_first-seen c.args.id.now slots places) (KeepsEntries-found_first c.args.id.now (seen slots places) (slots_differ _ slots places c.self.invariant.placed)))

pub returns-clause-cache : goal.returns-clause-cache
returns-clause-cache c = rw c.promote.ensures.entries (IsCache-seen _ _ _ _ _ (IsSound-promoted c.args.id.now _ _ _ _ _ c.self.invariant))
