use Rattle.std.proofs.Common.{◌≡◌, ◌≤◌, ◌<◌, length, None, refl, sym, ◌∙◌, arith}
use Rattle.std.specs.Map.{lookup}
use Rattle.std.proofs.lemmas.Bool.{true≢false}
use Rattle.bcv_cache.specs.Cache.{id_eq}
use Rattle.bcv_cache.specs.declared.held.Held.{Held}
use Rattle.bcv_cache.proofs.Places.{IsCache-seen, slot_of-seen}
use Rattle.bcv_cache.proofs.Steps.{ends_free, ends_used}
use Rattle.bcv_cache.proofs.Found.{in_range, last_in_use, has_room-full}
use Rattle.bcv_cache.proofs.cache.BlockCache.fill.Goals as goal

pub fill_free-requires-clause-absent : goal.fill_free-requires-clause-absent
fill_free-requires-clause-absent c = sym (slot_of-seen c.args.id c.self.inside.slots.items c.self.inside.places.entries) ∙ (rw (← c.self.view_is) at c.requires.absent)

pub invariant_of-self : goal.invariant_of-self
invariant_of-self c =
    let slots = c.self.inside.slots in
    let places = c.self.inside.places in
    let absent : lookup (id_eq c.args.id) places.entries ≡ None = sym (slot_of-seen c.args.id slots.items places.entries) ∙ (rw (← c.self.view_is) at c.requires.absent) in
    let fits : length c.args.bytes.items ≡ c.self.inside.block = sym c.args.bytes.ok.0 ∙ (rw (← c.self.view_is) at c.requires.whole) in
    let new : Held = record { id = c.args.id; count = 0; bytes = c.args.bytes } in
    let free : slots.len < c.self.inside.most = omega arith in
    let f = c.fill_free.ensures in
    let e = ends_free slots.items places.entries places.cap c.self.inside.most c.self.inside.block c.self.invariant new refl absent fits c.fill_free.result c.fill_free.new.slots.items c.fill_free.new.places slots.len slots.ok.0 free f.slot f.places f.slots f.same_places f.same_slots in
    e.sound

pub returns-then-len-from-clause-filled : goal.returns-then-len-from-clause-filled
returns-then-len-from-clause-filled c =
    let slots = c.self.inside.slots in
    let places = c.self.inside.places in
    let absent : lookup (id_eq c.args.id) places.entries ≡ None = sym (slot_of-seen c.args.id slots.items places.entries) ∙ (rw (← c.self.view_is) at c.requires.absent) in
    let fits : length c.args.bytes.items ≡ c.self.inside.block = sym c.args.bytes.ok.0 ∙ (rw (← c.self.view_is) at c.requires.whole) in
    let new : Held = record { id = c.args.id; count = 0; bytes = c.args.bytes } in
    let free : slots.len < c.self.inside.most = omega arith in
    let f = c.fill_free.ensures in
    let e = ends_free slots.items places.entries places.cap c.self.inside.most c.self.inside.block c.self.invariant new refl absent fits c.fill_free.result c.fill_free.new.slots.items c.fill_free.new.places slots.len slots.ok.0 free f.slot f.places f.slots f.same_places f.same_slots in
    rw (← c.self.view_is) e.fills

pub returns-then-len-from-clause-entry : goal.returns-then-len-from-clause-entry
returns-then-len-from-clause-entry c =
    let slots = c.self.inside.slots in
    let places = c.self.inside.places in
    let absent : lookup (id_eq c.args.id) places.entries ≡ None = sym (slot_of-seen c.args.id slots.items places.entries) ∙ (rw (← c.self.view_is) at c.requires.absent) in
    let fits : length c.args.bytes.items ≡ c.self.inside.block = sym c.args.bytes.ok.0 ∙ (rw (← c.self.view_is) at c.requires.whole) in
    let new : Held = record { id = c.args.id; count = 0; bytes = c.args.bytes } in
    let free : slots.len < c.self.inside.most = omega arith in
    let f = c.fill_free.ensures in
    let e = ends_free slots.items places.entries places.cap c.self.inside.most c.self.inside.block c.self.invariant new refl absent fits c.fill_free.result c.fill_free.new.slots.items c.fill_free.new.places slots.len slots.ok.0 free f.slot f.places f.slots f.same_places f.same_slots in
    e.entry

pub returns-then-len-from-clause-pinnable : goal.returns-then-len-from-clause-pinnable
returns-then-len-from-clause-pinnable c =
    let slots = c.self.inside.slots in
    let places = c.self.inside.places in
    let absent : lookup (id_eq c.args.id) places.entries ≡ None = sym (slot_of-seen c.args.id slots.items places.entries) ∙ (rw (← c.self.view_is) at c.requires.absent) in
    let fits : length c.args.bytes.items ≡ c.self.inside.block = sym c.args.bytes.ok.0 ∙ (rw (← c.self.view_is) at c.requires.whole) in
    let new : Held = record { id = c.args.id; count = 0; bytes = c.args.bytes } in
    let free : slots.len < c.self.inside.most = omega arith in
    let f = c.fill_free.ensures in
    let e = ends_free slots.items places.entries places.cap c.self.inside.most c.self.inside.block c.self.invariant new refl absent fits c.fill_free.result c.fill_free.new.slots.items c.fill_free.new.places slots.len slots.ok.0 free f.slot f.places f.slots f.same_places f.same_slots in
    e.pinnable

pub returns-then-len-from-clause-pinned_stay : goal.returns-then-len-from-clause-pinned_stay
returns-then-len-from-clause-pinned_stay c =
    let slots = c.self.inside.slots in
    let places = c.self.inside.places in
    let absent : lookup (id_eq c.args.id) places.entries ≡ None = sym (slot_of-seen c.args.id slots.items places.entries) ∙ (rw (← c.self.view_is) at c.requires.absent) in
    let fits : length c.args.bytes.items ≡ c.self.inside.block = sym c.args.bytes.ok.0 ∙ (rw (← c.self.view_is) at c.requires.whole) in
    let new : Held = record { id = c.args.id; count = 0; bytes = c.args.bytes } in
    let free : slots.len < c.self.inside.most = omega arith in
    let f = c.fill_free.ensures in
    let e = ends_free slots.items places.entries places.cap c.self.inside.most c.self.inside.block c.self.invariant new refl absent fits c.fill_free.result c.fill_free.new.slots.items c.fill_free.new.places slots.len slots.ok.0 free f.slot f.places f.slots f.same_places f.same_slots in
    rw (← c.self.view_is) e.pinned_stay

pub returns-then-len-from-clause-cache : goal.returns-then-len-from-clause-cache
returns-then-len-from-clause-cache c =
    let slots = c.self.inside.slots in
    let places = c.self.inside.places in
    let absent : lookup (id_eq c.args.id) places.entries ≡ None = sym (slot_of-seen c.args.id slots.items places.entries) ∙ (rw (← c.self.view_is) at c.requires.absent) in
    let fits : length c.args.bytes.items ≡ c.self.inside.block = sym c.args.bytes.ok.0 ∙ (rw (← c.self.view_is) at c.requires.whole) in
    let new : Held = record { id = c.args.id; count = 0; bytes = c.args.bytes } in
    let free : slots.len < c.self.inside.most = omega arith in
    let f = c.fill_free.ensures in
    let e = ends_free slots.items places.entries places.cap c.self.inside.most c.self.inside.block c.self.invariant new refl absent fits c.fill_free.result c.fill_free.new.slots.items c.fill_free.new.places slots.len slots.ok.0 free f.slot f.places f.slots f.same_places f.same_slots in
    IsCache-seen _ _ _ _ _ e.sound

pub last_unpinned-requires : goal.last_unpinned-requires
last_unpinned-requires c =
    rw c.deref.ensures.value (in_range _ _ _ _ _ c.self.invariant)

pub fill_used-requires-clause-used : goal.fill_used-requires-clause-used
fill_used-requires-clause-used c =
    let last = sym (rw c.deref.ensures.value at c.in-Some.ensures) in
    omega (arith, c.self.inside.slots.ok.0, last_in_use c.self.inside.slots.items c.self.inside.places.entries _ _ _ c.in-Some.old c.self.invariant last)

pub fill_used-requires-clause-absent : goal.fill_used-requires-clause-absent
fill_used-requires-clause-absent c = sym (slot_of-seen c.args.id c.self.inside.slots.items c.self.inside.places.entries) ∙ (rw (← c.self.view_is) at c.requires.absent)

pub invariant_of-self-in-Some : goal.invariant_of-self-in-Some
invariant_of-self-in-Some c =
    let slots = c.self.inside.slots in
    let places = c.self.inside.places in
    let absent : lookup (id_eq c.args.id) places.entries ≡ None = sym (slot_of-seen c.args.id slots.items places.entries) ∙ (rw (← c.self.view_is) at c.requires.absent) in
    let fits : length c.args.bytes.items ≡ c.self.inside.block = sym c.args.bytes.ok.0 ∙ (rw (← c.self.view_is) at c.requires.whole) in
    let new : Held = record { id = c.args.id; count = 0; bytes = c.args.bytes } in
    let full : c.self.inside.most ≤ length slots.items = omega (arith, slots.ok.0) in
    let last = sym (rw c.deref.ensures.value at c.in-Some.ensures) in
    let f = c.fill_used.ensures in
    let e = ends_used slots.items places.entries places.cap c.self.inside.most c.self.inside.block c.self.invariant new refl absent fits c.fill_used.result c.fill_used.new.slots.items c.fill_used.new.places c.in-Some.old last full f.slot f.places f.slots f.same_places f.same_slots in
    e.sound

pub unreachable-requires : goal.unreachable-requires
unreachable-requires c =
    let full : c.self.inside.most ≤ length c.self.inside.slots.items = omega (arith, c.self.inside.slots.ok.0) in
    let last = rw c.deref.ensures.value at c.in-None.ensures in
    let room = rw (← c.self.view_is) at c.requires.room in
    true≢false (sym room ∙ has_room-full c.self.inside.slots.items c.self.inside.places.entries _ _ _ None c.self.invariant full last)

pub returns-clause-filled : goal.returns-clause-filled
returns-clause-filled c =
    let slots = c.self.inside.slots in
    let places = c.self.inside.places in
    let absent : lookup (id_eq c.args.id) places.entries ≡ None = sym (slot_of-seen c.args.id slots.items places.entries) ∙ (rw (← c.self.view_is) at c.requires.absent) in
    let fits : length c.args.bytes.items ≡ c.self.inside.block = sym c.args.bytes.ok.0 ∙ (rw (← c.self.view_is) at c.requires.whole) in
    let new : Held = record { id = c.args.id; count = 0; bytes = c.args.bytes } in
    let full : c.self.inside.most ≤ length slots.items = omega (arith, slots.ok.0) in
    let last = sym (rw c.deref.ensures.value at c.in-Some.ensures) in
    let f = c.fill_used.ensures in
    let e = ends_used slots.items places.entries places.cap c.self.inside.most c.self.inside.block c.self.invariant new refl absent fits c.fill_used.result c.fill_used.new.slots.items c.fill_used.new.places c.in-Some.old last full f.slot f.places f.slots f.same_places f.same_slots in
    rw (← c.self.view_is) e.fills

pub returns-clause-entry : goal.returns-clause-entry
returns-clause-entry c =
    let slots = c.self.inside.slots in
    let places = c.self.inside.places in
    let absent : lookup (id_eq c.args.id) places.entries ≡ None = sym (slot_of-seen c.args.id slots.items places.entries) ∙ (rw (← c.self.view_is) at c.requires.absent) in
    let fits : length c.args.bytes.items ≡ c.self.inside.block = sym c.args.bytes.ok.0 ∙ (rw (← c.self.view_is) at c.requires.whole) in
    let new : Held = record { id = c.args.id; count = 0; bytes = c.args.bytes } in
    let full : c.self.inside.most ≤ length slots.items = omega (arith, slots.ok.0) in
    let last = sym (rw c.deref.ensures.value at c.in-Some.ensures) in
    let f = c.fill_used.ensures in
    let e = ends_used slots.items places.entries places.cap c.self.inside.most c.self.inside.block c.self.invariant new refl absent fits c.fill_used.result c.fill_used.new.slots.items c.fill_used.new.places c.in-Some.old last full f.slot f.places f.slots f.same_places f.same_slots in
    e.entry

pub returns-clause-pinnable : goal.returns-clause-pinnable
returns-clause-pinnable c =
    let slots = c.self.inside.slots in
    let places = c.self.inside.places in
    let absent : lookup (id_eq c.args.id) places.entries ≡ None = sym (slot_of-seen c.args.id slots.items places.entries) ∙ (rw (← c.self.view_is) at c.requires.absent) in
    let fits : length c.args.bytes.items ≡ c.self.inside.block = sym c.args.bytes.ok.0 ∙ (rw (← c.self.view_is) at c.requires.whole) in
    let new : Held = record { id = c.args.id; count = 0; bytes = c.args.bytes } in
    let full : c.self.inside.most ≤ length slots.items = omega (arith, slots.ok.0) in
    let last = sym (rw c.deref.ensures.value at c.in-Some.ensures) in
    let f = c.fill_used.ensures in
    let e = ends_used slots.items places.entries places.cap c.self.inside.most c.self.inside.block c.self.invariant new refl absent fits c.fill_used.result c.fill_used.new.slots.items c.fill_used.new.places c.in-Some.old last full f.slot f.places f.slots f.same_places f.same_slots in
    e.pinnable

pub returns-clause-pinned_stay : goal.returns-clause-pinned_stay
returns-clause-pinned_stay c =
    let slots = c.self.inside.slots in
    let places = c.self.inside.places in
    let absent : lookup (id_eq c.args.id) places.entries ≡ None = sym (slot_of-seen c.args.id slots.items places.entries) ∙ (rw (← c.self.view_is) at c.requires.absent) in
    let fits : length c.args.bytes.items ≡ c.self.inside.block = sym c.args.bytes.ok.0 ∙ (rw (← c.self.view_is) at c.requires.whole) in
    let new : Held = record { id = c.args.id; count = 0; bytes = c.args.bytes } in
    let full : c.self.inside.most ≤ length slots.items = omega (arith, slots.ok.0) in
    let last = sym (rw c.deref.ensures.value at c.in-Some.ensures) in
    let f = c.fill_used.ensures in
    let e = ends_used slots.items places.entries places.cap c.self.inside.most c.self.inside.block c.self.invariant new refl absent fits c.fill_used.result c.fill_used.new.slots.items c.fill_used.new.places c.in-Some.old last full f.slot f.places f.slots f.same_places f.same_slots in
    rw (← c.self.view_is) e.pinned_stay

pub returns-clause-cache : goal.returns-clause-cache
returns-clause-cache c =
    let slots = c.self.inside.slots in
    let places = c.self.inside.places in
    let absent : lookup (id_eq c.args.id) places.entries ≡ None = sym (slot_of-seen c.args.id slots.items places.entries) ∙ (rw (← c.self.view_is) at c.requires.absent) in
    let fits : length c.args.bytes.items ≡ c.self.inside.block = sym c.args.bytes.ok.0 ∙ (rw (← c.self.view_is) at c.requires.whole) in
    let new : Held = record { id = c.args.id; count = 0; bytes = c.args.bytes } in
    let full : c.self.inside.most ≤ length slots.items = omega (arith, slots.ok.0) in
    let last = sym (rw c.deref.ensures.value at c.in-Some.ensures) in
    let f = c.fill_used.ensures in
    let e = ends_used slots.items places.entries places.cap c.self.inside.most c.self.inside.block c.self.invariant new refl absent fits c.fill_used.result c.fill_used.new.slots.items c.fill_used.new.places c.in-Some.old last full f.slot f.places f.slots f.same_places f.same_slots in
    IsCache-seen _ _ _ _ _ e.sound
