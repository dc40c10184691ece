use Rattle.std.proofs.Common.{◌≡◌, ◌+◌, arith, refl, subst, sym}
use Rattle.bcv_disk.specs.declared.memory.MemDisk.{MemDisk}
use Rattle.bcv_memstore.specs.Told.{log_of}
use Rattle.bcv_model.specs.declared.event.Act.{Act}
use Rattle.bcv_model.specs.declared.event.Act.TheVariants as act
use Rattle.bcv_world.specs.declared.place.Place.{Place}
use Rattle.bcv_world.specs.declared.place.Place.TheVariants as place
use Rattle.bcv_world.specs.EventCaching.{ActCaches}
use Rattle.bcv_world.specs.LineEvents.{ActInForm}
use Rattle.bcv_world.specs.SetTroubles.{SetsTrouble}
use Rattle.bcv_world.specs.Standing.{PlaceActs}
use Rattle.bcv_world.specs.WorldForm.{PlaceWithin, taken_in}
use Rattle.bcv_world.proofs.QuietPlaces.{IsRefusedDown, refused_down}
use Rattle.bcv_world.proofs.place.Place.act.Goals as goal
use Rattle.bcv_world.proofs.place.Place.act.Goals.{in-Up-act, in_default}

pub act_up-requires-clause-form : goal.act_up-requires-clause-form
act_up-requires-clause-form g c = rw c.in-Up.is at c.requires.form

pub act_up-requires-clause-act : goal.act_up-requires-clause-act
act_up-requires-clause-act g c = subst (λ (p : Place). ActInForm (taken_in p) c.args.act) c.in-Up.is c.requires.act

pub act_up-requires-clause-rule : goal.act_up-requires-clause-rule
act_up-requires-clause-rule g c = c.requires.rule

pub returns-in-Up-clause-within : goal.returns-in-Up-clause-within
returns-in-Up-clause-within g c = subst (λ (p : Place). PlaceWithin (taken_in p + 1) c.act_up.result.0) (sym c.in-Up.is) c.act_up.ensures.within

pub returns-in-Up-clause-acts : goal.returns-in-Up-clause-acts
returns-in-Up-clause-acts g c =
    subst (λ (p : Place). PlaceActs (log_of c.args.around.now.store) (log_of c.act_up.new.around.store) c.args.around.now.names c.act_up.new.around.names c.args.around.now.clock.moment c.args.slots p
    c.act_up.result.0 c.args.act c.act_up.result.1) (sym c.in-Up.is) (c.act_up.ensures.acts c.args.slots)

pub returns-after-act-clause-within : goal.returns-after-act-clause-within
returns-after-act-clause-within g c =
    elim c.match-act.branch [
      | in-Up-act w ↦ (rw w.result-is (record { form = w.come_up.ensures.within.form; taken = omega (arith, w.come_up.ensures.within.taken) }))
      | in_default w ↦ (rw w.result-is (record { form = tt; taken = omega arith }))
    ]

-- an act that is not that of coming up
not_up : (what : Act) → (what ≡ act.Up → ⊥) → IsRefusedDown what
not_up (act.Ask q o) other = tt
not_up act.Up other = other refl
not_up (act.Crash image) other = tt
not_up (act.Fuse calls image) other = tt
not_up (act.FailAt calls) other = tt

pub returns-after-act-clause-acts : goal.returns-after-act-clause-acts
returns-after-act-clause-acts g c =
    elim c.match-act.branch [
      | in-Up-act w ↦ (rw (w.result-is, w.around-is, c.in-Down.is, w.in-Up-act.is) w.come_up.ensures.acts)
      | in_default w ↦
          (rw (w.result-is, w.around-is, c.in-Down.is)
          (refused_down (log_of c.args.around.now.store) c.args.around.now.names c.args.around.now.clock.moment c.args.slots c.in-Down.disk c.args.act (not_up c.args.act w.in_default.not-Up)))
    ]

pub returns-in-Up-clause-sets : goal.returns-in-Up-clause-sets
returns-in-Up-clause-sets g c = rw c.in-Up.is c.act_up.ensures.sets

-- nothing is set of a client that is down
down_sets : (what : Act) (disk : MemDisk) (after : Place) → SetsTrouble what (place.Down disk) after
down_sets (act.Ask q o) disk after = tt
down_sets act.Up disk after = tt
down_sets (act.Crash image) disk after = tt
down_sets (act.Fuse calls image) disk after = tt
down_sets (act.FailAt calls) disk after = tt

pub returns-after-act-clause-sets : goal.returns-after-act-clause-sets
returns-after-act-clause-sets g c = rw c.in-Down.is (down_sets c.args.act c.in-Down.disk _)

pub returns-in-Up-clause-caches : goal.returns-in-Up-clause-caches
returns-in-Up-clause-caches g c =
    subst (λ (p : Place). ActCaches c.args.around.now.store c.act_up.new.around.store c.args.act p c.act_up.result.0 c.act_up.result.1) (sym c.in-Up.is) c.act_up.ensures.caches

pub returns-after-act-clause-caches : goal.returns-after-act-clause-caches
returns-after-act-clause-caches g c =
    elim c.match-act.branch [
      | in-Up-act w ↦ (rw (w.result-is, w.around-is, c.in-Down.is) (w.come_up.ensures.store, w.come_up.ensures.caches))
      | in_default w ↦ (rw (w.result-is, w.around-is, c.in-Down.is) (refl, tt))
    ]
