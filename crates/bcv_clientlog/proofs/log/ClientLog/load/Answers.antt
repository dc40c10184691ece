use Rattle.std.proofs.Common.{◌≡◌, ◌+◌, List, ℕ, Vec, Global, drop, ap, arith, refl, rules, subst, sym}
use Rattle.bcv_journal.specs.Parts.{tail_at}
use Rattle.bcv_journal.specs.Settled.{items_of}
use Rattle.bcv_journal.specs.declared.fault.JournalFault.TheVariants.{NotJournal, NoMemory}
use Rattle.bcv_notes.specs.KeptNotes.{items_size}
use Rattle.bcv_clientlog.specs.LogLoads.{LogLoads}
use Rattle.bcv_clientlog.specs.declared.load.LogLoad.TheVariants.{Refused}
use Rattle.bcv_clientlog.proofs.LoadedLog.{crowded, keeps, ready, refused, starved, stopped, stops, tail_reaches}
use Rattle.bcv_clientlog.proofs.log.ClientLog.load.Goals as goal

pub returns-in-Refused : goal.returns-in-Refused
returns-in-Refused g c = refused g.D.Disk.told g.D.Disk.shown c.args.disk c.in-Refused.disk c.in-Refused.fault c.in-Refused.ensures

pub place_of-place-requires-clause-within : goal.place_of-place-requires-clause-within
place_of-place-requires-clause-within g c =
    let same : items_size (items_of c.deref-in-Ok-Stops.result.now) ≡ items_size (items_of c.in-Ready.items.items) = ap (λ (l : List (Vec ℕ Global)). items_size (items_of l)) c.deref-in-Ok-Stops.ensures.value in
    omega (arith, same, c.span-tail.ensures.tail, tail_reaches g.D.Disk.told g.D.Disk.shown c.args.disk c.in-Ready.journal c.in-Ready.items c.in-Ready.ensures)

pub returns-in-Ok-Stops : goal.returns-in-Ok-Stops
returns-in-Ok-Stops g c =
    let d = g.D.Disk in
    let j = c.in-Ready.journal in
    let s = stops d.told d.shown c.args.disk j c.in-Ready.items c.in-Ready.ensures c.deref.result.now c.deref.ensures.value c.in-Ok-Stops.field-0 c.in-Ok-Stops.ensures c.in-Ok-Stops.number c.in-Ok-Stops.field-0-is in
    let same : items_size (drop c.in-Ok-Stops.number (items_of c.deref-in-Ok-Stops.result.now)) ≡ items_size (drop c.in-Ok-Stops.number (items_of c.in-Ready.items.items)) =
    ap (λ (l : List (Vec ℕ Global)). items_size (drop c.in-Ok-Stops.number (items_of l))) c.deref-in-Ok-Stops.ensures.value in
    let at : c.place_of-place.result + items_size (drop c.in-Ok-Stops.number (items_of c.in-Ready.items.items)) ≡ tail_at j = omega (arith, same, c.place_of-place.ensures, c.span-tail.ensures.tail) in
    subst (λ (disk : _). LogLoads {g = d} d.told d.shown c.args.disk (Refused disk (NotJournal c.place_of-place.result))) (sym c.down.ensures)
    (stopped d.told d.shown c.args.disk j c.in-Ready.items c.in-Ready.ensures c.in-Ok-Stops.number c.place_of-place.result s at)

pub returns-in-Err : goal.returns-in-Err
returns-in-Err g c =
    let d = g.D.Disk in
    subst (λ (disk : _). LogLoads {g = d} d.told d.shown c.args.disk (Refused disk NoMemory)) (sym c.down-in-Err.ensures) (starved d.told d.shown c.args.disk c.in-Ready.journal c.in-Ready.items c.in-Ready.ensures)

pub returns-then-not-has_room : goal.returns-then-not-has_room
returns-then-not-has_room g c =
    let d = g.D.Disk in
    let j = c.in-Ready.journal in
    let k = c.in-Ok-Kept.kept in
    let are = keeps d.told d.shown c.args.disk j c.in-Ready.items c.in-Ready.ensures c.deref.result.now c.deref.ensures.value c.in-Ok-Kept.field-0 c.in-Ok-Kept.ensures k c.in-Ok-Kept.field-0-is in
    subst (λ (disk : _). LogLoads {g = d} d.told d.shown c.args.disk (Refused disk (NotJournal c.span-tail.result.1))) (sym c.down-then-not-has_room.ensures) (subst (λ (n : ℕ). LogLoads {g = d} d.told d.shown c.args.disk (Refused j.disk (NotJournal n))) (sym c.span-tail.ensures.tail)
    (crowded d.told d.shown c.args.disk j c.in-Ready.items c.in-Ready.ensures k are (search rules)))

pub returns : goal.returns
returns g c =
    let d = g.D.Disk in
    let j = c.in-Ready.journal in
    let k = c.in-Ok-Kept.kept in
    let are = keeps d.told d.shown c.args.disk j c.in-Ready.items c.in-Ready.ensures c.deref.result.now c.deref.ensures.value c.in-Ok-Kept.field-0 c.in-Ok-Kept.ensures k c.in-Ok-Kept.field-0-is in
    ready d.told d.shown c.args.disk j c.in-Ready.items c.in-Ready.ensures k _ refl (search rules) refl are (search rules)
