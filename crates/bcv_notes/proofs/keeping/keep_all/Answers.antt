use Rattle.std.proofs.Common.{ℕ, ◌+◌, List, Option, Some, None, subst, sym, take}
use Rattle.bcv_model.specs.declared.kept.Kept.{Kept}
use Rattle.bcv_model.specs.declared.note.Note.{Note}
use Rattle.bcv_notes.specs.KeptBy.{AreNotes, items_of}
use Rattle.bcv_notes.specs.Reading.{IsNoteAt}
use Rattle.bcv_notes.proofs.Folded.{more, stops}
use Rattle.bcv_notes.proofs.keeping.keep_all.Goals as goal

pub returns-in_default : goal.returns-in_default
returns-in_default c =
    let v = c.index-items-place.result in
    let k = c.loop-place.kept in
    stops c.args.items.now c.loop-place.place v k c.loop-place-test.true c.index-items-place.is c.loop-place.invariant
    (subst (λ (t : List ℕ). IsNoteAt k t None) c.deref.ensures.value (subst (λ (o : Option Note). IsNoteAt k c.deref.result.now o) c.in_default.is c.in_ok-note.ensures))

pub loop-place-preserved : goal.loop-place-preserved
loop-place-preserved c =
    let v = c.index-items-place.result in
    let k = c.loop-place.kept in
    let next = more c.args.items.now c.loop-place.place v k c.in-Some.note c.loop-place-test.true c.index-items-place.is c.loop-place.invariant
    (subst (λ (t : List ℕ). IsNoteAt k t (Some c.in-Some.note)) c.deref.ensures.value (subst (λ (o : Option Note). IsNoteAt k c.deref.result.now o) c.in-Some.is c.in_ok-note.ensures)) in
    subst (λ (z : Kept). AreNotes (take (c.loop-place.place + 1) (items_of c.args.items.now)) z) (sym c.in_ok-kept.ensures) next
