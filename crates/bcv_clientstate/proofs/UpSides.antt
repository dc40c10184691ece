-- A client that crashed and comes up.
use Rattle.std.proofs.Common.{◌≡◌, ◌∙◌, ℕ, List, Option, Some, None, inl, inr, refl, sym, ap, subst}
use Rattle.bcv_machine.specs.CrashAndUp.{MayBeLeft}
use Rattle.bcv_machine.specs.Noting.{kept_after}
use Rattle.bcv_machine.specs.State as m
use Rattle.bcv_model.specs.declared.kept.Kept.{Kept}
use Rattle.bcv_model.specs.Notes.{after_note}
use Rattle.bcv_clientstate.specs.Journaled.{HoldsFlight}
use Rattle.bcv_clientstate.specs.KeptLaws.{IsKeptAfter, IsOrdered}
use Rattle.bcv_clientstate.specs.SeenKept.{seen_kept}
use Rattle.bcv_clientstate.specs.UpSides.{LoadsWhatIsLeft, RisesAsMachine}
use Rattle.bcv_clientstate.proofs.NoteLaws.{are_steps}

-- what was kept may always be left
same_left : (flight : Option m.Note) (kept k : m.KeptState) → k ≡ kept → MayBeLeft kept flight k
same_left None kept k e = e
same_left (Some y) kept k e = inl e

flight_left : (image : List ℕ) (k left : Kept) (most : ℕ) (flight : Option m.Note) → IsOrdered k → (h : HoldsFlight image k most flight) → left ≡ after_note k h.note → MayBeLeft (seen_kept k) flight (seen_kept left)
flight_left image k left most flight ordered h is =
    let step : seen_kept (after_note k h.note) ≡ kept_after (seen_kept k) h.seen =
    subst (λ (o : Option m.Note). IsKeptAfter (seen_kept k) o (seen_kept (after_note k h.note))) h.is_seen (are_steps k h.note ordered h.may) in
    subst (λ (o : Option m.Note). MayBeLeft (seen_kept k) o (seen_kept left)) (sym h.flies) (inr (ap seen_kept is ∙ step))

pub loads_what_is_left : LoadsWhatIsLeft
loads_what_is_left image k left most flight ordered (inl loads) only = same_left flight (seen_kept k) (seen_kept left) (ap seen_kept (only k most loads))
loads_what_is_left image k left most flight ordered (inr h) only = flight_left image k left most flight ordered h (only (after_note k h.note) most h.loads)

pub rises : RisesAsMachine
rises moment past p f id left seen = refl
