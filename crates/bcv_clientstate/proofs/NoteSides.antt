-- What the machine says of a note that a client tried.
use Rattle.std.proofs.Common.{◌≡◌, ◌∙◌, ◌+◌, ◌*◌, ◌^◌, ◌<◌, ℕ, true, false, List, Option, Some, IfSome, sym, ap, subst}
use Rattle.bcv_base.specs.History.{Item}
use Rattle.bcv_machine.specs.Noting.{noted, note_failed, MayBeFull, kept_after, length_of_note}
use Rattle.bcv_machine.specs.State as m
use Rattle.bcv_model.specs.declared.note.Note as bytes
use Rattle.bcv_model.specs.Notes.{after_note, note_size}
use Rattle.bcv_clientstate.specs.KeptLaws.{IsKeptAfter}
use Rattle.bcv_clientstate.specs.NoteSides.{MayNote, StandsAsNoted, FailsAsNoted, FullAsNoted, EndsPublication, with_note, while_up}
use Rattle.bcv_clientstate.specs.Parts.{Parts}
use Rattle.bcv_clientstate.specs.SeenClient.{Free, seen_client, side_of}
use Rattle.bcv_clientstate.specs.SeenKept.{seen_kept}
use Rattle.bcv_clientstate.proofs.NoteLaws.{are_steps}
use Rattle.bcv_clientstate.proofs.SizeLaws.{have_sizes}

module _ (moment : ℕ) (past : List Item) (p : Parts) (f : Free) (x : bytes.Note) (y : m.Note) (may : MayNote past p x y) where
  long : note_size x ≡ length_of_note (side_of moment past p f) y
  long = subst (λ (o : Option m.Note). IfSome o (λ z. note_size x ≡ length_of_note (side_of moment past p f) z)) may.is
      (have_sizes moment past p.kept x may.sound may.locals may.may may.fits)

  kept : seen_kept (after_note p.kept x) ≡ kept_after (seen_kept p.kept) y
  kept = subst (λ (o : Option m.Note). IsKeptAfter (seen_kept p.kept) o (seen_kept (after_note p.kept x))) may.is (are_steps p.kept x may.ordered may.may)

  pub stands : (u : m.Up) → noted (side_of moment past p f) u y ≡ while_up (seen_client past (with_note x p) (record f { noted = f.noted + (5 + note_size x) })) u
  stands u =
      ap (λ (n : ℕ). record (seen_client past p f) { noted = f.noted + (5 + n); kept = kept_after (seen_kept p.kept) y; up = Some u }) (sym long)
      ∙ ap (λ (k : m.KeptState). record (seen_client past p f) { noted = f.noted + (5 + note_size x); kept = k; up = Some u }) (sym kept)

  pub fails : (u : m.Up) → note_failed (side_of moment past p f) u y ≡ while_up (seen_client past p (record f { failing = false; noted = f.noted + (5 + note_size x); flight = Some y })) (record u { closed = true })
  fails u =
      ap (λ (n : ℕ). record (seen_client past p f) { failing = false; noted = f.noted + (5 + n); flight = Some y; up = Some (record u { closed = true }) }) (sym long)

  more : 2 ^ 31 < 2 * f.noted + 87 + note_size x → 2 ^ 31 < 2 * f.noted + 87 + length_of_note (side_of moment past p f) y
  more lt = subst (λ (n : ℕ). 2 ^ 31 < 2 * f.noted + 87 + n) long lt

full_by : (s : m.Side) (y : m.Note) → (EndsPublication y → ⊥) → 2 ^ 31 < 2 * s.client.noted + 87 + length_of_note s y → MayBeFull s y
full_by s (m.Committing name base w) ends lt = lt
full_by s (m.Reverting name) ends lt = lt
full_by s (m.Intending q) ends lt = lt
full_by s (m.Finishing number) ends lt = ends tt
full_by s m.Voiding ends lt = ends tt

pub stands_as_noted : StandsAsNoted
stands_as_noted moment past p f u x y may = stands moment past p f x y may u

pub fails_as_noted : FailsAsNoted
fails_as_noted moment past p f u x y may = fails moment past p f x y may u

pub full_as_noted : FullAsNoted
full_as_noted moment past p f x y may ends lt = full_by (side_of moment past p f) y ends (more moment past p f x y may lt)
