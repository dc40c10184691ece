-- A log that has no id has no note.
use Rattle.std.proofs.Common.{◌≡◌, ◌∙◌, ℕ, true, List, [], ◌∷◌, Option, Some, None, refl, ap}
use Rattle.std.specs.Prelude.{IsSome, is_some}
use Rattle.bcv_model.specs.declared.kept.Kept.{Kept}
use Rattle.bcv_model.specs.declared.kept.PendingPub.{PendingPub}
use Rattle.bcv_model.specs.declared.note.Note.{Note}
use Rattle.bcv_model.specs.declared.note.Note.TheVariants.{Me, First, Committed, Intent, Done, Void, Revert}
use Rattle.bcv_model.specs.NoteRules.{Folds, MayStand}
use Rattle.bcv_model.specs.Notes.{after_note, kept_published, nothing_kept}

published_id : (number : ℕ) (k : Kept) (p : Option PendingPub) → (kept_published number k p).me ≡ k.me
published_id number k None = refl
published_id number k (Some p) = refl

-- an id stays, whatever is noted
id_stays : (k : Kept) (x : Note) → IsSome k.me → IsSome (after_note k x).me
id_stays k (Me id) some = refl
id_stays k (First entry number block c) some = some
id_stays k (Committed db c) some = some
id_stays k (Intent p) some = some
id_stays k (Done id number) some = ap is_some (published_id number k k.pending) ∙ some
id_stays k (Void id) some = some
id_stays k (Revert db) some = some

id_left : (k : Kept) (xs : List Note) (end : Kept) → IsSome k.me → Folds k xs end → IsSome end.me
id_left k [] end some folds = ap (λ (j : Kept). is_some j.me) folds ∙ some
id_left k (x ∷ xs) end some folds = id_left (after_note k x) xs end (id_stays k x some) folds.1

-- the first note is that of an id
first_is_id : (x : Note) → MayStand nothing_kept x → IsSome (after_note nothing_kept x).me
first_is_id (Me id) may = refl
first_is_id (First entry number block c) may = absurd (cc (may.named))
first_is_id (Committed db c) may = absurd (cc (may.named))
first_is_id (Intent p) may = absurd (cc (may.named))
first_is_id (Done id number) may = absurd (cc (may.0.named))
first_is_id (Void id) may = absurd (cc (may.named))
first_is_id (Revert db) may = absurd (cc (may.named))

pub nothing_unnamed : (xs : List Note) (end : Kept) → Folds nothing_kept xs end → end.me ≡ None → end ≡ nothing_kept
nothing_unnamed [] end folds none = folds
nothing_unnamed (x ∷ xs) end folds none =
    let some : is_some end.me ≡ true = id_left (after_note nothing_kept x) xs end (first_is_id x folds.0) folds.1 in
    absurd (cc (ap is_some none, some))
