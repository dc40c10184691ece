-- What a crash leaves at any moment of a publication's step, of its intent and of its end.
use Rattle.std.proofs.Common.{◌≡◌, ◌∙◌, ◌+◌, ◌*◌, ℕ, false, List, [], ◌∷◌, Option, Some, None, is_some, inl, inr, refl, sym, ap, subst, arith}
use Rattle.bcv_clientlog.specs.declared.log.ClientLog.{ClientLog}
use Rattle.bcv_clientlog.specs.LogParts.{LoadsAs, LoadsUpTo, is_shut, log_disk}
use Rattle.bcv_disk.specs.Calls.{LeavesOnly-then, LeavesOnly-weaker}
use Rattle.bcv_disk.specs.Crash.{LeavesOnly}
use Rattle.bcv_disk.specs.DiskShown.{DiskShown, DiskTold}
use Rattle.bcv_model.specs.declared.kept.Kept.{Kept}
use Rattle.bcv_model.specs.declared.kept.PendingPub.{PendingPub}
use Rattle.bcv_model.specs.declared.note.Note.{Note}
use Rattle.bcv_model.specs.declared.note.Note.TheVariants as note
use Rattle.bcv_model.specs.declared.reply.Reply.{Reply}
use Rattle.bcv_model.specs.NoteRules.{Folds, MayStand}
use Rattle.bcv_model.specs.Notes.{after_note, note_size}
use Rattle.bcv_clientstate.specs.Journaled.{Journaled, free_noted, most_of}
use Rattle.bcv_clientstate.specs.SeenClient.{Free}
use Rattle.bcv_databases.specs.declared.known.Known.{Known}
use Rattle.bcv_ledger.specs.declared.ledger.Ledger.{Ledger}
use Rattle.bcv_ledger.specs.Begins.{Begins, WaitsFor, free_intended}
use Rattle.bcv_ledger.specs.NoteEnds.{NoteEnds}
use Rattle.bcv_publisher.specs.StepNotes.{EndsOnce, LeavesNotes, NotesPublication}
use Rattle.bcv_publisher.proofs.Moments.{leaves_kept, leaves_noted, loads_more}

-- ---- the notes of a publication

-- the intent where nothing was pending, and rest these
abbrev pub begun_notes : Option PendingPub → PendingPub → List Note → List Note
begun_notes None x ys = note.Intent x ∷ ys
begun_notes (Some p) x ys = ys

pub are_of_publication : (o : Option PendingPub) (x : PendingPub) (ys : List Note) → EndsOnce x.id ys → NotesPublication o x (begun_notes o x ys)
are_of_publication None x ys ends = (refl, ends)
are_of_publication (Some p) x ys ends = ends

-- they may stand where those of its end may
pub begun_fold : (k : Kept) (x : PendingPub) (o : Option PendingPub) (ys : List Note) (end : Kept) → k.pending ≡ o → WaitsFor o x → (o ≡ None → MayStand k (note.Intent x))
    → Folds (record k { pending = Some x }) ys end → Folds k (begun_notes o x ys) end
begun_fold k x None ys end is waits may folds = (may refl, folds)
begun_fold k x (Some p) ys end is waits may folds =
    let same : k ≡ record k { pending = Some x } = ap (λ (o : Option PendingPub). let j : Kept = record k { pending = o } in j) (is ∙ ap Some waits) in
    subst (λ (j : Kept). Folds j ys end) (sym same) folds

-- ---- one after the other

front : (k : Kept) (most : ℕ) (ys : List Note) (image : List ℕ) → LoadsAs image k most → LoadsUpTo k most ys image
front k most [] image loads = loads
front k most (y ∷ ys) image loads = inl loads

one_front : (k : Kept) (most : ℕ) (x : Note) (ys : List Note) (image : List ℕ) → LoadsUpTo k most (x ∷ []) image → LoadsUpTo k most (x ∷ ys) image
one_front k most x ys image (inl loads) = inl loads
one_front k most x ys image (inr loads) = inr (front (after_note k x) (most + 2 * (5 + note_size x)) ys image loads)

leaves_both : (old mid new : DiskShown) (k j : Kept) (x : Note) (ys : List Note) (f : Free) → j ≡ after_note k x → LeavesOnly old mid (LoadsUpTo k (most_of f) (x ∷ []))
    → LeavesOnly mid new (LoadsUpTo j (most_of (free_noted (note_size x) f)) ys) → LeavesOnly old new (LoadsUpTo k (most_of f) (x ∷ ys))
leaves_both old mid new k j x ys f is one two =
    LeavesOnly-then old mid new (LoadsUpTo k (most_of f) (x ∷ ys))
    (LeavesOnly-weaker old mid (LoadsUpTo k (most_of f) (x ∷ [])) (LoadsUpTo k (most_of f) (x ∷ ys)) (one_front k (most_of f) x ys) one)
    (LeavesOnly-weaker mid new (LoadsUpTo j (most_of (free_noted (note_size x) f)) ys) (LoadsUpTo k (most_of f) (x ∷ ys))
    (λ image loads. inr (subst (λ (i : Kept). LoadsUpTo i (most_of f + 2 * (5 + note_size x)) ys image) is
    (loads_more j (most_of (free_noted (note_size x) f)) (most_of f + 2 * (5 + note_size x)) ys image (omega arith) loads))) two)

module _ {D : Type 0} {g : _} (told : DiskTold) (shown : D → DiskShown) (old mid : Ledger D g) (x : PendingPub) (fault : Option Reply) (begins : Begins told shown old mid x fault)
    (is_open : is_shut old.log ≡ false)
    (only_now : (disk : D) → told.tells → (image : List ℕ) → (shown disk).left_since (shown disk).moment image → (shown disk).may_leave image) where
  abbrev k : Kept
  k = old.databases.kept

  -- the intent alone
  intent_by : (o : Option PendingPub) → k.pending ≡ o → told.tells → (end : Kept) → Folds k (begun_notes o x []) end → LeavesNotes shown old.log mid.log k (begun_notes o x [])
  intent_by None is tells end folds f journaled =
      leaves_noted shown old.log mid.log k (note.Intent x ∷ []) f journaled (begins.any_moment tells (journaled.settled is_open) (λ none. folds.0))
  intent_by (Some p) is tells end folds f journaled =
      subst (λ (l : Ledger D g). LeavesOnly (shown (log_disk old.log)) (shown (log_disk l.log)) (LoadsUpTo k (most_of f) [])) (sym (begins.before (ap is_some is)))
      (leaves_kept told shown tells only_now old.log k f is_open journaled)

  pub intent_moment : told.tells → (end : Kept) → Folds k (begun_notes k.pending x []) end → LeavesNotes shown old.log mid.log k (begun_notes k.pending x [])
  intent_moment tells end folds = intent_by k.pending refl tells end folds

-- and what is noted after it
module _ {D : Type 0} {g : _} (told : DiskTold) (shown : D → DiskShown) (old mid : Ledger D g) (x : PendingPub) (begins : Begins told shown old mid x None) (is_open : is_shut old.log ≡ false)
    (new : ClientLog D g) (ys : List Note)
    (rest : told.tells → (end : Kept) → Folds mid.databases.kept ys end → LeavesNotes shown mid.log new mid.databases.kept ys) where
  abbrev kept_before : Kept
  kept_before = old.databases.kept

  both_by : (o : Option PendingPub) → kept_before.pending ≡ o → told.tells → (end : Kept) → Folds kept_before (begun_notes o x ys) end → LeavesNotes shown old.log new kept_before (begun_notes o x ys)
  both_by None is tells end folds f journaled =
      let later : Journaled shown mid.log mid.databases.kept (free_noted (note_size (note.Intent x)) f) =
      subst (λ (o : Option PendingPub). Journaled shown mid.log mid.databases.kept (free_intended o x f)) is (begins.goes tells (λ none. folds.0) f journaled) in
      leaves_both (shown (log_disk old.log)) (shown (log_disk mid.log)) (shown (log_disk new)) kept_before mid.databases.kept (note.Intent x) ys f begins.kept
      (leaves_noted shown old.log mid.log kept_before (note.Intent x ∷ []) f journaled (begins.any_moment tells (journaled.settled is_open) (λ none. folds.0)))
      (rest tells end (subst (λ (j : Kept). Folds j ys end) (sym begins.kept) folds.1) (free_noted (note_size (note.Intent x)) f) later)
  both_by (Some p) is tells end folds f journaled =
      let same : mid ≡ old = begins.before (ap is_some is) in
      let leaves : LeavesNotes shown mid.log new mid.databases.kept ys = rest tells end (subst (λ (l : Ledger D g). Folds l.databases.kept ys end) (sym same) folds) in
      let now : LeavesNotes shown old.log new kept_before ys = subst (λ (l : Ledger D g). LeavesNotes shown l.log new l.databases.kept ys) same leaves in now f journaled

  pub both_moments : told.tells → (end : Kept) → Folds kept_before (begun_notes kept_before.pending x ys) end → LeavesNotes shown old.log new kept_before (begun_notes kept_before.pending x ys)
  both_moments tells end folds = both_by kept_before.pending refl tells end folds

-- the note of an end alone, over an open log
pub end_moment : {D : Type 0} {g : _} (told : DiskTold) (shown : D → DiskShown) (mid new : Ledger D g) (z : Note) (known : List Known) (fault : Option Reply)
    → NoteEnds told shown mid new z known fault → is_shut mid.log ≡ false
    → told.tells → (end : Kept) → Folds mid.databases.kept (z ∷ []) end → LeavesNotes shown mid.log new.log mid.databases.kept (z ∷ [])
end_moment told shown mid new z known fault ends is_open tells end folds f journaled =
    leaves_noted shown mid.log new.log mid.databases.kept (z ∷ []) f journaled (ends.any_moment tells (journaled.settled is_open) folds.0)
