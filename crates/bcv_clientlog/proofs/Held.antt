-- What a log holds, and what a crash leaves of it.
use Rattle.std.proofs.Common.{◌≡◌, ◌⊎◌, inl, inr, ℕ, ◌+◌, ◌<◌, ◌≤◌, ◌^◌, List, [], ◌∷◌, length, map, Option, None, Some, refl, ◌∙◌, ap, arith, length-append}
use Rattle.std.specs.Prelude.{IsSome}
use Rattle.std.specs.Int.{w32, to_be_bytes}
use Rattle.std.specs.List.{AllByRecursion}
use Rattle.bcv_base.specs.declared.id.Id16.{Id16}
use Rattle.bcv_disk.specs.DiskShown.{DiskShown}
use Rattle.bcv_journal.specs.Layout.{IsItem, area_of, open_item}
use Rattle.bcv_journal.specs.Parts.{HasItems, LeavesItems, disk_of, start_at, tail_at}
use Rattle.bcv_journal.specs.declared.journal.Journal.{Journal}
use Rattle.bcv_model.specs.declared.kept.Kept.{Kept}
use Rattle.bcv_model.specs.declared.kept.PendingPub.{PendingPub}
use Rattle.bcv_model.specs.declared.note.Note.{Note}
use Rattle.bcv_model.specs.declared.note.Note.TheVariants.{Me, First, Committed, Intent, Done, Void, Revert}
use Rattle.bcv_model.specs.NoteRules.{HasRoom, HasRoomToBegin, HasRoomToEnd}
use Rattle.bcv_model.specs.Notes.{note_text, nothing_kept}
use Rattle.bcv_notes.specs.KeptBy.{AreNotes}
use Rattle.bcv_notes.specs.KeptNotes.{items_size, kept_notes, notes_size}
use Rattle.bcv_notes.proofs.KeptSizes.{sizes_add}
use Rattle.bcv_notes.proofs.Refolded.{kept_again}
use Rattle.bcv_clientlog.specs.AddedNote.{reach}
use Rattle.bcv_clientlog.specs.LogParts.{LoadsAs}

-- items take as many bytes in a file as their sizes say
pub area_size : (items : List (List ℕ)) → length (area_of items) ≡ items_size items
area_size [] = refl
area_size (x ∷ xs) = omega (arith, length-append (open_item x) (area_of xs), length-append (to_be_bytes w32 (length x)) x, area_size xs)

-- each of the items of a short area fits an item
pub items_fit : (items : List (List ℕ)) → AllByRecursion (λ (i : List ℕ). 0 < length i) items → items_size items < 2 ^ 32 → AllByRecursion IsItem items
items_fit [] some small = tt
items_fit (x ∷ xs) some small = ((some.0, omega (arith, small)), items_fit xs some.1 (omega (arith, small)))

text_some : (x : Note) → 0 < length (note_text x)
text_some (Me id) = omega arith
text_some (First entry number block c) = omega arith
text_some (Committed db c) = omega arith
text_some (Intent p) = omega arith
text_some (Done id number) = omega arith
text_some (Void id) = omega arith
text_some (Revert db) = omega arith

pub texts_some : (xs : List Note) → AllByRecursion (λ (i : List ℕ). 0 < length i) (map note_text xs)
texts_some [] = tt
texts_some (x ∷ xs) = (text_some x, texts_some xs)

-- the fewest notes come to what is kept
pub fewest : (items : List (List ℕ)) (k : Kept) → AreNotes items k → AreNotes (map note_text (kept_notes k)) k
fewest items k are = record { notes = kept_notes k; texts = refl; folds = kept_again items k are }

pub fewest_size : (items : List (List ℕ)) (k : Kept) → AreNotes items k → items_size (map note_text (kept_notes k)) ≡ notes_size (kept_notes k)
fewest_size items k are = sizes_add nothing_kept k (kept_notes k) (kept_again items k are)

-- the room that a named client needs, at a tail that is no later or leaves room
pub room_moved : (k : Kept) (tail other : ℕ) → IsSome k.me → HasRoom k tail → (other ≤ tail) ⊎ (other + 65 ≤ 2 ^ 31) → HasRoom k other
room_moved k tail other named room moved = record { begin = begin k.me named; end = end k.pending room.end moved }
  where
    begin : (o : Option Id16) → IsSome o → HasRoomToBegin o other
    begin None some = absurd (cc (some))
    begin (Some id) some = tt

    end : (o : Option PendingPub) → HasRoomToEnd o tail → (other ≤ tail) ⊎ (other + 65 ≤ 2 ^ 31) → HasRoomToEnd o other
    end None was by = tt
    end (Some p) was (inl sooner) = omega (arith, was, sooner)
    end (Some p) was (inr free) = free

module _ {D : Type 0} {g : _} (shown : D → DiskShown) (journal : Journal D g) (items : List (List ℕ)) (has : HasItems shown journal items) where
  pub area_is : tail_at journal ≡ start_at journal + items_size items
  area_is = has.1.tail_is ∙ ap (λ (n : ℕ). start_at journal + n) (area_size items)

  -- a crash between two calls
  pub at_rest : (k : Kept) → AreNotes items k → HasRoom k (tail_at journal) → LeavesItems (shown (disk_of journal)) items (tail_at journal) → (image : List ℕ) → (shown (disk_of journal)).may_leave image → LoadsAs image k (reach journal)
  at_rest k are room leaves image left = record {
    items = items;
    tail = tail_at journal;
    ends = leaves image left;
    are = are;
    room = room;
    within = omega (arith, area_is);
  }
