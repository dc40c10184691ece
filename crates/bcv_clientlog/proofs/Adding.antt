-- A note that is added to a journal whose items are notes.
use Rattle.std.proofs.Common.{◌≡◌, ◌≢◌, ◌⊎◌, inl, inr, ⊎_elim, ℕ, ◌+◌, ◌*◌, ◌≤◌, ◌^◌, false, List, [], ◌∷◌, ◌++◌, length, Option, None, Some, is_some, refl, sym, ◌∙◌, ap, subst, arith}
use Rattle.std.specs.Prelude.{IsSome}
use Rattle.std.proofs.lemmas.Bool.{cases_lt}
use Rattle.bcv_base.specs.declared.id.Id16.{Id16}
use Rattle.bcv_disk.specs.Calls.{LeavesOnly-started, LeavesOnly-weaker}
use Rattle.bcv_disk.specs.Crash.{LeavesOnly}
use Rattle.bcv_disk.specs.DiskShown.{DiskShown, DiskTold}
use Rattle.bcv_journal.specs.JournalCalls.{JournalAppends}
use Rattle.bcv_journal.specs.Parts.{HasItems, disk_of, tail_at}
use Rattle.bcv_journal.specs.Settled.{IsBeforeOrAfter}
use Rattle.bcv_journal.specs.declared.fault.Noted.{Noted}
use Rattle.bcv_journal.specs.declared.fault.Noted.TheVariants as noted
use Rattle.bcv_journal.specs.declared.journal.Journal.{Journal}
use Rattle.bcv_journal.proofs.Append.{settled_ends}
use Rattle.bcv_model.specs.declared.kept.Kept.{Kept}
use Rattle.bcv_model.specs.declared.kept.PendingPub.{PendingPub}
use Rattle.bcv_model.specs.declared.note.Note.{Note}
use Rattle.bcv_model.specs.declared.note.Note.TheVariants.{Me, First, Committed, Intent, Done, Void, Revert}
use Rattle.bcv_model.specs.NoteRules.{HasRoom, HasRoomToBegin, HasRoomToEnd, IsPendingAs, MayStand}
use Rattle.bcv_model.specs.Notes.{after_note, kept_published, note_size, note_text}
use Rattle.bcv_notes.specs.KeptBy.{AreNotes}
use Rattle.bcv_notes.specs.KeptNotes.{items_size}
use Rattle.bcv_notes.proofs.Folded.{notes_then}
use Rattle.bcv_notes.proofs.NoteSizes.{note_len}
use Rattle.bcv_clientlog.specs.AddedNote.{reach}
use Rattle.bcv_clientlog.specs.LogParts.{LoadsAs, LoadsUpTo}
use Rattle.bcv_clientlog.specs.Noting.{spare_after, waits_by}
use Rattle.bcv_clientlog.proofs.Held.{area_is, at_rest}

-- ---- what a note leaves pending, and the room that is needed after it

-- a publication that ends was pending
ended : (P : Kept → Type 0) (k : Kept) (id : Id16) (number : ℕ) → IsPendingAs k.pending id → ((p : PendingPub) → P (kept_published number k (Some p))) → P (kept_published number k k.pending)
ended P k id number waits each = go k.pending waits
  where
    go : (o : Option PendingPub) → IsPendingAs o id → P (kept_published number k o)
    go None none = absurd none
    go (Some p) is = each p

pub after_waits : (k : Kept) (x : Note) → MayStand k x → is_some (after_note k x).pending ≡ waits_by x (is_some k.pending)
after_waits k (Me id) may = refl
after_waits k (First entry number block c) may = refl
after_waits k (Committed db c) may = refl
after_waits k (Intent p) may = refl
after_waits k (Done id number) may = ended (λ j. is_some j.pending ≡ false) k id number may.0.waits (λ p. refl)
after_waits k (Void id) may = refl
after_waits k (Revert db) may = refl

begins : (o : Option Id16) (tail : ℕ) → IsSome o → HasRoomToBegin o tail
begins None tail some = absurd (cc (some))
begins (Some id) tail some = tt

ends : (o : Option PendingPub) (tail : ℕ) → tail + 65 ≤ 2 ^ 31 → HasRoomToEnd o tail
ends None tail free = tt
ends (Some p) tail free = free

pub room_after : (k : Kept) (x : Note) (tail : ℕ) → MayStand k x → tail + 6 + note_size x + spare_after x ≤ 2 ^ 31 → HasRoom (after_note k x) (tail + 5 + note_size x)
room_after k (Me id) tail may free = record { begin = tt; end = ends k.pending (tail + 5 + 17) (omega (arith, free)) }
room_after k (First entry number block c) tail may free =
    record { begin = begins k.me (tail + 5 + note_size (First entry number block c)) may.named; end = ends k.pending (tail + 5 + note_size (First entry number block c)) (omega (arith, free)) }
room_after k (Committed db c) tail may free =
    record { begin = begins k.me (tail + 5 + note_size (Committed db c)) may.named; end = ends k.pending (tail + 5 + note_size (Committed db c)) (omega (arith, free)) }
room_after k (Intent p) tail may free = record { begin = begins k.me (tail + 5 + note_size (Intent p)) may.named; end = omega (arith, free) }
room_after k (Done id number) tail may free =
    ended (λ j. HasRoom j (tail + 5 + 25)) k id number may.0.waits (λ p. record { begin = begins k.me (tail + 5 + 25) may.0.named; end = tt })
room_after k (Void id) tail may free = record { begin = begins k.me (tail + 5 + 17) may.named; end = tt }
room_after k (Revert db) tail may free = record { begin = begins k.me (tail + 5 + note_size (Revert db)) may.named; end = ends k.pending (tail + 5 + note_size (Revert db)) (omega (arith, free)) }

items_more : (items : List (List ℕ)) (item : List ℕ) → items_size (items ++ item ∷ []) ≡ items_size items + (5 + length item)
items_more [] item = omega arith
items_more (x ∷ xs) item = omega (arith, items_more xs item)

full_or_not : (r : Noted) → (r ≡ noted.JournalFull) ⊎ (r ≢ noted.JournalFull)
full_or_not noted.Done = inr (λ full. cc full)
full_or_not noted.JournalFull = inl refl
full_or_not noted.DiskFault = inr (λ full. cc full)
full_or_not noted.Closed = inr (λ full. cc full)
full_or_not noted.NoMemory = inr (λ full. cc full)

-- since this moment there is no other
abbrev pub OnlyNow : {D : Type 0} → DiskTold → (D → DiskShown) → Type 0
OnlyNow {D} told shown = (disk : D) → told.tells → (image : List ℕ) → (shown disk).left_since (shown disk).moment image → (shown disk).may_leave image

-- ---- the append

module _ {D : Type 0} {g : _} (told : DiskTold) (shown : D → DiskShown) (only_now : OnlyNow told shown) (t : told.tells) (old : Journal D g) (k : Kept) (items : List (List ℕ)) (has : HasItems shown old items) (are : AreNotes items k)
    (room : HasRoom k (tail_at old)) where
  -- what stands is at most so much
  was : (most : ℕ) → reach old ≤ most → (image : List ℕ) → (shown (disk_of old)).may_leave image → LoadsAs image k most
  was most le image left =
      let l = at_rest shown old items has k are room (settled_ends (shown (disk_of old)) old.area items has.1) image left in
      record { items = l.items; tail = l.tail; ends = l.ends; are = l.are; room = l.room; within = omega (arith, l.within, le) }

  -- no call
  pub rests : (most : ℕ) → reach old ≤ most → LeavesOnly (shown (disk_of old)) (shown (disk_of old)) (λ image. LoadsAs image k most)
  rests most le = LeavesOnly-started (shown (disk_of old)) (λ image. LoadsAs image k most) (λ image left. was most le image (only_now (disk_of old) t image left))

  module _ (new : Journal D g) (x : Note) (may : MayStand k x) (bytes : List ℕ) (bytes_is : bytes ≡ note_text x) (result : Noted) (a : JournalAppends told shown old new bytes (spare_after x) result) where
    pub size : length bytes ≡ note_size x
    size = ap length bytes_is ∙ note_len k x may

    pub fits : result ≢ noted.JournalFull → tail_at old + 6 + note_size x + spare_after x ≤ 2 ^ 31
    fits not_full = ⊎_elim
        (λ past. absurd (not_full (a.full.1 (has.0, omega (arith, past, size)))))
        (λ le. le) (cases_lt (2 ^ 31) (tail_at old + 6 + note_size x + spare_after x))

    pub more_are : AreNotes (items ++ bytes ∷ []) (after_note k x)
    more_are = notes_then items k bytes x are may bytes_is

    one_more : (most : ℕ) → reach old ≤ most → result ≢ noted.JournalFull → (image : List ℕ) → IsBeforeOrAfter items (tail_at old) bytes image → LoadsUpTo k most (x ∷ []) image
    one_more most le not_full image (inl ends_so) = inl (record { items = items; tail = tail_at old; ends = ends_so; are = are; room = room; within = omega (arith, area_is shown old items has, le) })
    one_more most le not_full image (inr ends_so) = inr (record {
      items = items ++ bytes ∷ [];
      tail = tail_at old + 5 + length bytes;
      ends = ends_so;
      are = more_are;
      room = subst (λ (n : ℕ). HasRoom (after_note k x) (tail_at old + 5 + n)) (sym size) (room_after k x (tail_at old) may (fits not_full));
      within = omega (arith, area_is shown old items has, le, items_more items bytes, size);
    })

    pub any_moment : (most : ℕ) → reach old ≤ most → LeavesOnly (shown (disk_of old)) (shown (disk_of new)) (LoadsUpTo k most (x ∷ []))
    any_moment most le = ⊎_elim
        (λ full. subst (λ (d : D). LeavesOnly (shown (disk_of old)) (shown d) (LoadsUpTo k most (x ∷ []))) (sym (a.refused (inr full)))
        (LeavesOnly-weaker (shown (disk_of old)) (shown (disk_of old)) (λ image. LoadsAs image k most) (LoadsUpTo k most (x ∷ [])) (λ image l. inl l) (rests most le)))
        (λ not_full. LeavesOnly-weaker (shown (disk_of old)) (shown (disk_of new)) (IsBeforeOrAfter items (tail_at old) bytes) (LoadsUpTo k most (x ∷ [])) (one_more most le not_full) (a.items t items has).any_moment)
        (full_or_not result)

    pub room_done : result ≡ noted.Done → HasRoom (after_note k x) (tail_at new)
    room_done done =
        let at : tail_at old + 5 + note_size x ≡ tail_at new = omega (arith, a.tail done, size) in
        subst (λ (n : ℕ). HasRoom (after_note k x) n) at (room_after k x (tail_at old) may (fits (λ full. cc (done, full))))

    pub room_kept : result ≢ noted.Done → HasRoom k (tail_at new)
    room_kept not_done = subst (λ (n : ℕ). HasRoom k n) (sym (a.tail_stays not_done)) room

    pub reach_done : (result ≡ noted.Done) → reach new ≤ reach old + 2 * (5 + note_size x)
    reach_done done = omega (arith, a.tail done, a.start, size)

    pub reach_kept : result ≢ noted.Done → reach new ≤ reach old
    reach_kept not_done = omega (arith, a.tail_stays not_done, a.start)
