-- What a note comes to for a client whose log holds what it keeps.
use Rattle.std.proofs.Common.{◌≡◌, ◌⊎◌, ◌+◌, ◌*◌, ◌-◌, ◌<◌, ◌≤◌, ℕ, Bool, true, false, cond, nat_le, List, [], ◌∷◌, Some, None, inl, inr, refl, arith}
use Rattle.bcv_clientlog.specs.declared.log.ClientLog.{ClientLog}
use Rattle.bcv_clientlog.specs.Compaction.{MovesTo}
use Rattle.bcv_clientlog.specs.LogParts.{Holds, LoadsAs, LoadsUpTo, is_shut, log_area, log_start, log_tail, size_kept}
use Rattle.bcv_clientlog.specs.Noting.{CompactNoteTells, LogCompacts, LogNotes, NoteLeaves, NoteTells, spare_after}
use Rattle.bcv_disk.specs.DiskShown.{DiskShown, DiskTold}
use Rattle.bcv_journal.specs.declared.fault.Noted.{Noted}
use Rattle.bcv_journal.specs.declared.fault.Noted.TheVariants.{Done, JournalFull, DiskFault, Closed, NoMemory}
use Rattle.bcv_journal.specs.Moved.{new_start}
use Rattle.bcv_machine.specs.State as m
use Rattle.bcv_model.specs.declared.kept.Kept.{Kept}
use Rattle.bcv_model.specs.declared.note.Note as bytes
use Rattle.bcv_model.specs.declared.note.Note.TheVariants as note
use Rattle.bcv_model.specs.NoteRules.{MayStand}
use Rattle.bcv_model.specs.Notes.{after_note, note_size}
use Rattle.bcv_clientstate.specs.Journaled.{CompactGoesOn, HoldsKept, IsTried, Journaled, NoteGoes, NoteGoesOn, free_failed, free_noted, most_of}
use Rattle.bcv_clientstate.specs.SeenClient.{Free}
use Rattle.bcv_clientstate.specs.SeenKept.{seen_note}

pub loads_within : (image : List ℕ) (k : Kept) (a b : ℕ) → a ≤ b → LoadsAs image k a → LoadsAs image k b
loads_within image k a b le l = record { items = l.items; tail = l.tail; ends = l.ends; are = l.are; room = l.room; within = let w = l.within in omega (arith, w, le) }

spare_least : (x : bytes.Note) → spare_after x ≤ 64
spare_least (note.Me id) = omega arith
spare_least (note.First entry number block c) = omega arith
spare_least (note.Committed db c) = omega arith
spare_least (note.Intent p) = omega arith
spare_least (note.Done id number) = omega arith
spare_least (note.Void id) = omega arith
spare_least (note.Revert db) = omega arith

-- an image that was left since the call began, in the words of what is kept
pub arrived : (image : List ℕ) (k : Kept) (x : bytes.Note) (y : m.Note) (reach most : ℕ) → MayStand k x → seen_note k x ≡ Some y → reach + 2 * (5 + note_size x) ≤ most
    → LoadsUpTo k reach (x ∷ []) image → HoldsKept image k most (Some y)
arrived image k x y reach most may is le (inl l) = inl (loads_within image k reach most (omega (arith, le)) l)
arrived image k x y reach most may is le (inr l) =
    inr (record { note = x; may = may; seen = y; is_seen = is; flies = refl; loads = loads_within image (after_note k x) (reach + 2 * (5 + note_size x)) most le l })

-- where a log is written anew: at the front, or after itself
by_cond : (b : Bool) (x y z : ℕ) → z ≡ cond b x y → (z ≡ x) ⊎ (z ≡ y)
by_cond true x y z e = inl e
by_cond false x y z e = inr e

by_start : (size start tail begin : ℕ) → begin ≡ new_start size start tail → (begin ≡ 17) ⊎ (begin ≡ tail + 1)
by_start size start tail begin e = by_cond (nat_le (18 + size) start) 17 (tail + 1) begin e

pub moved_within : (start tail size begin end most : ℕ) → start ≤ tail → 65536 < tail - start → 2 * (size + 1) ≤ tail - start → tail + (tail - start) ≤ most → end ≡ begin + size
    → (begin ≡ 17) ⊎ (begin ≡ tail + 1) → end ≤ most
moved_within start tail size begin end most order long halves within e (inl b) = omega (arith, order, long, halves, within, e, b)
moved_within start tail size begin end most order long halves within e (inr b) = omega (arith, order, long, halves, within, e, b)

module _ {D : Type 0} {g : _} (told : DiskTold) (shown : D → DiskShown) (old new : ClientLog D g) (k : Kept) (f : Free) (x : bytes.Note) (y : m.Note) where
  abbrev Asked : Type 0
  Asked = IsTried shown old new k f x y

  -- the log after a note that stands, or after none
  held : (kept : Kept) (g2 : Free) → Asked → Holds shown new kept → g2.flight ≡ None → log_tail new + log_area new ≤ most_of g2 → Journaled shown new kept g2
  held kept g2 asked holds still within = record {
    settled = λ o. holds;
    still = λ o. still;
    images = λ image left. inl (loads_within image kept (log_tail new + log_area new) (most_of g2) within (asked.rest kept holds image left));
    within = within;
  }

  goes : (result : Noted) (begin end calls : ℕ) → Asked → NoteLeaves told shown old new x result → NoteTells told shown old new x result k begin end calls → end ≤ most_of f → NoteGoes shown new k f x y result
  goes Done begin end calls asked leaves tells le =
      held (after_note k x) (free_noted (note_size x) f) asked (tells.done refl) (asked.journaled.still asked.is_open)
      (let w = tells.within in let v = asked.journaled.within in omega (arith, w, v))
  goes JournalFull begin end calls asked leaves tells le = (
    held k f asked (tells.kept (inr refl)) (asked.journaled.still asked.is_open) (let w = tells.unnoted (λ e. absurd (cc)) in let v = asked.journaled.within in omega (arith, w, v)),
    (let w = tells.full refl in let s = spare_least x in omega (arith, w, s, le)),
  )
  goes DiskFault begin end calls asked leaves tells le =
      let shut : is_shut new ≡ true = (leaves.shuts).1 (inr refl) in
      record {
        settled = λ o. absurd (cc);
        still = λ o. absurd (cc);
        images = λ image left. arrived image k x y (log_tail old + log_area old) (most_of (free_failed (note_size x) y f)) asked.may asked.is
            (let v = asked.journaled.within in omega (arith, v)) (tells.any_moment.each image (asked.now image left));
        within = let w = tells.within in let v = asked.journaled.within in omega (arith, w, v);
      }
  goes Closed begin end calls asked leaves tells le = let o = asked.is_open in let c = leaves.closed.0 refl in absurd (cc)
  goes NoMemory begin end calls asked leaves tells le =
      held k f asked (tells.kept (inl refl)) (asked.journaled.still asked.is_open) (let w = tells.unnoted (λ e. absurd (cc)) in let v = asked.journaled.within in omega (arith, w, v))

  -- a note that is added to the others
  pub note_goes : (result : Noted) → told.tells → Asked → LogNotes told shown old new x result → NoteGoes shown new k f x y result
  note_goes result tells asked notes =
      goes result (log_start old) (log_tail old) 4 asked notes.leaves (notes.tells tells k (asked.journaled.settled asked.is_open) asked.may)
      (let v = asked.journaled.within in omega (arith, v))

  -- where notes end that were written anew
  ends_within : (begin end calls : ℕ) → log_start old ≤ log_tail old → MovesTo (log_start old) (log_tail old) (size_kept k) (note_size x) begin end calls → log_tail old + log_area old ≤ most_of f → end ≤ most_of f
  ends_within begin end calls order (inl (c, b, e, n)) within =
      moved_within (log_start old) (log_tail old) (size_kept k) begin end (most_of f) order c.long c.halves within e (by_start (size_kept k) (log_start old) (log_tail old) begin b)
  ends_within begin end calls order (inr (c, b, e, n)) within = omega (arith, e, within)

  -- a note before which the log may be written anew
  pub compact_goes : (result : Noted) → told.tells → log_start old ≤ log_tail old → Asked → LogCompacts told shown old new k x result → NoteGoes shown new k f x y result
  compact_goes result tells order asked notes =
      let c : CompactNoteTells told shown old new k x result = notes.tells tells (asked.journaled.settled asked.is_open) asked.may in
      goes result c.begin c.end c.calls asked notes.leaves c.tells (ends_within c.begin c.end c.calls order c.moves asked.journaled.within)

pub notes_go_on : {D : Type 0} {g : _} (told : DiskTold) (shown : D → DiskShown) (old new : ClientLog D g) → NoteGoesOn told shown old new
notes_go_on told shown old new k f x y result tells asked notes = note_goes told shown old new k f x y result tells asked notes

pub compacts_go_on : {D : Type 0} {g : _} (told : DiskTold) (shown : D → DiskShown) (old new : ClientLog D g) → CompactGoesOn told shown old new
compacts_go_on told shown old new k f x y result tells order asked notes = compact_goes told shown old new k f x y result tells order asked notes
