-- What the notes of a client's log do to what it keeps.
use Rattle.std.proofs.Common.{◌≡◌, ◌≤◌, ◌+◌, ℕ, false, List, Some, inl, inr}
use Rattle.bcv_clientlog.specs.declared.log.ClientLog.{ClientLog}
use Rattle.bcv_clientlog.specs.LogParts.{Holds, LoadsAs, is_shut, log_area, log_disk, log_start, log_tail, size_kept}
use Rattle.bcv_clientlog.specs.Noting.{CompactNoteTells, LogCompacts, LogNotes}
use Rattle.bcv_clientlog.specs.Compaction.{MovesTo}
use Rattle.bcv_disk.specs.DiskShown.{DiskShown, DiskTold}
use Rattle.bcv_journal.specs.declared.fault.Noted.{Noted}
use Rattle.bcv_machine.specs.State as m
use Rattle.bcv_model.specs.declared.kept.Kept.{Kept}
use Rattle.bcv_model.specs.declared.note.Note.{Note}
use Rattle.bcv_model.specs.NoteRules.{MayStand}
use Rattle.bcv_model.specs.Notes.{note_size}
use Rattle.bcv_clientstate.specs.Journaled.{IsTried, Journaled}
use Rattle.bcv_clientstate.specs.SeenClient.{Free}
use Rattle.bcv_clientstate.specs.SeenKept.{seen_note}
use Rattle.bcv_clientstate.proofs.NotesTried.{compacts_go_on, notes_go_on}
use Rattle.bcv_ledger.specs.LedgerNotes.{FourOrNine, NoteTried, TakesCalls}

-- four calls, or nine
by_moves : (start tail size more begin end calls : ℕ) → MovesTo start tail size more begin end calls → FourOrNine start tail size more calls
by_moves start tail size more begin end calls (inl (c, b, e, n)) = inl (c, n)
by_moves start tail size more begin end calls (inr (c, b, e, n)) = inr (c, n)

module _ {D : Type 0} {g : _} (told : DiskTold) (shown : D → DiskShown)
    (counts_now : (disk : D) → told.tells → (t : ℕ) (image : List ℕ) → t ≤ (shown disk).moment → (shown disk).may_leave image → (shown disk).left_since t image)
    (old new : ClientLog D g) (k : Kept) (x : Note) (result : Noted)
    (rest : (kept : Kept) → Holds shown new kept → (image : List ℕ) → (shown (log_disk new)).may_leave image → LoadsAs image kept (log_tail new + log_area new)) where
  asked : told.tells → (f : Free) (y : m.Note) → Journaled shown old k f → is_shut old ≡ false → MayStand k x → seen_note k x ≡ Some y
      → (shown (log_disk old)).moment ≤ (shown (log_disk new)).moment → IsTried shown old new k f x y
  asked tells f y journaled is_open may is later = record {
    journaled = journaled;
    is_open = is_open;
    may = may;
    is = is;
    now = λ image left. counts_now (log_disk new) tells (shown (log_disk old)).moment image later left;
    rest = rest;
  }

  -- a note that goes after the others, in four calls
  pub tried : TakesCalls x (log_start old) (log_tail old) (size_kept k) 4 → LogNotes told shown old new x result → NoteTried told shown old new k x result
  tried four notes = record {
    leaves = notes.leaves;
    any_moment = λ tells holds may. (notes.tells tells k holds may).any_moment;
    counts = λ tells troubled done holds may. record { calls = 4; takes = four; counts = (notes.tells tells k holds may).counts troubled done };
    goes = λ tells is_open may f journaled y is.
        notes_go_on told shown old new k f x y result tells
        (asked tells f y journaled is_open may is (notes.tells tells k (journaled.settled is_open) may).any_moment.later) notes;
  }

  -- a note before which the log may be written anew
  pub tried_compactly : log_start old ≤ log_tail old → ((calls : ℕ) → FourOrNine (log_start old) (log_tail old) (size_kept k) (note_size x) calls → TakesCalls x (log_start old) (log_tail old) (size_kept k) calls)
      → LogCompacts told shown old new k x result → NoteTried told shown old new k x result
  tried_compactly order takes notes = record {
    leaves = notes.leaves;
    any_moment = λ tells holds may. (notes.tells tells holds may).tells.any_moment;
    counts = λ tells troubled done holds may.
        let c : CompactNoteTells told shown old new k x result = notes.tells tells holds may in
        record { calls = c.calls; takes = takes c.calls (by_moves (log_start old) (log_tail old) (size_kept k) (note_size x) c.begin c.end c.calls c.moves); counts = c.tells.counts troubled done };
    goes = λ tells is_open may f journaled y is.
        compacts_go_on told shown old new k f x y result tells order
        (asked tells f y journaled is_open may is (notes.tells tells (journaled.settled is_open) may).tells.any_moment.later) notes;
  }
