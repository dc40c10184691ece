-- What a crash leaves at any moment of a call.
use Rattle.std.proofs.Common.{◌≡◌, ◌≤◌, ◌+◌, ◌*◌, ◌∙◌, ℕ, false, List, [], ◌∷◌, Option, Some, None, inl, inr, sym, arith}
use Rattle.bcv_clientlog.specs.declared.log.ClientLog.{ClientLog}
use Rattle.bcv_clientlog.specs.LogParts.{LoadsAs, LoadsUpTo, is_shut, log_area, log_disk, log_tail}
use Rattle.bcv_disk.specs.Calls.{LeavesOnly-started, LeavesOnly-weaker}
use Rattle.bcv_disk.specs.Crash.{LeavesOnly}
use Rattle.bcv_disk.specs.DiskShown.{DiskShown, DiskTold}
use Rattle.bcv_machine.specs.State as m
use Rattle.bcv_model.specs.declared.kept.Kept.{Kept}
use Rattle.bcv_model.specs.declared.note.Note.{Note}
use Rattle.bcv_model.specs.Notes.{after_note, note_size}
use Rattle.bcv_clientstate.specs.Journaled.{HoldsKept, Journaled, most_of}
use Rattle.bcv_clientstate.specs.SeenClient.{Free}

-- ---- more bytes

loads_as_more : (image : List ℕ) (k : Kept) (a b : ℕ) → a ≤ b → LoadsAs image k a → LoadsAs image k b
loads_as_more image k a b le loads =
    let within = loads.within in record { items = loads.items; tail = loads.tail; ends = loads.ends; are = loads.are; room = loads.room; within = omega (arith, le, within) }

pub loads_more : (k : Kept) (a b : ℕ) (notes : List Note) (image : List ℕ) → a ≤ b → LoadsUpTo k a notes image → LoadsUpTo k b notes image
loads_more k a b [] image le loads = loads_as_more image k a b le loads
loads_more k a b (x ∷ xs) image le (inl loads) = inl (loads_as_more image k a b le loads)
loads_more k a b (x ∷ xs) image le (inr loads) =
    inr (loads_more (after_note k x) (a + 2 * (5 + note_size x)) (b + 2 * (5 + note_size x)) xs image (omega (arith, le)) loads)

-- ---- a log at rest

no_flight : (image : List ℕ) (k : Kept) (most : ℕ) (flight : Option m.Note) → flight ≡ None → HoldsKept image k most flight → LoadsAs image k most
no_flight image k most flight none (inl loads) = loads
no_flight image k most flight none (inr flies) = absurd (let both : None ≡ Some flies.seen = sym none ∙ flies.flies in cc)

module _ {D : Type 0} {g : _} (told : DiskTold) (shown : D → DiskShown) (tells : told.tells)
    (only_now : (disk : D) → told.tells → (image : List ℕ) → (shown disk).left_since (shown disk).moment image → (shown disk).may_leave image) where
  -- a crash now leaves what is kept
  pub leaves_kept : (log : ClientLog D g) (k : Kept) (f : Free) → is_shut log ≡ false → Journaled shown log k f
      → LeavesOnly (shown (log_disk log)) (shown (log_disk log)) (LoadsUpTo k (most_of f) [])
  leaves_kept log k f is_open journaled =
      LeavesOnly-started (shown (log_disk log)) (LoadsUpTo k (most_of f) [])
      (λ image left. no_flight image k (most_of f) f.flight (journaled.still is_open) (journaled.images image (only_now (log_disk log) tells image left)))

-- as many bytes as the client noted
pub leaves_noted : {D : Type 0} {g : _} (shown : D → DiskShown) (old new : ClientLog D g) (k : Kept) (notes : List Note) (f : Free) → Journaled shown old k f
    → LeavesOnly (shown (log_disk old)) (shown (log_disk new)) (LoadsUpTo k (log_tail old + log_area old) notes)
    → LeavesOnly (shown (log_disk old)) (shown (log_disk new)) (LoadsUpTo k (most_of f) notes)
leaves_noted shown old new k notes f journaled leaves =
    LeavesOnly-weaker (shown (log_disk old)) (shown (log_disk new)) (LoadsUpTo k (log_tail old + log_area old) notes) (LoadsUpTo k (most_of f) notes)
    (λ image loads. loads_more k (log_tail old + log_area old) (most_of f) notes image journaled.within loads) leaves
