-- A text that is added after a compaction.
use Rattle.std.proofs.Common.{◌≡◌, inr, ℕ, Bool, false, length, Vec, Global, Ok, sym, subst}
use Rattle.bcv_disk.specs.DiskShown.{DiskShown, DiskTold}
use Rattle.bcv_journal.specs.Parts.{is_closed}
use Rattle.bcv_journal.specs.declared.fault.Noted.{Noted}
use Rattle.bcv_journal.specs.declared.journal.Journal.{Journal}
use Rattle.bcv_model.specs.declared.kept.Kept.{Kept}
use Rattle.bcv_clientlog.specs.AddedNote.{AddsAfter, CompactsText, JournalCompacts, Text}

pub compacted_then : {D : Type 0} {g : _} (told : DiskTold) (shown : D → DiskShown) (old mid new : Journal D g) (k : Kept) (dense : Bool) (text : Text) (v : Vec ℕ Global) (more : ℕ) (first result : Noted) → text ≡ Ok v → more ≡ length v.items → is_closed old ≡ false
    → JournalCompacts told shown old mid k dense more first → AddsAfter told shown mid new v.items first result → CompactsText told shown old new k dense text result
compacted_then told shown old mid new k dense text v more first result text_is more_is is_open compacted added = subst (λ (t : Text). CompactsText told shown old new k dense t result) (sym text_is) (inr (record {
  is_open = is_open;
  mid = mid;
  first = first;
  compacted = subst (λ (n : ℕ). JournalCompacts told shown old mid k dense n first) more_is compacted;
  added = added;
}))
