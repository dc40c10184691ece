-- A client that crashed is down, and stays so.
use Rattle.std.proofs.Common.{◌≡◌, ◌∙◌, ◌+◌, ◌*◌, ℕ, List, [], ◌∷◌, ◌++◌, Option, None, Some, inl, inr, sym, subst}
use Rattle.bcv_base.specs.declared.id.Id16.{Id16}
use Rattle.bcv_base.specs.declared.log.Entry.{Entry}
use Rattle.bcv_base.specs.History.{history_of}
use Rattle.bcv_cache.specs.Entry as cache
use Rattle.bcv_clientlaws.specs.OtherParts.{FitsKept}
use Rattle.bcv_clientlaws.proofs.OtherParts.{others_leave_fits, risen_fits}
use Rattle.bcv_clientlog.specs.declared.log.ClientLog.{ClientLog}
use Rattle.bcv_clientlog.specs.LogParts.{LoadsAs, LoadsUpTo}
use Rattle.bcv_clientlog.proofs.LoadedLog.{loads_once}
use Rattle.bcv_clientstate.specs.Fits.{Fits}
use Rattle.bcv_clientstate.specs.Journaled.{HoldsKept, most_of}
use Rattle.bcv_clientstate.specs.Parts.{Parts}
use Rattle.bcv_clientstate.specs.UpSides.{risen_parts}
use Rattle.bcv_clientstate.proofs.NotesTried.{arrived}
use Rattle.bcv_disk.specs.DiskShown.{DiskShown}
use Rattle.bcv_machine.specs.State as m
use Rattle.bcv_model.specs.declared.kept.Kept.{Kept}
use Rattle.bcv_model.specs.declared.note.Note as bytes
use Rattle.bcv_model.specs.Notes.{after_note, note_size}
use Rattle.bcv_risen.specs.DownLaws.{CrashLeavesDown, FlightLeavesDown, GrowthLeavesDown}
use Rattle.bcv_risen.specs.SeenBases.{seen_in}
use Rattle.bcv_risen.proofs.SeenFits.{seen_fits}

-- what a client keeps fits its log by itself
pub fits_kept : (log : List Entry) (entries : List cache.Entry) (p : Parts) → Fits p entries log → FitsKept log p.id p.kept []
fits_kept log entries p fits =
    record { named = fits.named; ordered = fits.ordered; locals = fits.locals; are_known = record { order = tt; apart = tt; fits = tt }; pending = fits.pending }

-- ---- a crash

loads_settled : (image : List ℕ) (k : Kept) (most : ℕ) (flight : Option m.Note) → flight ≡ None → HoldsKept image k most flight → LoadsAs image k most
loads_settled image k most flight none (inl loads) = loads
loads_settled image k most flight none (inr h) = let some : None ≡ Some h.seen = sym none ∙ h.flies in absurd (cc (some))

pub crash_leaves_down : {D : Type 0} {g : _} (shown : D → DiskShown) (was : ClientLog D g) (disk : D) → CrashLeavesDown shown was disk
crash_leaves_down shown was disk log entries p f fits journaled still same = record {
  is_id = fits.is_id;
  ordered = fits.ordered;
  holds = λ image left. journaled.images image (same image left);
  fits = λ image left other most loads.
      let settled : LoadsAs image p.kept (most_of f) = loads_settled image p.kept (most_of f) f.flight still (journaled.images image (same image left)) in
      subst (λ (k : Kept). FitsKept log p.id k []) (loads_once image p.kept other (most_of f) most settled loads) (fits_kept log entries p fits);
}

-- ---- a note in flight

module _ (log : List Entry) (id : Id16) (k : Kept) (x : bytes.Note) (here : FitsKept log id k []) (there : FitsKept log id (after_note k x) []) where
  either_fits : (image : List ℕ) (long : ℕ) → LoadsUpTo k long (x ∷ []) image → (other : Kept) (most : ℕ) → LoadsAs image other most → FitsKept log id other []
  either_fits image long (inl before) other most loads = subst (λ (j : Kept). FitsKept log id j []) (loads_once image k other long most before loads) here
  either_fits image long (inr noted) other most loads =
      subst (λ (j : Kept). FitsKept log id j []) (loads_once image (after_note k x) other (long + 2 * (5 + note_size x)) most noted loads) there

pub flight_leaves_down : {D : Type 0} (shown : D → DiskShown) (disk : D) → FlightLeavesDown shown disk
flight_leaves_down shown disk log entries p f x y most fits noted may is flies within each = record {
  is_id = fits.is_id;
  ordered = fits.ordered;
  holds = λ image left.
      subst (λ (o : Option m.Note). HoldsKept image p.kept (most_of f) o) (sym flies) (arrived image p.kept x y most (most_of f) may is within (each image left));
  fits = λ image left. either_fits log p.id p.kept x (fits_kept log entries p fits) noted image most (each image left);
}

-- ---- growth

pub growth_leaves_down : {D : Type 0} (shown : D → DiskShown) (disk : D) → GrowthLeavesDown shown disk
growth_leaves_down shown disk mine log others id k f sound names lawful down = record {
  is_id = down.is_id;
  ordered = down.ordered;
  holds = down.holds;
  fits = λ image there left most loads.
      let kept = down.fits image there left most loads in
      let before : Fits (risen_parts id left (seen_in left)) [] log = risen_fits log id left (seen_in left) down.is_id kept (seen_fits (history_of log) sound left kept.locals) in
      fits_kept (log ++ others) [] (risen_parts id left (seen_in left)) (others_leave_fits mine log others (risen_parts id left (seen_in left)) [] sound (names image there left most loads) lawful before);
}
