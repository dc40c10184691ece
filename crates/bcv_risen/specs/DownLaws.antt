-- Laws on a client that is down: that a crash leaves it so, and that it stays so while others append to the log.
use Rattle.std.specs.Prelude.{◌≡◌, ◌+◌, ◌*◌, ◌≤◌, ℕ, List, [], ◌∷◌, ◌++◌, None, Some}
use Rattle.bcv_base.specs.declared.id.Id16.{Id16}
use Rattle.bcv_base.specs.declared.log.Entry.{Entry}
use Rattle.bcv_base.specs.History.{history_of}
use Rattle.bcv_cache.specs.Entry as cache
use Rattle.bcv_clientlaws.specs.OtherParts.{FitsKept, Includes}
use Rattle.bcv_clientlog.specs.declared.log.ClientLog.{ClientLog}
use Rattle.bcv_clientlog.specs.LogParts.{LoadsAs, LoadsUpTo, log_disk}
use Rattle.bcv_clientstate.specs.Fits.{Fits}
use Rattle.bcv_clientstate.specs.Journaled.{Journaled, most_of}
use Rattle.bcv_clientstate.specs.Parts.{Parts, mine_of}
use Rattle.bcv_clientstate.specs.SeenClient.{Free}
use Rattle.bcv_clientstate.specs.SeenKept.{seen_note}
use Rattle.bcv_clientstate.specs.UpSides.{risen_parts}
use Rattle.bcv_dbmap.specs.Growth.{AreLawful}
use Rattle.bcv_dbmap.specs.Sound.{IsSoundLog}
use Rattle.bcv_disk.specs.DiskShown.{DiskShown}
use Rattle.bcv_machine.specs.State as m
use Rattle.bcv_model.specs.declared.kept.Kept.{Kept}
use Rattle.bcv_model.specs.declared.note.Note as bytes
use Rattle.bcv_model.specs.NoteRules.{MayStand}
use Rattle.bcv_model.specs.Notes.{after_note, note_size}
use Rattle.bcv_risen.specs.RisenSides.{IsDown}
use Rattle.bcv_risen.specs.SeenBases.{seen_in}

-- a client with no note in flight, whose crash left this disk
abbrev pub CrashLeavesDown : {D : Type 0} {g : _} → (D → DiskShown) → ClientLog D g → D → Type 0
CrashLeavesDown shown was disk =
    (log : List Entry) (entries : List cache.Entry) (p : Parts) (f : Free) → Fits p entries log → Journaled shown was p.kept f
    → f.flight ≡ None → ((image : List ℕ) → (shown disk).may_leave image → (shown (log_disk was)).may_leave image)
    → IsDown (shown disk) log p.id p.kept f

-- a client with a note in flight, where what it keeps with the note fits the log, too
abbrev pub FlightLeavesDown : {D : Type 0} → (D → DiskShown) → D → Type 0
FlightLeavesDown shown disk =
    (log : List Entry) (entries : List cache.Entry) (p : Parts) (f : Free) (x : bytes.Note) (y : m.Note) (most : ℕ) → Fits p entries log
    → FitsKept log p.id (after_note p.kept x) [] → MayStand p.kept x → seen_note p.kept x ≡ Some y → f.flight ≡ Some y
    → most + 2 * (5 + note_size x) ≤ most_of f → ((image : List ℕ) → (shown disk).may_leave image → LoadsUpTo p.kept most (x ∷ []) image)
    → IsDown (shown disk) log p.id p.kept f

-- others keep away from the names of all that may be left
abbrev pub GrowthLeavesDown : {D : Type 0} → (D → DiskShown) → D → Type 0
GrowthLeavesDown shown disk =
    (mine : List Id16) (log others : List Entry) (id : Id16) (k : Kept) (f : Free) → IsSoundLog log
    → ((image : List ℕ) → (shown disk).may_leave image → (left : Kept) (most : ℕ) → LoadsAs image left most → Includes mine (mine_of (risen_parts id left (seen_in left))))
    → AreLawful mine (history_of log) others → IsDown (shown disk) log id k f → IsDown (shown disk) (log ++ others) id k f
