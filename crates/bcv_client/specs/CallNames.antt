-- What a client has besides what is in its memory: the name of an intent in flight, and what a crash may leave of its disk.
use Rattle.std.specs.Prelude.{ℕ, List, [], ◌∷◌, Option, Some}
use Rattle.bcv_base.specs.declared.id.Id16.{Id16}
use Rattle.bcv_base.specs.declared.log.Entry.{Entry}
use Rattle.bcv_clientlaws.specs.OtherParts.{FitsKept}
use Rattle.bcv_clientlog.specs.LogParts.{LoadsAs, log_disk}
use Rattle.bcv_disk.specs.DiskShown.{DiskShown}
use Rattle.bcv_machine.specs.State as m
use Rattle.bcv_model.specs.declared.kept.Kept.{Kept}
use Rattle.bcv_client.specs.declared.client.Client.{Client}

-- the id of the publication whose intent is in flight
abbrev pub flight_names : Option m.Note → List Id16
flight_names (Some (m.Intending p)) = p.id ∷ []
flight_names _ = []

-- what a crash may leave of the client's disk fits the log
abbrev pub LeavesFit : {D : Type 0} {g : _} → (D → DiskShown) → Client D g → List Entry → Type 0
LeavesFit shown c log =
    (image : List ℕ) → (shown (log_disk c.ledger.log)).may_leave image
    → (left : Kept) (most : ℕ) → LoadsAs image left most → FitsKept log c.id left []
