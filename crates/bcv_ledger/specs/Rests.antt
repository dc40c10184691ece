-- What a ledger at rest stands for.
use Rattle.std.specs.Prelude.{◌≡◌, ◌+◌, ◌≤◌, None}
use Rattle.bcv_clientlog.specs.LogParts.{Holds, log_area, log_tail}
use Rattle.bcv_disk.specs.DiskShown.{DiskShown}
use Rattle.bcv_clientstate.specs.Journaled.{Journaled, most_of}
use Rattle.bcv_clientstate.specs.SeenClient.{Free}
use Rattle.bcv_ledger.specs.declared.ledger.Ledger.{Ledger}

-- where its log holds what it keeps, no note is in flight, and as many bytes were noted as the log reaches, every image that a
-- crash may leave now is one of what is kept
abbrev pub LedgerRests : {D : Type 0} {g : _} → (D → DiskShown) → Ledger D g → Type 0
LedgerRests shown l =
    (f : Free) → Holds shown l.log l.databases.kept → f.flight ≡ None → log_tail l.log + log_area l.log ≤ most_of f → Journaled shown l.log l.databases.kept f
