use Rattle.std.proofs.Common.{◌≡◌, map, take}
use Rattle.bcv_base.specs.declared.manifest.DbEntry.{DbEntry}
use Rattle.bcv_databases.proofs.copies.known_in.Given as goal

abbrev pub invariant-loop-entry : goal.invariant-loop-entry
invariant-loop-entry l =
    (l.entry-items ≡ l.manifest.dbs) × (l.found.items ≡ map (λ (d : DbEntry). record { entry = d; number = l.manifest.number; block = l.manifest.block }) (take l.entry-index l.entry-items))
