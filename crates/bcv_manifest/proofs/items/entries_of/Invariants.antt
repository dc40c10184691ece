use Rattle.std.proofs.Common.{◌≡◌, ◌-◌, None}
use Rattle.bcv_base.specs.ManifestGrammar.{items_at, entry_at}
use Rattle.bcv_base.specs.ManifestRules.{db_name}
use Rattle.bcv_manifest.proofs.Loop.{with_front}
use Rattle.bcv_manifest.proofs.items.entries_of.Given as goal

abbrev pub invariant-loop : goal.invariant-loop
invariant-loop l =
    with_front l.dbs.items (items_at db_name (entry_at l.block) (l.count - l.counter) l.before l.rest) ≡ items_at db_name (entry_at l.block) l.count None l.bytes
