use Rattle.std.proofs.Common.{◌≡◌, ◌-◌, None}
use Rattle.std.specs.Option.{option_map}
use Rattle.bcv_base.specs.declared.id.Id16.{Id16}
use Rattle.bcv_base.specs.Ids.{has_id}
use Rattle.bcv_base.specs.ManifestGrammar.{items_at, dead_at}
use Rattle.bcv_base.specs.ManifestRules.{dead_id}
use Rattle.bcv_manifest.proofs.Loop.{with_front}
use Rattle.bcv_manifest.proofs.items.dead_list_of.Given as goal

abbrev pub invariant-loop : goal.invariant-loop
invariant-loop l =
    with_front l.dead.items (items_at dead_id (dead_at (λ i. has_id i l.listed)) (l.count - l.counter) (option_map (λ (b : Id16). b.0) l.before) l.rest) ≡ items_at dead_id (dead_at (λ i. has_id i l.listed)) l.count None l.bytes
