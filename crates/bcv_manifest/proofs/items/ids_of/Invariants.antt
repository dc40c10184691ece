use Rattle.std.proofs.Common.{◌≡◌, ◌-◌, None}
use Rattle.bcv_base.specs.ManifestGrammar.{items_at, id_at}
use Rattle.bcv_base.specs.ManifestText.{id_text}
use Rattle.bcv_manifest.proofs.Loop.{with_front}
use Rattle.bcv_manifest.proofs.items.ids_of.Given as goal

abbrev pub invariant-loop : goal.invariant-loop
invariant-loop l =
    with_front l.ids.items (items_at id_text (λ _. id_at) (l.count - l.counter) None l.rest) ≡ items_at id_text (λ _. id_at) l.count None l.bytes
