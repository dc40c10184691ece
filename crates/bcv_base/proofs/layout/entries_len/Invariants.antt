use Rattle.std.proofs.Common.{◌≡◌, ◌-◌, ◌^◌, ◌+◌, ◌≤◌, min, drop}
use Rattle.bcv_base.specs.ManifestRules.{total_length}
use Rattle.bcv_base.proofs.layout.entries_len.Given as goal

abbrev pub invariant-loop-entry : goal.invariant-loop-entry
invariant-loop-entry l = record {
  within : l.total ≤ 2 ^ 64 - 1;
  sum : min (l.total + total_length (drop l.entry-index l.entries)) (2 ^ 64 - 1) ≡ min (total_length l.entries) (2 ^ 64 - 1);
}
