-- The manifests that the tests edit.
use Rattle.std.specs.Prelude.{◌≡◌}
use Rattle.bcv_base.specs.declared.manifest.Manifest.{Manifest}
use Rattle.bcv_base.specs.ManifestRules.{MeetsRules, MeetsLimits}

-- one that meets the rules and limits, of blocks of 1,024 bytes
pub record IsTried (m : Manifest) : Type 0 where
  pub rules : MeetsRules m
  pub limits : MeetsLimits m
  pub block : m.block ≡ 1024
