-- What is seen by bases of a log is so in the log.
use Rattle.std.proofs.Common.{◌≡◌, ◌≤◌, List, [], ◌∷◌, IfSome, arith}
use Rattle.std.specs.List.{AllByRecursion}
use Rattle.bcv_base.specs.declared.manifest.Manifest.{Manifest}
use Rattle.bcv_base.specs.History.{Item, count_of}
use Rattle.bcv_clientlaws.proofs.ManifestsRead.{number_within}
use Rattle.bcv_clientstate.specs.BaseLaws.{FitsLocal}
use Rattle.bcv_clientstate.specs.Fits.{FitsSeen}
use Rattle.bcv_dbmap.specs.Outlived.{IsPublished}
use Rattle.bcv_dbmap.specs.Sound.{Sound}
use Rattle.bcv_model.specs.declared.kept.Kept.{Kept}
use Rattle.bcv_model.specs.declared.kept.Local.{Local}
use Rattle.bcv_risen.specs.SeenBases.{first_block, greatest_base, seen_in}

module _ (past : List Item) (sound : Sound past) where
  block_fits : (ls : List Local) → AllByRecursion (FitsLocal past) ls → IfSome (first_block ls) (λ b. (m : Manifest) × IsPublished m past × (m.block ≡ b))
  block_fits [] all = tt
  block_fits (l ∷ ls) all = let base = all.0 in (base.manifest, base.published, base.block_is)

  number_fits : (ls : List Local) → AllByRecursion (FitsLocal past) ls → greatest_base ls ≤ count_of past
  number_fits [] all = omega arith
  number_fits (l ∷ ls) all =
      let base = all.0 in
      let own : base.manifest.number ≤ count_of past = number_within past base.manifest sound base.published in
      omega (arith, own, base.number_is, number_fits ls all.1)

  pub seen_fits : (k : Kept) → AllByRecursion (FitsLocal past) k.locals → FitsSeen past (seen_in k)
  seen_fits k all = record { block = block_fits k.locals all; number = number_fits k.locals all }
