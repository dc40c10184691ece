use Rattle.std.proofs.Common.{◌≡◌, ℕ, List, Result, Ok, Err, subst, ap, ◌∙◌, arith}
use Rattle.std.specs.Prelude.{IfOk}
use Rattle.bcv_base.specs.declared.manifest.Manifest.{Manifest}
use Rattle.bcv_base.specs.ManifestGrammar.{manifest_of}
use Rattle.bcv_base.specs.ManifestRules.{MeetsRules, MeetsLimits}
use Rattle.bcv_base.specs.ManifestText.{manifest_text}
use Rattle.bcv_manifest.specs.declared.fault.ReadFault.{ReadFault}
use Rattle.bcv_manifest.specs.Reading.{Answers}
use Rattle.bcv_manifest.proofs.Readers.{IsBytes}
use Rattle.bcv_manifest.proofs.Ends.{manifest_found, manifest_only}
use Rattle.bcv_manifest.proofs.reading.read_manifest.Goals as goal

is_found : (bytes : List ℕ) (r : Result Manifest ReadFault) → IsBytes bytes → Answers (λ x. x) r (manifest_of bytes) → IfOk r (λ m. MeetsRules m × MeetsLimits m × (bytes ≡ manifest_text m))
is_found bytes (Ok m) fits given = manifest_found bytes m fits given
is_found bytes (Err e) fits given = tt

pub returns-clause-found : goal.returns-clause-found
returns-clause-found c = is_found c.args.bytes.now c.answer.result (λ i. omega (arith, c.type_inv.bytes i)) c.answer.ensures

pub returns-clause-only : goal.returns-clause-only
returns-clause-only c = λ m rules limits fits e. subst (λ (f : Result Manifest ℕ). Answers (λ x. x) c.answer.result f) (ap manifest_of e ∙ manifest_only m rules limits fits) c.answer.ensures
