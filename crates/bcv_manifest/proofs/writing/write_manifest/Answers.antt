use Rattle.std.proofs.Common.{◌≡◌, ℕ, length, Result, Ok, Err, ap, ◌∙◌}
use Rattle.std.specs.Prelude.{IfOk}
use Rattle.std.specs.Global.{Vec}
use Rattle.std.specs.declared.alloc.AllocError.{AllocError}
use Rattle.bcv_base.specs.declared.manifest.Manifest.{Manifest}
use Rattle.bcv_base.specs.ManifestGrammar.{manifest_of}
use Rattle.bcv_base.specs.ManifestRules.{MeetsRules, MeetsLimits, IsShort, manifest_length}
use Rattle.bcv_base.specs.ManifestText.{manifest_text}
use Rattle.bcv_manifest.proofs.Ends.{length_text, manifest_only}
use Rattle.bcv_manifest.proofs.writing.write_manifest.Goals as goal

is_long : (m : Manifest) (r : Result (Vec ℕ) AllocError) → MeetsRules m → IfOk r (λ v. v.items ≡ manifest_text m) → IfOk r (λ v. length v.items ≡ manifest_length m)
is_long m (Ok v) rules text = ap length text ∙ length_text m rules
is_long m (Err e) rules text = tt

pub returns-clause-len : goal.returns-clause-len
returns-clause-len c = is_long c.args.manifest.now c.spelled.result c.requires.rules c.spelled.ensures

is_read : (m : Manifest) (r : Result (Vec ℕ) AllocError) → MeetsRules m → MeetsLimits m → IsShort m → IfOk r (λ v. v.items ≡ manifest_text m) → IfOk r (λ v. manifest_of v.items ≡ Ok m)
is_read m (Ok v) rules limits fits text = ap manifest_of text ∙ manifest_only m rules limits fits
is_read m (Err e) rules limits fits text = tt

pub returns-clause-reads : goal.returns-clause-reads
returns-clause-reads c = is_read c.args.manifest.now c.spelled.result c.requires.rules c.requires.limits c.requires.short c.spelled.ensures
