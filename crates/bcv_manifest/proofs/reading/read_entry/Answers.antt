use Rattle.std.proofs.Common.{◌≡◌, ◌++◌, ℕ, List, Result, Ok, Err, subst, ap, ◌∙◌, arith}
use Rattle.std.specs.Prelude.{IfOk}
use Rattle.bcv_base.specs.declared.manifest.DbEntry.{DbEntry}
use Rattle.bcv_base.specs.ManifestGrammar.{entry_of}
use Rattle.bcv_base.specs.ManifestRules.{MeetsEntryRules, entry_length}
use Rattle.bcv_base.specs.ManifestText.{entry_text}
use Rattle.bcv_manifest.specs.declared.fault.ReadFault.{ReadFault}
use Rattle.bcv_manifest.specs.Reading.{Answers}
use Rattle.bcv_manifest.proofs.Readers.{IsBytes}
use Rattle.bcv_manifest.proofs.Ends.{entry_found, entry_only}
use Rattle.bcv_manifest.proofs.reading.read_entry.Goals as goal

is_found : (block : ℕ) (bytes : List ℕ) (r : Result (DbEntry × ℕ) ReadFault) → IsBytes bytes → Answers (λ x. x) r (entry_of block bytes)
    → IfOk r (λ x. MeetsEntryRules block x.0 × (x.1 ≡ entry_length x.0) × ((rest : List ℕ) × (bytes ≡ entry_text x.0 ++ rest)))
is_found block bytes (Ok x) fits given = entry_found block bytes x fits given
is_found block bytes (Err e) fits given = tt

pub returns-clause-found : goal.returns-clause-found
returns-clause-found c = is_found c.args.block c.args.bytes.now c.entry_answer.result (λ i. omega (arith, c.type_inv.bytes i)) c.entry_answer.ensures

pub returns-clause-only : goal.returns-clause-only
returns-clause-only c = λ d rest rules e. subst (λ (f : Result (DbEntry × ℕ) ℕ). Answers (λ x. x) c.entry_answer.result f) (ap (entry_of c.args.block) e ∙ entry_only c.args.block d rest rules) c.entry_answer.ensures
