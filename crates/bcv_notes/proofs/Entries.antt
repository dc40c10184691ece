-- What the reader of a database's entry says, in the words of the notes' grammar.
use Rattle.std.proofs.Common.{◌≡◌, ℕ, ◌-◌, ◌+◌, ◌≤◌, List, ◌++◌, length, drop, None, Some, Result, Ok, Err, refl, sym, ap, subst, ◌∙◌, arith}
use Rattle.std.proofs.lemmas.List.{drop_at, length-append}
use Rattle.bcv_base.specs.declared.manifest.DbEntry.{DbEntry}
use Rattle.bcv_base.specs.ManifestGrammar.{Read, ◌>>=◌, placed, entry_at, entry_of}
use Rattle.bcv_base.specs.ManifestRules.{MeetsEntryRules}
use Rattle.bcv_base.specs.ManifestText.{entry_text}
use Rattle.bcv_manifest.specs.declared.fault.Bad.{Bad}
use Rattle.bcv_manifest.specs.declared.fault.ReadFault.{ReadFault}
use Rattle.bcv_manifest.specs.declared.fault.ReadFault.TheVariants as faults
use Rattle.bcv_manifest.specs.Reading.{Refuses}
use Rattle.bcv_manifest.proofs.Laws.{entry_reader}
use Rattle.bcv_notes.specs.NoteGrammar.{front}

abbrev answer : ℕ → Read DbEntry → Result (DbEntry × ℕ) ℕ
answer total read = placed total (read >>= λ d. Ok (d.0, total - length d.1))

taken_is : (total : ℕ) (d : DbEntry) (rest : List ℕ) (taken : ℕ) → answer total (Ok (d, rest)) ≡ Ok (d, taken) → taken ≡ total - length rest
taken_is total d rest taken e = sym (ap taken_in e)
  where
    taken_in : Result (DbEntry × ℕ) ℕ → ℕ
    taken_in (Ok x) = x.1
    taken_in (Err at) = 0

pub entry_is : (block : ℕ) (bytes : List ℕ) (d : DbEntry) (taken : ℕ) (rest : List ℕ) → MeetsEntryRules block d → bytes ≡ entry_text d ++ rest → entry_of block bytes ≡ Ok (d, taken)
    → (taken ≤ length bytes) × (front (entry_at block None bytes) ≡ Some (d, drop taken bytes))
unfolding entry_of
entry_is block bytes d taken rest rules parts exact =
    let again : entry_at block None bytes ≡ Ok (d, rest) = ap (entry_at block None) parts ∙ (entry_reader block None).again d rest (rules, refl) in
    let told : answer (length bytes) (Ok (d, rest)) ≡ Ok (d, taken) = ap (answer (length bytes)) (sym again) ∙ exact in
    let taken_eq : taken ≡ length bytes - length rest = taken_is (length bytes) d rest taken told in
    let sum : length bytes ≡ length (entry_text d) + length rest = ap length parts ∙ length-append (entry_text d) rest in
    let len : length (entry_text d) ≡ taken = omega (arith, taken_eq, sum) in
    let left : drop taken bytes ≡ rest = ap (drop taken) parts ∙ drop_at (entry_text d) rest taken len in
    (omega (arith, taken_eq), ap front again ∙ ap (λ (r : List ℕ). Some (d, r)) (sym left))

none_of : (total at : ℕ) (read : Read DbEntry) → answer total read ≡ Err at → front read ≡ None
none_of total at (Ok x) e = absurd cc
none_of total at (Err left) e = refl

pub entry_is_not : (block : ℕ) (bytes : List ℕ) (fault : ReadFault) (bad : Bad) → fault ≡ faults.Bad bad → Refuses fault (entry_of block bytes) → front (entry_at block None bytes) ≡ None
unfolding entry_of
entry_is_not block bytes fault bad is exact = none_of (length bytes) bad.at (entry_at block None bytes) (subst (λ (f : ReadFault). Refuses f (entry_of block bytes)) is exact)
