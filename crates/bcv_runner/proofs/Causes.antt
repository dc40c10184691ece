-- Why a command ends as a fault of its input or of its output.
use Rattle.std.proofs.Common.{◌≡◌, ◌≢◌, ℕ, true, false, Result, Ok, Err, MatchResult, refl, sym, ap, ◌∙◌}
use Rattle.bcv_base.specs.Faults.{Rose}
use Rattle.bcv_commands.specs.declared.status.Status.{Status}
use Rattle.bcv_commands.specs.declared.status.Status.TheVariants as status
use Rattle.bcv_runner.specs.Endings.{StreamCauses, is_clients, status_of}
use Rattle.bcv_runner.specs.Operations.{InputCauses}
use Rattle.bcv_runner.specs.declared.ending.Ending.{Ending}
use Rattle.bcv_runner.specs.declared.operation.Operation.{Operation}

-- how the command ends is a client's, or as the input ended it
abbrev pub EndsInside : Result Operation Ending → Ending → Type 0
EndsInside prepared e = MatchResult prepared (λ (o : Operation). is_clients (status_of e) ≡ true) (λ (why : Ending). e ≡ why)

-- no client answers such a status
not_clients : (s t : Status) → is_clients s ≡ true → is_clients t ≡ false → s ≢ t
not_clients s t one two same = absurd (let e : true ≡ false = sym one ∙ ap is_clients same ∙ two in cc)

pub stream_causes : (prepared : Result Operation Ending) (e : Ending) (i j o p : ℕ) (s : Status) → InputCauses i j prepared → EndsInside prepared e
    → (s ≡ status.ReadFault → status_of e ≡ status.ReadFault) → (s ≡ status.WriteFault → status_of e ≢ status.WriteFault → Rose o p)
    → (s ≢ status.WriteFault → p ≡ o) → StreamCauses i j o p s
stream_causes (Ok operation) e i j o p s input inside read write steady = record {
  read = λ is. absurd (not_clients (status_of e) status.ReadFault inside refl (read is));
  write = λ is. write is (not_clients (status_of e) status.WriteFault inside refl);
  steady = steady;
}
stream_causes (Err why) e i j o p s input inside read write steady = record {
  read = λ is. input.read (sym (ap status_of inside) ∙ read is);
  write = λ is. write is (λ same. input.write (sym (ap status_of inside) ∙ same));
  steady = steady;
}

pub not_words : (prepared : Result Operation Ending) (e : Ending) (i j : ℕ) (s : Status) → InputCauses i j prepared → EndsInside prepared e
    → (s ≡ status.BadWords → status_of e ≡ status.BadWords) → s ≢ status.BadWords
not_words (Ok operation) e i j s input inside words = λ is. not_clients (status_of e) status.BadWords inside refl (words is)
not_words (Err why) e i j s input inside words = λ is. input.words (sym (ap status_of inside) ∙ words is)
