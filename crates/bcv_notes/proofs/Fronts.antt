-- Readers of fronts and their spellings: what is read was spelled so, and what is spelled so is read.
use Rattle.std.proofs.Common.{◌≡◌, ℕ, List, ◌++◌, Option, Some, None, Ok, Err, refl, ap}
use Rattle.std.proofs.lemmas.Option.{same_Some}
use Rattle.bcv_base.specs.ManifestGrammar.{Read}
use Rattle.bcv_manifest.proofs.Readers.{IsBytes, IsReader, Takes}
use Rattle.bcv_notes.specs.NoteGrammar.{Front, ◌>>=◌, front}

-- a reader and a spelling of the values with a property, each the other's way back
pub record IsFront {A : Type 0} (read : List ℕ → Front A) (text : A → List ℕ) (P : A → Type 0) : Type 0 where
  pub takes : (bytes : List ℕ) (x : A × List ℕ) → IsBytes bytes → read bytes ≡ Some x → Takes bytes (text x.0) x.1 × P x.0
  pub again : (x : A) (rest : List ℕ) → P x → read (text x ++ rest) ≡ Some (x, rest)

front_ok : {A : Type 0} (r : Read A) (x : A × List ℕ) → front r ≡ Some x → r ≡ Ok x
front_ok (Ok y) x e = ap (λ (z : _). Ok z) (same_Some y x e)
front_ok (Err left) x e = absurd cc

-- a reader of the manifest's grammar
pub of_reader : {A : Type 0} {read : List ℕ → Read A} {text : A → List ℕ} {P : A → Type 0} → IsReader read text P → IsFront (λ bytes. front (read bytes)) text P
of_reader {read = read} r = record {
  takes = λ bytes x fits e. r.takes bytes x fits (front_ok (read bytes) x e);
  again = λ x rest p. ap front (r.again x rest p);
}

bind_some : {A B : Type 0} (r : Option A) (f : A → Option B) (y : B) → (r >>= f) ≡ Some y → (x : A) × (r ≡ Some x) × (f x ≡ Some y)
bind_some (Some x) f y e = (x, refl, e)
bind_some None f y e = absurd cc

-- G follows from what a first reader took, and from what is read after it
pub step_to : {A B : Type 0} {read : List ℕ → Front A} {text : A → List ℕ} {P : A → Type 0} (G : Type 0) → IsFront read text P
    → (bytes : List ℕ) (f : A × List ℕ → Option B) (y : B) → IsBytes bytes → (read bytes >>= f) ≡ Some y
    → ((x : A) (rest : List ℕ) → Takes bytes (text x) rest → P x → f (x, rest) ≡ Some y → G) → G
step_to {read = read} G r bytes f y fits e go =
    let b = bind_some (read bytes) f y e in
    let t = r.takes bytes b.0 fits b.1 in
    go b.0.0 b.0.1 t.0 t.1 b.2

-- the same for a look-up between two fields
pub found_to : {A B : Type 0} (G : Type 0) (r : Option A) (f : A → Option B) (y : B) → (r >>= f) ≡ Some y → ((x : A) → r ≡ Some x → f x ≡ Some y → G) → G
found_to G r f y e go =
    let b = bind_some r f y e in
    go b.0 b.1 b.2

pub goes : {A B : Type 0} {read : List ℕ → Front A} {text : A → List ℕ} {P : A → Type 0} → IsFront read text P
    → (x : A) (rest : List ℕ) (f : A × List ℕ → Option B) → P x → (read (text x ++ rest) >>= f) ≡ f (x, rest)
goes r x rest f p = ap (λ (z : Option _). z >>= f) (r.again x rest p)
