-- What was read of a list of words, and what is left of it.
use Rattle.std.proofs.Common.{◌≡◌, ℕ, List, [], ◌∷◌, ◌++◌, Option, Some, None, Result, Ok, Err, refl, sym, ap, ◌∙◌, append_assoc, ◌-◌, ◌≤◌, length, take, take_all, replicate}
use Rattle.std.specs.Option.{ok_or}
use Rattle.bcv_base.specs.Image.{Page}
use Rattle.bcv_base.specs.ManifestGrammar.{◌>>=◌}
use Rattle.bcv_base.specs.Padded.{padded}
use Rattle.bcv_model.specs.Words.{bytes_left, bytes_of_text, numbered_text, page_of_text, pair_of}
use Rattle.bcv_model.specs.Script.{word_at, pages_at, pairs_at}
use Rattle.bcv_script.specs.declared.stop.Stop.{Stop}
use Rattle.bcv_script.specs.declared.stop.Stop.TheVariants as stop
use Rattle.bcv_script.specs.Reading.{Stops}

-- ---- one word

-- a word that was read is the first, and what is left are those after it
record WordRead {A : Type 0} (meaning : List ℕ → Option A) (old new : List (List ℕ)) (x : A) : Type 0 where
  word : List ℕ
  first : old ≡ word ∷ new
  means : meaning word ≡ Some x

ok_is : {A : Type 0} (x y : A) → ◌≡◌ {A = Result A ℕ} (Ok x) (Ok y) → x ≡ y
ok_is x y e = cc

word_was : {A : Type 0} (meaning : List ℕ → Option A) (w : List ℕ) (ws new : List (List ℕ)) (o : Option A) (x : A) (n : ℕ) → meaning w ≡ o
    → ◌≡◌ {A = Result (A × List (List ℕ)) ℕ} (ok_or o n >>= λ y. Ok (y, ws)) (Ok (x, new)) → WordRead meaning (w ∷ ws) new x
word_was meaning w ws new None x n m e = cc
word_was {A = A} meaning w ws new (Some y) x n m e =
    let both = ok_is (y, ws) (x, new) e in
    record { word = w; first = ap (λ (p : A × List (List ℕ)). w ∷ p.1) both; means = m ∙ ap (λ (p : A × List (List ℕ)). Some p.0) both }

word_read : {A : Type 0} (meaning : List ℕ → Option A) (old new : List (List ℕ)) (x : A) → word_at meaning old ≡ Ok (x, new) → WordRead meaning old new x
word_read meaning [] new x e = cc
word_read meaning (w ∷ ws) new x e = word_was meaning w ws new (meaning w) x (bytes_left (w ∷ ws)) refl e

some_of_ok : {A : Type 0} (o : Option A) (n : ℕ) (x : A) → ok_or o n ≡ Ok x → o ≡ Some x
some_of_ok None n x e = cc
some_of_ok (Some y) n x e = cc

none_of_err : {A : Type 0} (o : Option A) (n left : ℕ) → ok_or o n ≡ Err left → o ≡ None
none_of_err None n left e = refl
none_of_err (Some y) n left e = cc

-- a word was taken, and its bytes filled up
pub page_took : (size : ℕ) (old new : List (List ℕ)) (w bytes : List ℕ) (p : Page) (left : ℕ) → old ≡ w ∷ new → ok_or (bytes_of_text size w) left ≡ Ok bytes → p ≡ padded size bytes
    → word_at (page_of_text size) old ≡ Ok (p, new)
page_took size old new w bytes p left o b is = rw (o, some_of_ok (bytes_of_text size w) left bytes b, is) refl

-- a numbered page was taken
pub pair_took : (size after : ℕ) (old new : List (List ℕ)) (w text bytes : List ℕ) (n left : ℕ) → old ≡ w ∷ new → numbered_text after w ≡ Some (n, text)
    → ok_or (bytes_of_text size text) left ≡ Ok bytes → word_at (pair_of size after) old ≡ Ok ((n, bytes), new)
pair_took size after old new w text bytes n left o t b = rw (o, t, some_of_ok (bytes_of_text size text) left bytes b) refl

stop_of : {A : Type 0} (o : Option A) (n left : ℕ) → ok_or o n ≡ Err left → n ≡ left
stop_of None n left e = cc
stop_of (Some y) n left e = cc

pub pair_stopped : (size after : ℕ) (old new : List (List ℕ)) (w text : List ℕ) (n left : ℕ) (s : Stop) → old ≡ w ∷ new → left ≡ bytes_left old → numbered_text after w ≡ Some (n, text)
    → Stops s (ok_or (bytes_of_text size text) left) → Stops s (word_at (pair_of size after) old)
pair_stopped size after old new w text n left stop.NoMemory o l t b = tt
pair_stopped size after old new w text n left (stop.Fault f) o l t b =
    let here : bytes_left (w ∷ new) ≡ f = sym (ap bytes_left o) ∙ sym l ∙ stop_of (bytes_of_text size text) left f b in
    rw (o, t, none_of_err (bytes_of_text size text) left f b) (ap Err here)

-- ---- what was read goes to the front

-- these, and then what is read
abbrev pub with_front : {A : Type 0} → List A → Result (List A) ℕ → Result (List A) ℕ
with_front front read = read >>= λ more. Ok (front ++ more)

front_grows : {A : Type 0} (front : List A) (x : A) (read : Result (List A) ℕ) → with_front front (read >>= λ more. Ok (x ∷ more)) ≡ with_front (front ++ x ∷ []) read
front_grows front x (Ok more) = ap Ok (sym (append_assoc front (x ∷ []) more))
front_grows front x (Err left) = refl

-- ---- pages

pub pages_on : (size : ℕ) (all : Result (List Page) ℕ) (front : List Page) (old new : List (List ℕ)) (p : Page) → all ≡ with_front front (pages_at size old)
    → word_at (page_of_text size) old ≡ Ok (p, new) → all ≡ with_front (front ++ p ∷ []) (pages_at size new)
pages_on size all front old new p e h =
    let r = word_read (page_of_text size) old new p h in
    let step : pages_at size old ≡ (pages_at size new >>= λ more. Ok (p ∷ more)) = rw (r.first, r.means) refl in
    e ∙ ap (with_front front) step ∙ front_grows front p (pages_at size new)

-- ---- numbered pages

pub pairs_on : (size after : ℕ) (all : Result (List (ℕ × Page)) ℕ) (front : List (ℕ × Page)) (old new : List (List ℕ)) (n : ℕ) (bytes : List ℕ) (p : Page)
    → all ≡ with_front front (pairs_at size after old) → word_at (pair_of size after) old ≡ Ok ((n, bytes), new) → p ≡ padded size bytes
    → all ≡ with_front (front ++ (n, p) ∷ []) (pairs_at size n new)
pairs_on size after all front old new n bytes p e h is =
    let r = word_read (pair_of size after) old new (n, bytes) h in
    let step : pairs_at size after old ≡ (pairs_at size n new >>= λ more. Ok ((n, p) ∷ more)) = rw (r.first, r.means, is) refl in
    e ∙ ap (with_front front) step ∙ front_grows front (n, p) (pairs_at size n new)

-- ---- a page filled up with zeros

pub padded_resized : (size : ℕ) (bytes : List ℕ) → length bytes ≤ size → take size bytes ++ replicate (size - length bytes) 0 ≡ padded size bytes
padded_resized size bytes h = ap (λ (l : List ℕ). l ++ replicate (size - length bytes) 0) (take_all size bytes h)
