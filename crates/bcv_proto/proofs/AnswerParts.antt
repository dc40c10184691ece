-- A stream of answers is parted in one way, since each says its length.
use Rattle.std.proofs.Common.{◌≡◌, ℕ, ◌+◌, ◌^◌, ◌<◌, List, [], ◌∷◌, ◌++◌, length, take, drop, refl, sym, ap, ◌∙◌, append_assoc, append-nil, arith}
use Rattle.std.specs.Int.{w32, to_be_bytes, from_be_bytes}
use Rattle.std.proofs.lemmas.List.{take_at, drop_at, length-append}
use Rattle.std.proofs.lemmas.Nat.{from_be_bytes-to_be_bytes_4}
use Rattle.bcv_proto.specs.declared.answer.Answer.{Answer}
use Rattle.bcv_proto.specs.Answers.{answer_number, answer_fields, answer_text}
use Rattle.bcv_proto.specs.Laws.{OneAnswerBegins, NoAnswerGoesOn}

-- fronts of one length are parted alike
same_fronts : (xs us ys vs : List ℕ) → length xs ≡ length us → xs ++ ys ≡ us ++ vs → (xs ≡ us) × (ys ≡ vs)
same_fronts xs us ys vs len e = (
  sym (take_at xs ys (length us) len) ∙ ap (take (length us)) e ∙ take_at us vs (length us) refl,
  sym (drop_at xs ys (length us) len) ∙ ap (drop (length us)) e ∙ drop_at us vs (length us) refl,
)

same_number : (n k : ℕ) → n < 2 ^ 32 → k < 2 ^ 32 → to_be_bytes w32 n ≡ to_be_bytes w32 k → n ≡ k
same_number n k h l e = sym (from_be_bytes-to_be_bytes_4 n h) ∙ ap (from_be_bytes w32) e ∙ from_be_bytes-to_be_bytes_4 k l

-- numbers of four bytes at the front
same_field : (n k : ℕ) (ys vs : List ℕ) → n < 2 ^ 32 → k < 2 ^ 32 → to_be_bytes w32 n ++ ys ≡ to_be_bytes w32 k ++ vs → (n ≡ k) × (ys ≡ vs)
same_field n k ys vs h l e =
    let fronts = same_fronts (to_be_bytes w32 n) (to_be_bytes w32 k) ys vs refl e in
    (same_number n k h l fronts.0, fronts.1)

tail_is : (n k : ℕ) (xs ys : List ℕ) → n ∷ xs ≡ k ∷ ys → xs ≡ ys
tail_is n k xs ys e = cc

-- what stands after an answer's length
abbrev pub body : ℕ → Answer → List ℕ
body s x = answer_number x ∷ (to_be_bytes w32 s ++ answer_fields x)

abbrev pub size : Answer → ℕ
size x = 5 + length (answer_fields x)

pub body_length : (s : ℕ) (x : Answer) → length (body s x) ≡ size x
body_length s x = omega (arith, length-append (to_be_bytes w32 s) (answer_fields x))

pub one_answer_begins : OneAnswerBegins
one_answer_begins s t x y a b s_fits t_fits x_fits y_fits e =
    let apart : to_be_bytes w32 (size x) ++ (body s x ++ a) ≡ to_be_bytes w32 (size y) ++ (body t y ++ b) =
    sym (append_assoc (to_be_bytes w32 (size x)) (body s x) a) ∙ e ∙ append_assoc (to_be_bytes w32 (size y)) (body t y) b in
    let lengths = same_field (size x) (size y) (body s x ++ a) (body t y ++ b) (omega (arith, x_fits)) (omega (arith, y_fits)) apart in
    let len : length (body s x) ≡ length (body t y) = body_length s x ∙ lengths.0 ∙ sym (body_length t y) in
    let bodies = same_fronts (body s x) (body t y) a b len lengths.1 in
    let sessions = same_field s t (answer_fields x) (answer_fields y) s_fits t_fits
    (tail_is (answer_number x) (answer_number y) (to_be_bytes w32 s ++ answer_fields x) (to_be_bytes w32 t ++ answer_fields y) bodies.0) in
    (ap (λ (n : ℕ). to_be_bytes w32 n ++ body s x) lengths.0 ∙ ap (λ (l : List ℕ). to_be_bytes w32 (size y) ++ l) bodies.0, sessions.0, bodies.1)

pub no_answer_goes_on : NoAnswerGoesOn
no_answer_goes_on s t x y rest s_fits t_fits x_fits y_fits e =
    let one = one_answer_begins s t x y rest [] s_fits t_fits x_fits y_fits (e ∙ sym (append-nil (answer_text t y))) in
    (one.1, one.2)
