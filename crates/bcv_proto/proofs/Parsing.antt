-- What stands at the front of an input is what the grammar says, and the laws of messages on a stream.
use Rattle.std.proofs.Common.{◌≡◌, ℕ, ◌-◌, List, [], ◌++◌, length, take, drop, Ok, Err, refl, sym, ap, subst, ◌∙◌, arith, append-nil}
use Rattle.std.proofs.lemmas.List.{take_at, take-append-drop, length-append, length-drop}
use Rattle.bcv_proto.specs.declared.message.Message.{Message}
use Rattle.bcv_proto.specs.declared.message.Parsed.{Parsed}
use Rattle.bcv_proto.specs.declared.message.Parsed.TheVariants as parsed
use Rattle.bcv_proto.specs.declared.stop.Stop.TheVariants.{Cut, Bad}
use Rattle.bcv_proto.specs.Fields.{Read, message_at, answer_of, parsed_of}
use Rattle.bcv_proto.specs.Laws.{TextIsReadBack, OneMessageBegins, NoMessageGoesOn, OneReading}
use Rattle.bcv_proto.specs.Messages.{message_text, Begins, IsCut, Reads}
use Rattle.bcv_proto.proofs.Readers.{IsBytes, ok_is}
use Rattle.bcv_proto.proofs.MessageReaders.{message_reader}

abbrev whole : Message × ℕ → Parsed
whole x = parsed.Whole x.0 x.1

whole_is : (x y : Message × ℕ) → whole x ≡ whole y → x ≡ y
whole_is x y e =
    let m : x.0 ≡ y.0 = cc in
    let n : x.1 ≡ y.1 = cc in
    ap (λ (k : Message). (k, x.1)) m ∙ ap (λ (k : ℕ). (y.0, k)) n

is_whole : (bytes : List ℕ) → IsBytes bytes → (r : Read Message) → message_at bytes ≡ r → (m : Message) (n : ℕ) → answer_of (length bytes) r ≡ parsed.Whole m n → Begins bytes m n
is_whole bytes fits (Ok x) read m n e =
    let t = message_reader.takes bytes x fits read in
    let front : List ℕ = message_text x.0 in
    let len : length front ≡ length bytes - length x.1 = omega (arith, ap length t.0, length-append front x.1) in
    let found : Message × ℕ = (x.0, length bytes - length x.1) in
    let given : Message × ℕ = (m, n) in
    let begins : Begins bytes x.0 (length bytes - length x.1) =
    (t.1, omega arith, ap (take (length bytes - length x.1)) t.0 ∙ take_at front x.1 (length bytes - length x.1) len) in
    subst (λ (y : Message × ℕ). Begins bytes y.0 y.1) (whole_is found given e) begins
is_whole bytes fits (Err Cut) read m n e = absurd cc
is_whole bytes fits (Err Bad) read m n e = absurd cc

whole_found : (bytes : List ℕ) (m : Message) (n : ℕ) → Begins bytes m n → parsed_of bytes ≡ parsed.Whole m n
unfolding parsed_of
whole_found bytes m n b =
    let parts : bytes ≡ message_text m ++ drop n bytes = sym (take-append-drop n bytes) ∙ ap (λ (s : List ℕ). s ++ drop n bytes) b.2 in
    let read : message_at bytes ≡ Ok (m, drop n bytes) = ap message_at parts ∙ message_reader.again m (drop n bytes) b.0 in
    let len : length bytes - length (drop n bytes) ≡ n = omega (arith, length-drop n bytes, b.1) in
    ap (answer_of (length bytes)) read ∙ ap (λ (k : ℕ). parsed.Whole m k) len

is_short : (bytes : List ℕ) → IsBytes bytes → (r : Read Message) → message_at bytes ≡ r → answer_of (length bytes) r ≡ parsed.Short → IsCut bytes
is_short bytes fits (Ok x) read e = absurd cc
is_short bytes fits (Err Cut) read e =
    let g = message_reader.cut bytes fits read in
    record {
      whole = g.to;
      is_one = g.meets;
      front = sym (take_at bytes g.more (length bytes) refl) ∙ ap (take (length bytes)) g.is;
      longer = omega (arith, ap length g.is, length-append bytes g.more, g.some);
    }
is_short bytes fits (Err Bad) read e = absurd cc

short_found : (bytes : List ℕ) → IsCut bytes → parsed_of bytes ≡ parsed.Short
unfolding parsed_of
short_found bytes c =
    let text : List ℕ = message_text c.whole in
    let rest : List ℕ = drop (length bytes) text in
    let parts : bytes ++ rest ≡ text = ap (λ (s : List ℕ). s ++ rest) c.front ∙ take-append-drop (length bytes) text in
    let read : message_at bytes ≡ Err Cut = message_reader.short c.whole bytes rest c.is_one parts (omega (arith, length-drop (length bytes) text, c.longer)) in
    ap (answer_of (length bytes)) read

pub parsed_reads : (bytes : List ℕ) → IsBytes bytes → Reads bytes (parsed_of bytes)
unfolding parsed_of
parsed_reads bytes fits = record {
  whole = λ m n. (is_whole bytes fits (message_at bytes) refl m n, whole_found bytes m n);
  short = (is_short bytes fits (message_at bytes) refl, short_found bytes);
}

-- ---- laws

pub text_is_read_back : TextIsReadBack
unfolding parsed_of
text_is_read_back m rest h =
    let text : List ℕ = message_text m in
    let len : length (text ++ rest) - length rest ≡ length text = omega (arith, length-append text rest) in
    ap (answer_of (length (text ++ rest))) (message_reader.again m rest h) ∙ ap (λ (k : ℕ). parsed.Whole m k) len

pub one_message_begins : OneMessageBegins
one_message_begins m k a b is_m is_k e =
    let left : Message × List ℕ = (m, a) in
    let right : Message × List ℕ = (k, b) in
    let same = ok_is left right (sym (message_reader.again m a is_m) ∙ ap message_at e ∙ message_reader.again k b is_k) in
    (ap (λ (x : Message × List ℕ). x.0) same, ap (λ (x : Message × List ℕ). x.1) same)

pub no_message_goes_on : NoMessageGoesOn
no_message_goes_on m k rest is_m is_k e = one_message_begins m k rest [] is_m is_k (e ∙ sym (append-nil (message_text k)))

pub one_reading : OneReading
one_reading bytes (parsed.Whole m n) g f_reads g_reads = sym ((g_reads.whole m n).1 ((f_reads.whole m n).0 refl))
one_reading bytes parsed.Short g f_reads g_reads = sym (g_reads.short.1 (f_reads.short.0 refl))
one_reading bytes parsed.Bad (parsed.Whole m n) f_reads g_reads = (f_reads.whole m n).1 ((g_reads.whole m n).0 refl)
one_reading bytes parsed.Bad parsed.Short f_reads g_reads = f_reads.short.1 (g_reads.short.0 refl)
one_reading bytes parsed.Bad parsed.Bad f_reads g_reads = refl
