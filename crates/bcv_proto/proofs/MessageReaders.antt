-- The whole of a message as a reader, from its fields up.
use Rattle.std.proofs.Common.{◌≡◌, ℕ, ◌+◌, ◌-◌, ◌^◌, ◌<◌, ◌≤◌, Bool, true, false, cond, eqb, leb, List, [], ◌∷◌, ◌++◌, length, replicate, Option, Some, None, Ok, Err, refl, sym, ap, subst, ◌∙◌, arith, inl, inr}
use Rattle.std.specs.Int.{w32, w64, to_be_bytes}
use Rattle.std.proofs.lemmas.Bool.{cases_lt, eqb-true, eq-eqb, le-leb, leb-true, and_parts, and_from}
use Rattle.std.proofs.lemmas.List.{length-append, length-replicate}
use Rattle.bcv_proto.specs.declared.kind.Kind.{Kind}
use Rattle.bcv_proto.specs.declared.kind.Kind.TheVariants as kind
use Rattle.bcv_proto.specs.declared.message.Message.{Message}
use Rattle.bcv_proto.specs.declared.message.Message.TheVariants as message
use Rattle.bcv_proto.specs.declared.stop.Stop.TheVariants.{Cut, Bad}
use Rattle.bcv_proto.specs.Fields.{Read, ◌>>=◌, number_at, bounded_at, kind_of, has_length, kind_found, kind_at, fields_at, message_at}
use Rattle.bcv_proto.specs.Messages.{session_of, kind_number, fields_text, message_text, most_read, HasFields, IsMessage}
use Rattle.bcv_proto.proofs.Readers.{IsBytes, GoesOn, IsReader, ok_is, same_reader, map_reader, bind_reader}
use Rattle.bcv_proto.proofs.FieldReaders.{rule_ok, bad_is_no_cut, wide32, wide64, number_reader, bounded_reader, IsBounded, name_reader, IsNameOf, letters_are, name_from, name_length}

-- ---- kinds

abbrev kind_in : Message → Kind
kind_in (message.Poll s) = kind.Poll
kind_in (message.Begin s db) = kind.Begin
kind_in (message.Read s off len) = kind.Read
kind_in (message.End s) = kind.End
kind_in (message.List s) = kind.List
kind_in (message.Hold s page) = kind.Hold
kind_in (message.Look s page) = kind.Look
kind_in (message.Free s page) = kind.Free

abbrev code : Kind → ℕ
code kind.Poll = 1
code kind.Begin = 2
code kind.Read = 3
code kind.End = 4
code kind.List = 5
code kind.Hold = 6
code kind.Look = 7
code kind.Free = 8

number_is : (m : Message) → code (kind_in m) ≡ kind_number m
number_is (message.Poll s) = refl
number_is (message.Begin s db) = refl
number_is (message.Read s off len) = refl
number_is (message.End s) = refl
number_is (message.List s) = refl
number_is (message.Hold s page) = refl
number_is (message.Look s page) = refl
number_is (message.Free s page) = refl

found_again : (k : Kind) → kind_of (code k) ≡ Some k
found_again kind.Poll = refl
found_again kind.Begin = refl
found_again kind.Read = refl
found_again kind.End = refl
found_again kind.List = refl
found_again kind.Hold = refl
found_again kind.Look = refl
found_again kind.Free = refl

abbrev some : Kind → Option Kind
some k = Some k

some_is : (x k : Kind) → some x ≡ some k → x ≡ k
some_is x k e = cc

-- one test of a number, and those behind it
one_test : (b : Bool) (n : ℕ) (x : Kind) (r : Option Kind) (k : Kind) → (b ≡ true → n ≡ code x) → cond b (Some x) r ≡ Some k → (r ≡ Some k → n ≡ code k) → n ≡ code k
one_test true n x r k h e other = h refl ∙ ap code (some_is x k e)
one_test false n x r k h e other = other e

found_is : (n : ℕ) (k : Kind) → kind_of n ≡ Some k → n ≡ code k
found_is n k e =
    one_test (eqb n 1) n kind.Poll _ k (eqb-true n 1) e (λ e.
    one_test (eqb n 2) n kind.Begin _ k (eqb-true n 2) e (λ e.
    one_test (eqb n 3) n kind.Read _ k (eqb-true n 3) e (λ e.
    one_test (eqb n 4) n kind.End _ k (eqb-true n 4) e (λ e.
    one_test (eqb n 5) n kind.List _ k (eqb-true n 5) e (λ e.
    one_test (eqb n 6) n kind.Hold _ k (eqb-true n 6) e (λ e.
    one_test (eqb n 7) n kind.Look _ k (eqb-true n 7) e (λ e.
    one_test (eqb n 8) n kind.Free None k (eqb-true n 8) e (λ e. absurd cc))))))))

-- the lengths of a kind
pub length_bounds : (k : Kind) (len : ℕ) → has_length k len ≡ true → (5 ≤ len) × (len ≤ 69)
length_bounds kind.Poll len h = let e = eqb-true len 5 h in (omega arith, omega arith)
length_bounds kind.Begin len h = let b = and_parts (leb 6 len) (leb len 69) h in let low = leb-true 6 len b.0 in let high = leb-true len 69 b.1 in (omega arith, high)
length_bounds kind.Read len h = let e = eqb-true len 17 h in (omega arith, omega arith)
length_bounds kind.End len h = let e = eqb-true len 5 h in (omega arith, omega arith)
length_bounds kind.List len h = let e = eqb-true len 5 h in (omega arith, omega arith)
length_bounds kind.Hold len h = let e = eqb-true len 9 h in (omega arith, omega arith)
length_bounds kind.Look len h = let e = eqb-true len 9 h in (omega arith, omega arith)
length_bounds kind.Free len h = let e = eqb-true len 9 h in (omega arith, omega arith)

-- each length is one of a kind
kind_for : (len : ℕ) → 5 ≤ len → len ≤ 69 → (k : Kind) × (has_length k len ≡ true)
kind_for len least most =
    elim (cases_lt len 6) [
      | inl lt ↦ (kind.Poll, eq-eqb len 5 (omega arith))
      | inr le ↦ (kind.Begin, and_from (leb 6 len) (leb len 69) (le-leb _ _ le) (le-leb _ _ most))
    ]

abbrev kind_text : Kind → List ℕ
kind_text k = code k ∷ []

kind_reader : (len : ℕ) → 5 ≤ len → len ≤ 69 → IsReader (kind_at len) kind_text (λ k. has_length k len ≡ true)
kind_reader len least most = record {
  takes = kind_takes;
  again = λ k rest h. ap (λ (o : Option Kind). kind_found len o rest) (found_again k) ∙ ap (λ (b : Bool). cond b (Ok (k, rest)) (Err Bad)) h;
  cut = kind_cut;
  short = kind_short;
}
  where
    found_takes : (n : ℕ) (rest : List ℕ) (x : Kind × List ℕ) (o : Option Kind) → ((k : Kind) → o ≡ Some k → n ≡ code k) → kind_found len o rest ≡ Ok x
        → (n ∷ rest ≡ kind_text x.0 ++ x.1) × (has_length x.0 len ≡ true)
    found_takes n rest x None is e = absurd cc
    found_takes n rest x (Some k) is e =
        let g = rule_ok (has_length k len) Bad (k, rest) x e in
        subst (λ (y : Kind × List ℕ). (n ∷ rest ≡ kind_text y.0 ++ y.1) × (has_length y.0 len ≡ true)) g.1
        (ap (λ (b : ℕ). b ∷ rest) (is k refl), g.0)

    kind_takes : (bytes : List ℕ) (x : Kind × List ℕ) → IsBytes bytes → kind_at len bytes ≡ Ok x → (bytes ≡ kind_text x.0 ++ x.1) × (has_length x.0 len ≡ true)
    kind_takes [] x fits e = absurd cc
    kind_takes (n ∷ rest) x fits e = found_takes n rest x (kind_of n) (found_is n) e

    never_cut : (b : Bool) (x : Kind × List ℕ) → cond b (Ok x) (Err Bad) ≡ Err Cut → ⊥
    never_cut true x e = cc
    never_cut false x e = bad_is_no_cut e

    found_cut : (rest : List ℕ) (o : Option Kind) → kind_found len o rest ≡ Err Cut → ⊥
    found_cut rest None e = bad_is_no_cut e
    found_cut rest (Some k) e = never_cut (has_length k len) (k, rest) e

    kind_cut : (bytes : List ℕ) → IsBytes bytes → kind_at len bytes ≡ Err Cut → GoesOn kind_text (λ k. has_length k len ≡ true) bytes
    kind_cut [] fits e = let k = kind_for len least most in record { to = k.0; meets = k.1; more = kind_text k.0; is = refl; some = omega arith }
    kind_cut (n ∷ rest) fits e = absurd (found_cut rest (kind_of n) e)

    kind_short : (k : Kind) (bytes more : List ℕ) → has_length k len ≡ true → bytes ++ more ≡ kind_text k → 0 < length more → kind_at len bytes ≡ Err Cut
    kind_short k [] more h is some = refl
    kind_short k (n ∷ bytes) more h is some = absurd (omega (arith, ap length is, length-append bytes more))

-- ---- fields

-- the bytes after a message's length
abbrev pub length_in : Message → ℕ
length_in m = 5 + length (fields_text m)

abbrev OfKind : Kind → ℕ → Message → Type 0
OfKind k len m = (kind_in m ≡ k) × (length_in m ≡ len) × HasFields m

abbrev InSession : Kind → ℕ → ℕ → Message → Type 0
InSession k len s m = (session_of m ≡ s) × OfKind k len m

-- the one message of a kind without fields
constant_reader : (m : Message) (Q : Message → Type 0) → fields_text m ≡ [] → Q m → ((y : Message) → Q y → y ≡ m) → IsReader (λ bytes. Ok (m, bytes)) fields_text Q
constant_reader m Q none is only = record {
  takes = λ bytes x fits e.
      let pair : Message × List ℕ = (m, bytes) in
      subst (λ (y : Message × List ℕ). (bytes ≡ fields_text y.0 ++ y.1) × Q y.0) (ok_is pair x e) (sym (ap (λ (s : List ℕ). s ++ bytes) none), is);
  again = λ y rest q.
      ap (λ (s : List ℕ). Ok (m, s ++ rest)) (ap fields_text (only y q) ∙ none) ∙ ap (λ (z : Message). Ok (z, rest)) (sym (only y q));
  cut = λ bytes fits e. absurd cc;
  short = λ y bytes more q is some.
      let empty : bytes ++ more ≡ [] = is ∙ ap fields_text (only y q) ∙ none in
      absurd (omega (arith, ap length empty, length-append bytes more));
}

poll_is : (len s : ℕ) (y : Message) → InSession kind.Poll len s y → y ≡ message.Poll s
poll_is len s (message.Poll t) q = ap (λ (n : ℕ). message.Poll n) q.0
poll_is len s _ q = absurd (let e = q.1.0 in cc)

end_is : (len s : ℕ) (y : Message) → InSession kind.End len s y → y ≡ message.End s
end_is len s (message.End t) q = ap (λ (n : ℕ). message.End n) q.0
end_is len s _ q = absurd (let e = q.1.0 in cc)

list_is : (len s : ℕ) (y : Message) → InSession kind.List len s y → y ≡ message.List s
list_is len s (message.List t) q = ap (λ (n : ℕ). message.List n) q.0
list_is len s _ q = absurd (let e = q.1.0 in cc)

begin_is : (len s : ℕ) (y : Message) → InSession kind.Begin len s y → (db : List ℕ) × (message.Begin s db ≡ y) × IsNameOf (len - 5) db
begin_is len s (message.Begin t db) q = (db, ap (λ (n : ℕ). message.Begin n db) (sym q.0), (omega (arith, q.1.1), q.1.2))
begin_is len s _ q = absurd (let e = q.1.0 in cc)

hold_is : (len s : ℕ) (y : Message) → InSession kind.Hold len s y → (n : ℕ) × (message.Hold s n ≡ y) × (n < 2 ^ 32)
hold_is len s (message.Hold t n) q = (n, ap (λ (k : ℕ). message.Hold k n) (sym q.0), q.1.2)
hold_is len s _ q = absurd (let e = q.1.0 in cc)

look_is : (len s : ℕ) (y : Message) → InSession kind.Look len s y → (n : ℕ) × (message.Look s n ≡ y) × (n < 2 ^ 32)
look_is len s (message.Look t n) q = (n, ap (λ (k : ℕ). message.Look k n) (sym q.0), q.1.2)
look_is len s _ q = absurd (let e = q.1.0 in cc)

free_is : (len s : ℕ) (y : Message) → InSession kind.Free len s y → (n : ℕ) × (message.Free s n ≡ y) × (n < 2 ^ 32)
free_is len s (message.Free t n) q = (n, ap (λ (k : ℕ). message.Free k n) (sym q.0), q.1.2)
free_is len s _ q = absurd (let e = q.1.0 in cc)

-- ---- the fields of a read

abbrev off_in : Message → ℕ
off_in (message.Read s off len) = off
off_in _ = 0

abbrev size_in : Message → ℕ
size_in (message.Read s off len) = len
size_in _ = 0

abbrev size_text : Message → List ℕ
size_text m = to_be_bytes w32 (size_in m)

abbrev ReadIn : ℕ → ℕ → Message → Type 0
ReadIn len s m = (session_of m ≡ s) × (kind_in m ≡ kind.Read) × (17 ≡ len) × (size_in m ≤ most_read)

sized_is : (len s off : ℕ) (y : Message) → (off_in y ≡ off) × ReadIn len s y → (n : ℕ) × (message.Read s off n ≡ y) × IsBounded 0 most_read n
sized_is len s off (message.Read t o n) q = (n, ap (λ (k : ℕ). message.Read s k n) (sym q.0) ∙ ap (λ (k : ℕ). message.Read k o n) (sym q.1.0), (omega arith, q.1.3))
sized_is len s off _ q = absurd (let e = q.1.1 in cc)

size_reader : (len s off : ℕ) → 17 ≡ len → IsReader (λ bytes. bounded_at 0 most_read bytes >>= λ n. Ok (message.Read s off n.0, n.1)) size_text (λ m. (off_in m ≡ off) × ReadIn len s m)
size_reader len s off long =
    map_reader (λ (n : ℕ). message.Read s off n) size_text (λ (m : Message). (off_in m ≡ off) × ReadIn len s m) (bounded_reader 0 most_read (omega arith) (omega arith))
    (λ n h. (refl, (refl, refl, long, h.1))) (λ n. refl) (sized_is len s off)

read_text : (len s : ℕ) (m : Message) → ReadIn len s m → to_be_bytes w64 (off_in m) ++ size_text m ≡ fields_text m
read_text len s (message.Read t o n) q = refl
read_text len s _ q = absurd (let e = q.1 in cc)

read_to : (len s : ℕ) (m : Message) → (off_in m < 2 ^ 64) × ReadIn len s m → InSession kind.Read len s m
read_to len s (message.Read t o n) q = (q.1.0, (refl, q.1.2, (q.0, q.1.3)))
read_to len s _ q = absurd (let e = q.1.1 in cc)

read_from : (len s : ℕ) (m : Message) → InSession kind.Read len s m → (off_in m < 2 ^ 64) × ReadIn len s m
read_from len s (message.Read t o n) q = (q.1.2.0, (q.0, refl, q.1.1, q.1.2.1))
read_from len s _ q = absurd (let e = q.1.0 in cc)

read_reader : (len s : ℕ) → 17 ≡ len
    → IsReader (λ bytes. number_at w64 bytes >>= λ off. (bounded_at 0 most_read off.1 >>= λ n. Ok (message.Read s off.0 n.0, n.1))) fields_text (InSession kind.Read len s)
read_reader len s long =
    same_reader fields_text (InSession kind.Read len s)
    (bind_reader off_in (λ (off : ℕ) (bytes : List ℕ). bounded_at 0 most_read bytes >>= λ n. Ok (message.Read s off n.0, n.1)) size_text (ReadIn len s) (number_reader wide64)
    (λ off lt. size_reader len s off long)
    (λ off lt. (message.Read s off 0, refl, (refl, refl, long, omega arith))))
    (read_to len s) (read_from len s) (λ m p. read_text len s m p.1)

-- ---- all kinds

fields_reader : (k : Kind) (len s : ℕ) → has_length k len ≡ true → IsReader (fields_at k len s) fields_text (InSession k len s)
unfolding fields_at
fields_reader kind.Poll len s h = constant_reader (message.Poll s) (InSession kind.Poll len s) refl (refl, (refl, sym (eqb-true len 5 h), tt)) (poll_is len s)
fields_reader kind.End len s h = constant_reader (message.End s) (InSession kind.End len s) refl (refl, (refl, sym (eqb-true len 5 h), tt)) (end_is len s)
fields_reader kind.List len s h = constant_reader (message.List s) (InSession kind.List len s) refl (refl, (refl, sym (eqb-true len 5 h), tt)) (list_is len s)
fields_reader kind.Begin len s h =
    let b = and_parts (leb 6 len) (leb len 69) h in
    let low : 6 ≤ len = leb-true 6 len b.0 in
    let high : len ≤ 69 = leb-true len 69 b.1 in
    map_reader (λ (db : List ℕ). message.Begin s db) fields_text (InSession kind.Begin len s) (name_reader (len - 5) (omega arith) (omega arith))
    (λ db p. (refl, (refl, omega (arith, p.0), p.1))) (λ db. refl) (begin_is len s)
fields_reader kind.Read len s h = read_reader len s (sym (eqb-true len 17 h))
fields_reader kind.Hold len s h =
    map_reader (λ (n : ℕ). message.Hold s n) fields_text (InSession kind.Hold len s) (number_reader wide32)
    (λ n p. (refl, (refl, sym (eqb-true len 9 h), p))) (λ n. refl) (hold_is len s)
fields_reader kind.Look len s h =
    map_reader (λ (n : ℕ). message.Look s n) fields_text (InSession kind.Look len s) (number_reader wide32)
    (λ n p. (refl, (refl, sym (eqb-true len 9 h), p))) (λ n. refl) (look_is len s)
fields_reader kind.Free len s h =
    map_reader (λ (n : ℕ). message.Free s n) fields_text (InSession kind.Free len s) (number_reader wide32)
    (λ n p. (refl, (refl, sym (eqb-true len 9 h), p))) (λ n. refl) (free_is len s)

-- a message of each kind, length and session
a_message : (k : Kind) (len s : ℕ) → has_length k len ≡ true → (m : Message) × (session_of m ≡ s) × OfKind k len m
a_message kind.Poll len s h = (message.Poll s, refl, (refl, sym (eqb-true len 5 h), tt))
a_message kind.Begin len s h =
    let b = and_parts (leb 6 len) (leb len 69) h in
    let low : 6 ≤ len = leb-true 6 len b.0 in
    let high : len ≤ 69 = leb-true len 69 b.1 in
    let db : List ℕ = replicate (len - 5) 97 in
    let long : length db ≡ len - 5 = length-replicate (len - 5) 97 in
    (message.Begin s db, refl, (refl, omega arith, name_from db (omega arith) (omega arith) (letters_are (len - 5))))
a_message kind.Read len s h = (message.Read s 0 0, refl, (refl, sym (eqb-true len 17 h), (omega arith, omega arith)))
a_message kind.End len s h = (message.End s, refl, (refl, sym (eqb-true len 5 h), tt))
a_message kind.List len s h = (message.List s, refl, (refl, sym (eqb-true len 5 h), tt))
a_message kind.Hold len s h = (message.Hold s 0, refl, (refl, sym (eqb-true len 9 h), omega arith))
a_message kind.Look len s h = (message.Look s 0, refl, (refl, sym (eqb-true len 9 h), omega arith))
a_message kind.Free len s h = (message.Free s 0, refl, (refl, sym (eqb-true len 9 h), omega arith))

-- ---- session, kind, length

abbrev session_text : Message → List ℕ
session_text m = to_be_bytes w32 (session_of m) ++ fields_text m

abbrev from_session : ℕ → Kind → List ℕ → Read Message
from_session len k bytes = number_at w32 bytes >>= λ x. fields_at k len x.0 x.1

session_reader : (k : Kind) (len : ℕ) → has_length k len ≡ true → IsReader (from_session len k) session_text (λ m. (session_of m < 2 ^ 32) × OfKind k len m)
session_reader k len h =
    bind_reader session_of (fields_at k len) fields_text (OfKind k len) (number_reader wide32) (λ s lt. fields_reader k len s h) (λ s lt. a_message k len s h)

abbrev OfLength : ℕ → Message → Type 0
OfLength len m = (session_of m < 2 ^ 32) × (length_in m ≡ len) × HasFields m

abbrev kinded_text : Message → List ℕ
kinded_text m = kind_text (kind_in m) ++ session_text m

abbrev from_kind : ℕ → List ℕ → Read Message
from_kind len bytes = kind_at len bytes >>= λ x. from_session len x.0 x.1

kinded_reader : (len : ℕ) → 5 ≤ len → len ≤ 69 → IsReader (from_kind len) kinded_text (λ m. (has_length (kind_in m) len ≡ true) × OfLength len m)
kinded_reader len least most =
    bind_reader kind_in (from_session len) session_text (OfLength len) (kind_reader len least most)
    (λ k h. same_reader session_text (λ (m : Message). (kind_in m ≡ k) × OfLength len m) (session_reader k len h)
    (λ m p. (p.1.0, (p.0, p.1.1, p.1.2))) (λ m p. (p.1.0, (p.0, p.1.1, p.1.2))) (λ m p. refl))
    (λ k h. let m = a_message k len 0 h in (m.0, m.2.0, (omega (arith, m.1), m.2.1, m.2.2)))

-- a message's length is one of its kind
fields_fit : (m : Message) → HasFields m → has_length (kind_in m) (length_in m) ≡ true
fields_fit (message.Poll s) h = refl
fields_fit (message.Begin s db) h =
    let b = name_length db h in
    and_from (leb 6 (5 + length db)) (leb (5 + length db) 69) (le-leb _ _ (omega (arith, b.0))) (le-leb _ _ (omega (arith, b.1)))
fields_fit (message.Read s off len) h = refl
fields_fit (message.End s) h = refl
fields_fit (message.List s) h = refl
fields_fit (message.Hold s page) h = refl
fields_fit (message.Look s page) h = refl
fields_fit (message.Free s page) h = refl

has_its_length : (len : ℕ) (m : Message) → length_in m ≡ len → HasFields m → has_length (kind_in m) len ≡ true
has_its_length len m e h = ap (has_length (kind_in m)) (sym e) ∙ fields_fit m h

pub message_reader : IsReader message_at message_text IsMessage
unfolding message_at
message_reader =
    same_reader message_text IsMessage
    (bind_reader length_in from_kind kinded_text IsMessage (bounded_reader 5 69 (omega arith) (omega arith))
    (λ len b. same_reader kinded_text (λ (m : Message). (length_in m ≡ len) × IsMessage m) (kinded_reader len b.0 b.1)
    (λ m p. (p.1.1, (p.1.0, p.1.2))) (λ m p. (has_its_length len m p.0 p.1.1, (p.1.0, p.0, p.1.1))) (λ m p. refl))
    (λ len b. let k = kind_for len b.0 b.1 in let m = a_message k.0 len 0 k.1 in (m.0, m.2.1, (omega (arith, m.1), m.2.2))))
    (λ m p. p.1)
    (λ m p. (length_bounds (kind_in m) (length_in m) (fields_fit m p.1), p))
    (λ m p. ap (λ (n : ℕ). to_be_bytes w32 (length_in m) ++ (n ∷ session_text m)) (number_is m))
