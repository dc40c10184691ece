-- What the reader of a file keeps true.
use Rattle.std.proofs.Common.{inl, inr, lit<, Bool, ◌≡◌, ◌≤◌, ℕ, ◌+◌, ◌-◌, ◌^◌, ◌<◌, List, [], ◌∷◌, ◌++◌, length, get_or, take, drop, sym, ◌∙◌, ap, subst, arith, append_assoc, length-append, take-append-drop}
use Rattle.std.proofs.lemmas.List.{append-nil, length-take, length-take-le, length-drop, get_or-take, get_or_past, take-take}
use Rattle.std.proofs.lemmas.Bool.{cases_lt}
use Rattle.std.proofs.lemmas.Nat.{be_bytes_4}
use Rattle.std.specs.Int.{w32, to_be_bytes, from_be_bytes}
use Rattle.std.specs.List.{AllByRecursion}
use Rattle.bcv_journal.specs.Layout.{BreaksAt, HasItem, IsFront, IsItem, area_of, is_second, magic, start_in, tail_of, written}
use Rattle.bcv_journal.specs.Reading.{IsRead, IsShut}
use Rattle.bcv_journal.specs.declared.area.Area.{Area}
use Rattle.bcv_journal.proofs.Head.{second-front, start-front}
use Rattle.bcv_journal.proofs.Bytes.{each-push, written-push}

pub has_item : (after rest item next : List ℕ) (size : ℕ) → ((k : ℕ) → get_or after k 0 < 256) → length rest + 4 ≡ length after → rest ≡ drop 4 after → size ≡ from_be_bytes w32 (take 4 after) → (size ≡ 0 → ⊥) → size < 2 ^ 32
    → size < length rest → length item ≡ size → length next + size ≡ length rest → rest ≡ item ++ next → HasItem after item next
has_item after rest item next size bytes long after_is is some small within item_length next_length split =
    let four : length (take 4 after) ≡ 4 = length-take-le 4 after (omega arith) in
    let field : to_be_bytes w32 size ≡ take 4 after = be_bytes_4 (take 4 after) size four (front_bytes after bytes) is in
    let first : take 4 after ≡ to_be_bytes w32 (length item) = sym field ∙ ap (to_be_bytes w32) (sym item_length) in
    record {
      item_is = (omega arith, omega arith);
      next_is = omega arith;
      whole = sym (take-append-drop 4 after) ∙ (λ i. first i ++ (sym after_is ∙ split) i) ∙ sym (append_assoc (to_be_bytes w32 (length item)) item next);
    }
  where
    front_bytes : (bs : List ℕ) → ((k : ℕ) → get_or bs k 0 < 256) → (k : ℕ) → get_or (take 4 bs) k 0 < 256
    front_bytes bs small k = elim (cases_lt k 4) [
      | inl lt ↦ rw (get_or-take 4 bs k 0 lt) (small k)
      | inr ge ↦ rw (get_or_past (take 4 bs) k 0 (omega (arith, length-take 4 bs))) (lit< tt)
    ]

-- the items so far stand after the front, before what is left, which begins with a gate
pub record IsReading (bytes front : List ℕ) (items : List (List ℕ)) (rest : List ℕ) : Type 0 where
  pub each : AllByRecursion IsItem items
  pub whole : bytes ≡ written front items ++ rest
  pub some : 0 < length rest

-- the front of a file, up to the start that it chooses
pub front-is : (bytes : List ℕ) (start : ℕ) → take 8 bytes ≡ magic → start ≡ start_in bytes (is_second bytes) → 17 ≤ start → start < length bytes → IsFront (take start bytes)
front-is bytes start is starts long within =
    let size : length (take start bytes) ≡ start = length-take-le start bytes (omega (arith, within)) in
    record {
      magic_is = take-take 8 start bytes (omega (arith, long)) ∙ is;
      long = omega (arith, size, long);
      starts =
          ap (λ (b : Bool). start_in (take start bytes) b) (second-front bytes start long) ∙ start-front bytes start (is_second bytes) long ∙ sym starts ∙ sym size;
    }

pub read-start : (bytes : List ℕ) (start : ℕ) → start < length bytes → IsReading bytes (take start bytes) [] (drop start bytes)
read-start bytes start within = record {
  each = tt;
  whole = sym (take-append-drop start bytes) ∙ ap (λ (l : List ℕ). l ++ drop start bytes) (sym (append-nil (take start bytes)));
  some = omega (arith, length-drop start bytes, within);
}

pub read-more : (bytes front : List ℕ) (items : List (List ℕ)) (after item next : List ℕ) → IsReading bytes front items (1 ∷ after) → HasItem after item next → IsReading bytes front (items ++ item ∷ []) next
read-more bytes front items after item next so_far has = record {
  each = each-push items item so_far.each has.item_is;
  whole = so_far.whole ∙ ap (λ (l : List ℕ). written front items ++ 1 ∷ l) has.whole ∙ sym (written-push front items item next);
  some = has.next_is;
}

pub read-place : (bytes front : List ℕ) (items : List (List ℕ)) (rest : List ℕ) → IsReading bytes front items rest → length bytes - length rest ≡ tail_of (length front) items
read-place bytes front items rest so_far = omega (arith, ap length so_far.whole, length-append (written front items) rest, length-append front (area_of items))

pub read-end : (bytes : List ℕ) (area : Area) (items : List (List ℕ)) (rest : List ℕ) → take 8 bytes ≡ magic → area.start ≡ start_in bytes (is_second bytes) → 17 ≤ area.start → area.start < length bytes → area.second ≡ is_second bytes
    → area.tail ≡ length bytes - length rest → IsReading bytes (take area.start bytes) items rest → IsShut rest → IsRead bytes area items
read-end bytes area items [] is starts long within second tail so_far shut = absurd (omega (arith, so_far.some))
read-end bytes area items (gate ∷ rest) is starts long within second tail so_far shut =
    let size : length (take area.start bytes) ≡ area.start = length-take-le area.start bytes (omega (arith, within)) in
    record {
      spelled = record {
        front = take area.start bytes;
        gate = gate;
        rest = rest;
        is_front = front-is bytes area.start is starts long within;
        closed = λ one. shut rest (ap (λ (g : ℕ). g ∷ rest) one);
        each = so_far.each;
        whole = so_far.whole;
      };
      start_is = sym size;
      second_is = second ∙ sym (second-front bytes area.start long);
      tail_is = tail ∙ read-place bytes (take area.start bytes) items (gate ∷ rest) so_far ∙ ap (λ (n : ℕ). tail_of n items) size;
    }

pub read-breaks : (bytes : List ℕ) (start : ℕ) (items : List (List ℕ)) (after : List ℕ) → take 8 bytes ≡ magic → start ≡ start_in bytes (is_second bytes) → 17 ≤ start → start < length bytes
    → IsReading bytes (take start bytes) items (1 ∷ after) → ((item next : List ℕ) → HasItem after item next → ⊥) → BreaksAt bytes (length bytes - length (1 ∷ after))
read-breaks bytes start items after is starts long within so_far broken = record {
  front = take start bytes;
  items = items;
  after = after;
  is_front = front-is bytes start is starts long within;
  each = so_far.each;
  whole = so_far.whole;
  is_place = read-place bytes (take start bytes) items (1 ∷ after) so_far;
  broken = broken;
}

pub read-no : (bytes : List ℕ) (start : ℕ) (items : List (List ℕ)) (rest after : List ℕ) → rest ≡ 1 ∷ after → take 8 bytes ≡ magic → start ≡ start_in bytes (is_second bytes) → 17 ≤ start → start < length bytes
    → IsReading bytes (take start bytes) items rest → ((item next : List ℕ) → HasItem after item next → ⊥) → BreaksAt bytes (length bytes - length rest)
read-no bytes start items rest after open_is is starts long within so_far broken =
    subst (λ (l : List ℕ). BreaksAt bytes (length bytes - length l)) (sym open_is)
    (read-breaks bytes start items after is starts long within (subst (λ (l : List ℕ). IsReading bytes (take start bytes) items l) open_is so_far) broken)
