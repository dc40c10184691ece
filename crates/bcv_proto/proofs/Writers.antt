-- Pieces of an answer that are added one after another, and the length that is written into it at last.
use Rattle.std.proofs.Common.{◌≡◌, ℕ, zero, suc, ◌+◌, ◌-◌, ◌^◌, ◌<◌, ◌≤◌, false, get_or, List, [], ◌∷◌, ◌++◌, length, take, drop, Result, Ok, Err, sym, ap, ◌∙◌, append_assoc, arith}
use Rattle.std.specs.Prelude.{nat_le}
use Rattle.std.proofs.lemmas.Bool.{lt-leb}
use Rattle.std.specs.Int.{w32, to_be_bytes}
use Rattle.std.specs.List.{flat_map}
use Rattle.std.proofs.lemmas.List.{take_at, drop_at, length-append}
use Rattle.bcv_base.specs.ManifestText.{counted}
use Rattle.bcv_model.specs.declared.reply.Row.{Row}
use Rattle.bcv_script.specs.Lines.{Adds}
use Rattle.bcv_script.proofs.Adding.{front_kept, onto_more, flat_map_more}
use Rattle.bcv_proto.specs.Answers.{most_answer, row_fields}

-- one piece that was added, and then others
pub adds_more : {A E : Type 0} (r : Result A E) (old mid new a b : List ℕ) → mid ≡ old ++ a → Adds r mid new b → Adds r old new (a ++ b)
adds_more (Ok x) old mid new a b e h = onto_more old a b mid new e h
adds_more (Err x) old mid new a b e h = front_kept old a mid new e h

-- one byte that was added, by another name
pub byte_added : (old new : List ℕ) (n k : ℕ) → n ≡ k → new ≡ old ++ (n ∷ []) → new ≡ old ++ (k ∷ [])
byte_added old new n k is e = e ∙ ap (λ (b : ℕ). old ++ (b ∷ [])) is

-- each row has a byte at least
rows_long : (rows : List Row) → length rows ≤ length (flat_map row_fields rows)
rows_long [] = omega arith
rows_long (r ∷ rows) = omega (arith, length-append (row_fields r) (flat_map row_fields rows), rows_long rows)

pub few_rows : (rows : List Row) → 5 + length (counted row_fields rows) ≤ 16777280 → length rows < 2 ^ 32
few_rows rows h = omega (arith, h, rows_long rows, length-append (to_be_bytes w32 (length rows)) (flat_map row_fields rows))

-- rows at the front take no more bytes than all
front_shorter : (rows : List Row) (k : ℕ) → length (flat_map row_fields (take k rows)) ≤ length (flat_map row_fields rows)
front_shorter rows zero = omega arith
front_shorter [] (suc k) = omega arith
front_shorter (r ∷ rows) (suc k) =
    omega (arith, length-append (row_fields r) (flat_map row_fields (take k rows)), length-append (row_fields r) (flat_map row_fields rows), front_shorter rows k)

pub row_more : (rows : List Row) (i : ℕ) (r : Row) → i < length rows → r ≡ get_or rows i r
    → length (flat_map row_fields (take (i + 1) rows)) ≡ length (flat_map row_fields (take i rows)) + length (row_fields r)
row_more rows i r lt is = ap length (flat_map_more row_fields rows i r lt is) ∙ length-append (flat_map row_fields (take i rows)) (row_fields r)

-- rows of which some already take too many bytes
pub rows_too_long : (rows : List Row) (i : ℕ) (r : Row) → i < length rows → r ≡ get_or rows i r
    → most_answer < 9 + (length (flat_map row_fields (take i rows)) + length (row_fields r)) → nat_le (5 + length (counted row_fields rows)) most_answer ≡ false
rows_too_long rows i r lt is over =
    lt-leb _ _ (omega (arith, over, row_more rows i r lt is, front_shorter rows (i + 1), length-append (to_be_bytes w32 (length rows)) (flat_map row_fields rows)))

-- the length of what stands after four bytes, in their place
pub measured : (old body : List ℕ) (start : ℕ) (mid new : List ℕ) → start ≡ length old → mid ≡ old ++ (to_be_bytes w32 0 ++ body)
    → new ≡ take start mid ++ (to_be_bytes w32 (length mid - (start + 4)) ++ drop (start + 4) mid) → new ≡ old ++ (to_be_bytes w32 (length body) ++ body)
measured old body start mid new at is e =
    let zeros : List ℕ = to_be_bytes w32 0 in
    let apart : mid ≡ (old ++ zeros) ++ body = is ∙ sym (append_assoc old zeros body) in
    let front : take start mid ≡ old = ap (take start) is ∙ take_at old (zeros ++ body) start (sym at) in
    let len : length (old ++ zeros) ≡ start + 4 = omega (arith, length-append old zeros, at) in
    let back : drop (start + 4) mid ≡ body = ap (drop (start + 4)) apart ∙ drop_at (old ++ zeros) body (start + 4) len in
    let all : length mid - (start + 4) ≡ length body = omega (arith, ap length apart, length-append (old ++ zeros) body) in
    e ∙ ap (λ (l : List ℕ). l ++ (to_be_bytes w32 (length mid - (start + 4)) ++ drop (start + 4) mid)) front
    ∙ ap (λ (n : ℕ). old ++ (to_be_bytes w32 n ++ drop (start + 4) mid)) all
    ∙ ap (λ (l : List ℕ). old ++ (to_be_bytes w32 (length body) ++ l)) back
