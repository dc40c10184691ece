-- That the pieces cover the range, and what follows for the place of each.
use Rattle.std.proofs.Common.{◌≡◌, ℕ, zero, suc, ◌+◌, ◌-◌, ◌*◌, ◌/◌, ◌<◌, ◌≤◌, min, max, true, List, [], ◌∷◌, length, Some, map, nat_lt, refl, sym, ap, ◌∙◌, subst, ⊎_elim, arith, slice_get, take}
use Rattle.std.specs.List.{filter, range_with_len, sum_by}
use Rattle.std.proofs.Math.Nat.{suc-mul, add-mul, mul-le-mul_right, div-mul-le_self, lt-div-mul-add}
use Rattle.std.proofs.lemmas.Bool.{lt-ltb, le-ltb, cases_lt}
use Rattle.std.proofs.lemmas.List.{nil_from_length}
use Rattle.std.proofs.lemmas.List.Sums.{sum_by-cons}
use Rattle.bcv_vfs.specs.declared.Span.{Span}
use Rattle.bcv_vfs.specs.declared.Piece.{Piece}
use Rattle.bcv_vfs.specs.Pieces.{pieces_of, part_of, page_begin, bytes_there, Cover}
use Rattle.bcv_vfs.proofs.Parts.{filter_few, page_step, pieces_from}

-- the pieces of n pages from this one on
abbrev pub pieces_at : Span → ℕ → ℕ → List Piece
pieces_at span page n = filter (λ piece. nat_lt 0 piece.len) (map (part_of span) (range_with_len page n))

-- the page after this one begins where it ends
pub next_begin : (span : Span) (page : ℕ) → 1 ≤ page → page_begin span (page + 1) ≡ page_begin span page + span.page_size
next_begin span page first =
    let same : page + 1 - 1 ≡ page = omega arith in
    ap (λ k. k * span.page_size) same ∙ page_step page span.page_size first

-- from a page on that begins where the range has ended, nothing more is asked
none_left : (span : Span) (page n : ℕ) → span.off + span.len ≤ max span.off (page_begin span page) → pieces_at span page n ≡ []
none_left span page n ended =
    nil_from_length _
    (let few : length (pieces_at span page n) ≤ 0 =
    filter_few (λ piece. nat_lt 0 piece.len) (part_of span) page n 0
    (λ j low high.
    let below : (page - 1) * span.page_size ≤ (j - 1) * span.page_size = mul-le-mul_right span.page_size (omega arith) in
    le-ltb 0 _ (omega arith)) in
    omega arith)

-- from a page on that ends after the range begins, the pieces cover what is left of the range in n pages
Cover-pieces : (span : Span) (page n at to end : ℕ) → 1 ≤ page → 0 < span.page_size → span.off < page_begin span page + span.page_size
    → at ≡ max span.off (min (span.off + span.len) (page_begin span page)) → to ≡ at - span.off
    → end ≡ max span.off (min (span.off + span.len) (page_begin span page + n * span.page_size))
    → Cover span page at to end (pieces_at span page n)
Cover-pieces span page zero at to end first bytes reach is_at is_to is_end = omega arith
Cover-pieces span page (suc n) at to end first bytes reach is_at is_to is_end =
    let next = next_begin span page first in
    let longer = suc-mul n span.page_size in
    ⊎_elim (λ (more : max span.off (page_begin span page) < span.off + span.len).
    let passes : nat_lt 0 (part_of span page).len ≡ true = lt-ltb 0 _ (omega arith) in
    let rest = Cover-pieces span (page + 1) n (at + (part_of span page).len) (to + (part_of span page).len) end
    (omega arith) bytes (omega arith) (omega arith) (omega arith) (omega arith) in
    rw passes (record { number = refl; begins = omega arith; lands = omega arith; some = omega arith; in_page = omega arith }, rest))
    (λ (ended : span.off + span.len ≤ max span.off (page_begin span page)).
    rw (none_left span page (suc n) ended) (omega arith))
    (cases_lt (max span.off (page_begin span page)) (span.off + span.len))

-- the pieces cover the part of the range that is there
pub Cover-range : (span : Span) → 0 < span.page_size
    → Cover span (span.off / span.page_size + 1) span.off 0 (span.off + bytes_there span) (pieces_of span)
Cover-range span bytes =
    let floor : span.off / span.page_size * span.page_size ≤ span.off = div-mul-le_self span.off span.page_size in
    let reach : span.off < span.off / span.page_size * span.page_size + span.page_size = lt-div-mul-add bytes in
    let first : span.off / span.page_size + 1 - 1 ≡ span.off / span.page_size = omega arith in
    let begins : (span.off / span.page_size + 1 - 1) * span.page_size ≡ span.off / span.page_size * span.page_size = ap (λ k. k * span.page_size) first in
    ⊎_elim (λ (inside : span.off / span.page_size < span.pages).
    let skipped : min (span.off / span.page_size) span.pages ≡ span.off / span.page_size = omega arith in
    let from : pieces_of span ≡ pieces_at span (span.off / span.page_size + 1) (span.pages - span.off / span.page_size) =
    pieces_from span ∙ ap (λ k. pieces_at span (k + 1) (span.pages - k)) skipped in
    let split : span.off / span.page_size + (span.pages - span.off / span.page_size) ≡ span.pages = omega arith in
    let total : span.off / span.page_size * span.page_size + (span.pages - span.off / span.page_size) * span.page_size ≡ span.pages * span.page_size =
    sym (add-mul (span.off / span.page_size) (span.pages - span.off / span.page_size) span.page_size) ∙ ap (λ k. k * span.page_size) split in
    let P : List Piece → Type 0 = λ pieces. Cover span (span.off / span.page_size + 1) span.off 0 (span.off + bytes_there span) pieces in
    subst P (sym from)
    (Cover-pieces span (span.off / span.page_size + 1) (span.pages - span.off / span.page_size) span.off 0 (span.off + bytes_there span)
    (omega arith) bytes (omega arith) (omega arith) (omega arith) (omega arith)))
    (λ (past : span.pages ≤ span.off / span.page_size).
    let skipped : min (span.off / span.page_size) span.pages ≡ span.pages = omega arith in
    let left : span.pages - span.pages ≡ 0 = omega arith in
    let from : pieces_of span ≡ [] =
    pieces_from span ∙ ap (λ k. pieces_at span (k + 1) (span.pages - k)) skipped ∙ ap (λ k. pieces_at span (span.pages + 1) k) left in
    let whole : span.pages * span.page_size ≤ span.off / span.page_size * span.page_size = mul-le-mul_right span.page_size past in
    let P : List Piece → Type 0 = λ pieces. Cover span (span.off / span.page_size + 1) span.off 0 (span.off + bytes_there span) pieces in
    subst P (sym from) (omega arith))
    (cases_lt (span.off / span.page_size) span.pages)

-- pieces that cover a part have as many bytes as it
sum_by-Cover : (span : Span) (page at to end : ℕ) (pieces : List Piece) → Cover span page at to end pieces
    → at + sum_by (λ piece. piece.len) pieces ≡ end
sum_by-Cover span page at to end [] covers = omega arith
sum_by-Cover span page at to end (piece ∷ pieces) covers =
    let rest = sum_by-Cover span (page + 1) (at + piece.len) (to + piece.len) end pieces covers.1 in
    let more = sum_by-cons {X = Piece} (λ piece. piece.len) piece pieces in
    omega arith

-- a piece lands where the bytes of those to its left end
lands-Cover : (span : Span) (page at to end : ℕ) (pieces : List Piece) (i : ℕ) (piece : Piece) → Cover span page at to end pieces
    → slice_get pieces i ≡ Some piece → piece.to ≡ to + sum_by (λ left. left.len) (take i pieces)
lands-Cover span page at to end [] i piece covers is = cc
lands-Cover span page at to end (first ∷ pieces) zero piece covers is =
    let same : first ≡ piece = cc in
    let lands : first.to ≡ to = covers.0.lands in
    let lands' : piece.to ≡ to = cc in
    omega arith
lands-Cover span page at to end (first ∷ pieces) (suc i) piece covers is =
    let rest = lands-Cover span (page + 1) (at + first.len) (to + first.len) end pieces i piece covers.1 is in
    let more = sum_by-cons {X = Piece} (λ left. left.len) first (take i pieces) in
    omega arith

-- the pieces have as many bytes as there are
pub sum_by-pieces_of : (span : Span) → 0 < span.page_size
    → sum_by (λ piece. piece.len) (pieces_of span) ≡ bytes_there span
sum_by-pieces_of span limits =
    let all = sum_by-Cover span _ _ _ _ _ (Cover-range span limits) in
    omega arith

-- the i-th piece lands where the bytes of the i before it end
pub lands-pieces_of : (span : Span) (i : ℕ) (piece : Piece) → 0 < span.page_size
    → Some piece ≡ slice_get (pieces_of span) i → piece.to ≡ sum_by (λ left. left.len) (take i (pieces_of span))
lands-pieces_of span i piece limits is =
    let lands = lands-Cover span _ _ _ _ _ i piece (Cover-range span limits) (sym is) in
    omega arith
