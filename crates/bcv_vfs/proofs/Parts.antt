-- Which pages give a piece, and which piece stands where.
use Rattle.std.proofs.Common.{◌≡◌, ℕ, zero, suc, ◌+◌, ◌-◌, ◌*◌, ◌/◌, ◌<◌, ◌≤◌, min, max, Bool, true, false, cond, List, ◌∷◌, length, Option, Some, None, map, nat_lt, refl, sym, ap, ◌∙◌, arith, slice_get, IsSome, get_or, ◌↔◌, ⊎_elim}
use Rattle.std.specs.List.{filter, range_with_len}
use Rattle.std.proofs.Math.Nat.{suc-mul, mul-le-mul_right, div-mul-le_self, lt-div-mul-add}
use Rattle.std.proofs.lemmas.Bool.{false≢true, lt-ltb, le-ltb}
use Rattle.std.proofs.lemmas.Option.{none-some, slice_get_cases, slice_get_past, slice_get_within}
use Rattle.std.proofs.lemmas.List.Sums.{count_by-le-length, length-filter}
use Rattle.std.proofs.lemmas.List.FromFn.{length-map-range_with_len}
use Rattle.bcv_vfs.specs.declared.Span.{Span}
use Rattle.bcv_vfs.specs.declared.Piece.{Piece}
use Rattle.bcv_vfs.specs.Pieces.{pieces_of, part_of}

-- where the elements in front fail, a filter begins after them
filter_skips : {X : Type 0} (test : X → Bool) (f : ℕ → X) (a skipped n m b : ℕ) → skipped + n ≡ m → a + skipped ≡ b
    → ((j : ℕ) → a ≤ j → j < b → test (f j) ≡ false)
    → filter test (map f (range_with_len a m)) ≡ filter test (map f (range_with_len b n))
filter_skips test f a zero n m b long at fails =
    let same_start : a ≡ b = omega arith in
    let same_len : m ≡ n = omega arith in
    ap (λ k. filter test (map f (range_with_len k m))) same_start ∙ ap (λ k. filter test (map f (range_with_len b k))) same_len
filter_skips test f a (suc skipped) n zero b long at fails = absurd (omega arith)
filter_skips test f a (suc skipped) n (suc m) b long at fails =
    rw (fails a (omega arith) (omega arith))
    (filter_skips test f (a + 1) skipped n m b (omega arith) (omega arith) (λ j low high. fails j (omega arith) high))

-- where the first elements pass, each stands at its own place
filter_keeps : {X : Type 0} (test : X → Bool) (f : ℕ → X) (a n i k : ℕ) → i < n → a + i ≡ k
    → ((j : ℕ) → a ≤ j → j ≤ k → test (f j) ≡ true)
    → slice_get (filter test (map f (range_with_len a n))) i ≡ Some (f k)
filter_keeps test f a zero i k within at passes = absurd (omega arith)
filter_keeps test f a (suc n) zero k within at passes =
    let same : a ≡ k = omega arith in
    rw (passes a (omega arith) (omega arith)) (ap (λ j. Some (f j)) same)
filter_keeps test f a (suc n) (suc i) k within at passes =
    rw (passes a (omega arith) (omega arith))
    (filter_keeps test f (a + 1) n i k (omega arith) (omega arith) (λ j low high. passes j (omega arith) high))

-- where all from the i-th on fail, a filter keeps at most i
pub filter_few : {X : Type 0} (test : X → Bool) (f : ℕ → X) (a n i : ℕ)
    → ((j : ℕ) → a + i ≤ j → j < a + n → test (f j) ≡ false)
    → length (filter test (map f (range_with_len a n))) ≤ i
filter_few test f a zero i fails = omega arith
filter_few test f a (suc n) zero fails =
    rw (fails a (omega arith) (omega arith)) (filter_few test f (a + 1) n zero (λ j low high. fails j (omega arith) (omega arith)))
filter_few test f a (suc n) (suc i) fails =
    let rest : length (filter test (map f (range_with_len (a + 1) n))) ≤ i = filter_few test f (a + 1) n i (λ j low high. fails j (omega arith) (omega arith)) in
    elim (test (f a)) as (λ b. length (cond b (f a ∷ filter test (map f (range_with_len (a + 1) n))) (filter test (map f (range_with_len (a + 1) n)))) ≤ suc i)
    [ true ↦ omega arith | false ↦ omega arith ]

-- the pages up to one are those before it and itself
pub page_step : (page size : ℕ) → 1 ≤ page → page * size ≡ (page - 1) * size + size
page_step zero size first = absurd (omega arith)
page_step (suc before) size first =
    let same : before ≡ suc before - 1 = omega arith in
    suc-mul before size ∙ ap (λ k. k * size + size) same

-- a page that ends before the range begins gives nothing
none_before : (span : Span) (page : ℕ) → 1 ≤ page → page ≤ span.off / span.page_size
    → nat_lt 0 (part_of span page).len ≡ false
none_before span page first h =
    let whole = page_step page span.page_size first in
    let below : page * span.page_size ≤ span.off / span.page_size * span.page_size = mul-le-mul_right span.page_size h in
    let begins : span.off / span.page_size * span.page_size ≤ span.off = div-mul-le_self span.off span.page_size in
    le-ltb 0 _ (omega arith)

-- from the page on in which the range begins up to one that begins before it ends, each page gives something
some_within : (span : Span) (page last : ℕ) → 0 < span.page_size → span.off / span.page_size < page → page ≤ last + 1
    → last * span.page_size < span.off + span.len → 0 < span.len
    → nat_lt 0 (part_of span page).len ≡ true
some_within span page last bytes low high ends asked =
    let reach : span.off / span.page_size * span.page_size ≤ (page - 1) * span.page_size = mul-le-mul_right span.page_size (omega arith) in
    let begins : span.off < span.off / span.page_size * span.page_size + span.page_size = lt-div-mul-add bytes in
    let below : (page - 1) * span.page_size ≤ last * span.page_size = mul-le-mul_right span.page_size (omega arith) in
    lt-ltb 0 _ (omega arith)

-- once a page begins where the range has ended, no later page gives anything
none_after : (span : Span) (page first : ℕ) → first < page
    → span.off + span.len ≤ max (first * span.page_size) span.off
    → nat_lt 0 (part_of span page).len ≡ false
none_after span page first later ended =
    let below : first * span.page_size ≤ (page - 1) * span.page_size = mul-le-mul_right span.page_size (omega arith) in
    le-ltb 0 _ (omega arith)

-- the pieces are those of the pages from the one on in which the range begins
pub pieces_from : (span : Span) → pieces_of span
    ≡ filter (λ piece. nat_lt 0 piece.len) (map (part_of span)
    (range_with_len (min (span.off / span.page_size) span.pages + 1) (span.pages - min (span.off / span.page_size) span.pages)))
pieces_from span =
    filter_skips (λ piece. nat_lt 0 piece.len) (part_of span) 1 (min (span.off / span.page_size) span.pages) _ _ _ (omega arith) (omega arith)
    (λ page low high. none_before span page low (omega arith))

-- the i-th piece is what the range asks of the i-th page from the one in which it begins
pub piece_here : (span : Span) (i before : ℕ) → 0 < span.page_size → before ≡ span.off / span.page_size + i → before < span.pages
    → max (before * span.page_size) span.off < min (before * span.page_size + span.page_size) (span.off + span.len)
    → slice_get (pieces_of span) i ≡ Some (part_of span (before + 1))
piece_here span i before bytes at within some =
    ap (λ pieces. slice_get pieces i) (pieces_from span)
    ∙ filter_keeps (λ piece. nat_lt 0 piece.len) (part_of span) _ _ i (before + 1) (omega arith) (omega arith)
    (λ page low high. some_within span page before bytes (omega arith) high (omega arith) (omega arith))

-- there is no i-th piece where that page begins after the range has ended, or is no page of the file
pub no_piece_here : (span : Span) (i before : ℕ) → before ≡ span.off / span.page_size + i
    → (before < span.pages → span.off + span.len ≤ max (before * span.page_size) span.off)
    → None ≡ slice_get (pieces_of span) i
no_piece_here span i before at ended =
    let few : length (filter (λ piece. nat_lt 0 piece.len) (map (part_of span)
    (range_with_len (min (span.off / span.page_size) span.pages + 1) (span.pages - min (span.off / span.page_size) span.pages)))) ≤ i =
    filter_few (λ piece. nat_lt 0 piece.len) (part_of span) _ _ i
    (λ page low high. none_after span page before (omega arith) (ended (omega arith))) in
    sym (ap (λ pieces. slice_get pieces i) (pieces_from span) ∙ slice_get_past _ i few)

-- pieces with the same numbers are the same
same_piece : (page start len to page' start' len' to' : ℕ) → page ≡ page' → start ≡ start' → len ≡ len' → to ≡ to'
    → ◌≡◌ {A = Option Piece} (Some record { page = page; start = start; len = len; to = to }) (Some record { page = page'; start = start'; len = len'; to = to' })
same_piece page start len to page' start' len' to' a b c d = cc

-- the i-th piece in the numbers that a body computes
pub piece_found : (span : Span) (i size before begin end page start len to : ℕ) → 0 < span.page_size → size ≡ span.page_size
    → before ≡ span.off / span.page_size + i → before < span.pages
    → begin ≡ max (before * size) span.off → end ≡ min (before * size + size) (span.off + span.len) → begin < end
    → page ≡ before + 1 → start ≡ begin - before * size → len ≡ end - begin → to ≡ begin - span.off
    → ◌≡◌ {A = Option Piece} (Some record { page = page; start = start; len = len; to = to }) (slice_get (pieces_of span) i)
piece_found span i size before begin end page start len to bytes same at within is_begin is_end some is_page is_start is_len is_to =
    let place : before * size ≡ before * span.page_size = ap (λ s. before * s) same in
    let number : before + 1 - 1 ≡ before = omega arith in
    let begins : (before + 1 - 1) * span.page_size ≡ before * size = ap (λ k. k * span.page_size) number ∙ sym place in
    same_piece page start len to (part_of span (before + 1)).page (part_of span (before + 1)).start (part_of span (before + 1)).len (part_of span (before + 1)).to
    is_page (omega arith) (omega arith) (omega arith)
    ∙ sym (piece_here span i before bytes at within (omega arith))

-- that there is none, in the same numbers
pub piece_missing : (span : Span) (i size before begin end : ℕ) → 0 < span.page_size → size ≡ span.page_size
    → before ≡ span.off / span.page_size + i
    → begin ≡ max (before * size) span.off → end ≡ min (before * size + size) (span.off + span.len) → end ≤ begin
    → None ≡ slice_get (pieces_of span) i
piece_missing span i size before begin end bytes same at is_begin is_end ended =
    let place : before * size ≡ before * span.page_size = ap (λ s. before * s) same in
    let reach : span.off / span.page_size * span.page_size ≤ before * span.page_size = mul-le-mul_right span.page_size (omega arith) in
    let begins : span.off < span.off / span.page_size * span.page_size + span.page_size = lt-div-mul-add bytes in
    no_piece_here span i before at (λ within. omega arith)

-- there is an i-th element exactly where i is within the list
pub found_at : {X : Type 0} (xs : List X) (i : ℕ) (r : Option X) → r ≡ slice_get xs i → IsSome r ↔ (i < length xs)
found_at xs i (Some x) is = (λ some. slice_get_within xs i x (sym is), λ within. refl)
found_at {X} xs i None is = (
  λ some. absurd (false≢true some),
  λ within. ⊎_elim (λ (here : (x : X) × (i < length xs) × (slice_get xs i ≡ Some x) × (get_or xs i x ≡ x)). absurd (none-some here.0 (is ∙ here.2)))
      (λ (past : (length xs ≤ i) × (slice_get xs i ≡ None)). absurd (omega arith))
      (slice_get_cases xs i).1,
)

-- no more pieces than pages
pub length-pieces_of : (span : Span) → length (pieces_of span) ≤ span.pages
length-pieces_of span =
    let kept = length-filter (λ piece. nat_lt 0 piece.len) (map (part_of span) (range_with_len 1 span.pages)) in
    let most = count_by-le-length (λ piece. nat_lt 0 piece.len) (map (part_of span) (range_with_len 1 span.pages)) in
    let all = length-map-range_with_len (part_of span) 1 span.pages in
    omega arith
