-- What a reader gets from an image by the pieces of a range.
use Rattle.std.proofs.Common.{◌≡◌, ℕ, suc, ◌+◌, ◌-◌, ◌*◌, ◌<◌, ◌≤◌, min, max, List, [], ◌∷◌, ◌++◌, length, refl, sym, ap, ◌∙◌, ⊎_elim, arith, get_or, take, drop}
use Rattle.std.specs.List.{All, concat, flat_map}
use Rattle.std.proofs.Math.Nat.{suc-mul}
use Rattle.std.proofs.Math.Seq.{take-nil, drop-nil, take-append-add, drop-append-add}
use Rattle.std.proofs.lemmas.Bool.{lt-ltb, le-ltb, cases_lt}
use Rattle.std.proofs.lemmas.List.{append-nil, length-append, drop-take, drop-append-le, length-drop, take-append-le, take_all, take_min}
use Rattle.std.proofs.lemmas.List.Elements.{All-head, All-tail}
use Rattle.bcv_vfs.specs.declared.Span.{Span}
use Rattle.bcv_vfs.specs.declared.Piece.{Piece}
use Rattle.bcv_vfs.specs.Pieces.{pieces_of, part_of, page_begin, bytes_there}
use Rattle.bcv_vfs.specs.Reading.{IsFileOf, bytes_at, page_at, range_of}
use Rattle.bcv_vfs.proofs.Covering.{next_begin, pieces_at}

-- a page that ends before the range begins
join_past : (page rest : List ℕ) (start len skip keep skip' keep' : ℕ) → len ≡ 0 → keep ≡ keep' → skip ≡ length page + skip'
    → drop start (take (start + len) page) ++ take keep' (drop skip' rest) ≡ take keep (drop skip (page ++ rest))
join_past page rest start len skip keep skip' keep' nothing same past =
    ap (λ bytes. bytes ++ take keep' (drop skip' rest)) (drop-take start len page ∙ ap (λ n. take n (drop start page)) nothing)
    ∙ sym (ap (λ n. take keep (drop n (page ++ rest))) past ∙ ap (λ bytes. take keep bytes) (drop-append-add page rest skip') ∙ ap (λ n. take n (drop skip' rest)) same)

-- a page in which the range goes on
join_here : (page rest : List ℕ) (start len keep skip' keep' : ℕ) → skip' ≡ 0 → start ≤ length page → len ≡ min keep (length page - start)
    → keep' ≡ keep - (length page - start)
    → drop start (take (start + len) page) ++ take keep' (drop skip' rest) ≡ take keep (drop start (page ++ rest))
join_here page rest start len keep skip' keep' none within is_len is_keep =
    let left : drop start (take (start + len) page) ++ take keep' (drop skip' rest) ≡ take len (drop start page) ++ take keep' rest =
    ap (λ bytes. bytes ++ take keep' (drop skip' rest)) (drop-take start len page) ∙ ap (λ n. take len (drop start page) ++ take keep' (drop n rest)) none in
    let right : take keep (drop start (page ++ rest)) ≡ take keep (drop start page ++ rest) = ap (λ bytes. take keep bytes) (drop-append-le start page rest within) in
    let long = length-drop start page in
    let middle : take len (drop start page) ++ take keep' rest ≡ take keep (drop start page ++ rest) =
    ⊎_elim (λ (over : length (drop start page) < keep).
    let whole : take len (drop start page) ≡ drop start page = take_all len (drop start page) (omega arith) in
    let parts : keep ≡ length (drop start page) + keep' = omega arith in
    ap (λ bytes. bytes ++ take keep' rest) whole
    ∙ sym (ap (λ n. take n (drop start page ++ rest)) parts ∙ take-append-add (drop start page) rest keep'))
    (λ (under : keep ≤ length (drop start page)).
    let same : len ≡ keep = omega arith in
    let nothing : keep' ≡ 0 = omega arith in
    ap (λ n. take len (drop start page) ++ take n rest) nothing
    ∙ append-nil (take len (drop start page))
    ∙ ap (λ n. take n (drop start page)) same
    ∙ sym (take-append-le keep (drop start page) rest under))
    (cases_lt (length (drop start page)) keep) in
    left ∙ middle ∙ sym right

-- what the range asks of a page that lies in front of others
join_page : (span : Span) (number : ℕ) (page rest : List ℕ) → length page ≡ span.page_size
    → drop (part_of span number).start (take ((part_of span number).start + (part_of span number).len) page)
    ++ take (span.off + span.len - max span.off (page_begin span number + span.page_size)) (drop (span.off - (page_begin span number + span.page_size)) rest)
    ≡ take (span.off + span.len - max span.off (page_begin span number)) (drop (span.off - page_begin span number) (page ++ rest))
join_page span number page rest size =
    ⊎_elim (λ (here : span.off < page_begin span number + span.page_size).
    let begins : (part_of span number).start ≡ span.off - page_begin span number = omega arith in
    join_here page rest (part_of span number).start (part_of span number).len _ _ _ (omega arith) (omega arith) (omega arith) (omega arith)
    ∙ ap (λ n. take (span.off + span.len - max span.off (page_begin span number)) (drop n (page ++ rest))) begins)
    (λ (past : page_begin span number + span.page_size ≤ span.off).
    join_past page rest (part_of span number).start (part_of span number).len _ _ _ _ (omega arith) (omega arith) (omega arith))
    (cases_lt span.off (page_begin span number + span.page_size))

-- a page that gives no piece adds no bytes
flat_map-part : (span : Span) (bytes : Piece → List ℕ) (number n : ℕ) → ((part_of span number).len ≡ 0 → bytes (part_of span number) ≡ [])
    → flat_map bytes (pieces_at span number (suc n)) ≡ bytes (part_of span number) ++ flat_map bytes (pieces_at span (number + 1) n)
flat_map-part span bytes number n empty =
    ⊎_elim (λ (some : 0 < (part_of span number).len).
    rw (lt-ltb 0 (part_of span number).len some) refl)
    (λ (none : (part_of span number).len ≤ 0).
    rw (le-ltb 0 (part_of span number).len none) (ap (λ front. front ++ flat_map bytes (pieces_at span (number + 1) n)) (sym (empty (omega arith)))))
    (cases_lt 0 (part_of span number).len)

-- the pieces of the pages from one on, read one after the other, are what is left of the range in those pages
reads_from : (span : Span) (find : ℕ → List ℕ) (number : ℕ) (pages : List (List ℕ)) → 1 ≤ number
    → All (λ page. length page ≡ span.page_size) pages
    → ((j : ℕ) → j < length pages → find (number + j) ≡ get_or pages j [])
    → flat_map (λ piece. drop piece.start (take (piece.start + piece.len) (find piece.page))) (pieces_at span number (length pages))
    ≡ take (span.off + span.len - max span.off (page_begin span number)) (drop (span.off - page_begin span number) (concat pages))
reads_from span find number [] first sizes finds =
    sym (ap (λ bytes. take (span.off + span.len - max span.off (page_begin span number)) bytes) (drop-nil {A = ℕ} (span.off - page_begin span number))
    ∙ take-nil {A = ℕ} _)
reads_from span find number (page ∷ pages) first sizes finds =
    let bytes : Piece → List ℕ = λ piece. drop piece.start (take (piece.start + piece.len) (find piece.page)) in
    let here : find number ≡ page = ap find (omega arith) ∙ finds 0 (omega arith) in
    let empty : (part_of span number).len ≡ 0 → bytes (part_of span number) ≡ [] =
    λ none. drop-take (part_of span number).start (part_of span number).len (find number) ∙ ap (λ n. take n (drop (part_of span number).start (find number))) none in
    let rest = reads_from span find (number + 1) pages (omega arith) (All-tail (λ page. length page ≡ span.page_size) page pages sizes)
    (λ j within. ap find (omega arith) ∙ finds (suc j) (omega arith)) in
    let next = next_begin span number first in
    flat_map-part span bytes number (length pages) empty
    ∙ ap (λ front. drop (part_of span number).start (take ((part_of span number).start + (part_of span number).len) front) ++ flat_map bytes (pieces_at span (number + 1) (length pages))) here
    ∙ ap (λ back. drop (part_of span number).start (take ((part_of span number).start + (part_of span number).len) page) ++ back)
    (rest ∙ ap (λ begin. take (span.off + span.len - max span.off begin) (drop (span.off - begin) (concat pages))) next)
    ∙ join_page span number page (concat pages) (All-head (λ page. length page ≡ span.page_size) page pages sizes)

-- pages of one size are as long as their number says
length-concat : (size : ℕ) (pages : List (List ℕ)) → All (λ page. length page ≡ size) pages → length (concat pages) ≡ length pages * size
length-concat size [] sizes = omega arith
length-concat size (page ∷ pages) sizes =
    let rest = length-concat size pages (All-tail (λ page. length page ≡ size) page pages sizes) in
    let here = All-head (λ page. length page ≡ size) page pages sizes in
    let both = length-append page (concat pages) in
    let more = suc-mul (length pages) size in
    omega arith

-- the pieces of a range, read one after the other, are the bytes of the range that are there
pub flat_map-pieces_of : (span : Span) (image : List (List ℕ)) → IsFileOf span image
    → flat_map (bytes_at image) (pieces_of span) ≡ range_of span image
flat_map-pieces_of span image file =
    let all = reads_from span (page_at image) 1 image (omega arith) file.sizes (λ j within. ap (λ k. get_or image k []) (omega arith)) in
    let long = length-concat span.page_size image file.sizes in
    let rest = length-drop span.off (concat image) in
    let whole : length image * span.page_size ≡ span.pages * span.page_size = ap (λ n. n * span.page_size) file.pages in
    let there : min (span.off + span.len - max span.off (page_begin span 1)) (length (drop span.off (concat image))) ≡ bytes_there span = omega arith in
    let start : span.off - page_begin span 1 ≡ span.off = omega arith in
    ap (λ n. flat_map (bytes_at image) (pieces_at span 1 n)) (sym file.pages)
    ∙ all
    ∙ ap (λ n. take (span.off + span.len - max span.off (page_begin span 1)) (drop n (concat image))) start
    ∙ sym (take_min (span.off + span.len - max span.off (page_begin span 1)) (drop span.off (concat image)))
    ∙ ap (λ n. take n (drop span.off (concat image))) there
