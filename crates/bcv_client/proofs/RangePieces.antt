-- The pages of pieces, one more at a time; the bytes that they are, and the buffer that these fill.
use Rattle.std.proofs.Common.{◌≡◌, ◌∙◌, ◌+◌, ◌-◌, ◌≤◌, ℕ, zero, suc, min, List, [], ◌∷◌, ◌++◌, length, take, drop, slice_get, Some, refl, sym, ap, subst, arith, append_assoc, append-nil, length-append}
use Rattle.std.specs.List.{sum_by}
use Rattle.std.proofs.Math.Seq.{drop-append-add}
use Rattle.std.proofs.lemmas.List.{drop-replicate, length-drop, length-replicate, length-take, take_all}
use Rattle.std.proofs.lemmas.List.Sums.{sum_by-cons}
use Rattle.std.proofs.lemmas.Option.{same_Some}
use Rattle.bcv_base.specs.Image.{Page, zeros}
use Rattle.bcv_model.specs.declared.reply.Reply.TheVariants as reply
use Rattle.bcv_vfs.specs.declared.Piece.{Piece}
use Rattle.bcv_vfs.specs.declared.Span.{Span}
use Rattle.bcv_vfs.specs.Pieces.{bytes_there, pieces_of}
use Rattle.bcv_client.specs.RangeAsks.{PageAsked, PagesCome, RangeComes, buffer, piece_bytes, range_bytes}
use Rattle.bcv_client.specs.Talk.{Exchange}

-- ---- one piece more

pub pages_more : (txn : ℕ) (pieces : List Piece) (piece : Piece) (es last : List Exchange) (pages : List Page) (page : Page)
    → PagesCome txn pieces es pages → PageAsked txn piece.page last (reply.Page page)
    → PagesCome txn (pieces ++ piece ∷ []) (es ++ last) (pages ++ page ∷ [])
pages_more txn [] piece es last pages page come asked =
    subst (λ (fs : List Exchange). PagesCome txn (piece ∷ []) (fs ++ last) (pages ++ page ∷ [])) (sym come.0)
    (subst (λ (qs : List Page). PagesCome txn (piece ∷ []) last (qs ++ page ∷ [])) (sym come.1)
    (last, [], sym (append-nil last), asked, (refl, refl)))
pages_more txn (p ∷ ps) piece es last [] page come asked = absurd come
pages_more txn (p ∷ ps) piece es last (q ∷ qs) page come asked =
    (come.0, come.1 ++ last, ap (λ (x : List Exchange). x ++ last) come.2 ∙ append_assoc come.0 come.1 last, come.3, pages_more txn ps piece come.1 last qs page come.4 asked)

pub bytes_more : (txn : ℕ) (pieces : List Piece) (piece : Piece) (es : List Exchange) (pages : List Page) (page : Page)
    → PagesCome txn pieces es pages → range_bytes (pieces ++ piece ∷ []) (pages ++ page ∷ []) ≡ range_bytes pieces pages ++ piece_bytes piece page
bytes_more txn [] piece es pages page come = subst (λ (qs : List Page). range_bytes (piece ∷ []) (qs ++ page ∷ []) ≡ piece_bytes piece page) (sym come.1) (append-nil (piece_bytes piece page))
bytes_more txn (p ∷ ps) piece es [] page come = absurd come
bytes_more txn (p ∷ ps) piece es (q ∷ qs) page come =
    ap (λ (l : List ℕ). piece_bytes p q ++ l) (bytes_more txn ps piece come.1 qs page come.4) ∙ sym (append_assoc (piece_bytes p q) (range_bytes ps qs) (piece_bytes piece page))

-- ---- where a piece stands

pub one_taken : {A : Type 0} (xs : List A) (i : ℕ) (x : A) → slice_get xs i ≡ Some x → take (i + 1) xs ≡ take i xs ++ x ∷ []
one_taken xs i x at = ap (λ (k : ℕ). take k xs) (next i) ∙ by xs i at
  where
    next : (i : ℕ) → i + 1 ≡ suc i
    next i = omega arith

    by : (xs : List _) (i : ℕ) → slice_get xs i ≡ Some x → take (suc i) xs ≡ take i xs ++ x ∷ []
    by [] i at = absurd (cc)
    by (y ∷ ys) zero at = ap (λ z. z ∷ []) (same_Some y x at)
    by (y ∷ ys) (suc i) at = ap (λ zs. y ∷ zs) (by ys i at)

pub parted : {A : Type 0} (xs : List A) (i : ℕ) (x : A) → slice_get xs i ≡ Some x → xs ≡ take i xs ++ x ∷ drop (suc i) xs
parted [] i x at = absurd (cc)
parted (y ∷ ys) zero x at = ap (λ z. z ∷ ys) (same_Some y x at)
parted (y ∷ ys) (suc i) x at = ap (λ zs. y ∷ zs) (parted ys i x at)

-- ---- the buffer

-- the bytes of a piece are no more than it names
piece_few : (p : Piece) (q : Page) → length (piece_bytes p q) ≤ p.len
piece_few p q =
    let one : length (piece_bytes p q) ≡ length (take (p.start + p.len) q) - p.start = length-drop p.start (take (p.start + p.len) q) in
    let two : length (take (p.start + p.len) q) ≡ min (p.start + p.len) (length q) = length-take (p.start + p.len) q in
    omega arith

pub bytes_few : (pieces : List Piece) (pages : List Page) → length (range_bytes pieces pages) ≤ sum_by (λ (p : Piece). p.len) pieces
bytes_few [] pages = omega arith
bytes_few (p ∷ ps) [] = omega arith
bytes_few (p ∷ ps) (q ∷ qs) =
    let one : length (piece_bytes p q) ≤ p.len = piece_few p q in
    let rest : length (range_bytes ps qs) ≤ sum_by (λ (p : Piece). p.len) ps = bytes_few ps qs in
    let sum : sum_by (λ (p : Piece). p.len) (p ∷ ps) ≡ p.len + sum_by (λ (p : Piece). p.len) ps = sum_by-cons (λ (x : Piece). x.len) p ps in
    let both : length (piece_bytes p q ++ range_bytes ps qs) ≡ length (piece_bytes p q) + length (range_bytes ps qs) = length-append (piece_bytes p q) (range_bytes ps qs) in
    omega arith

pub buffer_whole : (len : ℕ) (bytes : List ℕ) → length (buffer len bytes) ≡ len
buffer_whole len bytes =
    let both : length (buffer len bytes) ≡ length (take len bytes) + length (zeros (len - length bytes)) = length-append (take len bytes) (zeros (len - length bytes)) in
    let one : length (take len bytes) ≡ min len (length bytes) = length-take len bytes in
    let two : length (zeros (len - length bytes)) ≡ len - length bytes = length-replicate (len - length bytes) 0 in
    omega arith

-- after so many bytes there are zeros
pub buffer_rest : (n len : ℕ) (bytes : List ℕ) → length bytes ≤ n → n ≤ len → drop n (buffer len bytes) ≡ zeros (len - n)
buffer_rest n len bytes few fits =
    let all : take len bytes ≡ bytes = take_all len bytes (omega arith) in
    let more : length bytes + (n - length bytes) ≡ n = omega arith in
    let left : (len - length bytes) - (n - length bytes) ≡ len - n = omega arith in
    let front : drop n (buffer len bytes) ≡ drop n (bytes ++ zeros (len - length bytes)) = ap (λ (l : List ℕ). drop n (l ++ zeros (len - length bytes))) all in
    let past : drop n (bytes ++ zeros (len - length bytes)) ≡ drop (n - length bytes) (zeros (len - length bytes)) =
    subst (λ (k : ℕ). drop k (bytes ++ zeros (len - length bytes)) ≡ drop (n - length bytes) (zeros (len - length bytes))) more (drop-append-add bytes (zeros (len - length bytes)) (n - length bytes)) in
    front ∙ past ∙ drop-replicate (n - length bytes) (len - length bytes) 0 ∙ ap zeros left

there_few : (span : Span) → bytes_there span ≤ span.len
there_few span = omega arith

pub range_comes : (span : Span) (txn : ℕ) (es : List Exchange) (pages : List Page) (bytes into : List ℕ) → PagesCome txn (pieces_of span) es pages
    → bytes ≡ range_bytes (pieces_of span) pages → sum_by (λ (p : Piece). p.len) (pieces_of span) ≡ bytes_there span → into ≡ buffer span.len bytes
    → RangeComes span txn es into
range_comes span txn es pages bytes into come are sum is =
    let shown : into ≡ buffer span.len (range_bytes (pieces_of span) pages) = is ∙ ap (buffer span.len) are in
    let few : length (range_bytes (pieces_of span) pages) ≤ bytes_there span = subst (λ (k : ℕ). length (range_bytes (pieces_of span) pages) ≤ k) sum (bytes_few (pieces_of span) pages) in
    record {
      pages = pages;
      come = come;
      bytes = shown;
      whole = ap length shown ∙ buffer_whole span.len (range_bytes (pieces_of span) pages);
      rest = ap (drop (bytes_there span)) shown ∙ buffer_rest (bytes_there span) span.len (range_bytes (pieces_of span) pages) few (there_few span);
    }
