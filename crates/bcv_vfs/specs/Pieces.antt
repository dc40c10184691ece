-- What a range asks of a file: how much of it is there, and which part of each page.
use Rattle.std.specs.Prelude.{◌≡◌, ℕ, ◌+◌, ◌-◌, ◌*◌, ◌<◌, ◌≤◌, min, max, nat_lt, List, [], ◌∷◌, map}
use Rattle.std.specs.List.{filter, range_with_len}
use Rattle.bcv_vfs.specs.declared.Span.{Span}
use Rattle.bcv_vfs.specs.declared.Piece.{Piece}

-- the length of the file in bytes
abbrev pub file_len : Span → ℕ
file_len span = span.pages * span.page_size

-- how many bytes of the range are there: the range ends where it says or where the file ends
abbrev pub bytes_there : Span → ℕ
bytes_there span = min (span.off + span.len) (file_len span) - span.off

-- the byte of the file at which a page begins, the first page being page 1
abbrev pub page_begin : Span → ℕ → ℕ
page_begin span page = (page - 1) * span.page_size

-- what the range asks of a page: the bytes that lie in both, and their place in the reader's buffer
abbrev pub part_of : Span → ℕ → Piece
part_of span page =
    let begin = max span.off (page_begin span page) in
    let end = min (span.off + span.len) (page_begin span page + span.page_size) in
    record { page = page; start = begin - page_begin span page; len = end - begin; to = begin - span.off }

-- the pieces of a range: what it asks of each page of the file in turn, where that is something
abbrev pub pieces_of : Span → List Piece
pieces_of span = filter (λ piece. nat_lt 0 piece.len) (map (part_of span) (range_with_len 1 span.pages))

-- a piece is not empty, lies in one page of the file, and has its place in the buffer
pub record IsWithin (span : Span) (piece : Piece) : Type 0 where
  pub some : 0 < piece.len
  pub from_first : 1 ≤ piece.page
  pub to_last : piece.page ≤ span.pages
  pub in_page : piece.start + piece.len ≤ span.page_size
  pub in_buffer : piece.to + piece.len ≤ bytes_there span

-- a piece is not empty and lies in this page, beginning at byte `at` of the file and place `to` of the buffer
pub record IsPlaced (span : Span) (page at to : ℕ) (piece : Piece) : Type 0 where
  pub number : piece.page ≡ page
  pub begins : page_begin span page + piece.start ≡ at
  pub lands : piece.to ≡ to
  pub some : 0 < piece.len
  pub in_page : piece.start + piece.len ≤ span.page_size

-- the pieces are the bytes of the file from `at` up to `end`, each byte once: page after page from this one
-- on, each piece beginning, in the file and in the buffer, where the one before it ended
abbrev pub Cover : (span : Span) (page at to end : ℕ) → List Piece → Type 0
Cover span page at to end [] = at ≡ end
Cover span page at to end (piece ∷ pieces) =
    IsPlaced span page at to piece × Cover span (page + 1) (at + piece.len) (to + piece.len) end pieces
