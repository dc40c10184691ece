-- What a reader gets from an image by the pieces of a range.
use Rattle.std.specs.Prelude.{◌≡◌, ℕ, ◌+◌, ◌-◌, List, [], length, take, drop, slice_index_or}
use Rattle.std.specs.List.{All, concat}
use Rattle.bcv_vfs.specs.declared.Span.{Span}
use Rattle.bcv_vfs.specs.declared.Piece.{Piece}
use Rattle.bcv_vfs.specs.Pieces.{bytes_there}

-- the image, a list of pages, is the span's file
pub record IsFileOf (span : Span) (image : List (List ℕ)) : Type 0 where
  pub pages : length image ≡ span.pages
  pub sizes : All (λ page. length page ≡ span.page_size) image

-- a page of an image by its number, the first being page 1
abbrev pub page_at : List (List ℕ) → ℕ → List ℕ
page_at image page = slice_index_or image (page - 1) []

-- the bytes that a piece names
abbrev pub bytes_at : List (List ℕ) → Piece → List ℕ
bytes_at image piece = drop piece.start (take (piece.start + piece.len) (page_at image piece.page))

-- the bytes of a range that are there, of the image's pages written one after the other
abbrev pub range_of : Span → List (List ℕ) → List ℕ
range_of span image = take (bytes_there span) (drop span.off (concat image))
