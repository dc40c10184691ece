-- The parts of a read of a range that ask nobody.
use Rattle.std.specs.Prelude.{◌≡◌, ◌+◌, ◌<◌, ◌≤◌, ◌++◌, ℕ, false, List, [], Result, Ok, Err}
use Rattle.bcv_model.specs.declared.reply.Reply.{Reply}
use Rattle.bcv_model.specs.declared.reply.Reply.TheVariants as reply
use Rattle.bcv_vfs.specs.declared.Piece.{Piece}
use Rattle.bcv_vfs.specs.declared.Span.{Span}
use Rattle.bcv_vfs.specs.Pieces.{bytes_there, file_len}
use Rattle.bcv_client.specs.RangeAsks.{buffer, is_page, piece_bytes}
use Rattle.bcv_client.specs.declared.byte_ranges.ReadAt.{ReadAt}
use Rattle.bcv_client.specs.declared.byte_ranges.ReadAt.TheVariants as read_at

-- what a piece names in a page that came is added, unless memory was missing; or another reply is handed on
abbrev pub PieceEnds : Piece → Reply → List ℕ → List ℕ → Result (Unit {0}) Reply → Type 0
PieceEnds piece (reply.Page page) old new (Ok done) = new ≡ old ++ piece_bytes piece page
PieceEnds piece (reply.Page page) old new (Err r) = r ≡ reply.NoMemory
PieceEnds piece x old new (Ok done) = ⊥
PieceEnds piece x old new (Err r) = (r ≡ x) × (is_page x ≡ false)

-- a buffer is cut to this length, or filled up with zeros, unless memory was missing
abbrev pub FillsUp : ℕ → List ℕ → List ℕ → Result (Unit {0}) Reply → Type 0
FillsUp len bytes into (Ok done) = into ≡ buffer len bytes
FillsUp len bytes into (Err r) = r ≡ reply.NoMemory

-- the whole range is there, or so much of it
abbrev pub IsThere : Span → ReadAt → Type 0
IsThere span read_at.Full = span.off + span.len ≤ file_len span
IsThere span (read_at.Short n) = (file_len span < span.off + span.len) × (n ≡ bytes_there span)
IsThere span (read_at.Refused r) = ⊥

-- the buffer is filled up, unless memory was missing; after a refusal nothing is in it
abbrev pub RangeEnds : Span → Result (Unit {0}) Reply → List ℕ → List ℕ → ReadAt → Type 0
RangeEnds span (Ok done) bytes into read_at.Full =
    (into ≡ buffer span.len bytes) × (span.off + span.len ≤ file_len span)
RangeEnds span (Ok done) bytes into (read_at.Short n) =
    (into ≡ buffer span.len bytes) × (file_len span < span.off + span.len) × (n ≡ bytes_there span)
RangeEnds span (Ok done) bytes into (read_at.Refused r) = (r ≡ reply.NoMemory) × (into ≡ [])
RangeEnds span (Err r) bytes into (read_at.Refused x) = (x ≡ r) × (into ≡ [])
RangeEnds span (Err r) bytes into _ = ⊥
