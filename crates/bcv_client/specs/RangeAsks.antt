-- The asks for a range of bytes: its pages from the left, each read, and fetched by a step where the read starts a task.
use Rattle.std.specs.Prelude.{◌≡◌, ◌≢◌, ◌⊎◌, ◌+◌, ◌-◌, ◌<◌, ◌≤◌, ℕ, Bool, true, false, List, [], ◌∷◌, ◌++◌, length, take, drop}
use Rattle.bcv_base.specs.Image.{Page, zeros}
use Rattle.bcv_model.specs.declared.ask.Ask.{Ask}
use Rattle.bcv_model.specs.declared.ask.Ask.TheVariants as ask
use Rattle.bcv_model.specs.declared.reply.Reply.{Reply}
use Rattle.bcv_model.specs.declared.reply.Reply.TheVariants as reply
use Rattle.bcv_machine.specs.Step.{is_task}
use Rattle.bcv_vfs.specs.declared.Piece.{Piece}
use Rattle.bcv_vfs.specs.declared.Span.{Span}
use Rattle.bcv_vfs.specs.Pieces.{bytes_there, file_len, pieces_of}
use Rattle.bcv_client.specs.Talk.{Exchange}
use Rattle.bcv_client.specs.declared.byte_ranges.ReadAt.{ReadAt}
use Rattle.bcv_client.specs.declared.byte_ranges.ReadAt.TheVariants as read_at

-- ---- a page

abbrev pub exchange : Ask → Reply → Exchange
exchange q r = record { ask = q; reply = r }

-- the reply to the read of a page: the read's own, or where it started a task that of the task's step
abbrev pub PageAsked : ℕ → ℕ → List Exchange → Reply → Type 0
PageAsked txn page es r =
    ((is_task r ≡ false) × (es ≡ exchange (ask.Read txn page) r ∷ []))
    ⊎ ((n left : ℕ) × (es ≡ exchange (ask.Read txn page) (reply.Task n left) ∷ exchange (ask.Step n) r ∷ []))

abbrev pub is_page : Reply → Bool
is_page (reply.Page bytes) = true
is_page _ = false

-- ---- the pages of pieces

-- the pages of these pieces are asked for in order, and each of them comes
abbrev pub PagesCome : ℕ → List Piece → List Exchange → List Page → Type 0
PagesCome txn [] es pages = (es ≡ []) × (pages ≡ [])
PagesCome txn (piece ∷ pieces) es [] = ⊥
PagesCome txn (piece ∷ pieces) es (page ∷ pages) =
    (first more : List Exchange) × (es ≡ first ++ more) × PageAsked txn piece.page first (reply.Page page)
    × PagesCome txn pieces more pages

-- the bytes that a piece names in its page
abbrev pub piece_bytes : Piece → Page → List ℕ
piece_bytes piece page = drop piece.start (take (piece.start + piece.len) page)

-- the bytes of the pieces, in order
abbrev pub range_bytes : List Piece → List Page → List ℕ
range_bytes [] pages = []
range_bytes (piece ∷ pieces) [] = []
range_bytes (piece ∷ pieces) (page ∷ pages) = piece_bytes piece page ++ range_bytes pieces pages

-- a buffer of so many bytes that begins with these, and has zeros after them
abbrev pub buffer : ℕ → List ℕ → List ℕ
buffer len bytes = take len bytes ++ zeros (len - length bytes)

-- ---- a range

-- all pages come, and what the pieces name in them is in the buffer: the bytes that are there, and zeros after them
pub record RangeComes (span : Span) (txn : ℕ) (es : List Exchange) (into : List ℕ) : Type 0 where
  pub pages : List Page
  pub come : PagesCome txn (pieces_of span) es pages
  pub bytes : into ≡ buffer span.len (range_bytes (pieces_of span) pages)
  pub whole : length into ≡ span.len
  pub rest : drop (bytes_there span) into ≡ zeros (span.len - bytes_there span)

-- the pages come up to one whose read is replied so
pub record PageRefused (span : Span) (txn : ℕ) (es : List Exchange) (r : Reply) : Type 0 where
  pub before : List Piece
  pub piece : Piece
  pub after : List Piece
  pub pieces : pieces_of span ≡ before ++ piece ∷ after
  pub came : List Exchange
  pub last : List Exchange
  pub exchanges : es ≡ came ++ last
  pub pages : List Page
  pub come : PagesCome txn before came pages
  pub asked : PageAsked txn piece.page last r
  pub refuses : is_page r ≡ false
  pub is_open : r ≢ reply.NoTxn

-- memory was missing for the bytes of a page, or for the buffer, after the first pages have come
pub record BytesRefused (span : Span) (txn : ℕ) (es : List Exchange) (r : Reply) : Type 0 where
  pub before : List Piece
  pub after : List Piece
  pub pieces : pieces_of span ≡ before ++ after
  pub pages : List Page
  pub come : PagesCome txn before es pages
  pub memory : r ≡ reply.NoMemory

-- what is answered over an open transaction's file, after these exchanges
abbrev pub RangeAnswers : Span → ℕ → List Exchange → List ℕ → ReadAt → Type 0
RangeAnswers span txn es into read_at.Full = RangeComes span txn es into × (span.off + span.len ≤ file_len span)
RangeAnswers span txn es into (read_at.Short n) =
    RangeComes span txn es into × (file_len span < span.off + span.len) × (n ≡ bytes_there span)
RangeAnswers span txn es into (read_at.Refused r) =
    (into ≡ []) × (PageRefused span txn es r ⊎ BytesRefused span txn es r)
