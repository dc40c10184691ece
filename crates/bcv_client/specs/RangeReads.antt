-- What a read of a range of bytes leaves of a client, its store and its buffer.
use Rattle.std.specs.Prelude.{◌≡◌, ◌≢◌, ◌⊎◌, ◌≤◌, ℕ, List, [], Option, Some, None, Result, Ok, Err, option_map}
use Rattle.bcv_base.specs.Drawn.{NamesShown}
use Rattle.bcv_base.specs.Faults.{Rose}
use Rattle.bcv_base.specs.Image.{Page}
use Rattle.bcv_base.specs.Moments.{ClockShown}
use Rattle.bcv_disk.specs.DiskShown.{DiskShown, DiskTold}
use Rattle.bcv_model.specs.declared.ask.Ask.TheVariants as ask
use Rattle.bcv_model.specs.declared.reply.Reply.{Reply}
use Rattle.bcv_model.specs.declared.reply.Reply.TheVariants as reply
use Rattle.bcv_slots.specs.Numbered.{other_slots}
use Rattle.bcv_store.specs.StoreShown.{StoreShown, StoreTold}
use Rattle.bcv_transaction.specs.Open.{txn_at}
use Rattle.bcv_vfs.specs.declared.Piece.{Piece}
use Rattle.bcv_vfs.specs.declared.Span.{Span}
use Rattle.bcv_vfs.specs.Pieces.{pieces_of}
use Rattle.bcv_client.specs.RangeAsks.{BytesRefused, PageAsked, PageRefused, PagesCome, RangeAnswers, exchange, range_bytes}
use Rattle.bcv_client.specs.RangeParts.{PieceEnds}
use Rattle.bcv_client.specs.Talk.{Exchange, Exchanged, Point, Talks}
use Rattle.bcv_client.specs.Transactions.{OnlyReading, opened_as}
use Rattle.bcv_client.specs.declared.byte_ranges.ReadAt.{ReadAt}
use Rattle.bcv_client.specs.declared.byte_ranges.ReadAt.TheVariants as read_at
use Rattle.bcv_client.specs.declared.client.Client.{Client}

-- ---- what stays

-- but for what is cached nothing has changed: the transactions are the same ones and no task is left
pub record OnlyCached {D : Type 0} {g : _} (old new : Client D g) : Type 0 where
  pub reading : OnlyReading old new
  pub txns : new.txns.txns ≡ old.txns.txns
  pub slots : new.txns.slots ≡ old.txns.slots
  pub tasks : new.tasks.items ≡ old.tasks.items

-- the store's count of faults has not fallen, and rose where its fault is what is answered
pub record FailsAs (before after : StoreShown) (Fault : Type 0) : Type 0 where
  pub later : before.faults ≤ after.faults
  pub rose : Fault → Rose before.faults after.faults

-- ---- a talk

abbrev pub point : {D : Type 0} {g : _} → Client D g → StoreShown → NamesShown → ClockShown → Point D g
point c store names clock = record { client = c; store = store; names = names; clock = clock }

-- the client was asked so, whatever its names and its clock are, which nobody asked
abbrev pub TalksAlone : {D : Type 0} {g : _} → DiskTold → (D → DiskShown) → StoreTold → StoreShown → StoreShown
    → Client D g → Client D g → List Exchange → Type 0
TalksAlone told shown store before after old new es =
    (names : NamesShown) (clock : ClockShown)
    → Talks told shown store (point old before names clock) es (point new after names clock)

-- ---- a range

-- the file that an open transaction reads, and the range of it
abbrev pub span_of : ℕ × ℕ × ℕ → ℕ → ℕ → Span
span_of opened off len = record { page_size = opened.1; pages = opened.2; off = off; len = len }

-- the transaction is not open, and nobody was asked; or the range of its file is read
abbrev pub RangeOf : Option Span → ℕ → List Exchange → List ℕ → ReadAt → Type 0
RangeOf None txn es into r = (r ≡ read_at.Refused reply.NoTxn) × (into ≡ []) × (es ≡ [])
RangeOf (Some span) txn es into r = RangeAnswers span txn es into r

-- a range of bytes of a transaction's file is read into a buffer
pub record RangeReads {D : Type 0} {g : _} (told : DiskTold) (shown : D → DiskShown) (store : StoreTold)
    (before after : StoreShown) (old new : Client D g) (txn off len : ℕ) (into : List ℕ) (r : ReadAt) : Type 0 where
  pub exchanges : List Exchange
  pub talk : TalksAlone told shown store before after old new exchanges
  pub answers :
      RangeOf (option_map (λ (x : ℕ × ℕ × ℕ). span_of x off len) (opened_as txn old.txns)) txn exchanges into r
  pub only : OnlyCached old new
  pub causes : FailsAs before after (r ≡ read_at.Refused reply.StoreFault)

-- ---- its parts

-- a page is read
pub record PageReads {D : Type 0} {g : _} (told : DiskTold) (shown : D → DiskShown) (store : StoreTold)
    (before after : StoreShown) (old new : Client D g) (txn page : ℕ) (r : Reply) : Type 0 where
  pub exchanges : List Exchange
  pub talk : TalksAlone told shown store before after old new exchanges
  pub asked : PageAsked txn page exchanges r
  pub only : OnlyCached old new
  pub causes : FailsAs before after (r ≡ reply.StoreFault)
  pub is_open : txn_at txn old.txns.txns ≢ None → r ≢ reply.NoTxn

-- the step of a task that reads a page, which ends with it
pub record StepReads {D : Type 0} {g : _} (told : DiskTold) (shown : D → DiskShown) (store : StoreTold)
    (before after : StoreShown) (old new : Client D g) (task : ℕ) (r : Reply) : Type 0 where
  pub exchanged :
      (names : NamesShown) (clock : ClockShown)
      → Exchanged told shown store (point old before names clock) (exchange (ask.Step task) r)
      (point new after names clock)
  pub reading : OnlyReading old new
  pub txns : new.txns.txns ≡ old.txns.txns
  pub slots : new.txns.slots ≡ old.txns.slots
  pub tasks : new.tasks.items ≡ other_slots task old.tasks.items
  pub causes : FailsAs before after (r ≡ reply.StoreFault)
  pub is_open : r ≢ reply.NoTxn

-- the page of a piece is read
pub record PieceReads {D : Type 0} {g : _} (told : DiskTold) (shown : D → DiskShown) (store : StoreTold)
    (before after : StoreShown) (old new : Client D g) (txn : ℕ) (piece : Piece) (bytes more : List ℕ)
    (result : Result (Unit {0}) Reply) : Type 0 where
  pub replied : Reply
  pub page : PageReads told shown store before after old new txn piece.page replied
  pub ends : PieceEnds piece replied bytes more result

-- the pages of these pieces came, and these are their bytes
pub record PiecesRead {D : Type 0} {g : _} (told : DiskTold) (shown : D → DiskShown) (store : StoreTold)
    (before after : StoreShown) (old new : Client D g) (txn : ℕ) (pieces : List Piece) (bytes : List ℕ) : Type 0 where
  pub exchanges : List Exchange
  pub talk : TalksAlone told shown store before after old new exchanges
  pub pages : List Page
  pub come : PagesCome txn pieces exchanges pages
  pub are : bytes ≡ range_bytes pieces pages
  pub only : OnlyCached old new
  pub later : before.faults ≤ after.faults

-- the first pages of a range came, and then one did not, or memory was missing
pub record PiecesRefused {D : Type 0} {g : _} (told : DiskTold) (shown : D → DiskShown) (store : StoreTold)
    (before after : StoreShown) (old new : Client D g) (txn : ℕ) (span : Span) (r : Reply) : Type 0 where
  pub exchanges : List Exchange
  pub talk : TalksAlone told shown store before after old new exchanges
  pub why : PageRefused span txn exchanges r ⊎ BytesRefused span txn exchanges r
  pub only : OnlyCached old new
  pub causes : FailsAs before after (r ≡ reply.StoreFault)

abbrev pub PiecesTried : {D : Type 0} {g : _} → DiskTold → (D → DiskShown) → StoreTold → StoreShown → StoreShown
    → Client D g → Client D g → ℕ → Span → List ℕ → Result (Unit {0}) Reply → Type 0
PiecesTried told shown store before after old new txn span bytes (Ok done) =
    PiecesRead told shown store before after old new txn (pieces_of span) bytes
PiecesTried told shown store before after old new txn span bytes (Err r) =
    PiecesRefused told shown store before after old new txn span r
