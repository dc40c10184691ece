-- The read of a range from the reads of its pages.
use Rattle.std.proofs.Common.{◌≡◌, ◌∙◌, ◌≢◌, ◌⊎◌, ◌≤◌, ◌+◌, ℕ, zero, suc, false, List, [], ◌∷◌, ◌++◌, take, drop, length, slice_get, Option, Some, None, Result, Ok, Err, option_map, refl, sym, ap, subst, arith, append_assoc, append-nil, inl, inr}
use Rattle.std.specs.List.{sum_by}
use Rattle.std.proofs.lemmas.List.{take_all}
use Rattle.bcv_base.specs.Faults.{Rose}
use Rattle.bcv_base.specs.Image.{Page}
use Rattle.bcv_disk.specs.DiskShown.{DiskShown, DiskTold}
use Rattle.bcv_model.specs.declared.reply.Reply.{Reply}
use Rattle.bcv_model.specs.declared.reply.Reply.TheVariants as reply
use Rattle.bcv_store.specs.StoreShown.{StoreShown, StoreTold}
use Rattle.bcv_transaction.specs.Open.{txn_at}
use Rattle.bcv_vfs.specs.declared.Piece.{Piece}
use Rattle.bcv_vfs.specs.declared.Span.{Span}
use Rattle.bcv_vfs.specs.Pieces.{bytes_there, pieces_of}
use Rattle.bcv_client.specs.RangeAsks.{BytesRefused, PageAsked, PageRefused, RangeAnswers, is_page, piece_bytes}
use Rattle.bcv_client.specs.RangeParts.{PieceEnds, RangeEnds}
use Rattle.bcv_client.specs.RangeReads.{FailsAs, OnlyCached, PieceReads, PiecesRead, PiecesRefused, PiecesTried, RangeOf, RangeReads, TalksAlone, span_of}
use Rattle.bcv_client.specs.Talk.{Exchange}
use Rattle.bcv_client.specs.Transactions.{opened_as}
use Rattle.bcv_client.specs.declared.byte_ranges.ReadAt.{ReadAt}
use Rattle.bcv_client.specs.declared.byte_ranges.ReadAt.TheVariants as read_at
use Rattle.bcv_client.specs.declared.client.Client.{Client}
use Rattle.bcv_client.proofs.RangePieces.{bytes_more, one_taken, pages_more, parted, range_comes}
use Rattle.bcv_client.proofs.RangeTalks.{alone_join, alone_none}

-- ---- what stays

pub only_none : {D : Type 0} {g : _} (c : Client D g) → OnlyCached c c
only_none c = record { reading = record { id = refl; ledger = refl; seen = refl; latest = refl; taken = refl }; txns = refl; slots = refl; tasks = refl }

pub only_join : {D : Type 0} {g : _} (a b c : Client D g) → OnlyCached a b → OnlyCached b c → OnlyCached a c
only_join a b c one two = record {
  reading = record {
    id = two.reading.id ∙ one.reading.id;
    ledger = two.reading.ledger ∙ one.reading.ledger;
    seen = two.reading.seen ∙ one.reading.seen;
    latest = two.reading.latest ∙ one.reading.latest;
    taken = two.reading.taken ∙ one.reading.taken;
  };
  txns = two.txns ∙ one.txns;
  slots = two.slots ∙ one.slots;
  tasks = two.tasks ∙ one.tasks;
}

-- ---- counts of faults

later_then : (a b c : ℕ) → a ≤ b → b ≤ c → a ≤ c
later_then a b c one two = omega (arith, one, two)

pub rose_later : (a b c : ℕ) → a ≤ b → Rose b c → Rose a c
rose_later a b c one rose = omega (arith, one, rose)

refused_is : (x y : Reply) → read_at.Refused x ≡ read_at.Refused y → x ≡ y
refused_is x y is = cc

-- past the last piece
pub none_at : {A : Type 0} (xs : List A) (i : ℕ) → slice_get xs i ≡ None → length xs ≤ i
none_at [] i none = omega arith
none_at (x ∷ xs) zero none = absurd (let e : Some x ≡ None = none in cc)
none_at (x ∷ xs) (suc i) none = (let rest : length xs ≤ i = none_at xs i none in omega (arith, rest))

-- ---- a piece more

-- a page came, and its bytes were added
page_came : (piece : Piece) (r : Reply) (old new : List ℕ) (done : Unit {0}) → PieceEnds piece r old new (Ok done) → (page : Page) × (r ≡ reply.Page page) × PieceEnds piece (reply.Page page) old new (Ok done)
page_came piece (reply.Page page) old new done ends = (page, refl, ends)
page_came piece _ old new done ends = absurd ends

-- memory was missing for its bytes, or another reply came
page_kept : (piece : Piece) (x r : Reply) (old new : List ℕ) → PieceEnds piece x old new (Err r) → ((page : Page) × (x ≡ reply.Page page) × (r ≡ reply.NoMemory)) ⊎ ((r ≡ x) × (is_page x ≡ false))
page_kept piece (reply.Page page) r old new ends = inl (page, refl, ends)
page_kept piece _ r old new ends = inr ends

pub page_added : (piece : Piece) (r : Reply) (page items : Page) (old new : List ℕ) → r ≡ reply.Page page → items ≡ page → new ≡ old ++ piece_bytes piece items → PieceEnds piece r old new (Ok tt)
page_added piece r page items old new is same added =
    subst (λ (x : Reply). PieceEnds piece x old new (Ok tt)) (sym is) (subst (λ (x : Page). new ≡ old ++ piece_bytes piece x) same added)

pub page_short : (piece : Piece) (r : Reply) (page : Page) (old new : List ℕ) → r ≡ reply.Page page → PieceEnds piece r old new (Err reply.NoMemory)
page_short piece r page old new is = subst (λ (x : Reply). PieceEnds piece x old new (Err reply.NoMemory)) (sym is) refl

-- another reply is handed on
pub not_page : (piece : Piece) (r : Reply) (old new : List ℕ) → ((page : Page) → r ≡ reply.Page page → ⊥) → PieceEnds piece r old new (Err r)
not_page piece (reply.Page page) old new other = absurd (other page refl)
not_page piece _ old new other = (refl, refl)

module _ {D : Type 0} {g : _} (told : DiskTold) (shown : D → DiskShown) (store : StoreTold) where
  pub pieces_none : (before : StoreShown) (old : Client D g) (txn : ℕ) (bytes : List ℕ) → bytes ≡ [] → PiecesRead told shown store before before old old txn [] bytes
  pieces_none before old txn bytes none = record {
    exchanges = [];
    talk = alone_none told shown store before old;
    pages = [];
    come = (refl, refl);
    are = none;
    only = only_none old;
    later = omega arith;
  }

  -- no piece is left
  pub pieces_all : (before after : StoreShown) (old new : Client D g) (txn i : ℕ) (pieces : List Piece) (bytes : List ℕ) → length pieces ≤ i
      → PiecesRead told shown store before after old new txn (take i pieces) bytes → PiecesRead told shown store before after old new txn pieces bytes
  pieces_all before after old new txn i pieces bytes few read = subst (λ (ps : List Piece). PiecesRead told shown store before after old new txn ps bytes) (take_all i pieces few) read

  pub pieces_more : (before between after : StoreShown) (old mid new : Client D g) (txn i : ℕ) (pieces : List Piece) (piece : Piece) (bytes more : List ℕ) (done : Unit {0})
      → slice_get pieces i ≡ Some piece → PiecesRead told shown store before between old mid txn (take i pieces) bytes
      → PieceReads told shown store between after mid new txn piece bytes more (Ok done)
      → PiecesRead told shown store before after old new txn (take (i + 1) pieces) more
  pieces_more before between after old mid new txn i pieces piece bytes more done at so_far reads =
      let came = page_came piece reads.replied bytes more done reads.ends in
      let page : Page = came.0 in
      let got = reads.page in
      let asked : PageAsked txn piece.page got.exchanges (reply.Page page) = subst (λ (x : Reply). PageAsked txn piece.page got.exchanges x) came.1 got.asked in
      subst (λ (ps : List Piece). PiecesRead told shown store before after old new txn ps more) (sym (one_taken pieces i piece at))
      (record {
        exchanges = so_far.exchanges ++ got.exchanges;
        talk = alone_join told shown store before between after old mid new so_far.exchanges got.exchanges so_far.talk got.talk;
        pages = so_far.pages ++ page ∷ [];
        come = pages_more txn (take i pieces) piece so_far.exchanges got.exchanges so_far.pages page so_far.come asked;
        are = came.2 ∙ ap (λ (l : List ℕ). l ++ piece_bytes piece page) so_far.are ∙ sym (bytes_more txn (take i pieces) piece so_far.exchanges so_far.pages page so_far.come);
        only = only_join old mid new so_far.only got.only;
        later = later_then before.faults between.faults after.faults so_far.later got.causes.later;
      })

  pub pieces_refused : (before between after : StoreShown) (old mid new : Client D g) (txn i : ℕ) (span : Span) (piece : Piece) (bytes more : List ℕ) (r : Reply)
      → slice_get (pieces_of span) i ≡ Some piece → txn_at txn old.txns.txns ≢ None → PiecesRead told shown store before between old mid txn (take i (pieces_of span)) bytes
      → PieceReads told shown store between after mid new txn piece bytes more (Err r)
      → PiecesRefused told shown store before after old new txn span r
  pieces_refused before between after old mid new txn i span piece bytes more r at opens so_far reads =
      by (page_kept piece reads.replied r bytes more reads.ends)
    where
      pieces : List Piece
      pieces = pieces_of span

      all : List Exchange
      all = so_far.exchanges ++ reads.page.exchanges

      opens_mid : txn_at txn mid.txns.txns ≢ None
      opens_mid is = opens (subst (λ ts. txn_at txn ts ≡ None) so_far.only.txns is)

      rose : (r ≡ reply.StoreFault → reads.replied ≡ reply.StoreFault) → FailsAs before after (r ≡ reply.StoreFault)
      rose from = record {
        later = later_then before.faults between.faults after.faults so_far.later reads.page.causes.later;
        rose = λ is. rose_later before.faults between.faults after.faults so_far.later (reads.page.causes.rose (from is));
      }

      ends_so : PageRefused span txn all r ⊎ BytesRefused span txn all r → (r ≡ reply.StoreFault → reads.replied ≡ reply.StoreFault) → PiecesRefused told shown store before after old new txn span r
      ends_so why from = record {
        exchanges = all;
        talk = alone_join told shown store before between after old mid new so_far.exchanges reads.page.exchanges so_far.talk reads.page.talk;
        why = why;
        only = only_join old mid new so_far.only reads.page.only;
        causes = rose from;
      }

      by : ((page : Page) × (reads.replied ≡ reply.Page page) × (r ≡ reply.NoMemory)) ⊎ ((r ≡ reads.replied) × (is_page reads.replied ≡ false)) → PiecesRefused told shown store before after old new txn span r
      by (inl (page, came, memory)) =
          let asked : PageAsked txn piece.page reads.page.exchanges (reply.Page page) = subst (λ (x : Reply). PageAsked txn piece.page reads.page.exchanges x) came reads.page.asked in
          ends_so
          (inr (record {
            before = take i pieces ++ piece ∷ [];
            after = drop (suc i) pieces;
            pieces = parted pieces i piece at ∙ sym (append_assoc (take i pieces) (piece ∷ []) (drop (suc i) pieces));
            pages = so_far.pages ++ page ∷ [];
            come = pages_more txn (take i pieces) piece so_far.exchanges reads.page.exchanges so_far.pages page so_far.come asked;
            memory = memory;
          }))
          (λ is. let e : reply.NoMemory ≡ reply.StoreFault = sym memory ∙ is in absurd (cc))
      by (inr (same, other)) =
          ends_so
          (inl (record {
            before = take i pieces;
            piece = piece;
            after = drop (suc i) pieces;
            pieces = parted pieces i piece at;
            came = so_far.exchanges;
            last = reads.page.exchanges;
            exchanges = refl;
            pages = so_far.pages;
            come = so_far.come;
            asked = subst (λ (x : Reply). PageAsked txn piece.page reads.page.exchanges x) (sym same) reads.page.asked;
            refuses = ap is_page same ∙ other;
            is_open = λ is. reads.page.is_open opens_mid (sym same ∙ is);
          }))
          (λ is. sym same ∙ is)

  -- ---- the whole range

  pub range_none : (before : StoreShown) (old : Client D g) (txn off len : ℕ) (into : List ℕ) → None ≡ option_map (λ (x : ℕ × ℕ × ℕ). span_of x off len) (opened_as txn old.txns) → into ≡ []
      → RangeReads told shown store before before old old txn off len into (read_at.Refused reply.NoTxn)
  range_none before old txn off len into none empty = record {
    exchanges = [];
    talk = alone_none told shown store before old;
    answers = subst (λ (x : Option Span). RangeOf x txn [] into (read_at.Refused reply.NoTxn)) none (refl, empty, refl);
    only = only_none old;
    causes = record { later = omega arith; rose = λ is. absurd (let e : read_at.Refused reply.NoTxn ≡ read_at.Refused reply.StoreFault = is in cc) };
  }

  -- the file's span was found
  module _ (before after : StoreShown) (old new : Client D g) (txn off len : ℕ) (span : Span) (bytes into : List ℕ) (found : option_map (λ (x : ℕ × ℕ × ℕ). span_of x off len) (opened_as txn old.txns) ≡ Some span) where
    given : (es : List Exchange) (r : ReadAt) → TalksAlone told shown store before after old new es → RangeAnswers span txn es into r → OnlyCached old new → FailsAs before after (r ≡ read_at.Refused reply.StoreFault)
        → RangeReads told shown store before after old new txn off len into r
    given es r talk answers only causes = record {
      exchanges = es;
      talk = talk;
      answers = subst (λ (o : Option Span). RangeOf o txn es into r) (sym found) answers;
      only = only;
      causes = causes;
    }

    no_fault : (r : ReadAt) → before.faults ≤ after.faults → (r ≡ read_at.Refused reply.StoreFault → ⊥) → FailsAs before after (r ≡ read_at.Refused reply.StoreFault)
    no_fault r later other = record { later = later; rose = λ is. absurd (other is) }

    pub range_ends : (tried : Result (Unit {0}) Reply) (r : ReadAt) → sum_by (λ (p : Piece). p.len) (pieces_of span) ≡ bytes_there span
        → PiecesTried told shown store before after old new txn span bytes tried → RangeEnds span tried bytes into r
        → RangeReads told shown store before after old new txn off len into r
    range_ends (Ok done) read_at.Full sum read ends =
        given read.exchanges read_at.Full read.talk (range_comes span txn read.exchanges read.pages bytes into read.come read.are sum ends.0, ends.1) read.only
        (no_fault read_at.Full read.later (λ is. absurd (cc)))
    range_ends (Ok done) (read_at.Short n) sum read ends =
        given read.exchanges (read_at.Short n) read.talk (range_comes span txn read.exchanges read.pages bytes into read.come read.are sum ends.0, ends.1, ends.2) read.only
        (no_fault (read_at.Short n) read.later (λ is. absurd (cc)))
    range_ends (Ok done) (read_at.Refused x) sum read ends =
        given read.exchanges (read_at.Refused x) read.talk
        (ends.1, inr (record { before = pieces_of span; after = []; pieces = sym (append-nil (pieces_of span)); pages = read.pages; come = read.come; memory = ends.0 })) read.only
        (no_fault (read_at.Refused x) read.later (λ is. let e : read_at.Refused reply.NoMemory ≡ read_at.Refused reply.StoreFault = sym (ap read_at.Refused ends.0) ∙ is in absurd (cc)))
    range_ends (Err y) read_at.Full sum read ends = absurd ends
    range_ends (Err y) (read_at.Short n) sum read ends = absurd ends
    range_ends (Err y) (read_at.Refused x) sum refused ends =
        subst (λ (z : Reply). RangeReads told shown store before after old new txn off len into (read_at.Refused z)) (sym ends.0)
        (given refused.exchanges (read_at.Refused y) refused.talk (ends.1, refused.why) refused.only
        (record { later = refused.causes.later; rose = λ is. refused.causes.rose (refused_is y reply.StoreFault is) }))
