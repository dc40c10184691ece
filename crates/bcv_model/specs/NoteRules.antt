-- Where a note may stand, and what a client keeps after all of its notes.
use Rattle.std.specs.Prelude.{◌≡◌, ℕ, ◌+◌, ◌^◌, ◌<◌, ◌≤◌, true, List, [], ◌∷◌, length, Option, Some, None, IsSome, IfSome}
use Rattle.std.specs.List.{AllByRecursion}
use Rattle.bcv_base.specs.declared.id.Id16.{Id16}
use Rattle.bcv_base.specs.declared.manifest.DbEntry.{DbEntry}
use Rattle.bcv_base.specs.Ids.{IsId}
use Rattle.bcv_base.specs.Keyed.{keyed}
use Rattle.bcv_base.specs.ManifestRules.{MeetsEntryRules, is_block_size, blocks_needed}
use Rattle.bcv_base.specs.Names.{is_name}
use Rattle.bcv_base.specs.Views.{is_commit}
use Rattle.bcv_model.specs.declared.ask.Commit.{Commit}
use Rattle.bcv_model.specs.declared.kept.Kept.{Kept}
use Rattle.bcv_model.specs.declared.kept.Local.{Local}
use Rattle.bcv_model.specs.declared.kept.PendingPub.{PendingPub}
use Rattle.bcv_model.specs.declared.kept.Uploading.{Uploading}
use Rattle.bcv_model.specs.declared.note.Note.{Note}
use Rattle.bcv_model.specs.declared.note.Note.TheVariants.{Me, First, Committed, Intent, Done, Void, Revert}
use Rattle.bcv_model.specs.Commits.{writes_of}
use Rattle.bcv_model.specs.Notes.{kept_name, after_note, note_text, note_size}

-- ---- the parts of a note

-- a commit of a database with blocks and pages of these sizes: its pages are of its size, and it needs few blocks
pub record FitsDatabase (block page_size : ℕ) (c : Commit) : Type 0 where
  pub size : c.size < 2 ^ 32
  pub blocks : blocks_needed block page_size c.size ≤ 65536
  pub pages : is_commit page_size (writes_of c) ≡ true

-- a version's number
pub record IsVersionNumber (number : ℕ) : Type 0 where
  pub least : 1 ≤ number
  pub most : number < 2 ^ 64

-- the database has commits, and these are its base and they
abbrev pub IsLocal : Kept → List ℕ → Local → Type 0
IsLocal k db l = keyed kept_name db k.locals ≡ Some l

-- a publication is pending under this id
abbrev pub IsPendingAs : Option PendingPub → Id16 → Type 0
IsPendingAs None id = ⊥
IsPendingAs (Some p) id = p.id ≡ id

-- ---- where a note may stand

-- a database without commits gets its first one, and all databases with commits have one block size
pub record MayBeFirst (k : Kept) (entry : DbEntry) (number block : ℕ) (c : Commit) : Type 0 where
  pub named : IsSome k.me
  pub is_block : is_block_size block ≡ true
  pub is_number : IsVersionNumber number
  pub is_entry : MeetsEntryRules block entry
  pub is_new : keyed kept_name entry.name k.locals ≡ None
  pub alike : AllByRecursion (λ (l : Local). l.block ≡ block) k.locals
  pub fits : FitsDatabase block entry.page_size c

-- a database with commits gets one more
pub record MayBeCommitted (k : Kept) (db : List ℕ) (c : Commit) : Type 0 where
  pub named : IsSome k.me
  pub is_db : is_name db ≡ true
  pub local : Local
  pub is_local : IsLocal k db local
  pub fits : FitsDatabase local.block local.entry.page_size c

-- an upload takes the first commits of a database, at least one, and keeps its block size and page size
pub record MayUpload (k : Kept) (u : Uploading) : Type 0 where
  pub is_block : is_block_size u.block ≡ true
  pub is_entry : MeetsEntryRules u.block u.entry
  pub local : Local
  pub is_local : IsLocal k u.entry.name local
  pub least : 1 ≤ u.count
  pub most : u.count ≤ length local.commits
  pub small : u.count < 2 ^ 64
  pub same_block : u.block ≡ local.block
  pub same_page_size : u.entry.page_size ≡ local.entry.page_size

-- none is pending yet
pub record MayIntend (k : Kept) (p : PendingPub) : Type 0 where
  pub named : IsSome k.me
  pub is_id : IsId p.id
  pub free : k.pending ≡ None
  pub upload : IfSome p.upload (MayUpload k)

-- that id is pending
pub record MayEnd (k : Kept) (id : Id16) : Type 0 where
  pub named : IsSome k.me
  pub is_id : IsId id
  pub waits : IsPendingAs k.pending id

-- a database with commits loses them, while nothing is pending
pub record MayRevert (k : Kept) (db : List ℕ) : Type 0 where
  pub named : IsSome k.me
  pub is_db : is_name db ≡ true
  pub is_local : IsSome (keyed kept_name db k.locals)
  pub free : k.pending ≡ None

-- the note may stand where this is kept
abbrev pub MayStand : Kept → Note → Type 0
MayStand k (Me id) = (k.me ≡ None) × IsId id
MayStand k (First entry number block commit) = MayBeFirst k entry number block commit
MayStand k (Committed db commit) = MayBeCommitted k db commit
MayStand k (Intent p) = MayIntend k p
MayStand k (Done id number) = MayEnd k id × IsVersionNumber number
MayStand k (Void id) = MayEnd k id
MayStand k (Revert db) = MayRevert k db

-- ---- all notes

-- from what is kept the notes, each of which may stand where it stands, lead to what is kept at the end
abbrev pub Folds : Kept → List Note → Kept → Type 0
Folds k [] end = end ≡ k
Folds k (x ∷ xs) end = MayStand k x × Folds (after_note k x) xs end

-- ---- room in the file

-- a client without a name has room for it and for a publication to begin and end
abbrev pub HasRoomToBegin : Option Id16 → ℕ → Type 0
HasRoomToBegin None tail = tail + 87 ≤ 2 ^ 31
HasRoomToBegin (Some id) tail = Unit {0}

-- a pending publication has room for its end
abbrev pub HasRoomToEnd : Option PendingPub → ℕ → Type 0
HasRoomToEnd None tail = Unit {0}
HasRoomToEnd (Some p) tail = tail + 65 ≤ 2 ^ 31

-- the two rules on the tail of a file of which this is kept
pub record HasRoom (k : Kept) (tail : ℕ) : Type 0 where
  pub begin : HasRoomToBegin k.me tail
  pub end : HasRoomToEnd k.pending tail

-- ---- laws, which the notes' reader proves

-- a note that may stand has so many bytes
abbrev pub SizesAgree : Type 0
SizesAgree = (k : Kept) (x : Note) → MayStand k x → length (note_text x) ≡ note_size x

-- of the notes that may stand where this is kept, no two have the same bytes
abbrev pub TextsDiffer : Type 0
TextsDiffer = (k : Kept) (x y : Note) → MayStand k x → MayStand k y → note_text x ≡ note_text y → x ≡ y
