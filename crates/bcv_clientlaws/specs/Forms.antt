-- The databases that a client knows have one block size, and their entries meet the rules for it.
use Rattle.std.specs.Prelude.{◌≡◌, ◌≤◌, ℕ, true, List, [], ◌∷◌, Some, IfSome}
use Rattle.std.specs.List.{AllByRecursion}
use Rattle.bcv_base.specs.declared.id.Id16.{Id16}
use Rattle.bcv_base.specs.declared.log.Entry.{Entry}
use Rattle.bcv_base.specs.declared.manifest.DbEntry.{DbEntry}
use Rattle.bcv_base.specs.declared.manifest.Manifest.{Manifest}
use Rattle.bcv_base.specs.History.{Item, history_of, last_of}
use Rattle.bcv_base.specs.Keyed.{keyed}
use Rattle.bcv_base.specs.ManifestRules.{MeetsEntryRules, MeetsRules, blocks_needed, is_block_size}
use Rattle.bcv_base.specs.SizeLimits.{most_blocks}
use Rattle.bcv_cache.specs.Entry as cache
use Rattle.bcv_databases.specs.Catalog.{known_name}
use Rattle.bcv_databases.specs.Sound.{CanEnd}
use Rattle.bcv_databases.specs.declared.known.Known.{Known}
use Rattle.bcv_dbmap.specs.Sound.{Sound, IsSoundLog}
use Rattle.bcv_model.specs.declared.ask.Commit.{Commit}
use Rattle.bcv_model.specs.declared.kept.Kept.{Kept}
use Rattle.bcv_model.specs.declared.kept.Local.{Local}
use Rattle.bcv_model.specs.declared.kept.PendingPub.{PendingPub}
use Rattle.bcv_model.specs.declared.kept.Uploading.{Uploading}
use Rattle.bcv_model.specs.declared.note.Note as bytes
use Rattle.bcv_model.specs.declared.note.Note.TheVariants as note
use Rattle.bcv_model.specs.NoteRules.{Folds}
use Rattle.bcv_model.specs.Notes.{after_note, kept_name, nothing_kept}
use Rattle.bcv_clientstate.specs.BaseLaws.{FitsLocal}
use Rattle.bcv_clientstate.specs.Fits.{Fits}
use Rattle.bcv_clientstate.specs.KnownLaws.{known_of}
use Rattle.bcv_clientstate.specs.LocalSides.{committed, reverted}
use Rattle.bcv_clientstate.specs.Parts.{Parts}
use Rattle.bcv_clientstate.specs.SeenContainer.{HasBase, block_in}
use Rattle.bcv_clientlaws.specs.Resolves.{resolved_at}

-- ---- in form

-- blocks of a database have this size, for which its entry meets the rules
abbrev pub IsInForm : ℕ → ℕ → DbEntry → Type 0
IsInForm block own entry = (own ≡ block) × MeetsEntryRules block entry

-- a database with blocks and pages of these sizes needs no more blocks after the commit than there may be
abbrev pub NeedsFewBlocks : ℕ → ℕ → Commit → Type 0
NeedsFewBlocks block page_size c = blocks_needed block page_size c.size ≤ most_blocks

abbrev pub CommitsInForm : ℕ → Local → Type 0
CommitsInForm block l = AllByRecursion (NeedsFewBlocks block l.entry.page_size) l.commits

abbrev pub LocalInForm : ℕ → Local → Type 0
LocalInForm block l = IsInForm block l.block l.entry × CommitsInForm block l

abbrev pub KnownInForm : ℕ → Known → Type 0
KnownInForm block x = IsInForm block x.block x.entry

abbrev pub UploadInForm : ℕ → Uploading → Type 0
UploadInForm block u = IsInForm block u.block u.entry

abbrev pub PendingInForm : ℕ → PendingPub → Type 0
PendingInForm block p = IfSome p.upload (UploadInForm block)

-- all databases with commits, all without, and what is being uploaded
pub record AreInForm (block : ℕ) (k : Kept) (others : List Known) : Type 0 where
  pub locals : AllByRecursion (LocalInForm block) k.locals
  pub known : AllByRecursion (KnownInForm block) others
  pub pending : IfSome k.pending (PendingInForm block)

-- each one that is found
abbrev pub FoundInForm : Type 0
FoundInForm =
    (block : ℕ) (k : Kept) (others : List Known) (db : List ℕ) (l : Local) → AreInForm block k others
    → keyed kept_name db k.locals ≡ Some l → LocalInForm block l

abbrev pub FoundKnownInForm : Type 0
FoundKnownInForm =
    (block : ℕ) (k : Kept) (others : List Known) (db : List ℕ) (x : Known) → AreInForm block k others
    → keyed known_name db others ≡ Some x → KnownInForm block x

-- ---- what keeps them so

-- what a note brings where this is kept is in form
abbrev pub NoteInForm : ℕ → Kept → bytes.Note → Type 0
NoteInForm block k (note.Me id) = Unit {0}
NoteInForm block k (note.First entry number own commit) =
    IsInForm block own entry × NeedsFewBlocks block entry.page_size commit
NoteInForm block k (note.Committed db commit) =
    IfSome (keyed kept_name db k.locals) (λ (l : Local). NeedsFewBlocks block l.entry.page_size commit)
NoteInForm block k (note.Intent p) = PendingInForm block p
NoteInForm block k (note.Done id number) = CanEnd k.locals k.pending
NoteInForm block k (note.Void id) = Unit {0}
NoteInForm block k (note.Revert db) = Unit {0}

abbrev pub NotesKeepForm : Type 0
NotesKeepForm =
    (block : ℕ) (k : Kept) (others : List Known) (x : bytes.Note) → AreInForm block k others
    → NoteInForm block k x → AreInForm block (after_note k x) others

-- a manifest of the block size that was read
abbrev pub ReadsKeepForm : Type 0
ReadsKeepForm =
    (block : ℕ) (k : Kept) (others : List Known) (m : Manifest) → AreInForm block k others → MeetsRules m
    → m.block ≡ block → AreInForm block k (known_of k m)

abbrev pub CommitsKeepForm : Type 0
CommitsKeepForm =
    (block : ℕ) (db : List ℕ) (x : bytes.Note) (p : Parts) → AreInForm block p.kept p.known → NoteInForm block p.kept x
    → AreInForm block (committed db x p).kept (committed db x p).known

abbrev pub RevertsKeepForm : Type 0
RevertsKeepForm =
    (block : ℕ) (db : List ℕ) (l : Local) (p : Parts) → AreInForm block p.kept p.known
    → keyed kept_name db p.kept.locals ≡ Some l
    → AreInForm block (reverted l (note.Revert db) p).kept (reverted l (note.Revert db) p).known

-- a publication that was made, whose manifest is known
abbrev pub EndsKeepForm : Type 0
EndsKeepForm =
    (block n : ℕ) (id : Id16) (k : Kept) (others : List Known) (m : Manifest) → AreInForm block k others
    → CanEnd k.locals k.pending → MeetsRules m → m.block ≡ block
    → AreInForm block (after_note k (note.Done id n)) (known_of (after_note k (note.Done id n)) m)

abbrev pub ResolvesKeepForm : Type 0
ResolvesKeepForm =
    (block n : ℕ) (id : Id16) (p : Parts) → AreInForm block p.kept p.known → CanEnd p.kept.locals p.kept.pending
    → AreInForm block (resolved_at n id p).kept (resolved_at n id p).known

-- ---- a client that comes up

-- what the notes of its log come to is in form, over some block size
pub record FormOf (k : Kept) : Type 0 where
  pub block : ℕ
  pub is_block : is_block_size block ≡ true
  pub are : AreInForm block k []

abbrev pub FoldsAreInForm : Type 0
FoldsAreInForm = (notes : List bytes.Note) (k : Kept) → Folds nothing_kept notes k → FormOf k

-- a base is in form over the container's block size
abbrev pub BasesAreInForm : Type 0
BasesAreInForm =
    (past : List Item) (number block : ℕ) (e : DbEntry) → Sound past → HasBase past number block e
    → IsInForm (block_in (last_of past)) block e

-- so is a client that fits a log, where its commits and what is being uploaded are
abbrev pub FitsAreInForm : Type 0
FitsAreInForm =
    (log : List Entry) (p : Parts) (entries : List cache.Entry) → IsSoundLog log → Fits p entries log
    → AllByRecursion (CommitsInForm (block_in (last_of (history_of log)))) p.kept.locals
    → IfSome p.kept.pending (PendingInForm (block_in (last_of (history_of log))))
    → AreInForm (block_in (last_of (history_of log))) p.kept p.known

-- some databases have commits
abbrev pub SomeLocals : List Local → Type 0
SomeLocals [] = ⊥
SomeLocals (l ∷ ls) = Unit {0}

-- where some have, their block size is the container's
abbrev pub FormIsContainers : Type 0
FormIsContainers =
    (past : List Item) (block : ℕ) (k : Kept) (others : List Known) → Sound past
    → AllByRecursion (FitsLocal past) k.locals → AreInForm block k others
    → SomeLocals k.locals → block ≡ block_in (last_of past)
