-- A client of which one part was replaced, or to whose log others have appended, still fits.
use Rattle.std.specs.Prelude.{◌≡◌, ℕ, true, false, List, [], ◌++◌, Option, Some, IfSome}
use Rattle.std.specs.List.{AllByRecursion}
use Rattle.bcv_base.specs.declared.id.Id16.{Id16}
use Rattle.bcv_base.specs.declared.log.Entry.{Entry}
use Rattle.bcv_base.specs.declared.seen.Latest.{Latest}
use Rattle.bcv_base.specs.declared.seen.Seen.{Seen}
use Rattle.bcv_base.specs.History.{history_of}
use Rattle.bcv_base.specs.Ids.{IsId, has_id}
use Rattle.bcv_base.specs.Image.{Writes}
use Rattle.bcv_cache.specs.Entry as cache
use Rattle.bcv_databases.specs.declared.known.Known.{Known}
use Rattle.bcv_dbmap.specs.Growth.{AreLawful}
use Rattle.bcv_dbmap.specs.Kept.{IsKept}
use Rattle.bcv_dbmap.specs.Sound.{IsSoundLog}
use Rattle.bcv_model.specs.declared.kept.Kept.{Kept}
use Rattle.bcv_model.specs.declared.note.Note as bytes
use Rattle.bcv_model.specs.declared.note.Note.TheVariants as note
use Rattle.bcv_model.specs.NoteRules.{MayStand}
use Rattle.bcv_model.specs.Notes.{after_note}
use Rattle.bcv_clientstate.specs.PartRefusals.{runs_publication}
use Rattle.bcv_clientstate.specs.BaseLaws.{FitsLocal}
use Rattle.bcv_clientstate.specs.Fits.{Fits, FitsEntry, FitsJob, FitsPending, FitsSeen, FitsTask, FitsTxn, TakesFrom}
use Rattle.bcv_clientstate.specs.KeptLaws.{IsOrdered}
use Rattle.bcv_clientstate.specs.KnownLaws.{AreKnown}
use Rattle.bcv_clientstate.specs.Parts.{OpenTxn, Job, Task, Parts, mine_of, names_of_job}
use Rattle.bcv_clientstate.specs.Stages.{IsStagedTask}
use Rattle.bcv_clientstate.specs.UpSides.{risen_parts}
use Rattle.bcv_clientlaws.specs.Different.{with_txns}
use Rattle.bcv_clientlaws.specs.TaskLists.{task_at, with_ended_txn, with_task, with_tasks, without_task}

-- ---- what others append

-- each of these names is mine
abbrev pub Includes : List Id16 → List Id16 → Type 0
Includes mine names = (i : Id16) → has_id i names ≡ true → has_id i mine ≡ true

-- others keep away from the client's names, and maybe from more
abbrev pub OthersLeaveFits : Type 0
OthersLeaveFits =
    (mine : List Id16) (log others : List Entry) (p : Parts) (entries : List cache.Entry) → IsSoundLog log
    → Includes mine (mine_of p)
    → AreLawful mine (history_of log) others → Fits p entries log → Fits p entries (log ++ others)

-- ---- tasks

-- of the names that are mine a task asks for the client's and its own alone
abbrev pub NamesSuffice : Type 0
NamesSuffice =
    (mine more : List Id16) (writer : Id16) (k : Kept) (log : List Entry) (j : Job)
    → FitsJob mine writer k log j
    → has_id writer more ≡ true → Includes more (names_of_job j) → FitsJob more writer k log j

-- other tasks, which fit
abbrev pub TasksFit : Type 0
TasksFit =
    (mine : List Id16) (log : List Entry) (p : Parts) (entries : List cache.Entry) (ts : List Task)
    → Fits p entries log
    → AllByRecursion (FitsTask mine p.id p.kept log) ts → AllByRecursion IsStagedTask ts
    → Fits (with_tasks ts p) entries log

-- one more, which fits
abbrev pub TaskFitsLast : Type 0
TaskFitsLast =
    (mine : List Id16) (log : List Entry) (p : Parts) (entries : List cache.Entry) (t : Task)
    → Fits p entries log
    → FitsTask mine p.id p.kept log t → IsStagedTask t → Fits (with_task t p) entries log

-- one less
abbrev pub FitsWithoutTask : Type 0
FitsWithoutTask =
    (log : List Entry) (p : Parts) (entries : List cache.Entry) (n : ℕ) → Fits p entries log
    → Fits (without_task n p) entries log

-- the task of a number fits
pub record IsTaskOf (log : List Entry) (p : Parts) (t : Task) : Type 0 where
  pub fits : FitsTask (mine_of p) p.id p.kept log t
  pub staged : IsStagedTask t

abbrev pub FoundTaskFits : Type 0
FoundTaskFits =
    (log : List Entry) (p : Parts) (entries : List cache.Entry) (n : ℕ) (t : Task) → Fits p entries log
    → task_at n p ≡ Some t → IsTaskOf log p t

-- ---- transactions and the cache

abbrev pub TxnsFit : Type 0
TxnsFit =
    (log : List Entry) (p : Parts) (entries : List cache.Entry) (ts : List OpenTxn) → Fits p entries log
    → AllByRecursion (FitsTxn (history_of log)) ts
    → Fits (with_txns ts p) entries log

-- one that ends takes its tasks along
abbrev pub FitsWithEndedTxn : Type 0
FitsWithEndedTxn =
    (log : List Entry) (p : Parts) (entries : List cache.Entry) (n : ℕ) → Fits p entries log → Fits (with_ended_txn n p) entries log

abbrev pub EntriesFit : Type 0
EntriesFit =
    (log : List Entry) (p : Parts) (entries cached : List cache.Entry) → Fits p entries log
    → AllByRecursion (FitsEntry (history_of log)) cached → Fits p cached log

-- ---- what was read last

abbrev pub with_latest : Option Latest → Seen → Parts → Parts
with_latest l seen p = record p { latest = l; seen = seen }

abbrev pub LatestFits : Type 0
LatestFits =
    (log : List Entry) (p : Parts) (entries : List cache.Entry) (l : Option Latest) (seen : Seen)
    → Fits p entries log → IfSome l (IsKept log)
    → FitsSeen (history_of log) seen → Fits (with_latest l seen p) entries log

-- ---- what is kept and known

abbrev pub with_kept : Kept → List Known → Parts → Parts
with_kept k known p = record p { kept = k; known = known }

-- what is kept and known fits a log by itself
pub record FitsKept (log : List Entry) (id : Id16) (k : Kept) (known : List Known) : Type 0 where
  pub named : k.me ≡ Some id
  pub ordered : IsOrdered k
  pub locals : AllByRecursion (FitsLocal (history_of log)) k.locals
  pub are_known : AreKnown (history_of log) k known
  pub pending : IfSome k.pending (FitsPending (history_of log) id)

-- what an upload could be taken from, it still can be
abbrev pub KeepsTaken : Kept → Kept → Type 0
KeepsTaken old new =
    (name : List ℕ) (number : ℕ) (view : List Writes) → TakesFrom old name number view
    → TakesFrom new name number view

abbrev pub KeptFits : Type 0
KeptFits =
    (log : List Entry) (p : Parts) (entries : List cache.Entry) (k : Kept) (known : List Known)
    → Fits p entries log → FitsKept log p.id k known
    → KeepsTaken p.kept k → Fits (with_kept k known p) entries log

-- while no task publishes, no upload takes any
abbrev pub KeptFitsQuietly : Type 0
KeptFitsQuietly =
    (log : List Entry) (p : Parts) (entries : List cache.Entry) (k : Kept) (known : List Known)
    → Fits p entries log → FitsKept log p.id k known
    → runs_publication p ≡ false → Fits (with_kept k known p) entries log

-- the note ends no publication and reverts nothing
abbrev pub LeavesCommits : bytes.Note → Type 0
LeavesCommits (note.Me id) = Unit {0}
LeavesCommits (note.First entry number block commit) = Unit {0}
LeavesCommits (note.Committed db commit) = Unit {0}
LeavesCommits (note.Intent p) = Unit {0}
LeavesCommits (note.Done id number) = ⊥
LeavesCommits (note.Void id) = Unit {0}
LeavesCommits (note.Revert db) = ⊥

abbrev pub NotesKeepTaken : Type 0
NotesKeepTaken =
    (k : Kept) (x : bytes.Note) → IsOrdered k → MayStand k x → LeavesCommits x → KeepsTaken k (after_note k x)

-- a client that has just come up
abbrev pub RisenFits : Type 0
RisenFits =
    (log : List Entry) (id : Id16) (left : Kept) (seen : Seen) → IsId id → FitsKept log id left [] → FitsSeen (history_of log) seen
    → Fits (risen_parts id left seen) [] log

-- whether the journal is closed does not count
abbrev pub ShutFits : Type 0
ShutFits =
    (log : List Entry) (p : Parts) (entries : List cache.Entry) → Fits p entries log
    → Fits (record p { closed = true }) entries log
