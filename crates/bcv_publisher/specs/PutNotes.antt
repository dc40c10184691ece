-- What a step of a publication at its put notes, what a crash at any moment of it leaves, and the client after it.
use Rattle.std.specs.Prelude.{◌≡◌, ℕ, false, List, length, MatchOption}
use Rattle.bcv_base.specs.declared.id.Id16.{Id16}
use Rattle.bcv_base.specs.declared.log.Entry.{Entry}
use Rattle.bcv_base.specs.declared.seen.Seen.{Seen}
use Rattle.bcv_base.specs.History.{history_of}
use Rattle.bcv_base.specs.Image.{Writes}
use Rattle.bcv_cache.specs.Entry as cache
use Rattle.bcv_dbmap.specs.Honest.{GrewHonestly}
use Rattle.bcv_dbmap.specs.Kept.{IsKept}
use Rattle.bcv_disk.specs.DiskShown.{DiskShown, DiskTold}
use Rattle.bcv_model.specs.declared.kept.Kept.{Kept}
use Rattle.bcv_model.specs.declared.note.Note.{Note}
use Rattle.bcv_model.specs.declared.reply.Reply.{Reply}
use Rattle.bcv_model.specs.declared.reply.Reply.TheVariants as reply
use Rattle.bcv_model.specs.NoteRules.{Folds}
use Rattle.bcv_store.specs.StoreShown.{StoreShown, StoreTold}
use Rattle.bcv_tasks.specs.declared.publish_task.PublishTask.{PublishTask}
use Rattle.bcv_tasks.specs.State.{latest_of, pending_of, publish_of}
use Rattle.bcv_clientstate.specs.Fits.{Fits, FitsJob, FitsSeen}
use Rattle.bcv_clientstate.specs.PartRefusals.{runs_publication}
use Rattle.bcv_clientstate.specs.Parts.{Parts, with_ledger}
use Rattle.bcv_clientstate.specs.Stages.{IsStagedJob}
use Rattle.bcv_ledger.specs.declared.ledger.Ledger.{Ledger}
use Rattle.bcv_ledger.specs.LedgerNotes.{parts_in}
use Rattle.bcv_publication.specs.TaskSides.{job_of}
use Rattle.bcv_publisher.specs.NotesFit.{FoldsFit}
use Rattle.bcv_publisher.specs.PutStep.{MayPutManifest}
use Rattle.bcv_publisher.specs.StepNotes.{LeavesNotes, NotesPublication}
use Rattle.bcv_publisher.specs.WorkStep.{seen_before}

-- ---- the client afterwards

-- a task that goes on fits, is at a stage, and what it read before refused puts lies in the log
abbrev pub FitsOn : List Id16 → Id16 → Kept → List Entry → List Writes → Reply → PublishTask → Type 0
FitsOn mine writer k log view (reply.Working left) u =
    FitsJob mine writer k log (job_of view u) × IsStagedJob (job_of view u)
    × FitsSeen (history_of log) (seen_before (publish_of u))
FitsOn mine writer k log view _ u = Unit {0}

-- what was published is in the log, with its etag
abbrev pub PublishedIsKept : List Entry → Reply → PublishTask → Type 0
PublishedIsKept log (reply.Done n) u = MatchOption (latest_of u) ⊥ (IsKept log)
PublishedIsKept log (reply.Cleaned deleted more) u = MatchOption (latest_of u) ⊥ (IsKept log)
PublishedIsKept log _ u = Unit {0}

-- the client without the task fits the log, a task that goes on fits, what was published is there, what was noted could stand, and
-- whichever of it a crash leaves fits
pub record FitsAfter {D : Type 0} {g : _} (mine : List Id16) (old new : Ledger D g) (log : List Entry) (p : Parts)
    (entries : List cache.Entry) (view : List Writes) (notes : List Note) (r : Reply) (u : PublishTask) : Type 0 where
  pub fits : Fits (with_ledger (parts_in new) p) entries log
  pub job : FitsOn mine p.id new.databases.kept log view r u
  pub published : PublishedIsKept log r u
  pub may : (end : Kept) × Folds old.databases.kept notes end
  pub left : FoldsFit log p.id old.databases.kept notes

-- so it is for each client that stands over a log which others grow honestly, while no other task of it publishes
abbrev pub PutKeepsFit : {D : Type 0} {g : _} → StoreTold → StoreShown → StoreShown → Ledger D g → Ledger D g → Seen → ℕ
    → PublishTask → List Note → Reply → PublishTask → Type 0
PutKeepsFit store before after old new seen taken t notes r u =
    (p : Parts) (entries : List cache.Entry) (n : ℕ) (view : List Writes) (mine : List Id16)
    → pending_of (length view) t ≡ pending_of taken t
    → MayPutManifest mine before.log (with_ledger (parts_in old) p) entries n view seen t → runs_publication p ≡ false
    → GrewHonestly store.alone mine before.log after.log
    → FitsAfter mine old new after.log p entries view notes r u

-- ---- the whole

-- what a step at a task's put notes: its intent, where nothing is pending, and what became of it, where that is known
pub record PutNotes {D : Type 0} {g : _} (told : DiskTold) (shown : D → DiskShown) (store : StoreTold) (before after : StoreShown)
    (old new : Ledger D g) (seen : Seen) (taken : ℕ) (t : PublishTask) (r : Reply) (u : PublishTask) : Type 0 where
  pub notes : List Note
  pub noted : NotesPublication old.databases.kept.pending (pending_of taken t) notes
  pub any_moment : told.tells → (end : Kept) → Folds old.databases.kept notes end
      → LeavesNotes shown old.log new.log old.databases.kept notes
  pub client : store.tells → PutKeepsFit store before after old new seen taken t notes r u
