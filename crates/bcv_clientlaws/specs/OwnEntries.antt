-- What a client appends to the log itself: a block, a deletion of its cleanup, or a publication. It fits the log afterwards.
use Rattle.std.specs.Prelude.{◌≡◌, ℕ, Bool, false, List, ◌++◌, Option, Some, None, IfSome}
use Rattle.std.specs.List.{AllByRecursion}
use Rattle.bcv_base.specs.declared.id.Id16.{Id16}
use Rattle.bcv_base.specs.declared.log.Entry.{Entry}
use Rattle.bcv_base.specs.declared.log.Entry.TheVariants as entry
use Rattle.bcv_base.specs.declared.manifest.Manifest.{Manifest}
use Rattle.bcv_base.specs.declared.object.ObjName.TheVariants as object
use Rattle.bcv_base.specs.declared.outcome.Outcome.{Outcome}
use Rattle.bcv_base.specs.declared.seen.Latest.{Latest}
use Rattle.bcv_base.specs.declared.seen.Seen.{Seen}
use Rattle.bcv_base.specs.Image.{Writes}
use Rattle.bcv_cache.specs.Entry as cache
use Rattle.bcv_cleanup.specs.CleanupPut as sweeping
use Rattle.bcv_cleanup.specs.CleanupWork as cleaning
use Rattle.bcv_cleanup.specs.State as cleanup
use Rattle.bcv_dbcopy.specs.State as copy
use Rattle.bcv_dbcopy.specs.TaskPut as copies
use Rattle.bcv_dbcopy.specs.TaskWork as copying
use Rattle.bcv_dbmap.specs.declared.plan.EditPlan.{EditPlan}
use Rattle.bcv_dbmap.specs.declared.plan.EditPlan.TheVariants as edit
use Rattle.bcv_dbmap.specs.Applied.{applied, first_manifest}
use Rattle.bcv_dbmap.specs.Kept.{IsKept}
use Rattle.bcv_model.specs.declared.kept.Kept.{Kept}
use Rattle.bcv_model.specs.declared.kept.PendingPub.{PendingPub}
use Rattle.bcv_model.specs.declared.kept.Uploading as concrete
use Rattle.bcv_publish.specs.declared.work.PutEnd.TheVariants as put
use Rattle.bcv_publish.specs.declared.work.Work.{Work}
use Rattle.bcv_publish.specs.declared.work.Work.TheVariants as work
use Rattle.bcv_publish.specs.ManifestAppend.{IsAppended}
use Rattle.bcv_publish.specs.ManifestGet.{SoundGetEnds}
use Rattle.bcv_publish.specs.State as publish
use Rattle.bcv_upload.specs.State as upload
use Rattle.bcv_upload.specs.UploadPut as putting
use Rattle.bcv_upload.specs.UploadWork as uploading
use Rattle.bcv_clientstate.specs.Fits.{Fits, FitsJob, FitsTask}
use Rattle.bcv_clientstate.specs.PartRefusals.{runs_publication}
use Rattle.bcv_clientstate.specs.Parts.{Copying, Uploading, Cleaning, Task, Parts}
use Rattle.bcv_clientstate.specs.Stages.{IsStagedTask}
use Rattle.bcv_clientlaws.specs.TaskLists.{with_task}

-- ---- blocks

-- the entry puts a block or deletes one
abbrev pub IsOfBlock : Entry → Type 0
IsOfBlock (entry.Put own object.Manifest bytes etag) = ⊥
IsOfBlock (entry.Put own (object.Block i) bytes etag) = Unit {0}
IsOfBlock (entry.Deleted own object.Manifest at) = ⊥
IsOfBlock (entry.Deleted own (object.Block i) at) = Unit {0}

abbrev pub AreOfBlocks : List Entry → Type 0
AreOfBlocks own = AllByRecursion IsOfBlock own

-- a client without the task that publishes fits a log with such entries more
abbrev pub BlocksLeaveFits : Type 0
BlocksLeaveFits =
    (log own : List Entry) (p : Parts) (entries : List cache.Entry) → Fits p entries log
    → runs_publication p ≡ false → AreOfBlocks own → Fits p entries (log ++ own)

-- and with the task as it goes on, where that fits
abbrev pub TaskGoesOnFits : Type 0
TaskGoesOnFits =
    (mine : List Id16) (log own : List Entry) (p : Parts) (entries : List cache.Entry) (t : Task)
    → Fits p entries log
    → runs_publication p ≡ false → AreOfBlocks own → FitsTask mine p.id p.kept (log ++ own) t → IsStagedTask t
    → Fits (with_task t p) entries (log ++ own)

-- ---- publications

-- what an intent says of an upload is what the edit publishes under the id, over blocks of a size
abbrev pub IsIntended : Id16 → ℕ → EditPlan → Option concrete.Uploading → Type 0
IsIntended id block plan None = Unit {0}
IsIntended id block (edit.Upload from e) (Some u) = (u.entry ≡ record e { tag = id }) × (u.block ≡ block)
IsIntended id block _ (Some u) = ⊥

-- the pending publication is made, and the client fits the log with it
abbrev pub PublicationFits : Type 0
PublicationFits =
    (log own : List Entry) (p : Parts) (entries : List cache.Entry) (x : PendingPub) (old : Manifest)
    (plan : EditPlan) (moment etag : ℕ)
    → Fits p entries log → runs_publication p ≡ false → p.kept.pending ≡ Some x
    → IsIntended x.id old.block plan x.upload
    → IsAppended own (applied old plan x.id p.id moment) etag → Fits p entries (log ++ own)

-- so is a container
abbrev pub CreateFits : Type 0
CreateFits =
    (log own : List Entry) (p : Parts) (entries : List cache.Entry) (x : PendingPub)
    (block retention moment etag : ℕ)
    → Fits p entries log → runs_publication p ≡ false → p.kept.pending ≡ Some x → x.upload ≡ None
    → IsAppended own (first_manifest block retention x.id p.id moment) etag → Fits p entries (log ++ own)

-- ---- a task's work

-- the manifest that a publication keeps is in the log, under the same writer and id
pub record GoesOnAs (after : List Entry) (p q : publish.State) : Type 0 where
  pub writer : q.writer ≡ p.writer
  pub id : q.id ≡ p.id
  pub read : IfSome q.latest (IsKept after)

-- a task goes on and fits, where its publication goes on and it owns its blocks
abbrev pub CopyFits : Type 0
CopyFits =
    (mine : List Id16) (writer : Id16) (k : Kept) (log own : List Entry) (s t : copy.State)
    → FitsJob mine writer k log (Copying s) → AreOfBlocks own
    → copy.IsRunning t → GoesOnAs (log ++ own) s.publish t.publish → copying.OwnsBlocks mine (log ++ own) t
    → FitsJob mine writer k (log ++ own) (Copying t)

abbrev pub UploadFits : Type 0
UploadFits =
    (mine : List Id16) (writer : Id16) (k : Kept) (log own : List Entry) (s t : upload.State)
    (view : List Writes) → FitsJob mine writer k log (Uploading s view)
    → AreOfBlocks own → upload.IsRunning t → GoesOnAs (log ++ own) s.publish t.publish → t.base ≡ s.base
    → t.size ≡ s.size → t.touched ≡ s.touched
    → uploading.OwnsBlocks mine (log ++ own) view t → FitsJob mine writer k (log ++ own) (Uploading t view)

abbrev pub CleanupFits : Type 0
CleanupFits =
    (mine : List Id16) (writer : Id16) (k : Kept) (log own : List Entry) (s t : cleanup.State)
    → FitsJob mine writer k log (Cleaning s) → AreOfBlocks own
    → cleanup.IsRunning t → GoesOnAs (log ++ own) s.publish t.publish → cleaning.HasTaken (log ++ own) t
    → FitsJob mine writer k (log ++ own) (Cleaning t)

-- what a step appends is of blocks, and its publication goes on
pub record IsOwnWork (own after : List Entry) (p q : publish.State) : Type 0 where
  pub blocks : AreOfBlocks own
  pub goes_on : GoesOnAs after p q

abbrev pub CopyWorks : Type 0
CopyWorks =
    (o : Outcome) (before after own : List Entry) (ids : List Id16) (seen : Seen) (s t : copy.State)
    → IfSome s.publish.latest (IsKept after)
    → copying.WorkLeaves s.publish.latest seen s work.More t
    → copying.SoundWorkEnds o before after own ids s.publish.latest seen s work.More t
    → IsOwnWork own after s.publish t.publish

-- what an upload is of stays
pub record IsSameUpload (s t : upload.State) : Type 0 where
  pub base : t.base ≡ s.base
  pub size : t.size ≡ s.size
  pub touched : t.touched ≡ s.touched

abbrev pub UploadWorks : Type 0
UploadWorks =
    (o : Outcome) (before after own : List Entry) (ids : List Id16) (fetch : Bool) (seen : Seen) (text : List ℕ)
    (s t : upload.State)
    → IfSome s.publish.latest (IsKept after) → uploading.WorkLeaves s.publish.latest fetch seen s work.More t
    → uploading.SoundWorkEnds o before after own ids s.publish.latest fetch seen text s work.More t
    → IsOwnWork own after s.publish t.publish × IsSameUpload s t

-- a cleanup's get, and its deletion of a block
abbrev pub CleanupReadsOn : Type 0
CleanupReadsOn =
    (o : Outcome) (after : List Entry) (seen : Seen) (s t : cleanup.State)
    → SoundGetEnds o after seen s.edit s.publish work.More t.publish
    → GoesOnAs after s.publish t.publish

abbrev pub CleanupDeletes : Type 0
CleanupDeletes =
    (o : Outcome) (after own : List Entry) (i : Id16) (at : ℕ) (s t : cleanup.State)
    → IfSome s.publish.latest (IsKept after)
    → cleaning.DeleteLeaves s work.More t → cleaning.SoundDeleteEnds o own i at work.More
    → IsOwnWork own after s.publish t.publish

-- whatever a step before the put answers, what it appends is of blocks
abbrev pub CopyAppends : Type 0
CopyAppends =
    (o : Outcome) (before after own : List Entry) (ids : List Id16) (seen : Seen) (s t : copy.State)
    (result : Work)
    → copying.SoundWorkEnds o before after own ids s.publish.latest seen s result t → AreOfBlocks own

abbrev pub UploadAppends : Type 0
UploadAppends =
    (o : Outcome) (before after own : List Entry) (ids : List Id16) (fetch : Bool) (seen : Seen) (text : List ℕ)
    (s t : upload.State) (result : Work)
    → uploading.SoundWorkEnds o before after own ids s.publish.latest fetch seen text s result t
    → AreOfBlocks own

abbrev pub CleanupAppends : Type 0
CleanupAppends =
    (o : Outcome) (after own : List Entry) (seen : Seen) (s t : cleanup.State) (result : Work)
    → cleaning.SoundWorkEnds o after own s.publish.latest seen s result t → AreOfBlocks own

-- ---- a put that is refused, after which a task goes on

abbrev pub CopyIsRefused : Type 0
CopyIsRefused =
    (mine : List Id16) (writer : Id16) (k : Kept) (log : List Entry) (moment : ℕ) (s t : copy.State)
    (read : Latest) → FitsJob mine writer k log (Copying s)
    → copies.PutLeaves moment s read put.Refused t → copy.IsRunning t → FitsJob mine writer k log (Copying t)

abbrev pub UploadIsRefused : Type 0
UploadIsRefused =
    (mine : List Id16) (writer : Id16) (k : Kept) (log : List Entry) (moment : ℕ) (s t : upload.State)
    (view : List Writes) (read : Latest)
    → FitsJob mine writer k log (Uploading s view) → putting.PutLeaves moment s read put.Refused t
    → upload.IsRunning t → FitsJob mine writer k log (Uploading t view)

abbrev pub CleanupIsRefused : Type 0
CleanupIsRefused =
    (mine : List Id16) (writer : Id16) (k : Kept) (log : List Entry) (moment : ℕ) (s t : cleanup.State)
    (read : Latest) → FitsJob mine writer k log (Cleaning s)
    → sweeping.PutLeaves moment s read put.Refused t → cleanup.IsRunning t
    → FitsJob mine writer k log (Cleaning t)
