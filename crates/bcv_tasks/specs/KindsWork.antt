-- What the step of a task of each kind says of itself makes it the step of a task, whatever it publishes.
use Rattle.std.specs.Prelude.{◌≡◌, List}
use Rattle.bcv_base.specs.declared.id.Id16.{Id16}
use Rattle.bcv_base.specs.declared.seen.Seen.{Seen}
use Rattle.bcv_base.specs.Drawn.{NamesShown}
use Rattle.bcv_base.specs.Image.{Writes}
use Rattle.bcv_base.specs.Moments.{ClockShown}
use Rattle.bcv_cache.specs.Entry.{Blocks}
use Rattle.bcv_cleanup.specs.CleanupWork as cleaning
use Rattle.bcv_cleanup.specs.Released.{RuleAnswers}
use Rattle.bcv_cleanup.specs.State as cleanup
use Rattle.bcv_dbcopy.specs.State as copy
use Rattle.bcv_dbcopy.specs.TaskWork as copying
use Rattle.bcv_publish.specs.declared.work.Work.{Work}
use Rattle.bcv_store.specs.StoreShown.{StoreTold, StoreShown}
use Rattle.bcv_tasks.specs.declared.publish_task.PublishTask.{PublishTask}
use Rattle.bcv_tasks.specs.declared.publish_task.PublishTask.TheVariants as task
use Rattle.bcv_tasks.specs.State.{publish_of}
use Rattle.bcv_tasks.specs.TaskWork.{TaskWorks, WorkLeaves, WorksAs}
use Rattle.bcv_upload.specs.State as upload
use Rattle.bcv_upload.specs.UploadWork as uploading

-- a step of a task: what it leaves, what its kind says of it, and what holds of every kind; its publication keeps its id
pub record KindWorks (answers : RuleAnswers) (store : StoreTold) (old new : StoreShown) (names later : NamesShown)
    (clock after : ClockShown) (seen : Seen) (view : List Writes) (c : Blocks) (t : PublishTask) (result : Work)
    (u : PublishTask) : Type 0 where
  pub leaves : WorkLeaves answers seen view c t result u
  pub kind : WorksAs store old new names later clock after seen view c t result u
  pub works : TaskWorks store old new names later clock after view c t result u
  pub same_publication : (publish_of u).id ≡ (publish_of t).id

-- new databases, copies and removals ask no clock, and look at no view and no cache
abbrev pub CopyWorksAsTask : RuleAnswers → StoreTold → Type 0
CopyWorksAsTask answers store =
    (old new : StoreShown) (names later : NamesShown) (clock : ClockShown) (seen : Seen) (view : List Writes) (c : Blocks)
    (id : Id16) (s t : copy.State) (result : Work) → copying.WorkLeaves s.publish.latest seen s result t
    → copying.TaskWorks store old new names later seen s result t
    → KindWorks answers store old new names later clock clock seen view c (task.Copy id s) result (task.Copy id t)

-- nor do uploads ask a clock
abbrev pub UploadWorksAsTask : RuleAnswers → StoreTold → Type 0
UploadWorksAsTask answers store =
    (old new : StoreShown) (names later : NamesShown) (clock : ClockShown) (seen : Seen) (view : List Writes) (c : Blocks)
    (id : Id16) (s t : upload.State) (result : Work)
    → uploading.WorkLeaves s.publish.latest (uploading.is_fetch view c s) seen s result t
    → uploading.TaskWorks store old new names later seen view c s result t
    → KindWorks answers store old new names later clock clock seen view c (task.Upload id s) result (task.Upload id t)

-- cleanups draw no names
abbrev pub CleanupWorksAsTask : RuleAnswers → StoreTold → Type 0
CleanupWorksAsTask answers store =
    (old new : StoreShown) (names : NamesShown) (clock after : ClockShown) (seen : Seen) (view : List Writes) (c : Blocks)
    (id : Id16) (s t : cleanup.State) (result : Work) → cleaning.WorkLeaves answers s.publish.latest seen s result t
    → cleaning.TaskWorks store old new clock after seen s result t
    → KindWorks answers store old new names names clock after seen view c (task.Cleanup id s) result (task.Cleanup id t)
