-- What a task has put stays its own: under what others append, and once its publication has another manifest.
use Rattle.std.proofs.Common.{◌≡◌, Bool, List, refl}
use Rattle.bcv_base.specs.declared.id.Id16.{Id16}
use Rattle.bcv_base.specs.declared.log.Entry.{Entry}
use Rattle.bcv_base.specs.Image.{Writes}
use Rattle.bcv_cleanup.proofs.Taken.{taken_stays}
use Rattle.bcv_dbcopy.proofs.Owned as copying
use Rattle.bcv_publish.specs.State as publish
use Rattle.bcv_tasks.specs.declared.publish_task.PublishTask.{PublishTask}
use Rattle.bcv_tasks.specs.declared.publish_task.PublishTask.TheVariants as task
use Rattle.bcv_tasks.specs.State.{Owns, latest_of, names_of, with_publish}
use Rattle.bcv_tasks.specs.TaskPut.{OwnedStays}
use Rattle.bcv_upload.proofs.Owned as uploading

pub owned_stays : OwnedStays
owned_stays mine log others view (task.Create c) sound lawful has = tt
owned_stays mine log others view (task.Copy id s) sound lawful has = copying.blocks_stay_others mine log others s sound lawful has
owned_stays mine log others view (task.Upload id s) sound lawful has = uploading.blocks_stay_others mine log others view s sound lawful has
owned_stays mine log others view (task.Cleanup id s) sound lawful has = taken_stays log others s has

-- what is owned is not the publication's
pub owns_with : (mine : List Id16) (log : List Entry) (view : List Writes) (t : PublishTask) (p : publish.State) (b : Bool)
    → Owns mine log view t → Owns mine log view (with_publish t p b)
owns_with mine log view (task.Create c) p b has = tt
owns_with mine log view (task.Copy id s) p b has = has
owns_with mine log view (task.Upload id s) p b has = record { listed = has.listed; blocks = has.blocks; fetched = has.fetched }
owns_with mine log view (task.Cleanup id s) p b has = record { expired = has.expired; deleted = has.deleted }

pub names_with : (t : PublishTask) (p : publish.State) (b : Bool) → names_of (with_publish t p b) ≡ names_of t
names_with (task.Create c) p b = refl
names_with (task.Copy id s) p b = refl
names_with (task.Upload id s) p b = refl
names_with (task.Cleanup id s) p b = refl

pub latest_with : (t : PublishTask) (p : publish.State) (b : Bool) → latest_of (with_publish t p b) ≡ p.latest
latest_with (task.Create c) p b = refl
latest_with (task.Copy id s) p b = refl
latest_with (task.Upload id s) p b = refl
latest_with (task.Cleanup id s) p b = refl
