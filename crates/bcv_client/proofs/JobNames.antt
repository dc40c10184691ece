-- A job that fits a log by the names that are mine has no others.
use Rattle.std.proofs.Common.{◌≡◌, ℕ, suc, List, [], ◌∷◌, Option, None, Some, MatchOption, refl, sym, subst}
use Rattle.bcv_base.specs.declared.id.Id16.{Id16}
use Rattle.bcv_base.specs.declared.log.Entry.{Entry}
use Rattle.bcv_base.specs.declared.seen.TxnBase.{TxnBase}
use Rattle.bcv_base.specs.History.{Item, history_of}
use Rattle.bcv_base.specs.Ids.{IsId}
use Rattle.bcv_base.specs.Image.{Page, Writes}
use Rattle.bcv_clientlaws.specs.OtherParts.{Includes}
use Rattle.bcv_clientstate.specs.Fits.{FitsJob}
use Rattle.bcv_clientstate.specs.Parts.{Job, names_of_job, Cleaning, Copying, Creating, Fetching, Polling, Resolving, Uploading}
use Rattle.bcv_dbcopy.specs.State as copy
use Rattle.bcv_dbcopy.specs.TaskWork as copying
use Rattle.bcv_dbmap.specs.declared.plan.EditPlan.{EditPlan}
use Rattle.bcv_dbmap.specs.declared.plan.EditPlan.TheVariants as edit
use Rattle.bcv_model.specs.declared.kept.Kept.{Kept}
use Rattle.bcv_publication.specs.TaskSides.{job_of}
use Rattle.bcv_tasks.specs.declared.publish_task.PublishTask.{PublishTask}
use Rattle.bcv_tasks.specs.declared.publish_task.PublishTask.TheVariants as task
use Rattle.bcv_tasks.specs.State.{IsRunning, id_of}
use Rattle.bcv_upload.specs.UploadWork as uploading
use Rattle.bcv_client.proofs.MyNames.{none_mine, one_mine}

module _ (mine : List Id16) (past : List Item) where
  copied_mine : (block page_size : ℕ) (pages : List Page) (n : ℕ) (ids : List Id16) → copying.AreOwnBlocks mine past block page_size pages n ids → Includes mine ids
  copied_mine block page_size pages n [] are = none_mine mine
  copied_mine block page_size pages n (i ∷ is) are = one_mine mine i is are.0.is_mine (copied_mine block page_size pages (suc n) is are.2)

  uploaded_mine : (base : TxnBase) (view : List Writes) (ids : List Id16) (ns : List ℕ) → uploading.AreOwnBlocks mine past base view ids ns → Includes mine ids
  uploaded_mine base view [] ns are = none_mine mine
  uploaded_mine base view (i ∷ is) [] are = absurd are
  uploaded_mine base view (i ∷ is) (n ∷ ns) are = one_mine mine i is are.0.is_mine (uploaded_mine base view is ns are.2)

  -- before the block size is known nothing was put
  put_mine : (pages : List Page) (e : EditPlan) (block : Option ℕ) → copying.HasBlocks mine past pages e block → (block ≡ None → copy.put_ids e ≡ []) → Includes mine (copy.put_ids e)
  put_mine pages (edit.New e) (Some block) has fresh = copied_mine block e.page_size pages 0 e.blocks has
  put_mine pages (edit.New e) None has fresh = subst (Includes mine) (sym (fresh refl)) (none_mine mine)
  put_mine pages (edit.Upload from e) block has fresh = none_mine mine
  put_mine pages (edit.Copy from to) block has fresh = none_mine mine
  put_mine pages (edit.Remove name) block has fresh = none_mine mine
  put_mine pages (edit.Sweep ids) block has fresh = none_mine mine

fresh_ids : (s : copy.State) (block : Option ℕ) → MatchOption block (copy.IsFresh s) (copy.IsUnderWay s) → block ≡ None → copy.put_ids s.edit ≡ []
fresh_ids s None stage none = stage.ids
fresh_ids s (Some b) stage none = absurd (cc (none))

pub job_names_are_mine : (mine : List Id16) (writer : Id16) (k : Kept) (log : List Entry) (j : Job) → FitsJob mine writer k log j → Includes mine (names_of_job j)
job_names_are_mine mine writer k log (Fetching access txn page) fits = none_mine mine
job_names_are_mine mine writer k log Polling fits = none_mine mine
job_names_are_mine mine writer k log (Creating block retention id) fits = one_mine mine id [] fits.2 (none_mine mine)
job_names_are_mine mine writer k log (Copying s) fits =
    one_mine mine s.publish.id (copy.put_ids s.edit) fits.1.is_mine
    (put_mine mine (history_of log) s.pages s.edit s.block fits.2 (fresh_ids s s.block (fits.0.task.stage fits.0.waits)))
job_names_are_mine mine writer k log (Uploading s view) fits =
    one_mine mine s.publish.id s.ids fits.1.is_mine (uploaded_mine mine (history_of log) s.base view s.ids s.touched fits.2.blocks)
job_names_are_mine mine writer k log (Cleaning s) fits = one_mine mine s.publish.id [] fits.1.is_mine (none_mine mine)
job_names_are_mine mine writer k log Resolving fits = none_mine mine

-- the id of a task that fits is one
pub fitting_id : (mine : List Id16) (writer : Id16) (k : Kept) (log : List Entry) (view : List Writes) (t : PublishTask) → IsRunning t → FitsJob mine writer k log (job_of view t) → IsId (id_of t)
fitting_id mine writer k log view (task.Create c) running fits = fits.1
fitting_id mine writer k log view (task.Copy id s) running fits = subst IsId (sym running.0) fits.1.is_id
fitting_id mine writer k log view (task.Upload id s) running fits = subst IsId (sym running.0) fits.1.is_id
fitting_id mine writer k log view (task.Cleanup id s) running fits = subst IsId (sym running.0) fits.1.is_id
