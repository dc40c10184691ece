-- A step of each kind of task is a task's step.
use Rattle.std.proofs.Common.{refl, sym}
use Rattle.bcv_cleanup.specs.Released.{RuleAnswers}
use Rattle.bcv_store.specs.StoreShown.{StoreTold}
use Rattle.bcv_tasks.specs.KindsWork.{CleanupWorksAsTask, CopyWorksAsTask, UploadWorksAsTask}
use Rattle.bcv_tasks.proofs.WorkLaws.{cleanup_id, cleanup_leaves, cleanup_works, copy_id, copy_leaves, copy_works, upload_id, upload_leaves, upload_works}
use Rattle.bcv_upload.specs.UploadWork.{is_fetch}

module _ (answers : RuleAnswers) (store : StoreTold) where
  pub copy_works_as_task : CopyWorksAsTask answers store
  copy_works_as_task old new names later clock seen view c id s t result left works = record {
    leaves = copy_leaves answers seen view c id s t result left;
    kind = (works, refl);
    works = copy_works store old new names later clock seen view c id s t result left works;
    same_publication = sym (copy_id seen s.publish.id s t result refl left);
  }

  pub upload_works_as_task : UploadWorksAsTask answers store
  upload_works_as_task old new names later clock seen view c id s t result left works = record {
    leaves = upload_leaves answers seen view c id s t result left;
    kind = (works, refl);
    works = upload_works store old new names later clock seen view c id s t result left works;
    same_publication = sym (upload_id seen (is_fetch view c s) s.publish.id s t result refl left);
  }

  pub cleanup_works_as_task : CleanupWorksAsTask answers store
  cleanup_works_as_task old new names clock after seen view c id s t result left works = record {
    leaves = cleanup_leaves answers seen view c id s t result left;
    kind = (works, refl);
    works = cleanup_works answers store old new names clock after seen view c id s t result left works;
    same_publication = sym (cleanup_id answers seen s.publish.id s t result refl left);
  }
