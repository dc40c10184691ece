-- Each step after which an upload or a cleanup goes on leaves it at such a stage.
use Rattle.std.specs.Prelude.{◌≡◌, ℕ, Bool, true, List, Some}
use Rattle.bcv_base.specs.declared.id.Id16.{Id16}
use Rattle.bcv_base.specs.declared.seen.Latest.{Latest}
use Rattle.bcv_base.specs.declared.seen.Seen.{Seen}
use Rattle.bcv_base.specs.declared.seen.TxnBase.{TxnBase}
use Rattle.bcv_cleanup.specs.CleanupPut as sweeping
use Rattle.bcv_cleanup.specs.CleanupWork as cleaning
use Rattle.bcv_cleanup.specs.State as cleanup
use Rattle.bcv_publish.specs.declared.work.PutEnd.TheVariants as put
use Rattle.bcv_publish.specs.declared.work.Work.TheVariants as work
use Rattle.bcv_publish.specs.State as publish
use Rattle.bcv_upload.specs.State as upload
use Rattle.bcv_upload.specs.UploadPut as putting
use Rattle.bcv_upload.specs.UploadWork as uploading
use Rattle.bcv_clientstate.specs.Stages.{IsStaged, IsSwept}

-- a new task
abbrev pub NewIsStaged : Type 0
NewIsStaged = (base : TxnBase) (size : ℕ) (touched : List ℕ) (writer id : Id16) → IsStaged (upload.new_upload base size touched writer id) × IsSwept (cleanup.new_cleanup writer id)

-- an upload's work that goes on
abbrev pub UploadStaysStaged : Type 0
UploadStaysStaged = (s t : upload.State) (fetch : Bool) (seen : Seen) → uploading.WorkLeaves s.publish.latest fetch seen s work.More t → IsStaged t

-- a cleanup's get that kept a manifest
abbrev pub ReadingIsSwept : Type 0
ReadingIsSwept =
    (s t : cleanup.State) (p : publish.State) (l : Latest) (at : ℕ) (ids : List Id16) (more : Bool)
    → p.latest ≡ Some l → t ≡ cleaning.with_taken s p at ids more → IsSwept t

-- a deletion
abbrev pub DeletionStaysSwept : Type 0
DeletionStaysSwept = (s t : cleanup.State) (l : Latest) → s.publish.latest ≡ Some l → cleaning.DeleteLeaves s work.More t → IsSwept t

-- a put that is refused, which all else comes before
abbrev pub RefusedIsStaged : Type 0
RefusedIsStaged =
    (moment : ℕ) (s t : upload.State) (read : Latest) → upload.is_ready s ≡ true → s.publish.latest ≡ Some read → putting.PutLeaves moment s read put.Refused t → IsStaged t

abbrev pub RefusedIsSwept : Type 0
RefusedIsSwept =
    (moment : ℕ) (s t : cleanup.State) (read : Latest) → cleanup.IsRunning s → s.publish.latest ≡ Some read → sweeping.PutLeaves moment s read put.Refused t → IsSwept t
