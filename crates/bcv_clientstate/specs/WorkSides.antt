-- The steps of a publication before its put, in the machine's words: it reads the last manifest, or makes a request for a block.
use Rattle.std.specs.Prelude.{◌≡◌, ℕ, Bool, true, false, List, [], ◌∷◌, Option, Some, None}
use Rattle.bcv_base.specs.declared.id.Id16.{Id16}
use Rattle.bcv_base.specs.declared.manifest.Manifest.{Manifest}
use Rattle.bcv_base.specs.declared.outcome.Outcome.{Outcome}
use Rattle.bcv_base.specs.declared.outcome.Outcome.TheVariants as outcome
use Rattle.bcv_base.specs.declared.seen.Latest.{Latest}
use Rattle.bcv_base.specs.declared.seen.Seen.{Seen}
use Rattle.bcv_base.specs.History.{Item, BlockDeleted, last_of}
use Rattle.bcv_base.specs.Ids.{has_id}
use Rattle.bcv_base.specs.Image.{Writes}
use Rattle.bcv_base.specs.Keyed.{keyed}
use Rattle.bcv_base.specs.ManifestRules.{dead_id}
use Rattle.bcv_cleanup.specs.CleanupWork as cleaning
use Rattle.bcv_cleanup.specs.State as cleanup
use Rattle.bcv_dbcopy.specs.State as copy
use Rattle.bcv_dbcopy.specs.TaskWork as copying
use Rattle.bcv_dbmap.specs.Past.{is_old}
use Rattle.bcv_dbmap.specs.Sound.{Sound}
use Rattle.bcv_dbmap.specs.declared.fault.EditFault.{EditFault}
use Rattle.bcv_machine.specs.ManifestGet.{GetsManifest, IsFound}
use Rattle.bcv_machine.specs.MiddleStep.{GoesOn, IsGone, requested}
use Rattle.bcv_machine.specs.State as m
use Rattle.bcv_machine.specs.State.{with_up}
use Rattle.bcv_model.specs.declared.kept.PendingPub.{PendingPub}
use Rattle.bcv_model.specs.declared.reply.Reply.TheVariants as reply
use Rattle.bcv_publish.specs.declared.work.Work.TheVariants as work
use Rattle.bcv_publish.specs.ManifestGet.{Checks}
use Rattle.bcv_publish.specs.State as publish
use Rattle.bcv_upload.specs.BlockText.{IsViewOf}
use Rattle.bcv_upload.specs.State as upload
use Rattle.bcv_upload.specs.UploadWork as uploading
use Rattle.bcv_clientstate.specs.CheckLaws.{fault_reply}
use Rattle.bcv_clientstate.specs.SeenClient.{seen_cleaning, seen_copying, seen_uploading}
use Rattle.bcv_clientstate.specs.SeenContainer.{HasBase, container_of}
use Rattle.bcv_clientstate.specs.Stages.{IsStaged, IsSwept}

-- a side whose container is that of a log with this manifest as its last one
pub record IsOverLast (moment : ℕ) (past : List Item) (l : Manifest) (x : m.Side) : Type 0 where
  pub sound : Sound past
  pub last : last_of past ≡ Some l
  pub container : x.container ≡ container_of moment past

-- ---- new databases, copies and removals

-- a get over which the edit passes is the machine's get of the manifest
abbrev pub CopyReads : Type 0
CopyReads =
    (moment : ℕ) (past : List Item) (waiting : Option PendingPub) (s : copy.State) (l : Latest) (p : publish.State) (x : m.Side) (u : m.Up)
    → IsOverLast moment past l.manifest x → copy.IsRunning s → s.publish.latest ≡ None → Checks s.edit s.publish l work.More p
    → GetsManifest x u (seen_copying waiting s) outcome.Ok (reply.Working (copy.left_of (copying.with_publish s p))) (with_up x u)
    (Some (seen_copying waiting (copying.with_publish s p)))

-- the put of a block is the machine's next request
abbrev pub CopyGoesOn : Type 0
CopyGoesOn =
    (waiting : Option PendingPub) (s : copy.State) (l : Latest) (i : Id16) (x : m.Side) (u : m.Up)
    → copy.IsRunning s → s.publish.latest ≡ Some l → copy.is_ready s ≡ false
    → GoesOn x u (seen_copying waiting s) outcome.Ok (reply.Working (copy.left_of (copy.with_block s i))) (with_up x u)
    (Some (seen_copying waiting (copy.with_block s i)))

-- ---- uploads

-- an upload of a view of a base
pub record IsUploadOf (past : List Item) (s : upload.State) (view : List Writes) : Type 0 where
  pub running : upload.IsRunning s
  pub base : HasBase past s.base.number s.base.block s.base.entry
  pub of_view : IsViewOf s.base view s.size s.touched
  pub staged : IsStaged s

abbrev pub UploadReads : Type 0
UploadReads =
    (moment : ℕ) (past : List Item) (waiting : Option PendingPub) (s : upload.State) (view : List Writes) (l : Latest) (p : publish.State) (x : m.Side) (u : m.Up)
    → IsOverLast moment past l.manifest x → IsUploadOf past s view → s.publish.latest ≡ None → Checks (upload.asked_plan s) s.publish l work.More p
    → GetsManifest x u (seen_uploading waiting s view) outcome.Ok (reply.Working (upload.left_of (uploading.with_publish s p))) (with_up x u)
    (Some (seen_uploading waiting (uploading.with_publish s p) view))

-- the get of old bytes, and the put of a block, are the machine's next request
abbrev pub UploadGoesOn : Type 0
UploadGoesOn =
    (waiting : Option PendingPub) (s t : upload.State) (view : List Writes) (l : Latest) (fetch : Bool) (seen : Seen) (x : m.Side) (u : m.Up)
    → upload.IsRunning s → s.publish.latest ≡ Some l → upload.is_ready s ≡ false → uploading.WorkLeaves (Some l) fetch seen s work.More t
    → GoesOn x u (seen_uploading waiting s view) outcome.Ok (reply.Working (upload.left_of t)) (with_up x u) (Some (seen_uploading waiting t view))

-- ---- cleanups

-- what is taken of a manifest at a moment: entries that lie the retention back, or just what was taken before
abbrev pub TakesOld : ℕ → Manifest → List Id16 → List Id16 → Type 0
TakesOld at l [] ids = (i : Id16) → has_id i ids ≡ true → is_old (keyed dead_id i.0 l.dead) l.retention at ≡ true
TakesOld at l (b ∷ bs) ids = ids ≡ b ∷ bs

-- a get that took entries at the container's moment, or at the one that was read before, is the machine's get of the manifest
abbrev pub CleanupReads : Type 0
CleanupReads =
    (moment at : ℕ) (past : List Item) (waiting : Option PendingPub) (s t : cleanup.State) (l : Latest) (p : publish.State) (ids : List Id16) (more : Bool) (x : m.Side) (u : m.Up)
    → IsOverLast moment past l.manifest x → cleanup.IsRunning s → cleanup.IsRunning t → s.publish.latest ≡ None → IsSwept s
    → Checks s.edit s.publish l work.More p → TakesOld at l.manifest (cleanup.taken_ids s) ids → t ≡ cleaning.with_taken s p at ids more
    → cleaning.IsMoment s.moment at → (s.moment ≡ None → at ≡ moment)
    → GetsManifest x u (seen_cleaning waiting s) outcome.Ok (reply.Working (cleanup.left_of t)) (with_up x u) (Some (seen_cleaning waiting t))

-- the side over a log with one more deletion
abbrev pub with_deletion : List Item → ℕ → Id16 → ℕ → m.Side → m.Side
with_deletion past moment i at x = record x { container = container_of moment (BlockDeleted i at ∷ past) }

-- the deletion of a block is the machine's next request
abbrev pub CleanupGoesOn : Type 0
CleanupGoesOn =
    (moment at : ℕ) (past : List Item) (waiting : Option PendingPub) (s t : cleanup.State) (i : Id16) (l : Latest) (x : m.Side) (u : m.Up)
    → x.container ≡ container_of moment past → cleanup.IsRunning s → s.publish.latest ≡ Some l → cleanup.is_ready s ≡ false → s.moment ≡ Some at
    → cleaning.DeleteLeaves s work.More t
    → GoesOn x u (seen_cleaning waiting s) outcome.Ok (reply.Working (cleanup.left_of t)) (with_up (with_deletion past moment i at x) u) (Some (seen_cleaning waiting t))

-- ---- what ends a publication whose intent is not noted

-- a get that met a fault of the store
abbrev pub ReadFails : Type 0
ReadFails = (q : m.Publication) (o : Outcome) (x : m.Side) (u : m.Up) → q.intended ≡ false → (o ≡ outcome.Ok → ⊥) → GetsManifest x u q o reply.StoreFault (with_up x u) None

-- a get that found why the edit can't be published
abbrev pub ReadFindsFault : Type 0
ReadFindsFault =
    (q : m.Publication) (f : EditFault) (x : m.Side) (u : m.Up) → q.intended ≡ false → IsFound x.container q (m.last_version x.container) (fault_reply f)
    → GetsManifest x u q outcome.Ok (fault_reply f) (with_up x u) None

-- or that there is no container
abbrev pub ReadFindsNone : Type 0
ReadFindsNone =
    (q : m.Publication) (x : m.Side) (u : m.Up) → q.intended ≡ false → IsFound x.container q (m.last_version x.container) reply.NoContainer
    → GetsManifest x u q outcome.Ok reply.NoContainer (with_up x u) None

-- a request for a block that met a fault of the store
abbrev pub RequestFails : Type 0
RequestFails =
    (q : m.Publication) (o : Outcome) (x : m.Side) (u : m.Up) → q.intended ≡ false → (o ≡ outcome.Ok → ⊥)
    → GoesOn x u q o reply.StoreFault (with_up (requested x q o) u) None

-- the old bytes of a block of an upload are gone
abbrev pub RequestFindsGone : Type 0
RequestFindsGone =
    (q : m.Publication) (x : m.Side) (u : m.Up) → q.intended ≡ false → IsGone x.container q.kind q.left → GoesOn x u q outcome.Ok reply.Gone (with_up (requested x q outcome.Ok) u) None
