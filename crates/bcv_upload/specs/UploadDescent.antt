-- What each step lowers, so that an upload ends.
use Rattle.std.specs.Prelude.{◌≡◌, ◌<◌, ◌+◌, ◌-◌, ◌⊎◌, ℕ, Bool, true, false, length, Some, is_some, if◌then◌else◌}
use Rattle.bcv_base.specs.declared.seen.Latest.{Latest}
use Rattle.bcv_base.specs.declared.seen.Seen.{Seen}
use Rattle.bcv_publish.specs.declared.work.PutEnd.TheVariants as put
use Rattle.bcv_publish.specs.declared.work.Work.TheVariants as work
use Rattle.bcv_upload.specs.State.{State, IsTask, is_ready, left_of, manifest_requests}
use Rattle.bcv_upload.specs.UploadPut.{PutLeaves}
use Rattle.bcv_upload.specs.UploadWork.{WorkLeaves}

-- how many puts may still be refused
abbrev pub refusals_of : State → ℕ
refusals_of s = 8 - length s.publish.refused

-- the manifest's requests that are left
abbrev pub requests_of : State → ℕ
requests_of s = manifest_requests s.publish.latest

-- one state lies below another: by the refusals to come, then by the manifest's requests, then by all that are left
abbrev pub IsBelow : State → State → Type 0
IsBelow new old =
    (refusals_of new < refusals_of old)
    ⊎ ((refusals_of new ≡ refusals_of old)
    × ((requests_of new < requests_of old) ⊎ ((requests_of new ≡ requests_of old) × (left_of new < left_of old))))

-- by how much a step lowers the requests that are left: by two where it puts a block for which no get was made
abbrev pub lowered_by : Bool → State → ℕ
lowered_by fetch s = if fetch then 1 else (if is_some s.fetched then 1 else 2)

-- a step of work that goes on lowers the state
abbrev pub WorkFalls : Type 0
WorkFalls =
    (fetch : Bool) (seen : Seen) (old new : State) → IsTask old → old.published ≡ false → is_ready old ≡ false
    → WorkLeaves old.publish.latest fetch seen old work.More new → IsBelow new old

-- the get of old bytes lowers the requests that are left by one, and so does the put after it; a put with none by two
abbrev pub LeftFalls : Type 0
LeftFalls =
    (l : Latest) (fetch : Bool) (seen : Seen) (old new : State) → IsTask old → old.published ≡ false
    → is_ready old ≡ false → old.publish.latest ≡ Some l → WorkLeaves (Some l) fetch seen old work.More new
    → left_of old ≡ left_of new + lowered_by fetch old

-- a put that is refused lowers the state, and two requests are left then: no block is put again
abbrev pub PutFalls : Type 0
PutFalls =
    (moment : ℕ) (old new : State) (read : Latest) → IsTask old → is_ready old ≡ true → old.publish.latest ≡ Some read
    → PutLeaves moment old read put.Refused new → IsBelow new old × (left_of new ≡ 2)
