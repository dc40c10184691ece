-- Where a publication stands while it keeps no manifest: nothing was begun yet, or all is done but for the manifest's get and put.
use Rattle.std.specs.Prelude.{◌≡◌, ◌≤◌, ℕ, List, [], ◌∷◌, length, None}
use Rattle.bcv_cleanup.specs.State as cleanup
use Rattle.bcv_upload.specs.State as upload
use Rattle.bcv_clientstate.specs.Parts.{Job, Fetching, Polling, Creating, Copying, Uploading, Cleaning, Resolving, Task}

-- after puts of these refusals: before the first get no block was put, and after a refused put all were
abbrev pub IsStageOf : List ℕ → upload.State → Type 0
IsStageOf [] s = (s.ids ≡ []) × (s.fetched ≡ None)
IsStageOf (n ∷ ns) s = upload.left_of s ≡ 2

-- before the first get the clock was not read and nothing was taken, and after a refused put some entries were
abbrev pub IsSweptOf : List ℕ → cleanup.State → Type 0
IsSweptOf [] s = (s.moment ≡ None) × (cleanup.taken_ids s ≡ [])
IsSweptOf (n ∷ ns) s = 1 ≤ length (cleanup.taken_ids s)

abbrev pub IsStaged : upload.State → Type 0
IsStaged s = s.publish.latest ≡ None → IsStageOf s.publish.refused s

abbrev pub IsSwept : cleanup.State → Type 0
IsSwept s = s.publish.latest ≡ None → IsSweptOf s.publish.refused s

-- of a task, where nothing else says so
abbrev pub IsStagedJob : Job → Type 0
IsStagedJob (Fetching access txn page) = Unit {0}
IsStagedJob Polling = Unit {0}
IsStagedJob (Creating block retention id) = Unit {0}
IsStagedJob (Copying s) = Unit {0}
IsStagedJob (Uploading s view) = IsStaged s
IsStagedJob (Cleaning s) = IsSwept s
IsStagedJob Resolving = Unit {0}

abbrev pub IsStagedTask : Task → Type 0
IsStagedTask t = IsStagedJob t.job
