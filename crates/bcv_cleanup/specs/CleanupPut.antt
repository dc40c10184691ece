-- The manifest's put of a cleanup.
use Rattle.std.specs.Prelude.{◌≡◌, ℕ, Bool, true, false, List, [], ◌++◌, MatchOption}
use Rattle.bcv_base.specs.declared.id.Id16.{Id16}
use Rattle.bcv_base.specs.declared.log.Entry.{Entry}
use Rattle.bcv_base.specs.declared.manifest.Dead.{Dead}
use Rattle.bcv_base.specs.declared.manifest.Manifest.{Manifest}
use Rattle.bcv_base.specs.declared.seen.Latest.{Latest}
use Rattle.bcv_base.specs.Edits as edits
use Rattle.bcv_base.specs.History.{history_of}
use Rattle.bcv_base.specs.Ids.{has_id}
use Rattle.bcv_dbmap.specs.Applied.{edit_of}
use Rattle.bcv_dbmap.specs.Deletions.{CleanedAll, cleaned}
use Rattle.bcv_dbmap.specs.Kept.{IsKept}
use Rattle.bcv_dbmap.specs.Past.{has_version}
use Rattle.bcv_publish.specs.declared.work.PutEnd.{PutEnd}
use Rattle.bcv_publish.specs.declared.work.PutEnd.TheVariants as put
use Rattle.bcv_publish.specs.ManifestPut as publishing
use Rattle.bcv_publish.specs.State as publish
use Rattle.bcv_cleanup.specs.CleanupWork.{HasTaken}
use Rattle.bcv_cleanup.specs.Released.{has_more, ids_of}
use Rattle.bcv_cleanup.specs.State.{State, IsTask, new_cleanup, taken_ids}

-- ---- a put

abbrev pub is_published : PutEnd → Bool
is_published (put.Published n) = true
is_published _ = false

-- the cleanup with its publication after a put that ended so
abbrev pub behind_put : State → publish.State → PutEnd → State
behind_put s p end = record s { publish = p; published = is_published end }

-- whatever the store: the publication's put of the sweep, and nothing else of the cleanup has changed
abbrev pub PutLeaves : ℕ → State → Latest → PutEnd → State → Type 0
PutLeaves moment old read result new =
    (p : publish.State) × publishing.PutLeaves old.edit moment old.publish read result p × (new ≡ behind_put old p result)

-- ---- what is published

-- the publication may come after a log: what was read is there, its id is a fresh one of mine, and what it sweeps was
-- deleted
pub record MayPut (mine : List Id16) (log : List Entry) (s : State) (read : Latest) : Type 0 where
  pub kept : IsKept log read
  pub writer : has_id s.publish.writer mine ≡ true
  pub id : has_id s.publish.id mine ≡ true
  pub fresh : has_version (history_of log) s.publish.id ≡ false
  pub taken : HasTaken log s

-- a cleanup publishes the sweep of the machine
abbrev pub SweepIsTheEdit : Type 0
SweepIsTheEdit = (log : List Entry) (s : State) → IsTask s → edit_of (history_of log) s.edit ≡ edits.Sweep

-- a new cleanup has taken nothing, in any log
abbrev pub NewHasTaken : Type 0
NewHasTaken = (log : List Entry) (writer id : Id16) → HasTaken log (new_cleanup writer id)

-- what a cleanup has taken stays so, whatever is appended
abbrev pub TakenStays : Type 0
TakenStays = (log more : List Entry) (s : State) → HasTaken log s → HasTaken (log ++ more) s

-- ---- complete cleanups

-- of this manifest a cleanup took all that it may, by a test
abbrev pub TookAll : (Dead → Bool) → Manifest → State → Type 0
TookAll released first s = taken_ids s ≡ ids_of (cleaned released first.dead)

-- it says of this manifest whether it has a further entry that the test releases
abbrev pub SaysMore : (Dead → Bool) → Manifest → State → Type 0
SaysMore released read s = s.more ≡ has_more released (taken_ids s) read.dead

-- at its publication the cleanup is complete
abbrev pub IsComplete : (Dead → Bool) → Manifest → PutEnd → State → Type 0
IsComplete released first (put.Published n) s =
    MatchOption s.publish.latest ⊥ (λ l. CleanedAll released first l.manifest (cleaned released first.dead) s.more)
IsComplete released first _ s = Unit {0}

-- where it took all of the manifest that was read first, and says what the one that was read last has besides, it is
-- complete
abbrev pub CleansAll : State → Latest → PutEnd → State → Type 0
CleansAll old read result new =
    (released : Dead → Bool) (first : Manifest) → TookAll released first old → SaysMore released read.manifest old
    → IsComplete released first result new

-- where the first manifest had nothing to take, the cleanup is complete without a publication
abbrev pub NothingIsComplete : Type 0
NothingIsComplete =
    (released : Dead → Bool) (read : Manifest) → [] ≡ ids_of (cleaned released read.dead) → CleanedAll released read read [] false
