-- The manifest's get of a publication.
use Rattle.std.specs.Prelude.{◌≡◌, ◌≢◌, ◌≤◌, ℕ, List, [], ◌++◌, Option, Some, None, Result, Ok, Err}
use Rattle.bcv_base.specs.declared.id.Id16.{Id16}
use Rattle.bcv_base.specs.declared.log.Entry.{Entry}
use Rattle.bcv_base.specs.declared.manifest.Manifest.{Manifest}
use Rattle.bcv_base.specs.declared.object.ObjName.TheVariants as object
use Rattle.bcv_base.specs.declared.outcome.Outcome.{Outcome}
use Rattle.bcv_base.specs.declared.outcome.Outcome.TheVariants as outcome
use Rattle.bcv_base.specs.declared.seen.Latest.{Latest}
use Rattle.bcv_base.specs.declared.seen.Seen.{Seen}
use Rattle.bcv_base.specs.Faults.{Rose}
use Rattle.bcv_base.specs.History.{history_of, last_of}
use Rattle.bcv_base.specs.Log.{Object, object_of}
use Rattle.bcv_base.specs.ManifestGrammar.{manifest_of}
use Rattle.bcv_base.specs.ManifestRules.{MeetsRules, MeetsLimits}
use Rattle.bcv_dbmap.specs.declared.fault.EditFault.{EditFault}
use Rattle.bcv_dbmap.specs.declared.plan.EditPlan.{EditPlan}
use Rattle.bcv_dbmap.specs.Checked.{checked}
use Rattle.bcv_dbmap.specs.Kept.{IsKept}
use Rattle.bcv_dbmap.specs.RequestGrowth.{RequestGrowth}
use Rattle.bcv_store.specs.Plans.{next_of, AreOthers}
use Rattle.bcv_store.specs.StoreShown.{StoreTold, StoreShown}
use Rattle.bcv_publish.specs.declared.unread.Unread.{Unread}
use Rattle.bcv_publish.specs.declared.unread.Unread.TheVariants as unread
use Rattle.bcv_publish.specs.declared.work.Work.{Work}
use Rattle.bcv_publish.specs.declared.work.Work.TheVariants as work
use Rattle.bcv_publish.specs.ManifestRead.{unlike, accepted}
use Rattle.bcv_publish.specs.Request.{OverSoundLog, TakesOutcome}
use Rattle.bcv_publish.specs.State.{State, with_latest}

-- ---- whatever the store

-- a manifest that is kept meets the rules and passes, and after any other answer nothing has changed
abbrev pub GetLeaves : Seen → EditPlan → State → Work → State → Type 0
GetLeaves seen plan p work.More q =
    (l : Latest) × MeetsRules l.manifest × MeetsLimits l.manifest × (unlike p seen l.manifest ≡ None) × (checked l.manifest plan p.writer ≡ None) × (q ≡ with_latest p l)
GetLeaves seen plan p (work.Fault f) q = q ≡ p
GetLeaves seen plan p work.NoContainer q = q ≡ p
GetLeaves seen plan p (work.BadManifest at) q = q ≡ p
GetLeaves seen plan p work.StoreFault q = q ≡ p
GetLeaves seen plan p work.NoMemory q = q ≡ p
GetLeaves seen plan p _ q = ⊥

-- ---- over any log that is told

-- over a manifest that is accepted: the first fault of the edit, or the task goes on with it
abbrev pub Checks : EditPlan → State → Latest → Work → State → Type 0
Checks plan p l work.More q = (checked l.manifest plan p.writer ≡ None) × (q ≡ with_latest p l)
Checks plan p l (work.Fault f) q = (checked l.manifest plan p.writer ≡ Some f) × (q ≡ p)
Checks plan p l _ q = ⊥

-- over the object of the manifest that is there, whatever the log
abbrev pub GetEnds : Outcome → Option Object → Seen → EditPlan → State → Work → State → Type 0
GetEnds o x seen plan p work.NoContainer q = (o ≡ outcome.Ok) × (x ≡ None) × (q ≡ p)
GetEnds o x seen plan p (work.BadManifest at) q =
    (there : Object) × (o ≡ outcome.Ok) × (x ≡ Some there) × (accepted p seen (manifest_of there.bytes) ≡ Err at) × (q ≡ p)
GetEnds o x seen plan p work.StoreFault q = (o ≢ outcome.Ok) × (q ≡ p)
GetEnds o x seen plan p work.NoMemory q = q ≡ p
GetEnds o x seen plan p result q =
    (there : Object) × (m : Manifest) × (o ≡ outcome.Ok) × (x ≡ Some there) × (accepted p seen (manifest_of there.bytes) ≡ Ok m)
    × Checks plan p (record { manifest = m; etag = there.etag }) result q

-- a get of a store that tells its log
pub record ManifestGetTold (store : StoreTold) (old new : StoreShown) (seen : Seen) (plan : EditPlan) (p : State) (result : Work) (q : State) : Type 0 where
  pub others : List Entry
  pub by_others : AreOthers store.alone others
  pub grown : new.log ≡ old.log ++ others
  pub outcome : Outcome
  pub next : store.plans → outcome ≡ next_of old.plan
  pub ends : GetEnds outcome (object_of object.Manifest new.log) seen plan p result q

-- ---- over a sound log

-- what is read of a sound log is its last manifest
abbrev pub SoundGetEnds : Outcome → List Entry → Seen → EditPlan → State → Work → State → Type 0
SoundGetEnds o log seen plan p work.NoContainer q = (o ≡ outcome.Ok) × (last_of (history_of log) ≡ None) × (q ≡ p)
SoundGetEnds o log seen plan p (work.BadManifest at) q =
    (m : Manifest) × (o ≡ outcome.Ok) × (last_of (history_of log) ≡ Some m) × (unlike p seen m ≡ Some at) × (q ≡ p)
SoundGetEnds o log seen plan p work.StoreFault q = (o ≢ outcome.Ok) × (q ≡ p)
SoundGetEnds o log seen plan p work.NoMemory q = q ≡ p
SoundGetEnds o log seen plan p result q =
    (l : Latest) × (o ≡ outcome.Ok) × (last_of (history_of log) ≡ Some l.manifest) × IsKept log l × (unlike p seen l.manifest ≡ None) × Checks plan p l result q

-- a get of a sound log that others grow by lawful entries; it appends none of its own
pub record ManifestGetSound (store : StoreTold) (mine : List Id16) (old new : StoreShown) (seen : Seen) (plan : EditPlan) (p : State) (result : Work) (q : State) : Type 0 where
  pub growth : RequestGrowth store.alone mine old.log new.log
  pub no_own : growth.own ≡ []
  pub outcome : Outcome
  pub next : store.plans → outcome ≡ next_of old.plan
  pub ends : SoundGetEnds outcome new.log seen plan p result q

-- ---- the whole

-- what a get says of the store, and its causes
pub record ManifestGets (store : StoreTold) (old new : StoreShown) (seen : Seen) (plan : EditPlan) (p : State) (result : Work) (q : State) : Type 0 where
  pub told : store.tells → ManifestGetTold store old new seen plan p result q
  pub sound : OverSoundLog store old new (λ mine. ManifestGetSound store mine old new seen plan p result q)
  pub taken : TakesOutcome store old new
  pub later : old.faults ≤ new.faults
  pub failed : result ≡ work.StoreFault → Rose old.faults new.faults

-- ---- the parts of a get, apart from the store

-- what a get answers where no manifest was read
abbrev pub unread_work : Unread → Work
unread_work unread.Missing = work.NoContainer
unread_work (unread.Bad at) = work.BadManifest at
unread_work unread.Failed = work.StoreFault
unread_work unread.NoMemory = work.NoMemory

-- what a get does over a manifest, by the first fault of the edit
abbrev pub Keeps : Option EditFault → Latest → State → Work → State → Type 0
Keeps None l p result q = (result ≡ work.More) × (q ≡ with_latest p l)
Keeps (Some f) l p result q = (result ≡ work.Fault f) × (q ≡ p)
