-- The put of a container's first manifest.
use Rattle.std.specs.Prelude.{◌≡◌, ◌≤◌, ℕ, Bool, true, false, List, [], ◌++◌, Option, Some, None, is_none}
use Rattle.bcv_base.specs.declared.id.Id16.{Id16}
use Rattle.bcv_base.specs.declared.log.Entry.{Entry}
use Rattle.bcv_base.specs.declared.manifest.Manifest.{Manifest}
use Rattle.bcv_base.specs.declared.object.ObjName.TheVariants as object
use Rattle.bcv_base.specs.declared.outcome.Outcome.{Outcome}
use Rattle.bcv_base.specs.declared.outcome.Outcome.TheVariants as outcome
use Rattle.bcv_base.specs.Faults.{Rose}
use Rattle.bcv_base.specs.History.{history_of, last_of}
use Rattle.bcv_base.specs.Ids.{has_id}
use Rattle.bcv_base.specs.Log.{object_of}
use Rattle.bcv_dbmap.specs.Past.{has_version}
use Rattle.bcv_dbmap.specs.RequestGrowth.{RequestGrowth}
use Rattle.bcv_store.specs.declared.store.Put.{Put}
use Rattle.bcv_store.specs.declared.store.Put.TheVariants as answer
use Rattle.bcv_store.specs.Plans.{next_of, AreOthers}
use Rattle.bcv_store.specs.StoreShown.{StoreTold, StoreShown}
use Rattle.bcv_publish.specs.declared.created.Created.{Created}
use Rattle.bcv_publish.specs.declared.created.Created.TheVariants as created
use Rattle.bcv_publish.specs.ManifestAppend.{IsPut, AppendFails, IsAppended}
use Rattle.bcv_publish.specs.Request.{OverSoundLog, TakesOutcome, MayTakeOutcome}

-- ---- whatever the store

-- what is handed back is the first manifest
abbrev pub CreateLeaves : Manifest → Created → Type 0
CreateLeaves m (created.Done latest) = latest.manifest ≡ m
CreateLeaves m _ = Unit {0}

-- ---- over any log that is told

-- how the put of a first manifest ends after a log, in which there is no manifest or one
abbrev pub CreateEnds : Outcome → Bool → List Entry → List Entry → Manifest → Created → Type 0
CreateEnds o absent log after m (created.Done latest) = (o ≡ outcome.Ok) × (absent ≡ true) × IsPut log after m latest.etag × (latest.manifest ≡ m)
CreateEnds o absent log after m created.Exists = (o ≡ outcome.Ok) × (absent ≡ false) × (after ≡ log)
CreateEnds o absent log after m created.Unknown = AppendFails o absent log after m
CreateEnds o absent log after m created.NoMemory = after ≡ log

-- a create in a store that tells its log
pub record ManifestCreateTold (store : StoreTold) (old new : StoreShown) (m : Manifest) (result : Created) : Type 0 where
  pub others : List Entry
  pub by_others : AreOthers store.alone others
  pub outcome : Outcome
  pub next : store.plans → outcome ≡ next_of old.plan
  pub ends : CreateEnds outcome (is_none (object_of object.Manifest (old.log ++ others))) (old.log ++ others) new.log m result

-- ---- over a sound log

-- the create may come after a log: its writer is mine, and so is its fresh id
pub record MayCreate (mine : List Id16) (log : List Entry) (writer id : Id16) : Type 0 where
  pub writer_mine : has_id writer mine ≡ true
  pub id_mine : has_id id mine ≡ true
  pub fresh : has_version (history_of log) id ≡ false

-- of a create whose answer was lost: it was appended where there was no manifest, and else nothing was
abbrev pub CreateLost : Option Manifest → List Entry → Manifest → Type 0
CreateLost None own m = (etag : ℕ) × IsAppended own m etag
CreateLost (Some last) own m = own ≡ []

abbrev pub CreateFails : Outcome → Option Manifest → List Entry → Manifest → Type 0
CreateFails outcome.Ok last own m = ⊥
CreateFails outcome.Fail last own m = own ≡ []
CreateFails outcome.Lost last own m = CreateLost last own m

-- how the create ends that comes after this last manifest, or none
abbrev pub SoundCreateEnds : Outcome → Option Manifest → List Entry → Manifest → Created → Type 0
SoundCreateEnds o last own m (created.Done latest) = (o ≡ outcome.Ok) × (last ≡ None) × IsAppended own m latest.etag × (latest.manifest ≡ m)
SoundCreateEnds o last own m created.Exists = (o ≡ outcome.Ok) × (is_none last ≡ false) × (own ≡ [])
SoundCreateEnds o last own m created.Unknown = CreateFails o last own m
SoundCreateEnds o last own m created.NoMemory = own ≡ []

-- a create after a sound log that others grow by lawful entries: the first manifest is appended, or none
pub record ManifestCreateSound (store : StoreTold) (mine : List Id16) (old new : StoreShown) (m : Manifest) (result : Created) : Type 0 where
  pub growth : RequestGrowth store.alone mine old.log new.log
  pub outcome : Outcome
  pub next : store.plans → outcome ≡ next_of old.plan
  pub ends : SoundCreateEnds outcome (last_of (history_of (old.log ++ growth.others))) growth.own m result

-- ---- the whole

-- a create takes a planned outcome; where memory ran out there may have been no request
abbrev pub CreateTakes : StoreTold → StoreShown → StoreShown → Created → Type 0
CreateTakes store old new created.NoMemory = MayTakeOutcome store old new
CreateTakes store old new _ = TakesOutcome store old new

-- it is open what became of the put only where the count of faults rose
abbrev pub CreateCause : ℕ → ℕ → Created → Type 0
CreateCause before now created.Unknown = Rose before now
CreateCause before now _ = Unit {0}

-- what a create says of the store, and its causes
pub record ManifestCreates (store : StoreTold) (old new : StoreShown) (writer id : Id16) (m : Manifest) (result : Created) : Type 0 where
  pub told : store.tells → ManifestCreateTold store old new m result
  pub sound : OverSoundLog store old new (λ mine. MayCreate mine old.log writer id → ManifestCreateSound store mine old new m result)
  pub taken : CreateTakes store old new result
  pub later : old.faults ≤ new.faults
  pub failed : CreateCause old.faults new.faults result

-- ---- the parts of a create, apart from the store

-- what is answered where the put was
abbrev pub CreateAnswered : Put → Manifest → Created → Type 0
CreateAnswered (answer.Stored etag) m result = result ≡ created.Done (record { manifest = m; etag = etag })
CreateAnswered answer.Refused m result = result ≡ created.Exists
CreateAnswered answer.Failed m result = result ≡ created.Unknown
CreateAnswered answer.NoMemory m result = result ≡ created.NoMemory
