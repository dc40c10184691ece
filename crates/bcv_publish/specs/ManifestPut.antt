-- The manifest's put of a publication.
use Rattle.std.specs.Prelude.{◌≡◌, ◌<◌, ◌≤◌, ◌+◌, ◌⊎◌, ℕ, Bool, true, false, List, [], ◌∷◌, ◌++◌, length, Option, Some, None}
use Rattle.bcv_base.specs.declared.id.Id16.{Id16}
use Rattle.bcv_base.specs.declared.log.Entry.{Entry}
use Rattle.bcv_base.specs.declared.manifest.Manifest.{Manifest}
use Rattle.bcv_base.specs.declared.object.ObjName.TheVariants as object
use Rattle.bcv_base.specs.declared.outcome.Outcome.{Outcome}
use Rattle.bcv_base.specs.declared.outcome.Outcome.TheVariants as outcome
use Rattle.bcv_base.specs.declared.seen.Latest.{Latest}
use Rattle.bcv_base.specs.Faults.{Rose}
use Rattle.bcv_base.specs.History.{history_of, last_of}
use Rattle.bcv_base.specs.Ids.{has_id}
use Rattle.bcv_base.specs.Log.{object_of}
use Rattle.bcv_base.specs.ManifestRules.{MeetsRules, MeetsLimits, IsShort, lists}
use Rattle.bcv_dbmap.specs.declared.plan.EditPlan.{EditPlan}
use Rattle.bcv_dbmap.specs.Applied.{applied, swept_ids, FitsPlan}
use Rattle.bcv_dbmap.specs.Checked.{checked}
use Rattle.bcv_dbmap.specs.Kept.{IsKept}
use Rattle.bcv_dbmap.specs.OwnBlock.{IsOwnBlock}
use Rattle.bcv_dbmap.specs.Past.{has_version, was_deleted}
use Rattle.bcv_dbmap.specs.RequestGrowth.{RequestGrowth}
use Rattle.bcv_store.specs.declared.store.Put.{Put}
use Rattle.bcv_store.specs.declared.store.Put.TheVariants as answer
use Rattle.bcv_store.specs.Asked.{has_etag}
use Rattle.bcv_store.specs.Plans.{next_of, AreOthers}
use Rattle.bcv_store.specs.StoreShown.{StoreTold, StoreShown}
use Rattle.bcv_publish.specs.declared.work.PutEnd.{PutEnd}
use Rattle.bcv_publish.specs.declared.work.PutEnd.TheVariants as put
use Rattle.bcv_publish.specs.ManifestAppend.{IsPut, AppendFails, IsAppended}
use Rattle.bcv_publish.specs.Request.{OverSoundLog, TakesOutcome, MayTakeOutcome}
use Rattle.bcv_publish.specs.State.{State, Rise}

-- ---- before the put

-- the edit may be applied to the manifest: it passes, and what it brings meets the rules
pub record IsReady (m : Manifest) (plan : EditPlan) (writer : Id16) : Type 0 where
  pub rules : MeetsRules m
  pub limits : MeetsLimits m
  pub passes : checked m plan writer ≡ None
  pub fits : FitsPlan m.block plan

-- the manifest that the put brings
abbrev pub made : State → Latest → EditPlan → ℕ → Manifest
made p read plan moment = applied read.manifest plan p.id p.writer moment

-- the publication may come after a log: its id is a fresh one of mine, its new blocks are mine and lie in the log, and what
-- it sweeps was deleted
pub record MayPublish (mine : List Id16) (log : List Entry) (p : State) (read : Latest) (plan : EditPlan) (moment : ℕ) : Type 0 where
  pub kept : IsKept log read
  pub writer : has_id p.writer mine ≡ true
  pub id : has_id p.id mine ≡ true
  pub fresh : has_version (history_of log) p.id ≡ false
  pub blocks : (i : Id16) → lists (made p read plan moment).dbs i ≡ true → lists read.manifest.dbs i ≡ false → IsOwnBlock mine (history_of log) read.manifest.block i
  pub swept : (i : Id16) → has_id i (swept_ids plan) ≡ true → was_deleted (history_of log) i ≡ true

-- ---- whatever the store

-- the publication after a refused put: what was read is kept no longer, but for its number and block size
abbrev pub refused_once : State → Latest → State
refused_once p read = record p { latest = None; refused = p.refused ++ read.manifest.number ∷ []; block = Some read.manifest.block }

-- what the publication keeps, and which answer comes at which count of refused puts
abbrev pub PutLeaves : EditPlan → ℕ → State → Latest → PutEnd → State → Type 0
PutLeaves plan moment p read (put.Published n) q =
    (etag : ℕ) × (n ≡ read.manifest.number + 1) × (q ≡ record p { latest = Some (record { manifest = made p read plan moment; etag = etag }) })
PutLeaves plan moment p read put.Refused q = (length p.refused < 7) × (q ≡ refused_once p read)
PutLeaves plan moment p read (put.Contended numbers) q =
    (length numbers ≡ 8) × (numbers ≡ p.refused ++ read.manifest.number ∷ []) × Rise numbers × (q ≡ refused_once p read)
PutLeaves plan moment p read put.Unknown q = q ≡ p
PutLeaves plan moment p read put.NoMemory q = q ≡ p

-- ---- over any log that is told

-- how a put ends after a log, whose manifest has the etag that was read or not
abbrev pub PutEnds : Outcome → Bool → List Entry → List Entry → Manifest → PutEnd → Option Latest → Type 0
PutEnds o held log after m (put.Published n) kept =
    (etag : ℕ) × (o ≡ outcome.Ok) × (held ≡ true) × IsPut log after m etag × (kept ≡ Some (record { manifest = m; etag = etag }))
PutEnds o held log after m put.Refused kept = (o ≡ outcome.Ok) × (held ≡ false) × (after ≡ log)
PutEnds o held log after m (put.Contended numbers) kept = (o ≡ outcome.Ok) × (held ≡ false) × (after ≡ log)
PutEnds o held log after m put.Unknown kept = AppendFails o held log after m
PutEnds o held log after m put.NoMemory kept = after ≡ log

-- a put to a store that tells its log
pub record ManifestPutTold (store : StoreTold) (old new : StoreShown) (p : State) (read : Latest) (plan : EditPlan) (moment : ℕ) (result : PutEnd) (q : State) : Type 0 where
  pub others : List Entry
  pub by_others : AreOthers store.alone others
  pub outcome : Outcome
  pub next : store.plans → outcome ≡ next_of old.plan
  pub ends : PutEnds outcome (has_etag (object_of object.Manifest (old.log ++ others)) read.etag) (old.log ++ others) new.log (made p read plan moment) result q.latest

-- ---- over a sound log

-- of a put whose answer was lost: it was appended where the manifest read is still the last one, and else nothing was
abbrev pub IsLost : List Entry → Manifest → Latest → Manifest → Type 0
IsLost own last read m = ((last ≡ read.manifest) × ((etag : ℕ) × IsAppended own m etag)) ⊎ ((read.manifest.number < last.number) × (own ≡ []))

abbrev pub FailsSound : Outcome → List Entry → Manifest → Latest → Manifest → Type 0
FailsSound outcome.Ok own last read m = ⊥
FailsSound outcome.Fail own last read m = own ≡ []
FailsSound outcome.Lost own last read m = IsLost own last read m

-- how a put ends that comes after this last manifest
abbrev pub SoundPutEnds : Outcome → List Entry → Manifest → Latest → Manifest → PutEnd → Option Latest → Type 0
SoundPutEnds o own last read m (put.Published n) kept =
    (etag : ℕ) × (o ≡ outcome.Ok) × (last ≡ read.manifest) × IsAppended own m etag × (kept ≡ Some (record { manifest = m; etag = etag }))
SoundPutEnds o own last read m put.Refused kept = (o ≡ outcome.Ok) × (read.manifest.number < last.number) × (own ≡ [])
SoundPutEnds o own last read m (put.Contended numbers) kept = (o ≡ outcome.Ok) × (read.manifest.number < last.number) × (own ≡ [])
SoundPutEnds o own last read m put.Unknown kept = FailsSound o own last read m
SoundPutEnds o own last read m put.NoMemory kept = own ≡ []

-- a put after a sound log that others grow by lawful entries: one manifest is appended, or none
pub record ManifestPutSound (store : StoreTold) (mine : List Id16) (old new : StoreShown) (p : State) (read : Latest) (plan : EditPlan) (moment : ℕ) (result : PutEnd) (q : State) : Type 0 where
  pub growth : RequestGrowth store.alone mine old.log new.log
  pub last : Manifest
  pub is_last : last_of (history_of (old.log ++ growth.others)) ≡ Some last
  pub outcome : Outcome
  pub next : store.plans → outcome ≡ next_of old.plan
  pub ends : SoundPutEnds outcome growth.own last read (made p read plan moment) result q.latest

-- ---- the whole

-- a put takes a planned outcome; where memory ran out there may have been none
abbrev pub PutTakes : StoreTold → StoreShown → StoreShown → PutEnd → Type 0
PutTakes store old new put.NoMemory = MayTakeOutcome store old new
PutTakes store old new _ = TakesOutcome store old new

-- what a put says of the store, and its causes
pub record ManifestPuts (store : StoreTold) (old new : StoreShown) (p : State) (read : Latest) (plan : EditPlan) (moment : ℕ) (result : PutEnd) (q : State) : Type 0 where
  pub told : store.tells → ManifestPutTold store old new p read plan moment result q
  pub sound : OverSoundLog store old new (λ mine. MayPublish mine old.log p read plan moment → ManifestPutSound store mine old new p read plan moment result q)
  pub taken : PutTakes store old new result
  pub later : old.faults ≤ new.faults
  pub failed : result ≡ put.Unknown → Rose old.faults new.faults

-- ---- the parts of a put, apart from the store

-- the manifest that a put brings, which may be written
pub record IsMadeOf (p : State) (read : Latest) (plan : EditPlan) (moment : ℕ) (m : Manifest) : Type 0 where
  pub made : m ≡ made p read plan moment
  pub rules : MeetsRules m
  pub limits : MeetsLimits m
  pub short : IsShort m

-- what is answered where the put is refused
abbrev pub Refuses : State → Latest → PutEnd → State → Type 0
Refuses p read put.Refused q = (length p.refused < 7) × (q ≡ refused_once p read)
Refuses p read (put.Contended numbers) q =
    (length numbers ≡ 8) × (numbers ≡ p.refused ++ read.manifest.number ∷ []) × Rise numbers × (q ≡ refused_once p read)
Refuses p read _ q = ⊥

-- what is answered where the put of a manifest was
abbrev pub Ended : Put → Manifest → State → Latest → PutEnd → State → Type 0
Ended (answer.Stored etag) m p read result q = (result ≡ put.Published m.number) × (q ≡ record p { latest = Some (record { manifest = m; etag = etag }) })
Ended answer.Refused m p read result q = Refuses p read result q
Ended answer.Failed m p read result q = (result ≡ put.Unknown) × (q ≡ p)
Ended answer.NoMemory m p read result q = (result ≡ put.NoMemory) × (q ≡ p)
