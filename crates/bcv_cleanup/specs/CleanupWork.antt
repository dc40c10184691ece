-- A step of a cleanup before the manifest's put: the manifest's get, or the deletion of one block.
use Rattle.std.specs.Prelude.{◌≡◌, ◌≤◌, ◌⊎◌, ℕ, ◌+◌, Bool, true, false, List, [], ◌∷◌, ◌++◌, length, take, Option, Some, None, slice_get}
use Rattle.bcv_base.specs.declared.clock.Now.TheVariants as now
use Rattle.bcv_base.specs.declared.id.Id16.{Id16}
use Rattle.bcv_base.specs.declared.log.Entry.{Entry}
use Rattle.bcv_base.specs.declared.log.Entry.TheVariants as entry
use Rattle.bcv_base.specs.declared.manifest.Dead.{Dead}
use Rattle.bcv_base.specs.declared.object.ObjName.TheVariants as object
use Rattle.bcv_base.specs.declared.outcome.Outcome.{Outcome}
use Rattle.bcv_base.specs.declared.outcome.Outcome.TheVariants as outcome
use Rattle.bcv_base.specs.declared.seen.Latest.{Latest}
use Rattle.bcv_base.specs.declared.seen.Seen.{Seen}
use Rattle.bcv_base.specs.Faults.{Rose}
use Rattle.bcv_base.specs.History.{Item, history_of}
use Rattle.bcv_base.specs.Ids.{has_id}
use Rattle.bcv_base.specs.Moments.{ClockShown, Tells}
use Rattle.bcv_dbmap.specs.declared.plan.EditPlan.TheVariants as edit
use Rattle.bcv_dbmap.specs.Past.{was_expired, was_deleted}
use Rattle.bcv_dbmap.specs.RequestGrowth.{RequestGrowth}
use Rattle.bcv_publish.specs.declared.work.Work.{Work}
use Rattle.bcv_publish.specs.declared.work.Work.TheVariants as work
use Rattle.bcv_publish.specs.ManifestGet.{GetLeaves, SoundGetEnds, ManifestGetTold, ManifestGets}
use Rattle.bcv_publish.specs.Request.{OverSoundLog, TakesOutcome, MayTakeOutcome}
use Rattle.bcv_publish.specs.State as publish
use Rattle.bcv_store.specs.Asked.{DeleteFails}
use Rattle.bcv_store.specs.declared.store.Del.{Del}
use Rattle.bcv_store.specs.declared.store.Del.TheVariants as del
use Rattle.bcv_store.specs.Plans.{next_of, AreOthers}
use Rattle.bcv_store.specs.Requests.{StoreDeletes}
use Rattle.bcv_store.specs.StoreShown.{StoreTold, StoreShown}
use Rattle.bcv_cleanup.specs.Released.{RuleAnswers, FindsDead, IsTestOf, has_more}
use Rattle.bcv_cleanup.specs.State.{State, taken_ids}

-- ---- whatever the store

-- the moment is read once
abbrev pub IsMoment : Option ℕ → ℕ → Type 0
IsMoment None moment = Unit {0}
IsMoment (Some earlier) moment = moment ≡ earlier

-- what the publication's get answered, where a step that read the manifest came to this
abbrev pub get_answer : Work → Work
get_answer work.Nothing = work.More
get_answer result = result

abbrev pub with_moment : State → publish.State → ℕ → State
with_moment s p moment = record s { publish = p; moment = Some moment }

abbrev pub with_taken : State → publish.State → ℕ → List Id16 → Bool → State
with_taken s p moment ids more = record s { edit = edit.Sweep ids; publish = p; moment = Some moment; more = more }

-- the manifest that the get kept, and what is taken of it
pub record KeepsRead (answers : RuleAnswers) (moment : ℕ) (s : State) (p : publish.State) (ids : List Id16) (more : Bool)
    (t : State) : Type 0 where
  pub read : Latest
  pub kept : p.latest ≡ Some read
  pub finds : FindsDead answers moment read.manifest (taken_ids s) ids more
  pub becomes : t ≡ with_taken s p moment ids more

-- some ids are taken at More, and none at Nothing, which only a first get answers
abbrev pub ReadLeaves : RuleAnswers → ℕ → State → publish.State → Work → State → Type 0
ReadLeaves answers moment s p work.More t =
    (ids : List Id16) × (more : Bool) × (1 ≤ length ids) × KeepsRead answers moment s p ids more t
ReadLeaves answers moment s p work.Nothing t = (taken_ids s ≡ []) × KeepsRead answers moment s p [] false t
ReadLeaves answers moment s p result t = t ≡ with_moment s p moment

-- the moment is read, where none is known, and then the manifest
abbrev pub GetStep : RuleAnswers → Seen → State → Work → State → Type 0
GetStep answers seen s work.ClockFault t = (s.moment ≡ None) × (t ≡ s)
GetStep answers seen s result t =
    (moment : ℕ) × (p : publish.State) × IsMoment s.moment moment
    × GetLeaves seen s.edit s.publish (get_answer result) p × ReadLeaves answers moment s p result t

-- a deletion: one more was deleted, or nothing has changed
abbrev pub DeleteLeaves : State → Work → State → Type 0
DeleteLeaves s work.More t = t ≡ record s { deleted = s.deleted + 1 }
DeleteLeaves s work.StoreFault t = t ≡ s
DeleteLeaves s work.NoMemory t = t ≡ s
DeleteLeaves s _ t = ⊥

-- where no manifest is kept it is read, else a block is deleted
abbrev pub WorkLeaves : RuleAnswers → Option Latest → Seen → State → Work → State → Type 0
WorkLeaves answers None seen s result t = GetStep answers seen s result t
WorkLeaves answers (Some l) seen s result t = DeleteLeaves s result t

-- ---- the clock

-- where no moment is known the clock is asked for it, and else not at all
abbrev pub AsksClock : Option ℕ → ClockShown → ClockShown → Work → Option ℕ → Type 0
AsksClock None old new work.ClockFault after = Tells old new now.Failed × (after ≡ None)
AsksClock None old new result after = (moment : ℕ) × Tells old new (now.At moment) × (after ≡ Some moment)
AsksClock (Some moment) old new result after = (new ≡ old) × (after ≡ Some moment)

-- the clock fails exactly where its count of faults rose
abbrev pub WorkClockCause : ℕ → ℕ → Work → Type 0
WorkClockCause before now work.ClockFault = (before ≤ now) × Rose before now
WorkClockCause before now _ = now ≡ before

-- ---- over any log that is told

-- the manifest's get; without a moment there is none, and where memory ran out there may be none
abbrev pub ReadTold : StoreTold → StoreShown → StoreShown → Seen → State → Work → State → Type 0
ReadTold store old new seen s work.ClockFault t = new.log ≡ old.log
ReadTold store old new seen s work.NoMemory t =
    (others : List Entry) × AreOthers store.alone others × (new.log ≡ old.log ++ others)
ReadTold store old new seen s result t =
    ManifestGetTold store old new seen s.edit s.publish (get_answer result) t.publish

-- how the deletion of a block ends, after a log
abbrev pub DeleteEnds : Outcome → List Entry → List Entry → Id16 → ℕ → Work → Type 0
DeleteEnds o log after i at work.More = (o ≡ outcome.Ok) × (after ≡ log ++ entry.Deleted true (object.Block i) at ∷ [])
DeleteEnds o log after i at work.StoreFault = DeleteFails o log after (object.Block i) at
DeleteEnds o log after i at work.NoMemory = after ≡ log
DeleteEnds o log after i at _ = ⊥

-- the block that is deleted next, and the moment by which it may be
pub record IsNextBlock (s : State) (i : Id16) (at : ℕ) : Type 0 where
  pub id : slice_get (taken_ids s) s.deleted ≡ Some i
  pub moment : s.moment ≡ Some at

-- the deletion of the next block
pub record DeletesBlock (store : StoreTold) (old new : StoreShown) (s : State) (result : Work) : Type 0 where
  pub others : List Entry
  pub by_others : AreOthers store.alone others
  pub outcome : Outcome
  pub next : store.plans → outcome ≡ next_of old.plan
  pub id : Id16
  pub at : ℕ
  pub is_next : IsNextBlock s id at
  pub ends : DeleteEnds outcome (old.log ++ others) new.log id at result

-- the manifest's get, or the deletion of the next block
abbrev pub WorkTold : StoreTold → StoreShown → StoreShown → Option Latest → Seen → State → Work → State → Type 0
WorkTold store old new None seen s result t = ReadTold store old new seen s result t
WorkTold store old new (Some l) seen s result t = DeletesBlock store old new s result

-- ---- over a sound log

-- the block was dead in some manifest, and its retention has passed at the moment
abbrev pub IsExpired : List Item → Id16 → Option ℕ → Type 0
IsExpired past i None = ⊥
IsExpired past i (Some at) = was_expired past i at ≡ true

-- what was taken may be deleted, and the first so many of it were
pub record HasTaken (log : List Entry) (s : State) : Type 0 where
  pub expired : (i : Id16) → has_id i (taken_ids s) ≡ true → IsExpired (history_of log) i s.moment
  pub deleted : (i : Id16) → has_id i (take s.deleted (taken_ids s)) ≡ true → was_deleted (history_of log) i ≡ true

-- what is appended is one own deletion of the block
abbrev pub IsDeletion : List Entry → Id16 → ℕ → Type 0
IsDeletion own i at = own ≡ entry.Deleted true (object.Block i) at ∷ []

-- a deletion that fails: never at Ok, without effect at Fail, with its effect at Lost
abbrev pub DeletionFails : Outcome → List Entry → Id16 → ℕ → Type 0
DeletionFails outcome.Ok own i at = ⊥
DeletionFails outcome.Fail own i at = own ≡ []
DeletionFails outcome.Lost own i at = IsDeletion own i at

abbrev pub SoundDeleteEnds : Outcome → List Entry → Id16 → ℕ → Work → Type 0
SoundDeleteEnds o own i at work.More = (o ≡ outcome.Ok) × IsDeletion own i at
SoundDeleteEnds o own i at work.StoreFault = DeletionFails o own i at
SoundDeleteEnds o own i at work.NoMemory = own ≡ []
SoundDeleteEnds o own i at _ = ⊥

-- the manifest that is read is the last one; without a moment none is
abbrev pub SoundReadEnds : Outcome → List Entry → Seen → State → Work → State → Type 0
SoundReadEnds o log seen s work.ClockFault t = t ≡ s
SoundReadEnds o log seen s result t = SoundGetEnds o log seen s.edit s.publish (get_answer result) t.publish

-- how a step ends over a sound log: the manifest is read and nothing is appended, or the next block is deleted
abbrev pub SoundWorkEnds : Outcome → List Entry → List Entry → Option Latest → Seen → State → Work → State → Type 0
SoundWorkEnds o after own None seen s result t = (own ≡ []) × SoundReadEnds o after seen s result t
SoundWorkEnds o after own (Some l) seen s result t =
    (i : Id16) × (at : ℕ) × IsNextBlock s i at × SoundDeleteEnds o own i at result

-- a step over a sound log that others grow by lawful entries: what was taken may still be deleted, or is
pub record WorkSound (store : StoreTold) (mine : List Id16) (old new : StoreShown) (seen : Seen) (s : State) (result : Work)
    (t : State) : Type 0 where
  pub growth : RequestGrowth store.alone mine old.log new.log
  pub outcome : Outcome
  pub next : store.plans → outcome ≡ next_of old.plan
  pub ends : SoundWorkEnds outcome new.log growth.own s.publish.latest seen s result t
  pub taken : HasTaken new.log t

-- ---- the whole

-- a step takes a planned outcome; without a moment there is no request, and where memory ran out there may be none
abbrev pub WorkTakes : StoreTold → StoreShown → StoreShown → Work → Type 0
WorkTakes store old new work.ClockFault = new ≡ old
WorkTakes store old new work.NoMemory = MayTakeOutcome store old new
WorkTakes store old new _ = TakesOutcome store old new

-- what a step says of the store and of the clock, and its causes: what the log has then where the store tells it, and
-- that it is sound where it was
pub record TaskWorks (store : StoreTold) (old new : StoreShown) (clock later_clock : ClockShown) (seen : Seen) (s : State)
    (result : Work) (t : State) : Type 0 where
  pub asked : AsksClock s.moment clock later_clock result t.moment
  pub told : store.tells → WorkTold store old new s.publish.latest seen s result t
  pub sound : OverSoundLog store old new (λ mine. HasTaken old.log s → WorkSound store mine old new seen s result t)
  pub taken : WorkTakes store old new result
  pub later : old.faults ≤ new.faults
  pub failed : result ≡ work.StoreFault → Rose old.faults new.faults
  pub clock_failed : WorkClockCause clock.faults later_clock.faults result

-- ---- the parts of a step

-- what a first get answers where it took these ids
abbrev pub TakenWork : List Id16 → Work → Type 0
TakenWork [] result = result ≡ work.Nothing
TakenWork (i ∷ is) result = result ≡ work.More

-- what is said of the manifest that a get kept, besides these ids; where it kept none, what was said before
abbrev pub MoreOf : RuleAnswers → Option Latest → ℕ → List Id16 → Bool → Bool → Type 0
MoreOf answers None moment ids before more = more ≡ before
MoreOf answers (Some l) moment ids before more =
    (released : Dead → Bool) → IsTestOf answers moment l.manifest.retention released
    → more ≡ has_more released ids l.manifest.dead

-- the get was made, or memory ran out before it
abbrev pub GetMade : StoreTold → StoreShown → StoreShown → Seen → State → Work → publish.State → Type 0
GetMade store old new seen s result p =
    ManifestGets store old new seen s.edit s.publish (get_answer result) p ⊎ ((result ≡ work.NoMemory) × (new ≡ old))

-- a get at a moment that is known
pub record GetsAt (answers : RuleAnswers) (store : StoreTold) (old new : StoreShown) (moment : ℕ) (seen : Seen) (s : State)
    (result : Work) (t : State) : Type 0 where
  pub publication : publish.State
  pub leaves : GetLeaves seen s.edit s.publish (get_answer result) publication
  pub keeps : ReadLeaves answers moment s publication result t
  pub made : GetMade store old new seen s result publication

-- the moment that is known, or was asked of the clock
abbrev pub ReadsClock : Option ℕ → ClockShown → ClockShown → Option ℕ → Option ℕ → Type 0
ReadsClock None old new None after = Tells old new now.Failed × (after ≡ None)
ReadsClock None old new (Some moment) after = Tells old new (now.At moment) × (after ≡ Some moment)
ReadsClock (Some moment) old new result after = (new ≡ old) × (after ≡ Some moment) × (result ≡ Some moment)

-- what a deletion answers
abbrev pub delete_work : Del → Work
delete_work del.Done = work.More
delete_work del.Failed = work.StoreFault
delete_work del.NoMemory = work.NoMemory

-- the store's deletion of the next block
pub record DeletesNext (store : StoreTold) (old new : StoreShown) (s : State) (result : Work) (t : State) : Type 0 where
  pub id : Id16
  pub at : ℕ
  pub is_next : IsNextBlock s id at
  pub answer : Del
  pub deletes : StoreDeletes store old new (object.Block id) at answer
  pub is : result ≡ delete_work answer
  pub leaves : DeleteLeaves s result t
