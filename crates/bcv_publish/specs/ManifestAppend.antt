-- One put of a manifest under a condition: what it appends, and what it answers.
use Rattle.std.specs.Prelude.{◌≡◌, ◌≤◌, ◌⊎◌, ℕ, Bool, true, false, List, [], ◌∷◌, ◌++◌, Ok}
use Rattle.bcv_base.specs.declared.log.Entry.{Entry}
use Rattle.bcv_base.specs.declared.log.Entry.TheVariants as entry
use Rattle.bcv_base.specs.declared.manifest.Manifest.{Manifest}
use Rattle.bcv_base.specs.declared.object.ObjName.TheVariants as object
use Rattle.bcv_base.specs.declared.outcome.Outcome.{Outcome}
use Rattle.bcv_base.specs.declared.outcome.Outcome.TheVariants as outcome
use Rattle.bcv_base.specs.Faults.{Rose}
use Rattle.bcv_base.specs.Log.{object_of, may_follow}
use Rattle.bcv_base.specs.ManifestGrammar.{manifest_of}
use Rattle.bcv_store.specs.declared.store.Cond.{Cond}
use Rattle.bcv_store.specs.declared.store.Put.{Put}
use Rattle.bcv_store.specs.declared.store.Put.TheVariants as answer
use Rattle.bcv_store.specs.Asked.{holds}
use Rattle.bcv_store.specs.Plans.{next_of, AreOthers}
use Rattle.bcv_store.specs.StoreShown.{StoreTold, StoreShown}
use Rattle.bcv_publish.specs.Request.{TakesOutcome, MayTakeOutcome}

-- ---- over any log

-- the log has one own put of the manifest more, which may follow it, and whose bytes are this manifest
pub record IsPut (log after : List Entry) (m : Manifest) (etag : ℕ) : Type 0 where
  pub bytes : List ℕ
  pub reads : manifest_of bytes ≡ Ok m
  pub rises : may_follow log (entry.Put true object.Manifest bytes etag) ≡ true
  pub added : after ≡ log ++ entry.Put true object.Manifest bytes etag ∷ []

-- the effect of a put: the manifest is appended where the condition holds, and else nothing
abbrev pub AppendEffect : Bool → List Entry → List Entry → Manifest → Type 0
AppendEffect true log after m = (etag : ℕ) × IsPut log after m etag
AppendEffect false log after m = after ≡ log

-- a put whose answer is not known: never at Ok, without effect at Fail, with its effect at Lost
abbrev pub AppendFails : Outcome → Bool → List Entry → List Entry → Manifest → Type 0
AppendFails outcome.Ok held log after m = ⊥
AppendFails outcome.Fail held log after m = after ≡ log
AppendFails outcome.Lost held log after m = AppendEffect held log after m

-- how a put ends after a log, whose manifest meets the condition or not
abbrev pub AppendEnds : Outcome → Bool → List Entry → List Entry → Manifest → Put → Type 0
AppendEnds o held log after m (answer.Stored etag) = (o ≡ outcome.Ok) × (held ≡ true) × IsPut log after m etag
AppendEnds o held log after m answer.Refused = (o ≡ outcome.Ok) × (held ≡ false) × (after ≡ log)
AppendEnds o held log after m answer.Failed = AppendFails o held log after m
AppendEnds o held log after m answer.NoMemory = after ≡ log

-- a put to a store that tells its log
pub record ManifestAppendTold (store : StoreTold) (old new : StoreShown) (cond : Cond) (m : Manifest) (result : Put) : Type 0 where
  pub others : List Entry
  pub by_others : AreOthers store.alone others
  pub outcome : Outcome
  pub next : store.plans → outcome ≡ next_of old.plan
  pub ends : AppendEnds outcome (holds cond (object_of object.Manifest (old.log ++ others))) (old.log ++ others) new.log m result

-- a put takes a planned outcome; where memory ran out there may have been none
abbrev pub AppendTakes : StoreTold → StoreShown → StoreShown → Put → Type 0
AppendTakes store old new answer.NoMemory = MayTakeOutcome store old new
AppendTakes store old new _ = TakesOutcome store old new

-- what a put says of the store, and its causes
pub record ManifestAppends (store : StoreTold) (old new : StoreShown) (cond : Cond) (m : Manifest) (result : Put) : Type 0 where
  pub told : store.tells → ManifestAppendTold store old new cond m result
  pub taken : AppendTakes store old new result
  pub later : old.faults ≤ new.faults
  pub failed : result ≡ answer.Failed → Rose old.faults new.faults

-- ---- over a sound log

-- what is appended is one own put of the manifest, and its bytes are this manifest
abbrev pub IsAppended : List Entry → Manifest → ℕ → Type 0
IsAppended own m etag = (bytes : List ℕ) × (own ≡ entry.Put true object.Manifest bytes etag ∷ []) × (manifest_of bytes ≡ Ok m)
