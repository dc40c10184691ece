-- What became of a publication whose put was not answered.
use Rattle.std.specs.Prelude.{◌≡◌, ◌≢◌, ◌≤◌, ◌⊎◌, ℕ, List, [], ◌++◌, Option, Some, None, Result, Ok, Err, if◌then◌else◌}
use Rattle.bcv_base.specs.declared.id.Id16.{Id16}
use Rattle.bcv_base.specs.declared.log.Entry.{Entry}
use Rattle.bcv_base.specs.declared.manifest.Manifest.{Manifest}
use Rattle.bcv_base.specs.declared.manifest.Writer.{Writer}
use Rattle.bcv_base.specs.declared.object.ObjName.TheVariants as object
use Rattle.bcv_base.specs.declared.outcome.Outcome.{Outcome}
use Rattle.bcv_base.specs.declared.outcome.Outcome.TheVariants as outcome
use Rattle.bcv_base.specs.declared.seen.Seen.{Seen}
use Rattle.bcv_base.specs.Faults.{Rose}
use Rattle.bcv_base.specs.History.{Item, history_of, last_of}
use Rattle.bcv_base.specs.Ids.{id_eq}
use Rattle.bcv_base.specs.Log.{Object, object_of}
use Rattle.bcv_base.specs.ManifestGrammar.{manifest_of}
use Rattle.bcv_dbmap.specs.Past.{Publication, last_own, writer_of}
use Rattle.bcv_dbmap.specs.RequestGrowth.{RequestGrowth}
use Rattle.bcv_store.specs.Plans.{next_of, AreOthers}
use Rattle.bcv_store.specs.StoreShown.{StoreTold, StoreShown}
use Rattle.bcv_publish.specs.declared.resolved.Resolved.{Resolved}
use Rattle.bcv_publish.specs.declared.resolved.Resolved.TheVariants as resolved
use Rattle.bcv_publish.specs.declared.unread.Unread.{Unread}
use Rattle.bcv_publish.specs.declared.unread.Unread.TheVariants as unread
use Rattle.bcv_publish.specs.ManifestRead.{unlike, accepted}
use Rattle.bcv_publish.specs.Request.{OverSoundLog, TakesOutcome}
use Rattle.bcv_publish.specs.State.{new_publish}

-- ---- by the table of writers

-- the number at which a line has the id, where it has
abbrev pub line_number : Id16 → Option Writer → Option ℕ
line_number id None = None
line_number id (Some w) = if id_eq w.last id then Some w.number else None

-- the number of the version in which the writer's line of a manifest has the id
abbrev pub number_in : Id16 → Id16 → Manifest → Option ℕ
number_in writer id m = line_number id (writer_of writer m.writers)

-- what is answered over a manifest
abbrev pub resolved_by : Option ℕ → Resolved
resolved_by None = resolved.Voided
resolved_by (Some n) = resolved.At n

-- ---- over any log that is told

-- there is no manifest, or the writer's line in it has not the id
abbrev pub IsVoided : Option Object → Seen → Id16 → Id16 → Type 0
IsVoided x seen writer id =
    (x ≡ None)
    ⊎ ((there : Object) × (m : Manifest) × (x ≡ Some there) × (accepted (new_publish writer id) seen (manifest_of there.bytes) ≡ Ok m) × (number_in writer id m ≡ None))

-- how a resolve ends, over the object of the manifest that is there
abbrev pub ResolveEnds : Outcome → Option Object → Seen → Id16 → Id16 → Resolved → Type 0
ResolveEnds o x seen writer id (resolved.At n) =
    (there : Object) × (m : Manifest) × (o ≡ outcome.Ok) × (x ≡ Some there) × (accepted (new_publish writer id) seen (manifest_of there.bytes) ≡ Ok m) × (number_in writer id m ≡ Some n)
ResolveEnds o x seen writer id resolved.Voided = (o ≡ outcome.Ok) × IsVoided x seen writer id
ResolveEnds o x seen writer id (resolved.BadManifest at) =
    (there : Object) × (o ≡ outcome.Ok) × (x ≡ Some there) × (accepted (new_publish writer id) seen (manifest_of there.bytes) ≡ Err at)
ResolveEnds o x seen writer id resolved.StoreFault = o ≢ outcome.Ok
ResolveEnds o x seen writer id resolved.NoMemory = Unit {0}

-- a resolve in a store that tells its log
pub record ResolveTold (store : StoreTold) (old new : StoreShown) (seen : Seen) (writer id : Id16) (result : Resolved) : Type 0 where
  pub others : List Entry
  pub by_others : AreOthers store.alone others
  pub grown : new.log ≡ old.log ++ others
  pub outcome : Outcome
  pub next : store.plans → outcome ≡ next_of old.plan
  pub ends : ResolveEnds outcome (object_of object.Manifest new.log) seen writer id result

-- ---- over a sound log

-- the id isn't that of the writer's last own publication
abbrev pub IsNotLast : Id16 → Option Publication → Type 0
IsNotLast id None = Unit {0}
IsNotLast id (Some p) = p.id ≡ id → ⊥

-- how a resolve of a sound log ends: by the writer's last own publication, whatever others published since
abbrev pub SoundResolveEnds : Outcome → List Item → Seen → Id16 → Id16 → Resolved → Type 0
SoundResolveEnds o past seen writer id (resolved.At n) = (o ≡ outcome.Ok) × (last_own past writer ≡ Some (record { id = id; number = n }))
SoundResolveEnds o past seen writer id resolved.Voided = (o ≡ outcome.Ok) × IsNotLast id (last_own past writer)
SoundResolveEnds o past seen writer id (resolved.BadManifest at) =
    (m : Manifest) × (o ≡ outcome.Ok) × (last_of past ≡ Some m) × (unlike (new_publish writer id) seen m ≡ Some at)
SoundResolveEnds o past seen writer id resolved.StoreFault = o ≢ outcome.Ok
SoundResolveEnds o past seen writer id resolved.NoMemory = Unit {0}

-- a resolve over a sound log that others grow by lawful entries; it appends none of its own
pub record ResolveSound (store : StoreTold) (mine : List Id16) (old new : StoreShown) (seen : Seen) (writer id : Id16) (result : Resolved) : Type 0 where
  pub growth : RequestGrowth store.alone mine old.log new.log
  pub no_own : growth.own ≡ []
  pub outcome : Outcome
  pub next : store.plans → outcome ≡ next_of old.plan
  pub ends : SoundResolveEnds outcome (history_of new.log) seen writer id result

-- ---- the whole

-- what a resolve says of the store, and its causes
pub record Resolves (store : StoreTold) (old new : StoreShown) (seen : Seen) (writer id : Id16) (result : Resolved) : Type 0 where
  pub told : store.tells → ResolveTold store old new seen writer id result
  pub sound : OverSoundLog store old new (λ mine. ResolveSound store mine old new seen writer id result)
  pub taken : TakesOutcome store old new
  pub later : old.faults ≤ new.faults
  pub failed : result ≡ resolved.StoreFault → Rose old.faults new.faults

-- what is answered where the manifest was read, or wasn't
abbrev pub unread_resolved : Unread → Resolved
unread_resolved unread.Missing = resolved.Voided
unread_resolved (unread.Bad at) = resolved.BadManifest at
unread_resolved unread.Failed = resolved.StoreFault
unread_resolved unread.NoMemory = resolved.NoMemory
