-- A poll of a container: one get of its manifest, unless it is the one that is known.
use Rattle.std.specs.Prelude.{◌≡◌, ◌≢◌, ◌<◌, ◌≤◌, ◌⊎◌, ℕ, true, false, List, [], ◌++◌, Option, Some, None, Result, Ok, Err, IsSome, nat_lt, if◌then◌else◌}
use Rattle.bcv_base.specs.declared.id.Id16.{Id16}
use Rattle.bcv_base.specs.declared.log.Entry.{Entry}
use Rattle.bcv_base.specs.declared.manifest.Manifest.{Manifest}
use Rattle.bcv_base.specs.declared.object.ObjName.TheVariants as object
use Rattle.bcv_base.specs.declared.outcome.Outcome.{Outcome}
use Rattle.bcv_base.specs.declared.outcome.Outcome.TheVariants as outcome
use Rattle.bcv_base.specs.declared.seen.Latest.{Latest}
use Rattle.bcv_base.specs.declared.seen.Seen.{Seen}
use Rattle.bcv_base.specs.Faults.{Rose}
use Rattle.bcv_base.specs.History.{Item, history_of, last_of}
use Rattle.bcv_base.specs.Log.{Object, object_of}
use Rattle.bcv_base.specs.ManifestGrammar.{manifest_of}
use Rattle.bcv_base.specs.ManifestRules.{MeetsRules, MeetsLimits}
use Rattle.bcv_dbmap.specs.Kept.{IsKept}
use Rattle.bcv_dbmap.specs.Outlived.{IsPublished}
use Rattle.bcv_dbmap.specs.RequestGrowth.{RequestGrowth}
use Rattle.bcv_store.specs.declared.store.Got.{Got}
use Rattle.bcv_store.specs.declared.store.Got.TheVariants as got
use Rattle.bcv_store.specs.Asked.{is_known}
use Rattle.bcv_store.specs.Plans.{next_of, AreOthers}
use Rattle.bcv_store.specs.StoreShown.{StoreTold, StoreShown}
use Rattle.bcv_publish.specs.ManifestRead.{is_other, taken}
use Rattle.bcv_publish.specs.Request.{OverSoundLog, TakesOutcome}
use Rattle.bcv_poller.specs.declared.polled.Polled.{Polled}
use Rattle.bcv_poller.specs.declared.polled.Polled.TheVariants as polled

-- ---- which manifests follow what was seen

-- where a manifest doesn't follow what was seen of the container: at the number or at the block size
abbrev pub unlike_seen : Seen → Manifest → Option ℕ
unlike_seen seen m = if nat_lt m.number seen.number then Some 8 else (if is_other seen.block m.block then Some 24 else None)

-- the manifest that was read, or the place where it is none that follows what was seen
abbrev pub following : Seen → Result Manifest ℕ → Result Manifest ℕ
following seen (Err at) = Err at
following seen (Ok m) = taken (unlike_seen seen m) m

-- a manifest meets the rules and follows what was seen
pub record FollowsSeen (seen : Seen) (l : Latest) : Type 0 where
  pub rules : MeetsRules l.manifest
  pub limits : MeetsLimits l.manifest
  pub like : unlike_seen seen l.manifest ≡ None

-- ---- over every store

-- a fact of the manifest that is new, where one is
abbrev pub IfNew : Polled → (Latest → Type 0) → Type 0
IfNew (polled.New l) Fact = Fact l
IfNew _ Fact = Unit {0}

-- a poll keeps to what was asked for: Same needs an etag to compare, and what is new meets the rules and follows what was seen
abbrev pub IsPolledWithin : Seen → Option ℕ → Polled → Type 0
IsPolledWithin seen etag polled.Same = IsSome etag
IsPolledWithin seen etag (polled.New l) = FollowsSeen seen l
IsPolledWithin seen etag _ = Unit {0}

-- ---- over any log that is told

-- how a poll ends, over the object of the manifest that is there; Same is tested before the bytes
abbrev pub PollEnds : Outcome → Option Object → Seen → Option ℕ → Polled → Type 0
PollEnds o x seen etag polled.Same = (o ≡ outcome.Ok) × (is_known x etag ≡ true)
PollEnds o x seen etag (polled.New l) =
    (there : Object) × (o ≡ outcome.Ok) × (x ≡ Some there) × (is_known x etag ≡ false) × (following seen (manifest_of there.bytes) ≡ Ok l.manifest) × (l.etag ≡ there.etag)
PollEnds o x seen etag polled.NoContainer = (o ≡ outcome.Ok) × (x ≡ None)
PollEnds o x seen etag (polled.BadManifest at) =
    (there : Object) × (o ≡ outcome.Ok) × (x ≡ Some there) × (is_known x etag ≡ false) × (following seen (manifest_of there.bytes) ≡ Err at)
PollEnds o x seen etag polled.StoreFault = o ≢ outcome.Ok
PollEnds o x seen etag polled.NoMemory = Unit {0}

-- a poll of a store that tells its log
pub record PollTold (store : StoreTold) (old new : StoreShown) (seen : Seen) (etag : Option ℕ) (result : Polled) : Type 0 where
  pub others : List Entry
  pub by_others : AreOthers store.alone others
  pub grown : new.log ≡ old.log ++ others
  pub outcome : Outcome
  pub next : store.plans → outcome ≡ next_of old.plan
  pub ends : PollEnds outcome (object_of object.Manifest new.log) seen etag result

-- ---- over a sound log

-- whatever is kept under the etag is the last manifest
abbrev pub IsLastKept : List Entry → Option ℕ → Type 0
IsLastKept log etag = (kept : Latest) → etag ≡ Some kept.etag → IsKept log kept → last_of (history_of log) ≡ Some kept.manifest

-- whatever is kept under the etag came before this manifest
abbrev pub IsNewer : List Entry → Option ℕ → Manifest → Type 0
IsNewer log etag m = (kept : Latest) → etag ≡ Some kept.etag → IsKept log kept → kept.manifest.number < m.number

-- how a poll of a sound log ends: what is kept is still the last manifest, or the last one is handed out
abbrev pub SoundPollEnds : Outcome → List Entry → Seen → Option ℕ → Polled → Type 0
SoundPollEnds o log seen etag polled.Same =
    (last : Latest) × (o ≡ outcome.Ok) × (etag ≡ Some last.etag) × IsKept log last × (last_of (history_of log) ≡ Some last.manifest) × IsLastKept log etag
SoundPollEnds o log seen etag (polled.New l) =
    (o ≡ outcome.Ok) × (last_of (history_of log) ≡ Some l.manifest) × IsKept log l × (unlike_seen seen l.manifest ≡ None) × IsNewer log etag l.manifest
SoundPollEnds o log seen etag polled.NoContainer = (o ≡ outcome.Ok) × (last_of (history_of log) ≡ None)
SoundPollEnds o log seen etag (polled.BadManifest at) =
    (m : Manifest) × (o ≡ outcome.Ok) × (last_of (history_of log) ≡ Some m) × (unlike_seen seen m ≡ Some at) × IsNewer log etag m
SoundPollEnds o log seen etag polled.StoreFault = o ≢ outcome.Ok
SoundPollEnds o log seen etag polled.NoMemory = Unit {0}

-- nothing was seen of the container, or a manifest that it published
abbrev pub IsSeenIn : List Item → Seen → Type 0
IsSeenIn past seen =
    (seen ≡ record { block = None; number = 0 })
    ⊎ ((m : Manifest) × IsPublished m past × (seen.number ≤ m.number) × (is_other seen.block m.block ≡ false))

-- a poll over a sound log that others grow by lawful entries; it appends none of its own, and where what was seen is of the log, no manifest is bad
pub record PollSound (store : StoreTold) (mine : List Id16) (old new : StoreShown) (seen : Seen) (etag : Option ℕ) (result : Polled) : Type 0 where
  pub growth : RequestGrowth store.alone mine old.log new.log
  pub no_own : growth.own ≡ []
  pub outcome : Outcome
  pub next : store.plans → outcome ≡ next_of old.plan
  pub ends : SoundPollEnds outcome new.log seen etag result
  pub never_bad : IsSeenIn (history_of new.log) seen → (at : ℕ) → result ≢ polled.BadManifest at

-- ---- the whole

-- what a poll says of the store, and its causes
pub record ManifestPolls (store : StoreTold) (old new : StoreShown) (seen : Seen) (etag : Option ℕ) (result : Polled) : Type 0 where
  pub told : store.tells → PollTold store old new seen etag result
  pub sound : OverSoundLog store old new (λ mine. PollSound store mine old new seen etag result)
  pub within : IsPolledWithin seen etag result
  pub taken : TakesOutcome store old new
  pub later : old.faults ≤ new.faults
  pub failed : result ≡ polled.StoreFault → Rose old.faults new.faults

-- ---- the parts of a poll, apart from the store

-- what is made of bytes with an etag
abbrev pub PollAccepts : Result Manifest ℕ → ℕ → Seen → Polled → Type 0
PollAccepts read etag seen (polled.New l) = (following seen read ≡ Ok l.manifest) × (l.etag ≡ etag)
PollAccepts read etag seen (polled.BadManifest at) = following seen read ≡ Err at
PollAccepts read etag seen polled.NoMemory = Unit {0}
PollAccepts read etag seen _ = ⊥

-- what is made of the store's answer
abbrev pub PollAnswered : Got → List ℕ → Seen → Polled → Type 0
PollAnswered (got.Found etag) bytes seen result = PollAccepts (manifest_of bytes) etag seen result
PollAnswered got.Same bytes seen result = result ≡ polled.Same
PollAnswered got.Missing bytes seen result = result ≡ polled.NoContainer
PollAnswered (got.TooLong len) bytes seen result = result ≡ polled.BadManifest 67108864
PollAnswered got.Failed bytes seen result = result ≡ polled.StoreFault
PollAnswered got.NoMemory bytes seen result = result ≡ polled.NoMemory
