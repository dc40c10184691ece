-- One read of a container's manifest: a get of its object, and what its bytes are.
use Rattle.std.specs.Prelude.{◌≡◌, ◌≢◌, ◌≤◌, ℕ, Bool, not, ◌||◌, ◌==◌, false, List, ◌++◌, Option, Some, None, Result, Ok, Err, nat_lt, nat_le, if◌then◌else◌}
use Rattle.bcv_base.specs.declared.log.Entry.{Entry}
use Rattle.bcv_base.specs.declared.manifest.Manifest.{Manifest}
use Rattle.bcv_base.specs.declared.object.ObjName.TheVariants as object
use Rattle.bcv_base.specs.declared.outcome.Outcome.{Outcome}
use Rattle.bcv_base.specs.declared.outcome.Outcome.TheVariants as outcome
use Rattle.bcv_base.specs.declared.seen.Latest.{Latest}
use Rattle.bcv_base.specs.declared.seen.Seen.{Seen}
use Rattle.bcv_base.specs.Faults.{Rose}
use Rattle.bcv_base.specs.Log.{Object, object_of}
use Rattle.bcv_base.specs.ManifestGrammar.{manifest_of}
use Rattle.bcv_base.specs.ManifestRules.{MeetsRules, MeetsLimits}
use Rattle.bcv_store.specs.declared.store.Got.{Got}
use Rattle.bcv_store.specs.declared.store.Got.TheVariants as got
use Rattle.bcv_store.specs.Plans.{next_of, AreOthers}
use Rattle.bcv_store.specs.StoreShown.{StoreTold, StoreShown}
use Rattle.bcv_publish.specs.declared.unread.Unread.{Unread}
use Rattle.bcv_publish.specs.declared.unread.Unread.TheVariants as unread
use Rattle.bcv_publish.specs.Request.{TakesOutcome}
use Rattle.bcv_publish.specs.State.{State, last_number}

-- ---- which manifests are refused

-- the block size is another one than the known one, where one is known
abbrev pub is_other : Option ℕ → ℕ → Bool
is_other None block = false
is_other (Some known) block = not (known == block)

-- the number isn't above an earlier one, where there is one
abbrev pub is_past : Option ℕ → ℕ → Bool
is_past None number = false
is_past (Some earlier) number = nat_le number earlier

-- where a manifest doesn't follow what was seen of the container before: at the number or at the block size
abbrev pub unlike : State → Seen → Manifest → Option ℕ
unlike p seen m =
    if nat_lt m.number seen.number || is_past (last_number p.refused) m.number then Some 8
    else (if is_other seen.block m.block || is_other p.block m.block then Some 24 else None)

-- a manifest that is taken, or the place where it isn't
abbrev pub taken : Option ℕ → Manifest → Result Manifest ℕ
taken None m = Ok m
taken (Some at) m = Err at

-- the manifest that some bytes are, or where they are none of this container
abbrev pub accepted : State → Seen → Result Manifest ℕ → Result Manifest ℕ
accepted p seen (Err at) = Err at
accepted p seen (Ok m) = taken (unlike p seen m) m

-- ---- what is read

-- what is read of the object of the manifest that is there, whatever the log
abbrev pub ReadEnds : Outcome → Option Object → Seen → State → Result Latest Unread → Type 0
ReadEnds o x seen p (Ok l) =
    (there : Object) × (o ≡ outcome.Ok) × (x ≡ Some there) × (accepted p seen (manifest_of there.bytes) ≡ Ok l.manifest) × (l.etag ≡ there.etag)
ReadEnds o x seen p (Err unread.Missing) = (o ≡ outcome.Ok) × (x ≡ None)
ReadEnds o x seen p (Err (unread.Bad at)) =
    (there : Object) × (o ≡ outcome.Ok) × (x ≡ Some there) × (accepted p seen (manifest_of there.bytes) ≡ Err at)
ReadEnds o x seen p (Err unread.Failed) = o ≢ outcome.Ok
ReadEnds o x seen p (Err unread.NoMemory) = Unit {0}

-- a read of a store that tells its log
pub record ManifestReadTold (store : StoreTold) (old new : StoreShown) (seen : Seen) (p : State) (result : Result Latest Unread) : Type 0 where
  pub others : List Entry
  pub by_others : AreOthers store.alone others
  pub grown : new.log ≡ old.log ++ others
  pub outcome : Outcome
  pub next : store.plans → outcome ≡ next_of old.plan
  pub ends : ReadEnds outcome (object_of object.Manifest new.log) seen p result

-- what a read says of the store, and its causes
pub record ManifestReads (store : StoreTold) (old new : StoreShown) (seen : Seen) (p : State) (result : Result Latest Unread) : Type 0 where
  pub told : store.tells → ManifestReadTold store old new seen p result
  pub taken : TakesOutcome store old new
  pub later : old.faults ≤ new.faults
  pub failed : result ≡ Err unread.Failed → Rose old.faults new.faults

-- ---- the parts of a read, apart from the store

-- a manifest that was read meets the rules, and follows what was seen
pub record IsTaken (p : State) (seen : Seen) (l : Latest) : Type 0 where
  pub rules : MeetsRules l.manifest
  pub limits : MeetsLimits l.manifest
  pub like : unlike p seen l.manifest ≡ None

-- what is made of bytes with an etag
abbrev pub Accepts : Result Manifest ℕ → ℕ → Seen → State → Result Latest Unread → Type 0
Accepts read etag seen p (Ok l) = (accepted p seen read ≡ Ok l.manifest) × (l.etag ≡ etag)
Accepts read etag seen p (Err (unread.Bad at)) = accepted p seen read ≡ Err at
Accepts read etag seen p (Err unread.NoMemory) = Unit {0}
Accepts read etag seen p (Err _) = ⊥

-- what is made of the store's answer
abbrev pub ReadAnswered : Got → List ℕ → Seen → State → Result Latest Unread → Type 0
ReadAnswered (got.Found etag) bytes seen p result = Accepts (manifest_of bytes) etag seen p result
ReadAnswered got.Same bytes seen p result = ⊥
ReadAnswered got.Missing bytes seen p result = result ≡ Err unread.Missing
ReadAnswered (got.TooLong len) bytes seen p result = result ≡ Err (unread.Bad 67108864)
ReadAnswered got.Failed bytes seen p result = result ≡ Err unread.Failed
ReadAnswered got.NoMemory bytes seen p result = result ≡ Err unread.NoMemory
