-- What a fetch of a block says of the store and of the cache.
use Rattle.std.specs.Prelude.{◌≡◌, ◌≢◌, ◌≤◌, ℕ, Bool, true, false, List, [], ◌∷◌, ◌++◌, length, Option, Some, None, IfSome}
use Rattle.bcv_base.specs.declared.id.Id16.{Id16}
use Rattle.bcv_base.specs.declared.manifest.DbEntry.{DbEntry}
use Rattle.bcv_base.specs.declared.manifest.Manifest.{Manifest}
use Rattle.bcv_base.specs.declared.log.Entry.{Entry as LogEntry}
use Rattle.bcv_base.specs.declared.object.ObjName.TheVariants as object
use Rattle.bcv_base.specs.declared.outcome.Outcome.{Outcome}
use Rattle.bcv_base.specs.declared.outcome.Outcome.TheVariants as outcome
use Rattle.bcv_base.specs.Faults.{Rose}
use Rattle.bcv_base.specs.History.{Item, Published, first_put, history_of, last_of}
use Rattle.bcv_base.specs.Ids.{has_id}
use Rattle.bcv_base.specs.Log.{Object, object_of}
use Rattle.bcv_base.specs.ManifestRules.{lists}
use Rattle.bcv_cache.specs.Entry.{Blocks}
use Rattle.bcv_cache.specs.Cache.{found_first, filled}
use Rattle.bcv_dbmap.specs.Outlived.{IsGone, IsPublished}
use Rattle.bcv_dbmap.specs.Past.{IsAmong}
use Rattle.bcv_dbmap.specs.RequestGrowth.{RequestGrowth}
use Rattle.bcv_publish.specs.Request.{OverSoundLog, TakesOutcome, MayTakeOutcome}
use Rattle.bcv_store.specs.declared.store.Got.{Got}
use Rattle.bcv_store.specs.declared.store.Got.TheVariants as got
use Rattle.bcv_store.specs.Plans.{next_of, AreOthers}
use Rattle.bcv_store.specs.StoreShown.{StoreTold, StoreShown}
use Rattle.bcv_snapshot.specs.declared.fetched.Fetched.{Fetched}
use Rattle.bcv_snapshot.specs.declared.fetched.Fetched.TheVariants as fetched

-- ---- whatever the store

-- one block of the cache's length came in, or nothing has changed
abbrev pub FetchLeaves : Id16 → Blocks → Fetched → Blocks → Type 0
FetchLeaves id c (fetched.In slot) d = (bytes : List ℕ) × (length bytes ≡ c.block) × (d ≡ filled slot id bytes c)
FetchLeaves id c fetched.CacheFull d = ⊥
FetchLeaves id c fetched.Gone d = d ≡ c
FetchLeaves id c (fetched.BadBlock len) d = (len ≢ c.block) × (d ≡ c)
FetchLeaves id c fetched.StoreFault d = d ≡ c
FetchLeaves id c fetched.NoMemory d = d ≡ c

-- a request was made; where memory ran out there may have been none
abbrev pub FetchTakes : StoreTold → StoreShown → StoreShown → Fetched → Type 0
FetchTakes store old new fetched.NoMemory = MayTakeOutcome store old new
FetchTakes store old new _ = TakesOutcome store old new

-- ---- over any log that is told

-- over the object of the block that is there: its bytes come in, or what keeps them out
abbrev pub FetchEnds : Outcome → Option Object → Id16 → Blocks → Fetched → Blocks → Type 0
FetchEnds o x id c (fetched.In slot) d =
    (there : Object) × (o ≡ outcome.Ok) × (x ≡ Some there) × (length there.bytes ≡ c.block) × (d ≡ filled slot id there.bytes c)
FetchEnds o x id c fetched.CacheFull d = ⊥
FetchEnds o x id c fetched.Gone d = (o ≡ outcome.Ok) × (x ≡ None)
FetchEnds o x id c (fetched.BadBlock len) d =
    (there : Object) × (o ≡ outcome.Ok) × (x ≡ Some there) × (length there.bytes ≡ len) × (len ≢ c.block)
FetchEnds o x id c fetched.StoreFault d = o ≢ outcome.Ok
FetchEnds o x id c fetched.NoMemory d = Unit {0}

-- a fetch from a store that tells its log: others may have appended entries, and the answer speaks of the log with them
pub record BlockGetTold (store : StoreTold) (old new : StoreShown) (id : Id16) (c : Blocks) (result : Fetched) (d : Blocks) : Type 0 where
  pub others : List LogEntry
  pub by_others : AreOthers store.alone others
  pub grown : new.log ≡ old.log ++ others
  pub outcome : Outcome
  pub next : store.plans → outcome ≡ next_of old.plan
  pub ends : FetchEnds outcome (object_of (object.Block id) new.log) id c result d

-- ---- over a sound log

-- why a block is not there: the last version does not list it; and for each version's entry that lists it there is a later
-- version that has no entry with its tag, and that lay the retention back when the block was deleted
pub record IsMissing (past : List Item) (i : Id16) : Type 0 where
  pub unlisted : IfSome (last_of past) (λ m. lists m.dbs i ≡ false)
  pub outlived : (later before : List Item) (m : Manifest) (e : DbEntry)
      → past ≡ later ++ Published m ∷ before → IsAmong e m.dbs → has_id i e.blocks ≡ true → IsGone later e i

-- the bytes first put under the id are of this length, which no version has as its block size that lists the id
pub record IsOtherBlock (past : List Item) (i : Id16) (len : ℕ) : Type 0 where
  pub bytes : List ℕ
  pub first : first_put past i ≡ Some bytes
  pub long : length bytes ≡ len
  pub sizes : (m : Manifest) → IsPublished m past → lists m.dbs i ≡ true → m.block ≡ len

-- over a history: the bytes first put under the id come in, or what keeps them out
abbrev pub SoundFetchEnds : Outcome → List Item → Id16 → Blocks → Fetched → Blocks → Type 0
SoundFetchEnds o past id c (fetched.In slot) d =
    (bytes : List ℕ) × (o ≡ outcome.Ok) × (first_put past id ≡ Some bytes) × (length bytes ≡ c.block) × (d ≡ filled slot id bytes c)
SoundFetchEnds o past id c fetched.CacheFull d = ⊥
SoundFetchEnds o past id c fetched.Gone d = (o ≡ outcome.Ok) × IsMissing past id
SoundFetchEnds o past id c (fetched.BadBlock len) d = (o ≡ outcome.Ok) × IsOtherBlock past id len × (len ≢ c.block)
SoundFetchEnds o past id c fetched.StoreFault d = o ≢ outcome.Ok
SoundFetchEnds o past id c fetched.NoMemory d = Unit {0}

-- a fetch over a sound log that others grow by lawful entries; it appends none of its own
pub record BlockGetSound (store : StoreTold) (mine : List Id16) (old new : StoreShown) (id : Id16) (c : Blocks) (result : Fetched) (d : Blocks) : Type 0 where
  pub growth : RequestGrowth store.alone mine old.log new.log
  pub no_own : growth.own ≡ []
  pub outcome : Outcome
  pub next : store.plans → outcome ≡ next_of old.plan
  pub ends : SoundFetchEnds outcome (history_of new.log) id c result d

-- ---- the whole

-- one get of the block: what it says of the store and of the cache, and its causes
pub record BlockGets (store : StoreTold) (old new : StoreShown) (id : Id16) (c : Blocks) (result : Fetched) (d : Blocks) : Type 0 where
  pub leaves : FetchLeaves id c result d
  pub told : store.tells → BlockGetTold store old new id c result d
  pub sound : OverSoundLog store old new (λ mine. BlockGetSound store mine old new id c result d)
  pub taken : FetchTakes store old new result
  pub later : old.faults ≤ new.faults
  pub failed : result ≡ fetched.StoreFault → Rose old.faults new.faults

-- a fetch: a block that is there is found without a request; where no block can come in it is refused so; else one get
abbrev pub BlockFetches : Option ℕ → Bool → StoreTold → StoreShown → StoreShown → Id16 → Blocks → Fetched → Blocks → Type 0
BlockFetches (Some slot) room store old new id c result d =
    (result ≡ fetched.In slot) × (d ≡ record c { entries = found_first id c.entries }) × (new ≡ old)
BlockFetches None false store old new id c result d = (result ≡ fetched.CacheFull) × (d ≡ c) × (new ≡ old)
BlockFetches None true store old new id c result d = BlockGets store old new id c result d

-- a fact on the slot of a block that is in
abbrev pub IfIn : Fetched → (ℕ → Type 0) → Type 0
IfIn (fetched.In slot) Fact = Fact slot
IfIn _ Fact = Unit {0}

-- ---- the parts of a fetch, apart from the store

-- what is made of the bytes that were got: they come in where they have the length of a block
abbrev pub BytesTaken : List ℕ → Id16 → Blocks → Fetched → Blocks → Type 0
BytesTaken bytes id c (fetched.In slot) d = (length bytes ≡ c.block) × (d ≡ filled slot id bytes c)
BytesTaken bytes id c (fetched.BadBlock len) d = (length bytes ≡ len) × (len ≢ c.block) × (d ≡ c)
BytesTaken bytes id c fetched.NoMemory d = d ≡ c
BytesTaken bytes id c _ d = ⊥

-- what is made of the store's answer
abbrev pub FetchAnswered : Got → List ℕ → Id16 → Blocks → Fetched → Blocks → Type 0
FetchAnswered (got.Found etag) bytes id c result d = BytesTaken bytes id c result d
FetchAnswered got.Same bytes id c result d = ⊥
FetchAnswered got.Missing bytes id c result d = (result ≡ fetched.Gone) × (d ≡ c)
FetchAnswered (got.TooLong len) bytes id c result d = (result ≡ fetched.BadBlock len) × (d ≡ c)
FetchAnswered got.Failed bytes id c result d = (result ≡ fetched.StoreFault) × (d ≡ c)
FetchAnswered got.NoMemory bytes id c result d = (result ≡ fetched.NoMemory) × (d ≡ c)
