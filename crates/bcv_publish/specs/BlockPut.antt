-- The put of a block under a name that is drawn for it.
use Rattle.std.specs.Prelude.{◌≡◌, ◌≤◌, ℕ, Bool, true, false, List, [], ◌∷◌, ◌++◌, length, Option, Some, None, is_none}
use Rattle.bcv_base.specs.declared.id.Id16.{Id16}
use Rattle.bcv_base.specs.declared.log.Entry.{Entry}
use Rattle.bcv_base.specs.declared.log.Entry.TheVariants as entry
use Rattle.bcv_base.specs.declared.object.ObjName.TheVariants as object
use Rattle.bcv_base.specs.declared.outcome.Outcome.{Outcome}
use Rattle.bcv_base.specs.declared.outcome.Outcome.TheVariants as outcome
use Rattle.bcv_base.specs.Drawn.{NamesShown, AddsNames}
use Rattle.bcv_base.specs.Faults.{Rose}
use Rattle.bcv_base.specs.History.{Item, history_of, first_put}
use Rattle.bcv_base.specs.Ids.{has_id}
use Rattle.bcv_base.specs.Log.{object_of}
use Rattle.bcv_dbmap.specs.Past.{was_listed}
use Rattle.bcv_dbmap.specs.RequestGrowth.{RequestGrowth}
use Rattle.bcv_store.specs.declared.store.Put.{Put}
use Rattle.bcv_store.specs.declared.store.Put.TheVariants as answer
use Rattle.bcv_store.specs.Asked.{Adds, PutFails}
use Rattle.bcv_store.specs.Plans.{next_of, AreOthers}
use Rattle.bcv_store.specs.StoreShown.{StoreTold, StoreShown}
use Rattle.bcv_publish.specs.declared.work.Work.{Work}
use Rattle.bcv_publish.specs.declared.work.Work.TheVariants as work
use Rattle.bcv_publish.specs.declared.work.BlockEnd.{BlockEnd}
use Rattle.bcv_publish.specs.declared.work.BlockEnd.TheVariants as block
use Rattle.bcv_publish.specs.Request.{OverSoundLog, TakesOutcome, MayTakeOutcome}

-- what a task answers where its block's put ended so
abbrev pub block_work : BlockEnd → Work
block_work block.Stored = work.More
block_work block.NameTaken = work.NameTaken
block_work block.StoreFault = work.StoreFault
block_work block.NamesFault = work.NamesFault
block_work block.NoMemory = work.NoMemory

-- ---- whatever the store

-- which names were drawn, and which ids there are then: one more where the block was put
abbrev pub BlockPutLeaves : List Id16 → List Id16 → BlockEnd → List Id16 → Type 0
BlockPutLeaves drawn ids block.Stored new = (i : Id16) × (drawn ≡ i ∷ []) × (new ≡ ids ++ i ∷ [])
BlockPutLeaves drawn ids block.NameTaken new = (length drawn ≡ 1) × (new ≡ ids)
BlockPutLeaves drawn ids block.StoreFault new = (length drawn ≡ 1) × (new ≡ ids)
BlockPutLeaves drawn ids block.NamesFault new = (drawn ≡ []) × (new ≡ ids)
BlockPutLeaves drawn ids block.NoMemory new = (length drawn ≤ 1) × (new ≡ ids)

-- ---- over any log that is told

-- how the put ends after a log
abbrev pub BlockPutEnds : Outcome → List Entry → List Entry → Id16 → List ℕ → BlockEnd → Type 0
BlockPutEnds o log after i bytes block.Stored =
    (etag : ℕ) × (o ≡ outcome.Ok) × (object_of (object.Block i) log ≡ None) × Adds log after (object.Block i) bytes etag
BlockPutEnds o log after i bytes block.NameTaken = (o ≡ outcome.Ok) × (is_none (object_of (object.Block i) log) ≡ false) × (after ≡ log)
BlockPutEnds o log after i bytes block.StoreFault = PutFails o (is_none (object_of (object.Block i) log)) log after (object.Block i) bytes
BlockPutEnds o log after i bytes block.NamesFault = ⊥
BlockPutEnds o log after i bytes block.NoMemory = after ≡ log

-- a put that was asked for: the name is the one that was drawn
pub record BlockAsked (store : StoreTold) (old new : StoreShown) (drawn : List Id16) (bytes : List ℕ) (result : BlockEnd) : Type 0 where
  pub others : List Entry
  pub by_others : AreOthers store.alone others
  pub outcome : Outcome
  pub next : store.plans → outcome ≡ next_of old.plan
  pub id : Id16
  pub is_drawn : drawn ≡ id ∷ []
  pub ends : BlockPutEnds outcome (old.log ++ others) new.log id bytes result

-- a put to a store that tells its log; where no name was drawn there is none, and where memory ran out there may be none
abbrev pub BlockPutTold : StoreTold → StoreShown → StoreShown → List Id16 → List ℕ → BlockEnd → Type 0
BlockPutTold store old new drawn bytes block.NamesFault = new.log ≡ old.log
BlockPutTold store old new drawn bytes block.NoMemory = (others : List Entry) × AreOthers store.alone others × (new.log ≡ old.log ++ others)
BlockPutTold store old new drawn bytes result = BlockAsked store old new drawn bytes result

-- ---- over a sound log

-- names that were drawn are mine, and no manifest has listed them
abbrev pub AreFresh : List Id16 → List Entry → List Id16 → Type 0
AreFresh mine log ids = (i : Id16) → has_id i ids ≡ true → (has_id i mine ≡ true) × (was_listed (history_of log) i ≡ false)

-- what is appended is one own put of the block
abbrev pub IsBlockAppended : List Entry → Id16 → List ℕ → Type 0
IsBlockAppended own i bytes = (etag : ℕ) × (own ≡ entry.Put true (object.Block i) bytes etag ∷ [])

-- of a put whose answer was lost: it was appended where the name was never put
abbrev pub BlockLost : Option (List ℕ) → List Entry → Id16 → List ℕ → Type 0
BlockLost None own i bytes = IsBlockAppended own i bytes
BlockLost (Some first) own i bytes = own ≡ []

abbrev pub BlockFails : Outcome → Option (List ℕ) → List Entry → Id16 → List ℕ → Type 0
BlockFails outcome.Ok first own i bytes = ⊥
BlockFails outcome.Fail first own i bytes = own ≡ []
BlockFails outcome.Lost first own i bytes = BlockLost first own i bytes

-- how the put ends, by what was put under the name before: it is taken exactly where something was
abbrev pub SoundBlockEnds : Outcome → List Item → List Entry → List Id16 → List ℕ → BlockEnd → Type 0
SoundBlockEnds o past own drawn bytes block.Stored =
    (i : Id16) × (drawn ≡ i ∷ []) × (o ≡ outcome.Ok) × (first_put past i ≡ None) × IsBlockAppended own i bytes
SoundBlockEnds o past own drawn bytes block.NameTaken =
    (i : Id16) × (drawn ≡ i ∷ []) × (o ≡ outcome.Ok) × (is_none (first_put past i) ≡ false) × (own ≡ [])
SoundBlockEnds o past own drawn bytes block.StoreFault = (i : Id16) × (drawn ≡ i ∷ []) × BlockFails o (first_put past i) own i bytes
SoundBlockEnds o past own drawn bytes block.NamesFault = (drawn ≡ []) × (own ≡ [])
SoundBlockEnds o past own drawn bytes block.NoMemory = own ≡ []

-- a put after a sound log that others grow by lawful entries: the block is appended, or none
pub record BlockPutSound (store : StoreTold) (mine : List Id16) (old new : StoreShown) (drawn : List Id16) (bytes : List ℕ) (result : BlockEnd) : Type 0 where
  pub growth : RequestGrowth store.alone mine old.log new.log
  pub outcome : Outcome
  pub next : store.plans → outcome ≡ next_of old.plan
  pub ends : SoundBlockEnds outcome (history_of old.log) growth.own drawn bytes result

-- ---- the whole

-- a put takes a planned outcome; where no name was drawn there is none, and where memory ran out there may be none
abbrev pub BlockTakes : StoreTold → StoreShown → StoreShown → BlockEnd → Type 0
BlockTakes store old new block.NamesFault = new ≡ old
BlockTakes store old new block.NoMemory = MayTakeOutcome store old new
BlockTakes store old new _ = TakesOutcome store old new

-- the names fail exactly where their count of faults rose
abbrev pub BlockNamesCause : ℕ → ℕ → BlockEnd → Type 0
BlockNamesCause before now block.NamesFault = (before ≤ now) × Rose before now
BlockNamesCause before now _ = now ≡ before

-- what a put says of the store and of the names, and its causes
pub record BlockPuts (store : StoreTold) (old new : StoreShown) (names later_names : NamesShown) (bytes : List ℕ) (ids : List Id16) (result : BlockEnd) (ids_new : List Id16) : Type 0 where
  pub drawn : List Id16
  pub adds : AddsNames names.drawn later_names.drawn drawn
  pub leaves : BlockPutLeaves drawn ids result ids_new
  pub told : store.tells → BlockPutTold store old new drawn bytes result
  pub sound : OverSoundLog store old new (λ mine. AreFresh mine old.log drawn → BlockPutSound store mine old new drawn bytes result)
  pub taken : BlockTakes store old new result
  pub later : old.faults ≤ new.faults
  pub failed : result ≡ block.StoreFault → Rose old.faults new.faults
  pub names_failed : BlockNamesCause names.faults later_names.faults result

-- ---- the parts of a put, apart from the store

-- what is answered where the put was
abbrev pub BlockAnswered : Put → Id16 → List Id16 → BlockEnd → List Id16 → Type 0
BlockAnswered (answer.Stored etag) i ids result new = (result ≡ block.Stored) × (new ≡ ids ++ i ∷ [])
BlockAnswered answer.Refused i ids result new = (result ≡ block.NameTaken) × (new ≡ ids)
BlockAnswered answer.Failed i ids result new = (result ≡ block.StoreFault) × (new ≡ ids)
BlockAnswered answer.NoMemory i ids result new = (result ≡ block.NoMemory) × (new ≡ ids)
