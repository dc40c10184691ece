-- A step of a task before the manifest's put: the manifest's get, or the put of one block.
use Rattle.std.specs.Prelude.{◌≡◌, ◌≤◌, ℕ, suc, true, false, List, [], ◌∷◌, ◌++◌, length, Option, Some, None, is_none}
use Rattle.bcv_base.specs.declared.id.Id16.{Id16}
use Rattle.bcv_base.specs.declared.log.Entry.{Entry}
use Rattle.bcv_base.specs.declared.object.ObjName.TheVariants as object
use Rattle.bcv_base.specs.declared.outcome.Outcome.{Outcome}
use Rattle.bcv_base.specs.declared.outcome.Outcome.TheVariants as outcome
use Rattle.bcv_base.specs.declared.seen.Latest.{Latest}
use Rattle.bcv_base.specs.declared.seen.Seen.{Seen}
use Rattle.bcv_base.specs.Drawn.{NamesShown, AddsNames}
use Rattle.bcv_base.specs.Faults.{Rose}
use Rattle.bcv_base.specs.History.{Item, history_of, first_put}
use Rattle.bcv_base.specs.Image.{Page}
use Rattle.bcv_base.specs.Log.{object_of}
use Rattle.bcv_dbmap.specs.declared.plan.EditPlan.{EditPlan}
use Rattle.bcv_dbmap.specs.declared.plan.EditPlan.TheVariants as edit
use Rattle.bcv_dbmap.specs.OwnBlock.{IsOwnBlock}
use Rattle.bcv_dbmap.specs.RequestGrowth.{RequestGrowth}
use Rattle.bcv_publish.specs.declared.work.BlockEnd.TheVariants as end
use Rattle.bcv_publish.specs.declared.work.Work.{Work}
use Rattle.bcv_publish.specs.declared.work.Work.TheVariants as work
use Rattle.bcv_publish.specs.BlockPut.{AreFresh, SoundBlockEnds}
use Rattle.bcv_publish.specs.ManifestGet.{GetLeaves, SoundGetEnds, ManifestGetTold}
use Rattle.bcv_publish.specs.Request.{OverSoundLog, TakesOutcome, MayTakeOutcome}
use Rattle.bcv_publish.specs.State as publish
use Rattle.bcv_store.specs.Asked.{Adds, PutFails}
use Rattle.bcv_store.specs.Plans.{next_of, AreOthers}
use Rattle.bcv_store.specs.StoreShown.{StoreTold, StoreShown}
use Rattle.bcv_dbcopy.specs.State.{State, with_block, block_text}

-- the task with its publication after a get; the first manifest that is kept tells the block size
abbrev pub block_known : Option ℕ → Option Latest → Option ℕ
block_known (Some block) latest = Some block
block_known None None = None
block_known None (Some l) = Some l.manifest.block

abbrev pub with_publish : State → publish.State → State
with_publish s p = record s { publish = p; block = block_known s.block p.latest }

-- ---- whatever the store

-- the put of a block: one more id, or nothing has changed
abbrev pub BlockLeaves : State → Work → State → Type 0
BlockLeaves old work.More new = (i : Id16) × (new ≡ with_block old i)
BlockLeaves old work.NameTaken new = new ≡ old
BlockLeaves old work.StoreFault new = new ≡ old
BlockLeaves old work.NamesFault new = new ≡ old
BlockLeaves old work.NoMemory new = new ≡ old
BlockLeaves old _ new = ⊥

-- where no manifest is kept it is read, else a block is put
abbrev pub WorkLeaves : Option Latest → Seen → State → Work → State → Type 0
WorkLeaves None seen old result new = (p : publish.State) × GetLeaves seen old.edit old.publish result p × (new ≡ with_publish old p)
WorkLeaves (Some l) seen old result new = BlockLeaves old result new

-- ---- names

-- which names a step draws: the one of the block that was put, or that of a put that failed; none where the manifest is
-- read or the draw failed
abbrev pub DrawsFor : Option Latest → State → Work → State → List Id16 → Type 0
DrawsFor None old result new ids = ids ≡ []
DrawsFor (Some l) old work.More new ids = (i : Id16) × (ids ≡ i ∷ []) × (new ≡ with_block old i)
DrawsFor (Some l) old work.NamesFault new ids = ids ≡ []
DrawsFor (Some l) old work.NoMemory new ids = length ids ≤ 1
DrawsFor (Some l) old result new ids = length ids ≡ 1

-- ---- over any log that is told

-- the bytes of the next block
abbrev pub next_text : ℕ → State → EditPlan → List ℕ
next_text block s (edit.New e) = block_text block e.page_size s.pages (length e.blocks)
next_text block s _ = []

-- how the put of a block under a name ends, after a log
abbrev pub BlockEnds : Outcome → List Entry → List Entry → Id16 → List ℕ → State → Work → State → Type 0
BlockEnds o log after i bytes s work.More t =
    (etag : ℕ) × (o ≡ outcome.Ok) × (object_of (object.Block i) log ≡ None) × Adds log after (object.Block i) bytes etag × (t ≡ with_block s i)
BlockEnds o log after i bytes s work.NameTaken t = (o ≡ outcome.Ok) × (is_none (object_of (object.Block i) log) ≡ false) × (after ≡ log)
BlockEnds o log after i bytes s work.StoreFault t = PutFails o (is_none (object_of (object.Block i) log)) log after (object.Block i) bytes
BlockEnds o log after i bytes s work.NoMemory t = after ≡ log
BlockEnds o log after i bytes s _ t = ⊥

-- the put of a block that was asked for: the name is the one that was drawn
pub record PutsBlock (store : StoreTold) (old new : StoreShown) (ids : List Id16) (block : ℕ) (s : State) (result : Work) (t : State) : Type 0 where
  pub others : List Entry
  pub by_others : AreOthers store.alone others
  pub outcome : Outcome
  pub next : store.plans → outcome ≡ next_of old.plan
  pub id : Id16
  pub drawn : ids ≡ id ∷ []
  pub ends : BlockEnds outcome (old.log ++ others) new.log id (next_text block s s.edit) s result t

-- no name was drawn, or memory ran out before the request: there was none
abbrev pub BlockStep : StoreTold → StoreShown → StoreShown → List Id16 → ℕ → State → Work → State → Type 0
BlockStep store old new ids block s work.NamesFault t = new.log ≡ old.log
BlockStep store old new ids block s work.NoMemory t = (others : List Entry) × AreOthers store.alone others × (new.log ≡ old.log ++ others)
BlockStep store old new ids block s result t = PutsBlock store old new ids block s result t

-- the manifest's get, or the put of the next block
abbrev pub WorkTold : StoreTold → StoreShown → StoreShown → List Id16 → Option Latest → Seen → State → Work → State → Type 0
WorkTold store old new ids None seen s result t = ManifestGetTold store old new seen s.edit s.publish result t.publish
WorkTold store old new ids (Some l) seen s result t = BlockStep store old new ids l.manifest.block s result t

-- ---- over a sound log

-- the blocks of a new database, from the one of a number on, are mine and lie in the log, each with its pages
abbrev pub AreOwnBlocks : List Id16 → List Item → ℕ → ℕ → List Page → ℕ → List Id16 → Type 0
AreOwnBlocks mine past block page_size pages n [] = Unit {0}
AreOwnBlocks mine past block page_size pages n (i ∷ is) =
    IsOwnBlock mine past block i × (first_put past i ≡ Some (block_text block page_size pages n)) × AreOwnBlocks mine past block page_size pages (suc n) is

abbrev pub HasBlocks : List Id16 → List Item → List Page → EditPlan → Option ℕ → Type 0
HasBlocks mine past pages (edit.New e) (Some block) = AreOwnBlocks mine past block e.page_size pages 0 e.blocks
HasBlocks mine past pages _ _ = Unit {0}

-- what a task has put lies in a log
abbrev pub OwnsBlocks : List Id16 → List Entry → State → Type 0
OwnsBlocks mine log s = HasBlocks mine (history_of log) s.pages s.edit s.block

-- what comes of a block's put over a sound log, by what was put under the name before
abbrev pub SoundBlockWork : Outcome → List Item → List Entry → List Id16 → List ℕ → Work → Type 0
SoundBlockWork o past own ids bytes work.More = SoundBlockEnds o past own ids bytes end.Stored
SoundBlockWork o past own ids bytes work.NameTaken = SoundBlockEnds o past own ids bytes end.NameTaken
SoundBlockWork o past own ids bytes work.StoreFault = SoundBlockEnds o past own ids bytes end.StoreFault
SoundBlockWork o past own ids bytes work.NamesFault = SoundBlockEnds o past own ids bytes end.NamesFault
SoundBlockWork o past own ids bytes work.NoMemory = SoundBlockEnds o past own ids bytes end.NoMemory
SoundBlockWork o past own ids bytes _ = ⊥

-- how a step ends over a sound log: the manifest that is read is the last one, and nothing is appended; or the next block is put
abbrev pub SoundWorkEnds : Outcome → List Entry → List Entry → List Entry → List Id16 → Option Latest → Seen → State → Work → State → Type 0
SoundWorkEnds o before after own ids None seen s result t = (own ≡ []) × SoundGetEnds o after seen s.edit s.publish result t.publish
SoundWorkEnds o before after own ids (Some l) seen s result t = SoundBlockWork o (history_of before) own ids (next_text l.manifest.block s s.edit) result

-- a step over a sound log that others grow by lawful entries: what was put stays, or is there now
pub record WorkSound (store : StoreTold) (mine : List Id16) (old new : StoreShown) (ids : List Id16) (seen : Seen) (s : State) (result : Work) (t : State) : Type 0 where
  pub growth : RequestGrowth store.alone mine old.log new.log
  pub outcome : Outcome
  pub next : store.plans → outcome ≡ next_of old.plan
  pub ends : SoundWorkEnds outcome old.log new.log growth.own ids s.publish.latest seen s result t
  pub blocks : OwnsBlocks mine new.log t

-- ---- the whole

-- a step takes a planned outcome; where no name was drawn there is no request, and where memory ran out there may be none
abbrev pub WorkTakes : StoreTold → StoreShown → StoreShown → Work → Type 0
WorkTakes store old new work.NamesFault = new ≡ old
WorkTakes store old new work.NoMemory = MayTakeOutcome store old new
WorkTakes store old new _ = TakesOutcome store old new

-- the names fail exactly where their count of faults rose
abbrev pub WorkNamesCause : ℕ → ℕ → Work → Type 0
WorkNamesCause before now work.NamesFault = (before ≤ now) × Rose before now
WorkNamesCause before now _ = now ≡ before

-- what a step says of the store and of the names, and its causes: which names it draws, what the log has then where the
-- store tells it, and that it is sound where it was and the names are fresh
pub record TaskWorks (store : StoreTold) (old new : StoreShown) (names later_names : NamesShown) (seen : Seen) (s : State) (result : Work) (t : State) : Type 0 where
  pub ids : List Id16
  pub drawn : AddsNames names.drawn later_names.drawn ids
  pub draws : DrawsFor s.publish.latest s result t ids
  pub told : store.tells → WorkTold store old new ids s.publish.latest seen s result t
  pub sound : OverSoundLog store old new (λ mine. OwnsBlocks mine old.log s → AreFresh mine old.log ids → WorkSound store mine old new ids seen s result t)
  pub taken : WorkTakes store old new result
  pub later : old.faults ≤ new.faults
  pub failed : result ≡ work.StoreFault → Rose old.faults new.faults
  pub names_failed : WorkNamesCause names.faults later_names.faults result
