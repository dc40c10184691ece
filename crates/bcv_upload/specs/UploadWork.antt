-- A step of an upload before the manifest's put: the manifest's get, the get of a block's old bytes, or the put of a
-- block.
use Rattle.std.specs.Prelude.{◌≡◌, ◌≢◌, ◌≤◌, ℕ, Bool, true, false, ◌&&◌, List, [], ◌∷◌, ◌++◌, length, find, Option, Some, None, is_none, option_map, unwrap_or, slice_get, IfSome, if◌then◌else◌}
use Rattle.std.specs.Option.{option_map_or}
use Rattle.bcv_base.specs.declared.id.Id16.{Id16}
use Rattle.bcv_base.specs.declared.log.Entry.{Entry}
use Rattle.bcv_base.specs.declared.manifest.Manifest.{Manifest}
use Rattle.bcv_base.specs.declared.object.ObjName.TheVariants as object
use Rattle.bcv_base.specs.declared.outcome.Outcome.{Outcome}
use Rattle.bcv_base.specs.declared.outcome.Outcome.TheVariants as outcome
use Rattle.bcv_base.specs.declared.seen.Latest.{Latest}
use Rattle.bcv_base.specs.declared.seen.Seen.{Seen}
use Rattle.bcv_base.specs.declared.seen.TxnBase.{TxnBase}
use Rattle.bcv_base.specs.Drawn.{NamesShown, AddsNames}
use Rattle.bcv_base.specs.Faults.{Rose}
use Rattle.bcv_base.specs.History.{Item, Published, history_of, first_put}
use Rattle.bcv_base.specs.Image.{Writes, or_else}
use Rattle.bcv_base.specs.Log.{Object, object_of}
use Rattle.bcv_cache.specs.Cache.{has_id, slot_of, found_first}
use Rattle.bcv_cache.specs.Entry.{Blocks}
use Rattle.bcv_cache.specs.Entry as cache
use Rattle.bcv_dbmap.specs.OwnBlock.{IsOwnBlock}
use Rattle.bcv_dbmap.specs.Outlived.{IsGone, IsPublished}
use Rattle.bcv_dbmap.specs.Past.{IsAmong}
use Rattle.bcv_dbmap.specs.RequestGrowth.{RequestGrowth}
use Rattle.bcv_publish.specs.declared.work.BlockEnd.{BlockEnd}
use Rattle.bcv_publish.specs.declared.work.Work.{Work}
use Rattle.bcv_publish.specs.declared.work.Work.TheVariants as work
use Rattle.bcv_publish.specs.BlockPut.{AreFresh, BlockPutTold, SoundBlockEnds, block_work}
use Rattle.bcv_publish.specs.ManifestGet.{GetLeaves, SoundGetEnds, ManifestGetTold}
use Rattle.bcv_publish.specs.Request.{OverSoundLog, TakesOutcome, MayTakeOutcome}
use Rattle.bcv_publish.specs.State as publish
use Rattle.bcv_store.specs.Plans.{next_of, AreOthers}
use Rattle.bcv_store.specs.StoreShown.{StoreTold, StoreShown}
use Rattle.bcv_upload.specs.BlockText.{has_base, view_block}
use Rattle.bcv_upload.specs.State.{State, asked_plan, base_id, next_block, old_id, with_block, with_fetched}

-- ---- which step it is

-- the bytes of a block in a cache
abbrev pub cached_bytes : Id16 → List cache.Entry → Option (List ℕ)
cached_bytes i es = option_map (λ e. e.bytes) (find (has_id i) es)

-- the old bytes of a block are looked for in the cache: it holds a page of the base, and no get brought them
abbrev pub asks_cache : TxnBase → List Writes → ℕ → Option (List ℕ) → Bool
asks_cache base view n fetched = has_base base view n && is_none fetched

-- they are not there, so a get brings them
abbrev pub asks_store : TxnBase → List Writes → ℕ → Option (List ℕ) → List cache.Entry → Bool
asks_store base view n fetched es = asks_cache base view n fetched && is_none (slot_of (base_id base n) es)

-- the old bytes over which a block is made
abbrev pub old_bytes : TxnBase → List Writes → ℕ → Option (List ℕ) → List cache.Entry → List ℕ
old_bytes base view n fetched es =
    if has_base base view n then unwrap_or (or_else fetched (cached_bytes (base_id base n) es)) [] else []

-- the bytes of a block
abbrev pub text_of : TxnBase → List Writes → ℕ → Option (List ℕ) → List cache.Entry → List ℕ
text_of base view n fetched es = view_block base view (old_bytes base view n fetched es) n

-- the cache after a block was looked for: one that was found comes first
abbrev pub cache_asked : TxnBase → List Writes → ℕ → Option (List ℕ) → Blocks → Blocks
cache_asked base view n fetched c =
    if asks_cache base view n fetched then record c { entries = found_first (base_id base n) c.entries } else c

-- of the next block of an upload
abbrev pub is_fetch : List Writes → Blocks → State → Bool
is_fetch view c s = asks_store s.base view (next_block s) s.fetched c.entries

abbrev pub next_text : List Writes → Blocks → State → List ℕ
next_text view c s = text_of s.base view (next_block s) s.fetched c.entries

-- ---- whatever the store

-- the cache after a step: the manifest's get does not look at it
abbrev pub cache_after : Option Latest → List Writes → State → Blocks → Blocks
cache_after None view s c = c
cache_after (Some l) view s c = cache_asked s.base view (next_block s) s.fetched c

-- the publication after a get
abbrev pub with_publish : State → publish.State → State
with_publish s p = record s { publish = p }

-- the get of old bytes: they are kept, or nothing has changed
abbrev pub FetchLeaves : State → Work → State → Type 0
FetchLeaves old work.More new =
    (bytes : List ℕ) × (old.fetched ≡ None) × (length bytes ≡ old.base.block) × (new ≡ with_fetched old bytes)
FetchLeaves old work.Gone new = new ≡ old
FetchLeaves old (work.BadBlock len) new = (len ≢ old.base.block) × (new ≡ old)
FetchLeaves old work.StoreFault new = new ≡ old
FetchLeaves old work.NoMemory new = new ≡ old
FetchLeaves old _ new = ⊥

-- the put of a block: one more id, or nothing has changed
abbrev pub BlockLeaves : State → Work → State → Type 0
BlockLeaves old work.More new = (i : Id16) × (new ≡ with_block old i)
BlockLeaves old work.NameTaken new = new ≡ old
BlockLeaves old work.StoreFault new = new ≡ old
BlockLeaves old work.NamesFault new = new ≡ old
BlockLeaves old work.NoMemory new = new ≡ old
BlockLeaves old _ new = ⊥

-- where no manifest is kept it is read, else old bytes are fetched or a block is put
abbrev pub WorkLeaves : Option Latest → Bool → Seen → State → Work → State → Type 0
WorkLeaves None fetch seen old result new =
    (p : publish.State) × GetLeaves seen (asked_plan old) old.publish result p × (new ≡ with_publish old p)
WorkLeaves (Some l) true seen old result new = FetchLeaves old result new
WorkLeaves (Some l) false seen old result new = BlockLeaves old result new

-- ---- names

-- which names the put of a block draws: that of the block that was put, or that of a put that failed; none where the draw
-- failed
abbrev pub BlockDraws : State → Work → State → List Id16 → Type 0
BlockDraws old work.More new ids = (i : Id16) × (ids ≡ i ∷ []) × (new ≡ with_block old i)
BlockDraws old work.NamesFault new ids = ids ≡ []
BlockDraws old work.NoMemory new ids = length ids ≤ 1
BlockDraws old result new ids = length ids ≡ 1

-- a get draws none
abbrev pub DrawsFor : Option Latest → Bool → State → Work → State → List Id16 → Type 0
DrawsFor None fetch old result new ids = ids ≡ []
DrawsFor (Some l) true old result new ids = ids ≡ []
DrawsFor (Some l) false old result new ids = BlockDraws old result new ids

-- ---- over any log that is told

-- how the get of a block ends, over the object that is there: gone exactly where there is none, bad exactly where it
-- has not the block size
abbrev pub FetchEnds : Outcome → Option Object → ℕ → Work → Option (List ℕ) → Type 0
FetchEnds o x block work.More kept =
    (there : Object) × (o ≡ outcome.Ok) × (x ≡ Some there) × (length there.bytes ≡ block) × (kept ≡ Some there.bytes)
FetchEnds o x block work.Gone kept = (o ≡ outcome.Ok) × (x ≡ None)
FetchEnds o x block (work.BadBlock len) kept =
    (there : Object) × (o ≡ outcome.Ok) × (x ≡ Some there) × (length there.bytes ≡ len) × (len ≢ block)
FetchEnds o x block work.StoreFault kept = o ≢ outcome.Ok
FetchEnds o x block work.NoMemory kept = Unit {0}
FetchEnds o x block _ kept = ⊥

-- the get of a block from a store that tells its log
pub record FetchTold (store : StoreTold) (old new : StoreShown) (id : Id16) (block : ℕ) (result : Work)
    (kept : Option (List ℕ)) : Type 0 where
  pub others : List Entry
  pub by_others : AreOthers store.alone others
  pub grown : new.log ≡ old.log ++ others
  pub outcome : Outcome
  pub next : store.plans → outcome ≡ next_of old.plan
  pub ends : FetchEnds outcome (object_of (object.Block id) new.log) block result kept

-- the put of a block, whose end is the answer
abbrev pub PutTold : StoreTold → StoreShown → StoreShown → List Id16 → List ℕ → Work → Type 0
PutTold store old new ids bytes result =
    (end : BlockEnd) × (result ≡ block_work end) × BlockPutTold store old new ids bytes end

-- the manifest's get, the get of a block's old bytes, or the put of a block of these bytes
abbrev pub WorkTold : StoreTold → StoreShown → StoreShown → List Id16 → Option Latest → Bool → Seen → List ℕ → State
    → Work → State → Type 0
WorkTold store old new ids None fetch seen text s result t =
    ManifestGetTold store old new seen (asked_plan s) s.publish result t.publish
WorkTold store old new ids (Some l) true seen text s result t =
    FetchTold store old new (old_id s) s.base.block result t.fetched
WorkTold store old new ids (Some l) false seen text s result t = PutTold store old new ids text result

-- ---- over a sound log

-- the first bytes put under an id
abbrev pub first_text : List Item → Id16 → List ℕ
first_text past i = unwrap_or (first_put past i) []

-- the bytes of a block of the base, and none where the base has no such block
abbrev pub old_text : List Item → TxnBase → ℕ → List ℕ
old_text past base n = option_map_or (first_text past) (slice_get base.entry.blocks n) []

-- the touched blocks that were put are mine and lie in the log, each with the bytes of the view
abbrev pub AreOwnBlocks : List Id16 → List Item → TxnBase → List Writes → List Id16 → List ℕ → Type 0
AreOwnBlocks mine past base view [] ns = Unit {0}
AreOwnBlocks mine past base view (i ∷ is) [] = ⊥
AreOwnBlocks mine past base view (i ∷ is) (n ∷ ns) =
    IsOwnBlock mine past base.block i × (first_put past i ≡ Some (view_block base view (old_text past base n) n))
    × AreOwnBlocks mine past base view is ns

-- the base's entry was listed, by a manifest of its block size
pub record WasListed (past : List Item) (base : TxnBase) : Type 0 where
  pub manifest : Manifest
  pub published : IsPublished manifest past
  pub among : IsAmong base.entry manifest.dbs
  pub block : manifest.block ≡ base.block

-- what an upload stands on and what it has put lie in a log, and the old bytes that a get brought are those put first
pub record OwnsBlocks (mine : List Id16) (log : List Entry) (view : List Writes) (s : State) : Type 0 where
  pub listed : WasListed (history_of log) s.base
  pub blocks : AreOwnBlocks mine (history_of log) s.base view s.ids s.touched
  pub fetched : IfSome s.fetched (λ bytes. first_put (history_of log) (old_id s) ≡ Some bytes)

-- each block in a cache has the bytes put first under its id
abbrev pub AreFirstPuts : List Item → List cache.Entry → Type 0
AreFirstPuts past es = (i : Id16) (bytes : List ℕ) → cached_bytes i es ≡ Some bytes → first_put past i ≡ Some bytes

-- where a block of the base is gone, a version after each one that lists the base's entry has no such entry any more,
-- and lay the retention back when the block was deleted
abbrev pub IsOutlivedBase : List Item → TxnBase → Id16 → Type 0
IsOutlivedBase past base i =
    (later before : List Item) (m : Manifest) → past ≡ later ++ Published m ∷ before → IsAmong base.entry m.dbs
    → IsGone later base.entry i

-- how the get of a block of the base ends: it has the bytes put first and the block size, or it was deleted
abbrev pub SoundFetchEnds : Outcome → List Item → TxnBase → Id16 → Work → Option (List ℕ) → Type 0
SoundFetchEnds o past base i work.More kept =
    (bytes : List ℕ) × (o ≡ outcome.Ok) × (first_put past i ≡ Some bytes) × (kept ≡ Some bytes)
SoundFetchEnds o past base i work.Gone kept = (o ≡ outcome.Ok) × IsOutlivedBase past base i
SoundFetchEnds o past base i work.StoreFault kept = o ≢ outcome.Ok
SoundFetchEnds o past base i work.NoMemory kept = Unit {0}
SoundFetchEnds o past base i _ kept = ⊥

-- how the put of a block ends: it is appended, or nothing is
abbrev pub SoundPutEnds : Outcome → List Item → List Entry → List Id16 → List ℕ → Work → Type 0
SoundPutEnds o past own ids bytes result =
    (end : BlockEnd) × (result ≡ block_work end) × SoundBlockEnds o past own ids bytes end

-- how a step ends over a sound log: a get appends nothing
abbrev pub SoundWorkEnds : Outcome → List Entry → List Entry → List Entry → List Id16 → Option Latest → Bool → Seen
    → List ℕ → State → Work → State → Type 0
SoundWorkEnds o before after own ids None fetch seen text s result t =
    (own ≡ []) × SoundGetEnds o after seen (asked_plan s) s.publish result t.publish
SoundWorkEnds o before after own ids (Some l) true seen text s result t =
    (own ≡ []) × SoundFetchEnds o (history_of after) s.base (old_id s) result t.fetched
SoundWorkEnds o before after own ids (Some l) false seen text s result t =
    SoundPutEnds o (history_of before) own ids text result

-- a step over a sound log that others grow by lawful entries: what was put stays, or is there now
pub record WorkSound (store : StoreTold) (mine : List Id16) (old new : StoreShown) (ids : List Id16) (fetch : Bool)
    (seen : Seen) (view : List Writes) (text : List ℕ) (s : State) (result : Work) (t : State) : Type 0 where
  pub growth : RequestGrowth store.alone mine old.log new.log
  pub outcome : Outcome
  pub next : store.plans → outcome ≡ next_of old.plan
  pub ends : SoundWorkEnds outcome old.log new.log growth.own ids s.publish.latest fetch seen text s result t
  pub blocks : OwnsBlocks mine new.log view t

-- ---- the whole

-- a step takes a planned outcome; where no name was drawn there is no request, and where memory ran out there may be
-- none
abbrev pub WorkTakes : StoreTold → StoreShown → StoreShown → Work → Type 0
WorkTakes store old new work.NamesFault = new ≡ old
WorkTakes store old new work.NoMemory = MayTakeOutcome store old new
WorkTakes store old new _ = TakesOutcome store old new

-- the names fail exactly where their count of faults rose
abbrev pub WorkNamesCause : ℕ → ℕ → Work → Type 0
WorkNamesCause before now work.NamesFault = (before ≤ now) × Rose before now
WorkNamesCause before now _ = now ≡ before

-- what a step over a view and a cache says of the store and of the names, and its causes: which names it draws, what
-- the log has then where the store tells it, and that it is sound where it was, the cache is true to it and the names are
-- fresh
pub record TaskWorks (store : StoreTold) (old new : StoreShown) (names later_names : NamesShown) (seen : Seen)
    (view : List Writes) (c : Blocks) (s : State) (result : Work) (t : State) : Type 0 where
  pub ids : List Id16
  pub drawn : AddsNames names.drawn later_names.drawn ids
  pub draws : DrawsFor s.publish.latest (is_fetch view c s) s result t ids
  pub told :
      store.tells → WorkTold store old new ids s.publish.latest (is_fetch view c s) seen (next_text view c s) s result t
  pub sound :
      OverSoundLog store old new (λ mine.
      OwnsBlocks mine old.log view s → AreFirstPuts (history_of old.log) c.entries → AreFresh mine old.log ids
      → WorkSound store mine old new ids (is_fetch view c s) seen view (next_text view c s) s result t)
  pub taken : WorkTakes store old new result
  pub later : old.faults ≤ new.faults
  pub failed : result ≡ work.StoreFault → Rose old.faults new.faults
  pub names_failed : WorkNamesCause names.faults later_names.faults result
