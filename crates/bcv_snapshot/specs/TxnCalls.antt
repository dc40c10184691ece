-- What the calls of a transaction answer and do, over the commits of its view and the cache.
use Rattle.std.specs.Prelude.{◌≡◌, ◌⊎◌, ℕ, Bool, true, false, List, [], ◌∷◌, ◌++◌, map, Option, Some, None, Result, Ok, Err, option_map}
use Rattle.bcv_base.specs.declared.id.Id16.{Id16}
use Rattle.bcv_base.specs.declared.seen.TxnBase.{TxnBase}
use Rattle.bcv_base.specs.Image.{Page, Writes}
use Rattle.bcv_base.specs.Views.{FromBase, Added, Wrote}
use Rattle.bcv_cache.specs.Entry.{Blocks, Pinned}
use Rattle.bcv_cache.specs.Cache.{entry_in, slot_of, found_first, without, counted_up, counted_down, IsSlotOf}
use Rattle.bcv_snapshot.specs.declared.look.Look.{Look}
use Rattle.bcv_snapshot.specs.declared.look.Look.TheVariants as look
use Rattle.bcv_snapshot.specs.declared.place.Place.{Place}
use Rattle.bcv_snapshot.specs.declared.place.Place.TheVariants as place
use Rattle.bcv_snapshot.specs.Opened.{Opened, source_of, number_of, block_id, page_bytes, has_block_number, pin_of, is_held}

-- ---- place

-- a cached block is found, and is then the most recent one
pub record IsCachedIn (c : Blocks) (i : Option Id16) (slot : ℕ) (d : Blocks) : Type 0 where
  pub id : Id16
  pub is : i ≡ Some id
  pub found : slot_of id c.entries ≡ Some slot
  pub first : d ≡ record c { entries = found_first id c.entries }
  pub entry : IsSlotOf slot id d.entries

-- whether a block of this id is cached
abbrev pub IsCachedOrAbsent : Id16 → Blocks → Place → Blocks → Type 0
IsCachedOrAbsent id c place.BadPage d = ⊥
IsCachedOrAbsent id c place.Local d = ⊥
IsCachedOrAbsent id c place.Zeros d = ⊥
IsCachedOrAbsent id c (place.Cached slot) d = IsCachedIn c (Some id) slot d
IsCachedOrAbsent id c (place.Absent i) d = (i ≡ id) × (slot_of id c.entries ≡ None) × (d ≡ c)

-- where a page is, by where it comes from and by what the cache has
abbrev pub TxnPlaces : Opened → List Writes → Blocks → ℕ → Place → Blocks → Type 0
TxnPlaces t cs c p place.BadPage d = (source_of t.base cs p ≡ None) × (d ≡ c)
TxnPlaces t cs c p place.Local d = (bytes : Page) × (source_of t.base cs p ≡ Some (Wrote bytes)) × (d ≡ c)
TxnPlaces t cs c p place.Zeros d = (source_of t.base cs p ≡ Some Added) × (d ≡ c)
TxnPlaces t cs c p (place.Cached slot) d = (source_of t.base cs p ≡ Some FromBase) × IsCachedIn c (block_id t.base p) slot d
TxnPlaces t cs c p (place.Absent id) d =
    (source_of t.base cs p ≡ Some FromBase) × (block_id t.base p ≡ Some id) × (slot_of id c.entries ≡ None) × (d ≡ c)

-- ---- look and lend

-- the bytes are the page in the block of a slot
pub record IsPageIn (base : TxnBase) (c : Blocks) (slot p : ℕ) (bytes : Page) : Type 0 where
  pub block : List ℕ
  pub there : option_map (λ e. e.bytes) (entry_in slot c.entries) ≡ Some block
  pub page : bytes ≡ page_bytes base p block

-- the bytes are the page in the held block
pub record IsHeldPage (t : Opened) (c : Blocks) (p : ℕ) (bytes : Page) : Type 0 where
  pub pin : Pinned
  pub held : pin_of (number_of t.base p) t.held ≡ Some pin
  pub page : IsPageIn t.base c pin.slot p bytes

-- what a look shows of a page of the base
abbrev pub LooksHeld : Opened → Blocks → ℕ → Look → Type 0
LooksHeld t c p look.BadPage = ⊥
LooksHeld t c p (look.Page bytes) = IsHeldPage t c p bytes.now
LooksHeld t c p look.Zeros = ⊥
LooksHeld t c p look.NotHeld = pin_of (number_of t.base p) t.held ≡ None
LooksHeld t c p look.NoTxn = ⊥

-- what a look shows, by where the page comes from and by what is held
abbrev pub TxnLooks : Opened → List Writes → Blocks → ℕ → Look → Type 0
TxnLooks t cs c p look.BadPage = source_of t.base cs p ≡ None
TxnLooks t cs c p (look.Page bytes) =
    (source_of t.base cs p ≡ Some (Wrote bytes.now)) ⊎ ((source_of t.base cs p ≡ Some FromBase) × IsHeldPage t c p bytes.now)
TxnLooks t cs c p look.Zeros = source_of t.base cs p ≡ Some Added
TxnLooks t cs c p look.NotHeld = (source_of t.base cs p ≡ Some FromBase) × (pin_of (number_of t.base p) t.held ≡ None)
TxnLooks t cs c p look.NoTxn = ⊥

-- ---- hold

-- one block more is held, by one pin more
pub record HoldsOneMore (t : Opened) (c : Blocks) (p slot : ℕ) (u : Opened) (d : Blocks) : Type 0 where
  pub id : Id16
  pub is : block_id t.base p ≡ Some id
  pub held : u ≡ record t { held = t.held ++ record { number = number_of t.base p; pin = record { slot = slot; id = id } } ∷ [] }
  pub pinned : d ≡ record c { entries = map (counted_up slot) c.entries }

-- nothing changes where the block is held already, or where memory runs out; else one block more is held
abbrev pub TxnHolds : {E : Type 0} → Bool → Opened → Blocks → ℕ → ℕ → Result (Unit {0}) E → Opened → Blocks → Type 0
TxnHolds true t c p slot (Ok done) u d = (u ≡ t) × (d ≡ c)
TxnHolds true t c p slot (Err e) u d = ⊥
TxnHolds false t c p slot (Ok done) u d = HoldsOneMore t c p slot u d
TxnHolds false t c p slot (Err e) u d = (u ≡ t) × (d ≡ c)

-- ---- free

-- one block less is held, by one pin less
pub record HoldsOneLess (t : Opened) (c : Blocks) (p : ℕ) (u : Opened) (d : Blocks) : Type 0 where
  pub pin : Pinned
  pub was : pin_of (number_of t.base p) t.held ≡ Some pin
  pub held : u ≡ record t { held = without (has_block_number (number_of t.base p)) t.held }
  pub unpinned : d ≡ record c { entries = map (counted_down pin.slot) c.entries }

-- the page's block is let go where it was held; else nothing changes
abbrev pub TxnFrees : Opened → Blocks → ℕ → Bool → Opened → Blocks → Type 0
TxnFrees t c p true u d = (is_held t p ≡ true) × HoldsOneLess t c p u d
TxnFrees t c p false u d = (is_held t p ≡ false) × (u ≡ t) × (d ≡ c)
