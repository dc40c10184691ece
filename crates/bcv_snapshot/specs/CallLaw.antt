-- The calls of a transaction, and a fetch over a sound log, are among the calls that leave an image as it was.
use Rattle.std.specs.Prelude.{◌≡◌, ◌⊎◌, ℕ, Bool, List, map, Result}
use Rattle.std.specs.declared.alloc.AllocError.{AllocError}
use Rattle.bcv_base.specs.declared.id.Id16.{Id16}
use Rattle.bcv_base.specs.declared.outcome.Outcome.{Outcome}
use Rattle.bcv_base.specs.History.{Item}
use Rattle.bcv_base.specs.Image.{Writes}
use Rattle.bcv_cache.specs.Cache.{found_first}
use Rattle.bcv_cache.specs.Entry.{Blocks}
use Rattle.bcv_snapshot.specs.declared.fetched.Fetched.{Fetched}
use Rattle.bcv_snapshot.specs.declared.held_block.HeldBlock.{HeldBlock}
use Rattle.bcv_snapshot.specs.declared.place.Place.{Place}
use Rattle.bcv_snapshot.specs.BlockFetch.{FetchLeaves, SoundFetchEnds}
use Rattle.bcv_snapshot.specs.FixedImage.{IsCacheCall}
use Rattle.bcv_snapshot.specs.Opened.{Opened}
use Rattle.bcv_snapshot.specs.Pins.{given_back}
use Rattle.bcv_snapshot.specs.TxnCalls.{TxnFrees, TxnHolds, TxnPlaces}

-- the cache is as it was, or changes by a call
abbrev pub MayCall : List Item → Blocks → Blocks → Type 0
MayCall past c d = (d ≡ c) ⊎ IsCacheCall past c d

-- what each call says of the cache makes it such a call: of a transaction each one, and of a fetch its find, and its get
-- over a sound log
pub record CallsChangeNoImage : Type 0 where
  pub places : (past : List Item) (t : Opened) (cs : List Writes) (c d : Blocks) (p : ℕ) (r : Place) → TxnPlaces t cs c p r d → MayCall past c d
  pub holds : (past : List Item) (held : Bool) (t u : Opened) (c d : Blocks) (p slot : ℕ) (r : Result (Unit {0}) AllocError)
      → TxnHolds held t c p slot r u d → MayCall past c d
  pub frees : (past : List Item) (t u : Opened) (c d : Blocks) (p : ℕ) (r : Bool) → TxnFrees t c p r u d → MayCall past c d
  pub ends : (past : List Item) (hs : List HeldBlock) (c d : Blocks) → d ≡ record c { entries = map (given_back hs) c.entries } → MayCall past c d
  pub finds : (past : List Item) (id : Id16) (c d : Blocks) → d ≡ record c { entries = found_first id c.entries } → MayCall past c d
  pub gets : (o : Outcome) (past : List Item) (id : Id16) (c d : Blocks) (r : Fetched) → FetchLeaves id c r d → SoundFetchEnds o past id c r d → MayCall past c d
