-- The image of a transaction is fixed: what a page shows is a function of what the transaction began with and of the
-- bytes first put under the ids of its base, whatever calls come between.
use Rattle.std.specs.Prelude.{length, ◌≡◌, ◌⊎◌, ℕ, true, List, [], ◌∷◌, map, Option, Some, None}
use Rattle.std.specs.List.{AllByRecursion}
use Rattle.bcv_base.specs.declared.id.Id16.{Id16}
use Rattle.bcv_base.specs.declared.manifest.Manifest.{Manifest}
use Rattle.bcv_base.specs.declared.seen.TxnBase.{TxnBase}
use Rattle.bcv_base.specs.History.{Item, HasBlock, first_put}
use Rattle.bcv_base.specs.Ids.{has_id}
use Rattle.bcv_base.specs.Image.{Page, Writes, zeros, page_of, view_image}
use Rattle.bcv_base.specs.Joined.{image_of}
use Rattle.bcv_base.specs.Views.{view_size}
use Rattle.bcv_cache.specs.Entry.{Entry, Blocks}
use Rattle.bcv_cache.specs.Cache.{counted_down, counted_up, filled, found_first}
use Rattle.bcv_dbmap.specs.Outlived.{IsPublished}
use Rattle.bcv_dbmap.specs.Past.{IsAmong}
use Rattle.bcv_dbmap.specs.Sound.{Sound}
use Rattle.bcv_pages.specs.Held.{Held, CanView, KeepsView, view_of}
use Rattle.bcv_snapshot.specs.declared.held_block.HeldBlock.{HeldBlock}
use Rattle.bcv_snapshot.specs.declared.look.Look.{Look}
use Rattle.bcv_snapshot.specs.declared.look.Look.TheVariants as look
use Rattle.bcv_snapshot.specs.declared.place.Place.{Place}
use Rattle.bcv_snapshot.specs.declared.place.Place.TheVariants as place
use Rattle.bcv_snapshot.specs.Opened.{Opened, IsTxn, page_bytes}
use Rattle.bcv_snapshot.specs.Pins.{given_back, HasPins}
use Rattle.bcv_snapshot.specs.TxnCalls.{TxnLooks, TxnPlaces, IsPageIn}

-- ---- images

-- the image of a base with the commits of its view, out of the bytes first put under its ids
abbrev pub fixed_image : List Item → TxnBase → List Writes → List Page
fixed_image past base cs =
    view_image base.entry.page_size (image_of past base.entry.pages base.entry.page_size base.entry.blocks) cs

-- each block of the base was put, with the block size
abbrev pub ArePut : List Item → TxnBase → Type 0
ArePut past base = (i : Id16) → has_id i base.entry.blocks ≡ true → HasBlock past i base.block

-- an entry of a block of the base has the bytes first put under its id
abbrev pub HasFirst : List Item → TxnBase → Entry → Type 0
HasFirst past base e = has_id e.id base.entry.blocks ≡ true → first_put past e.id ≡ Some e.bytes

-- ---- what happens around a transaction

-- a moment: the commits of the database, the cache, and what the store's log says
pub record Moment : Type 0 where
  pub pages : Held
  pub cache : Blocks
  pub past : List Item

-- what a call does to the entries of a cache: a find, one pin more or less, all pins of a transaction less, or a block
-- that is fetched as it was first put
abbrev pub IsCacheCall : List Item → Blocks → Blocks → Type 0
IsCacheCall past c d =
    ((id : Id16) × (d.entries ≡ found_first id c.entries))
    ⊎ ((slot : ℕ) × (d.entries ≡ map (counted_up slot) c.entries))
    ⊎ ((slot : ℕ) × (d.entries ≡ map (counted_down slot) c.entries))
    ⊎ ((hs : List HeldBlock) × (d.entries ≡ map (given_back hs) c.entries))
    ⊎ ((slot : ℕ) × (id : Id16) × (bytes : List ℕ) × (first_put past id ≡ Some bytes) × (d ≡ filled slot id bytes c))

-- one call of anybody: the commits change and keep the view, the cache changes by a call, or the log grows by an entry
abbrev pub IsCall : TxnBase → Moment → Moment → Type 0
IsCall base a b =
    (KeepsView a.pages b.pages base.from base.to × (b.cache ≡ a.cache) × (b.past ≡ a.past))
    ⊎ ((b.pages ≡ a.pages) × IsCacheCall a.past a.cache b.cache × (b.past ≡ a.past))
    ⊎ ((b.pages ≡ a.pages) × (b.cache ≡ a.cache) × ((x : Item) × (b.past ≡ x ∷ a.past)))

-- calls in any order, by way of these moments
abbrev pub AreCalls : TxnBase → Moment → List Moment → Moment → Type 0
AreCalls base a [] b = b ≡ a
AreCalls base a (m ∷ ms) b = IsCall base a m × AreCalls base m ms b

-- a transaction may begin: its view can be asked for, its blocks were put, and those of them that are cached are as they
-- were first put
pub record CanBegin (base : TxnBase) (a : Moment) : Type 0 where
  pub view : CanView a.pages base.from base.to
  pub put : ArePut a.past base
  pub first : AllByRecursion (HasFirst a.past base) a.cache.entries

-- ---- the laws

-- what a look shows is the page of an image, or it shows none
abbrev pub ShowsPage : ℕ → Option Page → Look → Type 0
ShowsPage page_size o look.BadPage = o ≡ None
ShowsPage page_size o (look.Page bytes) = o ≡ Some bytes.now
ShowsPage page_size o look.Zeros = o ≡ Some (zeros page_size)
ShowsPage page_size o look.NotHeld = Unit {0}
ShowsPage page_size o look.NoTxn = Unit {0}

-- where a page is, it is the page of an image: as zeros, in the cached block, or in the bytes first put under the id
abbrev pub PlacesPage : List Item → TxnBase → ℕ → Option Page → Place → Blocks → Type 0
PlacesPage past base p o place.BadPage d = o ≡ None
PlacesPage past base p o place.Local d = (bytes : Page) × (o ≡ Some bytes)
PlacesPage past base p o place.Zeros d = o ≡ Some (zeros base.entry.page_size)
PlacesPage past base p o (place.Cached slot) d = (bytes : Page) → IsPageIn base d slot p bytes → o ≡ Some bytes
PlacesPage past base p o (place.Absent id) d = (bytes : List ℕ) × (first_put past id ≡ Some bytes) × (o ≡ Some (page_bytes base p bytes))

-- the blocks of an entry of a version in a sound log were put, with the block size
abbrev pub VersionsArePut : Type 0
VersionsArePut =
    (past : List Item) (m : Manifest) (base : TxnBase) → Sound past → IsPublished m past → IsAmong base.entry m.dbs → base.block ≡ m.block → ArePut past base

-- the size of a view is that of its image
abbrev pub SizesAreFixed : Type 0
SizesAreFixed = (past : List Item) (base : TxnBase) (cs : List Writes) → length (fixed_image past base cs) ≡ view_size base.entry.pages cs

-- after any calls a look shows the page of the image at the begin
abbrev pub LooksAtFixedImage : Type 0
LooksAtFixedImage =
    (a b : Moment) (ms : List Moment) (t : Opened) (p : ℕ) (r : Look) → IsTxn t → CanBegin t.base a → AreCalls t.base a ms b
    → HasPins t.held b.cache.entries → TxnLooks t (view_of b.pages t.base.from t.base.to) b.cache p r
    → ShowsPage t.base.entry.page_size (page_of (fixed_image a.past t.base (view_of a.pages t.base.from t.base.to)) p) r

-- after any calls a place leads to the page of the image at the begin
abbrev pub PlacesInFixedImage : Type 0
PlacesInFixedImage =
    (a b : Moment) (ms : List Moment) (t : Opened) (p : ℕ) (r : Place) (d : Blocks) → IsTxn t → CanBegin t.base a → AreCalls t.base a ms b
    → TxnPlaces t (view_of b.pages t.base.from t.base.to) b.cache p r d
    → PlacesPage a.past t.base p (page_of (fixed_image a.past t.base (view_of a.pages t.base.from t.base.to)) p) r d
