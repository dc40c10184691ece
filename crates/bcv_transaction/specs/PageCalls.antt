-- What one page of a transaction answers, and what it does to the cache.
use Rattle.std.specs.Prelude.{◌≡◌, ◌≤◌, ℕ, Bool, true, false, ◌||◌, List, nat_eq, nat_lt, Some, IsSomeAnd, Ok}
use Rattle.std.specs.declared.alloc.AllocError.{AllocError}
use Rattle.bcv_base.specs.declared.id.Id16.{Id16}
use Rattle.bcv_base.specs.declared.seen.TxnBase.{TxnBase}
use Rattle.bcv_base.specs.Image.{Page, Writes, zeros}
use Rattle.bcv_base.specs.Views.{Wrote}
use Rattle.bcv_cache.specs.Cache.{IsCache, IsSlotOf, has_room}
use Rattle.bcv_cache.specs.Entry.{Blocks, Entry}
use Rattle.bcv_snapshot.specs.declared.place.Place.{Place}
use Rattle.bcv_snapshot.specs.declared.place.Place.TheVariants as place
use Rattle.bcv_snapshot.specs.Opened.{Opened, block_id, is_held, source_of}
use Rattle.bcv_snapshot.specs.TxnCalls.{IsPageIn, TxnFrees, TxnHolds, TxnPlaces}
use Rattle.bcv_transaction.specs.declared.answers.Came.{Came}
use Rattle.bcv_transaction.specs.declared.answers.Came.TheVariants as came
use Rattle.bcv_transaction.specs.declared.answers.Freed.{Freed}
use Rattle.bcv_transaction.specs.declared.answers.Freed.TheVariants as freed

-- ---- answers

-- these bytes are answered, unless memory runs out
abbrev pub IsCopy : Page → Came → Type 0
IsCopy bytes (came.Page copy) = copy.items ≡ bytes
IsCopy bytes came.Held = ⊥
IsCopy bytes (came.Absent id) = ⊥
IsCopy bytes came.CacheFull = ⊥
IsCopy bytes came.BadPage = ⊥
IsCopy bytes came.NoTxn = ⊥
IsCopy bytes came.NoMemory = Unit {0}

-- the answer where a block is not cached, by whether it can come in
abbrev pub absent_as : Id16 → Bool → Came
absent_as id true = came.Absent id
absent_as id false = came.CacheFull

abbrev pub AbsentAs : Id16 → Blocks → Came → Type 0
AbsentAs id c r = (r ≡ absent_as id (has_room c)) × IsCache c

-- ---- read

-- what a read answers, by where the page is
abbrev pub ReadAs : Opened → List Writes → ℕ → Place → Came → Blocks → Type 0
ReadAs t cs p place.BadPage r d = r ≡ came.BadPage
ReadAs t cs p place.Local r d = (bytes : Page) × (source_of t.base cs p ≡ Some (Wrote bytes)) × IsCopy bytes r
ReadAs t cs p place.Zeros r d = IsCopy (zeros t.base.entry.page_size) r
ReadAs t cs p (place.Cached slot) r d = (bytes : Page) × IsPageIn t.base d slot p bytes × IsCopy bytes r
ReadAs t cs p (place.Absent id) r d = AbsentAs id d r

-- a read of a page: the page is in its place, and is answered so
abbrev pub ReadsPage : Opened → List Writes → Blocks → ℕ → Came → Blocks → Type 0
ReadsPage t cs c p r d = (at : Place) × TxnPlaces t cs c p at d × ReadAs t cs p at r d

-- ---- hold

-- the block of a page is pinned where it was found, unless memory runs out
abbrev pub HeldIn : Opened → Blocks → ℕ → ℕ → Came → Opened → Blocks → Type 0
HeldIn t c p slot came.Held u d = TxnHolds {E = AllocError} (is_held t p) t c p slot (Ok tt) u d
HeldIn t c p slot came.NoMemory u d = (is_held t p ≡ false) × (u ≡ t) × (d ≡ c)
HeldIn t c p slot (came.Page copy) u d = ⊥
HeldIn t c p slot (came.Absent id) u d = ⊥
HeldIn t c p slot came.CacheFull u d = ⊥
HeldIn t c p slot came.BadPage u d = ⊥
HeldIn t c p slot came.NoTxn u d = ⊥

-- what a hold answers and does, by where the page is, once it is found there
abbrev pub HeldAs : Opened → ℕ → Place → Blocks → Came → Opened → Blocks → Type 0
HeldAs t p place.BadPage c r u d = (r ≡ came.BadPage) × (u ≡ t) × (d ≡ c)
HeldAs t p place.Local c r u d = (r ≡ came.Held) × (u ≡ t) × (d ≡ c)
HeldAs t p place.Zeros c r u d = (r ≡ came.Held) × (u ≡ t) × (d ≡ c)
HeldAs t p (place.Cached slot) c r u d = HeldIn t c p slot r u d
HeldAs t p (place.Absent id) c r u d = AbsentAs id c r × (u ≡ t) × (d ≡ c)

-- a hold of a page: the page is found in its place, and its block is held there
abbrev pub HoldsPage : Opened → List Writes → Blocks → ℕ → Came → Opened → Blocks → Type 0
HoldsPage t cs c p r u d = (at : Place) × (found : Blocks) × TxnPlaces t cs c p at found × HeldAs t p at found r u d

-- the block of a page of the base is in this slot
abbrev pub IsSlotOfPage : TxnBase → ℕ → ℕ → List Entry → Type 0
IsSlotOfPage base p slot es = (1 ≤ p) × (p ≤ base.entry.pages) × IsSomeAnd (block_id base p) (λ id. IsSlotOf slot id es)

-- ---- free

-- the page is none of the image's
abbrev pub is_outside : Opened → ℕ → Bool
is_outside t p = nat_eq p 0 || nat_lt t.size p

-- a free of a page: its block is let go, or nothing changes
abbrev pub FreesPage : Opened → Blocks → ℕ → Freed → Opened → Blocks → Type 0
FreesPage t c p freed.Fine u d = (is_outside t p ≡ false) × TxnFrees t c p true u d
FreesPage t c p freed.NotHeld u d = (is_outside t p ≡ false) × TxnFrees t c p false u d
FreesPage t c p freed.BadPage u d = (is_outside t p ≡ true) × (u ≡ t) × (d ≡ c)
FreesPage t c p freed.NoTxn u d = ⊥
