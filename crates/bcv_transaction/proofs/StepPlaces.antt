-- Where the page of a step is: its block is not in the cache, and then it is.
use Rattle.std.proofs.Common.{◌≡◌, ◌∙◌, ℕ, Bool, true, false, cond, List, find, Option, Some, None, option_map, refl, sym, ap, subst}
use Rattle.std.proofs.lemmas.Option.{same_Some}
use Rattle.bcv_base.specs.declared.id.Id16.{Id16}
use Rattle.bcv_base.specs.HistoryLaws.{id_eq-self}
use Rattle.bcv_base.specs.Image.{Page, Writes}
use Rattle.bcv_base.specs.Views.{Added, FromBase, Origin, Wrote}
use Rattle.bcv_cache.specs.Cache.{filled, has_id, has_room, room_made, slot_of}
use Rattle.bcv_cache.specs.Entry.{Blocks, Entry}
use Rattle.bcv_machine.specs.State.{Access, ToHold, ToRead}
use Rattle.bcv_pages.specs.Held.{Held}
use Rattle.bcv_snapshot.specs.declared.fetched.Fetched.{Fetched}
use Rattle.bcv_snapshot.specs.declared.fetched.Fetched.TheVariants as fetched
use Rattle.bcv_snapshot.specs.declared.place.Place.{Place}
use Rattle.bcv_snapshot.specs.declared.place.Place.TheVariants as place
use Rattle.bcv_snapshot.specs.BlockFetch.{BlockFetches, BlockGets}
use Rattle.bcv_snapshot.specs.Opened.{Opened, block_id, source_of}
use Rattle.bcv_snapshot.specs.TxnCalls.{TxnPlaces}
use Rattle.bcv_store.specs.StoreShown.{StoreShown, StoreTold}
use Rattle.bcv_transaction.specs.declared.answers.Came.{Came}
use Rattle.bcv_transaction.specs.declared.answers.Came.TheVariants as came
use Rattle.bcv_transaction.specs.declared.open_txn.OpenTxn.{OpenTxn}
use Rattle.bcv_transaction.specs.ListCalls.{HoldsIn, HoldsOf, ReadsIn, ReadsOf}
use Rattle.bcv_transaction.specs.Open.{AreOpen, AreOpenWith, Open, txn_at, view_in, with_txn}
use Rattle.bcv_transaction.specs.OpenCalls.{CacheCalls, CallsIn}
use Rattle.bcv_transaction.specs.PageCalls.{HeldAs, HeldIn, IsCopy, ReadAs, absent_as}
use Rattle.bcv_transaction.specs.StepCalls.{Brings, IsAgain, PageCalls}
use Rattle.bcv_transaction.proofs.MachineFrees.{with_same}

-- ---- a page whose block is not in the cache

-- the page comes from a block of the base which is not in the cache and can come in; nothing has changed
record IsAwayAt (t : Opened) (cs : List Writes) (c d : Blocks) (p : ℕ) (id : Id16) : Type 0 where
  from : source_of t.base cs p ≡ Some FromBase
  block : block_id t.base p ≡ Some id
  none : slot_of id c.entries ≡ None
  room : has_room c ≡ true
  same : d ≡ c

roomy : (id i : Id16) (b : Bool) → came.Absent id ≡ absent_as i b → (b ≡ true) × (i ≡ id)
roomy id i true is = (refl, cc)
roomy id i false is = absurd (cc)

away_at : (t : Opened) (cs : List Writes) (c d : Blocks) (p : ℕ) (id i : Id16) → TxnPlaces t cs c p (place.Absent i) d → came.Absent id ≡ absent_as i (has_room d) → IsAwayAt t cs c d p id
away_at t cs c d p id i at is =
    let r = roomy id i (has_room d) is in
    record {
      from = at.0;
      block = at.1 ∙ ap (λ (j : Id16). Some j) r.1;
      none = subst (λ (j : Id16). slot_of j c.entries ≡ None) r.1 at.2;
      room = ap has_room (sym at.3) ∙ r.0;
      same = at.3;
    }

read_away : (t : Opened) (cs : List Writes) (c d : Blocks) (p : ℕ) (id : Id16) (at : Place) → TxnPlaces t cs c p at d → ReadAs t cs p at (came.Absent id) d → IsAwayAt t cs c d p id
read_away t cs c d p id place.BadPage at read = absurd (cc)
read_away t cs c d p id place.Local at read = absurd read.2
read_away t cs c d p id place.Zeros at read = absurd read
read_away t cs c d p id (place.Cached slot) at read = absurd read.2
read_away t cs c d p id (place.Absent i) at read = away_at t cs c d p id i at read.0

hold_away : (t u : Opened) (cs : List Writes) (c e d : Blocks) (p : ℕ) (id : Id16) (at : Place) → TxnPlaces t cs c p at e → HeldAs t p at e (came.Absent id) u d → IsAwayAt t cs c e p id × (u ≡ t) × (d ≡ e)
hold_away t u cs c e d p id place.BadPage at held = (let is = held.0 in absurd (cc))
hold_away t u cs c e d p id place.Local at held = (let is = held.0 in absurd (cc))
hold_away t u cs c e d p id place.Zeros at held = (let is = held.0 in absurd (cc))
hold_away t u cs c e d p id (place.Cached slot) at held = absurd held
hold_away t u cs c e d p id (place.Absent i) at held = (away_at t cs c e p id i at held.0.0, held.1, held.2)

-- of a transaction that is open
pub record IsAway (pages : Held) (o : Open) (n p : ℕ) (id : Id16) (asked : Open) : Type 0 where
  pub cache : Blocks
  pub cache_is : o.cache ≡ Some cache
  pub txn : OpenTxn
  pub found : txn_at n o.txns ≡ Some txn
  pub from : source_of txn.txn.base (view_in pages txn) p ≡ Some FromBase
  pub block : block_id txn.txn.base p ≡ Some id
  pub none : slot_of id cache.entries ≡ None
  pub room : has_room cache ≡ true
  pub same : asked ≡ o

same_open : (a b : Open) → a.slots ≡ b.slots → a.cache ≡ b.cache → a.txns ≡ b.txns → a ≡ b
same_open a b slots cache txns =
    ap (λ (x : ℕ). record a { slots = x }) slots ∙ ap (λ (x : Option Blocks). record a { slots = b.slots; cache = x }) cache
    ∙ ap (λ (x : List OpenTxn). record b { txns = x }) txns

is_away : (pages : Held) (o asked : Open) (n p : ℕ) (id : Id16) (c d : Blocks) (t : OpenTxn) → o.cache ≡ Some c → asked.cache ≡ Some d → asked.slots ≡ o.slots → asked.txns ≡ o.txns → txn_at n o.txns ≡ Some t
    → IsAwayAt t.txn (view_in pages t) c d p id → IsAway pages o n p id asked
is_away pages o asked n p id c d t cache after slots txns found away = record {
  cache = c;
  cache_is = cache;
  txn = t;
  found = found;
  from = away.from;
  block = away.block;
  none = away.none;
  room = away.room;
  same = same_open asked o slots (after ∙ ap (λ (x : Blocks). Some x) away.same ∙ sym cache) txns;
}

read_wants : (pages : Held) (o asked : Open) (n p : ℕ) (id : Id16) → PageCalls ToRead pages o n p (came.Absent id) asked → IsAway pages o n p id asked
read_wants pages o asked n p id calls = by o.cache asked.cache refl refl calls.0
  where
    in_ : (c d : Blocks) → o.cache ≡ Some c → asked.cache ≡ Some d → asked.slots ≡ o.slots → (x : Option OpenTxn) → txn_at n o.txns ≡ x → ReadsOf pages c x p (came.Absent id) d → IsAway pages o n p id asked
    in_ c d cache after slots None found reads = (let is = reads.0 in absurd (cc))
    in_ c d cache after slots (Some t) found reads = is_away pages o asked n p id c d t cache after slots calls.1 found (read_away t.txn (view_in pages t) c d p id reads.0 reads.1 reads.2)

    by : (x y : Option Blocks) → o.cache ≡ x → asked.cache ≡ y → CacheCalls x y o asked (came.Absent id ≡ came.NoTxn) (λ c d. ReadsIn pages c o.txns n p (came.Absent id) d) → IsAway pages o n p id asked
    by None y cache after does = (let is = does.0 in absurd (cc))
    by (Some c) None cache after does = absurd does
    by (Some c) (Some d) cache after does = in_ c d cache after does.0 (txn_at n o.txns) refl does.1

hold_wants : (pages : Held) (o asked : Open) (n p : ℕ) (id : Id16) → AreOpen o → PageCalls ToHold pages o n p (came.Absent id) asked → IsAway pages o n p id asked
hold_wants pages o asked n p id opened calls = by o.cache asked.cache refl refl calls
  where
    in_ : (c d : Blocks) → o.cache ≡ Some c → asked.cache ≡ Some d → asked.slots ≡ o.slots → (x : Option OpenTxn) → txn_at n o.txns ≡ x
        → HoldsOf pages c x o.txns n p (came.Absent id) asked.txns d → IsAway pages o n p id asked
    in_ c d cache after slots None found holds = (let is = holds.0 in absurd (cc))
    in_ c d cache after slots (Some t) found holds =
        let said = holds.1 in
        let away = hold_away t.txn holds.0 (view_in pages t) c said.1 d p id said.0 said.2 said.3 in
        let there : AreOpenWith o.slots (Some c) o.txns = subst (λ (x : Option Blocks). AreOpenWith o.slots x o.txns) cache opened in
        let txns : asked.txns ≡ o.txns = holds.2 ∙ ap (λ (u : Opened). with_txn n u o.txns) away.1 ∙ with_same n t o.txns there.0.differ found in
        is_away pages o asked n p id c said.1 t cache (after ∙ ap (λ (x : Blocks). Some x) away.2) slots txns found away.0

    by : (x y : Option Blocks) → o.cache ≡ x → asked.cache ≡ y → CacheCalls x y o asked (came.Absent id ≡ came.NoTxn) (λ c d. HoldsIn pages c o.txns n p (came.Absent id) asked.txns d) → IsAway pages o n p id asked
    by None y cache after does = (let is = does.0 in absurd (cc))
    by (Some c) None cache after does = absurd does
    by (Some c) (Some d) cache after does = in_ c d cache after does.0 (txn_at n o.txns) refl does.1

pub wants : (access : Access) (pages : Held) (o asked : Open) (n p : ℕ) (id : Id16) → AreOpen o → PageCalls access pages o n p (came.Absent id) asked → IsAway pages o n p id asked
wants ToRead pages o asked n p id opened calls = read_wants pages o asked n p id calls
wants ToHold pages o asked n p id opened calls = hold_wants pages o asked n p id opened calls

-- ---- its block is got

-- one get over the caches that there are
pub record Gets (store : StoreTold) (old new : StoreShown) (id : Id16) (o : Open) (r : Fetched) (got : Open) : Type 0 where
  pub before : Blocks
  pub before_is : o.cache ≡ Some before
  pub after : Blocks
  pub after_is : got.cache ≡ Some after
  pub slots : got.slots ≡ o.slots
  pub txns : got.txns ≡ o.txns
  pub gets : BlockGets store old new id before r after

pub gets_of : (store : StoreTold) (old new : StoreShown) (id : Id16) (o : Open) (r : Fetched) (got : Open) → Brings store old new id o r got → Gets store old new id o r got
gets_of store old new id o r got brings = by o.cache got.cache refl refl brings.0
  where
    by : (x y : Option Blocks) → o.cache ≡ x → got.cache ≡ y → CacheCalls x y o got ⊥ (λ c d. BlockGets store old new id c r d) → Gets store old new id o r got
    by None y before after does = absurd does.0
    by (Some c) None before after does = absurd does
    by (Some c) (Some d) before after does = record { before = c; before_is = before; after = d; after_is = after; slots = does.0; txns = brings.1; gets = does.1 }

-- a fetch is one get
pub brings : (store : StoreTold) (old new : StoreShown) (pages : Held) (n p : ℕ) (id : Id16) (o asked : Open) (r : Fetched) (got : Open) → IsAway pages o n p id asked
    → CallsIn asked got (r ≡ fetched.CacheFull) (λ c d. BlockFetches (slot_of id c.entries) (has_room c) store old new id c r d) → got.txns ≡ asked.txns → Brings store old new id asked r got
brings store old new pages n p id o asked r got away calls txns = (by asked.cache got.cache refl calls, txns)
  where
    cache : asked.cache ≡ Some away.cache
    cache = ap (λ (x : Open). x.cache) away.same ∙ away.cache_is

    gets : (c d : Blocks) → asked.cache ≡ Some c → BlockFetches (slot_of id c.entries) (has_room c) store old new id c r d → BlockGets store old new id c r d
    gets c d is does =
        let same : away.cache ≡ c = same_Some away.cache c (sym cache ∙ is) in
        let none : slot_of id c.entries ≡ None = subst (λ (x : Blocks). slot_of id x.entries ≡ None) same away.none in
        let room : has_room c ≡ true = subst (λ (x : Blocks). has_room x ≡ true) same away.room in
        let there = subst (λ (x : Option ℕ). BlockFetches x (has_room c) store old new id c r d) none does in
        subst (λ (b : Bool). BlockFetches None b store old new id c r d) room there

    by : (x y : Option Blocks) → asked.cache ≡ x → CacheCalls x y asked got (r ≡ fetched.CacheFull) (λ c d. BlockFetches (slot_of id c.entries) (has_room c) store old new id c r d)
        → CacheCalls x y asked got ⊥ (λ c d. BlockGets store old new id c r d)
    by None y is does = (let none : ◌≡◌ {A = Option Blocks} None (Some away.cache) = sym is ∙ cache in absurd (cc))
    by (Some c) None is does = absurd does
    by (Some c) (Some d) is does = (does.0, gets c d is does.1)

-- ---- its block is in the cache

-- the page comes from a block that is in the cache
pub record IsHere (pages : Held) (o : Open) (n p : ℕ) : Type 0 where
  pub cache : Blocks
  pub cache_is : o.cache ≡ Some cache
  pub txn : OpenTxn
  pub found : txn_at n o.txns ≡ Some txn
  pub from : source_of txn.txn.base (view_in pages txn) p ≡ Some FromBase
  pub id : Id16
  pub block : block_id txn.txn.base p ≡ Some id
  pub slot : ℕ
  pub there : slot_of id cache.entries ≡ Some slot

filled_there : (slot : ℕ) (id : Id16) (bytes : List ℕ) (c : Blocks) → slot_of id (filled slot id bytes c).entries ≡ Some slot
filled_there slot id bytes c =
    let e : Entry = record { slot = slot; id = id; count = 0; bytes = bytes } in
    ap (λ (b : Bool). option_map (λ (x : Entry). x.slot) (cond b (Some e) (find (has_id id) (room_made c)))) (id_eq-self id)

pub here : (store : StoreTold) (old new : StoreShown) (pages : Held) (n p slot : ℕ) (id : Id16) (o asked got : Open) → IsAway pages o n p id asked → Gets store old new id asked (fetched.In slot) got → IsHere pages got n p
here store old new pages n p slot id o asked got away gets =
    let filled_is = gets.gets.leaves in
    record {
      cache = gets.after;
      cache_is = gets.after_is;
      txn = away.txn;
      found = ap (txn_at n) (gets.txns ∙ ap (λ (x : Open). x.txns) away.same) ∙ away.found;
      from = away.from;
      id = id;
      block = away.block;
      slot = slot;
      there = ap (λ (x : Blocks). slot_of id x.entries) filled_is.2 ∙ filled_there slot id filled_is.0 gets.before;
    }

copied_again : (bytes : Page) (r : Came) → IsCopy bytes r → IsAgain r
copied_again bytes (came.Page copy) is = tt
copied_again bytes came.NoMemory is = tt
copied_again bytes came.Held is = absurd is
copied_again bytes (came.Absent id) is = absurd is
copied_again bytes came.CacheFull is = absurd is
copied_again bytes came.BadPage is = absurd is
copied_again bytes came.NoTxn is = absurd is

held_again : (t u : Opened) (c d : Blocks) (p slot : ℕ) (r : Came) → HeldIn t c p slot r u d → IsAgain r
held_again t u c d p slot came.Held held = tt
held_again t u c d p slot came.NoMemory held = tt
held_again t u c d p slot (came.Page copy) held = absurd held
held_again t u c d p slot (came.Absent id) held = absurd held
held_again t u c d p slot came.CacheFull held = absurd held
held_again t u c d p slot came.BadPage held = absurd held
held_again t u c d p slot came.NoTxn held = absurd held

-- the page is in the cache
cached_only : (t : Opened) (cs : List Writes) (c d : Blocks) (p slot : ℕ) (id : Id16) (at : Place) → source_of t.base cs p ≡ Some FromBase → block_id t.base p ≡ Some id → slot_of id c.entries ≡ Some slot
    → TxnPlaces t cs c p at d → (s : ℕ) × (at ≡ place.Cached s)
cached_only t cs c d p slot id place.BadPage from block there at = (let is : ◌≡◌ {A = Option Origin} None (Some FromBase) = sym at.0 ∙ from in absurd (cc))
cached_only t cs c d p slot id place.Local from block there at = (let is : ◌≡◌ {A = Option Origin} (Some (Wrote at.0)) (Some FromBase) = sym at.1 ∙ from in absurd (cc))
cached_only t cs c d p slot id place.Zeros from block there at = (let is : ◌≡◌ {A = Option Origin} (Some Added) (Some FromBase) = sym at.0 ∙ from in absurd (cc))
cached_only t cs c d p slot id (place.Cached s) from block there at = (s, refl)
cached_only t cs c d p slot id (place.Absent i) from block there at =
    let same : i ≡ id = same_Some i id (sym at.1 ∙ block) in
    let is : ◌≡◌ {A = Option ℕ} None (Some slot) = sym (subst (λ (j : Id16). slot_of j c.entries ≡ None) same at.2) ∙ there in
    absurd (cc)

read_again : (pages : Held) (o last : Open) (n p : ℕ) (r : Came) → IsHere pages o n p → PageCalls ToRead pages o n p r last → IsAgain r
read_again pages o last n p r h calls = by o.cache last.cache refl calls.0
  where
    at_page : (c d : Blocks) → c ≡ h.cache → (at : Place) → TxnPlaces h.txn.txn (view_in pages h.txn) c p at d → ReadAs h.txn.txn (view_in pages h.txn) p at r d → IsAgain r
    at_page c d same at placed read =
        let is = cached_only h.txn.txn (view_in pages h.txn) c d p h.slot h.id at h.from h.block (subst (λ (x : Blocks). slot_of h.id x.entries ≡ Some h.slot) (sym same) h.there) placed in
        let copy = subst (λ (x : Place). ReadAs h.txn.txn (view_in pages h.txn) p x r d) is.1 read in
        copied_again copy.0 r copy.2

    by : (x y : Option Blocks) → o.cache ≡ x → CacheCalls x y o last (r ≡ came.NoTxn) (λ c d. ReadsIn pages c o.txns n p r d) → IsAgain r
    by None y is does = (let none : ◌≡◌ {A = Option Blocks} None (Some h.cache) = sym is ∙ h.cache_is in absurd (cc))
    by (Some c) None is does = absurd does
    by (Some c) (Some d) is does =
        let reads = subst (λ (x : Option OpenTxn). ReadsOf pages c x p r d) h.found does.1 in
        at_page c d (same_Some c h.cache (sym is ∙ h.cache_is)) reads.0 reads.1 reads.2

hold_again : (pages : Held) (o last : Open) (n p : ℕ) (r : Came) → IsHere pages o n p → PageCalls ToHold pages o n p r last → IsAgain r
hold_again pages o last n p r h calls = by o.cache last.cache refl calls
  where
    at_page : (u : Opened) (c e d : Blocks) → c ≡ h.cache → (at : Place) → TxnPlaces h.txn.txn (view_in pages h.txn) c p at e → HeldAs h.txn.txn p at e r u d → IsAgain r
    at_page u c e d same at placed held =
        let is = cached_only h.txn.txn (view_in pages h.txn) c e p h.slot h.id at h.from h.block (subst (λ (x : Blocks). slot_of h.id x.entries ≡ Some h.slot) (sym same) h.there) placed in
        held_again h.txn.txn u e d p is.0 r (subst (λ (x : Place). HeldAs h.txn.txn p x e r u d) is.1 held)

    by : (x y : Option Blocks) → o.cache ≡ x → CacheCalls x y o last (r ≡ came.NoTxn) (λ c d. HoldsIn pages c o.txns n p r last.txns d) → IsAgain r
    by None y is does = (let none : ◌≡◌ {A = Option Blocks} None (Some h.cache) = sym is ∙ h.cache_is in absurd (cc))
    by (Some c) None is does = absurd does
    by (Some c) (Some d) is does =
        let holds = subst (λ (x : Option OpenTxn). HoldsOf pages c x o.txns n p r last.txns d) h.found does.1 in
        let said = holds.1 in
        at_page holds.0 c said.1 d (same_Some c h.cache (sym is ∙ h.cache_is)) said.0 said.2 said.3

pub comes_again : (access : Access) (pages : Held) (o last : Open) (n p : ℕ) (r : Came) → IsHere pages o n p → PageCalls access pages o n p r last → IsAgain r
comes_again ToRead pages o last n p r h calls = read_again pages o last n p r h calls
comes_again ToHold pages o last n p r h calls = hold_again pages o last n p r h calls
