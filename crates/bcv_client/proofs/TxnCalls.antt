-- What the calls of the transactions leave as it was: which are open over which cache, but for what they hold.
use Rattle.std.proofs.Common.{◌≡◌, ◌∙◌, ℕ, Bool, true, false, nat_eq, List, [], map, Option, Some, None, Ok, refl, sym, ap, subst}
use Rattle.std.specs.declared.alloc.AllocError.{AllocError}
use Rattle.std.specs.List.{IsDistinct}
use Rattle.bcv_base.specs.Image.{Writes}
use Rattle.bcv_cache.specs.Entry.{Blocks}
use Rattle.bcv_machine.specs.State.{Access, ToHold, ToRead}
use Rattle.bcv_pages.specs.Held.{Held}
use Rattle.bcv_snapshot.specs.declared.held_block.HeldBlock.{HeldBlock}
use Rattle.bcv_snapshot.specs.declared.place.Place.{Place}
use Rattle.bcv_snapshot.specs.declared.place.Place.TheVariants as place
use Rattle.bcv_snapshot.specs.Opened.{Opened, is_held}
use Rattle.bcv_snapshot.specs.TxnCalls.{TxnHolds, TxnPlaces}
use Rattle.bcv_transaction.specs.declared.answers.Came.{Came}
use Rattle.bcv_transaction.specs.declared.answers.Came.TheVariants as came
use Rattle.bcv_transaction.specs.declared.answers.Freed.{Freed}
use Rattle.bcv_transaction.specs.declared.answers.Freed.TheVariants as freed
use Rattle.bcv_transaction.specs.declared.open_txn.OpenTxn.{OpenTxn}
use Rattle.bcv_transaction.specs.ListCalls.{FreesIn, FreesOf, HoldsIn, HoldsOf, ReadsIn, ReadsOf}
use Rattle.bcv_transaction.specs.Open.{AreOpen, AreOpenWith, Open, numbers_of, txn_at, view_in, with_txn}
use Rattle.bcv_transaction.specs.OpenCalls.{CacheCalls, CallsIn}
use Rattle.bcv_transaction.specs.PageCalls.{FreesPage, HeldAs, HeldIn}
use Rattle.bcv_transaction.specs.StepCalls.{PageCalls}
use Rattle.bcv_client.proofs.TxnForms.{StayOpen, block_of, unheld, with_alike}

-- what a transaction keeps is as it was but for the blocks that it holds, and the cache has blocks of the same size
record KeepsTxn (t v : Opened) (c d : Blocks) : Type 0 where
  held : List HeldBlock
  is : v ≡ record t { held = held }
  block : d.block ≡ c.block

unchanged : (t v : Opened) (c d : Blocks) → v ≡ t → d ≡ c → KeepsTxn t v c d
unchanged t v c d same is = record { held = t.held; is = same; block = ap (λ (x : Blocks). x.block) is }

-- ---- one page

places_block : (t : Opened) (cs : List Writes) (c d : Blocks) (p : ℕ) (at : Place) → TxnPlaces t cs c p at d → d.block ≡ c.block
places_block t cs c d p place.BadPage is = ap (λ (x : Blocks). x.block) is.1
places_block t cs c d p place.Local is = ap (λ (x : Blocks). x.block) is.2
places_block t cs c d p place.Zeros is = ap (λ (x : Blocks). x.block) is.1
places_block t cs c d p (place.Cached slot) is = ap (λ (x : Blocks). x.block) is.1.first
places_block t cs c d p (place.Absent id) is = ap (λ (x : Blocks). x.block) is.3

held_keeps : (t v : Opened) (c d : Blocks) (p slot : ℕ) (r : Came) → HeldIn t c p slot r v d → KeepsTxn t v c d
held_keeps t v c d p slot came.Held holds = by (is_held t p) holds
  where
    by : (b : Bool) → TxnHolds {E = AllocError} b t c p slot (Ok tt) v d → KeepsTxn t v c d
    by true same = unchanged t v c d same.0 same.1
    by false more = record { held = _; is = more.held; block = ap (λ (x : Blocks). x.block) more.pinned }
held_keeps t v c d p slot came.NoMemory holds = unchanged t v c d holds.1 holds.2
held_keeps t v c d p slot (came.Page copy) holds = absurd holds
held_keeps t v c d p slot (came.Absent id) holds = absurd holds
held_keeps t v c d p slot came.CacheFull holds = absurd holds
held_keeps t v c d p slot came.BadPage holds = absurd holds
held_keeps t v c d p slot came.NoTxn holds = absurd holds

hold_keeps : (t v : Opened) (c d : Blocks) (p : ℕ) (at : Place) (r : Came) → HeldAs t p at c r v d → KeepsTxn t v c d
hold_keeps t v c d p place.BadPage r holds = unchanged t v c d holds.1 holds.2
hold_keeps t v c d p place.Local r holds = unchanged t v c d holds.1 holds.2
hold_keeps t v c d p place.Zeros r holds = unchanged t v c d holds.1 holds.2
hold_keeps t v c d p (place.Cached slot) r holds = held_keeps t v c d p slot r holds
hold_keeps t v c d p (place.Absent id) r holds = unchanged t v c d holds.1 holds.2

free_keeps : (t v : Opened) (c d : Blocks) (p : ℕ) (r : Freed) → FreesPage t c p r v d → KeepsTxn t v c d
free_keeps t v c d p freed.Fine frees = record { held = _; is = frees.1.1.held; block = ap (λ (x : Blocks). x.block) frees.1.1.unpinned }
free_keeps t v c d p freed.NotHeld frees = unchanged t v c d frees.1.1 frees.1.2
free_keeps t v c d p freed.BadPage frees = unchanged t v c d frees.1 frees.2
free_keeps t v c d p freed.NoTxn frees = absurd frees

-- ---- the list and the cache

none_differ : IsDistinct nat_eq []
unfolding IsDistinct
none_differ = tt

-- the numbers of open transactions differ
pub differ_open : (o : Open) → AreOpen o → IsDistinct nat_eq (numbers_of o.txns)
differ_open o opened = by o.cache refl
  where
    by : (x : Option Blocks) → o.cache ≡ x → IsDistinct nat_eq (numbers_of o.txns)
    by None is = (let empty : AreOpenWith o.slots None o.txns = subst (λ (x : Option Blocks). AreOpenWith o.slots x o.txns) is opened in subst (λ (ts : List OpenTxn). IsDistinct nat_eq (numbers_of ts)) (sym empty) none_differ)
    by (Some c) is = (let there : AreOpenWith o.slots (Some c) o.txns = subst (λ (x : Option Blocks). AreOpenWith o.slots x o.txns) is opened in there.0.differ)

same_stay : (o n : Open) → n ≡ o → StayOpen o n
same_stay o n same = record { slots = ap (λ (x : Open). x.slots) same; block = ap (λ (x : Open). block_of x.cache) same; txns = ap (λ (x : Open). map unheld x.txns) same }

-- over these caches
over : (o n : Open) (c d : Blocks) → o.cache ≡ Some c → n.cache ≡ Some d → d.block ≡ c.block → block_of n.cache ≡ block_of o.cache
over o n c d before after same = ap block_of after ∙ ap Some same ∙ sym (ap block_of before)

-- one transaction has changed
one_stays : (o n : Open) (c d : Blocks) (k : ℕ) (t : OpenTxn) (v : Opened) → o.cache ≡ Some c → n.cache ≡ Some d → n.slots ≡ o.slots → IsDistinct nat_eq (numbers_of o.txns) → txn_at k o.txns ≡ Some t
    → n.txns ≡ with_txn k v o.txns → KeepsTxn t.txn v c d → StayOpen o n
one_stays o n c d k t v before after slots differ found txns keeps = record {
  slots = slots;
  block = over o n c d before after keeps.block;
  txns = ap (map unheld) txns ∙ with_alike k v t o.txns differ found (ap (λ (x : Opened). unheld (record t { txn = x })) keeps.is);
}

none_stays : (o n : Open) (c d : Blocks) → o.cache ≡ Some c → n.cache ≡ Some d → n.slots ≡ o.slots → n.txns ≡ o.txns → d.block ≡ c.block → StayOpen o n
none_stays o n c d before after slots txns block = record { slots = slots; block = over o n c d before after block; txns = ap (map unheld) txns }

-- ---- the calls

pub reads_stay : (pages : Held) (o n : Open) (k p : ℕ) (r : Came) → PageCalls ToRead pages o k p r n → StayOpen o n
reads_stay pages o n k p r calls = by o.cache n.cache refl refl calls.0
  where
    in_ : (c d : Blocks) (x : Option OpenTxn) → ReadsOf pages c x p r d → d.block ≡ c.block
    in_ c d None said = ap (λ (x : Blocks). x.block) said.1
    in_ c d (Some t) said = places_block t.txn (view_in pages t) c d p said.0 said.1

    by : (x y : Option Blocks) → o.cache ≡ x → n.cache ≡ y → CacheCalls x y o n (r ≡ came.NoTxn) (λ c d. ReadsIn pages c o.txns k p r d) → StayOpen o n
    by None y before after does = same_stay o n does.1
    by (Some c) None before after does = absurd does
    by (Some c) (Some d) before after does = none_stays o n c d before after does.0 calls.1 (in_ c d (txn_at k o.txns) does.1)

pub holds_stay : (pages : Held) (o n : Open) (k p : ℕ) (r : Came) → IsDistinct nat_eq (numbers_of o.txns) → PageCalls ToHold pages o k p r n → StayOpen o n
holds_stay pages o n k p r differ calls = by o.cache n.cache refl refl calls
  where
    in_ : (c d : Blocks) → o.cache ≡ Some c → n.cache ≡ Some d → n.slots ≡ o.slots → (x : Option OpenTxn) → txn_at k o.txns ≡ x → HoldsOf pages c x o.txns k p r n.txns d → StayOpen o n
    in_ c d before after slots None found said = none_stays o n c d before after slots said.1 (ap (λ (x : Blocks). x.block) said.2)
    in_ c d before after slots (Some t) found said =
        let page = said.1 in
        let does = hold_keeps t.txn said.0 page.1 d p page.0 r page.3 in
        let block : page.1.block ≡ c.block = places_block t.txn (view_in pages t) c page.1 p page.0 page.2 in
        one_stays o n c d k t said.0 before after slots differ found said.2 (record { held = does.held; is = does.is; block = does.block ∙ block })

    by : (x y : Option Blocks) → o.cache ≡ x → n.cache ≡ y → CacheCalls x y o n (r ≡ came.NoTxn) (λ c d. HoldsIn pages c o.txns k p r n.txns d) → StayOpen o n
    by None y before after does = same_stay o n does.1
    by (Some c) None before after does = absurd does
    by (Some c) (Some d) before after does = in_ c d before after does.0 (txn_at k o.txns) refl does.1

pub comes_stay : (access : Access) (pages : Held) (o n : Open) (k p : ℕ) (r : Came) → AreOpen o → PageCalls access pages o k p r n → StayOpen o n
comes_stay ToRead pages o n k p r opened calls = reads_stay pages o n k p r calls
comes_stay ToHold pages o n k p r opened calls = holds_stay pages o n k p r (differ_open o opened) calls

pub frees_stay : (o n : Open) (k p : ℕ) (r : Freed) → AreOpen o → CallsIn o n (r ≡ freed.NoTxn) (λ c d. FreesIn c o.txns k p r n.txns d) → StayOpen o n
frees_stay o n k p r opened calls = by o.cache n.cache refl refl calls
  where
    in_ : (c d : Blocks) → o.cache ≡ Some c → n.cache ≡ Some d → n.slots ≡ o.slots → (x : Option OpenTxn) → txn_at k o.txns ≡ x → FreesOf c x o.txns k p r n.txns d → StayOpen o n
    in_ c d before after slots None found said = none_stays o n c d before after slots said.1 (ap (λ (x : Blocks). x.block) said.2)
    in_ c d before after slots (Some t) found said =
        one_stays o n c d k t said.0 before after slots (differ_open o opened) found said.2 (free_keeps t.txn said.0 c d p r said.1)

    by : (x y : Option Blocks) → o.cache ≡ x → n.cache ≡ y → CacheCalls x y o n (r ≡ freed.NoTxn) (λ c d. FreesIn c o.txns k p r n.txns d) → StayOpen o n
    by None y before after does = same_stay o n does.1
    by (Some c) None before after does = absurd does
    by (Some c) (Some d) before after does = in_ c d before after does.0 (txn_at k o.txns) refl does.1
