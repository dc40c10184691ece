-- What ties the open transactions and the cached entries to a log stays.
use Rattle.std.proofs.Common.{◌≡◌, ◌∙◌, ◌==◌, ℕ, ◌+◌, ◌-◌, ◌≤◌, Bool, true, false, not, cond, nat_eq, List, [], ◌∷◌, ◌++◌, map, filter, find, Option, Some, None, IfSome, Result, Ok, Err, option_map, refl, sym, ap, subst, inl, inr, arith}
use Rattle.std.specs.declared.alloc.AllocError.{AllocError}
use Rattle.std.specs.List.{AllByRecursion, IsDistinct, list_all}
use Rattle.std.proofs.lemmas.Bool.{cases_Bool, eqb-false, eqb-true}
use Rattle.std.proofs.lemmas.Option.{same_Some}
use Rattle.bcv_base.specs.declared.id.Id16.{Id16}
use Rattle.bcv_base.specs.declared.log.Entry.{Entry as LogEntry}
use Rattle.bcv_base.specs.declared.manifest.DbEntry.{DbEntry}
use Rattle.bcv_base.specs.declared.manifest.Manifest.{Manifest}
use Rattle.bcv_base.specs.declared.seen.Latest.{Latest}
use Rattle.bcv_base.specs.declared.seen.Seen.{Seen}
use Rattle.bcv_base.specs.declared.seen.TxnBase.{TxnBase}
use Rattle.bcv_base.specs.History.{Item, first_put, history_after, history_of}
use Rattle.bcv_base.specs.HistoryLaws.{history_after-append, id_eq-is}
use Rattle.bcv_base.specs.Image.{Writes}
use Rattle.bcv_base.specs.Joined.{database_of}
use Rattle.bcv_base.specs.Keyed.{keyed}
use Rattle.bcv_base.specs.ManifestRules.{db_name}
use Rattle.bcv_base.specs.Version.{Database, Version, the_name}
use Rattle.bcv_base.specs.Views.{is_commit, view_size}
use Rattle.bcv_cache.specs.Cache.{counted_down, counted_up, found_first, has_id, has_room, slot_of}
use Rattle.bcv_cache.specs.Entry.{Blocks, Entry}
use Rattle.bcv_clientstate.specs.Fits.{FitsEntry, FitsTxn}
use Rattle.bcv_clientstate.specs.SeenClient.{seen_txn}
use Rattle.bcv_clientstate.specs.SeenContainer.{HasBase}
use Rattle.bcv_clientstate.proofs.Bases.{stays}
use Rattle.bcv_clientstate.proofs.Growth.{all_kept, put_later, same_maps, some_kept}
use Rattle.bcv_clientstate.proofs.KeyedMaps.{keyed_map}
use Rattle.bcv_databases.specs.Changes.{least_of}
use Rattle.bcv_dbmap.specs.Honest.{GrewHonestly}
use Rattle.bcv_dbmap.specs.Sound.{IsSoundLog, Sound}
use Rattle.bcv_dbmap.proofs.ManifestLaws.{images_stay}
use Rattle.bcv_machine.specs.State.{Access, ToHold, ToRead, Txn}
use Rattle.bcv_pages.specs.Held.{Held}
use Rattle.bcv_publish.specs.declared.work.Work.{Work}
use Rattle.bcv_publish.specs.Request.{OverSoundLog}
use Rattle.bcv_snapshot.specs.declared.fetched.Fetched.{Fetched}
use Rattle.bcv_snapshot.specs.declared.fetched.Fetched.TheVariants as fetched
use Rattle.bcv_snapshot.specs.declared.held_block.HeldBlock.{HeldBlock}
use Rattle.bcv_snapshot.specs.declared.place.Place.{Place}
use Rattle.bcv_snapshot.specs.declared.place.Place.TheVariants as place
use Rattle.bcv_snapshot.specs.BlockFetch.{BlockFetches, BlockGetSound}
use Rattle.bcv_snapshot.specs.CallLaw.{MayCall}
use Rattle.bcv_snapshot.specs.FixedImage.{IsCacheCall}
use Rattle.bcv_snapshot.specs.Opened.{IsTxn, Opened, is_held}
use Rattle.bcv_snapshot.specs.Pins.{given_back}
use Rattle.bcv_snapshot.specs.TxnCalls.{TxnHolds}
use Rattle.bcv_snapshot.proofs.CallKinds.{calls_change_no_image}
use Rattle.bcv_snapshot.proofs.CallLaws.{all_found_first}
use Rattle.bcv_snapshot.proofs.HeldBlocks.{all_both, all_rest}
use Rattle.bcv_store.specs.StoreShown.{StoreShown, StoreTold}
use Rattle.bcv_transaction.specs.declared.answers.Begun.{Begun}
use Rattle.bcv_transaction.specs.declared.answers.Begun.TheVariants as begun
use Rattle.bcv_transaction.specs.declared.answers.Came.{Came}
use Rattle.bcv_transaction.specs.declared.answers.Came.TheVariants as came
use Rattle.bcv_transaction.specs.declared.answers.Freed.{Freed}
use Rattle.bcv_transaction.specs.declared.answers.Freed.TheVariants as freed
use Rattle.bcv_transaction.specs.declared.answers.Stepped.{Stepped}
use Rattle.bcv_transaction.specs.declared.open_txn.OpenTxn.{OpenTxn}
use Rattle.bcv_transaction.specs.FitLaws.{CachedAreFirst, CallsLeaveFit, FitsBase, GrowthLeavesFit, KeepsTxnView, LeavesFit, OldestIsLeast, PartsAreSeen, ViewsLeaveFit}
use Rattle.bcv_transaction.specs.ListCalls.{EndsIn, EndsOf, FreesIn, FreesOf, HoldsIn, HoldsOf, ReadsIn, ReadsOf}
use Rattle.bcv_transaction.specs.MachineCalls.{AreFit, open_part, open_parts, seen_txns}
use Rattle.bcv_transaction.specs.Open.{AreOpen, AreOpenWith, Open, base_view, is_numbered, numbers_of, oldest_in, txn_at, view_in, with_txn}
use Rattle.bcv_transaction.specs.OpenCalls.{Begins, CacheCalls, CallsIn, OpensCache, begun_txn, cache_made}
use Rattle.bcv_transaction.specs.PageCalls.{FreesPage, HeldAs, HeldIn}
use Rattle.bcv_transaction.specs.StepCalls.{GoesAfter, GoesOn, PageCalls, Steps}
use Rattle.bcv_transaction.specs.UploadCalls.{Moment, Uploads}
use Rattle.bcv_transaction.proofs.FetchMoves.{all_room_made}
use Rattle.bcv_transaction.proofs.MachinePages.{one_of}
use Rattle.bcv_transaction.proofs.StepPlaces.{Gets, IsAway, gets_of, wants}
use Rattle.bcv_transaction.proofs.TxnPlaces.{HaveNot, others_differ, with_none}
use Rattle.bcv_upload.specs.State.{State, base_id, next_block}
use Rattle.bcv_upload.specs.UploadWork.{AreFirstPuts, asks_cache, cache_after, cached_bytes}

-- ---- the entries of a cache

all_mapped : (P : Entry → Type 0) (f : Entry → Entry) → ((e : Entry) → P e → P (f e)) → (es : List Entry) → AllByRecursion P es → AllByRecursion P (map f es)
all_mapped P f keeps [] all = tt
all_mapped P f keeps (e ∷ es) all = (keeps e all.0, all_mapped P f keeps es all.1)

up_fits : (past : List Item) (slot : ℕ) (e : Entry) → FitsEntry past e → FitsEntry past (counted_up slot e)
up_fits past slot e fits = elim (nat_eq slot e.slot) as (λ (b : Bool). FitsEntry past (cond b (record e { count = e.count + 1 }) e)) [ true ↦ fits | false ↦ fits ]

down_fits : (past : List Item) (slot : ℕ) (e : Entry) → FitsEntry past e → FitsEntry past (counted_down slot e)
down_fits past slot e fits = elim (nat_eq slot e.slot) as (λ (b : Bool). FitsEntry past (cond b (record e { count = e.count - 1 }) e)) [ true ↦ fits | false ↦ fits ]

abbrev AllFit : List Item → Blocks → Type 0
AllFit past c = AllByRecursion (FitsEntry past) c.entries

call_fits : (past : List Item) (c d : Blocks) → IsCacheCall past c d → AllFit past c → AllFit past d
call_fits past c d (inl found) all = subst (AllByRecursion (FitsEntry past)) (sym found.1) (all_found_first (FitsEntry past) found.0 c.entries all)
call_fits past c d (inr (inl up)) all = subst (AllByRecursion (FitsEntry past)) (sym up.1) (all_mapped (FitsEntry past) (counted_up up.0) (up_fits past up.0) c.entries all)
call_fits past c d (inr (inr (inl down))) all = subst (AllByRecursion (FitsEntry past)) (sym down.1) (all_mapped (FitsEntry past) (counted_down down.0) (down_fits past down.0) c.entries all)
call_fits past c d (inr (inr (inr (inl back)))) all = subst (AllByRecursion (FitsEntry past)) (sym back.1) (all_mapped (FitsEntry past) (given_back back.0) (λ e fits. fits) c.entries all)
call_fits past c d (inr (inr (inr (inr brought)))) all = subst (AllFit past) (sym brought.4) (brought.3, all_room_made (FitsEntry past) c all)

may_fit : (past : List Item) (c d : Blocks) → MayCall past c d → AllFit past c → AllFit past d
may_fit past c d (inl same) all = subst (AllFit past) (sym same) all
may_fit past c d (inr call) all = call_fits past c d call all

-- ---- one transaction

-- what it keeps is as it was, but for the blocks that it holds
record KeepsBase (t v : Opened) : Type 0 where
  held : List HeldBlock
  is : v ≡ record t { held = held }

unchanged : (t v : Opened) → v ≡ t → KeepsBase t v
unchanged t v same = record { held = t.held; is = same }

held_fits : (past : List Item) (t v : Opened) (c d : Blocks) (p slot : ℕ) (r : Came) → HeldIn t c p slot r v d → KeepsBase t v × MayCall past c d
held_fits past t v c d p slot came.Held holds = (by (is_held t p) holds, calls_change_no_image.holds past (is_held t p) t v c d p slot (Ok tt) holds)
  where
    by : (b : Bool) → TxnHolds {E = AllocError} b t c p slot (Ok tt) v d → KeepsBase t v
    by true same = unchanged t v same.0
    by false more = record { held = _; is = more.held }
held_fits past t v c d p slot came.NoMemory holds = (unchanged t v holds.1, inl holds.2)
held_fits past t v c d p slot (came.Page copy) holds = absurd holds
held_fits past t v c d p slot (came.Absent id) holds = absurd holds
held_fits past t v c d p slot came.CacheFull holds = absurd holds
held_fits past t v c d p slot came.BadPage holds = absurd holds
held_fits past t v c d p slot came.NoTxn holds = absurd holds

hold_fits : (past : List Item) (t v : Opened) (c d : Blocks) (p : ℕ) (at : Place) (r : Came) → HeldAs t p at c r v d → KeepsBase t v × MayCall past c d
hold_fits past t v c d p place.BadPage r holds = (unchanged t v holds.1, inl holds.2)
hold_fits past t v c d p place.Local r holds = (unchanged t v holds.1, inl holds.2)
hold_fits past t v c d p place.Zeros r holds = (unchanged t v holds.1, inl holds.2)
hold_fits past t v c d p (place.Cached slot) r holds = held_fits past t v c d p slot r holds
hold_fits past t v c d p (place.Absent id) r holds = (unchanged t v holds.1, inl holds.2)

free_fits : (past : List Item) (t v : Opened) (c d : Blocks) (p : ℕ) (r : Freed) → FreesPage t c p r v d → KeepsBase t v × MayCall past c d
free_fits past t v c d p freed.Fine frees = (record { held = _; is = frees.1.1.held }, calls_change_no_image.frees past t v c d p true frees.1)
free_fits past t v c d p freed.NotHeld frees = (unchanged t v frees.1.1, calls_change_no_image.frees past t v c d p false frees.1)
free_fits past t v c d p freed.BadPage frees = (unchanged t v frees.1, inl frees.2)
free_fits past t v c d p freed.NoTxn frees = absurd frees

txn_fits : (past : List Item) (sets : ℕ → Held) (t : OpenTxn) (v : Opened) → KeepsBase t.txn v → IsTxn v → FitsTxn past (open_part sets t) → FitsTxn past (open_part sets (record t { txn = v }))
txn_fits past sets t v keeps is_txn fits =
    subst (λ (w : Opened). FitsTxn past (open_part sets (record t { txn = w }))) (sym keeps.is)
    (record { base = fits.base; is_txn = subst IsTxn keeps.is is_txn; size = fits.size; commits = fits.commits })

-- ---- the list

all_with : (P : OpenTxn → Type 0) (n : ℕ) (v : Opened) (t : OpenTxn) (ts : List OpenTxn) → IsDistinct nat_eq (numbers_of ts) → txn_at n ts ≡ Some t → P (record t { txn = v }) → AllByRecursion P ts
    → AllByRecursion P (with_txn n v ts)
unfolding IsDistinct
all_with P n v t [] d found new all = tt
all_with P n v t (z ∷ ts) d found new all = elim (cases_Bool (is_numbered n z)) [
  | inl b ↦ (let same : z ≡ t = (let some = rw b at found in cc) in
      let none : HaveNot n ts = others_differ n z.number ts (eqb-true z.number n b) d.0 in
      let head : P (record z { txn = v }) = subst (λ (w : OpenTxn). P (record w { txn = v })) (sym same) new in
      (subst (λ (c : Bool). P (cond c (record z { txn = v }) z)) (sym b) head, subst (AllByRecursion P) (sym (with_none n v ts none)) all.1))
  | inr b ↦ (subst (λ (c : Bool). P (cond c (record z { txn = v }) z)) (sym b) all.0, all_with P n v t ts d.1 (rw b at found) new all.1)
]

-- the transaction that was put into its place
txn_in : (n : ℕ) (v : Opened) (t : OpenTxn) (ts : List OpenTxn) → txn_at n ts ≡ Some t → AllByRecursion (λ (x : OpenTxn). IsTxn x.txn) (with_txn n v ts) → IsTxn v
txn_in n v t [] found all = absurd (cc)
txn_in n v t (z ∷ ts) found all = elim (cases_Bool (is_numbered n z)) [
  | inl b ↦ subst (λ (c : Bool). IsTxn (cond c (record z { txn = v }) z).txn) b all.0
  | inr b ↦ txn_in n v t ts (rw b at found) all.1
]

all_filtered : (P : OpenTxn → Type 0) (test : OpenTxn → Bool) (ts : List OpenTxn) → AllByRecursion P ts → AllByRecursion P (filter test ts)
all_filtered P test [] all = tt
all_filtered P test (t ∷ ts) all = elim (cases_Bool (test t)) [
  | inl b ↦ subst (λ (c : Bool). AllByRecursion P (cond c (t ∷ filter test ts) (filter test ts))) (sym b) (all.0, all_filtered P test ts all.1)
  | inr b ↦ subst (λ (c : Bool). AllByRecursion P (cond c (t ∷ filter test ts) (filter test ts))) (sym b) (all_filtered P test ts all.1)
]

none_differ : IsDistinct nat_eq []
unfolding IsDistinct
none_differ = tt

-- the numbers of open transactions differ
differ_open : (o : Open) → AreOpen o → IsDistinct nat_eq (numbers_of o.txns)
differ_open o opened = by o.cache refl
  where
    by : (x : Option Blocks) → o.cache ≡ x → IsDistinct nat_eq (numbers_of o.txns)
    by None is = (let empty : AreOpenWith o.slots None o.txns = subst (λ (x : Option Blocks). AreOpenWith o.slots x o.txns) is opened in subst (λ (ts : List OpenTxn). IsDistinct nat_eq (numbers_of ts)) (sym empty) none_differ)
    by (Some c) is = (let there : AreOpenWith o.slots (Some c) o.txns = subst (λ (x : Option Blocks). AreOpenWith o.slots x o.txns) is opened in there.0.differ)

module _ (past : List Item) (sets : ℕ → Held) where
  abbrev TxnsFit : List OpenTxn → Type 0
  TxnsFit ts = AllByRecursion (λ (t : OpenTxn). FitsTxn past (open_part sets t)) ts

  abbrev CacheFits : Option Blocks → Type 0
  CacheFits x = IfSome x (AllFit past)

  same_fit : (o n : Open) → n ≡ o → AreFit past sets o → AreFit past sets n
  same_fit o n same fit = subst (AreFit past sets) (sym same) fit

  over : (o : Open) (c : Blocks) → o.cache ≡ Some c → AreFit past sets o → AllFit past c
  over o c is fit = subst CacheFits is fit.cached

  now_over : (n : Open) (d : Blocks) → n.cache ≡ Some d → AllFit past d → CacheFits n.cache
  now_over n d is all = subst CacheFits (sym is) all

  -- the transactions of which one has changed
  one_changed : (o n : Open) (c d : Blocks) (k : ℕ) (t : OpenTxn) (v : Opened) → o.cache ≡ Some c → n.cache ≡ Some d → IsDistinct nat_eq (numbers_of o.txns) → AreOpen n → txn_at k o.txns ≡ Some t → n.txns ≡ with_txn k v o.txns → KeepsBase t.txn v
      → AreFit past sets o → TxnsFit n.txns
  one_changed o n c d k t v before after differ still found txns keeps fit =
      let is : AreOpenWith n.slots (Some d) n.txns = subst (λ (x : Option Blocks). AreOpenWith n.slots x n.txns) after still in
      let is_txn : IsTxn v = txn_in k v t o.txns found (subst (AllByRecursion (λ (x : OpenTxn). IsTxn x.txn)) txns is.0.txns) in
      let one : FitsTxn past (open_part sets t) = one_of (λ (x : OpenTxn). FitsTxn past (open_part sets x)) (is_numbered k) o.txns t fit.txns found in
      subst TxnsFit (sym txns) (all_with (λ (x : OpenTxn). FitsTxn past (open_part sets x)) k v t o.txns differ found (txn_fits past sets t v keeps is_txn one) fit.txns)

  -- ---- the calls

  made_fits : (slots block : ℕ) (x : Option Blocks) → CacheFits x → AllFit past (cache_made slots block x)
  made_fits slots block None all = tt
  made_fits slots block (Some c) all = all

  makes : (o n : Open) (block : ℕ) (r : Result (Unit {0}) AllocError) → AreFit past sets o → OpensCache o block r n → AreFit past sets n
  makes o n block (Ok done) fit made = subst (AreFit past sets) (sym made) (record { txns = fit.txns; cached = made_fits o.slots block o.cache fit.cached })
  makes o n block (Err e) fit made = same_fit o n made.1 fit

  still_made : (slots block : ℕ) (x y : Option Blocks) → cache_made slots block y ≡ cache_made slots block x → CacheFits x → CacheFits y
  still_made slots block x None same all = tt
  still_made slots block x (Some d) same all = subst (AllFit past) (sym same) (made_fits slots block x all)

  begins : (o n : Open) (base : TxnBase) (set : ℕ) (pages : Held) (r : Begun) → AreFit past sets o → AreOpen n → sets set ≡ pages → FitsBase past base pages → Begins o base set pages r n → AreFit past sets n
  begins o n base set pages (begun.Number k) fit opened same fits new =
      let t : OpenTxn = record { number = k; set = set; txn = begun_txn base pages } in
      let cache : n.cache ≡ Some (cache_made o.slots base.block o.cache) = ap (λ (x : Open). x.cache) new.2 in
      let txns : n.txns ≡ o.txns ++ t ∷ [] = ap (λ (x : Open). x.txns) new.2 in
      let there : AreOpenWith n.slots (Some (cache_made o.slots base.block o.cache)) n.txns = subst (λ (x : Option Blocks). AreOpenWith n.slots x n.txns) cache opened in
      let last = all_rest (λ (x : OpenTxn). IsTxn x.txn) o.txns (t ∷ []) (subst (AllByRecursion (λ (x : OpenTxn). IsTxn x.txn)) txns there.0.txns) in
      let one : FitsTxn past (open_part sets t) = record {
        base = fits.base_is;
        is_txn = last.0;
        size = ap (λ (h : Held). view_size base.entry.pages (base_view h base)) (sym same);
        commits = subst (λ (h : Held). list_all (is_commit base.entry.page_size) (base_view h base) ≡ true) (sym same) fits.commits;
      } in
      record {
        txns = subst TxnsFit (sym txns) (all_both (λ (x : OpenTxn). FitsTxn past (open_part sets x)) o.txns (t ∷ []) fit.txns (one, tt));
        cached = now_over n (cache_made o.slots base.block o.cache) cache (made_fits o.slots base.block o.cache fit.cached);
      }
  begins o n base set pages begun.TooMany fit opened same fits new = same_fit o n new.1 fit
  begins o n base set pages begun.NoMemory fit opened same fits new =
      record { txns = subst TxnsFit (sym new.1) fit.txns; cached = still_made o.slots base.block o.cache n.cache new.3 fit.cached }

  reads : (pages : Held) (o n : Open) (k p : ℕ) (r : Came) → AreFit past sets o → PageCalls ToRead pages o k p r n → AreFit past sets n
  reads pages o n k p r fit calls = by o.cache n.cache refl refl calls.0
    where
      in_ : (c d : Blocks) (x : Option OpenTxn) → ReadsOf pages c x p r d → MayCall past c d
      in_ c d None said = inl said.1
      in_ c d (Some t) said = calls_change_no_image.places past t.txn (view_in pages t) c d p said.0 said.1

      by : (x y : Option Blocks) → o.cache ≡ x → n.cache ≡ y → CacheCalls x y o n (r ≡ came.NoTxn) (λ c d. ReadsIn pages c o.txns k p r d) → AreFit past sets n
      by None y before after does = same_fit o n does.1 fit
      by (Some c) None before after does = absurd does
      by (Some c) (Some d) before after does =
          record { txns = subst TxnsFit (sym calls.1) fit.txns; cached = now_over n d after (may_fit past c d (in_ c d (txn_at k o.txns) does.1) (over o c before fit)) }

  holds : (pages : Held) (o n : Open) (k p : ℕ) (r : Came) → AreFit past sets o → IsDistinct nat_eq (numbers_of o.txns) → AreOpen n → PageCalls ToHold pages o k p r n → AreFit past sets n
  holds pages o n k p r fit differ still calls = by o.cache n.cache refl refl calls
    where
      in_ : (c d : Blocks) → o.cache ≡ Some c → n.cache ≡ Some d → (x : Option OpenTxn) → txn_at k o.txns ≡ x → HoldsOf pages c x o.txns k p r n.txns d → AreFit past sets n
      in_ c d before after None found said =
          record { txns = subst TxnsFit (sym said.1) fit.txns; cached = now_over n d after (subst (AllFit past) (sym said.2) (over o c before fit)) }
      in_ c d before after (Some t) found said =
          let page = said.1 in
          let does = hold_fits past t.txn said.0 page.1 d p page.0 r page.3 in
          let found_in : AllFit past page.1 = may_fit past c page.1 (calls_change_no_image.places past t.txn (view_in pages t) c page.1 p page.0 page.2) (over o c before fit) in
          record { txns = one_changed o n c d k t said.0 before after differ still found said.2 does.0 fit; cached = now_over n d after (may_fit past page.1 d does.1 found_in) }

      by : (x y : Option Blocks) → o.cache ≡ x → n.cache ≡ y → CacheCalls x y o n (r ≡ came.NoTxn) (λ c d. HoldsIn pages c o.txns k p r n.txns d) → AreFit past sets n
      by None y before after does = same_fit o n does.1 fit
      by (Some c) None before after does = absurd does
      by (Some c) (Some d) before after does = in_ c d before after (txn_at k o.txns) refl does.1

  comes : (access : Access) (pages : Held) (o n : Open) (k p : ℕ) (r : Came) → AreFit past sets o → IsDistinct nat_eq (numbers_of o.txns) → AreOpen n → PageCalls access pages o k p r n → AreFit past sets n
  comes ToRead pages o n k p r fit differ still calls = reads pages o n k p r fit calls
  comes ToHold pages o n k p r fit differ still calls = holds pages o n k p r fit differ still calls

  frees : (o n : Open) (k p : ℕ) (r : Freed) → AreFit past sets o → IsDistinct nat_eq (numbers_of o.txns) → AreOpen n → CallsIn o n (r ≡ freed.NoTxn) (λ c d. FreesIn c o.txns k p r n.txns d) → AreFit past sets n
  frees o n k p r fit differ still calls = by o.cache n.cache refl refl calls
    where
      in_ : (c d : Blocks) → o.cache ≡ Some c → n.cache ≡ Some d → (x : Option OpenTxn) → txn_at k o.txns ≡ x → FreesOf c x o.txns k p r n.txns d → AreFit past sets n
      in_ c d before after None found said =
          record { txns = subst TxnsFit (sym said.1) fit.txns; cached = now_over n d after (subst (AllFit past) (sym said.2) (over o c before fit)) }
      in_ c d before after (Some t) found said =
          let does = free_fits past t.txn said.0 c d p r said.1 in
          record { txns = one_changed o n c d k t said.0 before after differ still found said.2 does.0 fit; cached = now_over n d after (may_fit past c d does.1 (over o c before fit)) }

      by : (x y : Option Blocks) → o.cache ≡ x → n.cache ≡ y → CacheCalls x y o n (r ≡ freed.NoTxn) (λ c d. FreesIn c o.txns k p r n.txns d) → AreFit past sets n
      by None y before after does = same_fit o n does.1 fit
      by (Some c) None before after does = absurd does
      by (Some c) (Some d) before after does = in_ c d before after (txn_at k o.txns) refl does.1

  ends : (o n : Open) (k : ℕ) (r : Bool) → AreFit past sets o → CallsIn o n (r ≡ false) (λ c d. EndsIn c o.txns k r n.txns d) → AreFit past sets n
  ends o n k r fit calls = by o.cache n.cache refl refl calls
    where
      in_ : (c d : Blocks) → o.cache ≡ Some c → n.cache ≡ Some d → (x : Option OpenTxn) → EndsOf c x o.txns k r n.txns d → AreFit past sets n
      in_ c d before after None said =
          record { txns = subst TxnsFit (sym said.1) fit.txns; cached = now_over n d after (subst (AllFit past) (sym said.2) (over o c before fit)) }
      in_ c d before after (Some t) said =
          record {
            txns = subst TxnsFit (sym said.1) (all_filtered (λ (x : OpenTxn). FitsTxn past (open_part sets x)) (λ (x : OpenTxn). not (is_numbered k x)) o.txns fit.txns);
            cached = now_over n d after (may_fit past c d (calls_change_no_image.ends past t.txn.held c d said.2) (over o c before fit));
          }

      by : (x y : Option Blocks) → o.cache ≡ x → n.cache ≡ y → CacheCalls x y o n (r ≡ false) (λ c d. EndsIn c o.txns k r n.txns d) → AreFit past sets n
      by None y before after does = same_fit o n does.1 fit
      by (Some c) None before after does = absurd does
      by (Some c) (Some d) before after does = in_ c d before after (txn_at k o.txns) does.1

  asked_fits : (l : Option Latest) (view : List Writes) (s : State) (c d : Blocks) → d ≡ cache_after l view s c → AllFit past c → AllFit past d
  asked_fits None view s c d same all = subst (AllFit past) (sym same) all
  asked_fits (Some l) view s c d same all = by (asks_cache s.base view (next_block s) s.fetched) same
    where
      by : (b : Bool) → d ≡ cond b (record c { entries = found_first (base_id s.base (next_block s)) c.entries }) c → AllFit past d
      by false is = subst (AllFit past) (sym is) all
      by true is = subst (AllFit past) (sym is) (all_found_first (FitsEntry past) (base_id s.base (next_block s)) c.entries all)

  uploads : (told : StoreTold) (seen : Seen) (view : List Writes) (o n : Open) (old new : Moment) (r : Work) → AreFit past sets o → Uploads told seen view o old r n new → AreFit past sets n
  uploads told seen view o n old new r fit (inl works) =
      let all : AllFit past works.0 = asked_fits old.upload.publish.latest view old.upload (cache_made o.slots old.upload.base.block o.cache) works.0 works.2.cache (made_fits o.slots old.upload.base.block o.cache fit.cached) in
      subst (AreFit past sets) (sym works.1) (record { txns = fit.txns; cached = all })
  uploads told seen view o n old new r fit (inr rests) = same_fit o n rests.same fit

pub calls_leave_fit : CallsLeaveFit
calls_leave_fit = record {
  makes = makes;
  begins = begins;
  comes = λ past sets access pages o n k p r fit opened still calls. comes past sets access pages o n k p r fit (differ_open o opened) still calls;
  frees = λ past sets o n k p r fit opened still calls. frees past sets o n k p r fit (differ_open o opened) still calls;
  ends = ends;
}

pub upload_leaves_fit : (told : StoreTold) (seen : Seen) (view : List Writes) (o n : Open) (old new : Moment) (r : Work) → Uploads told seen view o old r n new → (past : List Item) (sets : ℕ → Held) → AreFit past sets o → AreFit past sets n
upload_leaves_fit told seen view o n old new r does past sets fit = uploads past sets told seen view o n old new r fit does

-- ---- what is appended

module _ (log more : List LogEntry) where
  is_later : history_of (log ++ more) ≡ history_after (history_of log) more
  is_later = history_after-append [] log more

  entry_later : (e : Entry) → FitsEntry (history_of log) e → FitsEntry (history_of (log ++ more)) e
  entry_later e fits = subst (λ (past : List Item). first_put past e.id ≡ Some e.bytes) (sym is_later) (put_later (history_of log) more e.id e.bytes fits)

  txn_later : (sets : ℕ → Held) (t : OpenTxn) → FitsTxn (history_of log) (open_part sets t) → FitsTxn (history_of (log ++ more)) (open_part sets t)
  txn_later sets t fits =
      record { base = stays log more t.txn.base.number t.txn.base.block t.txn.base.entry fits.base; is_txn = fits.is_txn; size = fits.size; commits = fits.commits }

  fit_later : (sets : ℕ → Held) (o : Open) → AreFit (history_of log) sets o → AreFit (history_of (log ++ more)) sets o
  fit_later sets o fit = record {
    txns = all_kept (λ (t : OpenTxn). FitsTxn (history_of log) (open_part sets t)) (λ (t : OpenTxn). FitsTxn (history_of (log ++ more)) (open_part sets t)) (txn_later sets) o.txns fit.txns;
    cached = some_kept (AllFit (history_of log)) (AllFit (history_of (log ++ more)))
        (λ (c : Blocks). all_kept (FitsEntry (history_of log)) (FitsEntry (history_of (log ++ more))) entry_later c.entries) o.cache fit.cached;
  }

  -- a base has the same image
  same_database : (number block : ℕ) (e : DbEntry) → IsSoundLog log → HasBase (history_of log) number block e → database_of (history_of (log ++ more)) e ≡ database_of (history_of log) e
  same_database number block e sound has =
      let past : List Item = history_of log in
      let later : List Item = history_of (log ++ more) in
      let m : Manifest = has.manifest in
      let dbs : map (database_of later) m.dbs ≡ map (database_of past) m.dbs = ap (λ (v : Version). v.dbs) (images_stay log more m sound has.published) in
      same_Some (database_of later e) (database_of past e)
      (sym (keyed_map db_name the_name (database_of later) (λ d. refl) e.name m.dbs ∙ ap (option_map (database_of later)) has.listed)
      ∙ ap (keyed the_name e.name) dbs
      ∙ keyed_map db_name the_name (database_of past) (λ d. refl) e.name m.dbs ∙ ap (option_map (database_of past)) has.listed)

  same_txn : (sets : ℕ → Held) → IsSoundLog log → (t : OpenTxn) → FitsTxn (history_of log) (open_part sets t) → seen_txn (history_of (log ++ more)) (open_part sets t) ≡ seen_txn (history_of log) (open_part sets t)
  same_txn sets sound t fits =
      ap (λ (d : Database). record (seen_txn (history_of log) (open_part sets t)) { image = d.image }) (same_database t.txn.base.number t.txn.base.block t.txn.base.entry sound fits.base)

pub growth_leaves_fit : GrowthLeavesFit
growth_leaves_fit = record {
  fit = fit_later;
  seen = λ log more sets o sound fit.
      same_maps (λ (t : OpenTxn). seen_txn (history_of (log ++ more)) (open_part sets t)) (λ (t : OpenTxn). seen_txn (history_of log) (open_part sets t)) (λ (t : OpenTxn). FitsTxn (history_of log) (open_part sets t))
      (same_txn log more sets sound) o.txns fit.txns;
}

-- ---- a step

module _ (sets : ℕ → Held) (access : Access) (pages : Held) (store : StoreTold) (old new : StoreShown) (o last : Open) (n p : ℕ) (mine : List Id16) where
  abbrev later : List Item
  later = history_of new.log

  got_fits : (id : Id16) (asked got : Open) (f : Fetched) (away : IsAway pages o n p id asked) (g : Gets store old new id asked f got) → store.tells → Sound (history_of old.log) → GrewHonestly store.alone mine old.log new.log
      → AreFit later sets o → AreFit later sets got
  got_fits id asked got f away g tells sound honest fit =
      let b : BlockGetSound store mine old new id g.before f g.after = g.gets.sound tells mine sound honest in
      let call : MayCall later g.before g.after = calls_change_no_image.gets b.outcome later id g.before g.after f g.gets.leaves b.ends in
      let before : o.cache ≡ Some g.before = ap (λ (x : Open). x.cache) (sym away.same) ∙ g.before_is in
      let txns : got.txns ≡ o.txns = g.txns ∙ ap (λ (x : Open). x.txns) away.same in
      record { txns = subst (TxnsFit later sets) (sym txns) fit.txns; cached = now_over later sets got g.after g.after_is (may_fit later g.before g.after call (over later sets o g.before before fit)) }

  -- the transactions over the cache with the block, and what comes then
  then_fits : (f : Fetched) (got : Open) (r : Stepped) → AreFit later sets got → IsDistinct nat_eq (numbers_of got.txns) → AreOpen last → GoesAfter access pages n p f got r last → AreFit later sets last
  then_fits (fetched.In slot) got r fit differ still goes = comes later sets access pages got last n p goes.0 fit differ still goes.1
  then_fits fetched.CacheFull got r fit differ still goes = same_fit later sets got last goes.1 fit
  then_fits fetched.Gone got r fit differ still goes = same_fit later sets got last goes.1 fit
  then_fits (fetched.BadBlock len) got r fit differ still goes = same_fit later sets got last goes.1 fit
  then_fits fetched.StoreFault got r fit differ still goes = same_fit later sets got last goes.1 fit
  then_fits fetched.NoMemory got r fit differ still goes = same_fit later sets got last goes.1 fit

  -- a block was got
  brought_fits : (id : Id16) (asked : Open) (r : Stepped) → PageCalls access pages o n p (came.Absent id) asked → GoesOn access pages store old new n p (came.Absent id) asked r last → store.tells → Sound (history_of old.log)
      → GrewHonestly store.alone mine old.log new.log → AreFit (history_of old.log) sets o → AreOpen o → AreOpen last → AreFit later sets last
  brought_fits id asked r calls goes tells sound honest fit opened still =
      let away : IsAway pages o n p id asked = wants access pages o asked n p id opened calls in
      let g : Gets store old new id asked goes.0 goes.1 = gets_of store old new id asked goes.0 goes.1 goes.2 in
      let told = g.gets.told tells in
      let now : AreFit later sets o = subst (λ (l : List LogEntry). AreFit (history_of l) sets o) (sym told.grown) (fit_later old.log told.others sets o fit) in
      let differ : IsDistinct nat_eq (numbers_of goes.1.txns) = subst (λ (ts : List OpenTxn). IsDistinct nat_eq (numbers_of ts)) (sym (g.txns ∙ ap (λ (x : Open). x.txns) away.same)) (differ_open o opened) in
      then_fits goes.0 goes.1 r (got_fits id asked goes.1 goes.0 away g tells sound honest now) differ still goes.3

  -- no request was made
  none_fits : (c : Came) (asked : Open) → PageCalls access pages o n p c asked → last ≡ asked → new ≡ old → AreFit (history_of old.log) sets o → AreOpen o → AreOpen last → AreFit later sets last
  none_fits c asked calls same rests fit opened still =
      let is_open : AreOpen asked = subst AreOpen same still in
      let now : AreFit (history_of old.log) sets asked = comes (history_of old.log) sets access pages o asked n p c fit (differ_open o opened) is_open calls in
      subst (λ (s : StoreShown). AreFit (history_of s.log) sets last) (sym rests) (same_fit (history_of old.log) sets asked last same now)

  step_fits : (c : Came) (asked : Open) (r : Stepped) → PageCalls access pages o n p c asked → GoesOn access pages store old new n p c asked r last → store.tells → Sound (history_of old.log)
      → GrewHonestly store.alone mine old.log new.log → AreFit (history_of old.log) sets o → AreOpen o → AreOpen last → AreFit later sets last
  step_fits (came.Absent id) asked r calls goes tells sound honest fit opened still = brought_fits id asked r calls goes tells sound honest fit opened still
  step_fits (came.Page bytes) asked r calls goes tells sound honest fit opened still = none_fits (came.Page bytes) asked calls goes.1 goes.2 fit opened still
  step_fits came.Held asked r calls goes tells sound honest fit opened still = none_fits came.Held asked calls goes.1 goes.2 fit opened still
  step_fits came.CacheFull asked r calls goes tells sound honest fit opened still = none_fits came.CacheFull asked calls goes.1 goes.2 fit opened still
  step_fits came.BadPage asked r calls goes tells sound honest fit opened still = none_fits came.BadPage asked calls goes.1 goes.2 fit opened still
  step_fits came.NoTxn asked r calls goes tells sound honest fit opened still = none_fits came.NoTxn asked calls goes.1 goes.2 fit opened still
  step_fits came.NoMemory asked r calls goes tells sound honest fit opened still = none_fits came.NoMemory asked calls goes.1 goes.2 fit opened still

pub steps_leave_fit : (access : Access) (pages : Held) (store : StoreTold) (old new : StoreShown) (o last : Open) (n p : ℕ) (r : Stepped) → AreOpen o → AreOpen last → Steps access pages store old new o n p r last
    → OverSoundLog store old new (λ mine. LeavesFit old new o last)
steps_leave_fit access pages store old new o last n p r opened still steps = λ tells mine sound honest sets fit.
    step_fits sets access pages store old new o last n p mine steps.0 steps.1 r steps.2 steps.3 tells sound honest fit opened still

-- a fetch
module _ (store : StoreTold) (old new : StoreShown) (id : Id16) (r : Fetched) (mine : List Id16) where
  fetch_call : (c d : Blocks) (x : Option ℕ) (room : Bool) → store.tells → Sound (history_of old.log) → GrewHonestly store.alone mine old.log new.log → BlockFetches x room store old new id c r d → MayCall (history_of new.log) c d
  fetch_call c d (Some slot) room tells sound honest does = calls_change_no_image.finds (history_of new.log) id c d does.1
  fetch_call c d None false tells sound honest does = inl does.1
  fetch_call c d None true tells sound honest does = (let b : BlockGetSound store mine old new id c r d = does.sound tells mine sound honest in calls_change_no_image.gets b.outcome (history_of new.log) id c d r does.leaves b.ends)

  -- the log with what others appended
  fetch_later : (sets : ℕ → Held) (o : Open) (c d : Blocks) (x : Option ℕ) (room : Bool) → store.tells → BlockFetches x room store old new id c r d → AreFit (history_of old.log) sets o → AreFit (history_of new.log) sets o
  fetch_later sets o c d (Some slot) room tells does fit = subst (λ (s : StoreShown). AreFit (history_of s.log) sets o) (sym does.2) fit
  fetch_later sets o c d None false tells does fit = subst (λ (s : StoreShown). AreFit (history_of s.log) sets o) (sym does.2) fit
  fetch_later sets o c d None true tells does fit =
      let told = does.told tells in subst (λ (l : List LogEntry). AreFit (history_of l) sets o) (sym told.grown) (fit_later old.log told.others sets o fit)

pub fetch_leaves_fit : (store : StoreTold) (old new : StoreShown) (id : Id16) (r : Fetched) (o got : Open) (c d : Blocks) → o.cache ≡ Some c → got.cache ≡ Some d → got.txns ≡ o.txns
    → BlockFetches (slot_of id c.entries) (has_room c) store old new id c r d → OverSoundLog store old new (λ mine. LeavesFit old new o got)
fetch_leaves_fit store old new id r o got c d before after txns does = λ tells mine sound honest sets fit.
    let now : AreFit (history_of new.log) sets o = fetch_later store old new id r mine sets o c d (slot_of id c.entries) (has_room c) tells does fit in
    let call : MayCall (history_of new.log) c d = fetch_call store old new id r mine c d (slot_of id c.entries) (has_room c) tells sound honest does in
    record {
      txns = subst (TxnsFit (history_of new.log) sets) (sym txns) now.txns;
      cached = now_over (history_of new.log) sets got d after (may_fit (history_of new.log) c d call (over (history_of new.log) sets o c before now));
    }

-- ---- sets that keep the views

part_is : (old new : ℕ → Held) (t : OpenTxn) → KeepsTxnView old new t → open_part new t ≡ open_part old t
part_is old new t keeps = ap (λ (view : List Writes). record (open_part old t) { view = view }) (keeps.1 keeps.0).1

views_fit : (past : List Item) (old new : ℕ → Held) (ts : List OpenTxn) → AllByRecursion (KeepsTxnView old new) ts → AllByRecursion (λ (t : OpenTxn). FitsTxn past (open_part old t)) ts
    → AllByRecursion (λ (t : OpenTxn). FitsTxn past (open_part new t)) ts
views_fit past old new [] keep all = tt
views_fit past old new (t ∷ ts) keep all = (subst (FitsTxn past) (sym (part_is old new t keep.0)) all.0, views_fit past old new ts keep.1 all.1)

views_seen : (past : List Item) (old new : ℕ → Held) (ts : List OpenTxn) → AllByRecursion (KeepsTxnView old new) ts → seen_txns past new ts ≡ seen_txns past old ts
views_seen past old new [] keep = refl
views_seen past old new (t ∷ ts) keep =
    ap (λ (x : Txn). x ∷ seen_txns past new ts) (ap (seen_txn past) (part_is old new t keep.0)) ∙ ap (λ (xs : List Txn). seen_txn past (open_part old t) ∷ xs) (views_seen past old new ts keep.1)

pub views_leave_fit : ViewsLeaveFit
views_leave_fit = record {
  fit = λ past old new o keep fit. record { txns = views_fit past old new o.txns keep fit.txns; cached = fit.cached };
  seen = λ past old new o keep. views_seen past old new o.txns keep;
}

-- ---- cached blocks

first_at : (past : List Item) (i : Id16) (bytes : List ℕ) (es : List Entry) → AllByRecursion (FitsEntry past) es → cached_bytes i es ≡ Some bytes → first_put past i ≡ Some bytes
first_at past i bytes [] all is = absurd (cc)
first_at past i bytes (e ∷ es) all is = elim (cases_Bool (has_id i e)) [
  | inl b ↦ (let some : Some e.bytes ≡ Some bytes = sym (ap (λ (c : Bool). option_map (λ (x : Entry). x.bytes) (cond c (Some e) (find (has_id i) es))) b) ∙ is in
      subst (λ (j : Id16). first_put past j ≡ Some bytes) (sym (id_eq-is i e.id b)) (all.0 ∙ some))
  | inr b ↦ first_at past i bytes es all.1 (sym (ap (λ (c : Bool). option_map (λ (x : Entry). x.bytes) (cond c (Some e) (find (has_id i) es))) b) ∙ is)
]

pub cached_are_first : CachedAreFirst
cached_are_first past sets o fit = some_kept (AllFit past) (λ (c : Blocks). AreFirstPuts past c.entries) (λ (c : Blocks) all. λ i bytes is. first_at past i bytes c.entries all is) o.cache fit.cached

-- over equal stores and transactions
pub leaves_fit_by : (store : StoreTold) (old new now : StoreShown) (o n m : Open) → now ≡ new → m ≡ n → OverSoundLog store old new (λ mine. LeavesFit old new o n) → OverSoundLog store old now (λ mine. LeavesFit old now o m)
leaves_fit_by store old new now o n m shown same fact =
    subst (λ (x : Open). OverSoundLog store old now (λ mine. LeavesFit old now o x)) (sym same) (subst (λ (s : StoreShown). OverSoundLog store old s (λ mine. LeavesFit old s o n)) (sym shown) fact)

pub nothing_done : (store : StoreTold) (old : StoreShown) (o : Open) → OverSoundLog store old old (λ mine. LeavesFit old old o o)
nothing_done store old o = λ tells mine sound honest sets fit. fit

-- ---- parts of a client

parts_seen : (past : List Item) (sets : ℕ → Held) (ts : List OpenTxn) → map (seen_txn past) (open_parts sets ts) ≡ seen_txns past sets ts
parts_seen past sets [] = refl
parts_seen past sets (t ∷ ts) = ap (λ (xs : List Txn). seen_txn past (open_part sets t) ∷ xs) (parts_seen past sets ts)

parts_fit : (past : List Item) (sets : ℕ → Held) (ts : List OpenTxn) → AllByRecursion (FitsTxn past) (open_parts sets ts) → TxnsFit past sets ts
parts_fit past sets [] all = tt
parts_fit past sets (t ∷ ts) all = (all.0, parts_fit past sets ts all.1)

fit_parts : (past : List Item) (sets : ℕ → Held) (ts : List OpenTxn) → TxnsFit past sets ts → AllByRecursion (FitsTxn past) (open_parts sets ts)
fit_parts past sets [] all = tt
fit_parts past sets (t ∷ ts) all = (all.0, fit_parts past sets ts all.1)

pub parts_are_seen : PartsAreSeen
parts_are_seen = record { seen = parts_seen; fit = parts_fit; back = fit_parts }

-- ---- the oldest number over a set

least_none : (a : ℕ) (r : Option ℕ) → least_of (Some a) r ≡ None → ⊥
least_none a None is = cc
least_none a (Some b) is = cc

over_oldest : (set : ℕ) (ts : List OpenTxn) (o : ℕ) → IfSome (oldest_in set ts) (λ (x : ℕ). o ≤ x) → AllByRecursion (λ (t : OpenTxn). t.set ≡ set → o ≤ t.txn.base.from) ts
over_oldest set [] o le = tt
over_oldest set (t ∷ ts) o le = elim (cases_Bool (t.set == set)) [
  | inl b ↦ (let both = least_le t.txn.base.from o (oldest_in set ts) (subst (λ (c : Bool). IfSome (cond c (least_of (Some t.txn.base.from) (oldest_in set ts)) (oldest_in set ts)) (λ (x : ℕ). o ≤ x)) b le) in
      ((λ same. both.0), over_oldest set ts o both.1))
  | inr b ↦ (
    (λ same. absurd (eqb-false t.set set b same)),
    over_oldest set ts o (subst (λ (c : Bool). IfSome (cond c (least_of (Some t.txn.base.from) (oldest_in set ts)) (oldest_in set ts)) (λ (x : ℕ). o ≤ x)) b le),
  )
]
  where
    least_le : (a o : ℕ) (r : Option ℕ) → IfSome (least_of (Some a) r) (λ (x : ℕ). o ≤ x) → (o ≤ a) × IfSome r (λ (x : ℕ). o ≤ x)
    least_le a o None le = (le, tt)
    least_le a o (Some b) le = (omega (arith, le), omega (arith, le))

none_over : (set : ℕ) (ts : List OpenTxn) → oldest_in set ts ≡ None → AllByRecursion (λ (t : OpenTxn). t.set ≡ set → ⊥) ts
none_over set [] is = tt
none_over set (t ∷ ts) is = elim (cases_Bool (t.set == set)) [
  | inl b ↦ absurd (least_none t.txn.base.from (oldest_in set ts) (subst (λ (c : Bool). cond c (least_of (Some t.txn.base.from) (oldest_in set ts)) (oldest_in set ts) ≡ None) b is))
  | inr b ↦ ((λ same. eqb-false t.set set b same), none_over set ts (subst (λ (c : Bool). cond c (least_of (Some t.txn.base.from) (oldest_in set ts)) (oldest_in set ts) ≡ None) b is))
]

pub oldest_is_least : OldestIsLeast
oldest_is_least = record {
  some = λ set ts o is. over_oldest set ts o (subst (λ (x : Option ℕ). IfSome x (λ (y : ℕ). o ≤ y)) (sym is) (omega arith));
  none = none_over;
}
