-- A hold is the machine's.
use Rattle.std.proofs.Common.{◌≡◌, ◌∙◌, ◌==◌, ℕ, ◌-◌, ◌/◌, ◌≤◌, Bool, true, false, cond, ◌||◌, nat_eq, nat_le, nat_lt, List, [], ◌∷◌, ◌++◌, map, Option, Some, None, IfSome, Ok, is_some, option_map, if◌then◌else◌, refl, sym, ap, subst}
use Rattle.std.specs.declared.alloc.AllocError.{AllocError}
use Rattle.std.specs.Cmp.{second_so}
use Rattle.std.specs.List.{IsDistinct}
use Rattle.std.proofs.lemmas.List.{map-append}
use Rattle.bcv_base.specs.declared.id.Id16.{Id16}
use Rattle.bcv_base.specs.History.{Item}
use Rattle.bcv_base.specs.Views.{Added, FromBase, Wrote, view_size}
use Rattle.bcv_cache.specs.Cache.{IsCache, has_room}
use Rattle.bcv_cache.specs.Entry.{Blocks}
use Rattle.bcv_clientstate.specs.Fits.{FitsTxn}
use Rattle.bcv_machine.specs.Reading.{holding, with_block, with_txn as machine_with}
use Rattle.bcv_machine.specs.Refusals.{is_outside as machine_outside}
use Rattle.bcv_machine.specs.State.{Side, ToHold, Txn, Up, block_of_page, held_pairs, holds, is_at_hand, is_local, slot_count, with_up}
use Rattle.bcv_machine.specs.State.{txn_at as machine_txn}
use Rattle.bcv_model.specs.declared.reply.Reply.TheVariants as reply
use Rattle.bcv_pages.specs.Held.{Held}
use Rattle.bcv_snapshot.specs.declared.held_block.HeldBlock.{HeldBlock}
use Rattle.bcv_snapshot.specs.declared.place.Place.{Place}
use Rattle.bcv_snapshot.specs.declared.place.Place.TheVariants as place
use Rattle.bcv_snapshot.specs.Opened.{Opened, is_held, number_of, pin_of}
use Rattle.bcv_snapshot.specs.Pins.{HasPins}
use Rattle.bcv_snapshot.specs.TxnCalls.{HoldsOneMore, TxnHolds, TxnPlaces}
use Rattle.bcv_transaction.specs.declared.answers.Came.{Came}
use Rattle.bcv_transaction.specs.declared.answers.Came.TheVariants as came
use Rattle.bcv_transaction.specs.declared.open_txn.OpenTxn.{OpenTxn}
use Rattle.bcv_transaction.specs.ListCalls.{HoldsIn, HoldsOf}
use Rattle.bcv_transaction.specs.MachineCalls.{Comes, IsSetOf, StandsFor, open_part, seen_txns, side_with}
use Rattle.bcv_transaction.specs.Open.{AreOpenWith, Open, is_numbered, numbers_of, txn_at, view_in, with_txn}
use Rattle.bcv_transaction.specs.PageCalls.{HeldAs, HeldIn, HoldsPage}
use Rattle.bcv_transaction.proofs.CachedHeld.{not_held}
use Rattle.bcv_transaction.proofs.MachineFrees.{held_no, number_found, seen_with, with_same}
use Rattle.bcv_transaction.proofs.MachineLists.{seen, seen_at, side_same}
use Rattle.bcv_transaction.proofs.MachineLooks.{pins_of_one}
use Rattle.bcv_transaction.proofs.MachinePages.{holds_seen, local_seen, none_outside, one_of, outside_seen, some_inside}
use Rattle.bcv_transaction.proofs.MachineReads.{away_comes, full_of_held, none_comes, page_comes}
use Rattle.bcv_transaction.proofs.OpenMoves.{same_size}

-- the transaction of a number, as the machine has it
pub record IsSeenAt (past : List Item) (sets : ℕ → Held) (ts : List OpenTxn) (s : Side) (u : Up) (n : ℕ) (t : OpenTxn) : Type 0 where
  pub there : machine_txn u n ≡ Some (seen past sets t)
  pub all : u.txns ≡ seen_txns past sets ts
  pub differ : IsDistinct nat_eq (numbers_of ts)
  pub found : txn_at n ts ≡ Some t
  pub number : t.number ≡ n
  pub block : s.container.block ≡ t.txn.base.block

module _ (past : List Item) (sets : ℕ → Held) (t : OpenTxn) (c d : Blocks) (s : Side) (u : Up) (n p : ℕ) (ts : List OpenTxn) where
  -- the side where the transaction keeps this
  abbrev now : Opened → Side
  now v = side_with past sets s u (with_txn n v ts)

  -- the pages of its image
  abbrev pages_of : ℕ
  pages_of = view_size t.txn.base.entry.pages (view_in (sets t.set) t)

  -- the machine's transaction
  abbrev x : Txn
  x = seen past sets t

  unmoved : (v : Opened) → IsSeenAt past sets ts s u n t → v ≡ t.txn → now v ≡ with_up s u
  unmoved v i same =
      ap (λ (w : Opened). side_with past sets s u (with_txn n w ts)) same
      ∙ ap (side_with past sets s u) (with_same n t ts i.differ i.found) ∙ side_same past sets s u ts i.all

  -- the transaction is this one in the machine's words
  moved : (v : Opened) (y : Txn) → IsSeenAt past sets ts s u n t → y.number ≡ t.number → seen past sets (record t { txn = v }) ≡ y → holding s.container x p ≡ y
      → now v ≡ with_up s (machine_with u (holding s.container x p))
  moved v y i number shown is =
      let txns : seen_txns past sets (with_txn n v ts) ≡ (machine_with u y).txns =
      seen_with past sets n v t y ts i.differ i.found shown
      ∙ ap (λ (k : ℕ). map (λ (z : Txn). if z.number == k then y else z) (seen_txns past sets ts)) (sym (number ∙ i.number))
      ∙ ap (map (λ (z : Txn). if z.number == y.number then y else z)) (sym i.all)
      in
      ap (λ (xs : List Txn). with_up s (record u { txns = xs })) txns ∙ ap (λ (z : Txn). with_up s (machine_with u z)) (sym is)

  -- a local page, of which nothing is held
  local_held : (v : Opened) → IsSeenAt past sets ts s u n t → v ≡ t.txn → is_local x p ≡ true → now v ≡ with_up s (machine_with u (holding s.container x p))
  local_held v i same local =
      moved v x i refl (ap (λ (w : Opened). seen past sets (record t { txn = w })) same)
      (ap (λ (b : Bool). cond b x (record x { held = with_block (block_of_page s.container x p) x.held })) local)

  -- a page of a block, by whether it is held
  block_held : (b : Bool) → is_local x p ≡ false → holds s.container x p ≡ b
      → holding s.container x p ≡ record x { held = cond b x.held (x.held ++ block_of_page s.container x p ∷ []) }
  block_held b local has =
      ap (λ (z : Bool). cond z x (record x { held = with_block (block_of_page s.container x p) x.held })) local
      ∙ ap (λ (z : Bool). record x { held = cond z x.held (x.held ++ block_of_page s.container x p ∷ []) }) has

  still_held : (v : Opened) → IsSeenAt past sets ts s u n t → v ≡ t.txn → is_local x p ≡ false → holds s.container x p ≡ true → now v ≡ with_up s (machine_with u (holding s.container x p))
  still_held v i same local has = moved v x i refl (ap (λ (w : Opened). seen past sets (record t { txn = w })) same) (block_held true local has)

  more_held : (v : Opened) (slot : ℕ) (e : Blocks) → IsSeenAt past sets ts s u n t → HoldsOneMore t.txn e p slot v d → is_local x p ≡ false → holds s.container x p ≡ false
      → now v ≡ with_up s (machine_with u (holding s.container x p))
  more_held v slot e i more local has =
      let y : Txn = record x { held = x.held ++ block_of_page s.container x p ∷ [] } in
      let h : HeldBlock = record { number = number_of t.txn.base p; pin = record { slot = slot; id = more.id } } in
      let shown : seen past sets (record t { txn = v }) ≡ y =
      ap (λ (w : Opened). seen past sets (record t { txn = w })) more.held
      ∙ ap (λ (ns : List ℕ). record x { held = ns }) (map-append (λ (z : HeldBlock). z.number) t.txn.held (h ∷ []))
      ∙ ap (λ (k : ℕ). record x { held = x.held ++ (p - 1) / (k / t.txn.base.entry.page_size) ∷ [] }) (sym i.block)
      in
      moved v y i refl shown (block_held false local has)

  -- the block was found in a slot
  slot_held : (r : Came) (v : Opened) (slot : ℕ) (e : Blocks) → IsSeenAt past sets ts s u n t → machine_outside p x ≡ false → ((p == 0) || nat_lt ((view_size t.txn.base.entry.pages (view_in (sets t.set) t))) p) ≡ false → is_local x p ≡ false
      → HeldIn t.txn e p slot r v d → Comes ToHold s u n p r (now v)
  slot_held came.Held v slot e i outside inside local held = by (is_held t.txn p) refl held
    where
      has_it : holds s.container x p ≡ is_some (pin_of (number_of t.txn.base p) t.txn.held)
      has_it = holds_seen past sets t s.container p i.block

      by : (b : Bool) → is_held t.txn p ≡ b → TxnHolds {E = AllocError} b t.txn e p slot (Ok tt) v d → Comes ToHold s u n p came.Held (now v)
      by true is stays =
          page_comes ToHold past sets t s u n p (now v) reply.Held false i.there outside
          (still_held v i stays.0 local (has_it ∙ second_so (nat_le 1 p) (is_some (pin_of (number_of t.txn.base p) t.txn.held)) is))
      by false is more =
          page_comes ToHold past sets t s u n p (now v) reply.Held false i.there outside
          (more_held v slot e i more local (has_it ∙ held_no p (is_some (pin_of (number_of t.txn.base p) t.txn.held)) (nat_lt ((view_size t.txn.base.entry.pages (view_in (sets t.set) t))) p) inside is))
  slot_held came.NoMemory v slot e i outside inside local held = unmoved v i held.1
  slot_held (came.Page copy) v slot e i outside inside local held = absurd held
  slot_held (came.Absent id) v slot e i outside inside local held = absurd held
  slot_held came.CacheFull v slot e i outside inside local held = absurd held
  slot_held came.BadPage v slot e i outside inside local held = absurd held
  slot_held came.NoTxn v slot e i outside inside local held = absurd held

  pub holds_so : (at : Place) (found : Blocks) (r : Came) (v : Opened) → IsSeenAt past sets ts s u n t
      → ((id : Id16) → at ≡ place.Absent id → holds s.container x p ≡ false)
      → (IsCache c → has_room c ≡ false → slot_count s ≤ held_pairs u)
      → TxnPlaces t.txn (view_in (sets t.set) t) c p at found → HeldAs t.txn p at found r v d → Comes ToHold s u n p r (now v)
  holds_so place.BadPage found r v i free full at held =
      subst (λ (y : Came). Comes ToHold s u n p y (now v)) (sym held.0)
      (page_comes ToHold past sets t s u n p (now v) reply.BadPage true i.there (outside_seen past sets t p true (none_outside t.txn.base (view_in (sets t.set) t) p at.0)) (refl, unmoved v i held.1))
  holds_so place.Local found r v i free full at held =
      let in_ = some_inside t.txn.base (view_in (sets t.set) t) p (Wrote at.0) at.1 in
      subst (λ (y : Came). Comes ToHold s u n p y (now v)) (sym held.0)
      (page_comes ToHold past sets t s u n p (now v) reply.Held false i.there (outside_seen past sets t p false in_.inside)
      (local_held v i held.1 (local_seen past sets t p (Wrote at.0) in_.from)))
  holds_so place.Zeros found r v i free full at held =
      let in_ = some_inside t.txn.base (view_in (sets t.set) t) p Added at.0 in
      subst (λ (y : Came). Comes ToHold s u n p y (now v)) (sym held.0)
      (page_comes ToHold past sets t s u n p (now v) reply.Held false i.there (outside_seen past sets t p false in_.inside)
      (local_held v i held.1 (local_seen past sets t p Added in_.from)))
  holds_so (place.Cached slot) found r v i free full at held =
      let in_ = some_inside t.txn.base (view_in (sets t.set) t) p FromBase at.0 in
      slot_held r v slot found i (outside_seen past sets t p false in_.inside) in_.inside (local_seen past sets t p FromBase in_.from) held
  holds_so (place.Absent id) found r v i free full at held =
      let in_ = some_inside t.txn.base (view_in (sets t.set) t) p FromBase at.0 in
      let away : is_at_hand s.container x p ≡ false = ap (λ (b : Bool). b || holds s.container x p) (local_seen past sets t p FromBase in_.from) ∙ free id refl in
      away_comes ToHold past sets t s u n p (now v) r id (has_room found) i.there (outside_seen past sets t p false in_.inside) (unmoved v i held.1) away
      (λ none. full (subst IsCache at.3 held.0.1) (ap has_room (sym at.3) ∙ none)) held.0.0

pub all_holds : (past : List Item) (sets : ℕ → Held) (o : Open) (s : Side) (u : Up) (c d : Blocks) (n p : ℕ) (pages : Held) (r : Came) (us : List OpenTxn) → o.cache ≡ Some c → AreOpenWith o.slots (Some c) o.txns
    → StandsFor past sets o s u → IsSetOf pages sets n o.txns → HoldsIn pages c o.txns n p r us d → Comes ToHold s u n p r (side_with past sets s u us)
all_holds past sets o s u c d n p pages r us cache opened stands set_of holds_it = by (txn_at n o.txns) refl
  where
    block : s.container.block ≡ c.block
    block = subst (λ (y : Option Blocks). IfSome y (λ (z : Blocks). s.container.block ≡ z.block)) cache stands.block

    by : (y : Option OpenTxn) → txn_at n o.txns ≡ y → Comes ToHold s u n p r (side_with past sets s u us)
    by None found =
        let none = subst (λ (y : Option OpenTxn). HoldsOf pages c y o.txns n p r us d) found holds_it in
        subst (λ (y : Came). Comes ToHold s u n p y (side_with past sets s u us)) (sym none.0)
        (subst (λ (xs : List OpenTxn). Comes ToHold s u n p came.NoTxn (side_with past sets s u xs)) (sym none.1) (none_comes ToHold past sets o.txns s u n p stands.txns found))
    by (Some t) found =
        let some = subst (λ (y : Option OpenTxn). HoldsOf pages c y o.txns n p r us d) found holds_it in
        let same : sets t.set ≡ pages = subst (λ (y : Option OpenTxn). IfSome y (λ (z : OpenTxn). sets z.set ≡ pages)) found set_of in
        let own : t.txn.base.block ≡ c.block = one_of (λ (y : OpenTxn). y.txn.base.block ≡ c.block) (is_numbered n) o.txns t opened.0.blocks found in
        let fits : FitsTxn past (open_part sets t) = one_of (λ (y : OpenTxn). FitsTxn past (open_part sets y)) (is_numbered n) o.txns t stands.fit.txns found in
        let pins : HasPins t.txn.held c.entries = pins_of_one o.txns n t c.entries found opened.0.pins in
        let i : IsSeenAt past sets o.txns s u n t =
        record { there = seen_at past sets n o.txns u stands.txns ∙ ap (option_map (seen past sets)) found; all = stands.txns; differ = opened.0.differ; found = found; number = number_found n o.txns t found; block = block ∙ sym own }
        in
        let holds_page = subst (λ (h : Held). HoldsPage t.txn (view_in h t) c p r some.0 d) (sym same) some.1 in
        subst (λ (xs : List OpenTxn). Comes ToHold s u n p r (side_with past sets s u xs)) (sym some.2)
        (holds_so past sets t c d s u n p o.txns holds_page.0 holds_page.1 r some.0 i
        (λ id is. let at : TxnPlaces t.txn (view_in (sets t.set) t) c p (place.Absent id) holds_page.1 = subst (λ (y : Place). TxnPlaces t.txn (view_in (sets t.set) t) c p y holds_page.1) is holds_page.2 in
        holds_seen past sets t s.container p (block ∙ sym own) ∙ not_held t.txn p id c.entries fits.is_txn pins at.1 at.2)
        (full_of_held past sets o s u c c cache opened opened.0 (same_size c c refl) stands) holds_page.2 holds_page.3)
