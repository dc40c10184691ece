-- What hold and free do, from what was found and what the cache did.
use Rattle.std.proofs.Common.{◌≡◌, ◌∙◌, ℕ, ◌≤◌, Bool, true, false, ◌&&◌, List, [], ◌∷◌, ◌++◌, map, slice_get, get_or, Option, Some, None, is_some, option_map, Result, Ok, Err, refl, sym, ap, subst}
use Rattle.std.specs.List.{find, position, remove}
use Rattle.std.specs.Option.{IsSomeAnd}
use Rattle.std.specs.Result.{IsErr}
use Rattle.std.proofs.lemmas.Bool.{le-leb}
use Rattle.std.specs.declared.alloc.AllocError.{AllocError}
use Rattle.bcv_base.specs.declared.id.Id16.{Id16}
use Rattle.bcv_cache.specs.Entry.{Entry, Blocks, Pinned}
use Rattle.bcv_cache.specs.Cache.{entry_in, without, counted_up, counted_down, IsSlotOf}
use Rattle.bcv_cache.specs.Cache.{pin_on as pin_on_entry}
use Rattle.bcv_snapshot.specs.declared.held_block.HeldBlock.{HeldBlock}
use Rattle.bcv_snapshot.specs.Opened.{Opened, IsTxn, has_block_number, number_of, block_id, pin_of, is_held}
use Rattle.bcv_snapshot.specs.Pins.{KeepsPins}
use Rattle.bcv_snapshot.specs.TxnCalls.{TxnHolds, HoldsOneMore, TxnFrees}
use Rattle.bcv_snapshot.proofs.BaseBlocks.{less_txn, more_txn}
use Rattle.bcv_snapshot.proofs.HeldBlocks.{held_at, none_found, pin_where, position_at}
use Rattle.bcv_snapshot.proofs.PinLaws.{freed, held_more, slot_is}

-- a block has a pin where a place was found
found_pin : (m : ℕ) (hs : List HeldBlock) (n : ℕ) (xs : List HeldBlock) (r : Option ℕ) (b : Bool) → r ≡ position (has_block_number n) xs → n ≡ m → xs ≡ hs → is_some r ≡ b → is_some (pin_of m hs) ≡ b
found_pin m hs n xs r b is same list some = pin_where m hs ∙ ap (λ (o : Option ℕ). is_some o) (position_at n m xs hs r r is same list refl) ∙ some

pub pin_free : (m : ℕ) (hs : List HeldBlock) (n : ℕ) (xs : List HeldBlock) (r : Option ℕ) → r ≡ position (has_block_number n) xs → n ≡ m → xs ≡ hs → is_some r ≡ false → is_some (pin_of m hs) ≡ false
pin_free m hs n xs r is same list none = found_pin m hs n xs r false is same list none

-- whether a page's block is held, by whether it has a place
pub held_is : (t : Opened) (p n : ℕ) (xs : List HeldBlock) (r : Option ℕ) (b : Bool) → r ≡ position (has_block_number n) xs → n ≡ number_of t.base p → xs ≡ t.held → 1 ≤ p → is_some r ≡ b → is_held t p ≡ b
held_is t p n xs r b is same list one some =
    ap (λ (a : Bool). a && is_some (pin_of (number_of t.base p) t.held)) (le-leb 1 p one) ∙ found_pin (number_of t.base p) t.held n xs r b is same list some

-- ---- hold

pub holds_already : (b : Bool) (t : Opened) (c : Blocks) (p slot : ℕ) → b ≡ true → TxnHolds {E = AllocError} b t c p slot (Ok tt) t c
holds_already true t c p slot is = (refl, refl)
holds_already false t c p slot is = absurd (cc)

pub holds_not : (b : Bool) (r : Result (Unit {0}) AllocError) (t u : Opened) (c : Blocks) (p slot : ℕ) → b ≡ false → IsErr r → u ≡ t → TxnHolds b t c p slot r u c
holds_not true r t u c p slot is err same = absurd (cc)
holds_not false (Ok done) t u c p slot is err same = absurd (cc (err))
holds_not false (Err e) t u c p slot is err same = (same, refl)

holds_one : (b : Bool) (t u : Opened) (c d : Blocks) (p slot : ℕ) → b ≡ false → HoldsOneMore t c p slot u d → TxnHolds {E = AllocError} b t c p slot (Ok tt) u d
holds_one true t u c d p slot is one = absurd (cc)
holds_one false t u c d p slot is one = one

-- the pin that is given is on the entry's block
pinned_is : (es : List Entry) (slot : ℕ) (i : Id16) (pin : Pinned) → IsSlotOf slot i es → option_map pin_on_entry (entry_in slot es) ≡ Some pin → pin ≡ record { slot = slot; id = i }
pinned_is es slot i pin there is = by (entry_in slot es) refl there is
  where
    by : (o : Option Entry) → entry_in slot es ≡ o → IsSomeAnd o (λ e. e.id ≡ i) → option_map pin_on_entry o ≡ Some pin → pin ≡ record { slot = slot; id = i }
    by None found at some = absurd at
    by (Some e) found at some =
        let same : pin_on_entry e ≡ pin = cc in
        sym same ∙ ap (λ (k : ℕ). let x : Pinned = record { slot = k; id = e.id } in x) (slot_is slot es e found) ∙ ap (λ (j : Id16). let x : Pinned = record { slot = slot; id = j } in x) at

-- what is there and has a property
record IsThere (o : Option Id16) (P : Id16 → Type 0) : Type 0 where
  id : Id16
  is : o ≡ Some id
  so : P id

there_is : (o : Option Id16) (P : Id16 → Type 0) → IsSomeAnd o P → IsThere o P
there_is None P h = absurd h
there_is (Some i) P h = record { id = i; is = refl; so = h }

-- one block more
pub record HeldOneMore (t : Opened) (c : Blocks) (p slot : ℕ) (h : HeldBlock) (d : Blocks) : Type 0 where
  pub holds : TxnHolds {E = AllocError} (is_held t p) t c p slot (Ok tt) (record t { held = t.held ++ h ∷ [] }) d
  pub pins : KeepsPins t.held c.entries (t.held ++ h ∷ []) d.entries
  pub txn : IsTxn (record t { held = t.held ++ h ∷ [] })

pub one_more_held : (t : Opened) (c d : Blocks) (p slot : ℕ) (h : HeldBlock) → IsTxn t → is_held t p ≡ false → is_some (pin_of (number_of t.base p) t.held) ≡ false → h.number ≡ number_of t.base p
    → IsSomeAnd (block_id t.base p) (λ id. IsSlotOf slot id c.entries) → option_map pin_on_entry (entry_in slot c.entries) ≡ Some h.pin
    → d ≡ record c { entries = map (counted_up slot) c.entries } → ((k : ℕ) → entry_in k d.entries ≡ option_map (counted_up slot) (entry_in k c.entries))
    → HeldOneMore t c p slot h d
one_more_held t c d p slot h is_txn held free number entry pin entries slots =
    let there = there_is (block_id t.base p) (λ id. IsSlotOf slot id c.entries) entry in
    let given : h.pin ≡ record { slot = slot; id = there.id } = pinned_is c.entries slot there.id h.pin there.so pin in
    let at : h.pin.slot ≡ slot = ap (λ (x : Pinned). x.slot) given in
    let of_id : h.pin.id ≡ there.id = ap (λ (x : Pinned). x.id) given in
    let on_slot : IsSlotOf h.pin.slot h.pin.id c.entries =
    subst (λ (k : ℕ). IsSlotOf k h.pin.id c.entries) (sym at) (subst (λ (i : Id16). IsSlotOf slot i c.entries) (sym of_id) there.so)
    in
    let none : find (has_block_number h.number) t.held ≡ None = subst (λ (n : ℕ). find (has_block_number n) t.held ≡ None) (sym number) (none_found (number_of t.base p) t.held free) in
    let block : HeldBlock = record { number = number_of t.base p; pin = record { slot = slot; id = there.id } } in
    let whole : h ≡ block = ap (λ (n : ℕ). let x : HeldBlock = record { number = n; pin = h.pin } in x) number ∙ ap (λ (q : Pinned). let x : HeldBlock = record { number = number_of t.base p; pin = q } in x) given in
    record {
      holds = holds_one (is_held t p) t (record t { held = t.held ++ h ∷ [] }) c d p slot held
          (record { id = there.id; is = there.is; held = ap (λ (x : HeldBlock). record t { held = t.held ++ x ∷ [] }) whole; pinned = entries });
      pins = held_more t.held h c.entries d.entries on_slot (subst (λ (s : ℕ). (k : ℕ) → entry_in k d.entries ≡ option_map (counted_up s) (entry_in k c.entries)) (sym at) slots);
      txn = more_txn t h (ap (λ (n : ℕ). id_of_number t n) number ∙ there.is ∙ ap (λ (i : Id16). Some i) (sym of_id)) none is_txn;
    }
  where
    id_of_number : Opened → ℕ → Option Id16
    id_of_number t n = slice_get t.base.entry.blocks n

-- ---- free

-- one block less
pub record FreedOne (t : Opened) (c : Blocks) (p : ℕ) (rest : List HeldBlock) (d : Blocks) : Type 0 where
  pub frees : TxnFrees t c p true (record t { held = rest }) d
  pub pins : KeepsPins t.held c.entries rest d.entries
  pub txn : IsTxn (record t { held = rest })

pub one_freed : (t : Opened) (c d : Blocks) (p at : ℕ) (h : HeldBlock) (rest : List HeldBlock) → IsTxn t → is_held t p ≡ true → position (has_block_number (number_of t.base p)) t.held ≡ Some at
    → h ≡ get_or t.held at h → rest ≡ remove t.held at
    → d ≡ record c { entries = map (counted_down h.pin.slot) c.entries } → ((k : ℕ) → entry_in k d.entries ≡ option_map (counted_down h.pin.slot) (entry_in k c.entries))
    → FreedOne t c p rest d
one_freed t c d p at h rest is_txn held place is removed entries slots =
    let a = held_at (number_of t.base p) t.held at h place is in
    let less : rest ≡ without (has_block_number (number_of t.base p)) t.held = removed ∙ a.removed in
    record {
      frees = (held, record { pin = h.pin; was = a.pin; held = ap (λ (hs : List HeldBlock). record t { held = hs }) less; unpinned = entries });
      pins = subst (λ (hs : List HeldBlock). KeepsPins t.held c.entries hs d.entries) (sym less) (freed (has_block_number (number_of t.base p)) t.held h c.entries d.entries a.found slots);
      txn = subst (λ (hs : List HeldBlock). IsTxn (record t { held = hs })) (sym less) (less_txn t (number_of t.base p) is_txn);
    }
