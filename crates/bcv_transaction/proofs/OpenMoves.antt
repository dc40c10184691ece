-- The open transactions after one of them and the cache have changed.
use Rattle.std.proofs.Common.{◌≡◌, ◌∙◌, ℕ, ◌+◌, ◌≤◌, Bool, true, false, nat_eq, List, [], ◌∷◌, ◌++◌, map, find, Option, Some, None, option_map, append-nil, append_assoc, refl, sym, ap, subst, arith}
use Rattle.std.specs.List.{AllByRecursion, IsDistinct}
use Rattle.std.proofs.lemmas.Grind.{flat_map-append}
use Rattle.bcv_base.specs.Image.{Writes}
use Rattle.bcv_cache.specs.Entry.{Blocks, Entry, Pinned}
use Rattle.bcv_cache.specs.Cache.{KeepsEntries}
use Rattle.bcv_snapshot.specs.declared.held_block.HeldBlock.{HeldBlock}
use Rattle.bcv_snapshot.specs.declared.place.Place.{Place}
use Rattle.bcv_snapshot.specs.declared.place.Place.TheVariants as place
use Rattle.bcv_snapshot.specs.Opened.{Opened, IsTxn, has_block_number, is_held, number_of}
use Rattle.bcv_snapshot.specs.Pins.{HasPins, KeepsPins, given_back, is_in, pins_in}
use Rattle.bcv_snapshot.specs.TxnCalls.{HoldsOneLess, HoldsOneMore, TxnPlaces}
use Rattle.bcv_snapshot.proofs.HeldBlocks.{all_imply}
use Rattle.bcv_snapshot.proofs.PinLaws.{pins_both, pins_found, pins_some, pins_swap}
use Rattle.bcv_transaction.specs.declared.answers.Came.{Came}
use Rattle.bcv_transaction.specs.declared.answers.Came.TheVariants as came
use Rattle.bcv_transaction.specs.declared.answers.Freed.{Freed}
use Rattle.bcv_transaction.specs.declared.answers.Freed.TheVariants as freed
use Rattle.bcv_transaction.specs.declared.open_txn.OpenTxn.{OpenTxn}
use Rattle.bcv_transaction.specs.ListCalls.{SameSize}
use Rattle.bcv_transaction.specs.Open.{AreOpenIn, all_held, numbers_of, with_txn, without_txn}
use Rattle.bcv_transaction.specs.PageCalls.{FreesPage, HeldAs, HeldIn, HoldsPage, ReadsPage}
use Rattle.bcv_transaction.proofs.PinCounts.{HasNoOthers, counts_back, counts_down, counts_placed, counts_same, counts_up, one_if, one_pin, pins_less}
use Rattle.bcv_transaction.proofs.TxnPlaces.{IsAt, changed, left}

-- what a call does to one transaction and to the cache: its pins and those of the others stay right, and so does the size
pub record Moves (t u : Opened) (c d : Blocks) : Type 0 where
  pub keeps : KeepsPins t.held c.entries u.held d.entries
  pub counts : (hs us : List HeldBlock) → ((k : ℕ) → pins_in k us + pins_in k t.held ≡ pins_in k hs + pins_in k u.held) → HasNoOthers hs c.entries → HasNoOthers us d.entries
  pub base : u.base ≡ t.base
  pub txn : IsTxn u
  pub size : SameSize c d

-- ---- the list around the transaction

held_between : (a : List OpenTxn) (x : OpenTxn) (b : List OpenTxn) → all_held (a ++ x ∷ b) ≡ all_held a ++ (x.txn.held ++ all_held b)
held_between a x b = flat_map-append (λ (t : OpenTxn). t.txn.held) a (x ∷ b)

pins_kept : (a held us b : List HeldBlock) (es fs : List Entry) → KeepsPins held es us fs → HasPins (a ++ (held ++ b)) es → HasPins (a ++ (us ++ b)) fs
pins_kept a held us b es fs keeps has =
    pins_swap (us ++ b) a fs (subst (λ (hs : List HeldBlock). HasPins hs fs) (sym (append_assoc us b a))
    (keeps (b ++ a) (subst (λ (hs : List HeldBlock). HasPins hs es) (append_assoc held b a) (pins_swap a (held ++ b) es has))))

same_numbers : (a : List OpenTxn) (x y : OpenTxn) (b : List OpenTxn) → y.number ≡ x.number → numbers_of (a ++ y ∷ b) ≡ numbers_of (a ++ x ∷ b)
same_numbers [] x y b same = ap (λ (k : ℕ). k ∷ numbers_of b) same
same_numbers (t ∷ a) x y b same = ap (λ (ks : List ℕ). t.number ∷ ks) (same_numbers a x y b same)

-- what holds of each, where one of them is another one
replaced : (P : OpenTxn → Type 0) (a : List OpenTxn) (x y : OpenTxn) (b : List OpenTxn) → (P x → P y) → AllByRecursion P (a ++ x ∷ b) → AllByRecursion P (a ++ y ∷ b)
replaced P [] x y b goes all = (goes all.0, all.1)
replaced P (t ∷ a) x y b goes all = (all.0, replaced P a x y b goes all.1)

pins_between : (k : ℕ) (a x b : List HeldBlock) → pins_in k (a ++ (x ++ b)) ≡ pins_in k a + (pins_in k x + pins_in k b)
pins_between k a x b = let one = pins_both k a (x ++ b) in let two = pins_both k x b in omega (arith, one, two)

between : (c d : Blocks) (a : List OpenTxn) (x : OpenTxn) (b : List OpenTxn) (u : Opened) → AreOpenIn c (a ++ x ∷ b) → Moves x.txn u c d → AreOpenIn d (a ++ record x { txn = u } ∷ b)
between c d a x b u opened m =
    let y : OpenTxn = record x { txn = u } in
    let before = held_between a x b in
    let after : all_held (a ++ y ∷ b) ≡ all_held a ++ (u.held ++ all_held b) = held_between a y b in
    record {
      numbers = replaced (λ (t : OpenTxn). (1 ≤ t.number) × (t.number ≤ 64)) a x y b (λ is. is) opened.numbers;
      differ = subst (IsDistinct nat_eq) (sym (same_numbers a x y b refl)) opened.differ;
      txns = replaced (λ (t : OpenTxn). IsTxn t.txn) a x y b (λ is. m.txn) opened.txns;
      blocks = replaced (λ (t : OpenTxn). t.txn.base.block ≡ d.block) a x y b (λ is. ap (λ z. z.block) m.base ∙ is)
          (all_imply (λ (t : OpenTxn). t.txn.base.block ≡ c.block) (λ (t : OpenTxn). t.txn.base.block ≡ d.block) (λ t is. is ∙ sym m.size.block) (a ++ x ∷ b) opened.blocks);
      pins = subst (λ (hs : List HeldBlock). HasPins hs d.entries) (sym after)
          (pins_kept (all_held a) x.txn.held u.held (all_held b) c.entries d.entries m.keeps (subst (λ (hs : List HeldBlock). HasPins hs c.entries) before opened.pins));
      no_others = m.counts (all_held (a ++ x ∷ b)) (all_held (a ++ y ∷ b)) (λ k. sums k before after) opened.no_others;
    }
  where
    sums : (k : ℕ) → all_held (a ++ x ∷ b) ≡ all_held a ++ (x.txn.held ++ all_held b) → all_held (a ++ record x { txn = u } ∷ b) ≡ all_held a ++ (u.held ++ all_held b)
        → pins_in k (all_held (a ++ record x { txn = u } ∷ b)) + pins_in k x.txn.held ≡ pins_in k (all_held (a ++ x ∷ b)) + pins_in k u.held
    sums k before after =
        let one = ap (λ (hs : List HeldBlock). pins_in k hs) before in
        let two = ap (λ (hs : List HeldBlock). pins_in k hs) after in
        let three = pins_between k (all_held a) x.txn.held (all_held b) in
        let four = pins_between k (all_held a) u.held (all_held b) in
        omega (arith, one, two, three, four)

-- a transaction that has moved
pub moved : (c d : Blocks) (n : ℕ) (ts : List OpenTxn) (at : ℕ) (x : OpenTxn) (u : Opened) → AreOpenIn c ts → IsAt n ts at x → Moves x.txn u c d → AreOpenIn d (with_txn n u ts)
moved c d n ts at x u opened i m = subst (AreOpenIn d) (sym (changed n ts at x u i)) (between c d i.front x i.back u (subst (AreOpenIn c) i.split opened) m)

-- where no transaction but the cache has moved
pub stayed : (c d : Blocks) (ts : List OpenTxn) → AreOpenIn c ts → KeepsEntries c.entries d.entries → HasNoOthers (all_held ts) d.entries → SameSize c d → AreOpenIn d ts
stayed c d ts opened stay counts size = record {
  numbers = opened.numbers;
  differ = opened.differ;
  txns = opened.txns;
  blocks = all_imply (λ (t : OpenTxn). t.txn.base.block ≡ c.block) (λ (t : OpenTxn). t.txn.base.block ≡ d.block) (λ t is. is ∙ sym size.block) ts opened.blocks;
  pins = pins_found (all_held ts) c.entries d.entries stay opened.pins;
  no_others = counts;
}

-- ---- a transaction less

fewer : (P : OpenTxn → Type 0) (a : List OpenTxn) (x : OpenTxn) (b : List OpenTxn) → AllByRecursion P (a ++ x ∷ b) → AllByRecursion P (a ++ b)
fewer P [] x b all = all.1
fewer P (t ∷ a) x b all = (all.0, fewer P a x b all.1)

fewer_numbers : (P : ℕ → Type 0) (a : List OpenTxn) (x : OpenTxn) (b : List OpenTxn) → AllByRecursion P (numbers_of (a ++ x ∷ b)) → AllByRecursion P (numbers_of (a ++ b))
fewer_numbers P [] x b all = all.1
fewer_numbers P (t ∷ a) x b all = (all.0, fewer_numbers P a x b all.1)

differ_less : (a : List OpenTxn) (x : OpenTxn) (b : List OpenTxn) → IsDistinct nat_eq (numbers_of (a ++ x ∷ b)) → IsDistinct nat_eq (numbers_of (a ++ b))
unfolding IsDistinct
differ_less [] x b d = d.1
differ_less (t ∷ a) x b d = (fewer_numbers (λ (k : ℕ). nat_eq t.number k ≡ false) a x b d.0, differ_less a x b d.1)

ended_between : (c d : Blocks) (a : List OpenTxn) (x : OpenTxn) (b : List OpenTxn) → AreOpenIn c (a ++ x ∷ b) → d ≡ record c { entries = map (given_back x.txn.held) c.entries }
    → KeepsPins x.txn.held c.entries [] d.entries → AreOpenIn d (a ++ b)
ended_between c d a x b opened is keeps =
    let before = held_between a x b in
    let after : all_held (a ++ b) ≡ all_held a ++ all_held b = flat_map-append (λ (t : OpenTxn). t.txn.held) a b in
    record {
      numbers = fewer (λ (t : OpenTxn). (1 ≤ t.number) × (t.number ≤ 64)) a x b opened.numbers;
      differ = differ_less a x b opened.differ;
      txns = fewer (λ (t : OpenTxn). IsTxn t.txn) a x b opened.txns;
      blocks = all_imply (λ (t : OpenTxn). t.txn.base.block ≡ c.block) (λ (t : OpenTxn). t.txn.base.block ≡ d.block) (λ t same. same ∙ ap (λ (z : Blocks). z.block) (sym is)) (a ++ b)
          (fewer (λ (t : OpenTxn). t.txn.base.block ≡ c.block) a x b opened.blocks);
      pins = subst (λ (hs : List HeldBlock). HasPins hs d.entries) (sym after)
          (pins_kept (all_held a) x.txn.held [] (all_held b) c.entries d.entries keeps (subst (λ (hs : List HeldBlock). HasPins hs c.entries) before opened.pins));
      no_others = subst (λ (z : Blocks). HasNoOthers (all_held (a ++ b)) z.entries) (sym is)
          (counts_back x.txn.held (all_held (a ++ x ∷ b)) (all_held (a ++ b)) c.entries (λ k. sums k before after) opened.no_others);
    }
  where
    sums : (k : ℕ) → all_held (a ++ x ∷ b) ≡ all_held a ++ (x.txn.held ++ all_held b) → all_held (a ++ b) ≡ all_held a ++ all_held b
        → pins_in k (all_held (a ++ x ∷ b)) ≡ pins_in k x.txn.held + pins_in k (all_held (a ++ b))
    sums k before after =
        let one = ap (λ (hs : List HeldBlock). pins_in k hs) before in
        let two = ap (λ (hs : List HeldBlock). pins_in k hs) after in
        let three = pins_between k (all_held a) x.txn.held (all_held b) in
        let four = pins_both k (all_held a) (all_held b) in
        omega (arith, one, two, three, four)

pub ended : (c d : Blocks) (n : ℕ) (ts : List OpenTxn) (at : ℕ) (x : OpenTxn) → AreOpenIn c ts → IsAt n ts at x → d ≡ record c { entries = map (given_back x.txn.held) c.entries }
    → KeepsPins x.txn.held c.entries [] d.entries → AreOpenIn d (without_txn n ts)
ended c d n ts at x opened i is keeps = subst (AreOpenIn d) (sym (left n ts at x i)) (ended_between c d i.front x i.back (subst (AreOpenIn c) i.split opened) is keeps)

-- ---- what each call does

pub same_size : (c d : Blocks) → d ≡ c → SameSize c d
same_size c d is = record { most = ap (λ (z : Blocks). z.most) is; block = ap (λ (z : Blocks). z.block) is }

pub size_then : (c d e : Blocks) → SameSize c d → SameSize d e → SameSize c e
size_then c d e one two = record { most = two.most ∙ one.most; block = two.block ∙ one.block }

pub size_placed : (t : Opened) (cs : List Writes) (c d : Blocks) (p : ℕ) (at : Place) → TxnPlaces t cs c p at d → SameSize c d
size_placed t cs c d p place.BadPage at = same_size c d at.1
size_placed t cs c d p place.Local at = same_size c d at.2
size_placed t cs c d p place.Zeros at = same_size c d at.1
size_placed t cs c d p (place.Cached slot) at = record { most = ap (λ (z : Blocks). z.most) at.1.first; block = ap (λ (z : Blocks). z.block) at.1.first }
size_placed t cs c d p (place.Absent id) at = same_size c d at.3

-- the counts of a call that changes neither transaction nor cache
unmoved_counts : (t u : Opened) (c d : Blocks) → u ≡ t → d ≡ c → (hs us : List HeldBlock) → ((k : ℕ) → pins_in k us + pins_in k t.held ≡ pins_in k hs + pins_in k u.held)
    → HasNoOthers hs c.entries → HasNoOthers us d.entries
unmoved_counts t u c d same is hs us sums all =
    subst (λ (z : Blocks). HasNoOthers us z.entries) (sym is) (counts_same hs us c.entries (λ k. even k) all)
  where
    even : (k : ℕ) → pins_in k hs ≡ pins_in k us
    even k = let one = sums k in let two = ap (λ (z : Opened). pins_in k z.held) same in omega (arith, one, two)

-- what a transaction and the cache are after a block was found
pub record Changes (t u : Opened) (c d : Blocks) : Type 0 where
  pub counts : (hs us : List HeldBlock) → ((k : ℕ) → pins_in k us + pins_in k t.held ≡ pins_in k hs + pins_in k u.held) → HasNoOthers hs c.entries → HasNoOthers us d.entries
  pub base : u.base ≡ t.base
  pub size : SameSize c d

unmoved : (t u : Opened) (c d : Blocks) → u ≡ t → d ≡ c → Changes t u c d
unmoved t u c d same is = record { counts = unmoved_counts t u c d same is; base = ap (λ (z : Opened). z.base) same; size = same_size c d is }

one_more : (t u : Opened) (c d : Blocks) (p slot : ℕ) → HoldsOneMore t c p slot u d → Changes t u c d
one_more t u c d p slot m = record {
  counts = λ hs us sums all. subst (λ (z : Blocks). HasNoOthers us z.entries) (sym m.pinned) (counts_up slot hs us c.entries (λ k. up k hs us (sums k)) all);
  base = ap (λ (z : Opened). z.base) m.held;
  size = record { most = ap (λ (z : Blocks). z.most) m.pinned; block = ap (λ (z : Blocks). z.block) m.pinned };
}
  where
    up : (k : ℕ) (hs us : List HeldBlock) → pins_in k us + pins_in k t.held ≡ pins_in k hs + pins_in k u.held → pins_in k us ≡ one_if (nat_eq slot k) + pins_in k hs
    up k hs us sum =
        let h : HeldBlock = record { number = number_of t.base p; pin = record { slot = slot; id = m.id } } in
        let grown = ap (λ (z : Opened). pins_in k z.held) m.held in
        let both = pins_both k t.held (h ∷ []) in
        let one : pins_in k (h ∷ []) ≡ one_if (nat_eq slot k) = one_pin k h in
        omega (arith, sum, grown, both, one)

record IsFound (test : HeldBlock → Bool) (hs : List HeldBlock) (pin : Pinned) : Type 0 where
  block : HeldBlock
  found : find test hs ≡ Some block
  is : block.pin ≡ pin

found_by : (test : HeldBlock → Bool) (hs : List HeldBlock) (pin : Pinned) (o : Option HeldBlock) → find test hs ≡ o → option_map (λ (h : HeldBlock). h.pin) o ≡ Some pin → IsFound test hs pin
found_by test hs pin None at is = absurd (cc)
found_by test hs pin (Some h) at is = record { block = h; found = at; is = cc }

one_less : (t u : Opened) (c d : Blocks) (p : ℕ) → HoldsOneLess t c p u d → Changes t u c d
one_less t u c d p m =
    let test : HeldBlock → Bool = has_block_number (number_of t.base p) in
    let at = found_by test t.held m.pin (find test t.held) refl m.was in
    record {
      counts = λ hs us sums all. subst (λ (z : Blocks). HasNoOthers us z.entries) (sym m.unpinned) (counts_down m.pin.slot hs us c.entries (λ k. down k at hs us (sums k)) all);
      base = ap (λ (z : Opened). z.base) m.held;
      size = record { most = ap (λ (z : Blocks). z.most) m.unpinned; block = ap (λ (z : Blocks). z.block) m.unpinned };
    }
  where
    down : (k : ℕ) → IsFound (has_block_number (number_of t.base p)) t.held m.pin → (hs us : List HeldBlock) → pins_in k us + pins_in k t.held ≡ pins_in k hs + pins_in k u.held
        → pins_in k hs ≡ one_if (nat_eq m.pin.slot k) + pins_in k us
    down k at hs us sum =
        let less = pins_less k (has_block_number (number_of t.base p)) t.held at.block at.found in
        let slot : one_if (is_in k at.block) ≡ one_if (nat_eq m.pin.slot k) = ap (λ (q : Pinned). one_if (nat_eq q.slot k)) at.is in
        let fewer = ap (λ (z : Opened). pins_in k z.held) m.held in
        omega (arith, less, slot, fewer, sum)

then_held : (b : Bool) (t u : Opened) (c d : Blocks) (p slot : ℕ) → is_held t p ≡ b → HeldIn t c p slot came.Held u d → Changes t u c d
then_held true t u c d p slot is held = let h = rw is at held in unmoved t u c d h.0 h.1
then_held false t u c d p slot is held = let h = rw is at held in one_more t u c d p slot h

held_in : (t u : Opened) (c d : Blocks) (p slot : ℕ) (r : Came) → HeldIn t c p slot r u d → Changes t u c d
held_in t u c d p slot came.Held held = then_held (is_held t p) t u c d p slot refl held
held_in t u c d p slot came.NoMemory held = unmoved t u c d held.1 held.2
held_in t u c d p slot (came.Page copy) held = absurd held
held_in t u c d p slot (came.Absent id) held = absurd held
held_in t u c d p slot came.CacheFull held = absurd held
held_in t u c d p slot came.BadPage held = absurd held
held_in t u c d p slot came.NoTxn held = absurd held

held_as : (t u : Opened) (c d : Blocks) (p : ℕ) (at : Place) (r : Came) → HeldAs t p at c r u d → Changes t u c d
held_as t u c d p place.BadPage r held = unmoved t u c d held.1 held.2
held_as t u c d p place.Local r held = unmoved t u c d held.1 held.2
held_as t u c d p place.Zeros r held = unmoved t u c d held.1 held.2
held_as t u c d p (place.Cached slot) r held = held_in t u c d p slot r held
held_as t u c d p (place.Absent id) r held = unmoved t u c d held.1 held.2

-- a read moves no pin
pub read_moves : (t : Opened) (cs : List Writes) (c d : Blocks) (p : ℕ) (r : Came) (hs : List HeldBlock) → ReadsPage t cs c p r d → HasNoOthers hs c.entries → SameSize c d × HasNoOthers hs d.entries
read_moves t cs c d p r hs reads all = (size_placed t cs c d p reads.0 reads.1, counts_placed hs t cs c d p reads.0 reads.1 all)

pub hold_moves : (t u : Opened) (cs : List Writes) (c d : Blocks) (p : ℕ) (r : Came) → HoldsPage t cs c p r u d → KeepsPins t.held c.entries u.held d.entries → IsTxn u → Moves t u c d
hold_moves t u cs c d p r holds keeps txn =
    let at = holds.0 in
    let found = holds.1 in
    let then_ = held_as t u found d p at r holds.3 in
    record {
      keeps = keeps;
      counts = λ hs us sums all. then_.counts hs us sums (counts_placed hs t cs c found p at holds.2 all);
      base = then_.base;
      txn = txn;
      size = size_then c found d (size_placed t cs c found p at holds.2) then_.size;
    }

free_changes : (t u : Opened) (c d : Blocks) (p : ℕ) (r : Freed) → FreesPage t c p r u d → Changes t u c d
free_changes t u c d p freed.Fine frees = one_less t u c d p frees.1.1
free_changes t u c d p freed.NotHeld frees = unmoved t u c d frees.1.1 frees.1.2
free_changes t u c d p freed.BadPage frees = unmoved t u c d frees.1 frees.2
free_changes t u c d p freed.NoTxn frees = absurd frees

pub free_moves : (t u : Opened) (c d : Blocks) (p : ℕ) (r : Freed) → FreesPage t c p r u d → KeepsPins t.held c.entries u.held d.entries → IsTxn u → Moves t u c d
free_moves t u c d p r frees keeps txn =
    let does = free_changes t u c d p r frees in
    record { keeps = keeps; counts = does.counts; base = does.base; txn = txn; size = does.size }

-- ---- the pins of one of them

-- the transaction's own blocks are among those held
between_pins : (c : Blocks) (a : List OpenTxn) (x : OpenTxn) (b : List OpenTxn) → AreOpenIn c (a ++ x ∷ b) → HasPins x.txn.held c.entries
between_pins c a x b opened =
    let all : HasPins (all_held a ++ (x.txn.held ++ all_held b)) c.entries = subst (λ (hs : List HeldBlock). HasPins hs c.entries) (held_between a x b) opened.pins in
    pins_some x.txn.held (all_held b ++ all_held a) c.entries
    (subst (λ (hs : List HeldBlock). HasPins hs c.entries) (append_assoc x.txn.held (all_held b) (all_held a)) (pins_swap (all_held a) (x.txn.held ++ all_held b) c.entries all))

pub own_pins : (c : Blocks) (n : ℕ) (ts : List OpenTxn) (at : ℕ) (x : OpenTxn) → AreOpenIn c ts → IsAt n ts at x → HasPins x.txn.held c.entries
own_pins c n ts at x opened i = between_pins c i.front x i.back (subst (AreOpenIn c) i.split opened)

middle : (P : OpenTxn → Type 0) (a : List OpenTxn) (x : OpenTxn) (b : List OpenTxn) → AllByRecursion P (a ++ x ∷ b) → P x
middle P [] x b all = all.0
middle P (t ∷ a) x b all = middle P a x b all.1

pub own_txn : (c : Blocks) (n : ℕ) (ts : List OpenTxn) (at : ℕ) (x : OpenTxn) → AreOpenIn c ts → IsAt n ts at x → IsTxn x.txn
own_txn c n ts at x opened i = middle (λ (t : OpenTxn). IsTxn t.txn) i.front x i.back (subst (AllByRecursion (λ (t : OpenTxn). IsTxn t.txn)) i.split opened.txns)

pub own_block : (c : Blocks) (n : ℕ) (ts : List OpenTxn) (at : ℕ) (x : OpenTxn) → AreOpenIn c ts → IsAt n ts at x → c.block ≡ x.txn.base.block
own_block c n ts at x opened i =
    sym (middle (λ (t : OpenTxn). t.txn.base.block ≡ c.block) i.front x i.back (subst (AllByRecursion (λ (t : OpenTxn). t.txn.base.block ≡ c.block)) i.split opened.blocks))

-- the last transaction ends
pub ended_last : (c d : Blocks) (ts a : List OpenTxn) (x : OpenTxn) → AreOpenIn c ts → ts ≡ a ++ x ∷ [] → d ≡ record c { entries = map (given_back x.txn.held) c.entries }
    → KeepsPins x.txn.held c.entries [] d.entries → AreOpenIn d a
ended_last c d ts a x opened split is keeps = subst (AreOpenIn d) (append-nil a) (ended_between c d a x [] (subst (AreOpenIn c) split opened) is keeps)

pub last_pins : (c : Blocks) (ts a : List OpenTxn) (x : OpenTxn) → AreOpenIn c ts → ts ≡ a ++ x ∷ [] → HasPins x.txn.held c.entries
last_pins c ts a x opened split = between_pins c a x [] (subst (AreOpenIn c) split opened)
