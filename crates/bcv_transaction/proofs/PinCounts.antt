-- How many pins the entries have, beside those of the transactions.
use Rattle.std.proofs.Common.{◌≡◌, ℕ, ◌+◌, ◌-◌, ◌≤◌, Bool, true, false, cond, nat_eq, List, [], ◌∷◌, map, find, Some, if◌then◌else◌, sym, subst, inl, inr, arith}
use Rattle.std.specs.List.{AllByRecursion}
use Rattle.std.proofs.lemmas.Bool.{cases_Bool}
use Rattle.bcv_base.specs.Image.{Writes}
use Rattle.bcv_cache.specs.Entry.{Blocks, Entry}
use Rattle.bcv_cache.specs.Cache.{counted_down, counted_up, without}
use Rattle.bcv_snapshot.specs.declared.held_block.HeldBlock.{HeldBlock}
use Rattle.bcv_snapshot.specs.declared.place.Place.{Place}
use Rattle.bcv_snapshot.specs.declared.place.Place.TheVariants as place
use Rattle.bcv_snapshot.specs.Opened.{Opened}
use Rattle.bcv_snapshot.specs.Pins.{given_back, is_in, pins_in}
use Rattle.bcv_snapshot.specs.TxnCalls.{TxnPlaces}
use Rattle.bcv_snapshot.proofs.CallLaws.{all_found_first}
use Rattle.bcv_snapshot.proofs.PinLaws.{pins_both}

-- the entries have no other pins than these
abbrev pub HasNoOthers : List HeldBlock → List Entry → Type 0
HasNoOthers hs es = AllByRecursion (λ (e : Entry). e.count ≤ pins_in e.slot hs) es

-- 1 where it holds
abbrev pub one_if : Bool → ℕ
one_if b = if b then 1 else 0

pub one_pin : (k : ℕ) (h : HeldBlock) → pins_in k (h ∷ []) ≡ one_if (is_in k h)
one_pin k h = omega arith

mapped : (P Q : Entry → Type 0) (f : Entry → Entry) → ((e : Entry) → P e → Q (f e)) → (es : List Entry) → AllByRecursion P es → AllByRecursion Q (map f es)
mapped P Q f goes [] all = tt
mapped P Q f goes (e ∷ es) all = (goes e all.0, mapped P Q f goes es all.1)

-- ---- one pin more, one pin less, and all pins of a transaction less

pub counts_up : (slot : ℕ) (hs us : List HeldBlock) (es : List Entry) → ((k : ℕ) → pins_in k us ≡ one_if (nat_eq slot k) + pins_in k hs) → HasNoOthers hs es
    → HasNoOthers us (map (counted_up slot) es)
counts_up slot hs us es more all = mapped (λ (e : Entry). e.count ≤ pins_in e.slot hs) (λ (e : Entry). e.count ≤ pins_in e.slot us) (counted_up slot) each es all
  where
    by : (b : Bool) (e : Entry) → pins_in e.slot us ≡ one_if b + pins_in e.slot hs → e.count ≤ pins_in e.slot hs
        → (cond b (record e { count = e.count + 1 }) e).count ≤ pins_in (cond b (record e { count = e.count + 1 }) e).slot us
    by true e is le = omega (arith, is, le)
    by false e is le = omega (arith, is, le)

    each : (e : Entry) → e.count ≤ pins_in e.slot hs → (counted_up slot e).count ≤ pins_in (counted_up slot e).slot us
    each e le = by (nat_eq slot e.slot) e (more e.slot) le

pub counts_down : (slot : ℕ) (hs us : List HeldBlock) (es : List Entry) → ((k : ℕ) → pins_in k hs ≡ one_if (nat_eq slot k) + pins_in k us) → HasNoOthers hs es
    → HasNoOthers us (map (counted_down slot) es)
counts_down slot hs us es less all = mapped (λ (e : Entry). e.count ≤ pins_in e.slot hs) (λ (e : Entry). e.count ≤ pins_in e.slot us) (counted_down slot) each es all
  where
    by : (b : Bool) (e : Entry) → pins_in e.slot hs ≡ one_if b + pins_in e.slot us → e.count ≤ pins_in e.slot hs
        → (cond b (record e { count = e.count - 1 }) e).count ≤ pins_in (cond b (record e { count = e.count - 1 }) e).slot us
    by true e is le = omega (arith, is, le)
    by false e is le = omega (arith, is, le)

    each : (e : Entry) → e.count ≤ pins_in e.slot hs → (counted_down slot e).count ≤ pins_in (counted_down slot e).slot us
    each e le = by (nat_eq slot e.slot) e (less e.slot) le

pub counts_back : (own hs us : List HeldBlock) (es : List Entry) → ((k : ℕ) → pins_in k hs ≡ pins_in k own + pins_in k us) → HasNoOthers hs es → HasNoOthers us (map (given_back own) es)
counts_back own hs us es less all = mapped (λ (e : Entry). e.count ≤ pins_in e.slot hs) (λ (e : Entry). e.count ≤ pins_in e.slot us) (given_back own) each es all
  where
    each : (e : Entry) → e.count ≤ pins_in e.slot hs → e.count - pins_in e.slot own ≤ pins_in e.slot us
    each e le = let is = less e.slot in omega (arith, is, le)

-- the pins of the same number on each slot
pub counts_same : (hs us : List HeldBlock) (es : List Entry) → ((k : ℕ) → pins_in k hs ≡ pins_in k us) → HasNoOthers hs es → HasNoOthers us es
counts_same hs us [] same all = tt
counts_same hs us (e ∷ es) same all = (let is = same e.slot in let le = all.0 in omega (arith, is, le), counts_same hs us es same all.1)

-- a place that is found has all entries, and no others
pub counts_placed : (hs : List HeldBlock) (t : Opened) (cs : List Writes) (c d : Blocks) (p : ℕ) (at : Place) → TxnPlaces t cs c p at d → HasNoOthers hs c.entries → HasNoOthers hs d.entries
counts_placed hs t cs c d p place.BadPage at all = subst (λ (x : Blocks). HasNoOthers hs x.entries) (sym at.1) all
counts_placed hs t cs c d p place.Local at all = subst (λ (x : Blocks). HasNoOthers hs x.entries) (sym at.2) all
counts_placed hs t cs c d p place.Zeros at all = subst (λ (x : Blocks). HasNoOthers hs x.entries) (sym at.1) all
counts_placed hs t cs c d p (place.Cached slot) at all =
    subst (λ (x : Blocks). HasNoOthers hs x.entries) (sym at.1.first) (all_found_first (λ (e : Entry). e.count ≤ pins_in e.slot hs) at.1.id c.entries all)
counts_placed hs t cs c d p (place.Absent id) at all = subst (λ (x : Blocks). HasNoOthers hs x.entries) (sym at.3) all

-- ---- the pins of fewer blocks

pub pins_less : (k : ℕ) (test : HeldBlock → Bool) (hs : List HeldBlock) (h : HeldBlock) → find test hs ≡ Some h → pins_in k hs ≡ one_if (is_in k h) + pins_in k (without test hs)
pins_less k test [] h found = absurd (cc)
pins_less k test (x ∷ xs) h found = elim (cases_Bool (test x)) [
  | inl t ↦ (let same : x ≡ h = (let some = rw t at found in cc) in
      let split = pins_both k (x ∷ []) xs in
      let one = one_pin k x in
      rw t (subst (λ (y : HeldBlock). pins_in k (x ∷ xs) ≡ one_if (is_in k y) + pins_in k xs) same (omega (arith, split, one))))
  | inr t ↦ (let rest = pins_less k test xs h (rw t at found) in
      let split = pins_both k (x ∷ []) xs in
      let again = pins_both k (x ∷ []) (without test xs) in
      rw t (omega (arith, rest, split, again)))
]
