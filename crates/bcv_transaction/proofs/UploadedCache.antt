-- The open transactions after a step of an upload, which looks for a block in the cache.
use Rattle.std.proofs.Common.{◌≡◌, ◌∙◌, ◌≤◌, ℕ, Bool, true, false, cond, nat_eq, List, [], ◌∷◌, map, find, Option, Some, None, refl, sym, ap, subst, inl, inr}
use Rattle.std.specs.List.{AllByRecursion, IsDistinct}
use Rattle.std.specs.Option.{option_map_or}
use Rattle.std.proofs.lemmas.Bool.{cases_Bool, eq-eqb, eqb-false, eqb-true, ne_eqb}
use Rattle.bcv_base.specs.declared.id.Id16.{Id16}
use Rattle.bcv_base.specs.declared.seen.Latest.{Latest}
use Rattle.bcv_base.specs.Image.{Writes}
use Rattle.bcv_cache.specs.Cache.{IsCache, KeepsEntries, entry_in, found_first, has_id, without}
use Rattle.bcv_cache.specs.Entry.{Blocks, Entry}
use Rattle.bcv_snapshot.specs.Pins.{pins_in}
use Rattle.bcv_snapshot.proofs.CallLaws.{all_found_first}
use Rattle.bcv_transaction.specs.declared.open_txn.OpenTxn.{OpenTxn}
use Rattle.bcv_transaction.specs.ListCalls.{SameSize}
use Rattle.bcv_transaction.specs.Open.{AreOpenIn, all_held}
use Rattle.bcv_transaction.proofs.OpenMoves.{same_size, stayed}
use Rattle.bcv_upload.specs.State.{State, base_id, next_block}
use Rattle.bcv_upload.specs.UploadWork.{asks_cache, cache_after}

-- ---- an entry that goes to the front

-- what holds of each slot holds of that of an entry that is found
found_slot : (P : ℕ → Type 0) (test : Entry → Bool) (es : List Entry) (x : Entry) → AllByRecursion P (map (λ (e : Entry). e.slot) es) → find test es ≡ Some x → P x.slot
found_slot P test [] x all found = absurd (cc)
found_slot P test (y ∷ es) x all found = elim (cases_Bool (test y)) [
  | inl is ↦ (let same : y ≡ x = (let some = rw is at found in cc) in subst (λ (z : Entry). P z.slot) same all.0)
  | inr is ↦ found_slot P test es x all.1 (rw is at found)
]

-- the entries of other slots stay where one is taken out
other_slots : (test : Entry → Bool) (es : List Entry) (x : Entry) (slot : ℕ) → find test es ≡ Some x → (slot ≡ x.slot → ⊥) → entry_in slot (without test es) ≡ entry_in slot es
other_slots test [] x slot found other = refl
other_slots test (y ∷ es) x slot found other = elim (cases_Bool (test y)) [
  | inl is ↦ (let same : y ≡ x = (let some = rw is at found in cc) in
      let apart : nat_eq slot y.slot ≡ false = ne_eqb slot y.slot (λ s. other (s ∙ ap (λ (z : Entry). z.slot) same)) in
      rw is (rw apart refl))
  | inr is ↦ rw is (ap (λ (o : Option Entry). cond (nat_eq slot y.slot) (Some y) o) (other_slots test es x slot (rw is at found) other))
]

-- an entry that is found is that of its slot
its_slot : (test : Entry → Bool) (es : List Entry) (x : Entry) → IsDistinct nat_eq (map (λ (e : Entry). e.slot) es) → find test es ≡ Some x → entry_in x.slot es ≡ Some x
unfolding IsDistinct
its_slot test [] x d found = absurd (cc)
its_slot test (y ∷ es) x d found = elim (cases_Bool (test y)) [
  | inl is ↦ (let same : y ≡ x = (let some = rw is at found in cc) in
      subst (λ (z : Entry). entry_in z.slot (y ∷ es) ≡ Some z) same (rw (eq-eqb y.slot y.slot refl) refl))
  | inr is ↦ (let rest = rw is at found in
      let differs : nat_eq y.slot x.slot ≡ false = found_slot (λ (z : ℕ). nat_eq y.slot z ≡ false) test es x d.0 rest in
      rw (ne_eqb x.slot y.slot (λ s. eqb-false y.slot x.slot differs (sym s))) (its_slot test es x d.1 rest))
]

keeps_entries : (id : Id16) (es : List Entry) → IsDistinct nat_eq (map (λ (e : Entry). e.slot) es) → KeepsEntries es (found_first id es)
keeps_entries id es d slot = by (find (has_id id) es) refl
  where
    by : (o : Option Entry) → find (has_id id) es ≡ o → entry_in slot (option_map_or (λ (x : Entry). x ∷ without (has_id id) es) o es) ≡ entry_in slot es
    by None found = refl
    by (Some x) found = elim (cases_Bool (nat_eq slot x.slot)) [
      | inl is ↦ (let there : entry_in slot es ≡ Some x = subst (λ (k : ℕ). entry_in k es ≡ Some x) (sym (eqb-true slot x.slot is)) (its_slot (has_id id) es x d found) in rw is (sym there))
      | inr is ↦ rw is (other_slots (has_id id) es x slot found (eqb-false slot x.slot is))
    ]

-- ---- the open transactions

pub record Stays (c d : Blocks) (ts : List OpenTxn) : Type 0 where
  pub is_open : AreOpenIn d ts
  pub size : SameSize c d

rests : (c d : Blocks) (ts : List OpenTxn) → AreOpenIn c ts → d ≡ c → Stays c d ts
rests c d ts opened same = record { is_open = subst (λ (e : Blocks). AreOpenIn e ts) (sym same) opened; size = same_size c d same }

first_found : (id : Id16) (c d : Blocks) (ts : List OpenTxn) → AreOpenIn c ts → IsCache c → d ≡ record c { entries = found_first id c.entries } → Stays c d ts
first_found id c d ts opened is same =
    let e : Blocks = record c { entries = found_first id c.entries } in
    let size : SameSize c e = record { most = refl; block = refl } in
    let after : AreOpenIn e ts =
    stayed c e ts opened (keeps_entries id c.entries is.slots_differ) (all_found_first (λ (x : Entry). x.count ≤ pins_in x.slot (all_held ts)) id c.entries opened.no_others) size
    in
    record { is_open = subst (λ (x : Blocks). AreOpenIn x ts) (sym same) after; size = subst (SameSize c) (sym same) size }

asked : (b : Bool) (id : Id16) (c d : Blocks) (ts : List OpenTxn) → AreOpenIn c ts → IsCache c → d ≡ cond b (record c { entries = found_first id c.entries }) c → Stays c d ts
asked false id c d ts opened is same = rests c d ts opened same
asked true id c d ts opened is same = first_found id c d ts opened is same

pub uploaded : (l : Option Latest) (view : List Writes) (s : State) (c d : Blocks) (ts : List OpenTxn) → AreOpenIn c ts → IsCache c → d ≡ cache_after l view s c → Stays c d ts
uploaded None view s c d ts opened is same = rests c d ts opened same
uploaded (Some l) view s c d ts opened is same = asked (asks_cache s.base view (next_block s) s.fetched) (base_id s.base (next_block s)) c d ts opened is same
