-- The open transactions with one that begins.
use Rattle.std.proofs.Common.{◌≡◌, ◌∙◌, ℕ, ◌≤◌, Bool, true, false, ◌||◌, nat_eq, List, [], ◌∷◌, ◌++◌, append-nil, Option, Some, None, IfSome, Result, Ok, Err, is_err, refl, sym, ap, subst, inl, inr}
use Rattle.std.specs.List.{AllByRecursion, IsDistinct}
use Rattle.std.specs.declared.alloc.AllocError.{AllocError}
use Rattle.std.proofs.lemmas.Bool.{cases_Bool}
use Rattle.std.proofs.lemmas.Grind.{flat_map-append}
use Rattle.std.proofs.lemmas.List.{map-append}
use Rattle.bcv_cache.specs.Entry.{Blocks}
use Rattle.bcv_machine.specs.State.{has_number}
use Rattle.bcv_snapshot.specs.declared.held_block.HeldBlock.{HeldBlock}
use Rattle.bcv_snapshot.specs.Opened.{IsTxn}
use Rattle.bcv_snapshot.specs.Pins.{HasPins}
use Rattle.bcv_snapshot.proofs.HeldBlocks.{all_both}
use Rattle.bcv_transaction.specs.declared.open_txn.OpenTxn.{OpenTxn}
use Rattle.bcv_transaction.specs.Open.{AreOpenIn, AreOpenWith, Open, all_held, numbers_of}
use Rattle.bcv_transaction.specs.OpenCalls.{OpensCache, cache_made, with_cache}
use Rattle.bcv_transaction.proofs.PinCounts.{HasNoOthers}

-- ---- one number more

differ_from : (n : ℕ) (ns : List ℕ) → has_number n ns ≡ false → AllByRecursion (λ (k : ℕ). nat_eq k n ≡ false) ns
differ_from n [] free = tt
differ_from n (k ∷ ns) free = elim (cases_Bool (nat_eq k n)) [
  | inl t ↦ (let has : (true || has_number n ns) ≡ false = ap (λ (b : Bool). b || has_number n ns) (sym t) ∙ free in absurd (cc))
  | inr t ↦ (t, differ_from n ns (ap (λ (b : Bool). b || has_number n ns) (sym t) ∙ free))
]

one_more : (n : ℕ) (ns : List ℕ) → AllByRecursion (λ (k : ℕ). nat_eq k n ≡ false) ns → IsDistinct nat_eq ns → IsDistinct nat_eq (ns ++ n ∷ [])
unfolding IsDistinct
one_more n [] all d = (tt, tt)
one_more n (k ∷ ns) all d = (all_both (λ (y : ℕ). nat_eq k y ≡ false) ns (n ∷ []) d.0 (all.0, tt), one_more n ns all.1 d.1)

-- ---- a transaction that begins

-- it is numbered by a free number, holds nothing, and its blocks are of the cache's size
pub record IsNew (c : Blocks) (ts : List OpenTxn) (t : OpenTxn) : Type 0 where
  pub unused : has_number t.number (numbers_of ts) ≡ false
  pub first : 1 ≤ t.number
  pub few : t.number ≤ 64
  pub txn : IsTxn t.txn
  pub none : t.txn.held ≡ []
  pub block : t.txn.base.block ≡ c.block

begun_in : (c : Blocks) (ts : List OpenTxn) (t : OpenTxn) → AreOpenIn c ts → IsNew c ts t → AreOpenIn c (ts ++ t ∷ [])
begun_in c ts t opened new =
    let held : all_held (ts ++ t ∷ []) ≡ all_held ts =
    flat_map-append (λ (x : OpenTxn). x.txn.held) ts (t ∷ []) ∙ ap (λ (hs : List HeldBlock). all_held ts ++ (hs ++ [])) new.none ∙ append-nil (all_held ts)
    in
    record {
      numbers = all_both (λ (x : OpenTxn). (1 ≤ x.number) × (x.number ≤ 64)) ts (t ∷ []) opened.numbers ((new.first, new.few), tt);
      differ = subst (IsDistinct nat_eq) (sym (map-append (λ (x : OpenTxn). x.number) ts (t ∷ []))) (one_more t.number (numbers_of ts) (differ_from t.number (numbers_of ts) new.unused) opened.differ);
      txns = all_both (λ (x : OpenTxn). IsTxn x.txn) ts (t ∷ []) opened.txns (new.txn, tt);
      blocks = all_both (λ (x : OpenTxn). x.txn.base.block ≡ c.block) ts (t ∷ []) opened.blocks (new.block, tt);
      pins = subst (λ (hs : List HeldBlock). HasPins hs c.entries) (sym held) opened.pins;
      no_others = subst (λ (hs : List HeldBlock). HasNoOthers hs c.entries) (sym held) opened.no_others;
    }

pub begun_with : (slots : ℕ) (o : Option Blocks) (d : Blocks) (ts us : List OpenTxn) (t : OpenTxn) → AreOpenWith slots o ts → o ≡ Some d → us ≡ ts ++ t ∷ [] → IsNew d ts t → AreOpenWith slots o us
begun_with slots o d ts us t opened is grown new =
    let there : AreOpenWith slots (Some d) ts = subst (λ (x : Option Blocks). AreOpenWith slots x ts) is opened in
    let then_ : AreOpenWith slots (Some d) us = (subst (AreOpenIn d) (sym grown) (begun_in d ts t there.0 new), there.1, there.2) in
    subst (λ (x : Option Blocks). AreOpenWith slots x us) (sym is) then_

-- ---- the cache that was made before

pub made_block : (slots block : ℕ) (o : Option Blocks) → IfSome o (λ (c : Blocks). c.block ≡ block) → (cache_made slots block o).block ≡ block
made_block slots block None same = refl
made_block slots block (Some c) same = same

pub made_by : (o n : Open) (block : ℕ) (r : Result (Unit {0}) AllocError) → OpensCache o block r n → is_err r ≡ false → n ≡ with_cache block o
made_by o n block (Ok done) made ok = made
made_by o n block (Err e) made ok = absurd (cc)
