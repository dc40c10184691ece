-- A page of an open transaction in the machine's words.
use Rattle.std.proofs.Common.{◌≡◌, ◌∙◌, ◌==◌, ℕ, zero, suc, ◌-◌, ◌/◌, Bool, true, false, not, cond, ◌||◌, ◌&&◌, nat_eq, nat_le, nat_lt, List, [], ◌∷◌, map, find, Some, None, is_some, option_map, refl, sym, ap, subst, inl, inr, arith}
use Rattle.std.specs.List.{AllByRecursion}
use Rattle.std.proofs.lemmas.Bool.{cases_Bool, leb-false, leb-true, le-leb, lt-leb, ne_eqb}
use Rattle.bcv_base.specs.declared.seen.TxnBase.{TxnBase}
use Rattle.bcv_base.specs.History.{Item}
use Rattle.bcv_base.specs.Image.{Writes, is_base}
use Rattle.bcv_base.specs.Joined.{joined}
use Rattle.bcv_base.specs.Views.{Origin, is_from_base, origin, view_size}
use Rattle.bcv_base.proofs.Views.{is_base-origin}
use Rattle.bcv_machine.specs.State.{Container, has_number, holds, is_local, txn_size}
use Rattle.bcv_machine.specs.Refusals.{is_outside as machine_outside}
use Rattle.bcv_pages.specs.Held.{Held}
use Rattle.bcv_snapshot.specs.declared.held_block.HeldBlock.{HeldBlock}
use Rattle.bcv_snapshot.specs.Opened.{has_block_number, is_page, number_of, pin_of, source_of}
use Rattle.bcv_snapshot.proofs.PageOfBlock.{length_pages}
use Rattle.bcv_transaction.specs.declared.open_txn.OpenTxn.{OpenTxn}
use Rattle.bcv_transaction.specs.Open.{view_in}
use Rattle.bcv_transaction.proofs.MachineLists.{seen}

-- what holds of each transaction holds of one that is found
pub one_of : (P : OpenTxn → Type 0) (test : OpenTxn → Bool) (ts : List OpenTxn) (t : OpenTxn) → AllByRecursion P ts → find test ts ≡ Some t → P t
one_of P test [] t all found = absurd (cc)
one_of P test (y ∷ ts) t all found = elim (cases_Bool (test y)) [
  | inl is ↦ (let same : y ≡ t = (let some = rw is at found in cc) in subst P same all.0)
  | inr is ↦ one_of P test ts t all.1 (rw is at found)
]

-- ---- pages of the image

-- no page, by two tests
no_page : (p size : ℕ) → not (nat_le 1 p && nat_le p size) ≡ ((p == 0) || nat_lt size p)
no_page zero size = refl
no_page (suc p) size = let some : (suc p == 0) ≡ false = ne_eqb (suc p) 0 (λ e. absurd (omega (arith, e))) in elim (cases_Bool (nat_le (suc p) size)) [
  | inl t ↦ (let le = leb-true (suc p) size t in
      ap (λ (b : Bool). not (nat_le 1 (suc p) && b)) t ∙ ap (λ (b : Bool). not (b && true)) (le-leb 1 (suc p) (omega arith)) ∙ sym (lt-leb (suc size) (suc p) (omega (arith, le))) ∙ ap (λ (b : Bool). b || nat_lt size (suc p)) (sym some))
  | inr t ↦ (let lt = leb-false (suc p) size t in
      ap (λ (b : Bool). not (nat_le 1 (suc p) && b)) t ∙ ap (λ (b : Bool). not (b && false)) (le-leb 1 (suc p) (omega arith)) ∙ sym (le-leb (suc size) (suc p) (omega (arith, lt))) ∙ ap (λ (b : Bool). b || nat_lt size (suc p)) (sym some))
]

pub none_outside : (base : TxnBase) (cs : List Writes) (p : ℕ) → source_of base cs p ≡ None → ((p == 0) || nat_lt (view_size base.entry.pages cs) p) ≡ true
none_outside base cs p e = by (is_page base cs p) refl e
  where
    by : (b : Bool) → is_page base cs p ≡ b → cond b (Some (origin base.entry.pages cs p)) None ≡ None → ((p == 0) || nat_lt (view_size base.entry.pages cs) p) ≡ true
    by true is none = absurd (cc)
    by false is none = sym (no_page p (view_size base.entry.pages cs)) ∙ ap not is

-- the page is one of the image's, and comes from there
pub record IsInside (base : TxnBase) (cs : List Writes) (p : ℕ) (o : Origin) : Type 0 where
  pub inside : ((p == 0) || nat_lt (view_size base.entry.pages cs) p) ≡ false
  pub from : origin base.entry.pages cs p ≡ o

pub some_inside : (base : TxnBase) (cs : List Writes) (p : ℕ) (o : Origin) → source_of base cs p ≡ Some o → IsInside base cs p o
some_inside base cs p o e = by (is_page base cs p) refl e
  where
    by : (b : Bool) → is_page base cs p ≡ b → cond b (Some (origin base.entry.pages cs p)) None ≡ Some o → IsInside base cs p o
    by true is some = record { inside = sym (no_page p (view_size base.entry.pages cs)) ∙ ap not is; from = cc }
    by false is some = absurd (cc)

-- ---- a transaction that fits

pub size_seen : (past : List Item) (sets : ℕ → Held) (t : OpenTxn) → txn_size (seen past sets t) ≡ view_size t.txn.base.entry.pages (view_in (sets t.set) t)
size_seen past sets t =
    ap (λ (n : ℕ). view_size n (view_in (sets t.set) t)) (length_pages t.txn.base.entry.pages t.txn.base.entry.page_size (joined past t.txn.base.entry.blocks))

pub outside_seen : (past : List Item) (sets : ℕ → Held) (t : OpenTxn) (p : ℕ) (b : Bool) → ((p == 0) || nat_lt (view_size t.txn.base.entry.pages (view_in (sets t.set) t)) p) ≡ b
    → machine_outside p (seen past sets t) ≡ b
outside_seen past sets t p b is = ap (λ (n : ℕ). (p == 0) || nat_lt n p) (size_seen past sets t) ∙ is

pub local_seen : (past : List Item) (sets : ℕ → Held) (t : OpenTxn) (p : ℕ) (o : Origin) → origin t.txn.base.entry.pages (view_in (sets t.set) t) p ≡ o
    → is_local (seen past sets t) p ≡ not (is_from_base o)
local_seen past sets t p o from =
    ap (λ (n : ℕ). not (is_base n (view_in (sets t.set) t) p)) (length_pages t.txn.base.entry.pages t.txn.base.entry.page_size (joined past t.txn.base.entry.blocks))
    ∙ ap not (is_base-origin t.txn.base.entry.pages (view_in (sets t.set) t) p) ∙ ap (λ (x : Origin). not (is_from_base x)) from

-- a block has a pin where its number is among those held
pinned_number : (m : ℕ) (hs : List HeldBlock) → has_number m (map (λ (h : HeldBlock). h.number) hs) ≡ is_some (pin_of m hs)
pinned_number m [] = refl
pinned_number m (h ∷ hs) =
    elim (nat_eq h.number m) as (λ (b : Bool). (b || has_number m (map (λ (x : HeldBlock). x.number) hs)) ≡ is_some (option_map (λ (x : HeldBlock). x.pin) (cond b (Some h) (find (has_block_number m) hs)))) [
      | true ↦ refl
      | false ↦ pinned_number m hs
    ]

pub holds_seen : (past : List Item) (sets : ℕ → Held) (t : OpenTxn) (c : Container) (p : ℕ) → c.block ≡ t.txn.base.block → holds c (seen past sets t) p ≡ is_some (pin_of (number_of t.txn.base p) t.txn.held)
holds_seen past sets t c p block =
    ap (λ (b : ℕ). has_number ((p - 1) / (b / t.txn.base.entry.page_size)) (map (λ (h : HeldBlock). h.number) t.txn.held)) block ∙ pinned_number (number_of t.txn.base p) t.txn.held
