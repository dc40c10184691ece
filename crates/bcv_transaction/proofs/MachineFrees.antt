-- A free is the machine's.
use Rattle.std.proofs.Common.{◌≡◌, ◌∙◌, ◌==◌, ℕ, zero, suc, ◌-◌, ◌/◌, Bool, true, false, not, cond, ◌||◌, ◌&&◌, nat_eq, nat_le, nat_lt, List, [], ◌∷◌, map, filter, Option, Some, None, IfSome, is_some, option_map, if◌then◌else◌, refl, sym, ap, subst, inl, inr, arith}
use Rattle.std.specs.Cmp.{second_so}
use Rattle.std.specs.List.{AllByRecursion, IsDistinct}
use Rattle.std.proofs.lemmas.Bool.{cases_Bool, eqb-true, le-leb}
use Rattle.bcv_base.specs.History.{Item}
use Rattle.bcv_cache.specs.Cache.{without}
use Rattle.bcv_cache.specs.Entry.{Blocks}
use Rattle.bcv_clientstate.specs.Fits.{FitsTxn}
use Rattle.bcv_machine.specs.Reading.{Frees, LetsGo, freed as machine_freed, with_txn as machine_with}
use Rattle.bcv_machine.specs.Refusals.{UnlessRefused, first_reason, free_reason}
use Rattle.bcv_machine.specs.Refusals.{is_outside as machine_outside}
use Rattle.bcv_machine.specs.State.{Side, Txn, Up, holds, with_up}
use Rattle.bcv_machine.specs.State.{txn_at as machine_txn}
use Rattle.bcv_model.specs.declared.reply.Reply.{Reply}
use Rattle.bcv_model.specs.declared.reply.Reply.TheVariants as reply
use Rattle.bcv_pages.specs.Held.{Held}
use Rattle.bcv_snapshot.specs.declared.held_block.HeldBlock.{HeldBlock}
use Rattle.bcv_snapshot.specs.Opened.{Opened, IsTxn, has_block_number, number_of, pin_of}
use Rattle.bcv_transaction.specs.declared.answers.Freed.{Freed}
use Rattle.bcv_transaction.specs.declared.answers.Freed.TheVariants as freed
use Rattle.bcv_transaction.specs.declared.open_txn.OpenTxn.{OpenTxn}
use Rattle.bcv_transaction.specs.ListCalls.{FreesIn, FreesOf}
use Rattle.bcv_transaction.specs.MachineCalls.{FreesAs, StandsFor, open_part, seen_txns, side_with}
use Rattle.bcv_transaction.specs.Open.{AreOpenIn, Open, is_numbered, numbers_of, txn_at, with_txn}
use Rattle.bcv_transaction.specs.PageCalls.{FreesPage, is_outside}
use Rattle.bcv_transaction.proofs.MachineLists.{seen, seen_at, side_same}
use Rattle.bcv_transaction.proofs.MachinePages.{holds_seen, one_of, outside_seen}
use Rattle.bcv_transaction.proofs.TxnPlaces.{HaveNot, others_differ, turned, with_none}

-- ---- the numbers of held blocks without one

kept : (m k : ℕ) (ns : List ℕ) → k ≡ m → AllByRecursion (λ (j : ℕ). nat_eq k j ≡ false) ns → ns ≡ filter (λ (b : ℕ). not (b == m)) ns
kept m k [] same all = refl
kept m k (j ∷ ns) same all =
    ap (λ (xs : List ℕ). j ∷ xs) (kept m k ns same all.1)
    ∙ sym (ap (λ (b : Bool). cond (not b) (j ∷ filter (λ (x : ℕ). not (x == m)) ns) (filter (λ (x : ℕ). not (x == m)) ns)) (subst (λ (y : ℕ). nat_eq j y ≡ false) same (turned k j all.0)))

without_numbers : (m : ℕ) (hs : List HeldBlock) → IsDistinct nat_eq (map (λ (h : HeldBlock). h.number) hs)
    → map (λ (h : HeldBlock). h.number) (without (has_block_number m) hs) ≡ filter (λ (b : ℕ). not (b == m)) (map (λ (h : HeldBlock). h.number) hs)
unfolding IsDistinct
without_numbers m [] d = refl
without_numbers m (h ∷ hs) d =
    let ns : List ℕ = map (λ (x : HeldBlock). x.number) hs in
    let rest : List ℕ = filter (λ (x : ℕ). not (x == m)) ns in
    elim (cases_Bool (nat_eq h.number m)) [
      | inl is ↦ ap (λ (b : Bool). map (λ (x : HeldBlock). x.number) (cond b hs (h ∷ without (has_block_number m) hs))) is
          ∙ kept m h.number ns (eqb-true h.number m is) d.0 ∙ sym (ap (λ (b : Bool). cond (not b) (h.number ∷ rest) rest) is)
      | inr is ↦ ap (λ (b : Bool). map (λ (x : HeldBlock). x.number) (cond b hs (h ∷ without (has_block_number m) hs))) is
          ∙ ap (λ (xs : List ℕ). h.number ∷ xs) (without_numbers m hs d.1) ∙ sym (ap (λ (b : Bool). cond (not b) (h.number ∷ rest) rest) is)
    ]

-- ---- the list with a transaction that has changed

unseen : (past : List Item) (sets : ℕ → Held) (n : ℕ) (y : Txn) (ts : List OpenTxn) → HaveNot n ts → seen_txns past sets ts ≡ map (λ (x : Txn). if x.number == n then y else x) (seen_txns past sets ts)
unseen past sets n y [] none = refl
unseen past sets n y (z ∷ ts) none =
    ap (λ (xs : List Txn). seen past sets z ∷ xs) (unseen past sets n y ts none.1)
    ∙ sym (ap (λ (b : Bool). cond b y (seen past sets z) ∷ map (λ (x : Txn). if x.number == n then y else x) (seen_txns past sets ts)) none.0)

pub seen_with : (past : List Item) (sets : ℕ → Held) (n : ℕ) (v : Opened) (t : OpenTxn) (y : Txn) (ts : List OpenTxn) → IsDistinct nat_eq (numbers_of ts) → txn_at n ts ≡ Some t
    → seen past sets (record t { txn = v }) ≡ y → seen_txns past sets (with_txn n v ts) ≡ map (λ (x : Txn). if x.number == n then y else x) (seen_txns past sets ts)
unfolding IsDistinct
seen_with past sets n v t y [] d found is = absurd (cc)
seen_with past sets n v t y (z ∷ ts) d found is =
    let rest : List Txn = map (λ (x : Txn). if x.number == n then y else x) (seen_txns past sets ts) in
    elim (cases_Bool (is_numbered n z)) [
      | inl b ↦ (let same : z ≡ t = (let some = rw b at found in cc) in
          let none : HaveNot n ts = others_differ n z.number ts (eqb-true z.number n b) d.0 in
          let head : seen past sets (record z { txn = v }) ≡ y = subst (λ (w : OpenTxn). seen past sets (record w { txn = v }) ≡ y) (sym same) is in
          ap (λ (c : Bool). seen_txns past sets (cond c (record z { txn = v }) z ∷ with_txn n v ts)) b
          ∙ ap (λ (xs : List OpenTxn). seen past sets (record z { txn = v }) ∷ seen_txns past sets xs) (with_none n v ts none)
          ∙ ap (λ (w : Txn). w ∷ seen_txns past sets ts) head ∙ ap (λ (xs : List Txn). y ∷ xs) (unseen past sets n y ts none)
          ∙ sym (ap (λ (c : Bool). cond c y (seen past sets z) ∷ rest) b))
      | inr b ↦ ap (λ (c : Bool). seen_txns past sets (cond c (record z { txn = v }) z ∷ with_txn n v ts)) b
          ∙ ap (λ (xs : List Txn). seen past sets z ∷ xs) (seen_with past sets n v t y ts d.1 (rw b at found) is) ∙ sym (ap (λ (c : Bool). cond c y (seen past sets z) ∷ rest) b)
    ]

pub with_same : (n : ℕ) (t : OpenTxn) (ts : List OpenTxn) → IsDistinct nat_eq (numbers_of ts) → txn_at n ts ≡ Some t → with_txn n t.txn ts ≡ ts
unfolding IsDistinct
with_same n t [] d found = absurd (cc)
with_same n t (z ∷ ts) d found = elim (cases_Bool (is_numbered n z)) [
  | inl b ↦ (let same : z ≡ t = (let some = rw b at found in cc) in
      let none : HaveNot n ts = others_differ n z.number ts (eqb-true z.number n b) d.0 in
      let head : record z { txn = t.txn } ≡ z = subst (λ (w : OpenTxn). record z { txn = w.txn } ≡ z) same refl in
      ap (λ (c : Bool). cond c (record z { txn = t.txn }) z ∷ with_txn n t.txn ts) b ∙ ap (λ (w : OpenTxn). w ∷ with_txn n t.txn ts) head ∙ ap (λ (xs : List OpenTxn). z ∷ xs) (with_none n t.txn ts none))
  | inr b ↦ ap (λ (c : Bool). cond c (record z { txn = t.txn }) z ∷ with_txn n t.txn ts) b ∙ ap (λ (xs : List OpenTxn). z ∷ xs) (with_same n t ts d.1 (rw b at found))
]

-- ---- free

pub held_no : (p : ℕ) (b z : Bool) → ((p == 0) || z) ≡ false → (nat_le 1 p && b) ≡ false → b ≡ false
held_no zero b z in_ none = absurd (cc)
held_no (suc p) b z in_ none = ap (λ (a : Bool). a && b) (sym (le-leb 1 (suc p) (omega arith))) ∙ none

module _ (past : List Item) (sets : ℕ → Held) (t : OpenTxn) (c d : Blocks) (s : Side) (u : Up) (n p : ℕ) (ts : List OpenTxn) where
  reasons : (a b : Bool) → machine_outside p (seen past sets t) ≡ a → holds s.container (seen past sets t) p ≡ b
      → free_reason s.container p (Some (seen past sets t)) ≡ first_reason ((a, reply.BadPage) ∷ (not b, reply.NotHeld) ∷ [])
  reasons a b outside hand =
      ap (λ (x : Bool). first_reason ((x, reply.BadPage) ∷ (not (holds s.container (seen past sets t) p), reply.NotHeld) ∷ [])) outside
      ∙ ap (λ (x : Bool). first_reason ((a, reply.BadPage) ∷ (not x, reply.NotHeld) ∷ [])) hand

  let_go : (r : Reply) (reason : Option Reply) (now : Side) → machine_txn u n ≡ Some (seen past sets t) → free_reason s.container p (Some (seen past sets t)) ≡ reason
      → UnlessRefused reason (with_up s u) r now (LetsGo s u (Some (seen past sets t)) p r now) → Frees s u n p r now
  let_go r reason now at is does =
      subst (λ (o : Option Txn). UnlessRefused (free_reason s.container p o) (with_up s u) r now (LetsGo s u o p r now)) (sym at)
      (subst (λ (o : Option Reply). UnlessRefused o (with_up s u) r now (LetsGo s u (Some (seen past sets t)) p r now)) (sym is) does)

  outside_is : (b : Bool) → FitsTxn past (open_part sets t) → is_outside t.txn p ≡ b → machine_outside p (seen past sets t) ≡ b
  outside_is b fits is = outside_seen past sets t p b (ap (λ (k : ℕ). (p == 0) || nat_lt k p) (sym fits.size) ∙ is)

  -- the transaction without the block
  less : (v : Opened) → IsTxn t.txn → s.container.block ≡ t.txn.base.block → v ≡ record t.txn { held = without (has_block_number (number_of t.txn.base p)) t.txn.held }
      → seen past sets (record t { txn = v }) ≡ machine_freed s.container (seen past sets t) p
  less v is_txn block is =
      ap (λ (w : Opened). seen past sets (record t { txn = w })) is
      ∙ ap (λ (ns : List ℕ). record (seen past sets t) { held = ns }) (without_numbers (number_of t.txn.base p) t.txn.held is_txn.differ)
      ∙ ap (λ (k : ℕ). record (seen past sets t) { held = filter (λ (b : ℕ). not (b == (p - 1) / (k / t.txn.base.entry.page_size))) (map (λ (h : HeldBlock). h.number) t.txn.held) }) (sym block)

  pub frees_so : (r : Freed) (v : Opened) → machine_txn u n ≡ Some (seen past sets t) → u.txns ≡ seen_txns past sets ts → IsDistinct nat_eq (numbers_of ts) → txn_at n ts ≡ Some t → t.number ≡ n
      → s.container.block ≡ t.txn.base.block → FitsTxn past (open_part sets t) → FreesPage t.txn c p r v d → FreesAs s u n p r (side_with past sets s u (with_txn n v ts))
  frees_so freed.Fine v at is differ found number block fits frees =
      let inside = outside_is false fits frees.0 in
      let has : holds s.container (seen past sets t) p ≡ true = holds_seen past sets t s.container p block ∙ second_so (nat_le 1 p) (is_some (pin_of (number_of t.txn.base p) t.txn.held)) frees.1.0 in
      let y : Txn = machine_freed s.container (seen past sets t) p in
      let after : seen_txns past sets (with_txn n v ts) ≡ (machine_with u y).txns =
      seen_with past sets n v t y ts differ found (less v fits.is_txn block frees.1.1.held)
      ∙ ap (λ (k : ℕ). map (λ (x : Txn). if x.number == k then y else x) (seen_txns past sets ts)) (sym number)
      ∙ ap (map (λ (x : Txn). if x.number == t.number then y else x)) (sym is)
      in
      let_go reply.Fine None (side_with past sets s u (with_txn n v ts)) at (reasons false true inside has) (ap (λ (xs : List Txn). with_up s (record u { txns = xs })) after)
  frees_so freed.NotHeld v at is differ found number block fits frees =
      let inside = outside_is false fits frees.0 in
      let has : holds s.container (seen past sets t) p ≡ false =
      holds_seen past sets t s.container p block ∙ held_no p (is_some (pin_of (number_of t.txn.base p) t.txn.held)) (nat_lt t.txn.size p) frees.0 frees.1.0
      in
      let_go reply.NotHeld (Some reply.NotHeld) (side_with past sets s u (with_txn n v ts)) at (reasons false false inside has) (refl, same v frees.1.1)
    where
      same : (w : Opened) → w ≡ t.txn → side_with past sets s u (with_txn n w ts) ≡ with_up s u
      same w e = ap (λ (x : Opened). side_with past sets s u (with_txn n x ts)) e ∙ ap (side_with past sets s u) (with_same n t ts differ found) ∙ side_same past sets s u ts is
  frees_so freed.BadPage v at is differ found number block fits frees =
      let outside = outside_is true fits frees.0 in
      let_go reply.BadPage (Some reply.BadPage) (side_with past sets s u (with_txn n v ts)) at (reasons true (holds s.container (seen past sets t) p) outside refl) (refl, same v frees.1)
    where
      same : (w : Opened) → w ≡ t.txn → side_with past sets s u (with_txn n w ts) ≡ with_up s u
      same w e = ap (λ (x : Opened). side_with past sets s u (with_txn n x ts)) e ∙ ap (side_with past sets s u) (with_same n t ts differ found) ∙ side_same past sets s u ts is
  frees_so freed.NoTxn v at is differ found number block fits frees = absurd frees

-- a free of no transaction
none_freed : (past : List Item) (sets : ℕ → Held) (ts : List OpenTxn) (s : Side) (u : Up) (n p : ℕ) → u.txns ≡ seen_txns past sets ts → txn_at n ts ≡ None
    → FreesAs s u n p freed.NoTxn (side_with past sets s u ts)
none_freed past sets ts s u n p is none =
    let now : Side = side_with past sets s u ts in
    let at : machine_txn u n ≡ None = seen_at past sets n ts u is ∙ ap (option_map (seen past sets)) none in
    subst (λ (o : Option Txn). UnlessRefused (free_reason s.container p o) (with_up s u) reply.NoTxn now (LetsGo s u o p reply.NoTxn now)) (sym at) (refl, side_same past sets s u ts is)

pub number_found : (n : ℕ) (ts : List OpenTxn) (t : OpenTxn) → txn_at n ts ≡ Some t → t.number ≡ n
number_found n [] t found = absurd (cc)
number_found n (z ∷ ts) t found = elim (cases_Bool (is_numbered n z)) [
  | inl b ↦ (let same : z ≡ t = (let some = rw b at found in cc) in subst (λ (w : OpenTxn). w.number ≡ n) same (eqb-true z.number n b))
  | inr b ↦ number_found n ts t (rw b at found)
]

pub all_frees : (past : List Item) (sets : ℕ → Held) (o : Open) (s : Side) (u : Up) (c d : Blocks) (n p : ℕ) (r : Freed) (us : List OpenTxn) → o.cache ≡ Some c → AreOpenIn c o.txns → StandsFor past sets o s u
    → FreesIn c o.txns n p r us d → FreesAs s u n p r (side_with past sets s u us)
all_frees past sets o s u c d n p r us cache opened stands frees = by (txn_at n o.txns) refl
  where
    by : (x : Option OpenTxn) → txn_at n o.txns ≡ x → FreesAs s u n p r (side_with past sets s u us)
    by None found =
        let none = subst (λ (x : Option OpenTxn). FreesOf c x o.txns n p r us d) found frees in
        subst (λ (y : Freed). FreesAs s u n p y (side_with past sets s u us)) (sym none.0)
        (subst (λ (xs : List OpenTxn). FreesAs s u n p freed.NoTxn (side_with past sets s u xs)) (sym none.1) (none_freed past sets o.txns s u n p stands.txns found))
    by (Some t) found =
        let some = subst (λ (x : Option OpenTxn). FreesOf c x o.txns n p r us d) found frees in
        let block : s.container.block ≡ c.block = subst (λ (x : Option Blocks). IfSome x (λ (y : Blocks). s.container.block ≡ y.block)) cache stands.block in
        let own : t.txn.base.block ≡ c.block = one_of (λ (x : OpenTxn). x.txn.base.block ≡ c.block) (is_numbered n) o.txns t opened.blocks found in
        let fits : FitsTxn past (open_part sets t) = one_of (λ (x : OpenTxn). FitsTxn past (open_part sets x)) (is_numbered n) o.txns t stands.fit.txns found in
        subst (λ (xs : List OpenTxn). FreesAs s u n p r (side_with past sets s u xs)) (sym some.2)
        (frees_so past sets t c d s u n p o.txns r some.0 (seen_at past sets n o.txns u stands.txns ∙ ap (option_map (seen past sets)) found) stands.txns opened.differ found (number_found n o.txns t found) (block ∙ sym own) fits some.1)
