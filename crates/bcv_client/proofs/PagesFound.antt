-- The set of pages of a transaction is found, and a page that has to be fetched is one of the transaction's.
use Rattle.std.proofs.Common.{◌≡◌, ◌∙◌, ◌≤◌, ℕ, Bool, true, false, cond, nat_le, Option, Some, None, IfSome, MatchOption, option_map, refl, sym, ap, subst}
use Rattle.std.specs.Prelude.{unwrap_or}
use Rattle.std.specs.List.{AllByRecursion}
use Rattle.std.proofs.lemmas.Bool.{and_parts, leb-true}
use Rattle.std.proofs.lemmas.Option.{same_Some}
use Rattle.bcv_base.specs.declared.id.Id16.{Id16}
use Rattle.bcv_base.specs.declared.seen.TxnBase.{TxnBase}
use Rattle.bcv_base.specs.Views.{FromBase, Origin, origin, view_size}
use Rattle.bcv_cache.specs.Entry.{Blocks}
use Rattle.bcv_databases.specs.Catalog.{Catalog, set_at}
use Rattle.bcv_machine.specs.State.{Access, ToHold, ToRead}
use Rattle.bcv_pages.specs.Held.{CanView, Held}
use Rattle.bcv_snapshot.specs.Opened.{is_page, source_of}
use Rattle.bcv_transaction.specs.declared.answers.Came.{Came}
use Rattle.bcv_transaction.specs.declared.answers.Came.TheVariants as came
use Rattle.bcv_transaction.specs.declared.open_txn.OpenTxn.{OpenTxn}
use Rattle.bcv_transaction.specs.ListCalls.{HoldsIn, HoldsOf, ReadsIn, ReadsOf}
use Rattle.bcv_transaction.specs.MachineCalls.{IsSetOf}
use Rattle.bcv_transaction.specs.Open.{AreOpen, CanRead, Open, base_in, base_view, is_numbered, set_in, txn_at, view_in}
use Rattle.bcv_transaction.specs.OpenCalls.{CacheCalls}
use Rattle.bcv_transaction.specs.StepCalls.{PageCalls}
use Rattle.bcv_transaction.proofs.MachinePages.{one_of}
use Rattle.bcv_transaction.proofs.StepPlaces.{IsAway, wants}
use Rattle.bcv_client.specs.ClientForm.{FetchInForm, IsPageOf, ReadsSet}
use Rattle.bcv_client.specs.ClientParts.{no_set, sets_in}
use Rattle.bcv_client.specs.PagesFound.{IsPagesOf, PagesOf, WantsFetch}
use Rattle.bcv_client.specs.Transactions.{opened_as, opened_by, pages_for}

-- ---- the set

record IsFound (o : Open) (n set : ℕ) : Type 0 where
  txn : OpenTxn
  is_open : txn_at n o.txns ≡ Some txn
  set_is : txn.set ≡ set

found_by : (o : Open) (n set : ℕ) (x : Option OpenTxn) → txn_at n o.txns ≡ x → option_map (λ (t : OpenTxn). t.set) x ≡ Some set → IsFound o n set
found_by o n set None found is = absurd (cc)
found_by o n set (Some t) found is = record { txn = t; is_open = found; set_is = same_Some t.set set is }

none_by : (x : Option OpenTxn) → option_map (λ (t : OpenTxn). t.set) x ≡ None → x ≡ None
none_by None is = refl
none_by (Some t) is = absurd (cc)

pub none_found : (n : ℕ) (o : Open) → set_in n o.txns ≡ None → txn_at n o.txns ≡ None
none_found n o is = none_by (txn_at n o.txns) is

pub pages_found : (c : Catalog) (o : Open) (n set : ℕ) (x : Option Held) → AllByRecursion (ReadsSet c.sets) o.txns → set_in n o.txns ≡ Some set → x ≡ set_at c.sets set → PagesOf c o n x
pages_found c o n set x reads is same =
    let t : IsFound o n set = found_by o n set (txn_at n o.txns) refl is in
    let r : ReadsSet c.sets t.txn = one_of (ReadsSet c.sets) (is_numbered n) o.txns t.txn reads t.is_open in
    let there : x ≡ Some r.held = same ∙ ap (set_at c.sets) (sym t.set_is) ∙ r.is_held in
    subst (PagesOf c o n) (sym there) (record { txn = t.txn; is_open = t.is_open; set = ap (λ (h : Option Held). unwrap_or h no_set) r.is_held; can = r.can; size = r.size })

module _ (c : Catalog) (o : Open) (n : ℕ) (h : Held) (is : IsPagesOf c o n h) where
  -- the pages can be read
  pub can_read : IfSome (txn_at n o.txns) (CanRead h)
  can_read = subst (λ (x : Option OpenTxn). IfSome x (CanRead h)) (sym is.is_open) is.can

  pub is_set_of : IsSetOf h (sets_in c) n o.txns
  is_set_of = subst (λ (x : Option OpenTxn). IfSome x (λ (t : OpenTxn). sets_in c t.set ≡ h)) (sym is.is_open) is.set

  pub pages_are : pages_for c n o ≡ h
  pages_are = ap (λ (x : Option OpenTxn). sets_in c (unwrap_or (option_map (λ (t : OpenTxn). t.set) x) 0)) is.is_open ∙ is.set

-- ---- calls of no transaction

pub none_comes : (access : Access) (pages : Held) (o : Open) (n p : ℕ) → txn_at n o.txns ≡ None → PageCalls access pages o n p came.NoTxn o
none_comes ToRead pages o n p none = (by o.cache, refl)
  where
    by : (x : Option Blocks) → CacheCalls x x o o (came.NoTxn ≡ came.NoTxn) (λ c d. ReadsIn pages c o.txns n p came.NoTxn d)
    by None = (refl, refl)
    by (Some c) = (refl, subst (λ (x : Option OpenTxn). ReadsOf pages c x p came.NoTxn c) (sym none) (refl, refl))
none_comes ToHold pages o n p none = by o.cache
  where
    by : (x : Option Blocks) → CacheCalls x x o o (came.NoTxn ≡ came.NoTxn) (λ c d. HoldsIn pages c o.txns n p came.NoTxn o.txns d)
    by None = (refl, refl)
    by (Some c) = (refl, subst (λ (x : Option OpenTxn). HoldsOf pages c x o.txns n p came.NoTxn o.txns c) (sym none) (refl, refl, refl))

-- ---- a page that has to be fetched

from_page : (b : Bool) (x y : Origin) → cond b (Some x) None ≡ Some y → b ≡ true
from_page true x y is = refl
from_page false x y is = absurd (cc)

same_txn : (x : Option OpenTxn) (a b : OpenTxn) → x ≡ Some a → x ≡ Some b → b ≡ a
same_txn x a b one two = same_Some b a (sym two ∙ one)

page_away : (c : Catalog) (o new : Open) (n p : ℕ) (h : Held) (id : Id16) → IsPagesOf c o n h → IsAway h o n p id new → FetchInForm new n p
page_away c o new n p h id is away =
    let t : OpenTxn = is.txn in
    let same : away.txn ≡ t = same_txn (txn_at n o.txns) t away.txn is.is_open away.found in
    let from : source_of t.txn.base (view_in h t) p ≡ Some FromBase = subst (λ (x : OpenTxn). source_of x.txn.base (view_in h x) p ≡ Some FromBase) same away.from in
    let page : is_page t.txn.base (view_in h t) p ≡ true = from_page (is_page t.txn.base (view_in h t) p) (origin t.txn.base.entry.pages (view_in h t) p) FromBase from in
    let both = and_parts (nat_le 1 p) (nat_le p (view_size t.txn.base.entry.pages (view_in h t))) page in
    let to : p ≤ t.txn.size = subst (λ (k : ℕ). p ≤ k) (sym is.size) (leb-true p (view_size t.txn.base.entry.pages (view_in h t)) both.1) in
    let there : txn_at n new.txns ≡ Some t = ap (λ (x : Open). txn_at n x.txns) away.same ∙ is.is_open in
    subst (λ (x : Option OpenTxn). MatchOption x ⊥ (IsPageOf p)) (sym there) (record { from = leb-true 1 p both.0; to = to })

pub fetch_form : (access : Access) (c : Catalog) (o new : Open) (n p : ℕ) (h : Held) (r : Came) → AreOpen o → IsPagesOf c o n h → PageCalls access h o n p r new → WantsFetch r (FetchInForm new n p)
fetch_form access c o new n p h (came.Page bytes) opened is calls = tt
fetch_form access c o new n p h came.Held opened is calls = tt
fetch_form access c o new n p h (came.Absent id) opened is calls = page_away c o new n p h id is (wants access h o new n p id opened calls)
fetch_form access c o new n p h came.CacheFull opened is calls = tt
fetch_form access c o new n p h came.BadPage opened is calls = tt
fetch_form access c o new n p h came.NoTxn opened is calls = tt
fetch_form access c o new n p h came.NoMemory opened is calls = tt

-- ---- what is open

base_by : (n : ℕ) (o : Open) (t : OpenTxn) (b : TxnBase) → txn_at n o.txns ≡ Some t → base_in n o.txns ≡ Some b → t.txn.base ≡ b
base_by n o t b found is = same_Some t.txn.base b (sym (ap (option_map (λ (x : OpenTxn). x.txn.base)) found) ∙ is)

module _ (c : Catalog) (o : Open) (n : ℕ) (h : Held) (b : TxnBase) (is : IsPagesOf c o n h) (base : base_in n o.txns ≡ Some b) where
  pub can_view : CanView h b.from b.to
  can_view = subst (λ (x : TxnBase). CanView h x.from x.to) (base_by n o is.txn b is.is_open base) is.can

  pub opened_so : Some (b.number, b.entry.page_size, view_size b.entry.pages (base_view h b)) ≡ opened_as n o
  opened_so =
      ap (λ (x : TxnBase). Some (x.number, x.entry.page_size, view_size x.entry.pages (base_view h x))) (sym (base_by n o is.txn b is.is_open base))
      ∙ ap (λ (k : ℕ). Some (is.txn.txn.base.number, is.txn.txn.base.entry.page_size, k)) (sym is.size)
      ∙ sym (ap (option_map opened_by) is.is_open)

pub not_opened : (n : ℕ) (o : Open) → txn_at n o.txns ≡ None → opened_as n o ≡ None
not_opened n o none = ap (option_map opened_by) none

pub base_there : (c : Catalog) (o : Open) (n : ℕ) (h : Held) → IsPagesOf c o n h → base_in n o.txns ≡ None → ⊥
base_there c o n h is none = (let both : Some is.txn.txn.base ≡ None = sym (ap (option_map (λ (x : OpenTxn). x.txn.base)) is.is_open) ∙ none in cc)
