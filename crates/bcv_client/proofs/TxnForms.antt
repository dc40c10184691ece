-- Transactions and cache after a call that ends none are in form, where they were before it.
use Rattle.std.proofs.Common.{◌≡◌, ◌∙◌, ℕ, ◌≤◌, Bool, true, false, cond, nat_eq, List, [], ◌∷◌, map, Option, Some, None, IfSome, MatchOption, option_map, refl, sym, ap, subst, inl, inr}
use Rattle.std.specs.List.{AllByRecursion, IsDistinct}
use Rattle.std.proofs.lemmas.Bool.{cases_Bool, eqb-true}
use Rattle.std.proofs.lemmas.Option.{same_Some}
use Rattle.bcv_cache.specs.Entry.{Blocks}
use Rattle.bcv_base.specs.declared.seen.TxnBase.{TxnBase}
use Rattle.bcv_base.specs.Views.{view_size}
use Rattle.bcv_databases.specs.Catalog.{Catalog, set_at}
use Rattle.bcv_pages.specs.Held.{CanView, Held}
use Rattle.bcv_slots.specs.declared.Slot.{Slot}
use Rattle.bcv_snapshot.specs.Opened.{Opened}
use Rattle.bcv_transaction.specs.declared.open_txn.OpenTxn.{OpenTxn}
use Rattle.bcv_transaction.specs.Open.{Open, base_view, is_numbered, numbers_of, txn_at, with_txn}
use Rattle.bcv_transaction.proofs.TxnPlaces.{HaveNot, others_differ, with_none}
use Rattle.bcv_base.specs.declared.seen.Seen.{Seen}
use Rattle.bcv_client.specs.ClientForm.{HasSize, IsInForm, IsPageOf, JobInForm, ReadsSet}
use Rattle.bcv_client.specs.declared.job.Job.{Job}
use Rattle.bcv_client.specs.declared.job.Job.TheVariants as job

-- a transaction but for what it holds
abbrev pub unheld : OpenTxn → OpenTxn
unheld t = record t { txn = record t.txn { held = [] } }

abbrev pub block_of : Option Blocks → Option ℕ
block_of x = option_map (λ (c : Blocks). c.block) x

-- the same transactions are open but for what they hold, over a cache of the same blocks
pub record StayOpen (o n : Open) : Type 0 where
  pub slots : n.slots ≡ o.slots
  pub block : block_of n.cache ≡ block_of o.cache
  pub txns : map unheld n.txns ≡ map unheld o.txns

-- ---- lists

pub same_head : {A : Type 0} → (x y : A) (xs ys : List A) → x ∷ xs ≡ y ∷ ys → x ≡ y
same_head {A = A} x y xs ys is = same_Some x y (ap first is)
  where
    first : List A → Option A
    first [] = None
    first (z ∷ zs) = Some z

pub same_tail : {A : Type 0} → (x y : A) (xs ys : List A) → x ∷ xs ≡ y ∷ ys → xs ≡ ys
same_tail {A = A} x y xs ys is = ap rest is
  where
    rest : List A → List A
    rest [] = []
    rest (z ∷ zs) = zs

-- what holds of a transaction whatever it holds, holds of all that are the same but for that
pub all_alike : (P : OpenTxn → Type 0) → ((t u : OpenTxn) → unheld u ≡ unheld t → P t → P u) → (ts us : List OpenTxn) → map unheld us ≡ map unheld ts
    → AllByRecursion P ts → AllByRecursion P us
all_alike P keeps [] [] same all = tt
all_alike P keeps [] (u ∷ us) same all = absurd (cc)
all_alike P keeps (t ∷ ts) [] same all = absurd (cc)
all_alike P keeps (t ∷ ts) (u ∷ us) same all = (
  keeps t u (same_head (unheld u) (unheld t) (map unheld us) (map unheld ts) same) all.0,
  all_alike P keeps ts us (same_tail (unheld u) (unheld t) (map unheld us) (map unheld ts) same) all.1,
)

-- the transaction of a number, but for what it holds
at_unheld : (k : ℕ) (ts : List OpenTxn) → txn_at k (map unheld ts) ≡ option_map unheld (txn_at k ts)
at_unheld k [] = refl
at_unheld k (t ∷ ts) =
    elim (is_numbered k t) as (λ (b : Bool). cond b (Some (unheld t)) (txn_at k (map unheld ts)) ≡ option_map unheld (cond b (Some t) (txn_at k ts))) [
      | true ↦ refl
      | false ↦ at_unheld k ts
    ]

pub at_alike : (k : ℕ) (ts us : List OpenTxn) → map unheld us ≡ map unheld ts → option_map unheld (txn_at k us) ≡ option_map unheld (txn_at k ts)
at_alike k ts us same = sym (at_unheld k us) ∙ ap (txn_at k) same ∙ at_unheld k ts

-- one transaction that holds other blocks
pub with_alike : (n : ℕ) (v : Opened) (t : OpenTxn) (ts : List OpenTxn) → IsDistinct nat_eq (numbers_of ts) → txn_at n ts ≡ Some t
    → unheld (record t { txn = v }) ≡ unheld t → map unheld (with_txn n v ts) ≡ map unheld ts
unfolding IsDistinct
with_alike n v t [] d found same = refl
with_alike n v t (z ∷ ts) d found same = elim (cases_Bool (is_numbered n z)) [
  | inl b ↦ (let is : z ≡ t = (let some = rw b at found in cc) in
      let none : HaveNot n ts = others_differ n z.number ts (eqb-true z.number n b) d.0 in
      let head : unheld (record z { txn = v }) ≡ unheld z = subst (λ (w : OpenTxn). unheld (record w { txn = v }) ≡ unheld w) (sym is) same in
      ap (λ (c : Bool). unheld (cond c (record z { txn = v }) z) ∷ map unheld (with_txn n v ts)) b
      ∙ ap (λ (x : OpenTxn). x ∷ map unheld (with_txn n v ts)) head
      ∙ ap (λ (xs : List OpenTxn). unheld z ∷ map unheld xs) (with_none n v ts none))
  | inr b ↦ (ap (λ (c : Bool). unheld (cond c (record z { txn = v }) z) ∷ map unheld (with_txn n v ts)) b
      ∙ ap (λ (xs : List OpenTxn). unheld z ∷ xs) (with_alike n v t ts d.1 (rw b at found) same))
]

-- ---- the form

reads_alike : (sets : List (Option Held)) (t u : OpenTxn) → unheld u ≡ unheld t → ReadsSet sets t → ReadsSet sets u
reads_alike sets t u same reads =
    let set : u.set ≡ t.set = ap (λ (x : OpenTxn). x.set) same in
    let base : u.txn.base ≡ t.txn.base = ap (λ (x : OpenTxn). x.txn.base) same in
    let size : u.txn.size ≡ t.txn.size = ap (λ (x : OpenTxn). x.txn.size) same in
    record {
      held = reads.held;
      is_held = ap (set_at sets) set ∙ reads.is_held;
      can = subst (λ (b : TxnBase). CanView reads.held b.from b.to) (sym base) reads.can;
      size = size ∙ reads.size ∙ ap (λ (b : TxnBase). view_size b.entry.pages (base_view reads.held b)) (sym base);
    }

page_alike : (page : ℕ) (a b : Option OpenTxn) → option_map unheld b ≡ option_map unheld a → MatchOption a ⊥ (IsPageOf page) → MatchOption b ⊥ (IsPageOf page)
page_alike page None b same there = absurd there
page_alike page (Some t) None same there = absurd (cc)
page_alike page (Some t) (Some u) same there =
    let size : u.txn.size ≡ t.txn.size = ap (λ (x : OpenTxn). x.txn.size) (same_Some (unheld u) (unheld t) same) in
    record { from = there.from; to = subst (λ (k : ℕ). page ≤ k) (sym size) there.to }

job_alike : (seen : Seen) (c : Catalog) (o n : Open) → map unheld n.txns ≡ map unheld o.txns → (j : Job) → JobInForm seen c o j → JobInForm seen c n j
job_alike seen c o n same (job.Fetch access txn page) is = page_alike page (txn_at txn o.txns) (txn_at txn n.txns) (at_alike txn o.txns n.txns same) is
job_alike seen c o n same job.Poll is = is
job_alike seen c o n same (job.Publish set taken t) is = is
job_alike seen c o n same job.Resolve is = is

pub jobs_alike : (seen : Seen) (c : Catalog) (o n : Open) → map unheld n.txns ≡ map unheld o.txns → (ss : List (Slot Job))
    → AllByRecursion (λ (s : Slot Job). JobInForm seen c o s.item) ss → AllByRecursion (λ (s : Slot Job). JobInForm seen c n s.item) ss
jobs_alike seen c o n same [] all = tt
jobs_alike seen c o n same (s ∷ ss) all = (job_alike seen c o n same s.item all.0, jobs_alike seen c o n same ss all.1)

-- the blocks of the cache have the same size
pub size_alike : (seen : Option ℕ) (c : Catalog) (x y : Option Blocks) → block_of y ≡ block_of x → HasSize seen c x → HasSize seen c y
size_alike None c x y same has = (has.0, has.1, none y (same ∙ ap block_of has.2))
  where
    none : (z : Option Blocks) → block_of z ≡ None → z ≡ None
    none None is = refl
    none (Some d) is = absurd (cc)
size_alike (Some b) c x y same has = (has.0, has.1, by x y same has.2)
  where
    by : (v w : Option Blocks) → block_of w ≡ block_of v → IfSome v (λ (d : Blocks). d.block ≡ b) → IfSome w (λ (d : Blocks). d.block ≡ b)
    by v None is all = tt
    by None (Some d) is all = absurd (cc)
    by (Some e) (Some d) is all = same_Some d.block e.block is ∙ all

pub form_stays : (seen : Seen) (c : Catalog) (o n : Open) (tasks : List (Slot Job)) → StayOpen o n → IsInForm seen c o tasks → IsInForm seen c n tasks
form_stays seen c o n tasks stay form = record {
  size = size_alike seen.block c o.cache n.cache stay.block form.size;
  txns = all_alike (ReadsSet c.sets) (reads_alike c.sets) o.txns n.txns stay.txns form.txns;
  tasks_are = record {
    few = form.tasks_are.few;
    differ = form.tasks_are.differ;
    single = form.tasks_are.single;
    each = jobs_alike seen c o n stay.txns tasks form.tasks_are.each;
  };
}
