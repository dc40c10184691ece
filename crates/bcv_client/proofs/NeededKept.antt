-- A set that is trimmed leaves the open transactions their views.
use Rattle.std.proofs.Common.{◌≡◌, ◌∙◌, ◌≤◌, ℕ, Bool, true, false, not, List, [], ◌∷◌, Option, Some, None, IfSome, refl, sym, subst, inl, inr}
use Rattle.std.specs.Prelude.{IsSomeAnd}
use Rattle.std.specs.List.{AllByRecursion}
use Rattle.std.proofs.lemmas.Bool.{cases_eq}
use Rattle.bcv_databases.specs.Catalog.{Catalog}
use Rattle.bcv_databases.specs.Changes.{KeepsFrom, Trims}
use Rattle.bcv_ledger.specs.declared.ledger.Ledger.{Ledger}
use Rattle.bcv_pages.specs.Held.{Held}
use Rattle.bcv_slots.specs.declared.Slot.{Slot}
use Rattle.bcv_transaction.specs.Open.{Open}
use Rattle.bcv_transaction.specs.declared.open_txn.OpenTxn.{OpenTxn}
use Rattle.bcv_client.specs.LocalWrites.{TrimsSets, TrimsWhere}
use Rattle.bcv_client.specs.Transactions.{needed_in}
use Rattle.bcv_client.specs.declared.job.Job.{Job}
use Rattle.bcv_client.proofs.SetViews.{KeepsTxn}
use Rattle.bcv_client.proofs.SetsTrimmed.{txns_need}

pub keeps_itself : (sets : List (Option Held)) (set from to : ℕ) → KeepsFrom sets sets set from to
keeps_itself sets set from to = λ h is. (h, is, λ can. (can, refl))

pub keep_themselves : (sets : List (Option Held)) (ts : List OpenTxn) → AllByRecursion (KeepsTxn sets sets) ts
keep_themselves sets [] = tt
keep_themselves sets (t ∷ ts) = (keeps_itself sets t.set t.txn.base.from t.txn.base.to, keep_themselves sets ts)

module _ (old new : Catalog) (set : ℕ) (oldest : Option ℕ) (trims : Trims old new set oldest)
    (views : (from to : ℕ) → IfSome oldest (λ (o : ℕ). o ≤ from → KeepsFrom old.sets new.sets set from to)) where
  keeps_one : (t : OpenTxn) → (t.set ≡ set → KeepsFrom old.sets new.sets set t.txn.base.from t.txn.base.to) → KeepsTxn old.sets new.sets t
  keeps_one t here = elim (cases_eq t.set set) [
    | inl same ↦ subst (λ (s : ℕ). KeepsFrom old.sets new.sets s t.txn.base.from t.txn.base.to) (sym same) (here same)
    | inr other ↦ λ h is. (h, trims.others t.set other ∙ is, λ can. (can, refl))
  ]

  from_needed : (x : Option ℕ) (from to : ℕ) → IfSome x (λ (o : ℕ). o ≤ from → KeepsFrom old.sets new.sets set from to) → IsSomeAnd x (λ o. o ≤ from) → KeepsFrom old.sets new.sets set from to
  from_needed None from to keep needs = absurd needs
  from_needed (Some o) from to keep needs = keep needs

  pub trim_keeps : (ts : List OpenTxn) → AllByRecursion (λ (t : OpenTxn). t.set ≡ set → IsSomeAnd oldest (λ o. o ≤ t.txn.base.from)) ts → AllByRecursion (KeepsTxn old.sets new.sets) ts
  trim_keeps [] all = tt
  trim_keeps (t ∷ ts) all =
      (keeps_one t (λ same. from_needed oldest t.txn.base.from t.txn.base.to (views t.txn.base.from t.txn.base.to) (all.0 same)), trim_keeps ts all.1)

-- what transactions and uploads need stays
pub trimmed : {D : Type 0} {g : _} (old new : Ledger D g) (set : ℕ) (oldest : Option ℕ) (o : Open) (tasks : List (Slot Job)) → new.log ≡ old.log → Trims old.databases new.databases set oldest
    → ((from to : ℕ) → IfSome oldest (λ (x : ℕ). x ≤ from → KeepsFrom old.databases.sets new.databases.sets set from to)) → oldest ≡ needed_in set o tasks → TrimsSets old new o
trimmed old new set oldest o tasks log trims views is = record {
  log = log;
  kept = trims.kept;
  known = trims.known;
  views =
      trim_keeps old.databases new.databases set oldest trims views o.txns
      (subst (λ (x : Option ℕ). AllByRecursion (λ (t : OpenTxn). t.set ≡ set → IsSomeAnd x (λ n. n ≤ t.txn.base.from)) o.txns) (sym is) (txns_need set o tasks));
}

pub untrimmed : {D : Type 0} {g : _} (l : Ledger D g) (o : Open) → TrimsSets l l o
untrimmed l o = record { log = refl; kept = refl; known = refl; views = keep_themselves l.databases.sets o.txns }

pub is_gone : (b : Bool) → not b ≡ false → true ≡ b
is_gone true held = refl
is_gone false held = held

pub not_gone : (b : Bool) → not b ≡ true → false ≡ b
not_gone true held = held
not_gone false held = refl

pub trims_set : {D : Type 0} {g : _} (old new : Ledger D g) (set : ℕ) (oldest : Option ℕ) (o : Open) (tasks : List (Slot Job)) (gone : Bool) (found : Option ℕ) → true ≡ gone → found ≡ Some set
    → new.log ≡ old.log → Trims old.databases new.databases set oldest → oldest ≡ needed_in set o tasks → TrimsWhere gone found old new o tasks
trims_set old new set oldest o tasks gone found is there log trims needs =
    subst (λ (b : Bool). TrimsWhere b found old new o tasks) is
    (subst (λ (x : Option ℕ). TrimsWhere true x old new o tasks) (sym there)
    (log, subst (λ (x : Option ℕ). Trims old.databases new.databases set x) needs trims))

pub trims_none : {D : Type 0} {g : _} (l : Ledger D g) (o : Open) (tasks : List (Slot Job)) (gone : Bool) (found : Option ℕ) → found ≡ None → TrimsWhere gone found l l o tasks
trims_none l o tasks true None is = refl
trims_none l o tasks false None is = refl
trims_none l o tasks gone (Some set) is = absurd (let e : Some set ≡ None = is in cc)

pub trims_not : {D : Type 0} {g : _} (l : Ledger D g) (o : Open) (tasks : List (Slot Job)) (gone : Bool) (found : Option ℕ) → false ≡ gone → TrimsWhere gone found l l o tasks
trims_not l o tasks true found is = absurd (let e : false ≡ true = is in cc)
trims_not l o tasks false found is = refl

-- where each part is the same
pub trims_as : {D : Type 0} {g : _} (old new : Ledger D g) (o : Open) (gone b : Bool) (set x : Option ℕ) (ss ts : List (Slot Job)) → gone ≡ b → set ≡ x → ss ≡ ts → TrimsWhere gone set old new o ss
    → TrimsWhere b x old new o ts
trims_as old new o gone b set x ss ts is same tasks trims =
    subst (λ (k : Bool). TrimsWhere k x old new o ts) is
    (subst (λ (y : Option ℕ). TrimsWhere gone y old new o ts) same (subst (λ (zs : List (Slot Job)). TrimsWhere gone set old new o zs) tasks trims))
