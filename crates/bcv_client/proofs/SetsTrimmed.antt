-- A set of pages that was trimmed keeps the views that transactions and an upload need, and what uses them stays in form.
use Rattle.std.proofs.Common.{◌≡◌, ◌∙◌, ◌==◌, ◌≤◌, ℕ, Bool, true, false, cond, not, List, [], ◌∷◌, Option, Some, None, IfSome, MatchOption, refl, sym, ap, subst, inl, inr, arith}
use Rattle.std.specs.Prelude.{is_some, unwrap_or, IsSomeAnd}
use Rattle.std.specs.List.{AllByRecursion, list_any}
use Rattle.std.proofs.lemmas.Bool.{cases_Bool, eq-eqb, eqb-false, eqb-true, ne_eqb, or_left, or_right}
use Rattle.std.proofs.lemmas.Option.{same_Some}
use Rattle.bcv_base.specs.declared.seen.Seen.{Seen}
use Rattle.bcv_base.specs.Image.{Writes}
use Rattle.bcv_base.specs.Views.{view_size}
use Rattle.bcv_databases.specs.Catalog.{Catalog, set_at}
use Rattle.bcv_databases.specs.Changes.{KeepsFrom, Trims, needed_from, trimmed}
use Rattle.bcv_databases.specs.Sound.{CanUpload}
use Rattle.bcv_model.specs.declared.kept.Kept.{Kept}
use Rattle.bcv_pages.specs.Held.{Held, KeepsView, without_upto}
use Rattle.bcv_publication.specs.TaskSides.{job_of}
use Rattle.bcv_slots.specs.declared.Slot.{Slot}
use Rattle.bcv_snapshot.proofs.HeldBlocks.{all_imply}
use Rattle.bcv_tasks.specs.declared.publish_task.PublishTask.{PublishTask}
use Rattle.bcv_tasks.specs.declared.publish_task.PublishTask.TheVariants as task
use Rattle.bcv_tasks.specs.State.{pending_of, refused_of, upload_of}
use Rattle.bcv_transaction.specs.declared.open_txn.OpenTxn.{OpenTxn}
use Rattle.bcv_transaction.specs.FitLaws.{KeepsTxnView}
use Rattle.bcv_transaction.specs.Open.{CanRead, Open, is_numbered, oldest_in, txn_at, without_txn}
use Rattle.bcv_transaction.proofs.FitLaws.{oldest_is_least}
use Rattle.bcv_upload.specs.BlockText.{IsViewOf}
use Rattle.bcv_upload.specs.State as upload
use Rattle.bcv_client.specs.ClientForm.{IsPageOf, JobInForm, PendingFor, PublishInForm, ReadsSet, UploadInForm, ViewInForm}
use Rattle.bcv_client.specs.ClientParts.{done_by, no_set, sets_in}
use Rattle.bcv_client.specs.Transactions.{is_fetch_for, is_upload, is_upload_of, needed_in, uploads_of}
use Rattle.bcv_client.specs.declared.job.Job.{Job}
use Rattle.bcv_client.specs.declared.job.Job.TheVariants as job

-- ---- what is needed

-- of the transactions
needed_by : (set : ℕ) (ts : List OpenTxn) (x : Option ℕ) → oldest_in set ts ≡ x → AllByRecursion (λ (t : OpenTxn). t.set ≡ set → IsSomeAnd x (λ o. o ≤ t.txn.base.from)) ts
needed_by set ts None is = all_imply (λ (t : OpenTxn). t.set ≡ set → ⊥) (λ (t : OpenTxn). t.set ≡ set → IsSomeAnd None (λ o. o ≤ t.txn.base.from)) (λ t none. λ same. absurd (none same)) ts (oldest_is_least.none set ts is)
needed_by set ts (Some o) is = oldest_is_least.some set ts o is

all_needed : (set : ℕ) (ts : List OpenTxn) → AllByRecursion (λ (t : OpenTxn). t.set ≡ set → IsSomeAnd (Some 0) (λ o. o ≤ t.txn.base.from)) ts
all_needed set [] = tt
all_needed set (t ∷ ts) = ((λ same. omega arith), all_needed set ts)

pub txns_need : (set : ℕ) (o : Open) (tasks : List (Slot Job)) → AllByRecursion (λ (t : OpenTxn). t.set ≡ set → IsSomeAnd (needed_in set o tasks) (λ n. n ≤ t.txn.base.from)) o.txns
txns_need set o tasks = elim (uploads_of set tasks) as (λ (b : Bool). AllByRecursion (λ (t : OpenTxn). t.set ≡ set → IsSomeAnd (cond b (Some 0) (oldest_in set o.txns)) (λ n. n ≤ t.txn.base.from)) o.txns) [
  | true ↦ all_needed set o.txns
  | false ↦ needed_by set o.txns (oldest_in set o.txns) refl
]

-- of an upload
any_then : (test : Slot Job → Bool) (P : Type 0) (ss : List (Slot Job)) → (list_any test ss ≡ true → P) → AllByRecursion (λ (s : Slot Job). test s ≡ true → P) ss
any_then test P [] goes = tt
any_then test P (s ∷ ss) goes = ((λ is. goes (or_left (test s) (list_any test ss) is)), any_then test P ss (λ is. goes (or_right (test s) (list_any test ss) is)))

pub uploads_need : (set : ℕ) (o : Open) (tasks : List (Slot Job)) → AllByRecursion (λ (s : Slot Job). is_upload_of set s.item ≡ true → needed_in set o tasks ≡ Some 0) tasks
uploads_need set o tasks = any_then (λ (s : Slot Job). is_upload_of set s.item) (needed_in set o tasks ≡ Some 0) tasks (λ is. ap (λ (b : Bool). cond b (Some 0) (oldest_in set o.txns)) is)

-- ---- the transactions but one

-- one of another number is found as before
pub at_others : (n k : ℕ) (ts : List OpenTxn) → (k == n) ≡ false → txn_at k (without_txn n ts) ≡ txn_at k ts
at_others n k [] other = refl
at_others n k (t ∷ ts) other = elim (cases_Bool (is_numbered n t)) [
  | inl b ↦ (let unlike : is_numbered k t ≡ false = ne_eqb t.number k (λ same. eqb-false k n other (sym same ∙ eqb-true t.number n b)) in
      ap (λ (c : Bool). txn_at k (cond (not c) (t ∷ without_txn n ts) (without_txn n ts))) b
      ∙ at_others n k ts other
      ∙ sym (ap (λ (c : Bool). cond c (Some t) (txn_at k ts)) unlike))
  | inr b ↦ (ap (λ (c : Bool). txn_at k (cond (not c) (t ∷ without_txn n ts) (without_txn n ts))) b
      ∙ ap (λ (x : Option OpenTxn). cond (is_numbered k t) (Some t) x) (at_others n k ts other))
]

-- ---- a view of a set

-- the set of a place has a view as the one before had it
record KeepsAt (sets : List (Option Held)) (p from to : ℕ) (h : Held) : Type 0 where
  held : Held
  at : set_at sets p ≡ Some held
  keeps : KeepsView h held from to
  size : held.page_size ≡ h.page_size

module _ (old new : Catalog) (set : ℕ) (oldest : Option ℕ) (trims : Trims old new set oldest)
    (views : (from to : ℕ) → IfSome oldest (λ o. o ≤ from → KeepsFrom old.sets new.sets set from to)) where
  same_size : (upto : Option ℕ) (h k : Held) → set_at new.sets set ≡ trimmed upto (Some h) → set_at new.sets set ≡ Some k → k.page_size ≡ h.page_size
  same_size None h k is at = absurd (let no : None ≡ Some k = sym is ∙ at in cc)
  same_size (Some n) h k is at = ap (λ (x : Held). x.page_size) (same_Some k (without_upto n h) (sym at ∙ is))

  kept_from : (x : Option ℕ) (from to : ℕ) → IfSome x (λ o. o ≤ from → KeepsFrom old.sets new.sets set from to) → IsSomeAnd x (λ o. o ≤ from) → KeepsFrom old.sets new.sets set from to
  kept_from None from to keep needs = absurd needs
  kept_from (Some o) from to keep needs = keep needs

  keeps_at : (p from to : ℕ) (h : Held) → (p ≡ set → IsSomeAnd oldest (λ o. o ≤ from)) → set_at old.sets p ≡ Some h → KeepsAt new.sets p from to h
  keeps_at p from to h needs at = elim (cases_Bool (p == set)) [
    | inl b ↦ (let is : p ≡ set = eqb-true p set b in
        let there : set_at old.sets set ≡ Some h = ap (set_at old.sets) (sym is) ∙ at in
        let k = kept_from oldest from to (views from to) (needs is) h there in
        record {
          held = k.0;
          at = ap (set_at new.sets) is ∙ k.1;
          keeps = k.2;
          size = same_size (needed_from old.uses set oldest) h k.0 (trims.there ∙ ap (trimmed (needed_from old.uses set oldest)) there) k.1;
        })
    | inr b ↦ record { held = h; at = trims.others p (eqb-false p set b) ∙ at; keeps = λ can. (can, refl); size = refl }
  ]

  set_was : (p : ℕ) (h : Held) → set_at old.sets p ≡ Some h → sets_in old p ≡ h
  set_was p h at = ap (λ (x : Option Held). unwrap_or x no_set) at

  set_is : (p : ℕ) (h : Held) → set_at new.sets p ≡ Some h → sets_in new p ≡ h
  set_is p h at = ap (λ (x : Option Held). unwrap_or x no_set) at

  -- ---- transactions

  abbrev Needs : OpenTxn → Type 0
  Needs t = t.set ≡ set → IsSomeAnd oldest (λ o. o ≤ t.txn.base.from)

  txn_keeps : (t : OpenTxn) → Needs t → ReadsSet old.sets t → KeepsTxnView (sets_in old) (sets_in new) t
  txn_keeps t needs r =
      let k = keeps_at t.set t.txn.base.from t.txn.base.to r.held needs r.is_held in
      let before : sets_in old t.set ≡ r.held = set_was t.set r.held r.is_held in
      let after : sets_in new t.set ≡ k.held = set_is t.set k.held k.at in (
        subst (λ (h : Held). CanRead h t) (sym before) r.can,
        subst (λ (h : Held). KeepsView h (sets_in new t.set) t.txn.base.from t.txn.base.to) (sym before)
            (subst (λ (h : Held). KeepsView r.held h t.txn.base.from t.txn.base.to) (sym after) k.keeps),
      )

  txn_reads : (t : OpenTxn) → Needs t → ReadsSet old.sets t → ReadsSet new.sets t
  txn_reads t needs r =
      let k = keeps_at t.set t.txn.base.from t.txn.base.to r.held needs r.is_held in
      let now = k.keeps r.can in
      record { held = k.held; is_held = k.at; can = now.0; size = r.size ∙ ap (λ (ws : List Writes). view_size t.txn.base.entry.pages ws) (sym now.1) }

  pub txns_keep : (ts : List OpenTxn) → AllByRecursion Needs ts → AllByRecursion (ReadsSet old.sets) ts → AllByRecursion (KeepsTxnView (sets_in old) (sets_in new)) ts
  txns_keep [] needs all = tt
  txns_keep (t ∷ ts) needs all = (txn_keeps t needs.0 all.0, txns_keep ts needs.1 all.1)

  pub txns_read : (ts : List OpenTxn) → AllByRecursion Needs ts → AllByRecursion (ReadsSet old.sets) ts → AllByRecursion (ReadsSet new.sets) ts
  txns_read [] needs all = tt
  txns_read (t ∷ ts) needs all = (txn_reads t needs.0 all.0, txns_read ts needs.1 all.1)

  -- ---- uploads

  upload_needs : (s : upload.State) → oldest ≡ Some 0 → IsSomeAnd oldest (λ o. o ≤ s.base.from)
  upload_needs s is = subst (λ (x : Option ℕ). IsSomeAnd x (λ o. o ≤ s.base.from)) (sym is) (omega arith)

  upload_keeps : (seen : Seen) (at taken : ℕ) (s : upload.State) → (at ≡ set → oldest ≡ Some 0) → (u : UploadInForm seen old at taken s) → KeepsAt new.sets at s.base.from s.base.to u.held
  upload_keeps seen at taken s needs u = keeps_at at s.base.from s.base.to u.held (λ is. upload_needs s (needs is)) u.is_held

  upload_form : (seen : Seen) (at taken : ℕ) (s : upload.State) → (at ≡ set → oldest ≡ Some 0) → UploadInForm seen old at taken s → UploadInForm seen new at taken s
  upload_form seen at taken s needs u =
      let k = upload_keeps seen at taken s needs u in
      let now = k.keeps u.view.can in
      record {
        held = k.held;
        is_held = k.at;
        view = record {
          can = now.0;
          page_size = k.size ∙ u.view.page_size;
          of_view = subst (λ (ws : List Writes). IsViewOf s.base ws s.size s.touched) (sym now.1) u.view.of_view;
        };
        size = u.size;
        count = u.count;
      }

  upload_view : (seen : Seen) (at taken : ℕ) (s : upload.State) → (at ≡ set → oldest ≡ Some 0) → UploadInForm seen old at taken s → upload.view_in (sets_in new at) s.base ≡ upload.view_in (sets_in old at) s.base
  upload_view seen at taken s needs u =
      let k = upload_keeps seen at taken s needs u in
      ap (λ (h : Held). upload.view_in h s.base) (set_is at k.held k.at)
      ∙ (k.keeps u.view.can).1
      ∙ ap (λ (h : Held). upload.view_in h s.base) (sym (set_was at u.held u.is_held))

  -- ---- tasks

  abbrev NeedsAll : Job → Type 0
  NeedsAll j = is_upload_of set j ≡ true → oldest ≡ Some 0

  over_set : (at taken : ℕ) (t : PublishTask) → is_upload t ≡ true → NeedsAll (job.Publish at taken t) → at ≡ set → oldest ≡ Some 0
  over_set at taken t is needs same =
      needs (ap (λ (b : Bool). cond b (is_upload t) false) (subst (λ (k : ℕ). (at == k) ≡ true) same (eq-eqb at at refl)) ∙ is)

  view_form : (seen : Seen) (at taken : ℕ) (t : PublishTask) → NeedsAll (job.Publish at taken t) → ViewInForm seen old at taken t → ViewInForm seen new at taken t
  view_form seen at taken (task.Create c) needs is = tt
  view_form seen at taken (task.Copy id s) needs is = tt
  view_form seen at taken (task.Upload id s) needs is = upload_form seen at taken s (over_set at taken (task.Upload id s) refl needs) is
  view_form seen at taken (task.Cleanup id s) needs is = tt

  publish_form : (seen : Seen) (at taken : ℕ) (t : PublishTask) → NeedsAll (job.Publish at taken t) → PublishInForm seen old at taken t → PublishInForm seen new at taken t
  publish_form seen at taken t needs p = record {
    running = p.running;
    waits = subst (λ (k : Kept). PendingFor k.pending (pending_of taken t) (refused_of t)) (sym trims.kept) p.waits;
    again = p.again;
    upload = subst (λ (k : Kept). IfSome (upload_of taken t) (CanUpload k.locals)) (sym trims.kept) p.upload;
    view = view_form seen at taken t needs p.view;
  }

  pub done_same : (seen : Seen) (o : Open) (j : Job) → NeedsAll j → JobInForm seen old o j → done_by new j ≡ done_by old j
  done_same seen o (job.Fetch access txn page) needs is = refl
  done_same seen o job.Poll needs is = refl
  done_same seen o job.Resolve needs is = refl
  done_same seen o (job.Publish at taken (task.Create c)) needs is = refl
  done_same seen o (job.Publish at taken (task.Copy id s)) needs is = refl
  done_same seen o (job.Publish at taken (task.Upload id s)) needs is =
      ap (λ (ws : List Writes). job_of ws (task.Upload id s)) (upload_view seen at taken s (over_set at taken (task.Upload id s) refl needs) is.view)
  done_same seen o (job.Publish at taken (task.Cleanup id s)) needs is = refl

  -- without a transaction and its tasks
  pub job_form : (seen : Seen) (o rest : Open) (n : ℕ) (j : Job) → rest.txns ≡ without_txn n o.txns → is_fetch_for n j ≡ false → NeedsAll j → JobInForm seen old o j → JobInForm seen new rest j
  job_form seen o rest n (job.Fetch access txn page) less other needs is =
      subst (λ (x : Option OpenTxn). MatchOption x ⊥ (IsPageOf page)) (sym (ap (txn_at txn) less ∙ at_others n txn o.txns other)) is
  job_form seen o rest n job.Poll less other needs is = tt
  job_form seen o rest n (job.Publish at taken t) less other needs is = publish_form seen at taken t needs is
  job_form seen o rest n job.Resolve less other needs is = subst (λ (k : Kept). is_some k.pending ≡ true) (sym trims.kept) is
