-- Sets that keep what the open transactions and the uploads see of them.
use Rattle.std.proofs.Common.{◌≡◌, ◌∙◌, ℕ, List, [], ◌∷◌, map, Option, unwrap_or, refl, sym, ap}
use Rattle.std.specs.List.{AllByRecursion}
use Rattle.bcv_base.specs.declared.seen.Seen.{Seen}
use Rattle.bcv_base.specs.Image.{Writes}
use Rattle.bcv_base.specs.Views.{view_size}
use Rattle.bcv_clientstate.specs.Parts as parts
use Rattle.bcv_databases.specs.Catalog.{Catalog}
use Rattle.bcv_databases.specs.Changes.{KeepsFrom}
use Rattle.bcv_databases.specs.Sound.{KeepsViews}
use Rattle.bcv_pages.specs.Held.{Held}
use Rattle.bcv_slots.specs.declared.Slot.{Slot}
use Rattle.bcv_tasks.specs.declared.publish_task.PublishTask.{PublishTask}
use Rattle.bcv_tasks.specs.declared.publish_task.PublishTask.TheVariants as task
use Rattle.bcv_transaction.specs.MachineCalls.{open_part}
use Rattle.bcv_transaction.specs.Open.{Open, view_in}
use Rattle.bcv_transaction.specs.declared.open_txn.OpenTxn.{OpenTxn}
use Rattle.bcv_upload.specs.State as upload
use Rattle.bcv_client.specs.ClientForm.{JobInForm, ReadsSet, ViewInForm}
use Rattle.bcv_client.specs.TaskParts.{done_by, no_set, sets_in, task_part}
use Rattle.bcv_client.specs.declared.job.Job.{Job}
use Rattle.bcv_client.specs.declared.job.Job.TheVariants as job

-- ---- views

-- what a transaction reads stays
abbrev pub KeepsTxn : List (Option Held) → List (Option Held) → OpenTxn → Type 0
KeepsTxn old new t = KeepsFrom old new t.set t.txn.base.from t.txn.base.to

-- what an upload takes stays
abbrev pub KeepsTask : List (Option Held) → List (Option Held) → ℕ → PublishTask → Type 0
KeepsTask old new set (task.Upload id s) = KeepsFrom old new set s.base.from s.base.to
KeepsTask old new set _ = Unit {0}

abbrev pub KeepsJob : List (Option Held) → List (Option Held) → Job → Type 0
KeepsJob old new (job.Publish set taken t) = KeepsTask old new set t
KeepsJob old new _ = Unit {0}

abbrev pub KeepsSlot : List (Option Held) → List (Option Held) → Slot Job → Type 0
KeepsSlot old new s = KeepsJob old new s.item

pub keeps_from : (old new : List (Option Held)) → KeepsViews old new → (set from to : ℕ) → KeepsFrom old new set from to
keeps_from old new keeps set from to = λ h is. (let k = keeps set h is in (k.0, k.1, k.2 from to))

pub keeps_then : (a b c : List (Option Held)) (set from to : ℕ) → KeepsFrom a b set from to → KeepsFrom b c set from to → KeepsFrom a c set from to
keeps_then a b c set from to first second = λ h is.
    (let k = first h is in
    let l = second k.0 k.1 in
    (l.0, l.1, λ can. (let x = k.2 can in let y = l.2 x.0 in (y.0, y.1 ∙ x.1))))

pub keeps_txns : (old new : List (Option Held)) → KeepsViews old new → (ts : List OpenTxn) → AllByRecursion (KeepsTxn old new) ts
keeps_txns old new keeps [] = tt
keeps_txns old new keeps (t ∷ ts) = (keeps_from old new keeps t.set t.txn.base.from t.txn.base.to, keeps_txns old new keeps ts)

pub both_keep : (a b c : List (Option Held)) (ts : List OpenTxn) → AllByRecursion (KeepsTxn a b) ts → AllByRecursion (KeepsTxn b c) ts → AllByRecursion (KeepsTxn a c) ts
both_keep a b c [] first second = tt
both_keep a b c (t ∷ ts) first second = (keeps_then a b c t.set t.txn.base.from t.txn.base.to first.0 second.0, both_keep a b c ts first.1 second.1)

keeps_task : (old new : List (Option Held)) → KeepsViews old new → (set : ℕ) (t : PublishTask) → KeepsTask old new set t
keeps_task old new keeps set (task.Create c) = tt
keeps_task old new keeps set (task.Copy id s) = tt
keeps_task old new keeps set (task.Upload id s) = keeps_from old new keeps set s.base.from s.base.to
keeps_task old new keeps set (task.Cleanup id s) = tt

keeps_job : (old new : List (Option Held)) → KeepsViews old new → (j : Job) → KeepsJob old new j
keeps_job old new keeps (job.Fetch access txn page) = tt
keeps_job old new keeps job.Poll = tt
keeps_job old new keeps (job.Publish set taken t) = keeps_task old new keeps set t
keeps_job old new keeps job.Resolve = tt

pub keeps_slots : (old new : List (Option Held)) → KeepsViews old new → (ss : List (Slot Job)) → AllByRecursion (KeepsSlot old new) ss
keeps_slots old new keeps [] = tt
keeps_slots old new keeps (s ∷ ss) = (keeps_job old new keeps s.item, keeps_slots old new keeps ss)

-- ---- transactions

pub reads_still : (old new : List (Option Held)) (t : OpenTxn) → ReadsSet old t → KeepsTxn old new t → ReadsSet new t
reads_still old new t reads keeps =
    let k = keeps reads.held reads.is_held in record {
      held = k.0;
      is_held = k.1;
      can = (k.2 reads.can).0;
      size = reads.size ∙ ap (view_size t.txn.base.entry.pages) (sym (k.2 reads.can).1);
    }

pub all_read_still : (old new : List (Option Held)) (ts : List OpenTxn) → AllByRecursion (ReadsSet old) ts → AllByRecursion (KeepsTxn old new) ts → AllByRecursion (ReadsSet new) ts
all_read_still old new [] reads keeps = tt
all_read_still old new (t ∷ ts) reads keeps = (reads_still old new t reads.0 keeps.0, all_read_still old new ts reads.1 keeps.1)

-- its view, of the set that stands at its place
abbrev part_by : OpenTxn → Option Held → parts.OpenTxn
part_by t o = record { number = t.number; txn = t.txn; view = view_in (unwrap_or o no_set) t }

pub txn_same : (c d : Catalog) (t : OpenTxn) → ReadsSet c.sets t → KeepsTxn c.sets d.sets t → open_part (sets_in d) t ≡ open_part (sets_in c) t
txn_same c d t reads keeps =
    let k = keeps reads.held reads.is_held in
    ap (part_by t) k.1
    ∙ ap (λ (ws : List Writes). record { number = t.number; txn = t.txn; view = ws }) (k.2 reads.can).1
    ∙ sym (ap (part_by t) reads.is_held)

pub txns_same : (c d : Catalog) (ts : List OpenTxn) → AllByRecursion (ReadsSet c.sets) ts → AllByRecursion (KeepsTxn c.sets d.sets) ts
    → map (open_part (sets_in d)) ts ≡ map (open_part (sets_in c)) ts
txns_same c d [] reads keeps = refl
txns_same c d (t ∷ ts) reads keeps =
    ap (λ (x : parts.OpenTxn). x ∷ map (open_part (sets_in d)) ts) (txn_same c d t reads.0 keeps.0)
    ∙ ap (λ (xs : List parts.OpenTxn). open_part (sets_in c) t ∷ xs) (txns_same c d ts reads.1 keeps.1)

-- ---- tasks

-- the job of an upload over the set that stands at its place
abbrev job_by : upload.State → Option Held → parts.Job
job_by s o = parts.Uploading s (upload.view_in (unwrap_or o no_set) s.base)

task_same : (c d : Catalog) (seen : Seen) (set taken : ℕ) (t : PublishTask) → ViewInForm seen c set taken t → KeepsTask c.sets d.sets set t
    → done_by d (job.Publish set taken t) ≡ done_by c (job.Publish set taken t)
task_same c d seen set taken (task.Create x) view keeps = refl
task_same c d seen set taken (task.Copy id s) view keeps = refl
task_same c d seen set taken (task.Upload id s) view keeps =
    let k = keeps view.held view.is_held in
    ap (job_by s) k.1 ∙ ap (parts.Uploading s) (k.2 view.view.can).1 ∙ sym (ap (job_by s) view.is_held)
task_same c d seen set taken (task.Cleanup id s) view keeps = refl

pub job_same : (c d : Catalog) (seen : Seen) (o : Open) (j : Job) → JobInForm seen c o j → KeepsJob c.sets d.sets j → done_by d j ≡ done_by c j
job_same c d seen o (job.Fetch access txn page) form keeps = refl
job_same c d seen o job.Poll form keeps = refl
job_same c d seen o (job.Publish set taken t) form keeps = task_same c d seen set taken t form.view keeps
job_same c d seen o job.Resolve form keeps = refl

pub tasks_same : (c d : Catalog) (seen : Seen) (o : Open) (ss : List (Slot Job)) → AllByRecursion (λ (s : Slot Job). JobInForm seen c o s.item) ss → AllByRecursion (KeepsSlot c.sets d.sets) ss
    → map (task_part d) ss ≡ map (task_part c) ss
tasks_same c d seen o [] form keeps = refl
tasks_same c d seen o (s ∷ ss) form keeps =
    ap (λ (x : parts.Job). record { number = s.number; job = x } ∷ map (task_part d) ss) (job_same c d seen o s.item form.0 keeps.0)
    ∙ ap (λ (xs : List parts.Task). task_part c s ∷ xs) (tasks_same c d seen o ss form.1 keeps.1)
