-- A client of which a publishing task was taken out, and that stands with it, may make the task's step.
use Rattle.std.proofs.Common.{◌≡◌, ◌∙◌, ◌-◌, ◌<◌, ◌^◌, ◌||◌, ℕ, Bool, true, false, is_none, List, [], ◌∷◌, ◌++◌, length, drop, Option, Some, None, unwrap_or, refl, sym, ap, subst, arith, length-drop}
use Rattle.std.specs.List.{AllByRecursion, flat_map, list_any}
use Rattle.std.proofs.lemmas.Bool.{false≢true, or_parts}
use Rattle.std.proofs.lemmas.List.{length-take}
use Rattle.std.proofs.lemmas.List.Folds.{list_any-append}
use Rattle.bcv_base.specs.declared.id.Id16.{Id16}
use Rattle.bcv_base.specs.declared.log.Entry.{Entry}
use Rattle.bcv_base.specs.History.{Item}
use Rattle.bcv_base.specs.Ids.{has_id, id_eq}
use Rattle.bcv_base.specs.Image.{Writes}
use Rattle.bcv_cache.specs.Entry as cache
use Rattle.bcv_clientlaws.specs.OtherParts.{Includes}
use Rattle.bcv_clientlaws.specs.TaskLists.{with_task}
use Rattle.bcv_clientlaws.proofs.OtherParts.{task_fits_last, tasks_fit}
use Rattle.bcv_clientstate.specs.Fits.{Fits, FitsTask}
use Rattle.bcv_clientstate.specs.PartRefusals.{is_publishing, runs_publication}
use Rattle.bcv_clientstate.specs.Parts as parts
use Rattle.bcv_clientstate.specs.Parts.{Creating, Copying, Uploading, Cleaning, Fetching, Polling, Resolving, Parts, Task, mine_of, names_of_job, names_of_pending}
use Rattle.bcv_clientstate.specs.SeenClient.{Free}
use Rattle.bcv_clientstate.specs.Stages.{IsStagedTask}
use Rattle.bcv_databases.specs.Catalog.{Catalog}
use Rattle.bcv_disk.specs.DiskShown.{DiskShown}
use Rattle.bcv_ledger.specs.Begins.{WaitsFor}
use Rattle.bcv_model.specs.declared.kept.Kept.{Kept}
use Rattle.bcv_model.specs.declared.kept.PendingPub.{PendingPub}
use Rattle.bcv_pages.specs.Held.{CanView, Held, view_of}
use Rattle.bcv_publication.specs.PutSides.{IsQuiet}
use Rattle.bcv_publication.specs.TaskSides.{MayStep, job_of, with_job}
use Rattle.bcv_slots.specs.declared.Slot.{Slot}
use Rattle.bcv_tasks.specs.declared.publish_task.PublishTask.{PublishTask}
use Rattle.bcv_tasks.specs.declared.publish_task.PublishTask.TheVariants as task
use Rattle.bcv_tasks.specs.State.{IsRunning, is_ready, pending_of, refused_of, writer_of}
use Rattle.bcv_client.specs.ClientForm.{PendingFor, PublishInForm, ViewInForm}
use Rattle.bcv_client.specs.ClientParts.{entries_of, parts_of, sets_in}
use Rattle.bcv_client.specs.Events.{SawItsReads}
use Rattle.bcv_client.specs.NewTasks.{is_busy}
use Rattle.bcv_client.specs.PublicationOver.{StandsWith, mine_with, publishing_part, view_at}
use Rattle.bcv_client.specs.TaskParts.{no_set}
use Rattle.bcv_client.specs.declared.client.Client.{Client}
use Rattle.bcv_client.specs.declared.job.Job.{Job}
use Rattle.bcv_client.specs.declared.job.Job.TheVariants as job

-- ---- lists of tasks

all_front : {A : Type 0} → (P : A → Type 0) (xs : List A) (y : A) → AllByRecursion P (xs ++ y ∷ []) → AllByRecursion P (y ∷ xs)
all_front {A = A} P xs y all = (last xs all, front xs all)
  where
    last : (xs : List A) → AllByRecursion P (xs ++ y ∷ []) → P y
    last [] all = all.0
    last (x ∷ xs) all = last xs all.1

    front : (xs : List A) → AllByRecursion P (xs ++ y ∷ []) → AllByRecursion P xs
    front [] all = tt
    front (x ∷ xs) all = (all.0, front xs all.1)

pub quiet_jobs : (ts : List Task) → list_any (λ (t : Task). is_publishing t.job) ts ≡ false → AllByRecursion (λ (t : Task). IsQuiet t.job) ts
quiet_jobs [] quiet = tt
quiet_jobs (t ∷ ts) quiet =
    let q = or_parts (is_publishing t.job) (list_any (λ (x : Task). is_publishing x.job) ts) quiet in (by t.job q.0, quiet_jobs ts q.1)
  where
    by : (j : parts.Job) → is_publishing j ≡ false → IsQuiet j
    by (Fetching access txn page) is = tt
    by Polling is = tt
    by (Creating block retention id) is = absurd (let both : true ≡ false = is in cc)
    by (Copying s) is = absurd (let both : true ≡ false = is in cc)
    by (Uploading s view) is = absurd (let both : true ≡ false = is in cc)
    by (Cleaning s) is = absurd (let both : true ≡ false = is in cc)
    by Resolving is = tt

-- what tasks that publish nothing read before refused puts
pub quiet_saw : (past : List Item) (ss : List (Slot Job)) → list_any (λ (s : Slot Job). is_busy s.item) ss ≡ false → AllByRecursion (λ (s : Slot Job). SawItsReads past s.item) ss
quiet_saw past [] quiet = tt
quiet_saw past (s ∷ ss) quiet =
    let q = or_parts (is_busy s.item) (list_any (λ (x : Slot Job). is_busy x.item) ss) quiet in (by s.item q.0, quiet_saw past ss q.1)
  where
    by : (j : Job) → is_busy j ≡ false → SawItsReads past j
    by (job.Fetch access txn page) is = tt
    by job.Poll is = tt
    by (job.Publish set taken t) is = absurd (let both : true ≡ false = is in cc)
    by job.Resolve is = tt

-- the names of tasks are the same, whether one is the first or the last
abbrev names_in : List Task → List Id16
names_in ts = flat_map (λ (t : Task). names_of_job t.job) ts

last_names : (i : Id16) (ts : List Task) (t : Task) → has_id i (names_in (ts ++ t ∷ [])) ≡ (has_id i (names_in ts) || has_id i (names_of_job t.job))
last_names i [] t = list_any-append (λ (x : Id16). id_eq x i) (names_of_job t.job) [] ∙ or_none (has_id i (names_of_job t.job))
  where
    or_none : (b : Bool) → (b || false) ≡ b
    or_none true = refl
    or_none false = refl
last_names i (x ∷ ts) t =
    list_any-append (λ (y : Id16). id_eq y i) (names_of_job x.job) (names_in (ts ++ t ∷ []))
    ∙ ap (λ (b : Bool). has_id i (names_of_job x.job) || b) (last_names i ts t)
    ∙ or_again (has_id i (names_of_job x.job)) (has_id i (names_in ts)) (has_id i (names_of_job t.job))
    ∙ ap (λ (b : Bool). b || has_id i (names_of_job t.job)) (sym (list_any-append (λ (y : Id16). id_eq y i) (names_of_job x.job) (names_in ts)))
  where
    or_again : (a b c : Bool) → (a || (b || c)) ≡ ((a || b) || c)
    or_again true b c = refl
    or_again false b c = refl

or_turned : (a b : Bool) → (a || b) ≡ (b || a)
or_turned true true = refl
or_turned true false = refl
or_turned false true = refl
or_turned false false = refl

names_turned : (i : Id16) (ts : List Task) (t : Task) → has_id i (names_in (t ∷ ts)) ≡ has_id i (names_in (ts ++ t ∷ []))
names_turned i ts t =
    list_any-append (λ (x : Id16). id_eq x i) (names_of_job t.job) (names_in ts) ∙ or_turned (has_id i (names_of_job t.job)) (has_id i (names_in ts)) ∙ sym (last_names i ts t)

-- the client's names with the task as the first are those with it as the last
pub mine_turned : (mine : List Id16) (p : Parts) (t : Task) → Includes mine (mine_of (with_task t p)) → Includes mine (mine_of (record p { tasks = t ∷ p.tasks }))
mine_turned mine p t all i h =
    all i
    (ap (λ (b : Bool). id_eq p.id i || b)
    (list_any-append (λ (x : Id16). id_eq x i) (names_of_pending p.kept.pending) (names_in (p.tasks ++ t ∷ []))
    ∙ ap (λ (b : Bool). has_id i (names_of_pending p.kept.pending) || b) (sym (names_turned i p.tasks t))
    ∙ sym (list_any-append (λ (x : Id16). id_eq x i) (names_of_pending p.kept.pending) (names_in (t ∷ p.tasks))))
    ∙ h)

-- ---- the client with the task

pub fits_first : (mine : List Id16) (log : List Entry) (p : Parts) (entries : List cache.Entry) (t : Task) → Fits p entries log → FitsTask mine p.id p.kept log t → IsStagedTask t
    → Fits (record p { tasks = t ∷ p.tasks }) entries log
fits_first mine log p entries t fits task_fits staged =
    let whole : Fits (with_task t p) entries log = task_fits_last mine log p entries t fits task_fits staged in
    tasks_fit (mine_of (with_task t p)) log (with_task t p) entries (t ∷ p.tasks) whole
    (all_front (FitsTask (mine_of (with_task t p)) p.id p.kept log) p.tasks t whole.tasks) (all_front IsStagedTask p.tasks t whole.staged)

-- ---- the task

-- what is pending is the task's
pub waits_for : (w : Option PendingPub) (x : PendingPub) (ns : List ℕ) → PendingFor w x ns → WaitsFor w x
waits_for None x ns waits = tt
waits_for (Some p) x [] waits = absurd waits
waits_for (Some p) x (n ∷ ns) waits = waits

-- a view that may be asked for has so many commits
viewed : (h : Held) (from to : ℕ) → CanView h from to → length (view_of h from to) ≡ to - from
viewed h from to can =
    omega (arith, length-take (to - from) (drop (from - h.forgotten) h.kept), length-drop (from - h.forgotten) h.kept, can.kept, can.order, can.there)

module _ (c : Catalog) (set taken : ℕ) where
  -- what would be pending of it does not hang on how its commits are counted
  pub counted : (seen : _) (t : PublishTask) → ViewInForm seen c set taken t → pending_of (length (view_at c set t)) t ≡ pending_of taken t
  counted seen (task.Create x) form = refl
  counted seen (task.Copy id s) form = refl
  counted seen (task.Upload id s) form =
      let is : sets_in c set ≡ form.held = ap (λ (x : Option Held). unwrap_or x no_set) form.is_held in
      ap (λ (k : ℕ). pending_of k (task.Upload id s))
      (ap (λ (h : Held). length (view_of h s.base.from s.base.to)) is ∙ viewed form.held s.base.from s.base.to form.view.can ∙ sym form.count)
  counted seen (task.Cleanup id s) form = refl

  pub few_commits : (seen : _) (t : PublishTask) → taken < 2 ^ 64 → ViewInForm seen c set taken t → length (view_at c set t) < 2 ^ 64
  few_commits seen (task.Create x) few form = omega arith
  few_commits seen (task.Copy id s) few form = omega arith
  few_commits seen (task.Upload id s) few form =
      let is : sets_in c set ≡ form.held = ap (λ (x : Option Held). unwrap_or x no_set) form.is_held in
      let count : length (view_at c set (task.Upload id s)) ≡ taken =
      ap (λ (h : Held). length (view_of h s.base.from s.base.to)) is ∙ viewed form.held s.base.from s.base.to form.view.can ∙ sym form.count
      in
      subst (λ (k : ℕ). k < 2 ^ 64) (sym count) few
  few_commits seen (task.Cleanup id s) few form = omega arith

-- a task that fits is the client's; a create says so in its form alone
writes : (mine : List Id16) (writer : Id16) (k : Kept) (log : List Entry) (c : Catalog) (n set taken : ℕ) (t : PublishTask) → IsRunning t → is_ready t ≡ false
    → FitsTask mine writer k log (publishing_part c n set taken t) → writer_of t ≡ writer
writes mine writer k log c n set taken (task.Create x) running not_ready fits = absurd (false≢true (sym not_ready ∙ ap is_none running.waits))
writes mine writer k log c n set taken (task.Copy id s) running not_ready fits = fits.1.same_writer
writes mine writer k log c n set taken (task.Upload id s) running not_ready fits = fits.1.same_writer
writes mine writer k log c n set taken (task.Cleanup id s) running not_ready fits = fits.1.same_writer

-- ---- the whole

module _ {D : Type 0} {g : _} (shown : D → DiskShown) (c : Client D g) (n set taken : ℕ) (t : PublishTask) (log : List Entry) (f : Free) (stands : StandsWith shown c n set taken t log f)
    (form : PublishInForm c.seen c.ledger.databases set taken t) (quiet : runs_publication (parts_of c) ≡ false) (few : taken < 2 ^ 64) where
  abbrev view : List Writes
  view = view_at c.ledger.databases set t

  -- the task's step may be made, over the entries that are cached
  pub may_step : is_ready t ≡ false → MayStep log (parts_of c) (entries_of c) n view t
  may_step not_ready = record {
    sound = stands.stands.sound;
    fits = fits_first (mine_with c n set taken t) log (parts_of c) (entries_of c) (publishing_part c.ledger.databases n set taken t) stands.stands.fits stands.task.fits stands.task.staged;
    quiet = quiet_jobs (parts_of c).tasks quiet;
    running = form.running;
    writer = writes (mine_with c n set taken t) c.id c.ledger.databases.kept log c.ledger.databases n set taken t form.running not_ready stands.task.fits;
    waits =
        subst (λ (x : PendingPub). WaitsFor c.ledger.databases.kept.pending x) (sym (counted c.ledger.databases set taken c.seen t form.view))
        (waits_for c.ledger.databases.kept.pending (pending_of taken t) (refused_of t) form.waits);
    count = few_commits c.ledger.databases set taken c.seen t few form.view;
  }

  -- the client's names with the task in front
  pub names_in_front : (mine : List Id16) → Includes mine (mine_with c n set taken t) → Includes mine (mine_of (with_job n (job_of view t) (parts_of c)))
  names_in_front mine all = mine_turned mine (parts_of c) (publishing_part c.ledger.databases n set taken t) all
