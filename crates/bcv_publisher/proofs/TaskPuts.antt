-- A publishing task may be put by a client that stands over a log, and goes on where its put is refused.
use Rattle.std.proofs.Common.{◌≡◌, ◌∙◌, ◌<◌, ℕ, true, false, List, length, Option, Some, IfSome, refl, sym, ap, subst}
use Rattle.bcv_base.specs.declared.id.Id16.{Id16}
use Rattle.bcv_base.specs.declared.log.Entry.{Entry}
use Rattle.bcv_base.specs.declared.seen.Latest.{Latest}
use Rattle.bcv_base.specs.History.{history_of}
use Rattle.bcv_base.specs.Ids.{has_id}
use Rattle.bcv_base.specs.Image.{Writes}
use Rattle.bcv_base.specs.Keyed.{keyed}
use Rattle.bcv_cache.specs.Entry as cache
use Rattle.bcv_dbmap.specs.Kept.{IsKept}
use Rattle.bcv_dbmap.specs.Past.{has_version}
use Rattle.bcv_model.specs.declared.kept.Kept.{Kept}
use Rattle.bcv_model.specs.declared.kept.Local.{Local}
use Rattle.bcv_model.specs.Notes.{kept_name}
use Rattle.bcv_publish.specs.ManifestPut.{refused_once}
use Rattle.bcv_tasks.specs.declared.publish_task.PublishTask.{PublishTask}
use Rattle.bcv_tasks.specs.declared.publish_task.PublishTask.TheVariants as task
use Rattle.bcv_tasks.specs.declared.put_answer.PutAnswer.TheVariants as answer
use Rattle.bcv_tasks.specs.State.{IsRunning, is_ready, latest_of, refused_of}
use Rattle.bcv_tasks.specs.TaskPut.{MayPut, PutLeaves, with_refused}
use Rattle.bcv_clientstate.specs.Fits.{FitsJob, TakesFrom}
use Rattle.bcv_clientstate.specs.Parts.{Job, Parts, mine_of, names_of_job}
use Rattle.bcv_clientstate.specs.Stages.{IsStagedJob}
use Rattle.bcv_clientstate.proofs.Stages.{refused_is_staged, refused_is_swept}
use Rattle.bcv_clientlaws.specs.OtherParts.{Includes}
use Rattle.bcv_clientlaws.specs.PublishTasks as laws
use Rattle.bcv_clientlaws.proofs.OtherParts.{client_is_mine, in_front, names_suffice, tasks_are_mine}
use Rattle.bcv_clientlaws.proofs.TasksPut.{refused_task_fits}
use Rattle.bcv_publication.specs.TaskSides.{MayStep, job_of, with_job}

-- the job that a task is, of the names that are mine
pub own_job : (mine : List Id16) (log : List Entry) (p : Parts) (entries : List cache.Entry) (n : ℕ) (view : List Writes) (t : PublishTask) → Includes mine (mine_of (with_job n (job_of view t) p))
    → MayStep log p entries n view t → FitsJob mine p.id p.kept log (job_of view t)
own_job mine log p entries n view t all may =
    let whole : Parts = with_job n (job_of view t) p in
    names_suffice (mine_of whole) mine p.id p.kept log (job_of view t) may.fits.tasks.0 (all p.id (client_is_mine whole))
    (λ i h. all i (in_front (mine_of whole) (names_of_job (job_of view t)) _ (tasks_are_mine whole) i h))

-- a task may be put by a client that stands over a log
pub may_put : (mine : List Id16) (log : List Entry) (p : Parts) (entries : List cache.Entry) (n : ℕ) (view : List Writes) (t : PublishTask) → Includes mine (mine_of (with_job n (job_of view t) p))
    → MayStep log p entries n view t → MayPut mine log view t
may_put mine log p entries n view (task.Create c) all may =
    let job = own_job mine log p entries n view (task.Create c) all may in
    record {
      kept = subst (λ (o : Option Latest). IfSome o (IsKept log)) (sym may.running.waits) tt;
      writer = subst (λ (i : Id16). has_id i mine ≡ true) (sym may.writer) job.3;
      id = job.2;
      fresh = job.4;
      owns = tt;
    }
may_put mine log p entries n view (task.Copy id s) all may =
    let job = own_job mine log p entries n view (task.Copy id s) all may in
    record {
      kept = job.1.read;
      writer = subst (λ (i : Id16). has_id i mine ≡ true) (sym job.1.same_writer) job.1.writer_is_mine;
      id = subst (λ (i : Id16). has_id i mine ≡ true) (sym may.running.0) job.1.is_mine;
      fresh = subst (λ (i : Id16). has_version (history_of log) i ≡ false) (sym may.running.0) job.1.fresh;
      owns = job.2;
    }
may_put mine log p entries n view (task.Upload id s) all may =
    let job = own_job mine log p entries n view (task.Upload id s) all may in
    record {
      kept = job.1.read;
      writer = subst (λ (i : Id16). has_id i mine ≡ true) (sym job.1.same_writer) job.1.writer_is_mine;
      id = subst (λ (i : Id16). has_id i mine ≡ true) (sym may.running.0) job.1.is_mine;
      fresh = subst (λ (i : Id16). has_version (history_of log) i ≡ false) (sym may.running.0) job.1.fresh;
      owns = job.2;
    }
may_put mine log p entries n view (task.Cleanup id s) all may =
    let job = own_job mine log p entries n view (task.Cleanup id s) all may in
    record {
      kept = job.1.read;
      writer = subst (λ (i : Id16). has_id i mine ≡ true) (sym job.1.same_writer) job.1.writer_is_mine;
      id = subst (λ (i : Id16). has_id i mine ≡ true) (sym may.running.0) job.1.is_mine;
      fresh = subst (λ (i : Id16). has_version (history_of log) i ≡ false) (sym may.running.0) job.1.fresh;
      owns = job.2;
    }

-- ---- a task that goes on

same_job : (view : List Writes) (t : PublishTask) → laws.job_of view t ≡ job_of view t
same_job view (task.Create c) = refl
same_job view (task.Copy id s) = refl
same_job view (task.Upload id s) = refl
same_job view (task.Cleanup id s) = refl

-- a task asks nothing of what is kept but its database's commits
pub same_locals : (mine : List Id16) (writer : Id16) (k j : Kept) (log : List Entry) (view : List Writes) (t : PublishTask) → j.locals ≡ k.locals
    → FitsJob mine writer k log (job_of view t) → FitsJob mine writer j log (job_of view t)
same_locals mine writer k j log view (task.Create c) same fits = fits
same_locals mine writer k j log view (task.Copy id s) same fits = fits
same_locals mine writer k j log view (task.Upload id s) same fits =
    let taken : TakesFrom k s.base.entry.name s.base.number view = fits.6 in
    let still : TakesFrom j s.base.entry.name s.base.number view = record {
      local = taken.local;
      is_local = ap (λ (ls : List Local). keyed kept_name s.base.entry.name ls) same ∙ taken.is_local;
      base = taken.base;
      first = taken.first;
      some = taken.some;
    } in (fits.0, fits.1, fits.2, fits.3, fits.4, fits.5, still)
same_locals mine writer k j log view (task.Cleanup id s) same fits = fits

pub refused_fits_on : (mine : List Id16) (writer : Id16) (k : Kept) (log : List Entry) (view : List Writes) (moment : ℕ) (t u : PublishTask) → FitsJob mine writer k log (job_of view t)
    → PutLeaves moment t answer.Refused u → IsRunning u → FitsJob mine writer k log (job_of view u)
refused_fits_on mine writer k log view moment t u fits leaves run =
    subst (λ (j : Job). FitsJob mine writer k log j) (same_job view u)
    (refused_task_fits mine writer k log view moment t u (subst (λ (j : Job). FitsJob mine writer k log j) (sym (same_job view t)) fits) leaves run)

-- what a refused put leaves is at a stage
staged : (view : List Writes) (moment : ℕ) (t : PublishTask) (read : Latest) → IsRunning t → is_ready t ≡ true → latest_of t ≡ Some read → length (refused_of t) < 7
    → IsStagedJob (job_of view (with_refused t read))
staged view moment (task.Create c) read run ready kept few = tt
staged view moment (task.Copy id s) read run ready kept few = tt
staged view moment (task.Upload id s) read run ready kept few =
    refused_is_staged moment s (record s { publish = refused_once s.publish read; published = false }) read ready kept (refused_once s.publish read, (few, refl), refl)
staged view moment (task.Cleanup id s) read run ready kept few =
    refused_is_swept moment s (record s { publish = refused_once s.publish read; published = false }) read run.1 kept (refused_once s.publish read, (few, refl), refl)

pub refused_is_at_stage : (view : List Writes) (moment : ℕ) (t u : PublishTask) → IsRunning t → is_ready t ≡ true → PutLeaves moment t answer.Refused u → IsStagedJob (job_of view u)
refused_is_at_stage view moment t u run ready leaves =
    let down = leaves.1.1 in
    subst (λ (y : PublishTask). IsStagedJob (job_of view y)) (sym down.becomes) (staged view moment t down.read run ready down.kept leaves.0)
