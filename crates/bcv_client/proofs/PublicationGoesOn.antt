-- The step of a publication, whose task is put back where it goes on.
use Rattle.std.proofs.Common.{◌≡◌, ◌∙◌, ℕ, Bool, true, false, List, [], ◌∷◌, ◌++◌, map, Option, Some, refl, sym, ap, subst}
use Rattle.std.specs.List.{list_any}
use Rattle.bcv_base.specs.declared.id.Id16.{Id16}
use Rattle.bcv_base.specs.declared.log.Entry.{Entry}
use Rattle.bcv_base.specs.Drawn.{NamesShown}
use Rattle.bcv_base.specs.History.{history_of}
use Rattle.bcv_base.specs.Image.{Writes}
use Rattle.bcv_base.specs.Moments.{ClockShown}
use Rattle.bcv_clientlaws.specs.Different.{AtMostOne}
use Rattle.bcv_clientlaws.specs.OtherParts.{Includes}
use Rattle.bcv_clientlaws.specs.TaskLists.{with_task, with_tasks}
use Rattle.bcv_clientlaws.proofs.Lists.{map_append}
use Rattle.bcv_clientlaws.proofs.OtherParts.{task_fits_last}
use Rattle.bcv_clientlaws.proofs.TaskLists.{task_goes_on}
use Rattle.bcv_clientstate.specs.PartRefusals.{runs_publication}
use Rattle.bcv_clientstate.specs.Parts as parts
use Rattle.bcv_clientstate.specs.Parts.{mine_of}
use Rattle.bcv_clientstate.specs.SeenClient.{Free, seen_job, side_of}
use Rattle.bcv_databases.specs.Catalog.{Catalog}
use Rattle.bcv_disk.specs.DiskShown.{DiskShown, DiskTold}
use Rattle.bcv_machine.specs.State as m
use Rattle.bcv_machine.specs.Step.{StepsJob, give_back}
use Rattle.bcv_model.specs.declared.kept.PendingPub.{PendingPub}
use Rattle.bcv_model.specs.declared.reply.Reply.{Reply}
use Rattle.bcv_model.specs.declared.reply.Reply.TheVariants as reply
use Rattle.bcv_publication.specs.TaskSides.{job_of, seen_task}
use Rattle.bcv_slots.specs.declared.Slot.{Slot}
use Rattle.bcv_store.specs.StoreShown.{StoreShown, StoreTold}
use Rattle.bcv_tasks.specs.declared.publish_task.PublishTask.{PublishTask}
use Rattle.bcv_tasks.specs.declared.publish_task.PublishTask.TheVariants as task
use Rattle.bcv_client.specs.ClientForm.{JobInForm}
use Rattle.bcv_client.specs.ClientParts.{entries_of, parts_of}
use Rattle.bcv_client.specs.Events.{StandsOver, client_side, client_up}
use Rattle.bcv_client.specs.NewTasks.{is_busy}
use Rattle.bcv_client.specs.PublicationOver.{GoesOnOver, OnlyPublishes, StaysInForm, StepsTask, TaskFitsLog, publication_left, publication_of, publishing_part, view_at}
use Rattle.bcv_client.specs.Steps.{said_over}
use Rattle.bcv_client.specs.TaskCalls.{PublishesOver, is_working}
use Rattle.bcv_client.specs.TaskParts.{done_by, task_part}
use Rattle.bcv_client.specs.TaskTaken.{GivesBack}
use Rattle.bcv_client.specs.declared.client.Client.{Client}
use Rattle.bcv_client.specs.declared.job.Job.{Job}
use Rattle.bcv_client.specs.declared.job.Job.TheVariants as job
use Rattle.bcv_client.proofs.JobNames.{job_names_are_mine}
use Rattle.bcv_client.proofs.MyNames.{with_task_mine}
use Rattle.bcv_client.proofs.ReadsSaw.{saw_more, saw_same}
use Rattle.bcv_client.proofs.SameParts.{stands_with, tasks_alone}
use Rattle.bcv_client.proofs.TasksPut.{slot}
use Rattle.bcv_client.proofs.BusyTasks.{busy_jobs}
use Rattle.bcv_client.proofs.TasksStart.{one_last}

-- a publishing task's job is the machine's publication
pub job_is_seen : (waiting : Option PendingPub) (view : List Writes) (t : PublishTask) → seen_job waiting (job_of view t) ≡ m.Publishing (seen_task waiting view t)
job_is_seen waiting view (task.Create c) = refl
job_is_seen waiting view (task.Copy id s) = refl
job_is_seen waiting view (task.Upload id s) = refl
job_is_seen waiting view (task.Cleanup id s) = refl

-- ---- that it may be put back

-- nothing else publishes
pub quiet_still : {D : Type 0} {g : _} (old new : Client D g) → OnlyPublishes old new → runs_publication (parts_of old) ≡ false → runs_publication (parts_of new) ≡ false
quiet_still {D = D} {g = g} old new only quiet =
    busy_jobs new.ledger.databases new.tasks.items
    ∙ ap (λ x. list_any (λ (s : Slot Job). is_busy s.item) x.items) only.tasks
    ∙ sym (busy_jobs old.ledger.databases old.tasks.items) ∙ quiet

pub single_still : {D : Type 0} {g : _} (old new : Client D g) (j : Job) → OnlyPublishes old new → runs_publication (parts_of old) ≡ false
    → AtMostOne (map (task_part new.ledger.databases) (new.tasks.items ++ slot 0 j ∷ []))
single_still old new j only quiet = one_last new j (quiet_still old new only quiet)

-- where the reply says that it goes on, it is in form
pub in_form_on : {D : Type 0} {g : _} (c : Client D g) (set taken : ℕ) (r : Reply) (u : PublishTask) (b : Bool) → b ≡ is_working r → b ≡ true → StaysInForm c set taken r u
    → JobInForm c.seen c.ledger.databases c.txns (job.Publish set taken u)
in_form_on c set taken r u b is on stays = by r (sym is ∙ on) stays
  where
    by : (x : Reply) → is_working x ≡ true → StaysInForm c set taken x u → JobInForm c.seen c.ledger.databases c.txns (job.Publish set taken u)
    by (reply.Working left) e s = s
    by _ e s = absurd (let f : false ≡ true = e in cc)

-- ---- the client with the task

module _ {D : Type 0} {g : _} (shown : D → DiskShown) (mid new : Client D g) (n set taken : ℕ) (u : PublishTask) (back : GivesBack mid new n (job.Publish set taken u)) where
  abbrev c : Catalog
  c = mid.ledger.databases

  abbrev part : parts.Task
  part = publishing_part c n set taken u

  parts_back : parts_of new ≡ with_task part (parts_of mid)
  parts_back =
      tasks_alone mid new back.only
      ∙ ap (λ (ss : List (Slot Job)). with_tasks (map (task_part c) ss) (parts_of mid)) back.tasks
      ∙ ap (λ (ts : List parts.Task). with_tasks ts (parts_of mid)) (map_append (task_part c) mid.tasks.items (slot n (job.Publish set taken u) ∷ []))

  stands_back : (mine : List Id16) (log : List Entry) (f : Free) → StandsOver shown mid log f → TaskFitsLog mine mid.id c log n set taken u → StandsOver shown new log f
  stands_back mine log f stands fits =
      stands_with shown mid new log f (with_task part (parts_of mid)) back.only parts_back
      (task_fits_last mine log (parts_of mid) (entries_of mid) part stands.fits fits.fits fits.staged)
      (saw_same (history_of log) (mid.tasks.items ++ slot n (job.Publish set taken u) ∷ []) new.tasks.items back.tasks (saw_more (history_of log) mid.tasks.items (slot n (job.Publish set taken u)) stands.saw fits.saw)) stands

  -- the names of a task that fits are mine
  names_back : (mine : List Id16) (log : List Entry) → TaskFitsLog mine mid.id c log n set taken u → Includes mine (mine_of (parts_of mid)) → Includes mine (mine_of (parts_of new))
  names_back mine log fits all =
      subst (λ (p : parts.Parts). Includes mine (mine_of p)) (sym parts_back)
      (with_task_mine mine (parts_of mid) part all (job_names_are_mine mine mid.id c.kept log part.job fits.fits))

  side_back : (moment : ℕ) (log : List Entry) (f : Free) → client_side moment log new f ≡ give_back n (Some (publication_of c set u)) (client_side moment log mid f)
  side_back moment log f =
      ap (λ (p : parts.Parts). side_of moment (history_of log) p f) parts_back
      ∙ task_goes_on moment (history_of log) n (done_by c (job.Publish set taken u)) (publication_of c set u) (parts_of mid) f (job_is_seen c.kept.pending (view_at c set u) u)

-- ---- the step

-- what is put back where the task goes on, and nothing where it ended
abbrev pub BackWhere : {D : Type 0} {g : _} → Client D g → Client D g → ℕ → ℕ → ℕ → Reply → PublishTask → Type 0
BackWhere mid new n set taken (reply.Working left) u = GivesBack mid new n (job.Publish set taken u)
BackWhere mid new n set taken _ u = new ≡ mid

module _ {D : Type 0} {g : _} (told : DiskTold) (shown : D → DiskShown) (store : StoreTold) (before after : StoreShown) (names later_names : NamesShown) (clock later_clock : ClockShown)
    (old mid new : Client D g) (n set taken : ℕ) (t : PublishTask) (u : PublishTask) where
  abbrev q : m.Publication
  q = publication_of old.ledger.databases set t

  -- the machine's publication goes on, and is given back, or has ended
  record Back (mine : List Id16) (r : Reply) (log : List Entry) (f : Free) : Type 0 where
    stands : StandsOver shown new log f
    owns : Includes mine (mine_of (parts_of mid)) → Includes mine (mine_of (parts_of new))
    side : (moment : ℕ) → client_side moment log new f ≡ give_back n (publication_left mid.ledger.databases set r u) (client_side moment log mid f)

  goes_back : (mine : List Id16) (r : Reply) (log : List Entry) (f : Free) → BackWhere mid new n set taken r u → StandsOver shown mid log f
      → GoesOnOver mine mid.id mid.ledger.databases log n set taken r u → Back mine r log f
  goes_back mine (reply.Working left) log f back stands on = record {
    stands = stands_back shown mid new n set taken u back mine log f stands on;
    owns = names_back shown mid new n set taken u back mine log on;
    side = λ moment. side_back shown mid new n set taken u back moment log f;
  }
  goes_back mine _ log f back stands on = record {
    stands = subst (λ (c : Client D g). StandsOver shown c log f) (sym back) stands;
    owns = λ all. subst (λ (c : Client D g). Includes mine (mine_of (parts_of c))) (sym back) all;
    side = λ moment. ap (λ (c : Client D g). client_side moment log c f) back;
  }

  pub publishes : (r : Reply) → BackWhere mid new n set taken r u
      → StepsTask told shown store before after names later_names clock later_clock old mid set taken t r u
      → PublishesOver told shown store before after names later_names clock later_clock old new n set taken t r
  publishes r back steps = record {
    ids = steps.ids;
    drawn = steps.drawn;
    few = steps.few;
    at = steps.at;
    reads = steps.reads;
    over = λ tells disk moment mine f stands all draws unused at grew armed.
        let x = steps.over tells disk n moment mine f stands all draws unused.0 at grew armed in
        let o = x.over in
        let b : Back mine r after.log o.free = goes_back mine r after.log o.free back o.stands x.on in
        let log : List Entry = before.log ++ o.growth.others in
        record {
          growth = o.growth;
          free = o.free;
          stands = b.stands;
          names = b.owns o.names;
          flight = o.flight;
          event = λ is.
              let e = o.event is in
              record {
                made = e.made;
                request = e.request;
                planned = e.planned;
                unmade = e.unmade;
                cause = e.cause;
                goes = λ p under.
                    let step = e.goes p under in (
                      step.0,
                      subst (λ (j : m.Job). StepsJob j n (client_side moment log old f) (client_up log old) p (said_over log after.log r) step.0 (client_side moment after.log new o.free))
                          (sym (job_is_seen old.ledger.databases.kept.pending (view_at old.ledger.databases set t) t))
                          (client_side moment after.log mid o.free, publication_left mid.ledger.databases set r u, step.1, b.side moment),
                    );
              };
        };
  }

-- by what was tested
pub stays_where : {D : Type 0} {g : _} (mid : Client D g) (n set taken : ℕ) (r : Reply) (u : PublishTask) → is_working r ≡ false → BackWhere mid mid n set taken r u
stays_where mid n set taken (reply.Working left) u is = absurd (let e : true ≡ false = is in cc)
stays_where mid n set taken _ u is = refl

pub back_where : {D : Type 0} {g : _} (mid new : Client D g) (n set taken : ℕ) (r : Reply) (u : PublishTask) → is_working r ≡ true → GivesBack mid new n (job.Publish set taken u) → BackWhere mid new n set taken r u
back_where mid new n set taken (reply.Working left) u is back = back
back_where mid new n set taken _ u is back = absurd (let e : false ≡ true = is in cc)
