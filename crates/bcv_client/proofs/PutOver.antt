-- The put of a task over a client is one request of the machine.
use Rattle.std.proofs.Common.{◌≡◌, ◌∙◌, ◌≤◌, ◌<◌, ◌^◌, ℕ, Bool, true, false, List, [], ◌++◌, inl, inr, map, Option, Some, None, IfSome, MatchOption, unwrap_or, refl, sym, ap, subst, arith}
use Rattle.std.specs.List.{AllByRecursion, list_any}
use Rattle.bcv_base.specs.declared.id.Id16.{Id16}
use Rattle.bcv_base.specs.declared.manifest.Manifest.{Manifest}
use Rattle.bcv_base.specs.declared.seen.Latest.{Latest}
use Rattle.bcv_base.specs.declared.seen.Seen.{Seen}
use Rattle.bcv_base.specs.History.{Item, count_of, history_of}
use Rattle.bcv_base.specs.Drawn.{NamesShown}
use Rattle.bcv_base.specs.Image.{Writes}
use Rattle.bcv_base.specs.Moments.{ClockShown}
use Rattle.bcv_clientlaws.specs.OtherParts.{Includes, with_latest}
use Rattle.bcv_clientlaws.proofs.ManifestsRead.{number_within}
use Rattle.bcv_clientlaws.proofs.OtherParts.{latest_fits}
use Rattle.bcv_clientlog.specs.declared.log.ClientLog.{ClientLog}
use Rattle.bcv_clientlog.specs.LogParts.{is_shut}
use Rattle.bcv_clientstate.specs.Fits.{Fits, FitsJob, FitsSeen}
use Rattle.bcv_clientstate.specs.Journaled.{Journaled}
use Rattle.bcv_clientstate.specs.PartRefusals.{runs_publication}
use Rattle.bcv_clientstate.specs.Parts.{Parts, Task, mine_of, names_of_job, names_of_pending, with_ledger}
use Rattle.bcv_clientstate.specs.Parts as parts
use Rattle.bcv_clientstate.specs.SeenClient.{Free, seen_up, side_of}
use Rattle.bcv_clientstate.specs.Stages.{IsStagedTask}
use Rattle.bcv_databases.specs.Catalog.{Catalog}
use Rattle.bcv_databases.specs.Sound.{KeepsViews}
use Rattle.bcv_databases.specs.declared.known.Known.{Known}
use Rattle.bcv_dbmap.specs.Kept.{IsKept}
use Rattle.bcv_dbmap.specs.Outlived.{IsPublished}
use Rattle.bcv_dbmap.specs.Sound.{Sound}
use Rattle.bcv_dbmap.proofs.KeptLaws.{kept_published}
use Rattle.bcv_disk.specs.DiskShown.{DiskShown, DiskTold}
use Rattle.bcv_ledger.specs.declared.ledger.Ledger.{Ledger}
use Rattle.bcv_ledger.specs.Begins.{WaitsFor}
use Rattle.bcv_ledger.specs.LedgerNotes.{parts_in}
use Rattle.bcv_machine.specs.State as m
use Rattle.bcv_model.specs.declared.kept.Kept.{Kept}
use Rattle.bcv_model.specs.declared.kept.PendingPub.{PendingPub}
use Rattle.bcv_model.specs.declared.reply.Reply.{Reply}
use Rattle.bcv_model.specs.declared.reply.Reply.TheVariants as reply
use Rattle.bcv_pages.specs.Held.{Held}
use Rattle.bcv_publication.specs.TaskSides.{MayStep, job_of, seen_task}
use Rattle.bcv_publish.specs.ManifestRead.{is_other}
use Rattle.bcv_publisher.specs.PollStep.{seen_with}
use Rattle.bcv_publisher.specs.PutNotes.{FitsAfter, FitsOn, PublishedIsKept}
use Rattle.bcv_publisher.specs.PutStep.{GoesOn, MayPutManifest, MayWait, PutSays, PutStepLeaves, kept_waiting, rest_of}
use Rattle.bcv_publisher.specs.WorkStep.{IsEvent}
use Rattle.bcv_slots.specs.declared.Slot.{Slot}
use Rattle.bcv_store.specs.StoreShown.{StoreShown, StoreTold}
use Rattle.bcv_tasks.specs.declared.publish_task.PublishTask.{PublishTask}
use Rattle.bcv_tasks.specs.declared.publish_task.PublishTask.TheVariants as task
use Rattle.bcv_tasks.specs.State.{id_of, is_ready, latest_of, pending_of, refused_of, writer_of}
use Rattle.bcv_tasks.specs.TaskPut.{with_refused}
use Rattle.bcv_transaction.specs.MachineCalls.{open_part}
use Rattle.bcv_transaction.specs.Open.{Open}
use Rattle.bcv_upload.specs.State as upload
use Rattle.bcv_client.specs.ClientForm.{IsInForm, PublishInForm, ViewInForm}
use Rattle.bcv_client.specs.ClientParts.{entries_of, parts_of}
use Rattle.bcv_client.specs.Events.{IsArmed, SawItsReads, StandsOver}
use Rattle.bcv_client.specs.LocalWrites.{TrimsWhere}
use Rattle.bcv_client.specs.NewTasks.{is_busy}
use Rattle.bcv_client.specs.PublicationOver.{GoesOnOver, PublicationOver, StandsWith, StepsOnce, mine_with, publication_left, publication_of, publishing_part, view_at}
use Rattle.bcv_client.specs.PublicationPut.{PutsAt, SeesWhere, says_made, seen_made, set_uploaded}
use Rattle.bcv_client.specs.Steps.{said_over}
use Rattle.bcv_client.specs.TaskParts.{entries_in, no_set, sets_in, task_part}
use Rattle.bcv_client.specs.declared.client.Client.{Client}
use Rattle.bcv_client.specs.declared.job.Job.{Job}
use Rattle.bcv_client.proofs.BusyTasks.{busy_jobs}
use Rattle.bcv_client.proofs.Flights.{step_flies}
use Rattle.bcv_client.proofs.MyNames.{id_mine, named_by, none_flies, none_mine, one_mine, pending_by, pending_was, publication_mine, task_is_mine, tasks_by, tasks_were, without_task_mine}
use Rattle.bcv_client.proofs.PutForm.{txns_kept}
use Rattle.bcv_client.proofs.ResolveOver.{armed}
use Rattle.bcv_client.proofs.Reverts.{SameLedger, same_ledger}
use Rattle.bcv_client.proofs.RevertForm.{quiet_slots}
use Rattle.bcv_client.proofs.SetViews.{tasks_same, txns_same}
use Rattle.bcv_client.proofs.TaskStands.{counted, few_commits, fits_first, mine_turned, quiet_jobs, quiet_saw, waits_for}

-- ---- the view

-- it stays
view_same : (seen : Seen) (c d : Catalog) (set taken : ℕ) (t : PublishTask) → KeepsViews c.sets d.sets → ViewInForm seen c set taken t → view_at d set t ≡ view_at c set t
view_same seen c d set taken (task.Create x) views view = refl
view_same seen c d set taken (task.Copy id s) views view = refl
view_same seen c d set taken (task.Upload id s) views view =
    let k = views set view.held view.is_held in
    ap (λ (o : Option Held). upload.view_in (unwrap_or o no_set) s.base) k.1
    ∙ (k.2 s.base.from s.base.to view.view.can).1
    ∙ sym (ap (λ (o : Option Held). upload.view_in (unwrap_or o no_set) s.base) view.is_held)
view_same seen c d set taken (task.Cleanup id s) views view = refl

view_refused : (c : Catalog) (set : ℕ) (t : PublishTask) (read : Latest) → view_at c set (with_refused t read) ≡ view_at c set t
view_refused c set (task.Create x) read = refl
view_refused c set (task.Copy id s) read = refl
view_refused c set (task.Upload id s) read = refl
view_refused c set (task.Cleanup id s) read = refl

-- ---- what was seen

seen_with_fits : (past : List Item) (s : Seen) (m : Manifest) → Sound past → IsPublished m past → FitsSeen past s → FitsSeen past (seen_with s m)
seen_with_fits past s m sound there fits =
    let within : m.number ≤ count_of past = number_within past m sound there in
    let seen : s.number ≤ count_of past = fits.number in
    record { block = (m, there, refl); number = omega (arith, within, seen) }

-- ---- the step

module _ {D : Type 0} {g : _} (told : DiskTold) (shown : D → DiskShown) (store : StoreTold) (before after : StoreShown) (old new : Client D g) (set taken : ℕ) (t : PublishTask) (moment : ℕ) (r : Reply) (u : PublishTask)
    (step : PutsAt told shown store before after old new set taken t moment r u) (form : IsInForm old.seen old.ledger.databases old.txns old.tasks.items) (own : PublishInForm old.seen old.ledger.databases set taken t)
    (ready : is_ready t ≡ true) (alone : runs_publication (parts_of old) ≡ false) (small : taken < 2 ^ 64) where
  abbrev p : Parts
  p = parts_of old

  abbrev c : Catalog
  c = old.ledger.databases

  abbrev d : Catalog
  d = new.ledger.databases

  abbrev mid : Ledger D g
  mid = step.mid

  abbrev view : List Writes
  view = view_at c set t

  same : SameLedger mid new.ledger
  same = same_ledger mid new.ledger old.txns step.views

  none_busy : list_any (λ (s : Slot Job). is_busy s.item) old.tasks.items ≡ false
  none_busy = sym (busy_jobs c old.tasks.items) ∙ alone

  -- ---- the parts afterwards

  -- what the put leaves, but for what was seen and read
  abbrev left : Parts
  left = with_ledger (parts_in mid) p

  sets_keep : map (open_part (sets_in d)) old.txns.txns ≡ map (open_part (sets_in c)) old.txns.txns
  sets_keep = txns_same c d old.txns.txns form.txns (txns_kept c.sets mid new.ledger old.txns step.puts.views step.views)

  abbrev parts_put : Id16 → Option Latest → Open → List (Slot Job) → Parts
  parts_put id latest o tasks = record {
    id = id;
    closed = is_shut new.ledger.log;
    seen = new.seen;
    latest = latest;
    kept = d.kept;
    known = d.known;
    txns = map (open_part (sets_in d)) o.txns;
    tasks = map (task_part d) tasks;
  }

  parts_after : parts_of new ≡ with_latest new.latest new.seen left
  parts_after =
      ap (λ (i : Id16). parts_put i new.latest new.txns new.tasks.items) step.only.id
      ∙ ap (λ (o : Open). parts_put old.id new.latest o new.tasks.items) step.only.txns
      ∙ ap (λ x. parts_put old.id new.latest old.txns x.items) step.only.tasks
      ∙ ap (λ (xs : List parts.OpenTxn). record (parts_put old.id new.latest old.txns old.tasks.items) { txns = xs }) sets_keep
      ∙ ap (λ (xs : List Task). record (parts_put old.id new.latest old.txns old.tasks.items) { txns = map (open_part (sets_in c)) old.txns.txns; tasks = xs })
      (tasks_same c d old.seen old.txns old.tasks.items form.tasks_are.each (quiet_slots c.sets d.sets old.tasks.items none_busy))
      ∙ ap (λ (l : ClientLog D _). record p { closed = is_shut l; seen = new.seen; latest = new.latest; kept = d.kept; known = d.known }) same.log
      ∙ ap (λ (k : Kept). record p { closed = is_shut mid.log; seen = new.seen; latest = new.latest; kept = k; known = d.known }) same.kept
      ∙ ap (λ (ks : List Known). record p { closed = is_shut mid.log; seen = new.seen; latest = new.latest; kept = mid.databases.kept; known = ks }) same.known

  -- ---- over a log

  module _ (n : ℕ) (mine : List Id16) (f : Free) (stands : StandsWith shown old n set taken t before.log f) (all : Includes mine (mine_with old n set taken t)) (writer : writer_of t ≡ old.id) where
    may_step : MayStep before.log p (entries_of old) n view t
    may_step = record {
      sound = stands.stands.sound;
      fits = fits_first (mine_with old n set taken t) before.log p (entries_of old) (publishing_part c n set taken t) stands.stands.fits stands.task.fits stands.task.staged;
      quiet = quiet_jobs p.tasks alone;
      running = own.running;
      writer = writer;
      waits =
          subst (λ (y : PendingPub). WaitsFor c.kept.pending y) (sym (counted c set taken old.seen t own.view)) (waits_for c.kept.pending (pending_of taken t) (refused_of t) own.waits);
      count = few_commits c set taken old.seen t small own.view;
    }

    pub may_put : MayPutManifest mine before.log p (entries_of old) n view old.seen t
    may_put = record { step = may_step; seen_is = stands.stands.fits.seen; own = mine_turned mine p (publishing_part c n set taken t) all }

    module _ (says : PutSays shown store mine before after old.ledger mid p left moment (seen_task c.kept.pending view t) r (rest_of mid.databases.kept.pending view r u))
        (fits : FitsAfter mine old.ledger mid after.log p (entries_of old) view step.notes.notes r u) where
      -- what was seen is there
      seen_by : (b : Bool) (l : Latest) → new.seen ≡ seen_made b old.seen l.manifest → IsKept after.log l → FitsSeen (history_of after.log) new.seen
      seen_by true l is kept = subst (FitsSeen (history_of after.log)) (sym is) fits.fits.seen
      seen_by false l is kept =
          subst (FitsSeen (history_of after.log)) (sym is)
          (seen_with_fits (history_of after.log) old.seen l.manifest says.growth.sound (kept_published after.log l kept) fits.fits.seen)

      seen_made_fits : (o : Option Latest) → SeesWhere true old.seen new.seen o → MatchOption o ⊥ (IsKept after.log) → FitsSeen (history_of after.log) new.seen
      seen_made_fits None sees kept = absurd kept
      seen_made_fits (Some l) sees kept = seen_by (is_other old.seen.block l.manifest.block) l sees kept

      seen_still : new.seen ≡ old.seen → FitsSeen (history_of after.log) new.seen
      seen_still is = subst (FitsSeen (history_of after.log)) (sym is) fits.fits.seen

      seen_after : (y : Reply) → SeesWhere (says_made y) old.seen new.seen (latest_of u) → PublishedIsKept after.log y u → FitsSeen (history_of after.log) new.seen
      seen_after (reply.Done k) sees kept = seen_made_fits (latest_of u) sees kept
      seen_after (reply.Cleaned deleted more) sees kept = seen_made_fits (latest_of u) sees kept
      seen_after _ sees kept = seen_still sees

      fits_new : Fits (parts_of new) (entries_of new) after.log
      fits_new =
          subst (λ (q : Parts). Fits q (entries_of new) after.log) (sym parts_after)
          (subst (λ (o : Open). Fits (with_latest new.latest new.seen left) (entries_in o.cache) after.log) (sym step.only.txns)
          (latest_fits after.log left (entries_of old) new.latest new.seen fits.fits
          (subst (λ (o : Option Latest). IfSome o (IsKept after.log)) (sym step.only.latest) fits.fits.latest) (seen_after r step.sees fits.published)))

      journaled_new : (free : Free) → Journaled shown mid.log mid.databases.kept free → Journaled shown new.ledger.log d.kept free
      journaled_new free j =
          subst (λ (l : ClientLog D _). Journaled shown l d.kept free) (sym same.log) (subst (λ (k : Kept). Journaled shown mid.log k free) (sym same.kept) j)

      stands_new : (free : Free) → free.slots ≡ f.slots → Journaled shown mid.log mid.databases.kept free → StandsOver shown new after.log free
      stands_new free slots j = record {
        sound = says.growth.sound;
        fits = fits_new;
        saw = subst (AllByRecursion (λ (s : Slot Job). SawItsReads (history_of after.log) s.item)) (sym (ap (λ x. x.items) step.only.tasks)) (quiet_saw (history_of after.log) old.tasks.items none_busy);
        journaled = journaled_new free j;
        slots = slots ∙ stands.stands.slots ∙ sym (ap (λ (o : Open). o.slots) step.only.txns);
      }

      -- ---- a task that goes on

      view_after : (left_count : ℕ) → GoesOn old.ledger mid (pending_of taken t) t moment left_count u → TrimsWhere false (set_uploaded set u) mid new.ledger old.txns old.tasks.items → view_at d set u ≡ view
      view_after k h trims =
          let down = h.leaves.1.1 in
          let views : KeepsViews c.sets d.sets = subst (λ (l : Ledger D g). KeepsViews c.sets l.databases.sets) (sym trims) step.puts.views in
          ap (view_at d set) down.becomes ∙ view_refused d set t down.read ∙ view_same old.seen c d set taken t views own.view

      rest_after : (y : Reply) → PutStepLeaves old.ledger mid old.seen (pending_of taken t) t moment y u → TrimsWhere (says_made y) (set_uploaded set u) mid new.ledger old.txns old.tasks.items
          → rest_of mid.databases.kept.pending view y u ≡ publication_left d set y u
      rest_after (reply.Working k) h trims =
          ap (λ (o : Option PendingPub). Some (seen_task o view u)) (ap (λ (k : Kept). k.pending) (sym same.kept)) ∙ ap (λ (w : List Writes). Some (seen_task d.kept.pending w u)) (sym (view_after k h trims))
      rest_after _ h trims = refl

      on_after : (y : Reply) → PutStepLeaves old.ledger mid old.seen (pending_of taken t) t moment y u → TrimsWhere (says_made y) (set_uploaded set u) mid new.ledger old.txns old.tasks.items
          → FitsOn mine p.id mid.databases.kept after.log view y u → GoesOnOver mine new.id d after.log n set taken y u
      on_after (reply.Working k) h trims on = record {
        fits =
            subst (λ (i : Id16). FitsJob mine i d.kept after.log (job_of (view_at d set u) u)) (sym step.only.id)
            (subst (λ (w : List Writes). FitsJob mine p.id d.kept after.log (job_of w u)) (sym (view_after k h trims))
            (subst (λ (j : Kept). FitsJob mine p.id j after.log (job_of view u)) (sym same.kept) on.0));
        staged = subst (λ (w : List Writes). IsStagedTask (record { number = n; job = job_of w u })) (sym (view_after k h trims)) on.1;
        saw = on.2;
      }
      on_after _ h trims on = tt

      -- ---- names

      my_own : Includes mine (mine_of p)
      my_own = without_task_mine mine p (publishing_part c n set taken t) all

      task_names : Includes mine (names_of_job (job_of view t))
      task_names = task_is_mine mine p (publishing_part c n set taken t) all

      -- what is pending is the task's, or what was before
      pending_put : (y : Reply) → PutStepLeaves old.ledger mid old.seen (pending_of taken t) t moment y u → Includes mine (names_of_pending d.kept.pending)
      pending_put y leaves = by y leaves
        where
          from : (w : Option PendingPub) → mid.databases.kept.pending ≡ w → Includes mine (names_of_pending w) → Includes mine (names_of_pending d.kept.pending)
          from w is names = pending_by mine old new my_own w (ap (λ (k : Kept). k.pending) same.kept ∙ is) names

          waits : mid.databases.kept ≡ kept_waiting c.kept (pending_of taken t) → Includes mine (names_of_pending d.kept.pending)
          waits is = from (Some (pending_of taken t)) (ap (λ (k : Kept). k.pending) is) (one_mine mine (id_of t) [] (id_mine mine view t own.running task_names) (none_mine mine))

          none : mid.databases.kept.pending ≡ None → Includes mine (names_of_pending d.kept.pending)
          none is = from None is (none_mine mine)

          still : mid.databases.kept ≡ c.kept → Includes mine (names_of_pending d.kept.pending)
          still is = from c.kept.pending (ap (λ (k : Kept). k.pending) is) (pending_was mine old new my_own)

          may : MayWait old.ledger mid (pending_of taken t) → Includes mine (names_of_pending d.kept.pending)
          may (inl keeps) = still keeps.0
          may (inr keeps) = waits keeps.0

          by : (y : Reply) → PutStepLeaves old.ledger mid old.seen (pending_of taken t) t moment y u → Includes mine (names_of_pending d.kept.pending)
          by (reply.Working k) h = waits h.keeps.0
          by (reply.Done k) h = none (ap (λ (k : Kept). k.pending) h.keeps.0)
          by (reply.Cleaned deleted more) h = none (ap (λ (k : Kept). k.pending) h.keeps.0)
          by (reply.Contended numbers) h = none (ap (λ (k : Kept). k.pending) h.keeps.0)
          by reply.Exists h = none (ap (λ (k : Kept). k.pending) h.keeps.0)
          by (reply.Unknown id) h = waits h.2.0
          by reply.JournalFull h = still h.1.0
          by reply.DiskFault h = may h
          by reply.NoMemory h = may h
          by _ h = absurd h

      -- ---- the request

      pub put_over : (names : NamesShown) (clock later_clock : ClockShown) → IsArmed r f
          → PublicationOver (IsEvent names names clock later_clock r) shown store mine before after old new moment f n set taken t r u
      put_over names clock later_clock is_armed =
          let steps = says.steps f stands.stands.journaled (armed r f is_armed) in
          let past : List Item = history_of (before.log ++ says.growth.others) in
          let later : List Item = history_of after.log in
          record {
            over = record {
              growth = says.growth;
              free = steps.0;
              stands = stands_new steps.0 steps.1 steps.2;
              names =
                  named_by mine old new my_own step.only.id (pending_put r step.puts.leaves)
                  (tasks_by mine old new my_own old.tasks.items (ap (λ x. x.items) step.only.tasks) (tasks_were mine old new my_own));
              flight =
                  step_flies mine moment past later p left f steps.0 (publication_of c set t) says.request r (rest_of mid.databases.kept.pending view r u) (is_shut mid.log)
                  (publication_mine mine c.kept.pending view t task_names) step.puts.shut (λ is_open. none_flies mine shown mid.log mid.databases.kept steps.0 steps.2 is_open)
                  (λ memory. steps.3 memory says.request (λ made. refl));
              event = λ is. record {
                made = says.made;
                request = says.request;
                planned = says.planned;
                unmade = says.unmade;
                cause = says.cause is.memory;
                goes = λ o under.
                    let goes = steps.3 is.memory o under in (
                      goes.second,
                      subst (λ (q : Parts). StepsOnce (publication_of c set t) (publication_left d set r u) (side_of moment past p f) (seen_up past p) o (said_over (before.log ++ says.growth.others) after.log r) goes.second (side_of moment later q steps.0))
                          (sym parts_after)
                          (subst (λ (rest : Option m.Publication). StepsOnce (publication_of c set t) rest (side_of moment past p f) (seen_up past p) o (said_over (before.log ++ says.growth.others) after.log r) goes.second (side_of moment later left steps.0))
                          (rest_after r step.puts.leaves step.trims) goes.steps),
                    );
              };
            };
            on = on_after r step.puts.leaves step.trims fits.job;
          }
