-- The step of a publication before its put over a client: it is the machine's, and the client stands afterwards.
use Rattle.std.proofs.Common.{◌≡◌, ◌∙◌, ◌<◌, ◌^◌, ℕ, true, false, List, [], ◌++◌, map, append-nil, Option, Some, None, IfSome, IsSome, inl, inr, refl, sym, ap, subst, arith}
use Rattle.std.specs.Global.{Vec}
use Rattle.std.specs.List.{AllByRecursion, list_any}
use Rattle.bcv_base.specs.declared.id.Id16.{Id16}
use Rattle.bcv_base.specs.declared.log.Entry.{Entry}
use Rattle.bcv_base.specs.declared.outcome.Outcome.{Outcome}
use Rattle.bcv_base.specs.declared.seen.Latest.{Latest}
use Rattle.bcv_base.specs.declared.seen.Seen.{Seen}
use Rattle.bcv_base.specs.Drawn.{AddsNames, NamesShown}
use Rattle.bcv_base.specs.History.{history_of}
use Rattle.bcv_base.specs.Ids.{IsId}
use Rattle.bcv_base.specs.Image.{Writes}
use Rattle.bcv_base.specs.Moments.{ClockShown, Tells}
use Rattle.bcv_base.specs.declared.clock.Now.TheVariants as now
use Rattle.bcv_cache.specs.Entry as cache
use Rattle.bcv_cleanup.specs.Released.{RuleAnswers}
use Rattle.bcv_clientlaws.specs.OtherParts.{Includes}
use Rattle.bcv_clientstate.specs.Fits.{Fits, FitsJob}
use Rattle.bcv_clientstate.specs.Journaled.{Journaled}
use Rattle.bcv_clientstate.specs.PartRefusals.{runs_publication}
use Rattle.bcv_clientstate.specs.Parts.{OpenTxn as Txn, Parts, Task, mine_of, names_of_job, with_ledger}
use Rattle.bcv_clientstate.specs.SeenClient.{Free, side_of}
use Rattle.bcv_clientstate.specs.Stages.{IsStagedJob}
use Rattle.bcv_clientlog.specs.LogParts.{is_shut}
use Rattle.bcv_databases.specs.Catalog.{Catalog}
use Rattle.bcv_dbmap.specs.Honest.{GrewHonestly}
use Rattle.bcv_dbmap.specs.RequestGrowth.{RequestGrowth}
use Rattle.bcv_disk.specs.DiskShown.{DiskShown, DiskTold}
use Rattle.bcv_ledger.specs.Begins.{WaitsFor}
use Rattle.bcv_ledger.specs.declared.ledger.Ledger.{Ledger}
use Rattle.bcv_ledger.specs.LedgerNotes.{parts_in}
use Rattle.bcv_machine.specs.State as m
use Rattle.bcv_model.specs.declared.kept.PendingPub.{PendingPub}
use Rattle.bcv_model.specs.declared.note.Note.TheVariants as note
use Rattle.bcv_model.specs.declared.reply.Reply.{Reply}
use Rattle.bcv_model.specs.declared.reply.Reply.TheVariants as reply
use Rattle.bcv_model.specs.NoteRules.{IsPendingAs, MayStand}
use Rattle.bcv_publication.specs.TaskSides.{MayStep, job_of}
use Rattle.bcv_publish.specs.declared.work.Work.{Work}
use Rattle.bcv_publish.specs.declared.work.Work.TheVariants as work
use Rattle.bcv_publisher.specs.PutStep.{rest_of}
use Rattle.bcv_publisher.specs.WorkEnds.{EndsWork}
use Rattle.bcv_publisher.specs.WorkStep.{AreUnused, IsEvent, IsReplyTo, LeavesLedger, MayWork, TaskFits, WorkJournals, WorkSays, drawn_ids, moment_read}
use Rattle.bcv_publisher.proofs.WorkSteps.{request_is_step}
use Rattle.bcv_slots.specs.declared.Slot.{Slot}
use Rattle.bcv_store.specs.StoreShown.{StoreShown, StoreTold}
use Rattle.bcv_tasks.specs.declared.publish_task.PublishTask.{PublishTask}
use Rattle.bcv_tasks.specs.State.{id_of, is_ready, pending_of, refused_of}
use Rattle.bcv_tasks.specs.TaskWork.{WorkLeaves}
use Rattle.bcv_transaction.specs.MachineCalls.{open_part}
use Rattle.bcv_transaction.specs.Open.{Open}
use Rattle.bcv_transaction.specs.declared.open_txn.OpenTxn.{OpenTxn}
use Rattle.bcv_client.specs.ClientForm.{IsInForm, PublishInForm}
use Rattle.bcv_client.specs.ClientParts.{entries_of, parts_of, sets_in, task_part}
use Rattle.bcv_client.specs.Events.{IsArmed, SawItsReads, StandsOver, client_side, client_up}
use Rattle.bcv_client.specs.NewTasks.{is_busy}
use Rattle.bcv_client.specs.PublicationOver.{GoesOnOver, OnlyPublishes, PublicationOver, ReadsMoment, StandsWith, StepsOnce, StepsTask, mine_with, publication_left, publication_of, publishing_part, view_at}
use Rattle.bcv_client.specs.Steps.{EventOver, said_over}
use Rattle.bcv_client.specs.TaskParts.{entries_in}
use Rattle.bcv_client.specs.TaskRequests.{AsksTask, ClientWorks, WorksNot, WorksOver, block_for, cache_for}
use Rattle.bcv_client.specs.declared.client.Client.{Client}
use Rattle.bcv_client.specs.declared.job.Job.{Job}
use Rattle.bcv_client.proofs.JobNames.{fitting_id}
use Rattle.bcv_client.proofs.MyNames.{named_by, pending_was, publication_mine, task_is_mine, tasks_by, tasks_were, without_task_mine}
use Rattle.bcv_client.proofs.ResolveOver.{armed}
use Rattle.bcv_client.proofs.RevertForm.{quiet_slots}
use Rattle.bcv_client.proofs.SetViews.{keeps_txns, tasks_same, txns_same}
use Rattle.bcv_client.proofs.TaskStands.{may_step, names_in_front, quiet_saw, waits_for}
use Rattle.bcv_client.proofs.WorkFlights.{FliesAfter, event_or_not, flies_after, names_left}
use Rattle.bcv_client.proofs.WorkForm.{CacheKept, cache_kept, made_entries, same_view, waits_by_id}

-- ---- names and moments

reads_moment : (clock after : ClockShown) (at : Option ℕ) → IfSome at (λ x. Tells clock after (now.At x)) → ReadsMoment clock after at
reads_moment clock after None reads = tt
reads_moment clock after (Some x) reads = reads

adds_nothing : (a b : NamesShown) → b ≡ a → AddsNames a.drawn b.drawn []
adds_nothing a b same = subst (λ (n : NamesShown). AddsNames a.drawn n.drawn []) (sym same) (by a.drawn)
  where
    by : (drawn : Option (List Id16)) → AddsNames drawn drawn []
    by None = tt
    by (Some ids) = sym (append-nil ids)

-- ---- the parts

module _ {D : Type 0} {g : _} (old new : Client D g) (only : OnlyPublishes old new) (sees : new.seen ≡ old.seen) (reads : new.latest ≡ old.latest)
    (form : IsInForm old.seen old.ledger.databases old.txns old.tasks.items) (quiet : list_any (λ (s : Slot Job). is_busy s.item) old.tasks.items ≡ false) where
  abbrev c : Catalog
  c = old.ledger.databases

  abbrev d : Catalog
  d = new.ledger.databases

  abbrev parts_made : Id16 → Seen → Option Latest → List Txn → List Task → Parts
  parts_made id seen latest txns tasks =
      record { id = id; closed = is_shut new.ledger.log; seen = seen; latest = latest; kept = d.kept; known = d.known; txns = txns; tasks = tasks }

  parts_kept : map (open_part (sets_in d)) old.txns.txns ≡ map (open_part (sets_in c)) old.txns.txns → parts_of new ≡ with_ledger (parts_in new.ledger) (parts_of old)
  parts_kept views =
      ap (λ (x : Id16). parts_made x new.seen new.latest (map (open_part (sets_in d)) new.txns.txns) (map (task_part d) new.tasks.items)) only.id
      ∙ ap (λ (x : Seen). parts_made old.id x new.latest (map (open_part (sets_in d)) new.txns.txns) (map (task_part d) new.tasks.items)) sees
      ∙ ap (λ (x : Option Latest). parts_made old.id old.seen x (map (open_part (sets_in d)) new.txns.txns) (map (task_part d) new.tasks.items)) reads
      ∙ ap (λ (ts : List OpenTxn). parts_made old.id old.seen old.latest (map (open_part (sets_in d)) ts) (map (task_part d) new.tasks.items)) only.opened
      ∙ ap (λ (ts : List Txn). parts_made old.id old.seen old.latest ts (map (task_part d) new.tasks.items)) views
      ∙ ap (λ (ss : Vec (Slot Job)). parts_made old.id old.seen old.latest (map (open_part (sets_in c)) old.txns.txns) (map (task_part d) ss.items)) only.tasks
      ∙ ap (λ (ts : List Task). parts_made old.id old.seen old.latest (map (open_part (sets_in c)) old.txns.txns) ts)
      (tasks_same c d old.seen old.txns old.tasks.items form.tasks_are.each (quiet_slots c.sets d.sets old.tasks.items quiet))

-- ---- the step over a log

module _ {D : Type 0} {g : _} (told : DiskTold) (shown : D → DiskShown) (answers : RuleAnswers) (store : StoreTold) (before after : StoreShown) (names later_names : NamesShown)
    (clock later_clock : ClockShown) (old new : Client D g) (set taken : ℕ) (t : PublishTask) (r : Reply) (u : PublishTask) (only : OnlyPublishes old new) (sees : new.seen ≡ old.seen)
    (reads : new.latest ≡ old.latest) (form : IsInForm old.seen old.ledger.databases old.txns old.tasks.items) (task : PublishInForm old.seen old.ledger.databases set taken t)
    (not_ready : is_ready t ≡ false) (alone : runs_publication (parts_of old) ≡ false) (quiet : list_any (λ (s : Slot Job). is_busy s.item) old.tasks.items ≡ false) (few : taken < 2 ^ 64) where
  abbrev Works : Type 0
  Works = WorksOver told shown answers store before after names later_names clock later_clock old new set t r u

  abbrev view : List Writes
  view = view_at old.ledger.databases set t

  abbrev IsOne : Type 0
  IsOne = IsEvent names later_names clock later_clock r

  module _ (works : Works) where
    abbrev ids : List Id16
    ids = drawn_ids store before after names later_names clock later_clock old.seen view (cache_for old.txns t) t works.step.made u works.step.kind

    kept : CacheKept old.txns new.txns works.later
    kept = cache_kept old.txns new.txns works.later view t works.keeps works.step.cache

    parts_after : parts_of new ≡ with_ledger (parts_in new.ledger) (parts_of old)
    parts_after =
        parts_kept old new only sees reads form quiet
        (txns_same old.ledger.databases new.ledger.databases old.txns.txns form.txns (keeps_txns old.ledger.databases.sets new.ledger.databases.sets works.step.views old.txns.txns))

    -- a task that goes on uploads the same commits
    view_then : works.step.made ≡ work.More → new.ledger ≡ old.ledger → view_at new.ledger.databases set u ≡ view
    view_then is ledger =
        ap (λ (l : Ledger D g). view_at l.databases set u) ledger
        ∙ same_view answers old.seen view (cache_for old.txns t) old.ledger.databases set taken t u
        (subst (λ (w : Work). WorkLeaves answers old.seen view (cache_for old.txns t) t w u) is works.step.leaves)

    still_viewed : (x : Reply) → IsReplyTo x works.step.made → LeavesLedger old.ledger new.ledger t x → rest_of new.ledger.databases.kept.pending view x u ≡ publication_left new.ledger.databases set x u
    still_viewed (reply.Working left) is ledger = sym (ap (λ (vs : List Writes). rest_of new.ledger.databases.kept.pending vs (reply.Working left) u) (view_then is ledger))
    still_viewed _ is ledger = refl

    -- it fits the log afterwards
    goes_on : (n : ℕ) (mine : List Id16) (log : List Entry) (x : Reply) → IsReplyTo x works.step.made → LeavesLedger old.ledger new.ledger t x
        → TaskFits mine (with_ledger (parts_in new.ledger) (parts_of old)) log view x u → GoesOnOver mine new.id new.ledger.databases log n set taken x u
    goes_on n mine log (reply.Working left) is ledger fits =
        let same = view_then is ledger in
        record {
          fits =
              subst (λ (id : Id16). FitsJob mine id new.ledger.databases.kept log (job_of (view_at new.ledger.databases set u) u)) (sym only.id)
              (subst (λ (vs : List Writes). FitsJob mine old.id new.ledger.databases.kept log (job_of vs u)) (sym same) fits.0);
          staged = subst (λ (vs : List Writes). IsStagedJob (job_of vs u)) (sym same) fits.1;
          saw = fits.2;
        }
    goes_on n mine log _ is ledger fits = tt

    module _ (store_tells : store.tells) (tells : told.tells) (n : ℕ) (mine : List Id16) (f : Free) (stands : StandsWith shown old n set taken t before.log f)
        (all : Includes mine (mine_with old n set taken t)) (drawn : Includes mine ids) (unused : AreUnused (history_of before.log) ids)
        (honest : GrewHonestly store.alone mine before.log after.log) where
      may_work : MayWork mine before.log (parts_of old) (cache_for old.txns t).entries n view old.seen t ids
      may_work = record {
        step =
            subst (λ (es : List cache.Entry). MayStep before.log (parts_of old) es n view t) (made_entries old.txns.slots (block_for t) old.txns.cache)
            (may_step shown old n set taken t before.log f stands task alone few not_ready);
        alone = alone;
        seen_is = stands.stands.fits.seen;
        read_is = stands.task.saw;
        own = names_in_front shown old n set taken t before.log f stands task alone few mine all;
        drawn = drawn;
        unused = unused;
      }

      -- whatever is armed
      pub work_says : WorkSays shown store mine before after names later_names clock later_clock works.later old.ledger new.ledger (parts_of old) view t r u
      work_says = works.step.machine store_tells tells (parts_of old) n mine may_work honest

    module _ (store_tells : store.tells) (tells : told.tells) (n moment : ℕ) (mine : List Id16) (f : Free) (stands : StandsWith shown old n set taken t before.log f)
        (all : Includes mine (mine_with old n set taken t)) (drawn : Includes mine ids) (unused : AreUnused (history_of before.log) ids)
        (at : IfSome (moment_read t u) (λ x. x ≡ moment)) (honest : GrewHonestly store.alone mine before.log after.log) (is_armed : IsArmed r f) where
      says : WorkSays shown store mine before after names later_names clock later_clock works.later old.ledger new.ledger (parts_of old) view t r u
      says = work_says store_tells tells n mine f stands all drawn unused honest

      journals : WorkJournals shown (before.log ++ says.growth.others) after.log names later_names clock later_clock old.ledger new.ledger (parts_of old) view t says.request r u f
      journals = says.journals f stands.stands.journaled (armed r f is_armed)

      -- ---- names

      abbrev part : Task
      part = publishing_part old.ledger.databases n set taken t

      my_own : Includes mine (mine_of (parts_of old))
      my_own = without_task_mine mine (parts_of old) part all

      task_names : Includes mine (names_of_job (job_of view t))
      task_names = task_is_mine mine (parts_of old) part all

      -- void may stand where the publication is pending
      may_void : IsSome old.ledger.databases.kept.pending → MayStand old.ledger.databases.kept (note.Void (id_of u))
      may_void some = by old.ledger.databases.kept.pending refl (waits_for old.ledger.databases.kept.pending (pending_of taken t) (refused_of t) task.waits) some
        where
          by : (w : Option PendingPub) → old.ledger.databases.kept.pending ≡ w → WaitsFor w (pending_of taken t) → IsSome w → MayStand old.ledger.databases.kept (note.Void (id_of u))
          by None none waits some = absurd (let e : false ≡ true = some in cc)
          by (Some x) is waits some = record {
            named = subst IsSome (sym stands.stands.fits.named) refl;
            is_id = subst IsId (sym works.step.leaves.same_id) (fitting_id (mine_with old n set taken t) old.id old.ledger.databases.kept before.log view t task.running stands.task.fits);
            waits =
                subst (λ (o : Option PendingPub). IsPendingAs o (id_of u)) (sym is)
                (ap (λ (y : PendingPub). y.id) waits ∙ sym works.step.leaves.same_id);
          }

      abbrev Flying : Type 0
      Flying =
          FliesAfter told shown mine (before.log ++ says.growth.others) after.log names later_names clock later_clock old.ledger new.ledger (parts_of old) view t says.request r u f tells stands.stands.journaled

      -- what is free after the step
      flies : Flying
      flies =
          flies_after told shown mine (before.log ++ says.growth.others) after.log names later_names clock later_clock old.ledger new.ledger (parts_of old) view t says.request r u f tells stands.stands.journaled journals
          (names_left told shown mine old.ledger new.ledger u f tells stands.stands.journaled may_void works.step.made r works.step.ends) moment at
          (publication_mine mine old.ledger.databases.kept.pending view t task_names) works.step.shut (event_or_not names later_names clock later_clock r)

      names_after : Includes mine (mine_of (parts_of new))
      names_after =
          named_by mine old new my_own only.id (flies.left.pending (pending_was mine old new my_own))
          (tasks_by mine old new my_own old.tasks.items (ap (λ (ss : Vec (Slot Job)). ss.items) only.tasks) (tasks_were mine old new my_own))

      -- ---- the request

      stands_after : StandsOver shown new after.log flies.left.free
      stands_after = record {
        sound = says.growth.sound;
        fits =
            subst (λ (p : Parts). Fits p (entries_of new) after.log) (sym parts_after)
            (subst (λ (es : List cache.Entry). Fits (with_ledger (parts_in new.ledger) (parts_of old)) es after.log) (sym kept.entries) says.client);
        saw = subst (λ (ss : Vec (Slot Job)). AllByRecursion (λ (s : Slot Job). SawItsReads (history_of after.log) s.item) ss.items) (sym only.tasks) (quiet_saw (history_of after.log) old.tasks.items quiet);
        journaled = flies.left.journaled;
        slots = flies.left.slots ∙ stands.stands.slots ∙ sym kept.slots;
      }

      event_over : IsOne
          → EventOver (StepsOnce (publication_of old.ledger.databases set t) (publication_left new.ledger.databases set r u)) store before after says.growth.others old new moment f flies.left.free r
      event_over event =
          let goes = flies.goes event moment at in
          let others : List Entry = before.log ++ says.growth.others in
          let q : m.Publication = publication_of old.ledger.databases set t in
          record {
            made = true;
            request = says.request;
            planned = λ plans made. says.planned plans;
            unmade = λ none. absurd (let e : true ≡ false = none in cc);
            cause = λ made bad. says.cause event bad;
            goes = λ o is. (
              goes.second,
              subst (λ (x : Option m.Publication). StepsOnce q x (client_side moment others old f) (client_up others old) o (said_over others after.log r) goes.second (client_side moment after.log new flies.left.free))
                  (still_viewed r works.step.is_reply works.step.ledger)
                  (subst (λ (p : Parts). StepsOnce q (rest_of new.ledger.databases.kept.pending view r u) (client_side moment others old f) (client_up others old) o (said_over others after.log r) goes.second (side_of moment (history_of after.log) p flies.left.free))
                  (sym parts_after)
                  (subst (λ (y : Outcome). StepsOnce q (rest_of new.ledger.databases.kept.pending view r u) (client_side moment others old f) (client_up others old) y (said_over others after.log r) goes.second (side_of moment (history_of after.log) (with_ledger (parts_in new.ledger) (parts_of old)) flies.left.free))
                  (sym (is refl)) goes.steps)),
            );
          }

      pub work_over : PublicationOver IsOne shown store mine before after old new moment f n set taken t r u
      work_over = record {
        over = record { growth = says.growth; free = flies.left.free; stands = stands_after; names = names_after; flight = flies.left.flight; event = event_over };
        on = goes_on n mine after.log r works.step.is_reply works.step.ledger says.job;
      }

  -- ---- where there was no memory for the cache

  module _ (nothing : WorksNot before after names later_names clock later_clock old new t r u) where
    parts_still : parts_of new ≡ parts_of old
    parts_still =
        parts_kept old new only sees reads form quiet (ap (λ (l : Ledger D g). map (open_part (sets_in l.databases)) old.txns.txns) nothing.ledger)
        ∙ ap (λ (l : Ledger D g). with_ledger (parts_in l) (parts_of old)) nothing.ledger

    module _ (n moment : ℕ) (mine : List Id16) (f : Free) (stands : StandsWith shown old n set taken t before.log f) (all : Includes mine (mine_with old n set taken t)) where
      still_mine : Includes mine (mine_of (parts_of new))
      still_mine = subst (λ (p : Parts). Includes mine (mine_of p)) (sym parts_still) (without_task_mine mine (parts_of old) (publishing_part old.ledger.databases n set taken t) all)

      grown : RequestGrowth store.alone mine before.log before.log
      grown = record {
        others = [];
        none = λ is_alone. refl;
        lawful = tt;
        own = [];
        one = omega arith;
        grown = sym (append-nil (before.log ++ []) ∙ append-nil before.log);
        own_lawful = λ theirs apart. tt;
        sound = stands.stands.sound;
      }

      stands_still : StandsOver shown new before.log f
      stands_still = record {
        sound = stands.stands.sound;
        fits =
            subst (λ (p : Parts). Fits p (entries_of new) before.log) (sym parts_still)
            (subst (λ (o : Open). Fits (parts_of old) (entries_in o.cache) before.log) (sym nothing.txns) stands.stands.fits);
        saw = subst (λ (ss : Vec (Slot Job)). AllByRecursion (λ (s : Slot Job). SawItsReads (history_of before.log) s.item) ss.items) (sym only.tasks) stands.stands.saw;
        journaled = subst (λ (l : Ledger D g). Journaled shown l.log l.databases.kept f) (sym nothing.ledger) stands.stands.journaled;
        slots = stands.stands.slots ∙ sym (ap (λ (o : Open). o.slots) nothing.txns);
      }

      not_over : PublicationOver IsOne shown store mine before after old new moment f n set taken t r u
      not_over =
          subst (λ (s : StoreShown). PublicationOver IsOne shown store mine before s old new moment f n set taken t r u) (sym nothing.store_is)
          (record {
            over = record { growth = grown; free = f; stands = stands_still; names = still_mine; flight = λ flies. flies; event = λ event. absurd (event.memory nothing.memory) };
            on = subst (λ (x : Reply). GoesOnOver mine new.id new.ledger.databases before.log n set taken x u) (sym nothing.memory) tt;
          })

  -- ---- the whole

  pub steps_task : ClientWorks told shown answers store before after names later_names clock later_clock old new set t r u
      → StepsTask told shown store before after names later_names clock later_clock old new set taken t r u
  steps_task (inl works) = record {
    ids = ids works;
    drawn = works.step.drawn;
    few = works.step.few;
    at = moment_read t u;
    reads = reads_moment clock later_clock (moment_read t u) works.step.reads;
    over = λ store_tells tells n moment mine f stands all drawn unused at honest is_armed. work_over works store_tells tells n moment mine f stands all drawn unused at honest is_armed;
  }
  steps_task (inr nothing) = record {
    ids = [];
    drawn = adds_nothing names later_names nothing.names_are;
    few = omega arith;
    at = None;
    reads = tt;
    over = λ store_tells tells n moment mine f stands all drawn unused at honest is_armed. not_over nothing n moment mine f stands all;
  }

-- ---- from the request

pub still_open : {D : Type 0} {g : _} (old mid : Client D g) → mid ≡ record old { txns = mid.txns } → is_shut old.ledger.log ≡ false → is_shut mid.ledger.log ≡ false
still_open {D = D} {g = g} old mid same is_open = ap (λ (c : Client D g). is_shut c.ledger.log) same ∙ is_open

module _ {D : Type 0} {g : _} (told : DiskTold) (shown : D → DiskShown) (answers : RuleAnswers) (store : StoreTold) (before after : StoreShown) (names later_names : NamesShown)
    (clock later_clock : ClockShown) (old mid : Client D g) (l : Ledger D g) (set taken : ℕ) (t : PublishTask) (made : Work) (r : Reply) (u : PublishTask)
    (same : mid ≡ record old { txns = mid.txns }) (is_open : is_shut old.ledger.log ≡ false) (task : PublishInForm old.seen old.ledger.databases set taken t)
    (ends : EndsWork told shown mid.ledger l u made r) where
  ends_from : EndsWork told shown old.ledger l u made r
  ends_from = subst (λ (x : Ledger D g). EndsWork told shown x l u made r) (ap (λ (c : Client D g). c.ledger) same) ends

  -- a request, and what was noted after it
  pub works_then : AsksTask answers store before after names later_names clock later_clock old.seen old.ledger.databases set old.txns mid.txns t made u
      → ClientWorks told shown answers store before after names later_names clock later_clock old (record mid { ledger = l }) set t r u
  works_then (inl asks) = inl (record {
    later = asks.later;
    step =
        request_is_step told shown answers store old.ledger l before after names later_names clock later_clock old.seen (view_at old.ledger.databases set t) (cache_for old.txns t) asks.later t made r u
        is_open (waits_by_id old.ledger.databases.kept.pending (pending_of taken t) (refused_of t) task.waits) asks.request ends_from;
    keeps = asks.keeps;
  })
  works_then (inr nothing) =
      let none = subst (λ (w : Work). EndsWork told shown old.ledger l u w r) nothing.memory ends_from in
      inr (record {
        none = nothing.none;
        memory = none.1;
        txns = nothing.same;
        ledger = none.0;
        task_is = nothing.task_is;
        store_is = nothing.store_is;
        names_are = nothing.names_are;
        clock_is = nothing.clock_is;
      })

  pub only_then : AsksTask answers store before after names later_names clock later_clock old.seen old.ledger.databases set old.txns mid.txns t made u → OnlyPublishes old (record mid { ledger = l })
  only_then asks = record {
    id = ap (λ (c : Client D g). c.id) same;
    tasks = ap (λ (c : Client D g). c.tasks) same;
    opened = (by asks).0;
    slots = (by asks).1;
    taken = ap (λ (c : Client D g). c.taken) same;
  }
    where
      by : AsksTask answers store before after names later_names clock later_clock old.seen old.ledger.databases set old.txns mid.txns t made u
          → (mid.txns.txns ≡ old.txns.txns) × (mid.txns.slots ≡ old.txns.slots)
      by (inl asks) = let kept = cache_kept old.txns mid.txns asks.later (view_at old.ledger.databases set t) t asks.keeps asks.request.cache in (kept.txns, kept.slots)
      by (inr nothing) = (ap (λ (o : Open). o.txns) nothing.same, ap (λ (o : Open). o.slots) nothing.same)

  pub sees_then : mid.seen ≡ old.seen
  sees_then = ap (λ (c : Client D g). c.seen) same

  pub reads_then : mid.latest ≡ old.latest
  reads_then = ap (λ (c : Client D g). c.latest) same
