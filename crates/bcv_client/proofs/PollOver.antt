-- The step of a poll over a client.
use Rattle.std.proofs.Common.{◌≡◌, ◌≢◌, ◌∙◌, ℕ, Bool, true, false, cond, eq-eqb, List, [], ◌∷◌, ◌++◌, map, Option, Some, None, unwrap_or, refl, sym, ap, subst}
use Rattle.std.specs.Global.{Vec}
use Rattle.bcv_base.specs.declared.id.Id16.{Id16}
use Rattle.bcv_base.specs.declared.log.Entry.{Entry}
use Rattle.bcv_base.specs.declared.outcome.Outcome.{Outcome}
use Rattle.bcv_base.specs.declared.outcome.Outcome.TheVariants as outcome
use Rattle.bcv_base.specs.History.{Item, history_of}
use Rattle.bcv_clientlog.specs.declared.log.ClientLog.{ClientLog}
use Rattle.bcv_clientstate.specs.Fits.{Fits}
use Rattle.bcv_clientstate.specs.Journaled.{Journaled}
use Rattle.bcv_clientstate.specs.Parts.{Parts}
use Rattle.bcv_clientstate.specs.Parts as parts
use Rattle.bcv_clientstate.specs.SeenClient.{Free, seen_up, side_of}
use Rattle.bcv_clientstate.specs.SeenContainer.{container_of}
use Rattle.bcv_databases.specs.Catalog.{Catalog, set_at}
use Rattle.bcv_dbmap.specs.Sound.{IsSoundLog}
use Rattle.bcv_disk.specs.DiskShown.{DiskShown, DiskTold}
use Rattle.bcv_ledger.specs.LedgerNotes.{parts_in}
use Rattle.bcv_machine.specs.Poll.{Polls}
use Rattle.bcv_machine.specs.State as m
use Rattle.bcv_model.specs.declared.kept.Kept.{Kept}
use Rattle.bcv_model.specs.declared.reply.Reply.{Reply}
use Rattle.bcv_model.specs.declared.reply.Reply.TheVariants as reply
use Rattle.bcv_pages.specs.Held.{Held}
use Rattle.bcv_publication.specs.TaskSides.{job_of}
use Rattle.bcv_publisher.specs.PollStep.{PollStep, reading}
use Rattle.bcv_publisher.specs.PutStep.{version_added}
use Rattle.bcv_client.proofs.OthersGrew.{grown_by_others}
use Rattle.bcv_slots.specs.declared.Slot.{Slot}
use Rattle.bcv_store.specs.StoreShown.{StoreShown, StoreTold}
use Rattle.bcv_transaction.specs.MachineCalls.{open_part}
use Rattle.bcv_transaction.specs.Open.{Open}
use Rattle.bcv_client.specs.ClientParts.{entries_of, parts_of}
use Rattle.bcv_client.specs.Events.{StandsOver}
use Rattle.bcv_client.specs.PollOver.{OnlyReads}
use Rattle.bcv_client.specs.Steps.{EndsJob}
use Rattle.bcv_client.specs.TaskParts.{done_by, entries_in, no_set, task_part, task_view}
use Rattle.bcv_client.specs.declared.client.Client.{Client}
use Rattle.bcv_client.specs.declared.job.Job.{Job}
use Rattle.bcv_client.specs.declared.job.Job.TheVariants as job
use Rattle.bcv_client.proofs.MyNames.{named_same}
use Rattle.bcv_client.proofs.ReadsSaw.{SawAll, saw_grown, saw_same}
use Rattle.bcv_client.proofs.SameParts.{parts_by}

-- ---- what is published

pub none_added : (past later : List Item) → later ≡ past → version_added past later ≡ None
none_added past later same =
    subst (λ (l : List Item). version_added past l ≡ None) (sym same)
    (ap (λ (b : Bool). cond b None (Some (m.version_count (container_of 0 past)))) (eq-eqb (m.version_count (container_of 0 past)) (m.version_count (container_of 0 past)) refl))

-- ---- the parts

module _ (c d : Catalog) (sets : d.sets ≡ c.sets) where
  done_same : (j : Job) → done_by d j ≡ done_by c j
  done_same (job.Fetch access txn page) = refl
  done_same job.Poll = refl
  done_same (job.Publish set taken t) = ap (λ (ss : List (Option Held)). job_of (task_view (unwrap_or (set_at ss set) no_set) t) t) sets
  done_same job.Resolve = refl

  pub tasks_equal : (ss : List (Slot Job)) → map (task_part d) ss ≡ map (task_part c) ss
  tasks_equal [] = refl
  tasks_equal (s ∷ ss) =
      ap (λ (x : parts.Job). record { number = s.number; job = x } ∷ map (task_part d) ss) (done_same s.item)
      ∙ ap (λ (xs : List parts.Task). task_part c s ∷ xs) (tasks_equal ss)

-- ---- the step

polls_fail : (s : m.Side) (u : m.Up) (o : Outcome) (r : Reply) (t : m.Side) → Polls s u o r t → o ≢ outcome.Ok → r ≡ reply.StoreFault
polls_fail s u outcome.Ok r t polls bad = absurd (bad refl)
polls_fail s u outcome.Fail r t polls bad = polls.0
polls_fail s u outcome.Lost r t polls bad = polls.0

module _ {D : Type 0} {g : _} (told : DiskTold) (shown : D → DiskShown) (store : StoreTold) (before after : StoreShown) (old new : Client D g) (r : Reply)
    (only : OnlyReads old new) (polls : PollStep store before after old.ledger new.ledger old.seen new.seen old.latest new.latest r) where
  abbrev next : Parts
  next = reading (parts_in new.ledger) new.seen new.latest (parts_of old)

  parts_read : parts_of new ≡ next
  parts_read =
      ap (λ (x : Id16). parts_by x new.ledger new.seen new.latest new.txns new.tasks.items) only.id
      ∙ ap (λ (x : Open). parts_by old.id new.ledger new.seen new.latest x new.tasks.items) only.txns
      ∙ ap (λ x. parts_by old.id new.ledger new.seen new.latest old.txns x.items) only.tasks
      ∙ ap (λ (ss : List (Option Held)). record (parts_by old.id new.ledger new.seen new.latest old.txns old.tasks.items) { txns = map (open_part (λ (place : ℕ). unwrap_or (set_at ss place) no_set)) old.txns.txns }) polls.sets
      ∙ ap (λ (x : List parts.Task). record next { tasks = x }) (tasks_equal old.ledger.databases new.ledger.databases polls.sets old.tasks.items)

  stands_after : (log : List Entry) (f : Free) (was : List Entry) → StandsOver shown old was f → IsSoundLog log → Fits next (entries_of old) log → SawAll (history_of log) old.tasks.items → StandsOver shown new log f
  stands_after log f was stands sound fits saw = record {
    sound = sound;
    fits = subst (λ (p : Parts). Fits p (entries_of new) log) (sym parts_read) (subst (λ (o : Open). Fits next (entries_in o.cache) log) (sym only.txns) fits);
    saw = saw_same (history_of log) old.tasks.items new.tasks.items (ap (λ (ts : Vec (Slot Job)). ts.items) only.tasks) saw;
    journaled =
        subst (λ (l : ClientLog D _). Journaled shown l new.ledger.databases.kept f) (sym polls.log)
        (subst (λ (k : Kept). Journaled shown old.ledger.log k f) (sym polls.kept) stands.journaled);
    slots = stands.slots ∙ sym (ap (λ (o : Open). o.slots) only.txns);
  }

  pub poll_ends : EndsJob told shown store before after old new job.Poll r
  poll_ends tells disk number moment mine f stands all grew armed =
      let says = polls.machine tells (parts_of old) (entries_of old) mine stands.sound stands.fits all grew in
      let same = grown_by_others store.alone mine before.log after.log says.growth says.no_own in
      record {
        growth = says.growth;
        free = f;
        stands = stands_after after.log f before.log stands says.growth.sound says.fits (saw_grown store.alone mine before.log after.log says.growth old.tasks.items stands.saw);
        names = named_same mine old new all only.id (ap (λ (k : Kept). k.pending) polls.kept) (ap (λ (ts : Vec (Slot Job)). ts.items) only.tasks);
        flight = λ flies. flies;
        event = λ memory. record {
          made = true;
          request = says.request;
          planned = λ plans made. says.planned plans;
          unmade = λ none. absurd (let e : true ≡ false = none in cc);
          cause = λ made bad. polls.failed (polls_fail (side_of moment (history_of after.log) (parts_of old) f) (seen_up (history_of after.log) (parts_of old)) says.request r (side_of moment (history_of after.log) next f) (says.steps memory moment f) bad);
          goes = λ o is. (
            false,
            (
              subst (λ (log : List Entry). version_added (history_of log) (history_of after.log) ≡ None) same (none_added (history_of after.log) (history_of after.log) refl),
              subst (λ (p : Parts). Polls (side_of moment (history_of (before.log ++ says.growth.others)) (parts_of old) f) (seen_up (history_of (before.log ++ says.growth.others)) (parts_of old)) o r (side_of moment (history_of after.log) p f)) (sym parts_read)
                  (subst (λ (x : Outcome). Polls (side_of moment (history_of (before.log ++ says.growth.others)) (parts_of old) f) (seen_up (history_of (before.log ++ says.growth.others)) (parts_of old)) x r (side_of moment (history_of after.log) next f)) (sym (is refl))
                  (subst (λ (log : List Entry). Polls (side_of moment (history_of log) (parts_of old) f) (seen_up (history_of log) (parts_of old)) says.request r (side_of moment (history_of after.log) next f)) same (says.steps memory moment f))),
            ),
          );
        };
      }
