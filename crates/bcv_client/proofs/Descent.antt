-- A step of a client that goes on lowers the steps that its task has to come.
use Rattle.std.proofs.Common.{◌≡◌, ◌∙◌, ◌<◌, ◌==◌, ◌||◌, inl, inr, ℕ, Bool, true, false, cond, List, [], ◌∷◌, ◌++◌, find, Option, Some, None, Err, option_map, refl, sym, ap, subst}
use Rattle.std.specs.Option.{option_map_or}
use Rattle.std.proofs.lemmas.Bool.{eq-eqb}
use Rattle.bcv_base.specs.declared.clock.Now.{Now}
use Rattle.bcv_base.specs.declared.clock.Now.TheVariants as now
use Rattle.bcv_base.specs.declared.id.Id16.{Id16}
use Rattle.bcv_base.specs.declared.seen.Latest.{Latest}
use Rattle.bcv_base.specs.declared.seen.Seen.{Seen}
use Rattle.bcv_base.specs.Drawn.{NamesShown}
use Rattle.bcv_base.specs.Moments.{ClockShown}
use Rattle.bcv_base.specs.Image.{Writes}
use Rattle.bcv_cache.specs.Entry.{Blocks}
use Rattle.bcv_cleanup.specs.Released.{RuleAnswers}
use Rattle.bcv_databases.specs.declared.known.Known.{Known}
use Rattle.bcv_disk.specs.DiskShown.{DiskShown, DiskTold}
use Rattle.bcv_ledger.specs.declared.ledger.Ledger.{Ledger}
use Rattle.bcv_model.specs.declared.ask.Ask.{Ask}
use Rattle.bcv_model.specs.declared.ask.Ask.TheVariants as ask
use Rattle.bcv_model.specs.declared.kept.Kept.{Kept}
use Rattle.bcv_model.specs.declared.reply.Reply.{Reply}
use Rattle.bcv_model.specs.declared.reply.Reply.TheVariants as reply
use Rattle.bcv_publish.specs.declared.work.Work.{Work}
use Rattle.bcv_publisher.specs.PollStep.{PollLeaves}
use Rattle.bcv_publisher.specs.ResolveStep.{ResolveLeaves}
use Rattle.bcv_slots.specs.declared.Slot.{Slot}
use Rattle.bcv_slots.specs.Numbered.{has_number, item_at, numbers_of}
use Rattle.bcv_store.specs.StoreShown.{StoreShown, StoreTold}
use Rattle.bcv_tasks.specs.declared.publish_task.PublishTask.{PublishTask}
use Rattle.bcv_tasks.specs.declared.publish_task.PublishTask.TheVariants as task
use Rattle.bcv_tasks.specs.State.{IsRunning, is_ready}
use Rattle.bcv_tasks.specs.TaskWork.{WorkLeaves}
use Rattle.bcv_transaction.specs.declared.answers.Stepped.{Stepped}
use Rattle.bcv_transaction.specs.declared.answers.Stepped.TheVariants as stepped
use Rattle.bcv_client.specs.Descent.{Descends, PublicationDescends, StepDescends, TaskDescends, job_steps, publish_steps, steps_to_come}
use Rattle.bcv_client.specs.FetchOver.{stepped_reply}
use Rattle.bcv_client.specs.PublicationPut.{ClientPuts, PutsAt, PutsBy, signed}
use Rattle.bcv_client.specs.PublicationOver.{view_at}
use Rattle.bcv_client.specs.ResolveOver.{ClientResolves}
use Rattle.bcv_client.specs.TaskCalls.{is_working}
use Rattle.bcv_client.specs.TaskRequests.{ClientWorks, cache_for}
use Rattle.bcv_client.specs.TaskTaken.{CanGiveBack, GivesBack, TakesTask, TaskOut}
use Rattle.bcv_client.specs.declared.client.Client.{Client}
use Rattle.bcv_client.specs.declared.job.Job.{Job}
use Rattle.bcv_client.specs.declared.job.Job.TheVariants as job
use Rattle.bcv_client.proofs.PutUntimed.{reply_is}
use Rattle.bcv_client.proofs.TasksFall.{put_falls, work_falls}

-- ---- replies that end a task

-- a reply that ends a task says nothing more of it
quiet_task : (r : Reply) (t u : PublishTask) → is_working r ≡ false → TaskDescends t r u
quiet_task (reply.Working left) t u ended = absurd (let e : true ≡ false = ended in cc)
quiet_task _ t u ended = tt

pub quiet_publication : {D : Type 0} {g : _} (c : Client D g) (n set taken : ℕ) (t : PublishTask) (r : Reply) → is_working r ≡ false → PublicationDescends c n set taken t r
quiet_publication c n set taken t (reply.Working left) ended = absurd (let e : true ≡ false = ended in cc)
quiet_publication c n set taken t _ ended = tt

pub quiet_step : {D : Type 0} {g : _} (old new : Client D g) (n : ℕ) (r : Reply) → is_working r ≡ false → StepDescends old new n r
quiet_step old new n (reply.Working left) ended = absurd (let e : true ≡ false = ended in cc)
quiet_step old new n _ ended = tt

-- ---- steps of a fetch, a poll and a resolve

pub fetch_ends : (r : Reply) (s : Stepped) → r ≡ stepped_reply s → is_working r ≡ false
fetch_ends r s is = ap is_working is ∙ by s
  where
    by : (s : Stepped) → is_working (stepped_reply s) ≡ false
    by (stepped.Page bytes) = refl
    by stepped.Held = refl
    by stepped.CacheFull = refl
    by stepped.BadPage = refl
    by stepped.NoTxn = refl
    by stepped.Gone = refl
    by (stepped.BadBlock len) = refl
    by stepped.StoreFault = refl
    by stepped.NoMemory = refl

pub poll_ends : (kept : Kept) (before known : List Known) (s t : Seen) (k l : Option Latest) (r : Reply) → PollLeaves kept before known s t k l r → is_working r ≡ false
poll_ends kept before known s t k l (reply.Working left) leaves = absurd leaves
poll_ends kept before known s t k l _ leaves = refl

leaves_ends : {D : Type 0} {g : _} (old new : Ledger D g) (id : Id16) (r : Reply) → ResolveLeaves old new id r → is_working r ≡ false
leaves_ends old new id (reply.Working left) leaves = absurd leaves
leaves_ends old new id _ leaves = refl

pub resolve_ends : {D : Type 0} {g : _} (told : DiskTold) (shown : D → DiskShown) (store : StoreTold) (before after : StoreShown) (old new : Client D g) (r : Reply)
    → ClientResolves told shown store before after old new r → is_working r ≡ false
resolve_ends told shown store before after old new r resolves = leaves_ends old.ledger resolves.mid resolves.resolves.pending.id r resolves.resolves.leaves

-- ---- the step of a publishing task

module _ {D : Type 0} {g : _} (told : DiskTold) (shown : D → DiskShown) (store : StoreTold) (before after : StoreShown) (clock later_clock : ClockShown) (old new : Client D g) where
  -- before its put
  pub work_descends : (answers : RuleAnswers) (names later_names : NamesShown) (set : ℕ) (t u : PublishTask) (r : Reply) → IsRunning t → is_ready t ≡ false
      → ClientWorks told shown answers store before after names later_names clock later_clock old new set t r u → TaskDescends t r u
  work_descends answers names later_names set t u (reply.Working left) run not_ready (inl w) =
      let view : List Writes = view_at old.ledger.databases set t in
      let blocks : Blocks = cache_for old.txns t in
      work_falls answers old.seen view blocks t u left (subst (λ (x : Work). WorkLeaves answers old.seen view blocks t x u) w.step.is_reply w.step.leaves) run w.step.task.0 not_ready w.step.task.1
  work_descends answers names later_names set t u (reply.Working left) run not_ready (inr w) = absurd (let e : ◌≡◌ {A = Reply} (reply.Working left) reply.NoMemory = w.memory in cc)
  work_descends answers names later_names set t u _ run not_ready w = tt

  -- at its put
  put_descends_at : (set taken moment : ℕ) (t u : PublishTask) (r : Reply) → IsRunning t → is_ready t ≡ true → PutsAt told shown store before after old new set taken t moment r u → TaskDescends t r u
  put_descends_at set taken moment t u (reply.Working left) run ready puts =
      let on = puts.puts.leaves in
      put_falls moment left t u on.leaves run ready on.two on.counted
  put_descends_at set taken moment t u _ run ready puts = tt

  put_descends_by : (set taken : ℕ) (t u : PublishTask) (r : Reply) (read : Now) → IsRunning t → is_ready t ≡ true
      → PutsBy told shown store before after old new set taken t r u read → TaskDescends t r u
  put_descends_by set taken t u r (now.At moment) run ready puts = put_descends_at set taken moment t u r run ready puts
  put_descends_by set taken t u r now.Failed run ready ends =
      quiet_task r t u (reply_is told shown old.ledger new.ledger t r (λ (x : Reply). is_working x ≡ false) refl refl refl refl old.ledger.databases.kept.pending ends.ends)

  pub put_descends : (set taken : ℕ) (t u : PublishTask) (r : Reply) → IsRunning t → is_ready t ≡ true → ClientPuts told shown store before after clock later_clock old new set taken t r u
      → TaskDescends t r u
  put_descends set taken (task.Create c) u r run ready puts = by r puts.read puts.by
    where
      from : (r : Reply) → TaskDescends (signed old.id (task.Create c)) r u → TaskDescends (task.Create c) r u
      from (reply.Working left) falls = record { left_is = falls.left_is; below = falls.below; fewer = falls.fewer }
      from _ falls = tt

      by : (r : Reply) (read : Now) → PutsBy told shown store before after old new set taken (signed old.id (task.Create c)) r u read → TaskDescends (task.Create c) r u
      by r read b = from r (put_descends_by set taken (signed old.id (task.Create c)) u r read (record { size = run.size; waits = run.waits }) ready b)
  put_descends set taken (task.Copy id s) u r run ready puts = put_descends_by set taken (task.Copy id s) u r puts.read run ready puts.by
  put_descends set taken (task.Upload id s) u r run ready puts = put_descends_by set taken (task.Upload id s) u r puts.read run ready puts.by
  put_descends set taken (task.Cleanup id s) u r run ready puts = put_descends_by set taken (task.Cleanup id s) u r puts.read run ready puts.by

-- ---- the task that is put back

-- an item that was added last, under a number that no other has
added_last : (n : ℕ) (ss : List (Slot Job)) (j : Job) → has_number n (numbers_of ss) ≡ false → item_at n (ss ++ record { number = n; item = j } ∷ []) ≡ Some j
added_last n [] j free = ap (λ (b : Bool). option_map (λ (s : Slot Job). s.item) (cond b (Some (record { number = n; item = j })) None)) (eq-eqb n n refl)
added_last n (s ∷ ss) j free =
    elim (s.number == n) as (λ (b : Bool). (b || has_number n (numbers_of ss)) ≡ false
    → option_map (λ (x : Slot Job). x.item) (cond b (Some s) (find (λ (x : Slot Job). x.number == n) (ss ++ record { number = n; item = j } ∷ []))) ≡ Some j) [
      | true ↦ λ h. absurd (let e : true ≡ false = h in cc)
      | false ↦ λ h. added_last n ss j h
    ] free

pub back_descends : {D : Type 0} {g : _} (mid new : Client D g) (n set taken : ℕ) (t u : PublishTask) (r : Reply) → CanGiveBack n mid.tasks.items
    → GivesBack mid new n (job.Publish set taken u) → TaskDescends t r u → PublicationDescends new n set taken t r
back_descends mid new n set taken t u (reply.Working left) place back falls = record {
  new = u;
  there = ap (item_at n) back.tasks ∙ added_last n mid.tasks.items (job.Publish set taken u) place.free;
  falls = falls;
}
back_descends mid new n set taken t u _ place back falls = tt

-- ---- the task of a number

-- how many steps a publishing task has to come
steps_are : {D : Type 0} {g : _} (c : Client D g) (n set taken : ℕ) (t : PublishTask) → item_at n c.tasks.items ≡ Some (job.Publish set taken t) → steps_to_come c n ≡ publish_steps t
steps_are c n set taken t is = ap (λ (o : Option Job). option_map_or job_steps o 0) is

pub publication_descends : {D : Type 0} {g : _} (old mid new : Client D g) (n set taken : ℕ) (t : PublishTask) (r : Reply) → TaskOut old mid n (job.Publish set taken t)
    → PublicationDescends new n set taken t r → StepDescends old new n r
publication_descends old mid new n set taken t (reply.Working left) out stays = record {
  set = set;
  taken = taken;
  before = t;
  was = out.found;
  stays = stays;
  fewer =
      subst (λ (k : ℕ). k < steps_to_come old n) (sym (steps_are new n set taken stays.new stays.there))
      (subst (λ (k : ℕ). publish_steps stays.new < k) (sym (steps_are old n set taken t out.found)) stays.falls.fewer);
}
publication_descends old mid new n set taken t _ out stays = tt

-- no task was taken out
pub refused_descends : {D : Type 0} {g : _} (old mid : Client D g) (n : ℕ) (r : Reply) → TakesTask old mid n (Err r) → StepDescends old mid n r
refused_descends old mid n (reply.Working left) takes = absurd takes
refused_descends old mid n _ takes = tt

-- ---- asks

-- what an ask says, by which it is
pub as_descends : {D : Type 0} {g : _} (q p : Ask) (old new : Client D g) (r : Reply) → q ≡ p → Descends p old new r → Descends q old new r
as_descends q p old new r is descends = subst (λ (x : Ask). Descends x old new r) (sym is) descends

-- the measure of a loop that repeats a step: each step that answers Working lowers it
pub fewer_to_come : {D : Type 0} {g : _} (old new : Client D g) (n left : ℕ) → Descends (ask.Step n) old new (reply.Working left) → steps_to_come new n < steps_to_come old n
fewer_to_come old new n left descends = descends.fewer
