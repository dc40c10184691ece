-- The counts of the names and of the clock do not fall in a call of a client.
use Rattle.std.proofs.Common.{◌≡◌, ◌≤◌, ℕ, List, Option, Some, None, inl, inr, ap, arith}
use Rattle.bcv_base.specs.declared.clock.Now.{Now}
use Rattle.bcv_base.specs.declared.clock.Now.TheVariants as now
use Rattle.bcv_base.specs.declared.id.Id16.{Id16}
use Rattle.bcv_base.specs.declared.names.Draw.{Draw}
use Rattle.bcv_base.specs.declared.names.Draw.TheVariants as draw
use Rattle.bcv_base.specs.Drawn.{Draws, NamesShown}
use Rattle.bcv_base.specs.Moments.{ClockShown, Tells}
use Rattle.bcv_cleanup.specs.Released.{RuleAnswers}
use Rattle.bcv_disk.specs.DiskShown.{DiskShown, DiskTold}
use Rattle.bcv_machine.specs.State as m
use Rattle.bcv_model.specs.declared.reply.Reply.{Reply}
use Rattle.bcv_model.specs.declared.reply.Reply.TheVariants as reply
use Rattle.bcv_publish.specs.declared.work.Work.{Work}
use Rattle.bcv_publish.specs.declared.work.Work.TheVariants as work
use Rattle.bcv_store.specs.StoreShown.{StoreShown, StoreTold}
use Rattle.bcv_tasks.specs.declared.publish_task.PublishTask.{PublishTask}
use Rattle.bcv_tasks.specs.declared.publish_task.PublishTask.TheVariants as task
use Rattle.bcv_tasks.specs.TaskWork.{ClockCause, NamesCause}
use Rattle.bcv_client.specs.CallFaults.{CountsOn}
use Rattle.bcv_client.specs.NewTasks.{DrewNone, StartsDrawn, StartsPublication}
use Rattle.bcv_client.specs.TaskRequests.{ClientWorks}
use Rattle.bcv_client.specs.declared.client.Client.{Client}
use Rattle.bcv_client.specs.declared.job.Job.{Job}
use Rattle.bcv_client.specs.declared.job.Job.TheVariants as job

not_less : (a b : ℕ) → b ≡ a → a ≤ b
not_less a b same = omega (arith, same)

pub counts_still : (store : StoreShown) (names : NamesShown) (clock : ClockShown) → CountsOn store store names names clock clock
counts_still store names clock = record { store = omega arith; names = omega arith; clock = omega arith }

pub counts_asked : (before after : StoreShown) (names : NamesShown) (clock : ClockShown) → before.faults ≤ after.faults → CountsOn before after names names clock clock
counts_asked before after names clock later = record { store = later; names = omega arith; clock = omega arith }

-- ---- draws

drawn_later : (before after : NamesShown) (d : Draw) → Draws before after d → before.faults ≤ after.faults
drawn_later before after (draw.Drawn id) draws = not_less before.faults after.faults draws.cause
drawn_later before after draw.Failed draws = draws.cause.0

same_later : (before after : NamesShown) → after ≡ before → before.faults ≤ after.faults
same_later before after same = not_less before.faults after.faults (ap (λ (n : NamesShown). n.faults) same)

none_later : (j : Job) (before after : NamesShown) (id : Id16) → DrewNone j before after id → before.faults ≤ after.faults
none_later (job.Publish set taken (task.Upload i s)) before after id (inl same) = same_later before after same
none_later (job.Publish set taken (task.Upload i s)) before after id (inr draws) = drawn_later before after (draw.Drawn id) draws
none_later _ before after id same = same_later before after same

-- ---- moments

told_later : (before after : ClockShown) (n : Now) → Tells before after n → before.faults ≤ after.faults
told_later before after (now.At moment) tells = not_less before.faults after.faults tells.cause
told_later before after now.Failed tells = tells.cause.0

pub told_counts : (store later : StoreShown) (names : NamesShown) (before after : ClockShown) (n : Now) → store.faults ≤ later.faults → Tells before after n
    → CountsOn store later names names before after
told_counts store later names before after n counted tells = record { store = counted; names = omega arith; clock = told_later before after n tells }

-- ---- tasks

names_later : (before after : ℕ) (w : Work) → NamesCause before after w → before ≤ after
names_later before after work.NamesFault cause = cause.0
names_later before after _ same = not_less before after same

clock_later : (before after : ℕ) (w : Work) → ClockCause before after w → before ≤ after
clock_later before after work.ClockFault cause = cause.0
clock_later before after _ same = not_less before after same

module _ {D : Type 0} {g : _} where
  starts_later : (old new : Client D g) (before after : NamesShown) (id : Id16) (j : Job) (why : Option Reply) (r : Reply) → StartsDrawn old new before after id j why r
      → before.faults ≤ after.faults
  starts_later old new before after id j (Some why) r starts = same_later before after starts.2
  starts_later old new before after id j None (reply.Task n k) starts = drawn_later before after (draw.Drawn id) starts.2
  starts_later old new before after id j None reply.NamesFault starts = drawn_later before after draw.Failed starts.1
  starts_later old new before after id j None reply.NoMemory starts = none_later j before after id starts.1
  starts_later old new before after id j None _ starts = absurd starts

  -- an ask that starts a publication draws at most its name, and asks no clock
  pub starts_count : {shown : D → DiskShown} {goes : Id16 → m.Side → m.Up → m.Side → Type 0} {why : Option Reply} (store : StoreShown) (clock : ClockShown) (before after : NamesShown) (old new : Client D g)
      (j : Id16 → Job) (r : Reply) → StartsPublication shown goes old new before after why j r → CountsOn store store before after clock clock
  starts_count {why = why} store clock before after old new j r starts =
      record { store = omega arith; names = starts_later old new before after starts.id (j starts.id) why r starts.starts; clock = omega arith }

  pub work_counts : (told : DiskTold) (shown : D → DiskShown) (answers : RuleAnswers) (store : StoreTold) (before after : StoreShown) (names later : NamesShown) (clock later_clock : ClockShown)
      (old new : Client D g) (set : ℕ) (t : PublishTask) (r : Reply) (u : PublishTask) → before.faults ≤ after.faults
      → ClientWorks told shown answers store before after names later clock later_clock old new set t r u → CountsOn before after names later clock later_clock
  work_counts told shown answers store before after names later clock later_clock old new set t r u counted (inl does) = record {
    store = counted;
    names = names_later names.faults later.faults does.step.made does.step.works.names_failed;
    clock = clock_later clock.faults later_clock.faults does.step.made does.step.works.clock_failed;
  }
  work_counts told shown answers store before after names later clock later_clock old new set t r u counted (inr none) = record {
    store = counted;
    names = same_later names later none.names_are;
    clock = not_less clock.faults later_clock.faults (ap (λ (k : ClockShown). k.faults) none.clock_is);
  }
