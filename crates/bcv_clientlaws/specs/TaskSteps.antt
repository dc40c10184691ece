-- The machine's step of a task by its number, from that of its job over the client without the task.
use Rattle.std.specs.Prelude.{◌≡◌, ◌&&◌, ℕ, Bool, true, false, List, Some, None}
use Rattle.bcv_base.specs.declared.outcome.Outcome.{Outcome}
use Rattle.bcv_base.specs.History.{Item}
use Rattle.bcv_machine.specs.State as m
use Rattle.bcv_machine.specs.State.{with_up}
use Rattle.bcv_machine.specs.Step.{IsQuiet, Steps, StepsJob}
use Rattle.bcv_model.specs.declared.reply.Reply.TheVariants as reply
use Rattle.bcv_model.specs.declared.reply.Said.{Said}
use Rattle.bcv_clientstate.specs.PartRefusals.{is_publishing}
use Rattle.bcv_clientstate.specs.Parts.{Task, Parts}
use Rattle.bcv_clientstate.specs.SeenClient.{Free, seen_job, seen_up, side_of}
use Rattle.bcv_clientlaws.specs.TaskLists.{task_at, without_task}

-- a step looks at what the client is up with, and at nothing else that the side has of it
abbrev pub StepsSeeNoTasks : Type 0
StepsSeeNoTasks =
    (j : m.Job) (n : ℕ) (s : m.Side) (u : m.Up) (o : Outcome) (said : Said) (second : Bool) (t : m.Side)
    → StepsJob j n (with_up s u) u o said second t → StepsJob j n s u o said second t

-- the step of a task's job, over the client without the task, is that of its number
abbrev pub StepIsOfTask : Type 0
StepIsOfTask =
    (moment : ℕ) (past : List Item) (p : Parts) (f : Free) (n : ℕ) (x : Task) (o : Outcome) (said : Said)
    (second : Bool) (t : m.Side)
    → task_at n p ≡ Some x → (p.closed && is_publishing x.job) ≡ false
    → StepsJob (seen_job p.kept.pending x.job) x.number (side_of moment past (without_task x.number p) f)
    (seen_up past (without_task x.number p)) o said second t
    → Steps (m.task_at (seen_up past p) n) (side_of moment past p f) (seen_up past p) o said second t

-- where the journal is closed, a task that publishes or resolves ends
abbrev pub ClosedEndsTask : Type 0
ClosedEndsTask =
    (moment : ℕ) (past : List Item) (p : Parts) (f : Free) (n : ℕ) (x : Task) (o : Outcome) (said : Said)
    (second : Bool)
    → task_at n p ≡ Some x → (p.closed && is_publishing x.job) ≡ true → IsQuiet said reply.Closed
    → Steps (m.task_at (seen_up past p) n) (side_of moment past p f) (seen_up past p) o said second
    (side_of moment past (without_task x.number p) f)

-- no task has the number
abbrev pub NoTaskSteps : Type 0
NoTaskSteps =
    (moment : ℕ) (past : List Item) (p : Parts) (f : Free) (n : ℕ) (o : Outcome) (said : Said) (second : Bool)
    → task_at n p ≡ None → IsQuiet said reply.NoTask
    → Steps (m.task_at (seen_up past p) n) (side_of moment past p f) (seen_up past p) o said second
    (side_of moment past p f)
