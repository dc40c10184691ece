-- A client's tasks by their numbers: looked up, taken out and put last; and that these are the machine's.
use Rattle.std.specs.Prelude.{◌≡◌, ℕ, ◌==◌, Bool, false, not, List, [], ◌∷◌, ◌++◌, map, filter, find, Option, Some}
use Rattle.std.specs.Option.{option_map}
use Rattle.bcv_base.specs.History.{Item}
use Rattle.bcv_machine.specs.Reading.{without_txn}
use Rattle.bcv_machine.specs.Refusals as refusals
use Rattle.bcv_machine.specs.State as m
use Rattle.bcv_machine.specs.Step.{give_back}
use Rattle.bcv_model.specs.declared.kept.PendingPub.{PendingPub}
use Rattle.bcv_slots.specs.Numbered.{least_free}
use Rattle.bcv_clientstate.specs.PartRefusals.{is_publishing}
use Rattle.bcv_clientstate.specs.Parts.{OpenTxn, Job, Fetching, Polling, Creating, Copying, Uploading, Cleaning, Resolving, Task, Parts}
use Rattle.bcv_clientstate.specs.SeenClient.{Free, seen_job, seen_task, seen_up, side_of}

-- ---- in the parts

abbrev pub with_tasks : List Task → Parts → Parts
with_tasks ts p = record p { tasks = ts }

abbrev pub task_number : Task → ℕ
task_number t = t.number

abbrev pub task_numbers : Parts → List ℕ
task_numbers p = map task_number p.tasks

abbrev pub txn_numbers : Parts → List ℕ
txn_numbers p = map (λ (t : OpenTxn). t.number) p.txns

abbrev pub task_at : ℕ → Parts → Option Task
task_at n p = find (λ (t : Task). t.number == n) p.tasks

-- with one more task, the last one
abbrev pub with_task : Task → Parts → Parts
with_task t p = with_tasks (p.tasks ++ t ∷ []) p

-- with the task of a number taken out
abbrev pub without_task : ℕ → Parts → Parts
without_task n p = with_tasks (filter (λ (t : Task). not (t.number == n)) p.tasks) p

-- the job fetches a page of the transaction of a number
abbrev pub fetches_for : ℕ → Job → Bool
fetches_for n (Fetching access txn page) = txn == n
fetches_for n Polling = false
fetches_for n (Creating block retention id) = false
fetches_for n (Copying s) = false
fetches_for n (Uploading s view) = false
fetches_for n (Cleaning s) = false
fetches_for n Resolving = false

-- with the transaction of a number ended: without it, and without the tasks that fetch for it
abbrev pub with_ended_txn : ℕ → Parts → Parts
with_ended_txn n p =
    record p {
      txns = filter (λ (t : OpenTxn). not (t.number == n)) p.txns;
      tasks = filter (λ (t : Task). not (fetches_for n t.job)) p.tasks;
    }

-- ---- the list

-- a task that is taken out
abbrev pub TaskGoes : Type 0
TaskGoes =
    (past : List Item) (n : ℕ) (p : Parts) → seen_up past (without_task n p) ≡ m.without_task (seen_up past p) n

-- one that is put last
abbrev pub TaskComes : Type 0
TaskComes =
    (past : List Item) (t : Task) (p : Parts)
    → seen_up past (with_task t p) ≡ m.with_task (seen_up past p) t.number (seen_job p.kept.pending t.job)

-- a transaction that ends takes its tasks along
abbrev pub TxnEnds : Type 0
TxnEnds = (past : List Item) (n : ℕ) (p : Parts) → seen_up past (with_ended_txn n p) ≡ without_txn (seen_up past p) n

-- a publication that goes on
abbrev pub TaskGoesOn : Type 0
TaskGoesOn =
    (moment : ℕ) (past : List Item) (n : ℕ) (j : Job) (q : m.Publication) (p : Parts) (f : Free)
    → seen_job p.kept.pending j ≡ m.Publishing q
    → side_of moment past (with_task (record { number = n; job = j }) p) f ≡ give_back n (Some q)
    (side_of moment past p f)

-- ---- one task

abbrev pub TaskIsFound : Type 0
TaskIsFound =
    (past : List Item) (n : ℕ) (p : Parts)
    → m.task_at (seen_up past p) n ≡ option_map (seen_task p.kept.pending) (task_at n p)

-- it publishes or resolves
abbrev pub JobIsBusy : Type 0
JobIsBusy =
    (waiting : Option PendingPub) (j : Job) → refusals.ends_pending (seen_job waiting j) ≡ is_publishing j

-- ---- numbers

abbrev pub TaskNumbersAre : Type 0
TaskNumbersAre = (past : List Item) (p : Parts) → m.task_numbers (seen_up past p) ≡ task_numbers p

abbrev pub TxnNumbersAre : Type 0
TxnNumbersAre = (past : List Item) (p : Parts) → m.txn_numbers (seen_up past p) ≡ txn_numbers p

abbrev pub FreeIsFree : Type 0
FreeIsFree =
    (past : List Item) (p : Parts)
    → m.least_free (m.task_numbers (seen_up past p)) ≡ least_free (task_numbers p)
