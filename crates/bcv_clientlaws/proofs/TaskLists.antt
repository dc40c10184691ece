-- A client's tasks by their numbers are the machine's.
use Rattle.std.proofs.Common.{◌≡◌, ◌∙◌, ◌==◌, not, List, [], ◌∷◌, refl, sym, ap, filter, Option, ℕ}
use Rattle.bcv_machine.specs.Reading.{is_job_of}
use Rattle.bcv_machine.specs.State as m
use Rattle.bcv_machine.specs.State.{with_up}
use Rattle.bcv_model.specs.declared.kept.PendingPub.{PendingPub}
use Rattle.bcv_clientstate.specs.Parts.{OpenTxn, Job, Fetching, Polling, Creating, Copying, Uploading, Cleaning, Resolving, Task}
use Rattle.bcv_clientstate.specs.SeenClient.{seen_job, seen_task, seen_txn, seen_up, side_of}
use Rattle.bcv_clientlaws.specs.TaskLists.{FreeIsFree, JobIsBusy, TaskComes, TaskGoes, TaskGoesOn, TaskIsFound, TaskNumbersAre, TxnEnds, TxnNumbersAre, fetches_for, task_number, with_ended_txn}
use Rattle.bcv_clientlaws.proofs.Lists.{filter_map, find_map, map_append, map_map}

pub task_goes : TaskGoes
task_goes past n p =
    ap (λ (ts : List m.Task). record (seen_up past p) { tasks = ts })
    (sym (filter_map (seen_task p.kept.pending) (λ (t : m.Task). not (t.number == n)) (λ (t : Task). not (t.number == n)) (λ t. refl) p.tasks))

pub task_comes : TaskComes
task_comes past t p = ap (λ (ts : List m.Task). record (seen_up past p) { tasks = ts }) (map_append (seen_task p.kept.pending) p.tasks (t ∷ []))

same_fetch : (waiting : Option PendingPub) (n : ℕ) (j : Job) → is_job_of n (seen_job waiting j) ≡ fetches_for n j
same_fetch waiting n (Fetching access txn page) = refl
same_fetch waiting n Polling = refl
same_fetch waiting n (Creating block retention id) = refl
same_fetch waiting n (Copying s) = refl
same_fetch waiting n (Uploading s view) = refl
same_fetch waiting n (Cleaning s) = refl
same_fetch waiting n Resolving = refl

pub txn_ends : TxnEnds
txn_ends past n p =
    ap (λ (ts : List m.Txn). record (seen_up past (with_ended_txn n p)) { txns = ts })
    (sym (filter_map (seen_txn past) (λ (t : m.Txn). not (t.number == n)) (λ (t : OpenTxn). not (t.number == n)) (λ t. refl) p.txns))
    ∙ ap (λ (ts : List m.Task). record (seen_up past p) { txns = filter (λ (t : m.Txn). not (t.number == n)) (seen_up past p).txns; tasks = ts })
    (sym (filter_map (seen_task p.kept.pending) (λ (t : m.Task). not (is_job_of n t.job)) (λ (t : Task). not (fetches_for n t.job)) (λ t. ap not (same_fetch p.kept.pending n t.job)) p.tasks))

pub task_goes_on : TaskGoesOn
task_goes_on moment past n j q p f is =
    ap (λ (u : m.Up). with_up (side_of moment past p f) u) (task_comes past (record { number = n; job = j }) p)
    ∙ ap (λ (k : m.Job). with_up (side_of moment past p f) (m.with_task (seen_up past p) n k)) is

pub task_is_found : TaskIsFound
task_is_found past n p = find_map (seen_task p.kept.pending) (λ (t : m.Task). t.number == n) (λ (t : Task). t.number == n) (λ t. refl) p.tasks

pub job_is_busy : JobIsBusy
job_is_busy waiting (Fetching access txn page) = refl
job_is_busy waiting Polling = refl
job_is_busy waiting (Creating block retention id) = refl
job_is_busy waiting (Copying s) = refl
job_is_busy waiting (Uploading s view) = refl
job_is_busy waiting (Cleaning s) = refl
job_is_busy waiting Resolving = refl

pub task_numbers_are : TaskNumbersAre
task_numbers_are past p = map_map (λ (t : m.Task). t.number) (seen_task p.kept.pending) task_number (λ t. refl) p.tasks

pub txn_numbers_are : TxnNumbersAre
txn_numbers_are past p = map_map (λ (t : m.Txn). t.number) (seen_txn past) (λ (t : OpenTxn). t.number) (λ t. refl) p.txns

pub free_is_free : FreeIsFree
free_is_free past p = ap m.least_free (task_numbers_are past p)
