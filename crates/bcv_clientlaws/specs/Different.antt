-- The numbers of tasks and of transactions stay different, and no more than one task publishes.
use Rattle.std.specs.Prelude.{◌≡◌, ℕ, ◌==◌, not, true, false, List, [], ◌∷◌, ◌++◌, filter, Some}
use Rattle.std.specs.List.{list_any}
use Rattle.bcv_slots.specs.Numbered.{AreDifferent, least_free}
use Rattle.bcv_clientstate.specs.PartRefusals.{is_publishing, runs_publication}
use Rattle.bcv_clientstate.specs.Parts.{OpenTxn, Task, Parts}
use Rattle.bcv_clientlaws.specs.TaskLists.{task_at, task_numbers, txn_numbers, with_ended_txn, with_task, without_task}

-- ---- tasks

-- one that ends
abbrev pub DifferWithoutTask : Type 0
DifferWithoutTask =
    (n : ℕ) (p : Parts) → AreDifferent (task_numbers p) → AreDifferent (task_numbers (without_task n p))

-- a new one, under the least free number
abbrev pub DifferWithNew : Type 0
DifferWithNew =
    (t : Task) (p : Parts) → AreDifferent (task_numbers p) → least_free (task_numbers p) ≡ Some t.number
    → AreDifferent (task_numbers (with_task t p))

-- one that goes on, under the number that it had
abbrev pub DifferAsBefore : Type 0
DifferAsBefore =
    (t : Task) (p : Parts) → AreDifferent (task_numbers p)
    → AreDifferent (task_numbers (with_task t (without_task t.number p)))

-- those that fetch for a transaction that ends
abbrev pub DifferWithEnded : Type 0
DifferWithEnded = (n : ℕ) (p : Parts) → AreDifferent (task_numbers p) → AreDifferent (task_numbers (with_ended_txn n p))

-- ---- transactions

abbrev pub with_txns : List OpenTxn → Parts → Parts
with_txns ts p = record p { txns = ts }

abbrev pub with_txn : OpenTxn → Parts → Parts
with_txn t p = with_txns (p.txns ++ t ∷ []) p

abbrev pub without_txn : ℕ → Parts → Parts
without_txn n p = with_txns (filter (λ (t : OpenTxn). not (t.number == n)) p.txns) p

abbrev pub DifferWithoutTxn : Type 0
DifferWithoutTxn =
    (n : ℕ) (p : Parts) → AreDifferent (txn_numbers p) → AreDifferent (txn_numbers (without_txn n p))

abbrev pub DifferWithTxn : Type 0
DifferWithTxn =
    (t : OpenTxn) (p : Parts) → AreDifferent (txn_numbers p) → least_free (txn_numbers p) ≡ Some t.number
    → AreDifferent (txn_numbers (with_txn t p))

-- ---- one that publishes

abbrev pub publishes : Task → Type 0
publishes t = is_publishing t.job ≡ true

-- where a task publishes or resolves, none after it does
abbrev pub AtMostOne : List Task → Type 0
AtMostOne [] = Unit {0}
AtMostOne (t ∷ ts) =
    (is_publishing t.job ≡ true → list_any (λ (x : Task). is_publishing x.job) ts ≡ false) × AtMostOne ts

-- the others are none, where the task of a number is one
abbrev pub OthersAreNone : Type 0
OthersAreNone =
    (n : ℕ) (t : Task) (p : Parts) → AtMostOne p.tasks → task_at n p ≡ Some t → is_publishing t.job ≡ true
    → runs_publication (without_task n p) ≡ false

abbrev pub OneWithout : Type 0
OneWithout = (n : ℕ) (p : Parts) → AtMostOne p.tasks → AtMostOne (without_task n p).tasks

abbrev pub OneWithEnded : Type 0
OneWithEnded = (n : ℕ) (p : Parts) → AtMostOne p.tasks → AtMostOne (with_ended_txn n p).tasks

-- any task may come where none is one
abbrev pub OneWith : Type 0
OneWith = (t : Task) (p : Parts) → runs_publication p ≡ false → AtMostOne (with_task t p).tasks

-- and one that is none may come always
abbrev pub OneWithOther : Type 0
OneWithOther =
    (t : Task) (p : Parts) → is_publishing t.job ≡ false → AtMostOne p.tasks → AtMostOne (with_task t p).tasks
