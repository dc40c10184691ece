-- The numbers of tasks and transactions stay different, and no more than one task publishes.
use Rattle.std.proofs.Common.{◌≡◌, ◌∙◌, ◌==◌, ℕ, Bool, true, false, not, cond, ◌||◌, List, [], ◌∷◌, ◌++◌, map, filter, find, Some, None, refl, sym, ap, subst}
use Rattle.std.specs.List.{list_any}
use Rattle.std.proofs.lemmas.Bool.{or_from, or_parts}
use Rattle.std.proofs.lemmas.List.Folds.{list_any-append}
use Rattle.std.proofs.lemmas.Option.{same_Some}
use Rattle.bcv_slots.specs.Numbered.{AreDifferent, but_for, has_number}
use Rattle.bcv_slots.proofs.NumbersDiffer.{differ_with, differ_without, free_is_none, others_have_none}
use Rattle.bcv_clientstate.specs.PartRefusals.{is_publishing}
use Rattle.bcv_clientstate.specs.Parts.{OpenTxn, Task}
use Rattle.bcv_clientlaws.specs.Different.{AtMostOne, DifferAsBefore, DifferWithEnded, DifferWithNew, DifferWithTxn, DifferWithoutTask, DifferWithoutTxn, OneWith, OneWithEnded, OneWithOther, OneWithout, OthersAreNone}
use Rattle.bcv_clientlaws.specs.TaskLists.{fetches_for, task_number}
use Rattle.bcv_clientlaws.proofs.Lists.{filter_map, map_append}

-- ---- numbers

numbers_left : (n : ℕ) (ts : List Task) → but_for n (map task_number ts) ≡ map task_number (filter (λ (t : Task). not (t.number == n)) ts)
numbers_left n ts = filter_map task_number (λ (k : ℕ). not (k == n)) (λ (t : Task). not (t.number == n)) (λ t. refl) ts

pub differ_without_task : DifferWithoutTask
differ_without_task n p all = subst AreDifferent (numbers_left n p.tasks) (differ_without n (map task_number p.tasks) all)

pub differ_with_new : DifferWithNew
differ_with_new t p all free =
    subst AreDifferent (sym (map_append task_number p.tasks (t ∷ [])))
    (differ_with t.number (map task_number p.tasks) all (free_is_none t.number (map task_number p.tasks) free))

pub differ_as_before : DifferAsBefore
differ_as_before t p all =
    let left : List Task = filter (λ (x : Task). not (x.number == t.number)) p.tasks in
    subst AreDifferent (sym (map_append task_number left (t ∷ [])))
    (subst (λ (ns : List ℕ). AreDifferent (ns ++ t.number ∷ [])) (numbers_left t.number p.tasks)
    (differ_with t.number (but_for t.number (map task_number p.tasks)) (differ_without t.number (map task_number p.tasks) all) (others_have_none t.number (map task_number p.tasks))))

none_of_kept : (k : ℕ) (test : Task → Bool) (ts : List Task) → has_number k (map task_number ts) ≡ false → has_number k (map task_number (filter test ts)) ≡ false
none_of_kept k test [] none = refl
none_of_kept k test (t ∷ ts) none =
    let q = or_parts (t.number == k) (has_number k (map task_number ts)) none in
    elim (test t) as (λ (b : Bool). has_number k (map task_number (cond b (t ∷ filter test ts) (filter test ts))) ≡ false) [
      | true ↦ or_from (t.number == k) (has_number k (map task_number (filter test ts))) q.0 (none_of_kept k test ts q.1)
      | false ↦ none_of_kept k test ts q.1
    ]

differ_filtered : (test : Task → Bool) (ts : List Task) → AreDifferent (map task_number ts) → AreDifferent (map task_number (filter test ts))
differ_filtered test [] all = tt
differ_filtered test (t ∷ ts) all =
    elim (test t) as (λ (b : Bool). AreDifferent (map task_number (cond b (t ∷ filter test ts) (filter test ts)))) [
      | true ↦ (none_of_kept t.number test ts all.0, differ_filtered test ts all.1)
      | false ↦ differ_filtered test ts all.1
    ]

pub differ_with_ended : DifferWithEnded
differ_with_ended n p all = differ_filtered (λ (t : Task). not (fetches_for n t.job)) p.tasks all

abbrev txn_number : OpenTxn → ℕ
txn_number t = t.number

pub differ_without_txn : DifferWithoutTxn
differ_without_txn n p all =
    subst AreDifferent (filter_map txn_number (λ (k : ℕ). not (k == n)) (λ (t : OpenTxn). not (t.number == n)) (λ t. refl) p.txns)
    (differ_without n (map txn_number p.txns) all)

pub differ_with_txn : DifferWithTxn
differ_with_txn t p all free =
    subst AreDifferent (sym (map_append txn_number p.txns (t ∷ [])))
    (differ_with t.number (map txn_number p.txns) all (free_is_none t.number (map txn_number p.txns) free))

-- ---- one that publishes

abbrev busy : Task → Bool
busy t = is_publishing t.job

none_kept : (test : Task → Bool) (ts : List Task) → list_any busy ts ≡ false → list_any busy (filter test ts) ≡ false
none_kept test [] none = refl
none_kept test (t ∷ ts) none =
    let p = or_parts (busy t) (list_any busy ts) none in
    elim (test t) as (λ (b : Bool). list_any busy (cond b (t ∷ filter test ts) (filter test ts)) ≡ false) [
      | true ↦ or_from (busy t) (list_any busy (filter test ts)) p.0 (none_kept test ts p.1)
      | false ↦ none_kept test ts p.1
    ]

one_kept : (test : Task → Bool) (ts : List Task) → AtMostOne ts → AtMostOne (filter test ts)
one_kept test [] one = tt
one_kept test (t ∷ ts) one =
    elim (test t) as (λ (b : Bool). AtMostOne (cond b (t ∷ filter test ts) (filter test ts))) [
      | true ↦ ((λ h. none_kept test ts (one.0 h)), one_kept test ts one.1)
      | false ↦ one_kept test ts one.1
    ]

pub one_without : OneWithout
one_without n p one = one_kept (λ (t : Task). not (t.number == n)) p.tasks one

pub one_with_ended : OneWithEnded
one_with_ended n p one = one_kept (λ (t : Task). not (fetches_for n t.job)) p.tasks one

none_before : (t : Task) (ts : List Task) → list_any busy ts ≡ false → AtMostOne (ts ++ t ∷ [])
none_before t [] none = ((λ h. refl), tt)
none_before t (x ∷ ts) none =
    let p = or_parts (busy x) (list_any busy ts) none in
    ((λ h. absurd (let both : true ≡ false = sym h ∙ p.0 in cc)), none_before t ts p.1)

pub one_with : OneWith
one_with t p none = none_before t p.tasks none

other_last : (t : Task) (ts : List Task) → busy t ≡ false → AtMostOne ts → AtMostOne (ts ++ t ∷ [])
other_last t [] other one = ((λ h. refl), tt)
other_last t (x ∷ ts) other one =
    ((λ h. list_any-append busy ts (t ∷ []) ∙ or_from (list_any busy ts) (busy t || false) (one.0 h) (or_from (busy t) false other refl)), other_last t ts other one.1)

pub one_with_other : OneWithOther
one_with_other t p other one = other_last t p.tasks other one

-- a task that is found and publishes is among those that do
found_busy : (test : Task → Bool) (ts : List Task) (t : Task) → find test ts ≡ Some t → busy t ≡ true → list_any busy ts ≡ false → ⊥
found_busy test [] t is h none = let e : None ≡ Some t = is in cc
found_busy test (x ∷ ts) t is h none =
    let p = or_parts (busy x) (list_any busy ts) none in
    elim (test x) as (λ (b : Bool). cond b (Some x) (find test ts) ≡ Some t → ⊥) [
      | true ↦ λ e. let both : true ≡ false = sym h ∙ ap busy (sym (same_Some x t e)) ∙ p.0 in cc
      | false ↦ λ e. found_busy test ts t e h p.1
    ] is

not_one : (b : Bool) → (b ≡ true → ⊥) → b ≡ false
not_one true f = absurd (f refl)
not_one false f = refl

none_left : (n : ℕ) (ts : List Task) (t : Task) → AtMostOne ts → find (λ (x : Task). x.number == n) ts ≡ Some t → busy t ≡ true
    → list_any busy (filter (λ (x : Task). not (x.number == n)) ts) ≡ false
none_left n [] t one is h = refl
none_left n (x ∷ ts) t one is h =
    elim (x.number == n) as (λ (b : Bool). cond b (Some x) (find (λ (y : Task). y.number == n) ts) ≡ Some t
    → list_any busy (cond (not b) (x ∷ filter (λ (y : Task). not (y.number == n)) ts) (filter (λ (y : Task). not (y.number == n)) ts)) ≡ false) [
      | true ↦ λ e. none_kept (λ (y : Task). not (y.number == n)) ts (one.0 (ap busy (same_Some x t e) ∙ h))
      | false ↦ λ e.
          or_from (busy x) (list_any busy (filter (λ (y : Task). not (y.number == n)) ts))
          (not_one (busy x) (λ b. found_busy (λ (y : Task). y.number == n) ts t e h (one.0 b)))
          (none_left n ts t one.1 e h)
    ] is

pub others_are_none : OthersAreNone
others_are_none n t p one is h = none_left n p.tasks t one is h
