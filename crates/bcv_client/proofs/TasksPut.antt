-- A task that is put last.
use Rattle.std.proofs.Common.{◌≡◌, ◌∙◌, ◌+◌, ◌<◌, ◌||◌, ℕ, zero, suc, Bool, true, false, not, cond, nat_le, List, [], ◌∷◌, ◌++◌, length, map, filter, find, Some, None, refl, sym, ap, subst, arith}
use Rattle.std.specs.List.{AllByRecursion, list_any, range_with_len}
use Rattle.std.proofs.lemmas.Bool.{leb-false}
use Rattle.std.proofs.lemmas.List.{length-append}
use Rattle.std.proofs.lemmas.Option.{same_Some}
use Rattle.bcv_base.specs.declared.seen.Seen.{Seen}
use Rattle.bcv_clientlaws.specs.Different.{AtMostOne}
use Rattle.bcv_clientlaws.proofs.Lists.{map_append}
use Rattle.bcv_clientstate.specs.PartRefusals.{is_publishing}
use Rattle.bcv_clientstate.specs.Parts as parts
use Rattle.bcv_databases.specs.Catalog.{Catalog}
use Rattle.bcv_slots.specs.declared.Slot.{Slot}
use Rattle.bcv_slots.specs.Numbered.{AreDifferent, has_number, least_free, numbers_of}
use Rattle.bcv_slots.proofs.NumbersDiffer.{differ_with, free_is_none}
use Rattle.bcv_transaction.specs.Open.{Open}
use Rattle.bcv_client.specs.ClientForm.{IsInForm, JobInForm}
use Rattle.bcv_client.specs.TaskParts.{task_part}
use Rattle.bcv_client.specs.declared.job.Job.{Job}

abbrev pub slot : ℕ → Job → Slot Job
slot n j = record { number = n; item = j }

-- ---- its number

found_within : (test : ℕ → Bool) (from count n : ℕ) → find test (range_with_len from count) ≡ Some n → n < from + count
found_within test from zero n is = absurd (let e : None ≡ Some n = is in cc)
found_within test from (suc count) n is =
    elim (test from) as (λ (b : Bool). cond b (Some from) (find test (range_with_len (from + 1) count)) ≡ Some n → n < from + suc count) [
      | true ↦ λ e. (let same : from ≡ n = same_Some from n e in omega (arith, same))
      | false ↦ λ e. (let less = found_within test (from + 1) count n e in omega (arith, less))
    ] is

-- the least free number is no greater than one more than there are
pub free_is_few : (ns : List ℕ) (n : ℕ) → least_free ns ≡ Some n → n < 1 + (length ns + 1)
free_is_few ns n is = found_within (λ (k : ℕ). not (has_number k ns)) 1 (length ns + 1) n is

-- ---- one that publishes

abbrev busy : parts.Task → Bool
busy t = is_publishing t.job

any_last : (c : Catalog) (a b : ℕ) (j : Job) (ss : List (Slot Job)) → list_any busy (map (task_part c) (ss ++ slot b j ∷ [])) ≡ list_any busy (map (task_part c) (ss ++ slot a j ∷ []))
any_last c a b j [] = refl
any_last c a b j (s ∷ ss) = ap (λ (x : Bool). busy (task_part c s) || x) (any_last c a b j ss)

single_last : (c : Catalog) (a b : ℕ) (j : Job) (ss : List (Slot Job)) → AtMostOne (map (task_part c) (ss ++ slot a j ∷ [])) → AtMostOne (map (task_part c) (ss ++ slot b j ∷ []))
single_last c a b j [] one = one
single_last c a b j (s ∷ ss) one = ((λ h. any_last c a b j ss ∙ one.0 h), single_last c a b j ss one.1)

-- ---- the form

-- of fewer tasks
pub all_filtered : (P : Slot Job → Type 0) (test : Slot Job → Bool) (ss : List (Slot Job)) → AllByRecursion P ss → AllByRecursion P (filter test ss)
all_filtered P test [] all = tt
all_filtered P test (s ∷ ss) all =
    elim (test s) as (λ (b : Bool). AllByRecursion P (cond b (s ∷ filter test ss) (filter test ss))) [
      | true ↦ (all.0, all_filtered P test ss all.1)
      | false ↦ all_filtered P test ss all.1
    ]

-- of one more
pub all_last : (P : Slot Job → Type 0) (ss : List (Slot Job)) (s : Slot Job) → AllByRecursion P ss → P s → AllByRecursion P (ss ++ s ∷ [])
all_last P [] s all last = (last, tt)
all_last P (x ∷ ss) s all last = (all.0, all_last P ss s all.1 last)

pub form_at : (seen : Seen) (c : Catalog) (o : Open) (ss : List (Slot Job)) (n : ℕ) (j : Job) → IsInForm seen c o ss → nat_le 16 (length ss) ≡ false
    → has_number n (numbers_of ss) ≡ false → JobInForm seen c o j → AtMostOne (map (task_part c) (ss ++ slot 0 j ∷ [])) → IsInForm seen c o (ss ++ slot n j ∷ [])
form_at seen c o ss n j form few free fits single = record {
  size = form.size;
  txns = form.txns;
  tasks_are = record {
    few = (let low : length ss < 16 = leb-false 16 (length ss) few in omega (arith, low, length-append ss (slot n j ∷ [])));
    differ =
        subst AreDifferent (sym (map_append (λ (s : Slot Job). s.number) ss (slot n j ∷ [])))
        (differ_with n (numbers_of ss) form.tasks_are.differ free);
    single = single_last c 0 n j ss single;
    each = all_last (λ (s : Slot Job). JobInForm seen c o s.item) ss (slot n j) form.tasks_are.each fits;
  };
}

-- under the least free number
pub form_with : (seen : Seen) (c : Catalog) (o : Open) (ss : List (Slot Job)) (n : ℕ) (j : Job) → IsInForm seen c o ss → nat_le 16 (length ss) ≡ false
    → least_free (numbers_of ss) ≡ Some n → JobInForm seen c o j → AtMostOne (map (task_part c) (ss ++ slot 0 j ∷ [])) → IsInForm seen c o (ss ++ slot n j ∷ [])
form_with seen c o ss n j form few least fits single = form_at seen c o ss n j form few (free_is_none n (numbers_of ss) least) fits single
