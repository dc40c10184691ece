-- A client of which a task was taken out.
use Rattle.std.proofs.Common.{◌≡◌, ◌∙◌, ◌≤◌, ◌≢◌, ◌==◌, ◌&&◌, ◌||◌, ℕ, Bool, true, false, not, cond, eqb-true, List, [], ◌∷◌, ◌++◌, length, map, filter, find, Option, Some, None, refl, sym, ap, subst, arith}
use Rattle.std.specs.List.{AllByRecursion, flat_map}
use Rattle.std.specs.Option.{option_map}
use Rattle.std.proofs.lemmas.Option.{same_Some}
use Rattle.bcv_base.specs.declared.id.Id16.{Id16}
use Rattle.bcv_base.specs.declared.log.Entry.{Entry}
use Rattle.bcv_base.specs.declared.seen.Seen.{Seen}
use Rattle.bcv_base.specs.History.{history_of}
use Rattle.bcv_base.specs.Ids.{has_id, id_eq}
use Rattle.bcv_clientlaws.specs.Different.{AtMostOne}
use Rattle.bcv_clientlaws.specs.TaskLists.{task_at, with_tasks, without_task}
use Rattle.bcv_clientlaws.proofs.Different.{one_without, others_are_none}
use Rattle.bcv_clientlaws.proofs.Lists.{filter_map, find_map}
use Rattle.bcv_clientlaws.specs.OtherParts.{Includes}
use Rattle.bcv_clientlaws.proofs.OtherParts.{fits_without_task}
use Rattle.bcv_clientlaws.proofs.StepsSeen.{closed_ends_task, no_task_steps, step_is_of_task}
use Rattle.bcv_clientlog.specs.LogParts.{is_shut}
use Rattle.bcv_clientstate.specs.PartRefusals.{is_publishing, runs_publication}
use Rattle.bcv_clientstate.specs.Parts as parts
use Rattle.bcv_clientstate.specs.Parts.{mine_of, names_of_job, names_of_pending}
use Rattle.bcv_clientstate.specs.SeenClient.{Free, seen_job, seen_up, side_of}
use Rattle.bcv_databases.specs.Catalog.{Catalog}
use Rattle.bcv_disk.specs.DiskShown.{DiskShown, DiskTold}
use Rattle.bcv_ledger.specs.declared.ledger.Ledger.{Ledger}
use Rattle.bcv_machine.specs.State as m
use Rattle.bcv_machine.specs.Step.{Steps, StepsJob}
use Rattle.bcv_model.specs.declared.reply.Reply.{Reply}
use Rattle.bcv_model.specs.declared.reply.Reply.TheVariants as reply
use Rattle.bcv_slots.specs.declared.Slot.{Slot}
use Rattle.bcv_slots.specs.Numbered.{AreDifferent, item_at, numbers_of, other_slots, without_number}
use Rattle.bcv_slots.proofs.NumbersDiffer.{differ_without}
use Rattle.bcv_store.specs.StoreShown.{StoreShown, StoreTold}
use Rattle.bcv_transaction.specs.Open.{Open}
use Rattle.bcv_client.specs.ClientForm.{IsInForm, JobInForm}
use Rattle.bcv_client.specs.ClientParts.{entries_of, parts_of}
use Rattle.bcv_client.specs.Events.{StandsOver, client_side, client_up}
use Rattle.bcv_client.specs.NewTasks.{IsUnmoved, is_busy}
use Rattle.bcv_client.specs.Steps.{EndsJob, RequestOver, RequestsOver, StepsOf, said_over}
use Rattle.bcv_client.specs.TaskParts.{done_by, task_part}
use Rattle.bcv_client.specs.TaskTaken.{StepsQuietly, TaskOut}
use Rattle.bcv_client.specs.declared.client.Client.{Client}
use Rattle.bcv_client.specs.declared.job.Job.{Job}
use Rattle.bcv_client.proofs.BusyTasks.{busy_is}
use Rattle.bcv_client.proofs.ReadsSaw.{saw_fewer, saw_same}
use Rattle.bcv_client.proofs.SameParts.{stands_with, tasks_alone, unmoved}
use Rattle.bcv_client.proofs.TasksPut.{all_filtered}

-- ---- the list

-- it has the number
found_number : (n : ℕ) (ss : List (Slot Job)) (j : Job) → item_at n ss ≡ Some j → find (λ (s : Slot Job). s.number == n) ss ≡ Some (record { number = n; item = j })
found_number n [] j is = absurd (let e : None ≡ Some j = is in cc)
found_number n (s ∷ ss) j is =
    elim (s.number == n) as (λ (b : Bool). s.number == n ≡ b → option_map (λ (x : Slot Job). x.item) (cond b (Some s) (find (λ (x : Slot Job). x.number == n) ss)) ≡ Some j
    → cond b (Some s) (find (λ (x : Slot Job). x.number == n) ss) ≡ Some (record { number = n; item = j })) [
      | true ↦ λ e h. (let number : s.number ≡ n = eqb-true s.number n e in let item : s.item ≡ j = same_Some s.item j h in
          ap (λ (k : ℕ). let x : Slot Job = record { number = k; item = s.item } in Some x) number ∙ ap (λ (i : Job). let x : Slot Job = record { number = n; item = i } in Some x) item)
      | false ↦ λ e h. found_number n ss j h
    ] refl is

pub found_part : (c : Catalog) (n : ℕ) (ss : List (Slot Job)) (j : Job) → item_at n ss ≡ Some j
    → find (λ (t : parts.Task). t.number == n) (map (task_part c) ss) ≡ Some (record { number = n; job = done_by c j })
found_part c n ss j is =
    find_map (task_part c) (λ (t : parts.Task). t.number == n) (λ (s : Slot Job). s.number == n) (λ s. refl) ss
    ∙ ap (option_map (task_part c)) (found_number n ss j is)

none_found : (o : Option (Slot Job)) → option_map (λ (s : Slot Job). s.item) o ≡ None → o ≡ None
none_found None e = refl
none_found (Some s) e = absurd (let x : Some s.item ≡ None = e in cc)

pub none_part : (c : Catalog) (n : ℕ) (ss : List (Slot Job)) → item_at n ss ≡ None → find (λ (t : parts.Task). t.number == n) (map (task_part c) ss) ≡ None
none_part c n ss is =
    find_map (task_part c) (λ (t : parts.Task). t.number == n) (λ (s : Slot Job). s.number == n) (λ s. refl) ss
    ∙ ap (option_map (task_part c)) (none_found (find (λ (s : Slot Job). s.number == n) ss) is)

pub others_parts : (c : Catalog) (n : ℕ) (ss : List (Slot Job)) → filter (λ (t : parts.Task). not (t.number == n)) (map (task_part c) ss) ≡ map (task_part c) (other_slots n ss)
others_parts c n ss = filter_map (task_part c) (λ (t : parts.Task). not (t.number == n)) (λ (s : Slot Job). not (s.number == n)) (λ s. refl) ss

-- ---- the form

pub few_filtered : (test : Slot Job → Bool) (ss : List (Slot Job)) → length (filter test ss) ≤ length ss
few_filtered test [] = omega arith
few_filtered test (s ∷ ss) =
    elim (test s) as (λ (b : Bool). length (cond b (s ∷ filter test ss) (filter test ss)) ≤ length (s ∷ ss)) [
      | true ↦ (let h : length (filter test ss) ≤ length ss = few_filtered test ss in omega (arith, h))
      | false ↦ (let h : length (filter test ss) ≤ length ss = few_filtered test ss in omega (arith, h))
    ]

pub form_without : (seen : Seen) (c : Catalog) (o : Open) (n : ℕ) (ss : List (Slot Job)) (p : parts.Parts) → p.tasks ≡ map (task_part c) ss → IsInForm seen c o ss → IsInForm seen c o (other_slots n ss)
form_without seen c o n ss p is form = record {
  size = form.size;
  txns = form.txns;
  tasks_are = record {
    few = (let low : length ss ≤ 16 = form.tasks_are.few in let less : length (other_slots n ss) ≤ length ss = few_filtered (λ (s : Slot Job). not (s.number == n)) ss in omega (arith, low, less));
    differ =
        subst AreDifferent (filter_map (λ (s : Slot Job). s.number) (λ (k : ℕ). not (k == n)) (λ (s : Slot Job). not (s.number == n)) (λ s. refl) ss)
        (differ_without n (numbers_of ss) form.tasks_are.differ);
    single =
        subst AtMostOne (ap (filter (λ (t : parts.Task). not (t.number == n))) is ∙ others_parts c n ss)
        (one_without n p (subst AtMostOne (sym is) form.tasks_are.single));
    each = all_filtered (λ (s : Slot Job). JobInForm seen c o s.item) (λ (s : Slot Job). not (s.number == n)) ss form.tasks_are.each;
  };
}

-- a list without the task, where the numbers differ
pub form_out : (seen : Seen) (c : Catalog) (o : Open) (n : ℕ) (ss ts : List (Slot Job)) (p : parts.Parts) → p.tasks ≡ map (task_part c) ss → IsInForm seen c o ss
    → (AreDifferent (numbers_of ss) → ts ≡ other_slots n ss) → IsInForm seen c o ts
form_out seen c o n ss ts p is form left = subst (IsInForm seen c o) (sym (left form.tasks_are.differ)) (form_without seen c o n ss p is form)

-- no slot goes where none has the number
pub none_left : (n : ℕ) (ss : List (Slot Job)) → item_at n ss ≡ None → without_number n ss ≡ ss
none_left n [] is = refl
none_left n (s ∷ ss) is =
    elim (s.number == n) as (λ (b : Bool). option_map (λ (x : Slot Job). x.item) (cond b (Some s) (find (λ (x : Slot Job). x.number == n) ss)) ≡ None → cond b ss (s ∷ without_number n ss) ≡ s ∷ ss) [
      | true ↦ λ h. absurd (let e : Some s.item ≡ None = h in cc)
      | false ↦ λ h. ap (λ (xs : List (Slot Job)). s ∷ xs) (none_left n ss h)
    ] is

-- what all tasks have, the task of a number has
pub found_has : (P : Job → Type 0) (n : ℕ) (ss : List (Slot Job)) (j : Job) → AllByRecursion (λ (s : Slot Job). P s.item) ss → item_at n ss ≡ Some j → P j
found_has P n [] j all is = absurd (let e : None ≡ Some j = is in cc)
found_has P n (s ∷ ss) j all is =
    elim (s.number == n) as (λ (b : Bool). option_map (λ (x : Slot Job). x.item) (cond b (Some s) (find (λ (x : Slot Job). x.number == n) ss)) ≡ Some j → P j) [
      | true ↦ λ h. subst P (same_Some s.item j h) all.0
      | false ↦ λ h. found_has P n ss j all.1 h
    ] is

-- ---- the client

module _ {D : Type 0} {g : _} (old new : Client D g) (n : ℕ) (j : Job) (out : TaskOut old new n j) where
  abbrev here : parts.Parts
  here = parts_of old

  pub part_at : task_at n here ≡ Some (record { number = n; job = done_by old.ledger.databases j })
  part_at = found_part old.ledger.databases n old.tasks.items j out.found

  pub parts_without : parts_of new ≡ without_task n here
  parts_without =
      tasks_alone old new out.only
      ∙ ap (λ (ss : List (Slot Job)). with_tasks (map (task_part old.ledger.databases) ss) here) out.left
      ∙ ap (λ (ts : List parts.Task). with_tasks ts here) (sym (others_parts old.ledger.databases n old.tasks.items))

  pub stands_without : (shown : D → DiskShown) (log : List Entry) (f : Free) → StandsOver shown old log f → StandsOver shown new log f
  stands_without shown log f stands =
      stands_with shown old new log f (without_task n here) out.only parts_without (fits_without_task log here (entries_of old) n stands.fits)
      (saw_same (history_of log) (other_slots n old.tasks.items) new.tasks.items out.left (saw_fewer (history_of log) (λ (s : Slot Job). not (s.number == n)) old.tasks.items stands.saw)) stands

  pub runs_alone : IsInForm old.seen old.ledger.databases old.txns old.tasks.items → is_publishing (done_by old.ledger.databases j) ≡ true → runs_publication (parts_of new) ≡ false
  runs_alone form busy =
      subst (λ (p : parts.Parts). runs_publication p ≡ false) (sym parts_without)
      (others_are_none n (record { number = n; job = done_by old.ledger.databases j }) here form.tasks_are.single part_at busy)

-- ---- its names

with_front : (i : Id16) (a b c : List Id16) → (has_id i b ≡ true → has_id i c ≡ true) → has_id i (a ++ b) ≡ true → has_id i (a ++ c) ≡ true
with_front i [] b c goes has = goes has
with_front i (x ∷ xs) b c goes has =
    elim (id_eq x i) as (λ (t : Bool). (t || has_id i (xs ++ b)) ≡ true → (t || has_id i (xs ++ c)) ≡ true) [
      | true ↦ λ h. refl
      | false ↦ λ h. with_front i xs b c goes h
    ] has

pub behind : (i : Id16) (a b : List Id16) → has_id i b ≡ true → has_id i (a ++ b) ≡ true
behind i [] b has = has
behind i (x ∷ xs) b has = elim (id_eq x i) as (λ (t : Bool). (t || has_id i (xs ++ b)) ≡ true) [
  | true ↦ refl
  | false ↦ behind i xs b has
]

abbrev names_of : List parts.Task → List Id16
names_of ts = flat_map (λ (t : parts.Task). names_of_job t.job) ts

fewer_names : (i : Id16) (test : parts.Task → Bool) (ts : List parts.Task) → has_id i (names_of (filter test ts)) ≡ true → has_id i (names_of ts) ≡ true
fewer_names i test [] has = has
fewer_names i test (t ∷ ts) has =
    elim (test t) as (λ (b : Bool). has_id i (names_of (cond b (t ∷ filter test ts) (filter test ts))) ≡ true → has_id i (names_of_job t.job ++ names_of ts) ≡ true) [
      | true ↦ λ h. with_front i (names_of_job t.job) (names_of (filter test ts)) (names_of ts) (fewer_names i test ts) h
      | false ↦ λ h. behind i (names_of_job t.job) (names_of ts) (fewer_names i test ts h)
    ] has

pub without_mine : (n : ℕ) (p : parts.Parts) → Includes (mine_of p) (mine_of (without_task n p))
without_mine n p i has =
    with_front i (p.id ∷ names_of_pending p.kept.pending) (names_of (filter (λ (t : parts.Task). not (t.number == n)) p.tasks)) (names_of p.tasks)
    (fewer_names i (λ (t : parts.Task). not (t.number == n)) p.tasks) has

-- ---- the machine

-- there is no task of the number
pub none_steps : {D : Type 0} {g : _} (shown : D → DiskShown) (old new : Client D g) (n : ℕ) → IsUnmoved old new → item_at n old.tasks.items ≡ None → StepsQuietly shown old new n reply.NoTask
none_steps shown old new n still none moment log f stands = (
  stands_with shown old new log f (parts_of old) still.only (unmoved old new still) stands.fits (saw_same (history_of log) old.tasks.items new.tasks.items still.tasks stands.saw) stands,
  λ o second.
      subst (λ (p : parts.Parts). Steps (m.task_at (client_up log old) n) (client_side moment log old f) (client_up log old) o (record { published = None; reply = reply.NoTask }) second (side_of moment (history_of log) p f)) (sym (unmoved old new still))
      (no_task_steps moment (history_of log) (parts_of old) f n o (record { published = None; reply = reply.NoTask }) second (none_part old.ledger.databases n old.tasks.items none) (refl, refl)),
)

both_true : (a b : Bool) → a ≡ true → b ≡ true → (a && b) ≡ true
both_true true b one two = two
both_true false b one two = absurd (let e : false ≡ true = one in cc)

-- it has ended
pub shut_steps : {D : Type 0} {g : _} (shown : D → DiskShown) (old new : Client D g) (n : ℕ) (j : Job) → TaskOut old new n j → is_busy j ≡ true → is_shut old.ledger.log ≡ true → StepsQuietly shown old new n reply.Closed
shut_steps shown old new n j out busy shut moment log f stands = (
  stands_without old new n j out shown log f stands,
  λ o second.
      subst (λ (p : parts.Parts). Steps (m.task_at (client_up log old) n) (client_side moment log old f) (client_up log old) o (record { published = None; reply = reply.Closed }) second (side_of moment (history_of log) p f)) (sym (parts_without old new n j out))
      (closed_ends_task moment (history_of log) (parts_of old) f n (record { number = n; job = done_by old.ledger.databases j }) o (record { published = None; reply = reply.Closed }) second
      (part_at old new n j out) (both_true (is_shut old.ledger.log) (is_publishing (done_by old.ledger.databases j)) shut (busy_is old.ledger.databases j ∙ busy)) (refl, refl)),
)

-- by what was tested
pub ends_by : (busy closed test shut : Bool) → test ≡ (busy && closed) → closed ≡ shut → test ≡ true → (busy ≡ true) × (shut ≡ true)
ends_by true closed test shut is same ends = (refl, sym same ∙ sym is ∙ ends)
ends_by false closed test shut is same ends = absurd (let e : false ≡ true = sym is ∙ ends in cc)

pub goes_by : (busy closed test shut : Bool) → test ≡ (busy && closed) → closed ≡ shut → test ≡ false → busy ≡ true → shut ≡ false
goes_by true closed test shut is same goes busy = sym same ∙ sym is ∙ goes
goes_by false closed test shut is same goes busy = absurd (let e : false ≡ true = busy in cc)

not_both : (a b : Bool) → (b ≡ true → a ≡ false) → (a && b) ≡ false
not_both true true is = is refl
not_both true false is = refl
not_both false b is = refl

-- the step of a job whose task was taken out
module _ {D : Type 0} {g : _} (shown : D → DiskShown) (store : StoreTold) (before after : StoreShown) (old mid new : Client D g) (n : ℕ) (j : Job) (r : Reply)
    (out : TaskOut old mid n j) (is_open : is_busy j ≡ true → is_shut old.ledger.log ≡ false) where
  mine_less : (mine : List Id16) → Includes mine (mine_of (parts_of old)) → Includes mine (mine_of (parts_of mid))
  mine_less mine all = λ i has.
      all i (without_mine n (parts_of old) i (subst (λ (p : parts.Parts). has_id i (mine_of p) ≡ true) (parts_without old mid n j out) has))

  -- is that of its number
  pub step_of_number : (IsOne : Type 0) (mine : List Id16) (moment : ℕ) (f : Free)
      → RequestOver (StepsJob (seen_job mid.ledger.databases.kept.pending (done_by mid.ledger.databases j)) n) IsOne shown store mine before after mid new moment f r
      → RequestOver (StepsOf n) IsOne shown store mine before after old new moment f r
  step_of_number IsOne mine moment f over = record {
    growth = over.growth;
    free = over.free;
    stands = over.stands;
    names = over.names;
    flight = over.flight;
    event = λ is.
        let e = over.event is in
        let log : List Entry = before.log ++ over.growth.others in
        record {
          made = e.made;
          request = e.request;
          planned = e.planned;
          unmade = e.unmade;
          cause = e.cause;
          goes = λ o under.
              let step = e.goes o under in (
                step.0,
                step_is_of_task moment (history_of log) (parts_of old) f n (record { number = n; job = done_by old.ledger.databases j }) o (said_over log after.log r) step.0 (client_side moment after.log new over.free)
                    (part_at old mid n j out) (not_both (is_shut old.ledger.log) (is_publishing (done_by old.ledger.databases j)) (λ busy. is_open (sym (busy_is old.ledger.databases j) ∙ busy)))
                    (subst (λ (l : Ledger D g). StepsJob (seen_job l.databases.kept.pending (done_by l.databases j)) n (side_of moment (history_of log) (without_task n (parts_of old)) f) (seen_up (history_of log) (without_task n (parts_of old))) o (said_over log after.log r) step.0 (client_side moment after.log new over.free)) out.only.ledger
                    (subst (λ (p : parts.Parts). StepsJob (seen_job mid.ledger.databases.kept.pending (done_by mid.ledger.databases j)) n (side_of moment (history_of log) p f) (seen_up (history_of log) p) o (said_over log after.log r) step.0 (client_side moment after.log new over.free)) (parts_without old mid n j out) step.1)),
              );
        };
  }

  -- one that ends with its step
  pub ended_steps : (told : DiskTold) → EndsJob told shown store before after mid new j r → store.tells → told.tells → RequestsOver (StepsOf n) (r ≢ reply.NoMemory) shown store before after old new r
  ended_steps told ends tells disk moment mine f stands all grew armed =
      step_of_number (r ≢ reply.NoMemory) mine moment f (ends tells disk n moment mine f (stands_without old mid n j out shown before.log f stands) (mine_less mine all) grew armed)
