-- A transaction that ends with its tasks: the client stays in form, and it is an event of the machine.
use Rattle.std.proofs.Common.{◌≡◌, ◌∙◌, ◌==◌, ◌≤◌, ℕ, Bool, true, false, cond, not, List, [], ◌∷◌, map, filter, length, Option, Some, None, IfSome, is_none, option_map, refl, sym, ap, subst, inl, inr, arith}
use Rattle.std.specs.Prelude.{unwrap_or}
use Rattle.std.specs.List.{AllByRecursion}
use Rattle.std.proofs.lemmas.Bool.{cases_Bool}
use Rattle.bcv_base.specs.declared.id.Id16.{Id16}
use Rattle.bcv_base.specs.declared.log.Entry.{Entry as LogEntry}
use Rattle.bcv_base.specs.declared.seen.Latest.{Latest}
use Rattle.bcv_base.specs.declared.seen.Seen.{Seen}
use Rattle.bcv_base.specs.History.{Item, history_of}
use Rattle.bcv_cache.specs.Entry.{Blocks}
use Rattle.bcv_clientlaws.specs.Different.{AtMostOne}
use Rattle.bcv_clientlaws.specs.Forms.{AreInForm}
use Rattle.bcv_clientlaws.specs.TaskLists.{fetches_for, task_number, task_numbers, with_ended_txn}
use Rattle.bcv_clientlaws.proofs.Different.{differ_with_ended, one_with_ended}
use Rattle.bcv_clientlaws.proofs.Lists.{filter_map, map_map}
use Rattle.bcv_clientlaws.proofs.OtherParts.{entries_fit, fits_with_ended_txn}
use Rattle.bcv_clientlaws.proofs.TaskLists.{txn_ends}
use Rattle.bcv_clientlog.specs.declared.log.ClientLog.{ClientLog}
use Rattle.bcv_clientlog.specs.LogParts.{is_shut}
use Rattle.bcv_clientstate.specs.Fits.{Fits}
use Rattle.bcv_clientstate.specs.Journaled.{Journaled}
use Rattle.bcv_clientstate.specs.Parts as parts
use Rattle.bcv_clientstate.specs.Parts.{Parts, Task}
use Rattle.bcv_clientstate.specs.SeenClient.{Free, side_of}
use Rattle.bcv_databases.specs.Catalog.{Catalog}
use Rattle.bcv_databases.specs.Changes.{KeepsFrom, Trims}
use Rattle.bcv_databases.specs.declared.known.Known.{Known}
use Rattle.bcv_disk.specs.DiskShown.{DiskShown}
use Rattle.bcv_machine.specs.Reading.{Closes, Ends}
use Rattle.bcv_machine.specs.Reading.{without_txn as without_machine}
use Rattle.bcv_machine.specs.Refusals.{UnlessRefused, first_reason}
use Rattle.bcv_machine.specs.State as m
use Rattle.bcv_machine.specs.State.{Side, Up, with_up}
use Rattle.bcv_model.specs.declared.kept.Kept.{Kept}
use Rattle.bcv_model.specs.declared.reply.Reply.TheVariants as reply
use Rattle.bcv_pages.specs.Held.{Held}
use Rattle.bcv_slots.specs.declared.Slot.{Slot}
use Rattle.bcv_slots.specs.Numbered.{AreDifferent, numbers_of}
use Rattle.bcv_tasks.specs.declared.publish_task.PublishTask.TheVariants as task
use Rattle.bcv_transaction.specs.declared.open_txn.OpenTxn.{OpenTxn}
use Rattle.bcv_transaction.specs.FitLaws.{KeepsTxnView}
use Rattle.bcv_transaction.specs.ListCalls.{EndsIn, EndsOf}
use Rattle.bcv_transaction.specs.MachineCalls.{open_part}
use Rattle.bcv_transaction.specs.Open.{AreOpen, AreOpenWith, CanRead, Open, set_in, txn_at, without_txn}
use Rattle.bcv_transaction.specs.OpenCalls.{CacheCalls, CallsIn}
use Rattle.bcv_transaction.proofs.FitLaws.{calls_leave_fit}
use Rattle.bcv_transaction.proofs.MachineLists.{seen, seen_at}
use Rattle.bcv_client.specs.ClientForm.{HasSize, IsInForm, JobInForm, ReadsSet}
use Rattle.bcv_client.specs.ClientParts.{done_by, entries_of, no_set, parts_of, sets_in, task_part}
use Rattle.bcv_client.specs.InForm.{InForm}
use Rattle.bcv_client.specs.Events.{Locally, StandsOver, client_side, client_up}
use Rattle.bcv_client.specs.Transactions.{EndsOver, KeepsLedger, is_fetch_for, is_upload_of, needed_in, without_fetches}
use Rattle.bcv_client.specs.declared.client.Client.{Client}
use Rattle.bcv_client.specs.declared.job.Job.{Job}
use Rattle.bcv_client.specs.declared.job.Job.TheVariants as job
use Rattle.bcv_client.proofs.ReadsSaw.{saw_fewer, saw_same}
use Rattle.bcv_client.proofs.SetsTrimmed.{done_same, job_form, txns_keep, txns_need, txns_read, uploads_need}
use Rattle.bcv_client.proofs.TxnForms.{block_of, size_alike}
use Rattle.bcv_client.proofs.TxnStands.{are_fit, entries_there, stands_for}

-- ---- lists

pub all_filtered : {A : Type 0} (P : A → Type 0) (test : A → Bool) (xs : List A) → AllByRecursion P xs → AllByRecursion P (filter test xs)
all_filtered P test [] all = tt
all_filtered {A = A} P test (x ∷ xs) all = elim (test x) as (λ (b : Bool). AllByRecursion P (cond b (x ∷ filter test xs) (filter test xs))) [
  | true ↦ (all.0, all_filtered P test xs all.1)
  | false ↦ all_filtered P test xs all.1
]

all_pass : {A : Type 0} (test : A → Bool) (xs : List A) → AllByRecursion (λ (x : A). test x ≡ true) (filter test xs)
all_pass test [] = tt
all_pass {A = A} test (x ∷ xs) = elim (cases_Bool (test x)) [
  | inl b ↦ subst (λ (c : Bool). AllByRecursion (λ (y : A). test y ≡ true) (cond c (x ∷ filter test xs) (filter test xs))) (sym b) (b, all_pass test xs)
  | inr b ↦ subst (λ (c : Bool). AllByRecursion (λ (y : A). test y ≡ true) (cond c (x ∷ filter test xs) (filter test xs))) (sym b) (all_pass test xs)
]

filtered_len : {A : Type 0} (test : A → Bool) (xs : List A) → length (filter test xs) ≤ length xs
filtered_len test [] = omega arith
filtered_len {A = A} test (x ∷ xs) =
    let rest : length (filter test xs) ≤ length xs = filtered_len test xs in
    elim (test x) as (λ (b : Bool). length (cond b (x ∷ filter test xs) (filter test xs)) ≤ length (x ∷ xs)) [
      | true ↦ omega (arith, rest)
      | false ↦ omega (arith, rest)
    ]

-- ---- the transactions

-- a transaction less is open, over a cache of the same blocks
pub record OneLess (o rest : Open) (n : ℕ) : Type 0 where
  pub slots : rest.slots ≡ o.slots
  pub block : block_of rest.cache ≡ block_of o.cache
  pub txns : rest.txns ≡ without_txn n o.txns

pub one_less : (o rest : Open) (n : ℕ) → CallsIn o rest ⊥ (λ c d. EndsIn c o.txns n true rest.txns d) → OneLess o rest n
one_less o rest n calls = by o.cache rest.cache refl refl calls
  where
    in_ : (c d : Blocks) → o.cache ≡ Some c → rest.cache ≡ Some d → rest.slots ≡ o.slots → (x : Option OpenTxn) → EndsOf c x o.txns n true rest.txns d → OneLess o rest n
    in_ c d before after slots None said = (let is = said.0 in absurd (cc))
    in_ c d before after slots (Some t) said = record { slots = slots; block = ap block_of after ∙ ap (λ (x : Blocks). Some x.block) said.2 ∙ sym (ap block_of before); txns = said.1 }

    by : (x y : Option Blocks) → o.cache ≡ x → rest.cache ≡ y → CacheCalls x y o rest ⊥ (λ c d. EndsIn c o.txns n true rest.txns d) → OneLess o rest n
    by None y before after does = absurd does.0
    by (Some c) None before after does = absurd does
    by (Some c) (Some d) before after does = in_ c d before after does.0 (txn_at n o.txns) does.1

-- an end of one that is open
pub ended_so : (o rest : Open) (n : ℕ) (t : OpenTxn) (r : Bool) → AreOpen o → txn_at n o.txns ≡ Some t → CallsIn o rest (r ≡ false) (λ c d. EndsIn c o.txns n r rest.txns d)
    → CallsIn o rest ⊥ (λ c d. EndsIn c o.txns n true rest.txns d)
ended_so o rest n t r opened found calls = by o.cache rest.cache refl calls
  where
    in_ : (c d : Blocks) (x : Option OpenTxn) → x ≡ Some t → EndsOf c x o.txns n r rest.txns d → EndsOf c x o.txns n true rest.txns d
    in_ c d None is said = absurd (cc)
    in_ c d (Some y) is said = (refl, said.1, said.2)

    by : (x y : Option Blocks) → o.cache ≡ x → CacheCalls x y o rest (r ≡ false) (λ c d. EndsIn c o.txns n r rest.txns d) → CacheCalls x y o rest ⊥ (λ c d. EndsIn c o.txns n true rest.txns d)
    by None y before does =
        let empty : o.txns ≡ [] = subst (λ (x : Option Blocks). AreOpenWith o.slots x o.txns) before opened in
        absurd (let no : None ≡ Some t = ap (txn_at n) (sym empty) ∙ found in cc)
    by (Some c) None before does = absurd does
    by (Some c) (Some d) before does = (does.0, in_ c d (txn_at n o.txns) found does.1)

-- it was not refused
unrefused : (o rest : Open) (n : ℕ) → CallsIn o rest ⊥ (λ c d. EndsIn c o.txns n true rest.txns d) → CallsIn o rest (true ≡ false) (λ c d. EndsIn c o.txns n true rest.txns d)
unrefused o rest n calls = by o.cache rest.cache calls
  where
    by : (x y : Option Blocks) → CacheCalls x y o rest ⊥ (λ c d. EndsIn c o.txns n true rest.txns d) → CacheCalls x y o rest (true ≡ false) (λ c d. EndsIn c o.txns n true rest.txns d)
    by None y does = absurd does.0
    by (Some c) None does = does
    by (Some c) (Some d) does = does

-- ---- the tasks

fetch_same : (c : Catalog) (n : ℕ) (j : Job) → fetches_for n (done_by c j) ≡ is_fetch_for n j
fetch_same c n (job.Fetch access txn page) = refl
fetch_same c n job.Poll = refl
fetch_same c n (job.Publish set taken (task.Create t)) = refl
fetch_same c n (job.Publish set taken (task.Copy id s)) = refl
fetch_same c n (job.Publish set taken (task.Upload id s)) = refl
fetch_same c n (job.Publish set taken (task.Cleanup id s)) = refl
fetch_same c n job.Resolve = refl

not_true : (b : Bool) → not b ≡ true → b ≡ false
not_true true is = absurd (cc)
not_true false is = refl

size_over : (block : Option ℕ) (c d : Catalog) (x : Option Blocks) → d.kept ≡ c.kept → d.known ≡ c.known → HasSize block c x → HasSize block d x
size_over None c d x kept known has = (ap (λ (k : Kept). k.locals) kept ∙ has.0, known ∙ has.1, has.2)
size_over (Some b) c d x kept known has =
    (has.0, subst (λ (ks : List Known). AreInForm b d.kept ks) (sym known) (subst (λ (k : Kept). AreInForm b k c.known) (sym kept) has.1), has.2)

module _ (seen : Seen) (c d : Catalog) (o rest : Open) (tasks : List (Slot Job)) (n set : ℕ) (form : IsInForm seen c o tasks) (less : OneLess o rest n)
    (trims : Trims c d set (needed_in set rest (without_fetches n tasks)))
    (views : (from to : ℕ) → IfSome (needed_in set rest (without_fetches n tasks)) (λ k. k ≤ from → KeepsFrom c.sets d.sets set from to)) where
  abbrev left : List (Slot Job)
  left = without_fetches n tasks

  abbrev oldest : Option ℕ
  oldest = needed_in set rest left

  abbrev OldForm : Slot Job → Type 0
  OldForm s = JobInForm seen c o s.item

  abbrev OverSet : Slot Job → Type 0
  OverSet s = is_upload_of set s.item ≡ true → oldest ≡ Some 0

  reads_left : AllByRecursion (ReadsSet c.sets) rest.txns
  reads_left = subst (AllByRecursion (ReadsSet c.sets)) (sym less.txns) (all_filtered (ReadsSet c.sets) _ o.txns form.txns)

  -- the views that are open stay
  pub views_kept : AllByRecursion (KeepsTxnView (sets_in c) (sets_in d)) rest.txns
  views_kept = txns_keep c d set oldest trims views rest.txns (txns_need set rest left) reads_left

  old_forms : AllByRecursion OldForm left
  old_forms = all_filtered OldForm (λ (s : Slot Job). not (is_fetch_for n s.item)) tasks form.tasks_are.each

  new_forms : (ss : List (Slot Job)) → AllByRecursion (λ (s : Slot Job). not (is_fetch_for n s.item) ≡ true) ss → AllByRecursion OverSet ss → AllByRecursion OldForm ss
      → AllByRecursion (λ (s : Slot Job). JobInForm seen d rest s.item) ss
  new_forms [] others needs all = tt
  new_forms (s ∷ ss) others needs all = (
    job_form c d set oldest trims views seen o rest n s.item less.txns (not_true (is_fetch_for n s.item) others.0) needs.0 all.0,
    new_forms ss others.1 needs.1 all.1,
  )

  done_alike : (ss : List (Slot Job)) → AllByRecursion OverSet ss → AllByRecursion OldForm ss → map (task_part d) ss ≡ map (task_part c) ss
  done_alike [] needs all = refl
  done_alike (s ∷ ss) needs all =
      ap (λ (j : parts.Job). record { number = s.number; job = j } ∷ map (task_part d) ss) (done_same c d set oldest trims views seen o s.item needs.0 all.0)
      ∙ ap (λ (ts : List Task). task_part c s ∷ ts) (done_alike ss needs.1 all.1)

  -- the client's tasks are those that do not fetch for the transaction
  pub tasks_ended : map (task_part d) left ≡ filter (λ (t : Task). not (fetches_for n t.job)) (map (task_part c) tasks)
  tasks_ended =
      done_alike left (uploads_need set rest left) old_forms
      ∙ sym (filter_map (task_part c) (λ (t : Task). not (fetches_for n t.job)) (λ (s : Slot Job). not (is_fetch_for n s.item)) (λ s. ap not (fetch_same c n s.item)) tasks)

  pub form_ended : (p : Parts) → p.tasks ≡ map (task_part c) tasks → IsInForm seen d rest left
  form_ended p is =
      let few = form.tasks_are.few in
      let fewer = filtered_len (λ (s : Slot Job). not (is_fetch_for n s.item)) tasks in
      let q : Parts = record p { tasks = map (task_part c) tasks } in
      let numbers : task_numbers (with_ended_txn n q) ≡ numbers_of left =
      ap (map task_number) (sym tasks_ended) ∙ map_map task_number (task_part d) (λ (s : Slot Job). s.number) (λ s. refl) left in
      let before : task_numbers q ≡ numbers_of tasks = map_map task_number (task_part c) (λ (s : Slot Job). s.number) (λ s. refl) tasks in
      record {
        size = size_over seen.block c d rest.cache trims.kept trims.known (size_alike seen.block c o.cache rest.cache less.block form.size);
        txns = txns_read c d set oldest trims views rest.txns (txns_need set rest left) reads_left;
        tasks_are = record {
          few = omega (arith, few, fewer);
          differ = subst AreDifferent numbers (differ_with_ended n q (subst AreDifferent (sym before) form.tasks_are.differ));
          single = subst AtMostOne (sym tasks_ended) (one_with_ended n q form.tasks_are.single);
          each = new_forms left (all_pass (λ (s : Slot Job). not (is_fetch_for n s.item)) tasks) (uploads_need set rest left) old_forms;
        };
      }

-- ---- the client

module _ {D : Type 0} {g : _} (old new : Client D g) (n : ℕ) (keeps : KeepsLedger old new) (less : OneLess old.txns new.txns n)
    (tasks : map (task_part new.ledger.databases) new.tasks.items ≡ filter (λ (t : Task). not (fetches_for n t.job)) (map (task_part old.ledger.databases) old.tasks.items))
    (left : new.tasks.items ≡ without_fetches n old.tasks.items) where
  abbrev before : ℕ → Held
  before = sets_in old.ledger.databases

  abbrev after : ℕ → Held
  after = sets_in new.ledger.databases

  parts_alike : (ts : List OpenTxn) → AllByRecursion (KeepsTxnView before after) ts → map (open_part after) ts ≡ map (open_part before) ts
  parts_alike [] keep = refl
  parts_alike (t ∷ ts) keep =
      ap (λ (v : _). record { number = t.number; txn = t.txn; view = v } ∷ map (open_part after) ts) ((keep.0.1 keep.0.0).1)
      ∙ ap (λ (xs : List parts.OpenTxn). open_part before t ∷ xs) (parts_alike ts keep.1)

  txns_ended : map (open_part after) new.txns.txns ≡ filter (λ (t : parts.OpenTxn). not (t.number == n)) (map (open_part before) old.txns.txns)
  txns_ended =
      parts_alike new.txns.txns keeps.views ∙ ap (map (open_part before)) less.txns
      ∙ sym (filter_map (open_part before) (λ (t : parts.OpenTxn). not (t.number == n)) (λ (t : OpenTxn). not (t.number == n)) (λ t. refl) old.txns.txns)

  -- its parts without the transaction
  pub parts_ended : parts_of new ≡ with_ended_txn n (parts_of old)
  parts_ended =
      ap (λ (i : Id16). record (parts_of new) { id = i }) keeps.id
      ∙ ap (λ (l : ClientLog D _). record (parts_of new) { id = old.id; closed = is_shut l }) keeps.log
      ∙ ap (λ (s : Seen). record (parts_of new) { id = old.id; closed = is_shut old.ledger.log; seen = s }) keeps.seen
      ∙ ap (λ (l : Option Latest). record (parts_of new) { id = old.id; closed = is_shut old.ledger.log; seen = old.seen; latest = l }) keeps.latest
      ∙ ap (λ (k : Kept). record (parts_of old) { kept = k; known = new.ledger.databases.known; txns = (parts_of new).txns; tasks = (parts_of new).tasks }) keeps.kept
      ∙ ap (λ (k : List Known). record (parts_of old) { known = k; txns = (parts_of new).txns; tasks = (parts_of new).tasks }) keeps.known
      ∙ ap (λ (xs : List parts.OpenTxn). record (parts_of old) { txns = xs; tasks = (parts_of new).tasks }) txns_ended
      ∙ ap (λ (xs : List Task). record (with_ended_txn n (parts_of old)) { tasks = xs }) tasks

  stands_ended : (shown : D → DiskShown) (log : List LogEntry) (f : Free) (moment : ℕ) → StandsOver shown old log f → CallsIn old.txns new.txns ⊥ (λ c d. EndsIn c old.txns.txns n true new.txns.txns d) → StandsOver shown new log f
  stands_ended shown log f moment stands calls =
      let fit = calls_leave_fit.ends (history_of log) before old.txns new.txns n true (are_fit shown old moment log f stands) (unrefused old.txns new.txns n calls) in
      record {
        sound = stands.sound;
        fits = subst (λ (q : Parts). Fits q (entries_of new) log) (sym parts_ended)
            (entries_fit log (with_ended_txn n (parts_of old)) (entries_of old) (entries_of new) (fits_with_ended_txn log (parts_of old) (entries_of old) n stands.fits) (entries_there (history_of log) new.txns.cache fit.cached));
        saw = saw_same (history_of log) (without_fetches n old.tasks.items) new.tasks.items left (saw_fewer (history_of log) (λ (s : Slot Job). not (is_fetch_for n s.item)) old.tasks.items stands.saw);
        journaled = subst (λ (l : ClientLog D _). Journaled shown l new.ledger.databases.kept f) (sym keeps.log) (subst (λ (k : Kept). Journaled shown old.ledger.log k f) (sym keeps.kept) stands.journaled);
        slots = stands.slots ∙ sym less.slots;
      }

  -- the machine's end
  pub ends_locally : (shown : D → DiskShown) (t : OpenTxn) → InForm old → txn_at n old.txns.txns ≡ Some t → CallsIn old.txns new.txns ⊥ (λ c d. EndsIn c old.txns.txns n true new.txns.txns d)
      → Locally shown (λ s u w. Ends s u n reply.Fine w) old new reply.Fine
  ends_locally shown t form found calls = λ moment log f stands.
      let past : List Item = history_of log in
      let s : Side = client_side moment log old f in
      let u : Up = client_up log old in
      let there : m.txn_at u n ≡ Some (seen past before t) =
      seen_at past before n old.txns.txns u (stands_for shown old moment log f stands form).txns ∙ ap (option_map (seen past before)) found in
      let side : client_side moment log new f ≡ with_up s (without_machine u n) =
      ap (λ (q : Parts). side_of moment past q f) parts_ended ∙ ap (λ (w : Up). with_up s w) (txn_ends past n (parts_of old)) in
      record {
        stands = stands_ended shown log f moment stands calls;
        goes = record {
          event = λ is. subst (λ (x : Option m.Txn). UnlessRefused (first_reason ((is_none x, reply.NoTxn) ∷ [])) (with_up s u) reply.Fine (client_side moment log new f) (Closes s u n reply.Fine (client_side moment log new f))) (sym there) side;
          still = λ none. absurd none;
        };
      }

-- of no transaction
pub none_ends : {D : Type 0} {g : _} (shown : D → DiskShown) (c : Client D g) (n : ℕ) → InForm c → txn_at n c.txns.txns ≡ None → Locally shown (λ s u w. Ends s u n reply.NoTxn w) c c reply.NoTxn
none_ends shown c n form none = λ moment log f stands.
    let past : List Item = history_of log in
    let s : Side = client_side moment log c f in
    let u : Up = client_up log c in
    let away : m.txn_at u n ≡ None =
    seen_at past (sets_in c.ledger.databases) n c.txns.txns u (stands_for shown c moment log f stands form).txns ∙ ap (option_map (seen past (sets_in c.ledger.databases))) none in
    record {
      stands = stands;
      goes = record {
        event = λ is. subst (λ (x : Option m.Txn). UnlessRefused (first_reason ((is_none x, reply.NoTxn) ∷ [])) (with_up s u) reply.NoTxn s (Closes s u n reply.NoTxn s)) (sym away) (refl, refl);
        still = λ none. absurd none;
      };
    }

-- ---- the whole call

-- but for the ledger, the transactions and the tasks nothing has changed
pub record OnlyEnds {D : Type 0} {g : _} (old new : Client D g) : Type 0 where
  pub id : new.id ≡ old.id
  pub log : new.ledger.log ≡ old.ledger.log
  pub seen_is : new.seen ≡ old.seen
  pub latest : new.latest ≡ old.latest
  pub taken : new.taken ≡ old.taken

pub record EndsWhole {D : Type 0} {g : _} (shown : D → DiskShown) (old new : Client D g) (n set : ℕ) : Type 0 where
  pub form : InForm new
  pub machine : Locally shown (λ s u w. Ends s u n reply.Fine w) old new reply.Fine
  pub ledger : KeepsLedger old new
  pub ends : EndsOver old new n set reply.Fine

module _ {D : Type 0} {g : _} (shown : D → DiskShown) (old new : Client D g) (n set : ℕ) (only : OnlyEnds old new) (form : InForm old) (tasks : new.tasks.items ≡ without_fetches n old.tasks.items)
    (trims : Trims old.ledger.databases new.ledger.databases set (needed_in set new.txns new.tasks.items))
    (views : (from to : ℕ) → IfSome (needed_in set new.txns new.tasks.items) (λ k. k ≤ from → KeepsFrom old.ledger.databases.sets new.ledger.databases.sets set from to))
    (t : OpenTxn) (found : txn_at n old.txns.txns ≡ Some t) (calls : CallsIn old.txns new.txns ⊥ (λ c d. EndsIn c old.txns.txns n true new.txns.txns d)) where
  abbrev left_tasks : List (Slot Job)
  left_tasks = without_fetches n old.tasks.items

  trims_left : Trims old.ledger.databases new.ledger.databases set (needed_in set new.txns left_tasks)
  trims_left = subst (λ (ss : List (Slot Job)). Trims old.ledger.databases new.ledger.databases set (needed_in set new.txns ss)) tasks trims

  views_left : (from to : ℕ) → IfSome (needed_in set new.txns left_tasks) (λ k. k ≤ from → KeepsFrom old.ledger.databases.sets new.ledger.databases.sets set from to)
  views_left from to = subst (λ (ss : List (Slot Job)). IfSome (needed_in set new.txns ss) (λ k. k ≤ from → KeepsFrom old.ledger.databases.sets new.ledger.databases.sets set from to)) tasks (views from to)

  less_open : OneLess old.txns new.txns n
  less_open = one_less old.txns new.txns n calls

  keeps_ledger : KeepsLedger old new
  keeps_ledger = record {
    id = only.id;
    log = only.log;
    kept = trims.kept;
    known = trims.known;
    views = views_kept old.seen old.ledger.databases new.ledger.databases old.txns new.txns old.tasks.items n set form less_open trims_left views_left;
    seen = only.seen_is;
    latest = only.latest;
    taken = only.taken;
  }

  tasks_seen : map (task_part new.ledger.databases) new.tasks.items ≡ filter (λ (x : Task). not (fetches_for n x.job)) (map (task_part old.ledger.databases) old.tasks.items)
  tasks_seen =
      ap (map (task_part new.ledger.databases)) tasks
      ∙ tasks_ended old.seen old.ledger.databases new.ledger.databases old.txns new.txns old.tasks.items n set form less_open trims_left views_left

  pub ends_whole : EndsWhole shown old new n set
  ends_whole = record {
    form = subst (λ (s : Seen). IsInForm s new.ledger.databases new.txns new.tasks.items) (sym only.seen_is)
        (subst (IsInForm old.seen new.ledger.databases new.txns) (sym tasks)
        (form_ended old.seen old.ledger.databases new.ledger.databases old.txns new.txns old.tasks.items n set form less_open trims_left views_left (parts_of old) refl));
    machine = ends_locally old new n keeps_ledger less_open tasks_seen tasks shown t form found calls;
    ledger = keeps_ledger;
    ends = record { answers = refl; ends = calls; tasks = tasks; trims = trims };
  }

pub set_found : (n : ℕ) (o : Open) (set : ℕ) → set_in n o.txns ≡ Some set → (t : OpenTxn) × (txn_at n o.txns ≡ Some t)
set_found n o set is = by (txn_at n o.txns) refl is
  where
    by : (x : Option OpenTxn) → txn_at n o.txns ≡ x → option_map (λ (t : OpenTxn). t.set) x ≡ Some set → (t : OpenTxn) × (txn_at n o.txns ≡ Some t)
    by None found is = absurd (cc)
    by (Some t) found is = (t, found)

pub set_missing : (n : ℕ) (o : Open) → set_in n o.txns ≡ None → txn_at n o.txns ≡ None
set_missing n o is = by (txn_at n o.txns) is
  where
    by : (x : Option OpenTxn) → option_map (λ (t : OpenTxn). t.set) x ≡ None → x ≡ None
    by None is = refl
    by (Some t) is = absurd (cc)

-- nothing has changed
keeps_same : (c : Catalog) (ts : List OpenTxn) → AllByRecursion (ReadsSet c.sets) ts → AllByRecursion (KeepsTxnView (sets_in c) (sets_in c)) ts
keeps_same c [] all = tt
keeps_same c (t ∷ ts) all = (
  (
    subst (λ (h : Held). CanRead h t) (sym (ap (λ (x : Option Held). unwrap_or x no_set) all.0.is_held)) all.0.can,
    λ can. (can, refl),
  ),
  keeps_same c ts all.1,
)

pub keeps_all : {D : Type 0} {g : _} (c : Client D g) → InForm c → KeepsLedger c c
keeps_all c form =
    record { id = refl; log = refl; kept = refl; known = refl; views = keeps_same c.ledger.databases c.txns.txns form.txns; seen = refl; latest = refl; taken = refl }

-- from what the calls said
pub ends_from : {D : Type 0} {g : _} (shown : D → DiskShown) (old new : Client D g) (n set : ℕ) (x : Option ℕ) (ss : List (Slot Job)) (r : Bool) → OnlyEnds old new → InForm old → AreOpen old.txns
    → set_in n old.txns.txns ≡ Some set → CallsIn old.txns new.txns (r ≡ false) (λ c d. EndsIn c old.txns.txns n r new.txns.txns d)
    → new.tasks.items ≡ without_fetches n old.tasks.items → x ≡ needed_in set new.txns ss → ss ≡ new.tasks.items
    → Trims old.ledger.databases new.ledger.databases set x
    → ((from to : ℕ) → IfSome x (λ k. k ≤ from → KeepsFrom old.ledger.databases.sets new.ledger.databases.sets set from to))
    → EndsWhole shown old new n set
ends_from shown old new n set x ss r only form opened found calls tasks needs same trims views =
    let is : x ≡ needed_in set new.txns new.tasks.items = needs ∙ ap (needed_in set new.txns) same in
    let t = set_found n old.txns set found in
    ends_whole shown old new n set only form tasks (subst (λ (y : Option ℕ). Trims old.ledger.databases new.ledger.databases set y) is trims)
    (subst (λ (y : Option ℕ). (from to : ℕ) → IfSome y (λ k. k ≤ from → KeepsFrom old.ledger.databases.sets new.ledger.databases.sets set from to)) is views)
    t.0 t.1 (ended_so old.txns new.txns n t.0 r opened t.1 calls)
