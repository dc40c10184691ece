-- The read of one page over a client, which may start a task, and the step of that task.
use Rattle.std.proofs.Common.{◌≡◌, ◌∙◌, ◌≢◌, ◌==◌, ◌||◌, ◌&&◌, ◌≤◌, ◌<◌, ℕ, nat_le, Bool, true, false, not, cond, List, [], ◌∷◌, ◌++◌, find, Option, Some, None, option_map, MatchOption, Ok, Err, refl, sym, ap, subst, arith, inl, inr}
use Rattle.std.specs.Int.{is_power_of_two}
use Rattle.std.proofs.lemmas.Bool.{eq-eqb, leb-true}
use Rattle.std.proofs.lemmas.Option.{same_Some}
use Rattle.bcv_base.specs.declared.id.Id16.{Id16}
use Rattle.bcv_cache.specs.Cache.{has_room}
use Rattle.bcv_cache.specs.Entry.{Blocks}
use Rattle.bcv_disk.specs.DiskShown.{DiskShown, DiskTold}
use Rattle.bcv_machine.specs.Reading.{Fetches}
use Rattle.bcv_machine.specs.State as m
use Rattle.bcv_machine.specs.Step.{is_task}
use Rattle.bcv_model.specs.declared.ask.Ask.TheVariants as ask
use Rattle.bcv_model.specs.declared.reply.Reply.{Reply}
use Rattle.bcv_model.specs.declared.reply.Reply.TheVariants as reply
use Rattle.bcv_pages.specs.Held.{Held}
use Rattle.bcv_slots.specs.declared.Slot.{Slot}
use Rattle.bcv_slots.specs.Numbered.{has_number, item_at, least_free, numbers_of, other_slots}
use Rattle.bcv_slots.proofs.NumbersDiffer.{free_is_none}
use Rattle.bcv_snapshot.specs.declared.fetched.Fetched.{Fetched}
use Rattle.bcv_snapshot.specs.declared.fetched.Fetched.TheVariants as fetched
use Rattle.bcv_snapshot.specs.declared.place.Place.{Place}
use Rattle.bcv_snapshot.specs.declared.place.Place.TheVariants as place
use Rattle.bcv_snapshot.specs.Opened.{IsTxn, Opened}
use Rattle.bcv_base.specs.Image.{Writes}
use Rattle.bcv_store.specs.StoreShown.{StoreShown, StoreTold}
use Rattle.bcv_transaction.specs.declared.answers.Came.{Came}
use Rattle.bcv_transaction.specs.declared.answers.Came.TheVariants as came
use Rattle.bcv_transaction.specs.declared.answers.Stepped.{Stepped}
use Rattle.bcv_transaction.specs.declared.answers.Stepped.TheVariants as stepped
use Rattle.bcv_transaction.specs.declared.open_txn.OpenTxn.{OpenTxn}
use Rattle.bcv_transaction.specs.ListCalls.{ReadsIn, ReadsOf}
use Rattle.bcv_transaction.specs.Open.{AreOpen, AreOpenWith, Open, is_numbered, txn_at, view_in}
use Rattle.bcv_transaction.specs.OpenCalls.{CacheCalls}
use Rattle.bcv_transaction.specs.PageCalls.{ReadAs, absent_as}
use Rattle.bcv_transaction.specs.StepCalls.{ComesAs, IsAgain, GoesAfter, GoesOn, PageCalls, Steps, kept_out}
use Rattle.bcv_transaction.proofs.MachinePages.{one_of}
use Rattle.bcv_vfs.specs.declared.Span.{Span}
use Rattle.bcv_client.specs.CallFaults.{is_io_fault}
use Rattle.bcv_client.specs.ClientForm.{IsPageOf}
use Rattle.bcv_client.specs.Events.{Locally}
use Rattle.bcv_client.specs.Falls.{FallsJob}
use Rattle.bcv_client.specs.FetchOver.{ClientFetches, stepped_reply}
use Rattle.bcv_client.specs.RangeAsks.{exchange}
use Rattle.bcv_client.specs.RangeReads.{PageReads, StepReads, span_of}
use Rattle.bcv_client.specs.NewTasks.{is_busy}
use Rattle.bcv_client.specs.Steps.{EndsJob}
use Rattle.bcv_client.specs.Talk.{Exchange}
use Rattle.bcv_client.specs.TaskStarts.{StartsLast}
use Rattle.bcv_client.specs.TaskParts.{seen_access}
use Rattle.bcv_client.specs.TaskTaken.{CanStep, TakesTask, TaskOut}
use Rattle.bcv_client.specs.Transactions.{AnswersPage, AsksPage, OnlyReading, came_reply, opened_as, opened_by, pages_for}
use Rattle.bcv_client.specs.declared.client.Client.{Client}
use Rattle.bcv_client.specs.declared.job.Access.TheVariants as access
use Rattle.bcv_client.specs.declared.job.Job.{Job}
use Rattle.bcv_client.specs.declared.job.Job.TheVariants as job
use Rattle.bcv_client.proofs.AskReplies.{page_inside}
use Rattle.bcv_client.proofs.RangeTalks.{alone_join, alone_one, read_exchanged, step_exchanged}
use Rattle.bcv_client.proofs.SlotsKept.{page_slots, steps_slots}

-- ---- the task that was started is the last one

item_last : (n : ℕ) (ss : List (Slot Job)) (j : Job) → has_number n (numbers_of ss) ≡ false → item_at n (ss ++ record { number = n; item = j } ∷ []) ≡ Some j
item_last n [] j free = ap (λ (b : Bool). let s : Slot Job = record { number = n; item = j } in option_map (λ (x : Slot Job). x.item) (cond b (Some s) None)) (eq-eqb n n refl)
item_last n (s ∷ ss) j free =
    elim (s.number == n) as (λ (b : Bool). (b || has_number n (numbers_of ss)) ≡ false
    → option_map (λ (x : Slot Job). x.item) (cond b (Some s) (find (λ (x : Slot Job). x.number == n) (ss ++ record { number = n; item = j } ∷ []))) ≡ Some j) [
      | true ↦ λ h. absurd (let e : true ≡ false = h in cc)
      | false ↦ λ h. item_last n ss j h
    ] free

others_last : (n : ℕ) (ss : List (Slot Job)) (j : Job) → has_number n (numbers_of ss) ≡ false → other_slots n (ss ++ record { number = n; item = j } ∷ []) ≡ ss
others_last n [] j free = ap (λ (b : Bool). let s : Slot Job = record { number = n; item = j } in cond (not b) (s ∷ []) []) (eq-eqb n n refl)
others_last n (s ∷ ss) j free =
    elim (s.number == n) as (λ (b : Bool). (b || has_number n (numbers_of ss)) ≡ false
    → cond (not b) (s ∷ other_slots n (ss ++ record { number = n; item = j } ∷ [])) (other_slots n (ss ++ record { number = n; item = j } ∷ [])) ≡ s ∷ ss) [
      | true ↦ λ h. absurd (let e : true ≡ false = h in cc)
      | false ↦ λ h. ap (λ (l : List (Slot Job)). s ∷ l) (others_last n ss j h)
    ] free

started_item : (old new : List (Slot Job)) (n : ℕ) (j : Job) → least_free (numbers_of old) ≡ Some n → new ≡ old ++ record { number = n; item = j } ∷ [] → item_at n new ≡ Some j
started_item old new n j least is = ap (item_at n) is ∙ item_last n old j (free_is_none n (numbers_of old) least)

started_others : (old new : List (Slot Job)) (n : ℕ) (j : Job) → least_free (numbers_of old) ≡ Some n → new ≡ old ++ record { number = n; item = j } ∷ [] → other_slots n new ≡ old
started_others old new n j least is = ap (other_slots n) is ∙ others_last n old j (free_is_none n (numbers_of old) least)

-- ---- what a read answered

pub not_task : (r : Reply) → ((n left : ℕ) → r ≡ reply.Task n left → ⊥) → is_task r ≡ false
not_task (reply.Task n left) other = absurd (other n left refl)
not_task _ other = refl

-- where no task was started the tasks are the same
last_same : (old new : List (Slot Job)) (j : Job) (r : Reply) → is_task r ≡ false → StartsLast old new j 1 r → new ≡ old
last_same old new j (reply.Task n left) quiet starts = absurd (let e : true ≡ false = quiet in cc)
last_same old new j reply.TooMany quiet starts = starts.1
last_same old new j reply.NoMemory quiet starts = starts
last_same old new j _ quiet starts = absurd starts

answers_same : (c : Came) (old new : List (Slot Job)) (j : Job) (r : Reply) → is_task r ≡ false → AnswersPage (came_reply c) old new j r → new ≡ old
answers_same (came.Absent id) old new j r quiet answers = last_same old new j r quiet answers
answers_same (came.Page bytes) old new j r quiet answers = answers.1
answers_same came.Held old new j r quiet answers = answers.1
answers_same came.CacheFull old new j r quiet answers = answers.1
answers_same came.BadPage old new j r quiet answers = answers.1
answers_same came.NoTxn old new j r quiet answers = answers.1
answers_same came.NoMemory old new j r quiet answers = answers.1

-- what comes without a request is no task
came_quiet : (x : Reply) (n left : ℕ) → is_task x ≡ false → reply.Task n left ≡ x → ⊥
came_quiet x n left quiet is = absurd (let e : true ≡ false = ap is_task is ∙ quiet in cc)

pub answers_task : (c : Came) (old new : List (Slot Job)) (j : Job) (n left : ℕ) → AnswersPage (came_reply c) old new j (reply.Task n left) → StartsLast old new j 1 (reply.Task n left)
answers_task (came.Absent id) old new j n left answers = answers
answers_task (came.Page bytes) old new j n left answers = absurd (came_quiet (reply.Page bytes.items) n left refl answers.0)
answers_task came.Held old new j n left answers = absurd (came_quiet reply.Held n left refl answers.0)
answers_task came.CacheFull old new j n left answers = absurd (came_quiet reply.CacheFull n left refl answers.0)
answers_task came.BadPage old new j n left answers = absurd (came_quiet reply.BadPage n left refl answers.0)
answers_task came.NoTxn old new j n left answers = absurd (came_quiet reply.NoTxn n left refl answers.0)
answers_task came.NoMemory old new j n left answers = absurd (came_quiet reply.NoMemory n left refl answers.0)

-- ---- that the transaction is not open is answered only where it is not

absent_not : (id : Id16) (b : Bool) → absent_as id b ≢ came.NoTxn
absent_not id true e = absurd (cc)
absent_not id false e = absurd (cc)

read_not : (t : Opened) (cs : List Writes) (p : ℕ) (at : Place) (c : Came) (d : Blocks) → ReadAs t cs p at c d → c ≢ came.NoTxn
read_not t cs p place.BadPage c d reads is = absurd (let e : came.BadPage ≡ came.NoTxn = sym reads ∙ is in cc)
read_not t cs p (place.Absent id) c d reads is = absent_not id (has_room d) (sym reads.0 ∙ is)
read_not t cs p place.Local c d reads is = (subst (λ (x : Came). ReadAs t cs p place.Local x d) is reads).2
read_not t cs p place.Zeros c d reads is = subst (λ (x : Came). ReadAs t cs p place.Zeros x d) is reads
read_not t cs p (place.Cached slot) c d reads is = (subst (λ (x : Came). ReadAs t cs p (place.Cached slot) x d) is reads).2

reads_not : (h : Held) (c : Blocks) (x : Option OpenTxn) (p : ℕ) (r : Came) (d : Blocks) → x ≢ None → ReadsOf h c x p r d → r ≢ came.NoTxn
reads_not h c None p r d opens reads is = opens refl
reads_not h c (Some t) p r d opens reads is = read_not t.txn (view_in h t) p reads.0 r d reads.2 is

pub calls_not : (h : Held) (o new : Open) (n p : ℕ) (r : Came) → AreOpen o → txn_at n o.txns ≢ None → PageCalls m.ToRead h o n p r new → r ≢ came.NoTxn
calls_not h o new n p r are opens calls = by o.cache new.cache are calls.0
  where
    by : (a b : Option Blocks) → AreOpenWith o.slots a o.txns → CacheCalls a b o new (r ≡ came.NoTxn) (λ c d. ReadsIn h c o.txns n p r d) → r ≢ came.NoTxn
    by None b none does is = opens (ap (txn_at n) none)
    by (Some c) None there does is = absurd does
    by (Some c) (Some d) there does is = reads_not h c (txn_at n o.txns) p r d opens does.1 is

came_not : (x : Reply) → x ≢ reply.NoTxn → (r : Reply) → r ≡ x → r ≢ reply.NoTxn
came_not x other r same is = other (sym same ∙ is)

last_not : (old new : List (Slot Job)) (j : Job) (r : Reply) → StartsLast old new j 1 r → r ≢ reply.NoTxn
last_not old new j r starts is = subst (λ (x : Reply). StartsLast old new j 1 x) is starts

pub answers_not : (c : Came) (old new : List (Slot Job)) (j : Job) (r : Reply) → c ≢ came.NoTxn → AnswersPage (came_reply c) old new j r → r ≢ reply.NoTxn
answers_not (came.Absent id) old new j r other answers = last_not old new j r answers
answers_not (came.Page bytes) old new j r other answers = came_not (reply.Page bytes.items) (λ e. absurd (cc)) r answers.0
answers_not came.Held old new j r other answers = came_not reply.Held (λ e. absurd (cc)) r answers.0
answers_not came.CacheFull old new j r other answers = came_not reply.CacheFull (λ e. absurd (cc)) r answers.0
answers_not came.BadPage old new j r other answers = came_not reply.BadPage (λ e. absurd (cc)) r answers.0
answers_not came.NoTxn old new j r other answers = absurd (other refl)
answers_not came.NoMemory old new j r other answers = came_not reply.NoMemory (λ e. absurd (cc)) r answers.0

-- nor by the step
module _ (h : Held) (store : StoreTold) (before after : StoreShown) (n p : ℕ) (r : Stepped) where
  comes_not : (c : Came) → c ≢ came.NoTxn → ComesAs c r → r ≢ stepped.NoTxn
  comes_not (came.Page bytes) other comes is = absurd (let e : stepped.Page bytes ≡ stepped.NoTxn = sym comes ∙ is in cc)
  comes_not came.Held other comes is = absurd (let e : stepped.Held ≡ stepped.NoTxn = sym comes ∙ is in cc)
  comes_not (came.Absent id) other comes is = absurd comes
  comes_not came.CacheFull other comes is = absurd (let e : stepped.CacheFull ≡ stepped.NoTxn = sym comes ∙ is in cc)
  comes_not came.BadPage other comes is = absurd (let e : stepped.BadPage ≡ stepped.NoTxn = sym comes ∙ is in cc)
  comes_not came.NoTxn other comes is = absurd (other refl)
  comes_not came.NoMemory other comes is = absurd (let e : stepped.NoMemory ≡ stepped.NoTxn = sym comes ∙ is in cc)

  again_not : (c : Came) → IsAgain c → c ≢ came.NoTxn
  again_not c again is = subst IsAgain is again

  kept_not : (f : Fetched) → kept_out f ≡ Some r → r ≢ stepped.NoTxn
  kept_not (fetched.In slot) kept is = absurd (let e : None ≡ Some r = kept in cc)
  kept_not fetched.CacheFull kept is = absurd (let e : stepped.CacheFull ≡ stepped.NoTxn = same_Some stepped.CacheFull r kept ∙ is in cc)
  kept_not fetched.Gone kept is = absurd (let e : stepped.Gone ≡ stepped.NoTxn = same_Some stepped.Gone r kept ∙ is in cc)
  kept_not (fetched.BadBlock len) kept is = absurd (let e : stepped.BadBlock len ≡ stepped.NoTxn = same_Some (stepped.BadBlock len) r kept ∙ is in cc)
  kept_not fetched.StoreFault kept is = absurd (let e : stepped.StoreFault ≡ stepped.NoTxn = same_Some stepped.StoreFault r kept ∙ is in cc)
  kept_not fetched.NoMemory kept is = absurd (let e : stepped.NoMemory ≡ stepped.NoTxn = same_Some stepped.NoMemory r kept ∙ is in cc)

  after_not : (f : Fetched) (o last : Open) → GoesAfter m.ToRead h n p f o r last → r ≢ stepped.NoTxn
  after_not (fetched.In slot) o last goes = comes_not goes.0 (again_not goes.0 goes.2) goes.3
  after_not fetched.CacheFull o last goes = kept_not fetched.CacheFull goes.0
  after_not fetched.Gone o last goes = kept_not fetched.Gone goes.0
  after_not (fetched.BadBlock len) o last goes = kept_not (fetched.BadBlock len) goes.0
  after_not fetched.StoreFault o last goes = kept_not fetched.StoreFault goes.0
  after_not fetched.NoMemory o last goes = kept_not fetched.NoMemory goes.0

  on_not : (c : Came) (o last : Open) → c ≢ came.NoTxn → GoesOn m.ToRead h store before after n p c o r last → r ≢ stepped.NoTxn
  on_not (came.Absent id) o last other goes = after_not goes.0 goes.1 last goes.3
  on_not (came.Page bytes) o last other goes = comes_not (came.Page bytes) other goes.0
  on_not came.Held o last other goes = comes_not came.Held other goes.0
  on_not came.CacheFull o last other goes = comes_not came.CacheFull other goes.0
  on_not came.BadPage o last other goes = comes_not came.BadPage other goes.0
  on_not came.NoTxn o last other goes = comes_not came.NoTxn other goes.0
  on_not came.NoMemory o last other goes = comes_not came.NoMemory other goes.0

  pub steps_not : (o last : Open) → AreOpen o → txn_at n o.txns ≢ None → Steps m.ToRead h store before after o n p r last → r ≢ stepped.NoTxn
  steps_not o last are opens steps = on_not steps.0 steps.1 last (calls_not h o steps.1 n p steps.0 are opens steps.2) steps.3

  -- ---- the transactions are the same ones

  after_txns : (f : Fetched) (o last : Open) → GoesAfter m.ToRead h n p f o r last → last.txns ≡ o.txns
  after_txns (fetched.In slot) o last goes = goes.1.1
  after_txns fetched.CacheFull o last goes = ap (λ (x : Open). x.txns) goes.1
  after_txns fetched.Gone o last goes = ap (λ (x : Open). x.txns) goes.1
  after_txns (fetched.BadBlock len) o last goes = ap (λ (x : Open). x.txns) goes.1
  after_txns fetched.StoreFault o last goes = ap (λ (x : Open). x.txns) goes.1
  after_txns fetched.NoMemory o last goes = ap (λ (x : Open). x.txns) goes.1

  on_txns : (c : Came) (o last : Open) → GoesOn m.ToRead h store before after n p c o r last → last.txns ≡ o.txns
  on_txns (came.Absent id) o last goes = after_txns goes.0 goes.1 last goes.3 ∙ goes.2.1
  on_txns (came.Page bytes) o last goes = ap (λ (x : Open). x.txns) goes.1
  on_txns came.Held o last goes = ap (λ (x : Open). x.txns) goes.1
  on_txns came.CacheFull o last goes = ap (λ (x : Open). x.txns) goes.1
  on_txns came.BadPage o last goes = ap (λ (x : Open). x.txns) goes.1
  on_txns came.NoTxn o last goes = ap (λ (x : Open). x.txns) goes.1
  on_txns came.NoMemory o last goes = ap (λ (x : Open). x.txns) goes.1

  pub steps_txns : (o last : Open) → Steps m.ToRead h store before after o n p r last → last.txns ≡ o.txns
  steps_txns o last steps = on_txns steps.0 steps.1 last steps.3 ∙ steps.2.1

-- ---- replies of the step

store_is : (s : Stepped) → stepped_reply s ≡ reply.StoreFault → s ≡ stepped.StoreFault
store_is (stepped.Page bytes) e = absurd (cc)
store_is stepped.Held e = absurd (cc)
store_is stepped.CacheFull e = absurd (cc)
store_is stepped.BadPage e = absurd (cc)
store_is stepped.NoTxn e = absurd (cc)
store_is stepped.Gone e = absurd (cc)
store_is (stepped.BadBlock len) e = absurd (cc)
store_is stepped.StoreFault e = refl
store_is stepped.NoMemory e = absurd (cc)

txn_is : (s : Stepped) → stepped_reply s ≡ reply.NoTxn → s ≡ stepped.NoTxn
txn_is (stepped.Page bytes) e = absurd (cc)
txn_is stepped.Held e = absurd (cc)
txn_is stepped.CacheFull e = absurd (cc)
txn_is stepped.BadPage e = absurd (cc)
txn_is stepped.NoTxn e = refl
txn_is stepped.Gone e = absurd (cc)
txn_is (stepped.BadBlock len) e = absurd (cc)
txn_is stepped.StoreFault e = absurd (cc)
txn_is stepped.NoMemory e = absurd (cc)

-- ---- the step

is_open_for : (p : ℕ) (x : Option OpenTxn) → MatchOption x ⊥ (IsPageOf p) → x ≢ None
is_open_for p None form is = form
is_open_for p (Some t) form is = absurd (let e : Some t ≡ None = is in cc)

-- the task was taken out
module _ {D : Type 0} {g : _} (old mid : Client D g) (k n p : ℕ) (found : item_at k old.tasks.items ≡ Some (job.Fetch access.ToRead n p)) where
  pub taken_read : (j : Job) → TakesTask old mid k (Ok j) → TaskOut old mid k (job.Fetch access.ToRead n p) × CanStep mid (job.Fetch access.ToRead n p)
  taken_read j takes = subst (λ (x : Job). TaskOut old mid k x × CanStep mid x) (same_Some j (job.Fetch access.ToRead n p) (sym takes.0.found ∙ found)) takes

  pub always_taken : (r : Reply) → TakesTask old mid k (Err r) → ⊥
  always_taken reply.NoTask takes = absurd (let e : None ≡ Some (job.Fetch access.ToRead n p) = sym takes.1 ∙ found in cc)
  always_taken reply.Closed takes =
      let same : takes.job ≡ job.Fetch access.ToRead n p = same_Some takes.job (job.Fetch access.ToRead n p) (sym takes.out.found ∙ found) in
      absurd (let e : false ≡ true = sym (ap is_busy same) ∙ takes.busy in cc)
  always_taken _ takes = absurd takes

module _ {D : Type 0} {g : _} (told : DiskTold) (shown : D → DiskShown) (store : StoreTold) where
  pub step_reads : (before after : StoreShown) (old mid new : Client D g) (k n p : ℕ) (r : Reply)
      → AreOpen old.txns → TaskOut old mid k (job.Fetch access.ToRead n p) × CanStep mid (job.Fetch access.ToRead n p)
      → ClientFetches store before after mid new access.ToRead n p r
      → EndsJob told shown store before after mid new (job.Fetch access.ToRead n p) r → FallsJob told shown store before after mid new
      → StepReads told shown store before after old new k r
  step_reads before after old mid new k n p r are taken fetches ends falls =
      let out = taken.0 in
      let can = taken.1 in
      let only = fetches.fetches.only in
      let same : mid.txns ≡ old.txns = out.only.txns in
      record {
        exchanged = λ names clock. step_exchanged told shown store before after names clock old mid new k n p r out can fetches ends falls;
        reading = record {
          id = only.reading.id ∙ out.only.id;
          ledger = only.reading.ledger ∙ out.only.ledger;
          seen = only.reading.seen ∙ out.only.seen;
          latest = only.reading.latest ∙ out.only.latest;
          taken = only.reading.taken ∙ out.only.taken;
        };
        txns = steps_txns (pages_for mid.ledger.databases n mid.txns) store before after n p fetches.how mid.txns new.txns fetches.fetches.steps ∙ ap (λ (o : Open). o.txns) same;
        slots = steps_slots (seen_access access.ToRead) (pages_for mid.ledger.databases n mid.txns) store before after n p fetches.how mid.txns new.txns fetches.fetches.steps ∙ ap (λ (o : Open). o.slots) same;
        tasks = ap (λ t. t.items) only.tasks ∙ out.left;
        causes = record {
          later = fetches.fetches.says.later;
          rose = λ is. fetches.fetches.says.failed (store_is fetches.how (sym fetches.answers ∙ is));
        };
        is_open = λ is.
            steps_not (pages_for mid.ledger.databases n mid.txns) store before after n p fetches.how mid.txns new.txns (subst AreOpen (sym same) are) (is_open_for p (txn_at n mid.txns.txns) can.form) fetches.fetches.steps
            (txn_is fetches.how (sym fetches.answers ∙ is));
      }

  -- ---- the read

  -- which is answered at once
  pub page_at_once : (before : StoreShown) (old new : Client D g) (n p : ℕ) (r : Reply) → AreOpen old.txns → OnlyReading old new
      → AsksPage m.ToRead old new n p (job.Fetch access.ToRead n p) r → Locally shown (λ s u t. Fetches m.ToRead s u n p r t) old new r → is_task r ≡ false
      → PageReads told shown store before before old new n p r
  page_at_once before old new n p r are only asks machine quiet = record {
    exchanges = exchange (ask.Read n p) r ∷ [];
    talk = alone_one told shown store before before old new (exchange (ask.Read n p) r) (λ names clock. read_exchanged told shown store before names clock old new n p r only asks machine);
    asked = inl (quiet, refl);
    only = record {
      reading = only;
      txns = asks.calls.1;
      slots = page_slots m.ToRead (pages_for old.ledger.databases n old.txns) old.txns new.txns n p asks.how asks.calls;
      tasks = answers_same asks.how old.tasks.items new.tasks.items (job.Fetch access.ToRead n p) r quiet asks.answers;
    };
    causes = record {
      later = omega arith;
      rose = λ is. absurd (let e : true ≡ false = sym (ap is_io_fault is) ∙ page_inside m.ToRead old new n p (job.Fetch access.ToRead n p) r asks in cc);
    };
    is_open = λ opens is.
        answers_not asks.how old.tasks.items new.tasks.items (job.Fetch access.ToRead n p) r
        (calls_not (pages_for old.ledger.databases n old.txns) old.txns new.txns n p asks.how are opens asks.calls) asks.answers is;
  }

  -- the task that it started
  pub read_starts : (old new : Client D g) (n p k left : ℕ) → AsksPage m.ToRead old new n p (job.Fetch access.ToRead n p) (reply.Task k left)
      → item_at k new.tasks.items ≡ Some (job.Fetch access.ToRead n p)
  read_starts old new n p k left asks =
      let starts = answers_task asks.how old.tasks.items new.tasks.items (job.Fetch access.ToRead n p) k left asks.answers in
      started_item old.tasks.items new.tasks.items k (job.Fetch access.ToRead n p) starts.1 starts.3

  -- or goes on with the step of the task that it started
  pub page_by_step : (before after : StoreShown) (old mid new : Client D g) (n p k left : ℕ) (r : Reply) → OnlyReading old mid
      → AsksPage m.ToRead old mid n p (job.Fetch access.ToRead n p) (reply.Task k left)
      → Locally shown (λ s u t. Fetches m.ToRead s u n p (reply.Task k left) t) old mid (reply.Task k left)
      → StepReads told shown store before after mid new k r → PageReads told shown store before after old new n p r
  page_by_step before after old mid new n p k left r only asks machine step =
      let starts = answers_task asks.how old.tasks.items mid.tasks.items (job.Fetch access.ToRead n p) k left asks.answers in
      let first : Exchange = exchange (ask.Read n p) (reply.Task k left) in
      let second : Exchange = exchange (ask.Step k) r in
      record {
        exchanges = first ∷ second ∷ [];
        talk =
            alone_join told shown store before before after old mid new (first ∷ []) (second ∷ [])
            (alone_one told shown store before before old mid first (λ names clock. read_exchanged told shown store before names clock old mid n p (reply.Task k left) only asks machine))
            (alone_one told shown store before after mid new second step.exchanged);
        asked = inr (k, left, refl);
        only = record {
          reading = record {
            id = step.reading.id ∙ only.id;
            ledger = step.reading.ledger ∙ only.ledger;
            seen = step.reading.seen ∙ only.seen;
            latest = step.reading.latest ∙ only.latest;
            taken = step.reading.taken ∙ only.taken;
          };
          txns = step.txns ∙ asks.calls.1;
          slots = step.slots ∙ page_slots m.ToRead (pages_for old.ledger.databases n old.txns) old.txns mid.txns n p asks.how asks.calls;
          tasks = step.tasks ∙ started_others old.tasks.items mid.tasks.items k (job.Fetch access.ToRead n p) starts.1 starts.3;
        };
        causes = step.causes;
        is_open = λ opens. step.is_open;
      }

-- ---- the file of an open transaction

first_of : (a b c d : Bool) → (a && b && c && d) ≡ true → a ≡ true
first_of true b c d is = refl
first_of false b c d is = is

txn_size : (t : OpenTxn) → IsTxn t.txn → 0 < t.txn.base.entry.page_size
txn_size t is =
    let n : ℕ = t.txn.base.entry.page_size in
    let low : 512 ≤ n = leb-true 512 n (first_of (nat_le 512 n) (nat_le n 65536) (is_power_of_two n) (nat_le n t.txn.base.block) is.entry.page_size) in
    omega (arith, low)

txn_is_sized : (o : Open) (n : ℕ) (t : OpenTxn) → AreOpen o → txn_at n o.txns ≡ Some t → 0 < t.txn.base.entry.page_size
txn_is_sized o n t are found = by o.cache are
  where
    by : (a : Option Blocks) → AreOpenWith o.slots a o.txns → 0 < t.txn.base.entry.page_size
    by None none = absurd (let e : None ≡ Some t = sym (ap (txn_at n) none) ∙ found in cc)
    by (Some c) there = txn_size t (one_of (λ (x : OpenTxn). IsTxn x.txn) (is_numbered n) o.txns t there.0.txns found)

-- its pages are of some size
pub opened_sized : (o : Open) (n a b c : ℕ) → AreOpen o → opened_as n o ≡ Some (a, b, c) → 0 < b
opened_sized o n a b c are opened = by (txn_at n o.txns) refl opened
  where
    by : (x : Option OpenTxn) → txn_at n o.txns ≡ x → option_map opened_by x ≡ Some (a, b, c) → 0 < b
    by None is given = absurd (let e : ◌≡◌ {A = Option (ℕ × ℕ × ℕ)} None (Some (a, b, c)) = given in cc)
    by (Some t) is given =
        let same : opened_by t ≡ (a, b, c) = same_Some (opened_by t) (a, b, c) given in
        subst (λ (k : ℕ). 0 < k) (ap (λ (y : ℕ × ℕ × ℕ). y.1) same) (txn_is_sized o n t are is)

pub opened_there : (o : Open) (n off len : ℕ) (span : Span) → Some span ≡ option_map (λ (x : ℕ × ℕ × ℕ). span_of x off len) (opened_as n o) → txn_at n o.txns ≢ None
opened_there o n off len span is none =
    absurd (let e : Some span ≡ None = is ∙ ap (λ (x : Option OpenTxn). option_map (λ (y : ℕ × ℕ × ℕ). span_of y off len) (option_map opened_by x)) none in cc)
