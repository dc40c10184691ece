-- A read and a hold are events of the machine: what comes at once is answered, and a page that has to be fetched starts a task.
use Rattle.std.proofs.Common.{◌≡◌, ◌∙◌, ◌==◌, ℕ, true, false, nat_le, List, [], ◌∷◌, ◌++◌, map, length, find, Option, Some, None, refl, sym, ap, subst, inl, inr}
use Rattle.std.specs.Global.{Vec}
use Rattle.std.proofs.lemmas.Bool.{cases_Bool, eqb-true}
use Rattle.std.proofs.lemmas.Option.{same_Some}
use Rattle.bcv_base.specs.declared.id.Id16.{Id16}
use Rattle.bcv_base.specs.declared.log.Entry.{Entry as LogEntry}
use Rattle.bcv_base.specs.declared.seen.Latest.{Latest}
use Rattle.bcv_base.specs.declared.seen.Seen.{Seen}
use Rattle.bcv_base.specs.History.{Item, history_of}
use Rattle.bcv_cache.specs.Entry as cache
use Rattle.bcv_clientlaws.specs.Different.{AtMostOne}
use Rattle.bcv_clientlaws.specs.Starts.{with_new_task}
use Rattle.bcv_clientlaws.specs.TaskLists.{task_number, task_numbers}
use Rattle.bcv_clientlaws.proofs.Different.{one_with_other}
use Rattle.bcv_clientlaws.proofs.Lists.{map_append, map_map}
use Rattle.bcv_clientlaws.proofs.TaskStarts.{fetch_starts, quiet_task_fits, refuses_fetch}
use Rattle.bcv_clientstate.specs.Fits.{Fits}
use Rattle.bcv_clientstate.specs.Journaled.{Journaled}
use Rattle.bcv_clientstate.specs.Parts.{Fetching, Parts, Task}
use Rattle.bcv_clientstate.specs.SeenClient.{Free, side_of}
use Rattle.bcv_clientstate.specs.StartRefusals.{runs_all}
use Rattle.bcv_clientstate.proofs.PartRefusals.{map_len}
use Rattle.bcv_disk.specs.DiskShown.{DiskShown}
use Rattle.bcv_ledger.specs.declared.ledger.Ledger.{Ledger}
use Rattle.bcv_machine.specs.Reading.{Fetches, FetchesIn, FetchesOf}
use Rattle.bcv_machine.specs.Refusals.{UnlessRefused, page_refusal}
use Rattle.bcv_machine.specs.State as m
use Rattle.bcv_machine.specs.State.{Access, Side, Up, with_up}
use Rattle.bcv_model.specs.declared.reply.Reply.{Reply}
use Rattle.bcv_model.specs.declared.reply.Reply.TheVariants as reply
use Rattle.bcv_slots.specs.declared.Slot.{Slot}
use Rattle.bcv_slots.specs.Numbered.{least_free, numbers_of}
use Rattle.bcv_transaction.specs.declared.answers.Came.{Came}
use Rattle.bcv_transaction.specs.declared.answers.Came.TheVariants as came
use Rattle.bcv_transaction.specs.MachineCalls.{WantsTask}
use Rattle.bcv_transaction.specs.Open.{Open}
use Rattle.bcv_transaction.specs.StepCalls.{PageCalls}
use Rattle.bcv_client.specs.ClientParts.{entries_in, entries_of, parts_of, seen_access, task_part}
use Rattle.bcv_client.specs.InForm.{InForm}
use Rattle.bcv_client.specs.Events.{IsNoEvent, Locally, LocallyOver, StandsOver, client_side, client_up}
use Rattle.bcv_client.specs.PagesFound.{ComesAt, ComesOver}
use Rattle.bcv_client.specs.TaskStarts.{OnlyTasks, StartsLast}
use Rattle.bcv_client.specs.Transactions.{AnswersPage, AsksPage, OnlyReading, OnlyTxns, came_reply, pages_for}
use Rattle.bcv_client.specs.declared.client.Client.{Client}
use Rattle.bcv_client.specs.declared.job.Access.{Access as JobAccess}
use Rattle.bcv_client.specs.declared.job.Job.{Job}
use Rattle.bcv_client.specs.declared.job.Job.TheVariants as job
use Rattle.bcv_client.proofs.ReadsSaw.{SawAll, saw_more, saw_same}
use Rattle.bcv_client.proofs.TxnStands.{parts_from}

-- ---- the client with other tasks

module _ {D : Type 0} {g : _} (mid new : Client D g) (only : OnlyTasks mid new) where
  parts_tasks : parts_of new ≡ parts_from mid.id mid.ledger mid.seen mid.latest mid.txns new.tasks.items
  parts_tasks =
      ap (λ (i : Id16). parts_from i new.ledger new.seen new.latest new.txns new.tasks.items) only.id
      ∙ ap (λ (l : Ledger D g). parts_from mid.id l new.seen new.latest new.txns new.tasks.items) only.ledger
      ∙ ap (λ (s : Seen). parts_from mid.id mid.ledger s new.latest new.txns new.tasks.items) only.seen
      ∙ ap (λ (l : Option Latest). parts_from mid.id mid.ledger mid.seen l new.txns new.tasks.items) only.latest
      ∙ ap (λ (o : Open). parts_from mid.id mid.ledger mid.seen mid.latest o new.tasks.items) only.txns

  -- the same ones
  parts_same : new.tasks.items ≡ mid.tasks.items → parts_of new ≡ parts_of mid
  parts_same same = parts_tasks ∙ ap (parts_from mid.id mid.ledger mid.seen mid.latest mid.txns) same

  -- one more
  parts_more : (n : ℕ) (j : Job) → new.tasks.items ≡ mid.tasks.items ++ record { number = n; item = j } ∷ [] → parts_of new ≡ with_new_task n (task_part mid.ledger.databases (record { number = n; item = j })).job (parts_of mid)
  parts_more n j more =
      parts_tasks ∙ ap (parts_from mid.id mid.ledger mid.seen mid.latest mid.txns) more
      ∙ ap (λ (ts : List Task). record (parts_of mid) { tasks = ts }) (map_append (task_part mid.ledger.databases) mid.tasks.items (record { number = n; item = j } ∷ []))

  -- it stands as it stood, where its parts fit
  stands_by : (shown : D → DiskShown) (log : List LogEntry) (f : Free) (q : Parts) → StandsOver shown mid log f → parts_of new ≡ q → Fits q (entries_of mid) log → SawAll (history_of log) new.tasks.items → StandsOver shown new log f
  stands_by shown log f q stands is fits saw = record {
    sound = stands.sound;
    fits = subst (λ (p : Parts). Fits p (entries_of new) log) (sym is) (subst (λ (es : List cache.Entry). Fits q es log) (sym (ap (λ (o : Open). entries_in o.cache) only.txns)) fits);
    saw = saw;
    journaled = subst (λ (l : Ledger D g). Journaled shown l.log l.databases.kept f) (sym only.ledger) stands.journaled;
    slots = stands.slots ∙ sym (ap (λ (o : Open). o.slots) only.txns);
  }

numbers_are : {D : Type 0} {g : _} (c : Client D g) → task_numbers (parts_of c) ≡ numbers_of c.tasks.items
numbers_are c = map_map task_number (task_part c.ledger.databases) (λ (s : Slot Job). s.number) (λ s. refl) c.tasks.items

runs_are : {D : Type 0} {g : _} (c : Client D g) → runs_all (parts_of c) ≡ nat_le 16 (length c.tasks.items)
runs_are c = ap (nat_le 16) (map_len (task_part c.ledger.databases) c.tasks.items)

-- ---- the machine's transaction of a number has it

number_is : (n : ℕ) (ts : List m.Txn) (x : m.Txn) → find (λ (t : m.Txn). t.number == n) ts ≡ Some x → x.number ≡ n
number_is n [] x found = absurd (cc)
number_is n (t ∷ ts) x found = elim (cases_Bool (t.number == n)) [
  | inl b ↦ (let is : t ≡ x = (let some = rw b at found in cc) in subst (λ (y : m.Txn). y.number ≡ n) is (eqb-true t.number n b))
  | inr b ↦ number_is n ts x (rw b at found)
]

-- a fetch of a transaction that is open and of a page that it has
fetches_so : (access : Access) (s : Side) (u : Up) (n p : ℕ) (x : m.Txn) (r : Reply) (t : Side) → page_refusal u n p ≡ None → m.txn_at u n ≡ Some x → FetchesIn access s u x p r t → Fetches access s u n p r t
fetches_so access s u n p x r t passes found goes =
    subst (λ (o : Option Reply). UnlessRefused o (with_up s u) r t (FetchesOf access s u (m.txn_at u n) p r t)) (sym passes)
    (subst (λ (o : Option m.Txn). FetchesOf access s u o p r t) (sym found) goes)

-- ---- the call

module _ {D : Type 0} {g : _} (shown : D → DiskShown) (old mid new : Client D g) (access : JobAccess) (n p : ℕ) (only : OnlyTasks mid new)
    (moment : ℕ) (log : List LogEntry) (f : Free) where
  abbrev Goes : Reply → Side → Up → Side → Type 0
  Goes r s u t = Fetches (seen_access access) s u n p r t

  abbrev Ends : Reply → Type 0
  Ends r = LocallyOver shown (Goes r) old new moment log f r

  -- what came is answered
  answered : (r : Reply) → new.tasks.items ≡ mid.tasks.items → StandsOver shown mid log f → (IsNoEvent r → ⊥)
      → Goes r (client_side moment log old f) (client_up log old) (client_side moment log mid f) → Ends r
  answered r same stands is goes = record {
    stands = stands_by mid new only shown log f (parts_of mid) stands (parts_same mid new only same) stands.fits (saw_same (history_of log) mid.tasks.items new.tasks.items same stands.saw);
    goes = record {
      event = λ no. subst (λ (q : Parts). Goes r (client_side moment log old f) (client_up log old) (side_of moment (history_of log) q f)) (sym (parts_same mid new only same)) goes;
      still = λ none. absurd (is none);
    };
  }

  -- nothing has happened
  unmoved : (r : Reply) → new.tasks.items ≡ mid.tasks.items → StandsOver shown mid log f → IsNoEvent r → client_side moment log mid f ≡ client_side moment log old f → Ends r
  unmoved r same stands is still = record {
    stands = stands_by mid new only shown log f (parts_of mid) stands (parts_same mid new only same) stands.fits (saw_same (history_of log) mid.tasks.items new.tasks.items same stands.saw);
    goes = record {
      event = λ no. absurd (no is);
      still = λ none. ap (λ (q : Parts). side_of moment (history_of log) q f) (parts_same mid new only same) ∙ still;
    };
  }

  up_same : client_side moment log mid f ≡ client_side moment log old f → client_up log mid ≡ client_up log old
  up_same still = same_Some (client_up log mid) (client_up log old) (ap (λ (s : Side). s.client.up) still)

  -- from where the client stood before
  from_old : (r : Reply) (t : Side) → client_side moment log mid f ≡ client_side moment log old f → (x : m.Txn) → FetchesIn (seen_access access) (client_side moment log mid f) (client_up log mid) x p r t
      → FetchesIn (seen_access access) (client_side moment log old f) (client_up log old) x p r t
  from_old r t still x goes =
      subst (λ (u : Up). FetchesIn (seen_access access) (client_side moment log old f) u x p r t) (up_same still)
      (subst (λ (s : Side). FetchesIn (seen_access access) s (client_up log mid) x p r t) still goes)

  -- a task is started, or is not
  asked : (r : Reply) → StandsOver shown mid log f → WantsTask (client_side moment log old f) (client_up log old) n p (client_side moment log mid f)
      → StartsLast mid.tasks.items new.tasks.items (job.Fetch access n p) 1 r → Ends r
  asked (reply.Task k left) stands wants starts =
      let past : List Item = history_of log in
      let more = parts_more mid new only k (job.Fetch access n p) starts.3 in
      let x : m.Txn = wants.txn in
      let number : x.number ≡ n = number_is n (client_up log old).txns x wants.is_open in
      let few : runs_all (parts_of mid) ≡ false = runs_are mid ∙ starts.0 in
      let free : least_free (task_numbers (parts_of mid)) ≡ Some k = ap least_free (numbers_are mid) ∙ starts.1 in
      let goes = fetch_starts moment past (parts_of mid) f k p (seen_access access) x wants.away few free in
      let named = subst (λ (i : ℕ). FetchesIn (seen_access access) (client_side moment log mid f) (client_up log mid) x p (reply.Task k 1) (side_of moment past (with_new_task k (Fetching (seen_access access) i p) (parts_of mid)) f)) number goes in
      let before = from_old (reply.Task k 1) _ wants.same x named in
      let whole = fetches_so (seen_access access) (client_side moment log old f) (client_up log old) n p x (reply.Task k 1) _ wants.passes wants.is_open before in
      record {
        stands = stands_by mid new only shown log f _ stands more (quiet_task_fits log (parts_of mid) (entries_of mid) k (Fetching (seen_access access) n p) stands.fits refl)
            (saw_same past _ new.tasks.items starts.3 (saw_more past mid.tasks.items (record { number = k; item = job.Fetch access n p }) stands.saw tt));
        goes = record {
          event = λ no. subst (λ (q : Parts). Goes (reply.Task k left) (client_side moment log old f) (client_up log old) (side_of moment past q f)) (sym more)
              (subst (λ (l : ℕ). Goes (reply.Task k l) (client_side moment log old f) (client_up log old) (side_of moment past (with_new_task k (Fetching (seen_access access) n p) (parts_of mid)) f)) (sym starts.2) whole);
          still = λ none. absurd none;
        };
      }
  asked reply.TooMany stands wants starts =
      let past : List Item = history_of log in
      let x : m.Txn = wants.txn in
      let all : runs_all (parts_of mid) ≡ true = runs_are mid ∙ starts.0 in
      let goes = refuses_fetch moment past (parts_of mid) f p (seen_access access) x wants.away all in
      answered reply.TooMany starts.1 stands (λ none. none)
      (fetches_so (seen_access access) (client_side moment log old f) (client_up log old) n p x reply.TooMany _ wants.passes wants.is_open (from_old reply.TooMany _ wants.same x goes))
  asked reply.NoMemory stands wants starts = unmoved reply.NoMemory starts stands tt wants.same
  asked _ stands wants starts = absurd starts

  ends : (c : Came) (r : Reply) → ComesAt (seen_access access) shown old mid n p c moment log f → AnswersPage (came_reply c) mid.tasks.items new.tasks.items (job.Fetch access n p) r → Ends r
  ends (came.Absent id) r at answers = asked r at.stands at.comes answers
  ends (came.Page bytes) r at answers = subst Ends (sym answers.0) (answered (reply.Page bytes.items) answers.1 at.stands (λ none. none) at.comes)
  ends came.Held r at answers = subst Ends (sym answers.0) (answered reply.Held answers.1 at.stands (λ none. none) at.comes)
  ends came.CacheFull r at answers = subst Ends (sym answers.0) (answered reply.CacheFull answers.1 at.stands (λ none. none) at.comes)
  ends came.BadPage r at answers = subst Ends (sym answers.0) (answered reply.BadPage answers.1 at.stands (λ none. none) at.comes)
  ends came.NoTxn r at answers = subst Ends (sym answers.0) (answered reply.NoTxn answers.1 at.stands (λ none. none) at.comes)
  ends came.NoMemory r at answers = subst Ends (sym answers.0) (unmoved reply.NoMemory answers.1 at.stands tt at.comes)

pub asks_locally : {D : Type 0} {g : _} (shown : D → DiskShown) (old mid new : Client D g) (access : JobAccess) (n p : ℕ) (c : Came) (r : Reply)
    → ComesOver (seen_access access) shown old mid n p c → OnlyTasks mid new → AnswersPage (came_reply c) mid.tasks.items new.tasks.items (job.Fetch access n p) r
    → Locally shown (λ s u t. Fetches (seen_access access) s u n p r t) old new r
asks_locally shown old mid new access n p c r over only answers = λ moment log f stands. ends shown old mid new access n p only moment log f c r (over moment log f stands) answers

-- but for transactions, cache and tasks nothing has changed
pub asked_only : {D : Type 0} {g : _} (old mid new : Client D g) → OnlyTxns old mid → OnlyTasks mid new → OnlyReading old new
asked_only old mid new first second = record {
  id = second.id ∙ first.reading.id;
  ledger = second.ledger ∙ first.reading.ledger;
  seen = second.seen ∙ first.reading.seen;
  latest = second.latest ∙ first.reading.latest;
  taken = second.taken ∙ first.reading.taken;
}

pub asks_page : {D : Type 0} {g : _} (old mid new : Client D g) (access : JobAccess) (n p : ℕ) (c : Came) (r : Reply) → OnlyTxns old mid → OnlyTasks mid new
    → PageCalls (seen_access access) (pages_for old.ledger.databases n old.txns) old.txns n p c mid.txns
    → AnswersPage (came_reply c) mid.tasks.items new.tasks.items (job.Fetch access n p) r
    → AsksPage (seen_access access) old new n p (job.Fetch access n p) r
asks_page old mid new access n p c r first second calls answers = record {
  how = c;
  calls = subst (λ (o : Open). PageCalls (seen_access access) (pages_for old.ledger.databases n old.txns) old.txns n p c o) (sym second.txns) calls;
  answers = subst (λ (ss : Vec (Slot Job)). AnswersPage (came_reply c) ss.items new.tasks.items (job.Fetch access n p) r) first.tasks answers;
}

-- a task that fetches publishes nothing
pub fetch_single : {D : Type 0} {g : _} (c : Client D g) (access : JobAccess) (n p : ℕ) → InForm c
    → AtMostOne (map (task_part c.ledger.databases) (c.tasks.items ++ record { number = 0; item = job.Fetch access n p } ∷ []))
fetch_single c access n p form =
    let s : Slot Job = record { number = 0; item = job.Fetch access n p } in
    subst AtMostOne (sym (map_append (task_part c.ledger.databases) c.tasks.items (s ∷ [])))
    (one_with_other (task_part c.ledger.databases s) (parts_of c) refl form.tasks_are.single)

-- a page that did not come starts the task
pub answers_absent : (c : Came) (id : Id16) (old new : List (Slot Job)) (j : Job) (r : Reply) → c ≡ came.Absent id → StartsLast old new j 1 r → AnswersPage (came_reply c) old new j r
answers_absent c id old new j r is starts = subst (λ (x : Came). AnswersPage (came_reply x) old new j r) (sym is) starts
