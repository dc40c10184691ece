-- The step of the task of a number, from the client that has the task in its list.
use Rattle.std.proofs.Common.{◌≡◌, ◌∙◌, ◌==◌, ◌||◌, ◌≤◌, ◌<◌, ℕ, Bool, true, false, cond, not, List, [], ◌∷◌, ◌++◌, append-nil, length, filter, find, Option, Some, None, Result, Ok, Err, option_map, refl, sym, ap, subst, arith}
use Rattle.std.specs.List.{flat_map}
use Rattle.std.proofs.lemmas.Bool.{lt-leb}
use Rattle.std.proofs.lemmas.Option.{same_Some}
use Rattle.bcv_base.specs.declared.id.Id16.{Id16}
use Rattle.bcv_base.specs.declared.log.Entry.{Entry}
use Rattle.bcv_base.specs.declared.outcome.Outcome.{Outcome}
use Rattle.bcv_base.specs.declared.outcome.Outcome.TheVariants as outcome
use Rattle.bcv_base.specs.Drawn.{AddsNames, NamesShown}
use Rattle.bcv_base.specs.History.{history_of}
use Rattle.bcv_base.specs.Ids.{has_id, id_eq}
use Rattle.bcv_base.specs.Moments.{ClockShown}
use Rattle.bcv_clientlaws.specs.OtherParts.{Includes}
use Rattle.bcv_clientlaws.specs.TaskLists.{task_at, with_task, without_task}
use Rattle.bcv_clientlaws.proofs.Lists.{filter_map}
use Rattle.bcv_clientlaws.proofs.OtherParts.{client_is_mine, found_task_fits, in_front, includes_all, names_suffice, tasks_are_mine}
use Rattle.bcv_clientlog.specs.LogParts.{is_shut}
use Rattle.bcv_clientstate.specs.Parts as parts
use Rattle.bcv_clientstate.specs.Parts.{mine_of, names_of_job, names_of_pending}
use Rattle.bcv_clientstate.specs.SeenClient.{Free}
use Rattle.bcv_clientstate.specs.Fits.{FitsTask}
use Rattle.bcv_dbmap.specs.RequestGrowth.{RequestGrowth}
use Rattle.bcv_dbmap.specs.Sound.{IsSoundLog}
use Rattle.bcv_disk.specs.DiskShown.{DiskShown, DiskTold}
use Rattle.bcv_ledger.specs.declared.ledger.Ledger.{Ledger}
use Rattle.bcv_machine.specs.State as m
use Rattle.bcv_model.specs.declared.reply.Reply.{Reply}
use Rattle.bcv_model.specs.declared.reply.Reply.TheVariants as reply
use Rattle.bcv_model.specs.declared.reply.Said.{Said}
use Rattle.bcv_publisher.specs.WorkStep.{IsEvent}
use Rattle.bcv_slots.specs.declared.Slot.{Slot}
use Rattle.bcv_slots.specs.Numbered.{has_number, item_at, numbers_of, other_slots}
use Rattle.bcv_slots.proofs.NumbersDiffer.{others_have_none}
use Rattle.bcv_store.specs.StoreShown.{StoreShown, StoreTold}
use Rattle.bcv_tasks.specs.declared.publish_task.PublishTask.{PublishTask}
use Rattle.bcv_client.specs.CallNames.{flight_names}
use Rattle.bcv_client.specs.ClientParts.{entries_of, parts_of}
use Rattle.bcv_client.specs.Events.{SawItsReads, StandsOver, client_side, client_up}
use Rattle.bcv_client.specs.NewTasks.{is_busy}
use Rattle.bcv_client.specs.PublicationOver.{StandsWith, mine_with, publishing_part}
use Rattle.bcv_client.specs.Steps.{EndsJob, RequestOver, StepsOf, said_over}
use Rattle.bcv_client.specs.TaskCalls.{PublishesOver, StepsNumber}
use Rattle.bcv_client.specs.TaskStarts.{OnlyTasks}
use Rattle.bcv_client.specs.TaskTaken.{CanGiveBack, CanStep, StepsQuietly, TakesTask, TaskOut, is_single}
use Rattle.bcv_client.specs.declared.client.Client.{Client}
use Rattle.bcv_client.specs.declared.job.Job.{Job}
use Rattle.bcv_client.specs.declared.job.Job.TheVariants as job
use Rattle.bcv_client.proofs.PollOver.{none_added}
use Rattle.bcv_client.proofs.TasksTaken.{behind, ended_steps, few_filtered, found_has, part_at, parts_without, stands_without, step_of_number, without_mine}
use Rattle.bcv_client.proofs.MyNames.{named_unmoved}

-- ---- the place of a task that was taken out

abbrev but : ℕ → Slot Job → Bool
but n s = not (s.number == n)

fewer_left : (n : ℕ) (ss : List (Slot Job)) (j : Job) → item_at n ss ≡ Some j → length (other_slots n ss) < length ss
fewer_left n [] j is = absurd (let e : None ≡ Some j = is in cc)
fewer_left n (s ∷ ss) j is =
    elim (s.number == n) as (λ (b : Bool). option_map (λ (x : Slot Job). x.item) (cond b (Some s) (find (λ (x : Slot Job). x.number == n) ss)) ≡ Some j
    → length (cond (not b) (s ∷ other_slots n ss) (other_slots n ss)) < length (s ∷ ss)) [
      | true ↦ λ h. (let less : length (other_slots n ss) ≤ length ss = few_filtered (but n) ss in omega (arith, less))
      | false ↦ λ h. (let less : length (other_slots n ss) < length ss = fewer_left n ss j h in omega (arith, less))
    ] is

pub place_left : (n : ℕ) (ss ts : List (Slot Job)) (j : Job) → item_at n ss ≡ Some j → ts ≡ other_slots n ss → length ss ≤ 16 → CanGiveBack n ts
place_left n ss ts j is left few =
    let less : length (other_slots n ss) < length ss = fewer_left n ss j is in
    subst (CanGiveBack n) (sym left)
    (record {
      free =
          ap (has_number n) (sym (filter_map (λ (s : Slot Job). s.number) (λ (k : ℕ). not (k == n)) (but n) (λ s. refl) ss))
          ∙ others_have_none n (numbers_of ss);
      few = lt-leb 16 (length (other_slots n ss)) (omega (arith, less, few));
    })

-- ---- its names

abbrev names_of : List parts.Task → List Id16
names_of ts = flat_map (λ (t : parts.Task). names_of_job t.job) ts

abbrev other : ℕ → parts.Task → Bool
other n t = not (t.number == n)

in_front_of : (i : Id16) (a b : List Id16) → has_id i a ≡ true → has_id i (a ++ b) ≡ true
in_front_of i a b has = in_front (a ++ b) a b (includes_all (a ++ b)) i has

-- what a found task has is among all
found_names : (i : Id16) (n : ℕ) (ts : List parts.Task) (t : parts.Task) → find (λ (x : parts.Task). x.number == n) ts ≡ Some t → has_id i (names_of_job t.job) ≡ true → has_id i (names_of ts) ≡ true
found_names i n [] t is has = absurd (let e : None ≡ Some t = is in cc)
found_names i n (x ∷ ts) t is has =
    elim (x.number == n) as (λ (b : Bool). cond b (Some x) (find (λ (y : parts.Task). y.number == n) ts) ≡ Some t → has_id i (names_of_job x.job ++ names_of ts) ≡ true) [
      | true ↦ λ h. in_front_of i (names_of_job x.job) (names_of ts) (subst (λ (y : parts.Task). has_id i (names_of_job y.job) ≡ true) (sym (same_Some x t h)) has)
      | false ↦ λ h. behind i (names_of_job x.job) (names_of ts) (found_names i n ts t h has)
    ] is

-- of names that stand in either part, where both are among all
either : (i : Id16) (a b all : List Id16) → (has_id i a ≡ true → has_id i all ≡ true) → (has_id i b ≡ true → has_id i all ≡ true) → has_id i (a ++ b) ≡ true → has_id i all ≡ true
either i [] b all one two has = two has
either i (x ∷ xs) b all one two has =
    elim (id_eq x i) as (λ (t : Bool). id_eq x i ≡ t → (t || has_id i (xs ++ b)) ≡ true → has_id i all ≡ true) [
      | true ↦ λ e h. one (ap (λ (t : Bool). t || has_id i xs) e)
      | false ↦ λ e h. either i xs b all (λ has_it. one (ap (λ (t : Bool). t || has_id i xs) e ∙ has_it)) two h
    ] refl has

fewer_or_found : (i : Id16) (n : ℕ) (all : List Id16) (ts : List parts.Task) (t : parts.Task) → (has_id i (names_of ts) ≡ true → has_id i all ≡ true) → (has_id i (names_of_job t.job) ≡ true → has_id i all ≡ true)
    → has_id i (names_of (filter (other n) ts ++ t ∷ [])) ≡ true → has_id i all ≡ true
fewer_or_found i n all [] t rest one has = either i (names_of_job t.job) [] all one (λ none. absurd (let e : false ≡ true = none in cc)) has
fewer_or_found i n all (x ∷ ts) t rest one has =
    elim (other n x) as (λ (b : Bool). has_id i (names_of (cond b (x ∷ filter (other n) ts) (filter (other n) ts) ++ t ∷ [])) ≡ true → has_id i all ≡ true) [
      | true ↦ λ h. either i (names_of_job x.job) (names_of (filter (other n) ts ++ t ∷ [])) all (λ in_it. rest (in_front_of i (names_of_job x.job) (names_of ts) in_it))
          (fewer_or_found i n all ts t (λ in_it. rest (behind i (names_of_job x.job) (names_of ts) in_it)) one) h
      | false ↦ λ h. fewer_or_found i n all ts t (λ in_it. rest (behind i (names_of_job x.job) (names_of ts) in_it)) one h
    ] has

pub found_mine : (n : ℕ) (p : parts.Parts) (t : parts.Task) → task_at n p ≡ Some t → Includes (mine_of p) (mine_of (with_task t (without_task n p)))
found_mine n p t is i has =
    let front : List Id16 = p.id ∷ names_of_pending p.kept.pending in
    either i front (names_of (filter (other n) p.tasks ++ t ∷ [])) (mine_of p)
    (λ in_it. in_front_of i front (names_of p.tasks) in_it)
    (fewer_or_found i n (mine_of p) p.tasks t (λ in_it. behind i front (names_of p.tasks) in_it) (λ in_it. behind i front (names_of p.tasks) (found_names i n p.tasks t is in_it))) has

-- the last task's names are among all
named_last : (i : Id16) (ts : List parts.Task) (t : parts.Task) → has_id i (names_of_job t.job) ≡ true → has_id i (names_of (ts ++ t ∷ [])) ≡ true
named_last i [] t has = in_front_of i (names_of_job t.job) [] has
named_last i (x ∷ ts) t has = behind i (names_of_job x.job) (names_of (ts ++ t ∷ [])) (named_last i ts t has)

-- ---- the client without it stands with it

module _ {D : Type 0} {g : _} (shown : D → DiskShown) (old mid : Client D g) (n set taken : ℕ) (t : PublishTask) (out : TaskOut old mid n (job.Publish set taken t)) where
  abbrev j : Job
  j = job.Publish set taken t

  abbrev part : parts.Task
  part = publishing_part mid.ledger.databases n set taken t

  part_was : part ≡ publishing_part old.ledger.databases n set taken t
  part_was = ap (λ (l : Ledger D g). publishing_part l.databases n set taken t) out.only.ledger

  found : task_at n (parts_of old) ≡ Some part
  found = part_at old mid n j out ∙ ap Some (sym part_was)

  pub mine_found : (mine : List Id16) → Includes mine (mine_of (parts_of old)) → Includes mine (mine_with mid n set taken t)
  mine_found mine all i has =
      all i (found_mine n (parts_of old) part found i (subst (λ (p : parts.Parts). has_id i (mine_of (with_task part p)) ≡ true) (parts_without old mid n j out) has))

  pub stands_found : (log : List Entry) (f : Free) → StandsOver shown old log f → StandsWith shown mid n set taken t log f
  stands_found log f stands =
      let is = found_task_fits log (parts_of old) (entries_of old) n part stands.fits found in
      let q : parts.Parts = with_task part (parts_of mid) in
      let more : List Id16 = mine_with mid n set taken t in
      let own : Includes more (names_of_job part.job) = λ i has. tasks_are_mine q i (named_last i (parts_of mid).tasks part has) in
      record {
        stands = stands_without old mid n j out shown log f stands;
        task = record {
          fits =
              subst (λ (x : Id16). FitsTask more x mid.ledger.databases.kept log part) (sym out.only.id)
              (subst (λ (l : Ledger D g). FitsTask more old.id l.databases.kept log part) (sym out.only.ledger)
              (names_suffice (mine_of (parts_of old)) more old.id old.ledger.databases.kept log part.job is.fits (subst (λ (x : Id16). has_id x more ≡ true) out.only.id (client_is_mine q)) own));
          staged = is.staged;
          saw = found_has (SawItsReads (history_of log)) n old.tasks.items j stands.saw out.found;
        };
      }

-- ---- each way of a step

module _ {D : Type 0} {g : _} (told : DiskTold) (shown : D → DiskShown) (store : StoreTold) (before after : StoreShown) (names later_names : NamesShown) (clock later_clock : ClockShown)
    (old mid new : Client D g) (n : ℕ) (r : Reply) where
  -- a publication
  pub publication_steps : (set taken : ℕ) (t : PublishTask) → TaskOut old mid n (job.Publish set taken t) → is_shut old.ledger.log ≡ false
      → PublishesOver told shown store before after names later_names clock later_clock mid new n set taken t r
      → StepsNumber told shown store before after names later_names clock later_clock old new n r
  publication_steps set taken t out opens steps = record {
    ids = steps.ids;
    drawn = steps.drawn;
    few = steps.few;
    at = steps.at;
    reads = steps.reads;
    over = λ tells disk moment mine f stands all draws unused at grew armed.
        step_of_number shown store before after old mid new n (job.Publish set taken t) r out (λ busy. opens) (IsEvent names later_names clock later_clock r) mine moment f
        (steps.over tells disk moment mine f (stands_found shown old mid n set taken t out before.log f stands) (mine_found shown old mid n set taken t out mine all) draws unused at grew armed);
  }

-- no name is drawn
pub adds_none : (names : Option (List Id16)) → AddsNames names names []
adds_none None = tt
adds_none (Some ids) = sym (append-nil ids)

module _ {D : Type 0} {g : _} (told : DiskTold) (shown : D → DiskShown) (store : StoreTold) (before after : StoreShown) (names : NamesShown) (clock : ClockShown)
    (old mid new : Client D g) (n : ℕ) (r : Reply) where
  -- one that ends with its step
  pub single_steps : (j : Job) → TaskOut old mid n j → (is_busy j ≡ true → is_shut old.ledger.log ≡ false) → EndsJob told shown store before after mid new j r
      → StepsNumber told shown store before after names names clock clock old new n r
  single_steps j out opens ends = record {
    ids = [];
    drawn = adds_none names.drawn;
    few = omega arith;
    at = None;
    reads = tt;
    over = λ tells disk moment mine f stands all draws unused at grew armed.
        let over = ended_steps shown store before after old mid new n j r out opens told ends tells disk moment mine f stands all grew armed in
        record { growth = over.growth; free = over.free; stands = over.stands; names = over.names; flight = over.flight; event = λ is. over.event is.memory };
  }

-- ---- no request was made

-- nothing was appended
abbrev pub grew_none : (alone : Type 0) (mine : List Id16) (log : List Entry) → IsSoundLog log → RequestGrowth alone mine log log
grew_none alone mine log sound = record {
  others = [];
  none = λ is. refl;
  lawful = tt;
  own = [];
  one = omega arith;
  grown = sym (append-nil (log ++ []) ∙ append-nil log);
  own_lawful = λ theirs apart. tt;
  sound = sound;
}

-- what the machine says under every outcome is a request that was not made
pub quiet_request : {D : Type 0} {g : _} (Goes : m.Side → m.Up → Outcome → Said → Bool → m.Side → Type 0) (IsOne : Type 0) (shown : D → DiskShown) (store : StoreTold) (mine : List Id16) (before : StoreShown)
    (old new : Client D g) (moment : ℕ) (f free : Free) (r : Reply) → IsSoundLog before.log → StandsOver shown new before.log free
    → Includes mine (mine_of (parts_of new)) → (Includes mine (flight_names f.flight) → Includes mine (flight_names free.flight))
    → (IsOne → (o : Outcome) → Goes (client_side moment before.log old f) (client_up before.log old) o (record { published = None; reply = r }) false (client_side moment before.log new free))
    → RequestOver Goes IsOne shown store mine before before old new moment f r
quiet_request Goes IsOne shown store mine before old new moment f free r sound stands names flight goes = record {
  growth = grew_none store.alone mine before.log sound;
  free = free;
  stands = stands;
  names = names;
  flight = flight;
  event = λ is. record {
    made = false;
    request = outcome.Ok;
    planned = λ plans made. absurd (let e : false ≡ true = made in cc);
    unmade = λ none. refl;
    cause = λ made bad. absurd (let e : false ≡ true = made in cc);
    goes = λ o under. (
      false,
      subst (λ (log : List Entry). Goes (client_side moment log old f) (client_up log old) o (said_over log before.log r) false (client_side moment before.log new free)) (sym (append-nil before.log))
          (subst (λ (x : Option ℕ). Goes (client_side moment before.log old f) (client_up before.log old) o (record { published = x; reply = r }) false (client_side moment before.log new free))
          (sym (none_added (history_of before.log) (history_of before.log) refl)) (goes is o)),
    );
  };
}

module _ {D : Type 0} {g : _} (told : DiskTold) (shown : D → DiskShown) (store : StoreTold) (before : StoreShown) (names : NamesShown) (clock : ClockShown)
    (old new : Client D g) (n : ℕ) (r : Reply) where
  -- there is no such task, or it has ended
  pub quiet_steps : Includes (mine_of (parts_of old)) (mine_of (parts_of new)) → StepsQuietly shown old new n r → StepsNumber told shown store before before names names clock clock old new n r
  quiet_steps own steps = record {
    ids = [];
    drawn = adds_none names.drawn;
    few = omega arith;
    at = None;
    reads = tt;
    over = λ tells disk moment mine f stands all draws unused at grew armed.
        let both = steps moment before.log f stands in
        quiet_request (StepsOf n) (IsEvent names names clock clock r) shown store mine before old new moment f f r stands.sound both.0 (λ i has. all i (own i has)) (λ flies. flies) (λ is o. both.1 o false);
  }

-- ---- what was taken out

-- whatever was answered, nothing has changed but the tasks
pub taken_only : {D : Type 0} {g : _} (old mid : Client D g) (n : ℕ) (x : Result Job Reply) → TakesTask old mid n x → OnlyTasks old mid
taken_only old mid n (Ok j) takes = takes.0.only
taken_only old mid n (Err reply.NoTask) takes = takes.0.only
taken_only old mid n (Err reply.Closed) takes = takes.out.only
taken_only old mid n (Err _) takes = absurd takes

-- and it has no other names
pub taken_names : {D : Type 0} {g : _} (old mid : Client D g) (n : ℕ) (x : Result Job Reply) → TakesTask old mid n x → Includes (mine_of (parts_of old)) (mine_of (parts_of mid))
taken_names {D = D} {g = g} old mid n x takes = by x takes
  where
    out : (j : Job) → TaskOut old mid n j → Includes (mine_of (parts_of old)) (mine_of (parts_of mid))
    out j o = subst (λ (p : parts.Parts). Includes (mine_of (parts_of old)) (mine_of p)) (sym (parts_without old mid n j o)) (without_mine n (parts_of old))

    by : (y : Result Job Reply) → TakesTask old mid n y → Includes (mine_of (parts_of old)) (mine_of (parts_of mid))
    by (Ok j) t = out j t.0
    by (Err reply.NoTask) t = named_unmoved (mine_of (parts_of old)) old mid (includes_all (mine_of (parts_of old))) t.0
    by (Err reply.Closed) t = out t.job t.out
    by (Err _) t = absurd t

-- the journal was open as it is
pub open_still : {D : Type 0} {g : _} (old mid : Client D g) (j : Job) → OnlyTasks old mid → CanStep mid j → is_busy j ≡ true → is_shut old.ledger.log ≡ false
open_still {D = D} {g = g} old mid j only can busy = ap (λ (l : Ledger D g). is_shut l.log) (sym only.ledger) ∙ can.is_open busy

-- a task that does not publish ends with its step
pub others_single : (j : Job) → ((set taken : ℕ) (t : PublishTask) → j ≡ job.Publish set taken t → ⊥) → is_single j ≡ true
others_single (job.Fetch access txn page) other = refl
others_single job.Poll other = refl
others_single (job.Publish set taken t) other = absurd (other set taken t refl)
others_single job.Resolve other = refl
