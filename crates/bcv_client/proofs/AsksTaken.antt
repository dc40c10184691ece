-- Each ask, as the machine takes it.
use Rattle.std.proofs.Common.{◌≡◌, ◌≢◌, ◌∙◌, ◌&&◌, ◌≤◌, ℕ, Bool, true, false, cond, List, [], ◌∷◌, ◌++◌, length, Option, Some, None, is_some, refl, sym, ap, subst, arith, ◌⊎◌, inl, inr}
use Rattle.std.specs.List.{AllByRecursion}
use Rattle.std.proofs.lemmas.Option.{same_Some}
use Rattle.bcv_base.specs.declared.id.Id16.{Id16}
use Rattle.bcv_base.specs.declared.names.Draw.TheVariants as draw
use Rattle.bcv_base.specs.declared.log.Entry.{Entry}
use Rattle.bcv_base.specs.declared.outcome.Outcome.{Outcome}
use Rattle.bcv_base.specs.Drawn.{AddsNames, NamesShown, Draws}
use Rattle.bcv_base.specs.History.{history_of}
use Rattle.bcv_base.specs.HistoryLaws.{has_id-first}
use Rattle.bcv_base.specs.Ids.{has_id}
use Rattle.bcv_base.specs.Moments.{ClockShown}
use Rattle.bcv_clientstate.specs.PartRefusals.{runs_publication}
use Rattle.bcv_clientlaws.specs.OtherParts.{Includes}
use Rattle.bcv_clientlaws.proofs.OtherParts.{includes_all}
use Rattle.bcv_clientstate.specs.Parts.{Parts, mine_of, names_of_job}
use Rattle.bcv_clientstate.specs.StartRefusals.{kind_reasons, runs_all, start_reason}
use Rattle.bcv_dbmap.specs.Past.{has_version}
use Rattle.bcv_disk.specs.DiskShown.{DiskShown, DiskTold}
use Rattle.bcv_machine.specs.Refusals.{first_reason}
use Rattle.bcv_machine.specs.State as m
use Rattle.bcv_machine.specs.Step.{AsksOrSteps, AsksQuietly, is_task, publishes, stepped_task}
use Rattle.bcv_model.specs.declared.ask.Ask.{Ask}
use Rattle.bcv_model.specs.declared.ask.Ask.TheVariants as ask
use Rattle.bcv_model.specs.declared.reply.Reply.{Reply}
use Rattle.bcv_model.specs.declared.reply.Reply.TheVariants as reply
use Rattle.bcv_publisher.specs.WorkStep.{IsEvent}
use Rattle.bcv_store.specs.StoreShown.{StoreShown, StoreTold}
use Rattle.bcv_client.specs.AskCalls.{AsksAs, AsksOver, SameWith, taken_with}
use Rattle.bcv_client.specs.CallNames.{flight_names}
use Rattle.bcv_client.specs.ClientParts.{parts_of}
use Rattle.bcv_client.specs.Events.{IsNoEvent, Locally, Noting, client_side, client_up}
use Rattle.bcv_client.specs.NewTasks.{IsFresh, StartsDrawn, StartsPublication}
use Rattle.bcv_client.specs.TaskCalls.{StepsNumber}
use Rattle.bcv_client.specs.TaskParts.{done_by}
use Rattle.bcv_client.specs.declared.client.Client.{Client}
use Rattle.bcv_client.specs.declared.job.Job.{Job}
use Rattle.bcv_client.proofs.PublicationsStart.{none_or_its}
use Rattle.bcv_client.proofs.MyNames.{named_tasks, named_unmoved, slot_more_mine, tasks_were}
use Rattle.bcv_client.proofs.NumberSteps.{adds_none, quiet_request}
use Rattle.bcv_client.proofs.TasksPut.{slot}

-- ---- replies

-- a reply that is none of the machine's is one of two
pub some_event : (r : Reply) → r ≢ reply.NoMemory → r ≢ reply.NamesFault → IsNoEvent r → ⊥
some_event reply.NoMemory memory names none = memory refl
some_event reply.NamesFault memory names none = names refl
some_event _ memory names none = none

-- a reason against a task is none of these
abbrev pub is_reason : Reply → Bool
is_reason reply.Closed = true
is_reason reply.Pending = true
is_reason reply.Busy = true
is_reason reply.NoDatabase = true
is_reason reply.BadPage = true
is_reason reply.TooLarge = true
is_reason reply.Nothing = true
is_reason reply.HasLocal = true
is_reason reply.TooMany = true
is_reason _ = false

abbrev pub AreReasons : List (Bool × Reply) → Type 0
AreReasons xs = AllByRecursion (λ (x : Bool × Reply). is_reason x.1 ≡ true) xs

pub first_is_reason : (xs : List (Bool × Reply)) (r : Reply) → AreReasons xs → first_reason xs ≡ Some r → is_reason r ≡ true
first_is_reason [] r all is = absurd (let e : None ≡ Some r = is in cc)
first_is_reason (x ∷ xs) r all is =
    elim x.0 as (λ (b : Bool). cond b (Some x.1) (first_reason xs) ≡ Some r → is_reason r ≡ true) [
      | true ↦ λ h. subst (λ (y : Reply). is_reason y ≡ true) (same_Some x.1 r h) all.0
      | false ↦ λ h. first_is_reason xs r all.1 h
    ] is

pub reason_is_event : (r : Reply) → is_reason r ≡ true → IsNoEvent r → ⊥
reason_is_event reply.NoMemory is none = absurd (let e : false ≡ true = is in cc)
reason_is_event reply.NamesFault is none = absurd (let e : false ≡ true = is in cc)
reason_is_event _ is none = none

reason_is_no_task : (r : Reply) → is_reason r ≡ true → is_task r ≡ false
reason_is_no_task (reply.Task n left) is = absurd (let e : false ≡ true = is in cc)
reason_is_no_task _ is = refl

-- those against each kind of publication
start_reasons : (p : Parts) (kind : m.Kind)
    → AreReasons (((p.closed, reply.Closed) ∷ (is_some p.kept.pending, reply.Pending) ∷ (runs_publication p, reply.Busy) ∷ []) ++ (kind_reasons p kind ++ (runs_all p, reply.TooMany) ∷ []))
start_reasons p (m.Creating block retention) = (refl, (refl, (refl, (refl, tt))))
start_reasons p (m.Making d page_size pages) = (refl, (refl, (refl, (refl, tt))))
start_reasons p (m.Uploading d base commits) = (refl, (refl, (refl, (refl, (refl, (refl, tt))))))
start_reasons p (m.Copying a b) = (refl, (refl, (refl, (refl, tt))))
start_reasons p (m.Removing a) = (refl, (refl, (refl, (refl, (refl, tt)))))
start_reasons p m.Cleaning = (refl, (refl, (refl, (refl, tt))))

pub start_is_reason : (p : Parts) (kind : m.Kind) (r : Reply) → start_reason p kind ≡ Some r → is_reason r ≡ true
start_is_reason p kind r is =
    first_is_reason (((p.closed, reply.Closed) ∷ (is_some p.kept.pending, reply.Pending) ∷ (runs_publication p, reply.Busy) ∷ []) ++ (kind_reasons p kind ++ (runs_all p, reply.TooMany) ∷ [])) r (start_reasons p kind) is

-- ---- an ask without a request

pub as_noting : {D : Type 0} {g : _} (shown : D → DiskShown) (Goes : m.Side → m.Up → m.Side → Type 0) (old new : Client D g) (r : Reply) → Locally shown Goes old new r → Noting shown Goes old new r
as_noting shown Goes old new r goes moment log f stands armed = let x = goes moment log f stands in record { free = f; stands = x.stands; flight = includes_all (flight_names f.flight); goes = x.goes }

pub quiet_ask : (name : Id16) (q : Ask) (s : m.Side) (u : m.Up) (o : Outcome) (r : Reply) (t : m.Side) → stepped_task q ≡ None → AsksQuietly s u q name r t
    → AsksAs name q s u o (record { published = None; reply = r }) false t
quiet_ask name q s u o r t is goes =
    subst (λ (x : Option ℕ). AsksOrSteps x s u q o (record { published = None; reply = r }) (record { name = name; second = false }) t) (sym is) (refl, goes)

module _ {D : Type 0} {g : _} (told : DiskTold) (shown : D → DiskShown) (store : StoreTold) (before : StoreShown) (names : NamesShown) (clock : ClockShown) (old new : Client D g) (r : Reply) where
  pub notes_ask : (q : Ask) → stepped_task q ≡ None → publishes q ≡ false → r ≢ reply.NamesFault → Includes (mine_of (parts_of old)) (mine_of (parts_of new))
      → (told.tells → Noting shown (λ s u t. AsksQuietly s u q old.id r t) old new r)
      → AsksOver told shown store before before names names clock clock old new q r
  notes_ask q steps starts names_are own goes = record {
    name = old.id;
    calls = record {
      ids = [];
      drawn = adds_none names.drawn;
      few = omega arith;
      at = None;
      reads = tt;
      over = λ tells disk moment mine f stands all draws unused at grew armed.
          let x = goes disk moment before.log f stands armed in
          quiet_request (AsksAs old.id q) (IsEvent names names clock clock r) shown store mine before old new moment f x.free r stands.sound x.stands (λ i has. all i (own i has)) (λ flies i has. flies i (x.flight i has))
          (λ is o. quiet_ask old.id q (client_side moment before.log old f) (client_up before.log old) o r (client_side moment before.log new x.free) steps
          (x.goes.event (some_event r is.memory names_are)));
    };
    named = λ e. absurd (let no : false ≡ true = sym (ap (λ (b : Bool). b && is_task r) starts) ∙ e in cc);
  }

  pub locally_ask : (q : Ask) → stepped_task q ≡ None → publishes q ≡ false → r ≢ reply.NamesFault → Includes (mine_of (parts_of old)) (mine_of (parts_of new))
      → Locally shown (λ s u t. AsksQuietly s u q old.id r t) old new r
      → AsksOver told shown store before before names names clock clock old new q r
  locally_ask q steps starts names_are own goes = notes_ask q steps starts names_are own (λ tells. as_noting shown (λ s u t. AsksQuietly s u q old.id r t) old new r goes)

-- ---- the step of a task

pub step_ask : {D : Type 0} {g : _} (told : DiskTold) (shown : D → DiskShown) (store : StoreTold) (before after : StoreShown) (names later_names : NamesShown) (clock later_clock : ClockShown)
    (old new : Client D g) (n : ℕ) (r : Reply) → StepsNumber told shown store before after names later_names clock later_clock old new n r
    → AsksOver told shown store before after names later_names clock later_clock old new (ask.Step n) r
step_ask told shown store before after names later_names clock later_clock old new n r steps = record {
  name = old.id;
  calls = record { ids = steps.ids; drawn = steps.drawn; few = steps.few; at = steps.at; reads = steps.reads; over = steps.over };
  named = λ e. absurd (let no : false ≡ true = e in cc);
}

-- ---- a publication that starts

right_of : (a b : Bool) → (a && b) ≡ true → b ≡ true
right_of true b both = both
right_of false b both = absurd (let e : false ≡ true = both in cc)

fresh_if : (r : Reply) (log : List Entry) (id : Id16) → (is_task r ≡ true → has_version (history_of log) id ≡ false) → IsFresh r log id
fresh_if (reply.Task n k) log id fresh = fresh refl
fresh_if _ log id fresh = tt

-- the names that were drawn, and that a reply which is an event is the machine's
record NameDrawn (before after : NamesShown) (clock : ClockShown) (id : Id16) (r : Reply) : Type 0 where
  ids : List Id16
  drawn : AddsNames before.drawn after.drawn ids
  few : length ids ≤ 1
  named : is_task r ≡ true → ids ≡ id ∷ []
  event : IsEvent before after clock clock r → IsNoEvent r → ⊥

module _ {D : Type 0} {g : _} (old new : Client D g) (before after : NamesShown) (clock : ClockShown) (make : Id16 → Job) where
  drew : (id : Id16) (why : Option Reply) → ((x : Reply) → why ≡ Some x → is_reason x ≡ true) → (r : Reply) → StartsDrawn old new before after id (make id) why r → NameDrawn before after clock id r
  drew id (Some reason) reasons r d =
      let is : is_reason r ≡ true = ap is_reason d.0 ∙ reasons reason refl in
      record {
        ids = [];
        drawn = subst (λ (x : NamesShown). AddsNames before.drawn x.drawn []) (sym d.2) (adds_none before.drawn);
        few = omega arith;
        named = λ e. absurd (let no : false ≡ true = sym (reason_is_no_task r is) ∙ e in cc);
        event = λ e none. reason_is_event r is none;
      }
  drew id None reasons (reply.Task n k) d =
      record { ids = id ∷ []; drawn = d.2.names; few = omega arith; named = λ e. refl; event = λ e none. none }
  drew id None reasons reply.NamesFault d =
      record { ids = []; drawn = d.1.names; few = omega arith; named = λ e. absurd (let no : false ≡ true = e in cc); event = λ e none. e.name d.1.cause.1 }
  drew id None reasons reply.NoMemory d = by (none_or_its (make id) before after id d.1)
    where
      by : (after ≡ before) ⊎ Draws before after (draw.Drawn id) → NameDrawn before after clock id reply.NoMemory
      by (inl same) = record {
        ids = [];
        drawn = subst (λ (x : NamesShown). AddsNames before.drawn x.drawn []) (sym same) (adds_none before.drawn);
        few = omega arith;
        named = λ e. absurd (let no : false ≡ true = e in cc);
        event = λ e none. e.memory refl;
      }
      by (inr draws) = record {
        ids = id ∷ [];
        drawn = draws.names;
        few = omega arith;
        named = λ e. absurd (let no : false ≡ true = e in cc);
        event = λ e none. e.memory refl;
      }
  drew id None reasons _ d = absurd d

-- the names of a client whose publication starts are its own and the drawn one
starts_named : {D : Type 0} {g : _} (mine : List Id16) (old new : Client D g) (before after : NamesShown) (id : Id16) (j : Job) (why : Option Reply) (r : Reply) → Includes mine (mine_of (parts_of old))
    → (is_task r ≡ true → Includes mine (names_of_job (done_by old.ledger.databases j))) → StartsDrawn old new before after id j why r → Includes mine (mine_of (parts_of new))
starts_named mine old new before after id j (Some why) r all its d = named_unmoved mine old new all d.1
starts_named mine old new before after id j None (reply.Task n k) all its d =
    named_tasks mine old new all d.0.only (old.tasks.items ++ slot n j ∷ []) d.0.tasks.3
    (slot_more_mine mine old.ledger.databases old.tasks.items (slot n j) (tasks_were mine old new all) (its refl))
starts_named mine old new before after id j None reply.NamesFault all its d = named_unmoved mine old new all d.0
starts_named mine old new before after id j None reply.NoMemory all its d = named_unmoved mine old new all d.0
starts_named mine old new before after id j None _ all its d = absurd d

pub starts_ask : {D : Type 0} {g : _} (told : DiskTold) (shown : D → DiskShown) (store : StoreTold) (shows : StoreShown) (before after : NamesShown) (clock : ClockShown) (old new : Client D g)
    (kind : m.Kind) (make : Id16 → Job) (q : Ask) (r : Reply) → stepped_task q ≡ None
    → StartsPublication shown (λ id s u t. AsksQuietly s u q id r t) old new before after (start_reason (parts_of old) kind) make r
    → ((id : Id16) → Includes (id ∷ []) (names_of_job (done_by old.ledger.databases (make id))))
    → AsksOver told shown store shows shows before after clock clock old new q r
starts_ask told shown store shows before after clock old new kind make q r steps start its =
    let d = drew old new before after clock make start.id (start_reason (parts_of old) kind) (start_is_reason (parts_of old) kind) r start.starts in
    record {
      name = start.id;
      calls = record {
        ids = d.ids;
        drawn = d.drawn;
        few = d.few;
        at = None;
        reads = tt;
        over = λ tells disk moment mine f stands all draws unused at grew armed.
            let fresh : IsFresh r shows.log start.id =
            fresh_if r shows.log start.id (λ is. unused.1 start.id (subst (λ (ids : List Id16). has_id start.id ids ≡ true) (sym (d.named is)) (has_id-first start.id []))) in
            let x = start.steps moment shows.log f stands fresh in
            let drawn : is_task r ≡ true → Includes mine (names_of_job (done_by old.ledger.databases (make start.id))) = λ is i has.
            draws i (subst (λ (ids : List Id16). has_id i ids ≡ true) (sym (d.named is)) (its start.id i has)) in
            quiet_request (AsksAs start.id q) (IsEvent before after clock clock r) shown store mine shows old new moment f f r stands.sound x.stands
            (starts_named mine old new before after start.id (make start.id) (start_reason (parts_of old) kind) r all drawn start.starts) (λ flies. flies)
            (λ is o. quiet_ask start.id q (client_side moment shows.log old f) (client_up shows.log old) o r (client_side moment shows.log new f) steps (x.goes.event (d.event is)));
      };
      named = λ e. d.named (right_of (publishes q) (is_task r) e);
    }

-- ---- by the ask's case

pub as_asked : {D : Type 0} {g : _} {told : DiskTold} {shown : D → DiskShown} {store : StoreTold} {before after : StoreShown} {names later_names : NamesShown} {clock later_clock : ClockShown}
    {old new : Client D g} {r : Reply} (q x : Ask) → q ≡ x → AsksOver told shown store before after names later_names clock later_clock old new x r
    → AsksOver told shown store before after names later_names clock later_clock old new q r
as_asked {told = told} {shown = shown} {store = store} {before = before} {after = after} {names = names} {later_names = later_names} {clock = clock} {later_clock = later_clock} {old = old} {new = new} {r = r} q x is asks =
    subst (λ (y : Ask). AsksOver told shown store before after names later_names clock later_clock old new y r) (sym is) asks

pub same_as : {D : Type 0} {g : _} (old new : Client D g) (q x : Ask) → q ≡ x → new.id ≡ old.id → new.taken ≡ taken_with x old.taken → new.txns.slots ≡ old.txns.slots → SameWith q old new
same_as old new q x is id taken slots = record { id = id; taken = taken ∙ ap (λ (y : Ask). taken_with y old.taken) (sym is); slots = slots }
