-- A task that starts, in the machine's words.
use Rattle.std.proofs.Common.{◌≡◌, ◌∙◌, ℕ, Bool, true, false, cond, nat_le, List, [], ◌∷◌, ◌++◌, length, map, Option, Some, None, is_none, is_some, not, refl, sym, ap, subst}
use Rattle.std.specs.List.{list_any}
use Rattle.bcv_base.specs.declared.log.Entry.{Entry}
use Rattle.bcv_base.specs.History.{history_of}
use Rattle.bcv_clientlaws.specs.Different.{AtMostOne}
use Rattle.bcv_clientlaws.specs.Starts.{with_new_task}
use Rattle.bcv_clientlaws.specs.TaskLists.{task_number, task_numbers, with_tasks}
use Rattle.bcv_clientlaws.proofs.Different.{one_with, one_with_other}
use Rattle.bcv_clientlaws.proofs.Lists.{map_append, map_map}
use Rattle.bcv_clientlaws.proofs.TaskStarts.{poll_starts, quiet_task_fits, refuses_poll, refuses_resolve, resolve_starts}
use Rattle.bcv_clientstate.specs.Fits.{Fits}
use Rattle.bcv_clientstate.specs.PartRefusals.{runs_publication}
use Rattle.bcv_clientstate.specs.Parts.{Parts}
use Rattle.bcv_clientstate.specs.Parts as parts
use Rattle.bcv_clientstate.specs.SeenClient.{Free, seen_up, side_of}
use Rattle.bcv_clientstate.specs.StartRefusals.{poll_reason, resolve_reason, runs_all}
use Rattle.bcv_clientstate.proofs.PartRefusals.{map_len}
use Rattle.bcv_databases.specs.Catalog.{Catalog}
use Rattle.bcv_disk.specs.DiskShown.{DiskShown}
use Rattle.bcv_clientlog.specs.LogParts.{is_shut}
use Rattle.bcv_machine.specs.Refusals.{first_reason}
use Rattle.bcv_machine.specs.Starting.{StartsPoll, StartsResolve}
use Rattle.bcv_machine.specs.State as m
use Rattle.bcv_model.specs.declared.reply.Reply.{Reply}
use Rattle.bcv_model.specs.declared.reply.Reply.TheVariants as reply
use Rattle.bcv_slots.specs.declared.Slot.{Slot}
use Rattle.bcv_slots.specs.Numbered.{least_free, numbers_of}
use Rattle.bcv_client.specs.ClientParts.{done_by, entries_of, parts_of, task_part}
use Rattle.bcv_client.specs.Events.{LocallyOver, Locally, SawItsReads, StandsOver}
use Rattle.bcv_client.specs.NewTasks.{StartsUnless, is_busy, resolve_reason_by}
use Rattle.bcv_client.specs.TaskStarts.{StartsTask}
use Rattle.bcv_client.specs.declared.client.Client.{Client}
use Rattle.bcv_client.specs.declared.job.Job.{Job}
use Rattle.bcv_client.specs.declared.job.Job.TheVariants as job
use Rattle.bcv_client.proofs.FirstReasons.{none_first}
use Rattle.bcv_client.proofs.ReadsSaw.{saw_more, saw_same}
use Rattle.bcv_client.proofs.BusyTasks.{busy_is, busy_jobs}
use Rattle.bcv_client.proofs.SameParts.{locally, locally_still, tasks_alone}
use Rattle.bcv_client.proofs.TasksPut.{slot}

-- ---- the list, in the parts

pub numbers_are : (c : Catalog) (ss : List (Slot Job)) → map task_number (map (task_part c) ss) ≡ numbers_of ss
numbers_are c ss = map_map task_number (task_part c) (λ (s : Slot Job). s.number) (λ s. refl) ss

pub all_run : (c : Catalog) (ss : List (Slot Job)) → nat_le 16 (length (map (task_part c) ss)) ≡ nat_le 16 (length ss)
all_run c ss = ap (nat_le 16) (map_len (task_part c) ss)

-- ---- no more than one publishes

pub quiet_last : {D : Type 0} {g : _} (x : Client D g) (j : Job) → is_busy j ≡ false → AtMostOne (map (task_part x.ledger.databases) x.tasks.items)
    → AtMostOne (map (task_part x.ledger.databases) (x.tasks.items ++ slot 0 j ∷ []))
quiet_last x j quiet one =
    let c : Catalog = x.ledger.databases in
    subst AtMostOne (sym (map_append (task_part c) x.tasks.items (slot 0 j ∷ []))) (one_with_other (task_part c (slot 0 j)) (parts_of x) (busy_is c j ∙ quiet) one)

pub one_last : {D : Type 0} {g : _} (x : Client D g) (j : Job) → runs_publication (parts_of x) ≡ false
    → AtMostOne (map (task_part x.ledger.databases) (x.tasks.items ++ slot 0 j ∷ []))
one_last x j none =
    let c : Catalog = x.ledger.databases in
    subst AtMostOne (sym (map_append (task_part c) x.tasks.items (slot 0 j ∷ []))) (one_with (task_part c (slot 0 j)) (parts_of x) none)

-- ---- the machine

module _ {D : Type 0} {g : _} (shown : D → DiskShown) (old new : Client D g) (j : Job) (left : ℕ) where
  abbrev c : Catalog
  c = old.ledger.databases

  abbrev p : Parts
  p = parts_of old

  -- what the machine says of the new task
  pub record Laws (Goes : Reply → m.Side → m.Up → m.Side → Type 0) (moment : ℕ) (log : List Entry) (f : Free) : Type 0 where
    pub starts : (n : ℕ) → runs_all p ≡ false → least_free (task_numbers p) ≡ Some n
        → Goes (reply.Task n left) (side_of moment (history_of log) p f) (seen_up (history_of log) p) (side_of moment (history_of log) (with_new_task n (done_by c j) p) f)
    pub full : runs_all p ≡ true → Goes reply.TooMany (side_of moment (history_of log) p f) (seen_up (history_of log) p) (side_of moment (history_of log) p f)
    pub fits : (n : ℕ) → Fits (with_new_task n (done_by c j) p) (entries_of old) log
    pub saw : SawItsReads (history_of log) j

  -- the task is the last one
  last_is : (n : ℕ) → new.tasks.items ≡ old.tasks.items ++ slot n j ∷ []
      → with_tasks (map (task_part c) new.tasks.items) p ≡ with_new_task n (done_by c j) p
  last_is n is =
      ap (λ (ss : List (Slot Job)). with_tasks (map (task_part c) ss) p) is
      ∙ ap (λ (ts : List parts.Task). with_tasks ts p) (map_append (task_part c) old.tasks.items (slot n j ∷ []))

  pub starts_over : (Goes : Reply → m.Side → m.Up → m.Side → Type 0) (moment : ℕ) (log : List Entry) (f : Free) (r : Reply) → StartsTask old new j left r → StandsOver shown old log f
      → Laws Goes moment log f → LocallyOver shown (Goes r) old new moment log f r
  starts_over Goes moment log f (reply.Task n k) starts stands laws =
      locally shown (Goes (reply.Task n k)) old new moment log f (reply.Task n k) (with_new_task n (done_by c j) p) starts.only
      (tasks_alone old new starts.only ∙ last_is n starts.tasks.3) (laws.fits n)
      (saw_same (history_of log) (old.tasks.items ++ slot n j ∷ []) new.tasks.items starts.tasks.3 (saw_more (history_of log) old.tasks.items (slot n j) stands.saw laws.saw)) stands
      (λ some. subst (λ (x : ℕ). Goes (reply.Task n x) (side_of moment (history_of log) p f) (seen_up (history_of log) p) (side_of moment (history_of log) (with_new_task n (done_by c j) p) f))
      (sym starts.tasks.2) (laws.starts n (all_run c old.tasks.items ∙ starts.tasks.0) (ap least_free (numbers_are c old.tasks.items) ∙ starts.tasks.1)))
      (λ none. absurd none)
  starts_over Goes moment log f reply.TooMany starts stands laws =
      locally_still shown (Goes reply.TooMany) old new moment log f reply.TooMany (record { only = starts.only; tasks = starts.tasks.1 }) stands
      (λ some. laws.full (all_run c old.tasks.items ∙ starts.tasks.0))
  starts_over Goes moment log f reply.NoMemory starts stands laws =
      locally_still shown (Goes reply.NoMemory) old new moment log f reply.NoMemory (record { only = starts.only; tasks = starts.tasks }) stands (λ some. absurd (some tt))
  starts_over Goes moment log f _ starts stands laws = absurd starts.tasks

-- ---- a poll

poll_free : (p : Parts) → runs_all p ≡ false → poll_reason p ≡ None
poll_free p few = ap (λ (b : Bool). cond b (Some reply.TooMany) None) few

poll_full : (p : Parts) → runs_all p ≡ true → poll_reason p ≡ Some reply.TooMany
poll_full p all = ap (λ (b : Bool). cond b (Some reply.TooMany) None) all

pub polls : {D : Type 0} {g : _} (shown : D → DiskShown) (old new : Client D g) (r : Reply) → StartsTask old new job.Poll 1 r → Locally shown (λ s u t. StartsPoll s u r t) old new r
polls shown old new r starts moment log f stands =
    let p : Parts = parts_of old in
    starts_over shown old new job.Poll 1 (λ (x : Reply) s u t. StartsPoll s u x t) moment log f r starts stands (record {
      starts = λ n few least. poll_starts moment (history_of log) p f n (poll_free p few) least;
      full = λ all. refuses_poll moment (history_of log) p f reply.TooMany (poll_full p all);
      fits = λ n. quiet_task_fits log p (entries_of old) n parts.Polling stands.fits refl;
      saw = tt;
    })

-- ---- a resolve

-- where nothing speaks against a resolve, fewer than 16 tasks run
resolve_full : (p : Parts) → resolve_reason p ≡ None → runs_all p ≡ true → ⊥
resolve_full p free all =
    let a = none_first p.closed reply.Closed ((runs_publication p, reply.Busy) ∷ (is_none p.kept.pending, reply.Nothing) ∷ (runs_all p, reply.TooMany) ∷ []) free in
    let b = none_first (runs_publication p) reply.Busy ((is_none p.kept.pending, reply.Nothing) ∷ (runs_all p, reply.TooMany) ∷ []) a.1 in
    let d = none_first (is_none p.kept.pending) reply.Nothing ((runs_all p, reply.TooMany) ∷ []) b.1 in
    let e = none_first (runs_all p) reply.TooMany [] d.1 in
    let both : true ≡ false = sym all ∙ e.0 in cc

-- where nothing speaks against a resolve, nothing publishes, and a publication is pending
pub resolve_quiet : (p : Parts) → resolve_reason p ≡ None → runs_publication p ≡ false
resolve_quiet p free =
    let a = none_first p.closed reply.Closed ((runs_publication p, reply.Busy) ∷ (is_none p.kept.pending, reply.Nothing) ∷ (runs_all p, reply.TooMany) ∷ []) free in
    (none_first (runs_publication p) reply.Busy ((is_none p.kept.pending, reply.Nothing) ∷ (runs_all p, reply.TooMany) ∷ []) a.1).0

some_waits : {A : Type 0} (o : Option A) → is_none o ≡ false → is_some o ≡ true
some_waits None e = absurd (let both : true ≡ false = e in cc)
some_waits (Some x) e = refl

pub resolve_waits : (p : Parts) → resolve_reason p ≡ None → is_some p.kept.pending ≡ true
resolve_waits p free =
    let a = none_first p.closed reply.Closed ((runs_publication p, reply.Busy) ∷ (is_none p.kept.pending, reply.Nothing) ∷ (runs_all p, reply.TooMany) ∷ []) free in
    let b = none_first (runs_publication p) reply.Busy ((is_none p.kept.pending, reply.Nothing) ∷ (runs_all p, reply.TooMany) ∷ []) a.1 in
    some_waits p.kept.pending (none_first (is_none p.kept.pending) reply.Nothing ((runs_all p, reply.TooMany) ∷ []) b.1).0

-- the reason, by what is tested
not_some : {A : Type 0} (o : Option A) → not (is_some o) ≡ is_none o
not_some None = refl
not_some (Some x) = refl

pub resolve_reason_is : {D : Type 0} {g : _} (x : Client D g) (closed busy pending all : Bool) (ss : List (Slot Job)) → closed ≡ is_shut x.ledger.log
    → busy ≡ list_any (λ (s : Slot Job). is_busy s.item) ss → ss ≡ x.tasks.items → pending ≡ is_some x.ledger.databases.kept.pending → all ≡ nat_le 16 (length x.tasks.items)
    → resolve_reason_by closed busy pending all ≡ resolve_reason (parts_of x)
resolve_reason_is x closed busy pending all ss shut runs same waits many =
    let p : Parts = parts_of x in
    let busy_is : busy ≡ runs_publication p =
    runs ∙ ap (λ (zs : List (Slot Job)). list_any (λ (s : Slot Job). is_busy s.item) zs) same ∙ sym (busy_jobs x.ledger.databases x.tasks.items) in
    ap (λ (b : Bool). resolve_reason_by b busy pending all) shut
    ∙ ap (λ (b : Bool). resolve_reason_by p.closed b pending all) busy_is
    ∙ ap (λ (b : Bool). resolve_reason_by p.closed (runs_publication p) b all) waits
    ∙ ap (λ (b : Bool). resolve_reason_by p.closed (runs_publication p) (is_some p.kept.pending) b) (many ∙ sym (all_run x.ledger.databases x.tasks.items))
    ∙ ap (λ (b : Bool). first_reason ((p.closed, reply.Closed) ∷ (runs_publication p, reply.Busy) ∷ (b, reply.Nothing) ∷ (runs_all p, reply.TooMany) ∷ [])) (not_some p.kept.pending)

pub resolve_refused : {D : Type 0} {g : _} (x : Client D g) (r : Reply) → resolve_reason (parts_of x) ≡ Some r → StartsUnless x x (resolve_reason (parts_of x)) job.Resolve 1 r
resolve_refused x r is =
    subst (λ (o : Option Reply). StartsUnless x x o job.Resolve 1 r) (sym is)
    (refl, record { only = record { id = refl; ledger = refl; seen = refl; latest = refl; txns = refl; taken = refl }; tasks = refl })

pub resolve_started : {D : Type 0} {g : _} (old new : Client D g) (r : Reply) → resolve_reason (parts_of old) ≡ None → StartsTask old new job.Resolve 1 r
    → StartsUnless old new (resolve_reason (parts_of old)) job.Resolve 1 r
resolve_started old new r is starts = subst (λ (o : Option Reply). StartsUnless old new o job.Resolve 1 r) (sym is) starts

pub resolves : {D : Type 0} {g : _} (shown : D → DiskShown) (old new : Client D g) (r : Reply) → StartsUnless old new (resolve_reason (parts_of old)) job.Resolve 1 r
    → Locally shown (λ s u t. StartsResolve s u r t) old new r
resolves shown old new r starts moment log f stands = by (resolve_reason (parts_of old)) refl starts
  where
    by : (why : Option Reply) → resolve_reason (parts_of old) ≡ why → StartsUnless old new why job.Resolve 1 r → LocallyOver shown (λ s u t. StartsResolve s u r t) old new moment log f r
    by (Some reason) is refused =
        locally_still shown (λ s u t. StartsResolve s u r t) old new moment log f r refused.1 stands
        (λ some. refuses_resolve moment (history_of log) (parts_of old) f r (is ∙ ap Some (sym refused.0)))
    by None is started =
        starts_over shown old new job.Resolve 1 (λ (x : Reply) s u t. StartsResolve s u x t) moment log f r started stands (record {
          starts = λ n few least. resolve_starts moment (history_of log) (parts_of old) f n is least;
          full = λ all. absurd (resolve_full (parts_of old) is all);
          fits = λ n. quiet_task_fits log (parts_of old) (entries_of old) n parts.Resolving stands.fits refl;
          saw = tt;
        })
