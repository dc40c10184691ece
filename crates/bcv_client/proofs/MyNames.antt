-- The names of a client after a call are among those before it.
use Rattle.std.proofs.Common.{◌≡◌, ◌⊎◌, ◌∙◌, inl, inr, Bool, true, false, cond, List, [], ◌∷◌, ◌++◌, map, filter, Option, Some, None, refl, sym, ap, subst}
use Rattle.std.specs.List.{flat_map}
use Rattle.std.proofs.lemmas.List.Folds.{list_any-append}
use Rattle.bcv_base.specs.declared.id.Id16.{Id16}
use Rattle.bcv_base.specs.HistoryLaws.{id_eq-is}
use Rattle.bcv_base.specs.Ids.{has_id, id_eq}
use Rattle.bcv_base.specs.Image.{Writes}
use Rattle.bcv_clientlaws.specs.OtherParts.{Includes}
use Rattle.bcv_clientlaws.specs.TaskLists.{with_task}
use Rattle.bcv_clientlaws.proofs.OtherParts.{behind_one, in_front, in_rest, the_first}
use Rattle.bcv_clientlaws.proofs.Lists.{map_append}
use Rattle.bcv_clientlog.specs.LogParts.{is_shut}
use Rattle.bcv_clientlog.specs.declared.log.ClientLog.{ClientLog}
use Rattle.bcv_clientstate.specs.Journaled.{Journaled}
use Rattle.bcv_clientstate.specs.Parts as parts
use Rattle.bcv_clientstate.specs.Parts.{mine_of, names_of_job, names_of_pending}
use Rattle.bcv_clientstate.specs.SeenClient.{Free}
use Rattle.bcv_databases.specs.Catalog.{Catalog}
use Rattle.bcv_dbcopy.specs.State as copy
use Rattle.bcv_dbmap.proofs.Bools.{or_cases}
use Rattle.bcv_disk.specs.DiskShown.{DiskShown}
use Rattle.bcv_machine.specs.State as m
use Rattle.bcv_model.specs.declared.kept.Kept.{Kept}
use Rattle.bcv_model.specs.declared.kept.PendingPub.{PendingPub}
use Rattle.bcv_model.specs.Notes.{kept_published}
use Rattle.bcv_publication.specs.TaskSides.{job_of, seen_task}
use Rattle.bcv_slots.specs.declared.Slot.{Slot}
use Rattle.bcv_tasks.specs.declared.publish_task.PublishTask.{PublishTask}
use Rattle.bcv_tasks.specs.declared.publish_task.PublishTask.TheVariants as task
use Rattle.bcv_tasks.specs.State.{IsRunning, id_of}
use Rattle.bcv_client.specs.CallNames.{flight_names}
use Rattle.bcv_client.specs.ClientParts.{parts_of}
use Rattle.bcv_client.specs.NewTasks.{IsUnmoved}
use Rattle.bcv_client.specs.TaskParts.{done_by, task_part}
use Rattle.bcv_client.specs.TaskStarts.{OnlyTasks}
use Rattle.bcv_client.specs.declared.client.Client.{Client}
use Rattle.bcv_client.specs.declared.job.Job.{Job}
use Rattle.bcv_client.specs.declared.job.Job.TheVariants as job

-- ---- lists of names

-- an id of two lists of ids is one of either
of_either : (a b : List Id16) (i : Id16) → has_id i (a ++ b) ≡ true → (has_id i a ≡ true) ⊎ (has_id i b ≡ true)
of_either a b i h = or_cases (has_id i a) (has_id i b) (sym (list_any-append (λ x. id_eq x i) a b) ∙ h)

pub none_mine : (mine : List Id16) → Includes mine []
none_mine mine i h = absurd (let no_one : false ≡ true = h in cc)

pub one_mine : (mine : List Id16) (j : Id16) (is : List Id16) → has_id j mine ≡ true → Includes mine is → Includes mine (j ∷ is)
one_mine mine j is first rest i h = by (or_cases (id_eq j i) (has_id i is) h)
  where
    by : (id_eq j i ≡ true) ⊎ (has_id i is ≡ true) → has_id i mine ≡ true
    by (inl same) = subst (λ (x : Id16). has_id x mine ≡ true) (id_eq-is j i same) first
    by (inr later) = rest i later

pub both_mine : (mine a b : List Id16) → Includes mine a → Includes mine b → Includes mine (a ++ b)
both_mine mine a b front rest i h = by (of_either a b i h)
  where
    by : (has_id i a ≡ true) ⊎ (has_id i b ≡ true) → has_id i mine ≡ true
    by (inl g) = front i g
    by (inr g) = rest i g

-- ---- tasks

abbrev pub names_in : List parts.Task → List Id16
names_in ts = flat_map (λ (t : parts.Task). names_of_job t.job) ts

-- with a task more
pub with_last_mine : (mine : List Id16) (ts : List parts.Task) (t : parts.Task) → Includes mine (names_in ts) → Includes mine (names_of_job t.job) → Includes mine (names_in (ts ++ t ∷ []))
with_last_mine mine [] t all last = both_mine mine (names_of_job t.job) [] last (none_mine mine)
with_last_mine mine (x ∷ xs) t all last =
    both_mine mine (names_of_job x.job) (names_in (xs ++ t ∷ [])) (in_front mine (names_of_job x.job) (names_in xs) all)
    (with_last_mine mine xs t (in_rest mine (names_of_job x.job) (names_in xs) all) last)

-- without it, and its own
without_last_mine : (mine : List Id16) (ts : List parts.Task) (t : parts.Task) → Includes mine (names_in (ts ++ t ∷ [])) → Includes mine (names_in ts)
without_last_mine mine [] t all = none_mine mine
without_last_mine mine (x ∷ xs) t all =
    both_mine mine (names_of_job x.job) (names_in xs) (in_front mine (names_of_job x.job) (names_in (xs ++ t ∷ [])) all)
    (without_last_mine mine xs t (in_rest mine (names_of_job x.job) (names_in (xs ++ t ∷ [])) all))

last_is_mine : (mine : List Id16) (ts : List parts.Task) (t : parts.Task) → Includes mine (names_in (ts ++ t ∷ [])) → Includes mine (names_of_job t.job)
last_is_mine mine [] t all = in_front mine (names_of_job t.job) [] all
last_is_mine mine (x ∷ xs) t all = last_is_mine mine xs t (in_rest mine (names_of_job x.job) (names_in (xs ++ t ∷ [])) all)

-- the names of a client with a task more
module _ (mine : List Id16) (p : parts.Parts) (t : parts.Task) where
  abbrev waiting : List Id16
  waiting = names_of_pending p.kept.pending

  pub with_task_mine : Includes mine (mine_of p) → Includes mine (names_of_job t.job) → Includes mine (mine_of (with_task t p))
  with_task_mine all names =
      let rest : Includes mine (waiting ++ names_in p.tasks) = behind_one mine p.id (waiting ++ names_in p.tasks) all in
      one_mine mine p.id (waiting ++ names_in (p.tasks ++ t ∷ [])) (the_first mine p.id (waiting ++ names_in p.tasks) all)
      (both_mine mine waiting (names_in (p.tasks ++ t ∷ [])) (in_front mine waiting (names_in p.tasks) rest)
      (with_last_mine mine p.tasks t (in_rest mine waiting (names_in p.tasks) rest) names))

  abbrev further : List Id16
  further = waiting ++ names_in (p.tasks ++ t ∷ [])

  pub without_task_mine : Includes mine (mine_of (with_task t p)) → Includes mine (mine_of p)
  without_task_mine all =
      let rest : Includes mine further = behind_one mine p.id further all in
      one_mine mine p.id (waiting ++ names_in p.tasks) (the_first mine p.id further all)
      (both_mine mine waiting (names_in p.tasks) (in_front mine waiting (names_in (p.tasks ++ t ∷ [])) rest)
      (without_last_mine mine p.tasks t (in_rest mine waiting (names_in (p.tasks ++ t ∷ [])) rest)))

  pub task_is_mine : Includes mine (mine_of (with_task t p)) → Includes mine (names_of_job t.job)
  task_is_mine all = last_is_mine mine p.tasks t (in_rest mine waiting (names_in (p.tasks ++ t ∷ [])) (behind_one mine p.id further all))

-- the id of a task's publication is among its names
pub publication_mine : (mine : List Id16) (w : Option PendingPub) (view : List Writes) (t : PublishTask) → Includes mine (names_of_job (job_of view t)) → has_id (seen_task w view t).id mine ≡ true
publication_mine mine w view (task.Create x) names = the_first mine x.id [] names
publication_mine mine w view (task.Copy id s) names = the_first mine s.publish.id (copy.put_ids s.edit) names
publication_mine mine w view (task.Upload id s) names = the_first mine s.publish.id s.ids names
publication_mine mine w view (task.Cleanup id s) names = the_first mine s.publish.id [] names

pub id_mine : (mine : List Id16) (view : List Writes) (t : PublishTask) → IsRunning t → Includes mine (names_of_job (job_of view t)) → has_id (id_of t) mine ≡ true
id_mine mine view (task.Create x) running names = the_first mine x.id [] names
id_mine mine view (task.Copy id s) running names = subst (λ (i : Id16). has_id i mine ≡ true) (sym running.0) (the_first mine s.publish.id (copy.put_ids s.edit) names)
id_mine mine view (task.Upload id s) running names = subst (λ (i : Id16). has_id i mine ≡ true) (sym running.0) (the_first mine s.publish.id s.ids names)
id_mine mine view (task.Cleanup id s) running names = subst (λ (i : Id16). has_id i mine ≡ true) (sym running.0) (the_first mine s.publish.id [] names)

-- the names of slots, in which the page sets do not count
abbrev pub slot_names : Catalog → List (Slot Job) → List Id16
slot_names c ss = names_in (map (task_part c) ss)

publish_names : (c d : Catalog) (set taken : _) (t : PublishTask) → names_of_job (done_by d (job.Publish set taken t)) ≡ names_of_job (done_by c (job.Publish set taken t))
publish_names c d set taken (task.Create x) = refl
publish_names c d set taken (task.Copy id s) = refl
publish_names c d set taken (task.Upload id s) = refl
publish_names c d set taken (task.Cleanup id s) = refl

job_names : (c d : Catalog) (j : Job) → names_of_job (done_by d j) ≡ names_of_job (done_by c j)
job_names c d (job.Fetch access txn page) = refl
job_names c d job.Poll = refl
job_names c d (job.Publish set taken t) = publish_names c d set taken t
job_names c d job.Resolve = refl

slots_same : (c d : Catalog) (ss : List (Slot Job)) → slot_names d ss ≡ slot_names c ss
slots_same c d [] = refl
slots_same c d (s ∷ ss) =
    ap (λ (xs : List Id16). xs ++ slot_names d ss) (job_names c d s.item)
    ∙ ap (λ (xs : List Id16). names_of_job (done_by c s.item) ++ xs) (slots_same c d ss)

-- fewer slots
pub fewer_mine : (mine : List Id16) (c : Catalog) (test : Slot Job → Bool) (ss : List (Slot Job)) → Includes mine (slot_names c ss) → Includes mine (slot_names c (filter test ss))
fewer_mine mine c test [] all = none_mine mine
fewer_mine mine c test (s ∷ ss) all =
    let first : Includes mine (names_of_job (done_by c s.item)) = in_front mine (names_of_job (done_by c s.item)) (slot_names c ss) all in
    let rest : Includes mine (slot_names c (filter test ss)) = fewer_mine mine c test ss (in_rest mine (names_of_job (done_by c s.item)) (slot_names c ss) all) in
    elim (test s) as (λ (b : Bool). Includes mine (slot_names c (cond b (s ∷ filter test ss) (filter test ss)))) [
      | true ↦ both_mine mine (names_of_job (done_by c s.item)) (slot_names c (filter test ss)) first rest
      | false ↦ rest
    ]

-- a slot more
pub slot_more_mine : (mine : List Id16) (c : Catalog) (ss : List (Slot Job)) (s : Slot Job) → Includes mine (slot_names c ss) → Includes mine (names_of_job (done_by c s.item))
    → Includes mine (slot_names c (ss ++ s ∷ []))
slot_more_mine mine c ss s all last =
    subst (λ (ts : List parts.Task). Includes mine (names_in ts)) (sym (map_append (task_part c) ss (s ∷ [])))
    (with_last_mine mine (map (task_part c) ss) (task_part c s) all last)

-- ---- a client

module _ {D : Type 0} {g : _} (mine : List Id16) (old new : Client D g) (all : Includes mine (mine_of (parts_of old))) where
  abbrev c : Catalog
  c = old.ledger.databases

  abbrev d : Catalog
  d = new.ledger.databases

  abbrev behind : List Id16
  behind = names_of_pending c.kept.pending ++ slot_names c old.tasks.items

  id_was : has_id old.id mine ≡ true
  id_was = the_first mine old.id behind all

  pub pending_was : Includes mine (names_of_pending c.kept.pending)
  pending_was = in_front mine (names_of_pending c.kept.pending) (slot_names c old.tasks.items) (behind_one mine old.id behind all)

  pub tasks_were : Includes mine (slot_names c old.tasks.items)
  tasks_were = in_rest mine (names_of_pending c.kept.pending) (slot_names c old.tasks.items) (behind_one mine old.id behind all)

  -- what is pending, and the tasks, by what they are then
  pub pending_by : (w : Option PendingPub) → d.kept.pending ≡ w → Includes mine (names_of_pending w) → Includes mine (names_of_pending d.kept.pending)
  pending_by w is names = subst (λ (o : Option PendingPub). Includes mine (names_of_pending o)) (sym is) names

  pub tasks_by : (ss : List (Slot Job)) → new.tasks.items ≡ ss → Includes mine (slot_names c ss) → Includes mine (slot_names d new.tasks.items)
  tasks_by ss is names =
      subst (λ (xs : List (Slot Job)). Includes mine (slot_names d xs)) (sym is)
      (subst (Includes mine) (sym (slots_same c d ss)) names)

  pub named_by : new.id ≡ old.id → Includes mine (names_of_pending d.kept.pending) → Includes mine (slot_names d new.tasks.items) → Includes mine (mine_of (parts_of new))
  named_by id pending tasks =
      one_mine mine new.id (names_of_pending d.kept.pending ++ slot_names d new.tasks.items) (subst (λ (i : Id16). has_id i mine ≡ true) (sym id) id_was)
      (both_mine mine (names_of_pending d.kept.pending) (slot_names d new.tasks.items) pending tasks)

  -- nothing of it has changed
  pub named_same : new.id ≡ old.id → d.kept.pending ≡ c.kept.pending → new.tasks.items ≡ old.tasks.items → Includes mine (mine_of (parts_of new))
  named_same id pending tasks = named_by id (pending_by c.kept.pending pending pending_was) (tasks_by old.tasks.items tasks tasks_were)

  -- the tasks alone have changed
  pub named_tasks : OnlyTasks old new → (ss : List (Slot Job)) → new.tasks.items ≡ ss → Includes mine (slot_names c ss) → Includes mine (mine_of (parts_of new))
  named_tasks only ss is names =
      named_by only.id (pending_by c.kept.pending (ap (λ (l : _). l.databases.kept.pending) only.ledger) pending_was) (tasks_by ss is names)

  pub named_unmoved : IsUnmoved old new → Includes mine (mine_of (parts_of new))
  named_unmoved same = named_tasks same.only old.tasks.items same.tasks tasks_were

-- ---- what is pending

-- nothing is once done is noted
pub none_pending : (n : _) (k : Kept) (w : Option PendingPub) → k.pending ≡ w → (kept_published n k w).pending ≡ None
none_pending n k None is = is
none_pending n k (Some p) is = refl

-- ---- what is in flight

-- over an open journal nothing is
pub none_flies : {D : Type 0} {g : _} (mine : List Id16) (shown : D → DiskShown) (log : ClientLog D g) (k : Kept) (free : Free) → Journaled shown log k free → is_shut log ≡ false
    → Includes mine (flight_names free.flight)
none_flies mine shown log k free journaled is = subst (λ (o : Option m.Note). Includes mine (flight_names o)) (sym (journaled.still is)) (none_mine mine)
