-- A publication that starts, or is refused.
use Rattle.std.proofs.Common.{◌≡◌, ◌⊎◌, ◌∙◌, ◌++◌, ◌<◌, vec_capacity, vec_len, ℕ, Bool, true, false, cond, nat_le, List, [], ◌∷◌, length, Option, Some, None, IfSome, Result, Ok, Err, is_some, option_map, inl, refl, sym, ap, subst}
use Rattle.bcv_base.specs.declared.id.Id16.{Id16}
use Rattle.bcv_base.specs.declared.log.Entry.{Entry}
use Rattle.bcv_base.specs.declared.names.Draw.TheVariants as draw
use Rattle.bcv_base.specs.declared.seen.Seen.{Seen}
use Rattle.bcv_base.specs.Drawn.{Draws, NamesShown}
use Rattle.bcv_base.specs.History.{history_of}
use Rattle.bcv_base.specs.Ids.{IsId}
use Rattle.bcv_base.specs.Image.{or_else}
use Rattle.bcv_base.specs.ManifestRules.{is_block_size}
use Rattle.bcv_cleanup.specs.State as cleanup
use Rattle.bcv_clientlaws.specs.Starts.{kind_asked}
use Rattle.bcv_clientlaws.proofs.TaskStarts.{cleanup_starts, copy_starts, create_starts, new_cleanup_fits, new_copy_fits, new_create_fits, refuses_start}
use Rattle.bcv_clientstate.specs.PartRefusals.{runs_publication}
use Rattle.bcv_clientstate.specs.Parts.{Parts}
use Rattle.bcv_clientstate.specs.SeenClient.{Free, seen_up, side_of}
use Rattle.bcv_clientstate.specs.StartRefusals.{kind_reasons, runs_all, start_reason}
use Rattle.bcv_databases.specs.Catalog.{Catalog, found_at, known_name, known_view, local_view}
use Rattle.bcv_databases.specs.Sound.{AreDatabases, CanUpload}
use Rattle.bcv_databases.specs.declared.known.Known.{Known}
use Rattle.bcv_base.specs.Keyed.{keyed}
use Rattle.bcv_model.specs.declared.kept.Local.{Local}
use Rattle.bcv_model.specs.Notes.{kept_name}
use Rattle.bcv_dbmap.specs.Past.{has_version}
use Rattle.bcv_dbcopy.specs.declared.plan.CopyPlan.{CopyPlan}
use Rattle.bcv_dbcopy.specs.State as copy
use Rattle.bcv_disk.specs.DiskShown.{DiskShown}
use Rattle.bcv_ledger.specs.declared.ledger.Ledger.{Ledger}
use Rattle.bcv_machine.specs.Refusals.{first_reason}
use Rattle.bcv_machine.specs.Starting.{Starts}
use Rattle.bcv_machine.specs.State as m
use Rattle.bcv_model.specs.declared.kept.PendingPub.{PendingPub}
use Rattle.bcv_model.specs.declared.kept.Uploading.{Uploading}
use Rattle.bcv_model.specs.declared.reply.Reply.{Reply}
use Rattle.bcv_model.specs.declared.reply.Reply.TheVariants as reply
use Rattle.bcv_slots.specs.declared.Slot.{Slot}
use Rattle.bcv_tasks.specs.declared.create_task.CreateTask.{CreateTask}
use Rattle.bcv_tasks.specs.declared.publish_task.PublishTask.{PublishTask}
use Rattle.bcv_tasks.specs.declared.publish_task.PublishTask.TheVariants as task
use Rattle.bcv_tasks.specs.State.{IsRunning, left_of, pending_of, refused_of, upload_of}
use Rattle.bcv_transaction.specs.Open.{Open}
use Rattle.bcv_client.specs.ClientForm.{IsInForm, JobInForm, PendingFor, TriesAgain, ViewInForm}
use Rattle.bcv_client.specs.ClientParts.{entries_of, parts_of}
use Rattle.bcv_client.specs.Events.{StandsOver}
use Rattle.bcv_client.specs.InForm.{InForm}
use Rattle.bcv_client.specs.NewTasks.{CanPublish, DrawnAs, DrawsUnless, DrewNone, IsTask, IsUnmoved, StartsDrawn, StartsPublication, left_in, reason_with, removal_reason_by}
use Rattle.bcv_client.specs.TaskStarts.{OnlyTasks, StartsLast, StartsTask}
use Rattle.bcv_client.specs.declared.client.Client.{Client}
use Rattle.bcv_client.specs.declared.job.Job.{Job}
use Rattle.bcv_client.specs.declared.job.Job.TheVariants as job
use Rattle.bcv_client.proofs.FirstReasons.{has_commits}
use Rattle.bcv_client.proofs.ReadsSaw.{new_saw}
use Rattle.bcv_client.proofs.SameParts.{locally_still, unmoved}
use Rattle.bcv_client.proofs.TasksStart.{Laws, all_run, starts_over}

-- ---- the reason

reasons_then : (xs ys : List (Bool × Reply)) → first_reason (xs ++ ys) ≡ or_else (first_reason xs) (first_reason ys)
reasons_then [] ys = refl
reasons_then (x ∷ xs) ys =
    elim x.0 as (λ (b : Bool). cond b (Some x.1) (first_reason (xs ++ ys)) ≡ or_else (cond b (Some x.1) (first_reason xs)) (first_reason ys)) [
      | true ↦ refl
      | false ↦ reasons_then xs ys
    ]

pub reason_is : (p : Parts) (kind : m.Kind) → start_reason p kind ≡ reason_with p.closed (is_some p.kept.pending) (runs_publication p) (first_reason (kind_reasons p kind)) (runs_all p)
reason_is p kind =
    ap (λ (o : Option Reply). cond p.closed (Some reply.Closed) (cond (is_some p.kept.pending) (Some reply.Pending) (cond (runs_publication p) (Some reply.Busy) o)))
    (reasons_then (kind_reasons p kind) ((runs_all p, reply.TooMany) ∷ []))

pub refusal_is : {D : Type 0} {g : _} (x : Client D g) (own : Option Reply) (closed busy pending all : Bool) → closed ≡ (parts_of x).closed → busy ≡ runs_publication (parts_of x)
    → pending ≡ is_some (parts_of x).kept.pending → all ≡ nat_le 16 (length x.tasks.items)
    → reason_with closed pending busy own all
    ≡ reason_with (parts_of x).closed (is_some (parts_of x).kept.pending) (runs_publication (parts_of x)) own (runs_all (parts_of x))
refusal_is x own closed busy pending all shut runs waits many =
    let p : Parts = parts_of x in
    ap (λ (b : Bool). reason_with b pending busy own all) shut
    ∙ ap (λ (b : Bool). reason_with p.closed b busy own all) waits
    ∙ ap (λ (b : Bool). reason_with p.closed (is_some p.kept.pending) b own all) runs
    ∙ ap (λ (b : Bool). reason_with p.closed (is_some p.kept.pending) (runs_publication p) own b) (many ∙ sym (all_run x.ledger.databases x.tasks.items))

-- a removal is refused where the database has commits
removal_by : (c : Catalog) (a : Option Local) (b : Option Known) → ((l : Local) → a ≡ Some l → is_some (local_view c l).commits ≡ true)
    → removal_reason_by (or_else (option_map (local_view c) a) (option_map known_view b)) ≡ first_reason ((is_some a, reply.HasLocal) ∷ [])
removal_by c (Some l) b some = ap (λ (x : Bool). cond x (Some reply.HasLocal) None) (some l refl)
removal_by c None (Some k) some = refl
removal_by c None None some = refl

pub removal_reason_is : (c : Catalog) (db : List ℕ) → AreDatabases c → removal_reason_by (found_at c db) ≡ first_reason ((is_some (keyed kept_name db c.kept.locals), reply.HasLocal) ∷ [])
removal_reason_is c db are = removal_by c (keyed kept_name db c.kept.locals) (keyed known_name db c.known) (λ l e. has_commits c db l are e)

-- ---- the form of a new task that uploads nothing

plain_view : (seen : Seen) (c : Catalog) (t : PublishTask) → upload_of 0 t ≡ None → ViewInForm seen c 0 0 t
plain_view seen c (task.Create x) plain = tt
plain_view seen c (task.Copy id s) plain = tt
plain_view seen c (task.Upload id s) plain = absurd (cc)
plain_view seen c (task.Cleanup id s) plain = tt

pub plain_in_form : (seen : Seen) (c : Catalog) (o : Open) (t : PublishTask) → c.kept.pending ≡ None → IsRunning t → refused_of t ≡ [] → upload_of 0 t ≡ None
    → JobInForm seen c o (job.Publish 0 0 t)
plain_in_form seen c o t none running new plain = record {
  running = running;
  waits =
      subst (λ (x : Option PendingPub). PendingFor x (pending_of 0 t) (refused_of t)) (sym none)
      (subst (λ (ns : List ℕ). PendingFor None (pending_of 0 t) ns) (sym new) tt);
  again = subst (λ (ns : List ℕ). TriesAgain ns t) (sym new) tt;
  upload = subst (λ (x : Option Uploading). IfSome x (CanUpload c.kept.locals)) (sym plain) tt;
  view = plain_view seen c t plain;
}

-- ---- a publication

only_then : {D : Type 0} {g : _} (old mid new : Client D g) → OnlyTasks old mid → OnlyTasks mid new → OnlyTasks old new
only_then old mid new first second = record {
  id = second.id ∙ first.id;
  ledger = second.ledger ∙ first.ledger;
  seen = second.seen ∙ first.seen;
  latest = second.latest ∙ first.latest;
  txns = second.txns ∙ first.txns;
  taken = second.taken ∙ first.taken;
}

starts_after : {D : Type 0} {g : _} (old mid new : Client D g) (j : Job) (left : ℕ) (r : Reply) → IsUnmoved old mid → StartsTask mid new j left r → StartsTask old new j left r
starts_after old mid new j left r same starts = record {
  only = only_then old mid new same.only starts.only;
  tasks = subst (λ (ss : List (Slot Job)). StartsLast ss new.tasks.items j left r) same.tasks starts.tasks;
}

-- where no name was drawn, none was
none_drawn : (j : Job) (before after : NamesShown) (id : Id16) → after ≡ before → DrewNone j before after id
none_drawn (job.Fetch access txn page) before after id same = same
none_drawn job.Poll before after id same = same
none_drawn (job.Publish set taken (task.Create c)) before after id same = same
none_drawn (job.Publish set taken (task.Copy i s)) before after id same = same
none_drawn (job.Publish set taken (task.Upload i s)) before after id same = inl same
none_drawn (job.Publish set taken (task.Cleanup i s)) before after id same = same
none_drawn job.Resolve before after id same = same

-- either none was drawn, or the publication's
pub none_or_its : (j : Job) (before after : NamesShown) (id : Id16) → DrewNone j before after id → (after ≡ before) ⊎ Draws before after (draw.Drawn id)
none_or_its (job.Fetch access txn page) before after id is = inl is
none_or_its job.Poll before after id is = inl is
none_or_its (job.Publish set taken (task.Create c)) before after id is = inl is
none_or_its (job.Publish set taken (task.Copy i s)) before after id is = inl is
none_or_its (job.Publish set taken (task.Upload i s)) before after id is = is
none_or_its (job.Publish set taken (task.Cleanup i s)) before after id is = inl is
none_or_its job.Resolve before after id is = inl is

module _ {D : Type 0} {g : _} (shown : D → DiskShown) (old : Client D g) (before : NamesShown) (why : Option Reply) (make : Id16 → Job) (Goes : Reply → Id16 → m.Side → m.Up → m.Side → Type 0) where
  abbrev p : Parts
  p = parts_of old

  -- a refusal is the machine's, whatever name is drawn
  abbrev pub Refuses : Type 0
  Refuses = (moment : ℕ) (log : List Entry) (f : Free) (id : Id16) (r : Reply) → why ≡ Some r
      → Goes r id (side_of moment (history_of log) p f) (seen_up (history_of log) p) (side_of moment (history_of log) p f)

  pub not_started : (new : Client D g) (after : NamesShown) → Refuses → (r : Reply) → DrawsUnless old new before after why (Err r) → StartsPublication shown (Goes r) old new before after why make r
  not_started new after refuses r does = by why refl r does
    where
      by : (w : Option Reply) → why ≡ w → (r : Reply) → DrawsUnless old new before after w (Err r) → StartsPublication shown (Goes r) old new before after why make r
      by (Some reason) is r e = record {
        id = old.id;
        starts = subst (λ (w : Option Reply). StartsDrawn old new before after old.id (make old.id) w r) (sym is) e;
        steps = λ moment log f stands fresh. locally_still shown (Goes r old.id) old new moment log f r e.1 stands (λ some. refuses moment log f old.id r (is ∙ ap Some (sym e.0)));
      }
      by None is reply.NamesFault e = record {
        id = old.id;
        starts = subst (λ (w : Option Reply). StartsDrawn old new before after old.id (make old.id) w reply.NamesFault) (sym is) e;
        steps = λ moment log f stands fresh. locally_still shown (Goes reply.NamesFault old.id) old new moment log f reply.NamesFault e.0 stands (λ some. absurd (some tt));
      }
      by None is reply.NoMemory e = record {
        id = old.id;
        starts = subst (λ (w : Option Reply). StartsDrawn old new before after old.id (make old.id) w reply.NoMemory) (sym is) (e.0, none_drawn (make old.id) before after old.id e.1);
        steps = λ moment log f stands fresh. locally_still shown (Goes reply.NoMemory old.id) old new moment log f reply.NoMemory e.0 stands (λ some. absurd (some tt));
      }
      by None is _ e = absurd e

  -- what a name was drawn for
  pub record Drew (mid : Client D g) (after : NamesShown) (id : Id16) : Type 0 where
    pub free : why ≡ None
    pub same : IsUnmoved old mid
    pub can : CanPublish mid
    pub is_id : IsId id
    pub draws : Draws before after (draw.Drawn id)

  pub drew : (mid : Client D g) (after : NamesShown) (id : Id16) → DrawsUnless old mid before after why (Ok id) → Drew mid after id
  drew mid after id does = by why refl does
    where
      by : (w : Option Reply) → why ≡ w → DrawsUnless old mid before after w (Ok id) → Drew mid after id
      by (Some reason) is e = absurd e
      by None is e = record { free = is; same = e.0; can = e.1; is_id = e.2; draws = e.3 }

  -- what the machine says of the task that starts, wherever the client stands
  abbrev pub TaskLaws : Client D g → Id16 → Type 0
  TaskLaws new id =
      (moment : ℕ) (log : List Entry) (f : Free) → StandsOver shown old log f → has_version (history_of log) id ≡ false
      → Laws shown old new (make id) (left_in (make id)) (λ (x : Reply). Goes x id) moment log f

  pub started : (mid new : Client D g) (after : NamesShown) (id : Id16) (r : Reply) → Drew mid after id → StartsTask mid new (make id) (left_in (make id)) r → IsTask r → TaskLaws new id
      → StartsPublication shown (Goes r) old new before after why make r
  started mid new after id (reply.Task n k) d starts is laws =
      let after_it : StartsTask old new (make id) (left_in (make id)) (reply.Task n k) = starts_after old mid new (make id) (left_in (make id)) (reply.Task n k) d.same starts in
      record {
        id = id;
        starts = subst (λ (w : Option Reply). StartsDrawn old new before after id (make id) w (reply.Task n k)) (sym d.free) (after_it, d.is_id, d.draws);
        steps = λ moment log f stands fresh.
            starts_over shown old new (make id) (left_in (make id)) (λ (x : Reply). Goes x id) moment log f (reply.Task n k) after_it stands (laws moment log f stands fresh);
      }
  started mid new after id _ d starts is laws = absurd is

  -- fewer than 16 tasks run
  pub not_full : (mid : Client D g) → IsUnmoved old mid → CanPublish mid → runs_all p ≡ true → ⊥
  not_full mid same can all =
      let few : runs_all p ≡ false =
      all_run old.ledger.databases old.tasks.items ∙ ap (λ (ss : List (Slot Job)). nat_le 16 (length ss)) (sym same.tasks) ∙ can.few in
      let both : true ≡ false = sym all ∙ few in cc

-- ---- each kind

module _ {D : Type 0} {g : _} (shown : D → DiskShown) (old mid new : Client D g) (before after : NamesShown) (id : Id16) where
  abbrev q : Parts
  q = parts_of old

  abbrev Machine : m.Kind → Reply → Id16 → m.Side → m.Up → m.Side → Type 0
  Machine kind r i s u t = Starts s u kind i r t

  pub kind_refuses : (kind : m.Kind) (make : Id16 → Job) → Refuses shown old before (start_reason q kind) make (Machine kind)
  kind_refuses kind make moment log f i r is = refuses_start moment (history_of log) q f kind i r is

  abbrev creates : ℕ → ℕ → Id16 → Job
  creates block retention i = job.Publish 0 0 (task.Create (record { block = block; retention = retention; writer = old.id; id = i; latest = None }))

  pub create_laws : (block retention : ℕ) → is_block_size block ≡ true → Drew shown old before (start_reason q (m.Creating block retention)) (creates block retention) (Machine (m.Creating block retention)) mid after id
      → TaskLaws shown old before (start_reason q (m.Creating block retention)) (creates block retention) (Machine (m.Creating block retention)) new id
  create_laws block retention size d moment log f stands fresh = record {
    starts = λ n few least. create_starts moment (history_of log) q f block retention n id d.free least d.is_id fresh;
    full = λ all. absurd (not_full shown old before (start_reason q (m.Creating block retention)) (creates block retention) (Machine (m.Creating block retention)) mid d.same d.can all);
    fits = λ n. new_create_fits log q (entries_of old) n block retention id stands.fits size d.is_id fresh;
    saw = new_saw (history_of log);
  }

  abbrev copies : CopyPlan → Id16 → Job
  copies x i = job.Publish 0 0 (task.Copy i (copy.new_task x old.id i))

  pub copy_laws : (x : CopyPlan) → copy.IsRunning (copy.new_task x old.id id) → Drew shown old before (start_reason q (kind_asked x)) (copies x) (Machine (kind_asked x)) mid after id
      → TaskLaws shown old before (start_reason q (kind_asked x)) (copies x) (Machine (kind_asked x)) new id
  copy_laws x runs d moment log f stands fresh = record {
    starts = λ n few least. copy_starts moment (history_of log) q f x n id d.free least d.is_id fresh;
    full = λ all. absurd (not_full shown old before (start_reason q (kind_asked x)) (copies x) (Machine (kind_asked x)) mid d.same d.can all);
    fits = λ n. new_copy_fits log q (entries_of old) n x id stands.fits runs d.is_id fresh;
    saw = new_saw (history_of log);
  }

  abbrev cleans : Id16 → Job
  cleans i = job.Publish 0 0 (task.Cleanup i (cleanup.new_cleanup old.id i))

  pub cleanup_laws : cleanup.IsRunning (cleanup.new_cleanup old.id id) → Drew shown old before (start_reason q m.Cleaning) cleans (Machine m.Cleaning) mid after id
      → TaskLaws shown old before (start_reason q m.Cleaning) cleans (Machine m.Cleaning) new id
  cleanup_laws runs d moment log f stands fresh = record {
    starts = λ n few least. cleanup_starts moment (history_of log) q f n id d.free least d.is_id fresh;
    full = λ all. absurd (not_full shown old before (start_reason q m.Cleaning) cleans (Machine m.Cleaning) mid d.same d.can all);
    fits = λ n. new_cleanup_fits log q (entries_of old) n id stands.fits runs d.is_id fresh;
    saw = new_saw (history_of log);
  }

-- ---- how a name is drawn

-- a client that did not move is in form as before
pub form_unmoved : {D : Type 0} {g : _} (old new : Client D g) → IsUnmoved old new → InForm old → InForm new
form_unmoved {D = D} {g = g} old new same form =
    subst (λ (ss : List (Slot Job)). IsInForm new.seen new.ledger.databases new.txns ss) (sym same.tasks)
    (subst (λ (o : Open). IsInForm new.seen new.ledger.databases o old.tasks.items) (sym same.only.txns)
    (subst (λ (l : Ledger D g). IsInForm new.seen l.databases old.txns old.tasks.items) (sym same.only.ledger)
    (subst (λ (x : Seen). IsInForm x old.ledger.databases old.txns old.tasks.items) (sym same.only.seen) form)))

-- where there is no reason, none of the tests held
pub none_with : (closed pending busy : Bool) (own : Option Reply) (all : Bool) → reason_with closed pending busy own all ≡ None → (pending ≡ false) × (busy ≡ false) × (all ≡ false)
none_with true pending busy own all e = absurd (let is : Some reply.Closed ≡ None = e in cc)
none_with false true busy own all e = absurd (let is : Some reply.Pending ≡ None = e in cc)
none_with false false true own all e = absurd (let is : Some reply.Busy ≡ None = e in cc)
none_with false false false (Some r) all e = absurd (let is : Some r ≡ None = e in cc)
none_with false false false None true e = absurd (let is : Some reply.TooMany ≡ None = e in cc)
none_with false false false None false e = (refl, refl, refl)

not_there : {A : Type 0} (o : Option A) → is_some o ≡ false → o ≡ None
not_there None e = refl
not_there (Some x) e = absurd (let both : true ≡ false = e in cc)

module _ {D : Type 0} {g : _} (old : Client D g) (before : NamesShown) (own : Option Reply) where
  abbrev reason : Option Reply
  reason =
      reason_with (parts_of old).closed (is_some (parts_of old).kept.pending) (runs_publication (parts_of old)) own (runs_all (parts_of old))

  pub draw_refused : (w : Option Reply) (r : Reply) → w ≡ reason → w ≡ Some r → DrawsUnless old old before before reason (Err r)
  draw_refused w r is some =
      subst (λ (o : Option Reply). DrawsUnless old old before before o (Err r)) (sym some ∙ is)
      (refl, record { only = record { id = refl; ledger = refl; seen = refl; latest = refl; txns = refl; taken = refl }; tasks = refl }, refl)

  pub draw_full : (new : Client D g) → reason ≡ None → IsUnmoved old new → DrawsUnless old new before before reason (Err reply.NoMemory)
  draw_full new none same = subst (λ (o : Option Reply). DrawsUnless old new before before o (Err reply.NoMemory)) (sym none) (same, refl)

  pub can_publish : (new : Client D g) → reason ≡ None → IsUnmoved old new → vec_len new.tasks < vec_capacity new.tasks → CanPublish new
  can_publish new none same room =
      let tests = none_with (parts_of old).closed (is_some (parts_of old).kept.pending) (runs_publication (parts_of old)) own (runs_all (parts_of old)) none in
      record {
        few = ap (λ (ss : List (Slot Job)). nat_le 16 (length ss)) same.tasks ∙ sym (all_run old.ledger.databases old.tasks.items) ∙ tests.2;
        room = room;
        quiet = ap runs_publication (unmoved old new same) ∙ tests.1;
        pending = ap (λ (l : Ledger D g). l.databases.kept.pending) same.only.ledger ∙ not_there old.ledger.databases.kept.pending tests.0;
      }

  pub draw_did : (new : Client D g) (after : NamesShown) (x : Result Id16 Reply) → reason ≡ None → IsUnmoved old new → CanPublish new → DrawnAs before after x → DrawsUnless old new before after reason x
  draw_did new after x none same can drew_it = subst (λ (o : Option Reply). DrawsUnless old new before after o x) (sym none) (by x drew_it)
    where
      by : (y : Result Id16 Reply) → DrawnAs before after y → DrawsUnless old new before after None y
      by (Ok id) d = (same, can, d.0, d.1)
      by (Err reply.NamesFault) d = (same, d)
      by (Err _) d = absurd d

  -- whatever was answered, the client did not move
  pub draw_unmoved : (new : Client D g) (after : NamesShown) (w : Option Reply) (x : Result Id16 Reply) → DrawsUnless old new before after w x → IsUnmoved old new
  draw_unmoved new after None (Ok id) d = d.0
  draw_unmoved new after None (Err reply.NamesFault) d = d.0
  draw_unmoved new after None (Err reply.NoMemory) d = d.0
  draw_unmoved new after None (Err _) d = absurd d
  draw_unmoved new after (Some why) (Err r) d = d.1
  draw_unmoved new after (Some why) (Ok id) d = absurd d

-- ---- each kind, as its call ends

job_starts : {D : Type 0} {g : _} (mid new : Client D g) (r : Reply) (t u : PublishTask) → t ≡ u → StartsTask mid new (job.Publish 0 0 t) (left_of t) r
    → StartsTask mid new (job.Publish 0 0 u) (left_in (job.Publish 0 0 u)) r
job_starts mid new r t u is starts = subst (λ (x : PublishTask). StartsTask mid new (job.Publish 0 0 x) (left_of x) r) is starts

module _ {D : Type 0} {g : _} (shown : D → DiskShown) (old mid : Client D g) (before after : NamesShown) (own : Option Reply) where
  abbrev o : Parts
  o = parts_of old

  abbrev test : Option Reply
  test = reason_with o.closed (is_some o.kept.pending) (runs_publication o) own (runs_all o)

  draws_for : (kind : m.Kind) (x : Result Id16 Reply) → own ≡ first_reason (kind_reasons o kind) → DrawsUnless old mid before after test x → DrawsUnless old mid before after (start_reason o kind) x
  draws_for kind x is d =
      subst (λ (w : Option Reply). DrawsUnless old mid before after w x)
      (ap (λ (w : Option Reply). reason_with o.closed (is_some o.kept.pending) (runs_publication o) w (runs_all o)) is ∙ sym (reason_is o kind)) d

  pub refused_start : (kind : m.Kind) (make : Id16 → Job) (x : Result Id16 Reply) (r : Reply) → own ≡ first_reason (kind_reasons o kind) → x ≡ Err r → DrawsUnless old mid before after test x
      → StartsPublication shown (λ id s u t. Starts s u kind id r t) old mid before after (start_reason o kind) make r
  refused_start kind make x r is err d =
      not_started shown old before (start_reason o kind) make (λ (y : Reply) id s u t. Starts s u kind id y t) mid after
      (λ moment log f id y why. refuses_start moment (history_of log) o f kind id y why) r
      (subst (λ (y : Result Id16 Reply). DrawsUnless old mid before after (start_reason o kind) y) err (draws_for kind x is d))

  pub unmoved_by : (x : Result Id16 Reply) → DrawsUnless old mid before after test x → IsUnmoved old mid
  unmoved_by x d = draw_unmoved old before own mid after test x d

  pub can_by : (x : Result Id16 Reply) (id : Id16) → x ≡ Ok id → DrawsUnless old mid before after test x → CanPublish mid
  can_by x id ok d = by test (subst (λ (y : Result Id16 Reply). DrawsUnless old mid before after test y) ok d)
    where
      by : (w : Option Reply) → DrawsUnless old mid before after w (Ok id) → CanPublish mid
      by (Some why) e = absurd e
      by None e = e.1

  pub drew_for : (kind : m.Kind) (make : Id16 → Job) (x : Result Id16 Reply) (id : Id16) → own ≡ first_reason (kind_reasons o kind) → x ≡ Ok id → DrawsUnless old mid before after test x
      → Drew shown old before (start_reason o kind) make (λ (y : Reply) i s u t. Starts s u kind i y t) mid after id
  drew_for kind make x id is ok d =
      drew shown old before (start_reason o kind) make (λ (y : Reply) i s u t. Starts s u kind i y t) mid after id
      (subst (λ (y : Result Id16 Reply). DrawsUnless old mid before after (start_reason o kind) y) ok (draws_for kind x is d))

  abbrev made_by : ℕ → ℕ → Id16 → Id16 → CreateTask
  made_by block retention writer id = record { block = block; retention = retention; writer = writer; id = id; latest = None }

  pub create_start : (new : Client D g) (block retention : ℕ) (x : Result Id16 Reply) (id : Id16) (t : CreateTask) (r : Reply) → is_block_size block ≡ true → own ≡ None → x ≡ Ok id
      → DrawsUnless old mid before after test x → t ≡ made_by block retention mid.id id
      → StartsTask mid new (job.Publish 0 0 (task.Create t)) (left_of (task.Create t)) r → IsTask r
      → StartsPublication shown (λ i s u t. Starts s u (m.Creating block retention) i r t) old new before after (start_reason o (m.Creating block retention))
      (λ i. job.Publish 0 0 (task.Create (made_by block retention old.id i))) r
  create_start new block retention x id t r size is ok d same starts ends =
      let kind : m.Kind = m.Creating block retention in
      let make : Id16 → Job = λ i. job.Publish 0 0 (task.Create (made_by block retention old.id i)) in
      let drawn = drew_for kind make x id is ok d in
      let it : task.Create t ≡ task.Create (made_by block retention old.id id) =
      ap task.Create same ∙ ap (λ (w : Id16). task.Create (made_by block retention w id)) (unmoved_by x d).only.id in
      started shown old before (start_reason o kind) make (λ (y : Reply) i s u t. Starts s u kind i y t) mid new after id r drawn
      (job_starts mid new r (task.Create t) (task.Create (made_by block retention old.id id)) it starts) ends
      (create_laws shown old mid new before after id block retention size drawn)

  pub copy_start : (new : Client D g) (p : CopyPlan) (x : Result Id16 Reply) (id : Id16) (t : copy.State) (r : Reply) → own ≡ first_reason (kind_reasons o (kind_asked p)) → x ≡ Ok id
      → DrawsUnless old mid before after test x → t ≡ copy.new_task p mid.id id → copy.IsRunning t
      → StartsTask mid new (job.Publish 0 0 (task.Copy id t)) (left_of (task.Copy id t)) r → IsTask r
      → StartsPublication shown (λ i s u t. Starts s u (kind_asked p) i r t) old new before after (start_reason o (kind_asked p))
      (λ i. job.Publish 0 0 (task.Copy i (copy.new_task p old.id i))) r
  copy_start new p x id t r is ok d same runs starts ends =
      let kind : m.Kind = kind_asked p in
      let make : Id16 → Job = λ i. job.Publish 0 0 (task.Copy i (copy.new_task p old.id i)) in
      let drawn = drew_for kind make x id is ok d in
      let it : t ≡ copy.new_task p old.id id = same ∙ ap (λ (w : Id16). copy.new_task p w id) (unmoved_by x d).only.id in
      started shown old before (start_reason o kind) make (λ (y : Reply) i s u t. Starts s u kind i y t) mid new after id r drawn
      (job_starts mid new r (task.Copy id t) (task.Copy id (copy.new_task p old.id id)) (ap (task.Copy id) it) starts) ends
      (copy_laws shown old mid new before after id p (subst copy.IsRunning it runs) drawn)

  pub cleanup_start : (new : Client D g) (x : Result Id16 Reply) (id : Id16) (t : cleanup.State) (r : Reply) → own ≡ None → x ≡ Ok id
      → DrawsUnless old mid before after test x → t ≡ cleanup.new_cleanup mid.id id → cleanup.IsRunning t
      → StartsTask mid new (job.Publish 0 0 (task.Cleanup id t)) (left_of (task.Cleanup id t)) r → IsTask r
      → StartsPublication shown (λ i s u t. Starts s u m.Cleaning i r t) old new before after (start_reason o m.Cleaning)
      (λ i. job.Publish 0 0 (task.Cleanup i (cleanup.new_cleanup old.id i))) r
  cleanup_start new x id t r is ok d same runs starts ends =
      let make : Id16 → Job = λ i. job.Publish 0 0 (task.Cleanup i (cleanup.new_cleanup old.id i)) in
      let drawn = drew_for m.Cleaning make x id is ok d in
      let it : t ≡ cleanup.new_cleanup old.id id = same ∙ ap (λ (w : Id16). cleanup.new_cleanup w id) (unmoved_by x d).only.id in
      started shown old before (start_reason o m.Cleaning) make (λ (y : Reply) i s u t. Starts s u m.Cleaning i y t) mid new after id r drawn
      (job_starts mid new r (task.Cleanup id t) (task.Cleanup id (cleanup.new_cleanup old.id id)) (ap (task.Cleanup id) it) starts) ends
      (cleanup_laws shown old mid new before after id (subst cleanup.IsRunning it runs) drawn)
