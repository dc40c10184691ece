-- The put of each kind of task is a task's put.
use Rattle.std.proofs.Common.{◌≡◌, ◌∙◌, ℕ, Bool, true, false, List, Option, Some, IfSome, MatchOption, refl, sym, ap, subst}
use Rattle.bcv_base.specs.declared.id.Id16.{Id16}
use Rattle.bcv_base.specs.declared.log.Entry.{Entry}
use Rattle.bcv_base.specs.declared.seen.Latest.{Latest}
use Rattle.bcv_base.specs.History.{history_of}
use Rattle.bcv_base.specs.Ids.{has_id}
use Rattle.bcv_base.specs.Image.{Writes}
use Rattle.bcv_cleanup.specs.CleanupPut as sweeping
use Rattle.bcv_cleanup.specs.State as cleanup
use Rattle.bcv_dbcopy.specs.State as copy
use Rattle.bcv_dbcopy.specs.TaskPut as copying
use Rattle.bcv_dbmap.specs.declared.plan.EditPlan.{EditPlan}
use Rattle.bcv_dbmap.specs.Kept.{IsKept}
use Rattle.bcv_dbmap.specs.Past.{has_version}
use Rattle.bcv_publish.specs.declared.work.PutEnd.{PutEnd}
use Rattle.bcv_publish.specs.declared.work.PutEnd.TheVariants as put
use Rattle.bcv_publish.specs.ManifestPut.{IsReady, ManifestPuts, ManifestPutSound}
use Rattle.bcv_publish.specs.ManifestPut as publishing
use Rattle.bcv_publish.specs.Request.{OverSoundLog}
use Rattle.bcv_publish.specs.State as publish
use Rattle.bcv_store.specs.StoreShown.{StoreTold, StoreShown}
use Rattle.bcv_tasks.specs.declared.publish_task.PublishTask.{PublishTask}
use Rattle.bcv_tasks.specs.declared.publish_task.PublishTask.TheVariants as task
use Rattle.bcv_tasks.specs.declared.put_answer.PutAnswer.TheVariants as answer
use Rattle.bcv_tasks.specs.State.{IsRunning, made_over, publish_of, with_publish}
use Rattle.bcv_tasks.specs.TaskPut.{CompletesCleanup, MayPut, PutsTask, answer_of}
use Rattle.bcv_tasks.proofs.PutLaws.{IsOver, is_made, kept_of, leaves, takes, task_puts, was_refused, was_unknown}
use Rattle.bcv_dbcopy.proofs.Tasks.{any_ready as copy_ready}
use Rattle.bcv_upload.proofs.Tasks.{any_ready as upload_ready}
use Rattle.bcv_upload.specs.State as upload
use Rattle.bcv_upload.specs.UploadPut as uploading

-- the put of a publication that is a task's
puts : (store : StoreTold) (old new : StoreShown) (t u : PublishTask) (plan : EditPlan) (moment : ℕ) (read : Latest) (e : PutEnd) (p : publish.State)
    → IsOver t plan moment read → with_publish t p (is_made e) ≡ u → publishing.PutLeaves plan moment (publish_of t) read e p
    → ManifestPuts store old new (publish_of t) read plan moment e p
    → OverSoundLog store old new (λ mine. (view : List Writes) → MayPut mine old.log view t → ManifestPutSound store mine old new (publish_of t) read plan moment e p)
    → PutsTask store old new t moment (answer_of e) u
puts store old new t u plan moment read e p over is left request sound =
    subst (λ (x : PublishTask). PutsTask store old new t moment (answer_of e) x) is
    (record {
      leaves = leaves moment t plan read e p over left;
      sound = λ tells mine grew honest view may. task_puts store mine old new view t plan moment read e p over left (sound tells mine grew honest view may) grew may.owns;
      taken = takes store old new e request.taken;
      later = request.later;
      failed = λ is. request.failed (was_unknown e is);
    })

-- what was read is kept in the log, where it is what is read
kept_in : (log : List Entry) (o : Option Latest) (read : Latest) → o ≡ Some read → IfSome o (IsKept log) → IsKept log read
kept_in log o read is kept = subst (λ (x : Option Latest). IfSome x (IsKept log)) is kept

-- ---- new databases, copies and removals

copy_made : (e : PutEnd) → copying.is_published e ≡ is_made e
copy_made (put.Published n) = refl
copy_made put.Refused = refl
copy_made (put.Contended numbers) = refl
copy_made put.Unknown = refl
copy_made put.NoMemory = refl

copy_may : (mine : List Id16) (log : List Entry) (view : List Writes) (id : Id16) (s : copy.State) (read : Latest) → id ≡ s.publish.id → s.publish.latest ≡ Some read
    → MayPut mine log view (task.Copy id s) → copying.MayPut mine log s read
copy_may mine log view id s read same is may = record {
  kept = kept_in log s.publish.latest read is may.kept;
  writer = may.writer;
  id = subst (λ (i : Id16). has_id i mine ≡ true) same may.id;
  fresh = subst (λ (i : Id16). has_version (history_of log) i ≡ false) same may.fresh;
  blocks = may.owns;
}

pub copy_puts : (store : StoreTold) (old new : StoreShown) (id : Id16) (s t : copy.State) (moment : ℕ) (e : PutEnd) → IsRunning (task.Copy id s) → copy.is_ready s ≡ true
    → MatchOption s.publish.latest ⊥ (λ read. copying.PutLeaves moment s read e t)
    → MatchOption s.publish.latest ⊥ (λ read. ManifestPuts store old new s.publish read s.edit moment e t.publish)
    → OverSoundLog store old new (λ mine. MatchOption s.publish.latest ⊥ (λ read. copying.MayPut mine old.log s read → ManifestPutSound store mine old new s.publish read s.edit moment e t.publish))
    → PutsTask store old new (task.Copy id s) moment (answer_of e) (task.Copy id t)
copy_puts store old new id s t moment e running ready left request sound =
    let k = kept_of (λ read. copying.PutLeaves moment s read e t) s.publish.latest left in
    let p : publish.State = k.fact.0 in
    let same : t.publish ≡ p = ap (λ (x : copy.State). x.publish) k.fact.2 in
    puts store old new (task.Copy id s) (task.Copy id t) s.edit moment k.read e p
    (record {
      unmade = ap (λ (b : Bool). task.Copy id (record s { published = b })) (sym running.1.waits);
      kept = k.is;
      brings = ap (made_over s.publish s.edit moment) k.is;
      order = (subst (λ (o : Option Latest). MatchOption o ⊥ (λ l. IsReady l.manifest s.edit s.publish.writer)) k.is (copy_ready s running.1.task ready)).rules.dbs;
    })
    (ap (λ (b : Bool). task.Copy id (record s { publish = p; published = b })) (sym (copy_made e)) ∙ ap (task.Copy id) (sym k.fact.2))
    k.fact.1
    (subst (λ (q : publish.State). ManifestPuts store old new s.publish k.read s.edit moment e q) same
    (subst (λ (o : Option Latest). MatchOption o ⊥ (λ read. ManifestPuts store old new s.publish read s.edit moment e t.publish)) k.is request))
    (λ tells mine grew honest view may.
    subst (λ (q : publish.State). ManifestPutSound store mine old new s.publish k.read s.edit moment e q) same
    (subst (λ (o : Option Latest). MatchOption o ⊥ (λ read. copying.MayPut mine old.log s read → ManifestPutSound store mine old new s.publish read s.edit moment e t.publish)) k.is
    (sound tells mine grew honest) (copy_may mine old.log view id s k.read running.0 k.is may)))

-- a refused one goes on
pub copy_runs : (id : Id16) (s t : copy.State) (moment : ℕ) (e : PutEnd) → IsRunning (task.Copy id s) → MatchOption s.publish.latest ⊥ (λ read. copying.PutLeaves moment s read e t)
    → (e ≡ put.Refused → copy.IsRunning t) → answer_of e ≡ answer.Refused → IsRunning (task.Copy id t)
copy_runs id s t moment e running left goes_on is =
    let k = kept_of (λ read. copying.PutLeaves moment s read e t) s.publish.latest left in
    let refused : e ≡ put.Refused = was_refused e is in
    let lower = subst (λ (x : PutEnd). publishing.PutLeaves s.edit moment s.publish k.read x k.fact.0) refused k.fact.1 in
    (running.0 ∙ sym (ap (λ (q : publish.State). q.id) lower.1) ∙ sym (ap (λ (x : copy.State). x.publish.id) k.fact.2), goes_on refused)

-- ---- uploads

upload_made : (e : PutEnd) → uploading.is_published e ≡ is_made e
upload_made (put.Published n) = refl
upload_made put.Refused = refl
upload_made (put.Contended numbers) = refl
upload_made put.Unknown = refl
upload_made put.NoMemory = refl

upload_may : (mine : List Id16) (log : List Entry) (view : List Writes) (id : Id16) (s : upload.State) (read : Latest) → id ≡ s.publish.id → s.publish.latest ≡ Some read
    → MayPut mine log view (task.Upload id s) → uploading.MayPut mine log view s read
upload_may mine log view id s read same is may = record {
  kept = kept_in log s.publish.latest read is may.kept;
  writer = may.writer;
  id = subst (λ (i : Id16). has_id i mine ≡ true) same may.id;
  fresh = subst (λ (i : Id16). has_version (history_of log) i ≡ false) same may.fresh;
  blocks = may.owns;
}

pub upload_puts : (store : StoreTold) (old new : StoreShown) (id : Id16) (s t : upload.State) (moment : ℕ) (e : PutEnd) → IsRunning (task.Upload id s) → upload.is_ready s ≡ true
    → MatchOption s.publish.latest ⊥ (λ read. uploading.PutLeaves moment s read e t)
    → MatchOption s.publish.latest ⊥ (λ read. ManifestPuts store old new s.publish read (upload.plan_of s) moment e t.publish)
    → OverSoundLog store old new (λ mine. MatchOption s.publish.latest ⊥ (λ read. (view : List Writes) → uploading.MayPut mine old.log view s read
    → ManifestPutSound store mine old new s.publish read (upload.plan_of s) moment e t.publish))
    → PutsTask store old new (task.Upload id s) moment (answer_of e) (task.Upload id t)
upload_puts store old new id s t moment e running ready left request sound =
    let k = kept_of (λ read. uploading.PutLeaves moment s read e t) s.publish.latest left in
    let p : publish.State = k.fact.0 in
    let same : t.publish ≡ p = ap (λ (x : upload.State). x.publish) k.fact.2 in
    puts store old new (task.Upload id s) (task.Upload id t) (upload.plan_of s) moment k.read e p
    (record {
      unmade = ap (λ (b : Bool). task.Upload id (record s { published = b })) (sym running.1.waits);
      kept = k.is;
      brings = ap (made_over s.publish (upload.plan_of s) moment) k.is;
      order = (subst (λ (o : Option Latest). MatchOption o ⊥ (λ l. IsReady l.manifest (upload.plan_of s) s.publish.writer)) k.is (upload_ready s (upload.plan_of s) refl running.1.task ready)).rules.dbs;
    })
    (ap (λ (b : Bool). task.Upload id (record s { publish = p; published = b })) (sym (upload_made e)) ∙ ap (task.Upload id) (sym k.fact.2))
    k.fact.1
    (subst (λ (q : publish.State). ManifestPuts store old new s.publish k.read (upload.plan_of s) moment e q) same
    (subst (λ (o : Option Latest). MatchOption o ⊥ (λ read. ManifestPuts store old new s.publish read (upload.plan_of s) moment e t.publish)) k.is request))
    (λ tells mine grew honest view may.
    subst (λ (q : publish.State). ManifestPutSound store mine old new s.publish k.read (upload.plan_of s) moment e q) same
    (subst (λ (o : Option Latest). MatchOption o ⊥ (λ read. (view : List Writes) → uploading.MayPut mine old.log view s read
    → ManifestPutSound store mine old new s.publish read (upload.plan_of s) moment e t.publish)) k.is
    (sound tells mine grew honest) view (upload_may mine old.log view id s k.read running.0 k.is may)))

pub upload_runs : (id : Id16) (s t : upload.State) (moment : ℕ) (e : PutEnd) → IsRunning (task.Upload id s) → MatchOption s.publish.latest ⊥ (λ read. uploading.PutLeaves moment s read e t)
    → (e ≡ put.Refused → upload.IsRunning t) → answer_of e ≡ answer.Refused → IsRunning (task.Upload id t)
upload_runs id s t moment e running left goes_on is =
    let k = kept_of (λ read. uploading.PutLeaves moment s read e t) s.publish.latest left in
    let refused : e ≡ put.Refused = was_refused e is in
    let lower = subst (λ (x : PutEnd). publishing.PutLeaves (upload.plan_of s) moment s.publish k.read x k.fact.0) refused k.fact.1 in
    (running.0 ∙ sym (ap (λ (q : publish.State). q.id) lower.1) ∙ sym (ap (λ (x : upload.State). x.publish.id) k.fact.2), goes_on refused)

-- ---- cleanups

cleanup_made : (e : PutEnd) → sweeping.is_published e ≡ is_made e
cleanup_made (put.Published n) = refl
cleanup_made put.Refused = refl
cleanup_made (put.Contended numbers) = refl
cleanup_made put.Unknown = refl
cleanup_made put.NoMemory = refl

cleanup_may : (mine : List Id16) (log : List Entry) (view : List Writes) (id : Id16) (s : cleanup.State) (read : Latest) → id ≡ s.publish.id → s.publish.latest ≡ Some read
    → MayPut mine log view (task.Cleanup id s) → sweeping.MayPut mine log s read
cleanup_may mine log view id s read same is may = record {
  kept = kept_in log s.publish.latest read is may.kept;
  writer = may.writer;
  id = subst (λ (i : Id16). has_id i mine ≡ true) same may.id;
  fresh = subst (λ (i : Id16). has_version (history_of log) i ≡ false) same may.fresh;
  taken = may.owns;
}

pub cleanup_puts : (store : StoreTold) (old new : StoreShown) (id : Id16) (s t : cleanup.State) (moment : ℕ) (e : PutEnd) → IsRunning (task.Cleanup id s)
    → MatchOption s.publish.latest ⊥ (λ read. sweeping.PutLeaves moment s read e t)
    → MatchOption s.publish.latest ⊥ (λ read. ManifestPuts store old new s.publish read s.edit moment e t.publish)
    → OverSoundLog store old new (λ mine. MatchOption s.publish.latest ⊥ (λ read. sweeping.MayPut mine old.log s read → ManifestPutSound store mine old new s.publish read s.edit moment e t.publish))
    → PutsTask store old new (task.Cleanup id s) moment (answer_of e) (task.Cleanup id t)
cleanup_puts store old new id s t moment e running left request sound =
    let k = kept_of (λ read. sweeping.PutLeaves moment s read e t) s.publish.latest left in
    let p : publish.State = k.fact.0 in
    let same : t.publish ≡ p = ap (λ (x : cleanup.State). x.publish) k.fact.2 in
    puts store old new (task.Cleanup id s) (task.Cleanup id t) s.edit moment k.read e p
    (record {
      unmade = ap (λ (b : Bool). task.Cleanup id (record s { published = b })) (sym running.1.waits);
      kept = k.is;
      brings = ap (made_over s.publish s.edit moment) k.is;
      order = (subst (cleanup.IsRead s) k.is (running.1.task.stage running.1.waits)).rules.dbs;
    })
    (ap (λ (b : Bool). task.Cleanup id (record s { publish = p; published = b })) (sym (cleanup_made e)) ∙ ap (task.Cleanup id) (sym k.fact.2))
    k.fact.1
    (subst (λ (q : publish.State). ManifestPuts store old new s.publish k.read s.edit moment e q) same
    (subst (λ (o : Option Latest). MatchOption o ⊥ (λ read. ManifestPuts store old new s.publish read s.edit moment e t.publish)) k.is request))
    (λ tells mine grew honest view may.
    subst (λ (q : publish.State). ManifestPutSound store mine old new s.publish k.read s.edit moment e q) same
    (subst (λ (o : Option Latest). MatchOption o ⊥ (λ read. sweeping.MayPut mine old.log s read → ManifestPutSound store mine old new s.publish read s.edit moment e t.publish)) k.is
    (sound tells mine grew honest) (cleanup_may mine old.log view id s k.read running.0 k.is may)))

pub cleanup_runs : (id : Id16) (s t : cleanup.State) (moment : ℕ) (e : PutEnd) → IsRunning (task.Cleanup id s) → MatchOption s.publish.latest ⊥ (λ read. sweeping.PutLeaves moment s read e t)
    → (e ≡ put.Refused → cleanup.IsRunning t) → answer_of e ≡ answer.Refused → IsRunning (task.Cleanup id t)
cleanup_runs id s t moment e running left goes_on is =
    let k = kept_of (λ read. sweeping.PutLeaves moment s read e t) s.publish.latest left in
    let refused : e ≡ put.Refused = was_refused e is in
    let lower = subst (λ (x : PutEnd). publishing.PutLeaves s.edit moment s.publish k.read x k.fact.0) refused k.fact.1 in
    (running.0 ∙ sym (ap (λ (q : publish.State). q.id) lower.1) ∙ sym (ap (λ (x : cleanup.State). x.publish.id) k.fact.2), goes_on refused)

-- a published one is complete
pub cleanup_completes : (id : Id16) (s t : cleanup.State) (e : PutEnd) → MatchOption s.publish.latest ⊥ (λ read. sweeping.CleansAll s read e t)
    → CompletesCleanup (task.Cleanup id s) (answer_of e) (task.Cleanup id t)
cleanup_completes id s t (put.Published n) h = h
cleanup_completes id s t put.Refused h = tt
cleanup_completes id s t (put.Contended numbers) h = tt
cleanup_completes id s t put.Unknown h = tt
cleanup_completes id s t put.NoMemory h = tt
