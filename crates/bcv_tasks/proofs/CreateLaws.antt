-- The put of a container's first manifest is a task's put.
use Rattle.std.proofs.Common.{◌≡◌, ◌≢◌, ◌∙◌, ℕ, false, List, ◌++◌, Option, Some, None, is_none, refl, sym, ap, subst}
use Rattle.bcv_base.specs.declared.id.Id16.{Id16}
use Rattle.bcv_base.specs.declared.log.Entry.{Entry}
use Rattle.bcv_base.specs.declared.manifest.Manifest.{Manifest}
use Rattle.bcv_base.specs.declared.outcome.Outcome.{Outcome}
use Rattle.bcv_base.specs.declared.outcome.Outcome.TheVariants as outcome
use Rattle.bcv_base.specs.declared.seen.Latest.{Latest}
use Rattle.bcv_base.specs.History.{history_of, last_of}
use Rattle.bcv_base.specs.Image.{Writes}
use Rattle.bcv_base.specs.ManifestRules.{Ascends, db_name}
use Rattle.bcv_dbmap.specs.Applied.{first_manifest}
use Rattle.bcv_dbmap.specs.Kept.{IsKept}
use Rattle.bcv_publish.specs.declared.created.Created.{Created}
use Rattle.bcv_publish.specs.declared.created.Created.TheVariants as created
use Rattle.bcv_publish.specs.ManifestCreate.{CreateCause, CreateFails, CreateLeaves, CreateTakes, ManifestCreateSound, SoundCreateEnds}
use Rattle.bcv_store.specs.StoreShown.{StoreTold, StoreShown}
use Rattle.bcv_base.specs.Faults.{Rose}
use Rattle.bcv_tasks.specs.declared.create_task.CreateTask.{CreateTask}
use Rattle.bcv_tasks.specs.declared.publish_task.PublishTask.TheVariants as task
use Rattle.bcv_tasks.specs.declared.put_answer.PutAnswer.{PutAnswer}
use Rattle.bcv_tasks.specs.declared.put_answer.PutAnswer.TheVariants as answer
use Rattle.bcv_tasks.specs.State.{IsCreate}
use Rattle.bcv_tasks.specs.TaskPut.{AnswersPut, Creates, FitsAfterPut, PutLeaves, PutTakes, PutsTask, Settles, TaskPuts, number_after}
use Rattle.bcv_tasks.proofs.PutLaws.{Ended, appended_is_kept}

-- what the end of a create answers
abbrev said : Created → PutAnswer
said (created.Done l) = answer.Published l.manifest.number
said created.Exists = answer.Exists
said created.Unknown = answer.Unknown
said created.NoMemory = answer.NoMemory

-- and the task afterwards
abbrev after : Created → CreateTask → CreateTask
after (created.Done l) c = record c { latest = Some l }
after created.Exists c = c
after created.Unknown c = c
after created.NoMemory c = c

record IsSettled (e : Created) (c : CreateTask) (result : PutAnswer) (d : CreateTask) : Type 0 where
  answer_is : result ≡ said e
  task_is : d ≡ after e c

settled : (e : Created) (c : CreateTask) (result : PutAnswer) (d : CreateTask) → Settles e c result d → IsSettled e c result d
settled (created.Done l) c result d h = record { answer_is = h.0; task_is = h.1 }
settled created.Exists c result d h = record { answer_is = h.0; task_is = h.1 }
settled created.Unknown c result d h = record { answer_is = h.0; task_is = h.1 }
settled created.NoMemory c result d h = record { answer_is = h.0; task_is = h.1 }

-- ---- what a put leaves

leaves : (c : CreateTask) (moment : ℕ) (e : Created) → IsCreate c → CreateLeaves (first_manifest c.block c.retention c.id c.writer moment) e
    → PutLeaves moment (task.Create c) (said e) (task.Create (after e c))
leaves c moment (created.Done l) running h = record {
  manifest = l.manifest;
  etag = l.etag;
  brings = ap Some (sym h);
  number = refl;
  next = ap (λ (m : Manifest). m.number) h ∙ ap number_after (sym running.waits);
  order = subst (λ (m : Manifest). Ascends db_name m.dbs) (sym h) tt;
  becomes = refl;
}
leaves c moment created.Exists running h = (tt, refl)
leaves c moment created.Unknown running h = refl
leaves c moment created.NoMemory running h = refl

-- ---- over a sound log

lost : (o : Outcome) (last : Option Manifest) (own : List Entry) (m : Manifest) → CreateFails o last own m → Ended answer.Unknown o own m last None
lost outcome.Ok last own m h = absurd h
lost outcome.Fail last own m h = record { published = None; appends = h; answers = tt }
lost outcome.Lost None own m h = record { published = Some m.number; appends = (refl, h); answers = refl }
lost outcome.Lost (Some l) own m h = record { published = None; appends = h; answers = tt }

there : (last : Option Manifest) → is_none last ≡ false → AnswersPut answer.Exists outcome.Ok None last None
there None is = absurd (cc)
there (Some m) is = tt

ended : (o : Outcome) (last : Option Manifest) (own : List Entry) (m : Manifest) (e : Created) → SoundCreateEnds o last own m e → Ended (said e) o own m last None
ended o last own m (created.Done l) h = record {
  published = Some l.manifest.number;
  appends = (ap (λ (x : Manifest). x.number) h.3, (l.etag, h.2));
  answers = subst (λ (x : Outcome). AnswersPut (answer.Published l.manifest.number) x (Some l.manifest.number) last None) (sym h.0) (refl, h.1);
}
ended o last own m created.Exists h = record {
  published = None;
  appends = h.2;
  answers = subst (λ (x : Outcome). AnswersPut answer.Exists x None last None) (sym h.0) (there last h.1);
}
ended o last own m created.Unknown h = lost o last own m h
ended o last own m created.NoMemory h = record { published = None; appends = h; answers = tt }

fits : (o : Outcome) (last : Option Manifest) (before own log : List Entry) (m : Manifest) (e : Created) (mine : List Id16) (view : List Writes) (c : CreateTask) → log ≡ before ++ own
    → SoundCreateEnds o last own m e → FitsAfterPut (said e) mine log view (task.Create (after e c))
fits o last before own log m (created.Done l) mine view c grown h =
    subst (λ (x : Manifest). IsKept log (record { manifest = x; etag = l.etag })) (sym h.3) (appended_is_kept before own log m l.etag grown h.2)
fits o last before own log m created.Exists mine view c grown h = tt
fits o last before own log m created.Unknown mine view c grown h = tt
fits o last before own log m created.NoMemory mine view c grown h = tt

create_sound : (store : StoreTold) (mine : List Id16) (old new : StoreShown) (view : List Writes) (c : CreateTask) (moment : ℕ) (e : Created) → IsCreate c
    → ManifestCreateSound store mine old new (first_manifest c.block c.retention c.id c.writer moment) e → TaskPuts store mine old new view (task.Create c) moment (said e) (task.Create (after e c))
create_sound store mine old new view c moment e running h =
    let m : Manifest = first_manifest c.block c.retention c.id c.writer moment in
    let end = ended h.outcome (last_of (history_of (old.log ++ h.growth.others))) h.growth.own m e h.ends in
    record {
      growth = h.growth;
      outcome = h.outcome;
      next = h.next;
      manifest = m;
      brings = refl;
      published = end.published;
      appends = end.appends;
      answers =
          subst (λ (o : Option Latest). AnswersPut (said e) h.outcome end.published (last_of (history_of (old.log ++ h.growth.others))) o) (sym running.waits) end.answers;
      fits = fits h.outcome (last_of (history_of (old.log ++ h.growth.others))) (old.log ++ h.growth.others) h.growth.own new.log m e mine view c h.growth.grown h.ends;
    }

-- ---- the whole

takes : (store : StoreTold) (old new : StoreShown) (e : Created) → CreateTakes store old new e → PutTakes store old new (said e)
takes store old new (created.Done l) h = h
takes store old new created.Exists h = h
takes store old new created.Unknown h = h
takes store old new created.NoMemory h = h

cause : (before now : ℕ) (e : Created) → CreateCause before now e → said e ≡ answer.Unknown → Rose before now
cause before now (created.Done l) h is = absurd (cc)
cause before now created.Exists h is = absurd (cc)
cause before now created.Unknown h is = h
cause before now created.NoMemory h is = absurd (cc)

tried : (e : Created) → said e ≢ answer.Refused
tried (created.Done l) = λ is. absurd (cc)
tried created.Exists = λ is. absurd (cc)
tried created.Unknown = λ is. absurd (cc)
tried created.NoMemory = λ is. absurd (cc)

pub create_tried : (store : StoreTold) (old new : StoreShown) (c d : CreateTask) (moment : ℕ) (result : PutAnswer) → Creates store old new c moment result d → result ≢ answer.Refused
create_tried store old new c d moment result h =
    let is = settled h.end c result d h.settles in
    λ refused. tried h.end (sym is.answer_is ∙ refused)

pub create_puts : (store : StoreTold) (old new : StoreShown) (c d : CreateTask) (moment : ℕ) (result : PutAnswer) → IsCreate c → Creates store old new c moment result d
    → PutsTask store old new (task.Create c) moment result (task.Create d)
create_puts store old new c d moment result running h =
    let is = settled h.end c result d h.settles in
    subst (λ (r : PutAnswer). PutsTask store old new (task.Create c) moment r (task.Create d)) (sym is.answer_is)
    (subst (λ (x : CreateTask). PutsTask store old new (task.Create c) moment (said h.end) (task.Create x)) (sym is.task_is)
    (record {
      leaves = leaves c moment h.end running h.leaves;
      sound = λ tells mine grew honest view may. create_sound store mine old new view c moment h.end running
          (h.puts.sound tells mine grew honest (record { writer_mine = may.writer; id_mine = may.id; fresh = may.fresh }));
      taken = takes store old new h.end h.puts.taken;
      later = h.puts.later;
      failed = λ is. cause old.faults new.faults h.end h.puts.failed is;
    }))
