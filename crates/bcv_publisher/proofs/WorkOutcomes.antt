-- Which outcome a request before a put had, by its answer; and what it leaves of what was read before refused puts.
use Rattle.std.proofs.Common.{◌≡◌, ◌≢◌, ◌∙◌, ℕ, Bool, true, false, List, Option, Some, None, sym, ap, subst}
use Rattle.bcv_base.specs.declared.id.Id16.{Id16}
use Rattle.bcv_base.specs.declared.log.Entry.{Entry}
use Rattle.bcv_base.specs.declared.outcome.Outcome.{Outcome}
use Rattle.bcv_base.specs.declared.outcome.Outcome.TheVariants as outcome
use Rattle.bcv_base.specs.declared.seen.Latest.{Latest}
use Rattle.bcv_base.specs.declared.seen.Seen.{Seen}
use Rattle.bcv_base.specs.History.{Item, first_put, history_of}
use Rattle.bcv_base.specs.Image.{Writes}
use Rattle.bcv_cache.specs.Entry.{Blocks}
use Rattle.bcv_cleanup.specs.CleanupWork as cleaning
use Rattle.bcv_cleanup.specs.Released.{RuleAnswers}
use Rattle.bcv_cleanup.specs.State as cleanup
use Rattle.bcv_dbcopy.specs.State as copy
use Rattle.bcv_dbcopy.specs.TaskWork as copying
use Rattle.bcv_dbmap.specs.declared.plan.EditPlan.{EditPlan}
use Rattle.bcv_model.specs.declared.kept.Uploading.{Uploading}
use Rattle.bcv_publish.specs.declared.work.BlockEnd.{BlockEnd}
use Rattle.bcv_publish.specs.declared.work.BlockEnd.TheVariants as block
use Rattle.bcv_publish.specs.declared.work.Work.{Work}
use Rattle.bcv_publish.specs.declared.work.Work.TheVariants as work
use Rattle.bcv_publish.specs.BlockPut.{BlockFails, SoundBlockEnds, block_work}
use Rattle.bcv_publish.specs.ManifestGet.{SoundGetEnds}
use Rattle.bcv_publish.specs.State as publish
use Rattle.bcv_tasks.specs.declared.publish_task.PublishTask.{PublishTask}
use Rattle.bcv_tasks.specs.declared.publish_task.PublishTask.TheVariants as task
use Rattle.bcv_tasks.specs.State.{uploading_of}
use Rattle.bcv_tasks.specs.TaskWork.{AnswersWork, WorkLeaves}
use Rattle.bcv_upload.specs.State as upload
use Rattle.bcv_upload.specs.UploadWork as uploading
use Rattle.bcv_publisher.specs.WorkStep.{KeepsIntent, seen_before}

get_had : (o : Outcome) (log : List Entry) (seen : Seen) (plan : EditPlan) (p : publish.State) (r : Work) (q : publish.State) → SoundGetEnds o log seen plan p r q → AnswersWork r o
get_had o log seen plan p work.More q h = h.1
get_had o log seen plan p work.Nothing q h = h.1
get_had o log seen plan p (work.Fault f) q h = h.1
get_had o log seen plan p work.NoContainer q h = h.0
get_had o log seen plan p (work.BadManifest at) q h = h.1
get_had o log seen plan p work.Gone q h = h.1
get_had o log seen plan p (work.BadBlock len) q h = h.1
get_had o log seen plan p work.NameTaken q h = h.1
get_had o log seen plan p work.StoreFault q h = h.0
get_had o log seen plan p work.NamesFault q h = tt
get_had o log seen plan p work.ClockFault q h = tt
get_had o log seen plan p work.NoMemory q h = tt

failed_had : (o : Outcome) (first : Option (List ℕ)) (own : List Entry) (i : Id16) (bytes : List ℕ) → BlockFails o first own i bytes → o ≢ outcome.Ok
failed_had outcome.Ok first own i bytes h = absurd h
failed_had outcome.Fail first own i bytes h = λ e. cc
failed_had outcome.Lost first own i bytes h = λ e. cc

put_had : (o : Outcome) (past : List Item) (own : List Entry) (ids : List Id16) (bytes : List ℕ) (e : BlockEnd) → SoundBlockEnds o past own ids bytes e → AnswersWork (block_work e) o
put_had o past own ids bytes block.Stored h = h.2
put_had o past own ids bytes block.NameTaken h = h.2
put_had o past own ids bytes block.StoreFault h = failed_had o (first_put past h.0) own h.0 bytes h.2
put_had o past own ids bytes block.NamesFault h = tt
put_had o past own ids bytes block.NoMemory h = tt

copied_had : (o : Outcome) (past : List Item) (own : List Entry) (ids : List Id16) (bytes : List ℕ) (r : Work) → copying.SoundBlockWork o past own ids bytes r → AnswersWork r o
copied_had o past own ids bytes work.More h = put_had o past own ids bytes block.Stored h
copied_had o past own ids bytes work.NameTaken h = put_had o past own ids bytes block.NameTaken h
copied_had o past own ids bytes work.StoreFault h = put_had o past own ids bytes block.StoreFault h
copied_had o past own ids bytes work.NamesFault h = tt
copied_had o past own ids bytes work.NoMemory h = tt
copied_had o past own ids bytes _ h = absurd h

pub copy_had : (o : Outcome) (before after own : List Entry) (ids : List Id16) (l : Option Latest) (seen : Seen) (s : copy.State) (r : Work) (t : copy.State)
    → copying.SoundWorkEnds o before after own ids l seen s r t → AnswersWork r o
copy_had o before after own ids None seen s r t h = get_had o after seen s.edit s.publish r t.publish h.1
copy_had o before after own ids (Some l) seen s r t h = copied_had o (history_of before) own ids (copying.next_text l.manifest.block s s.edit) r h

fetch_had : (o : Outcome) (past : List Item) (s : upload.State) (r : Work) (kept : Option (List ℕ)) → uploading.SoundFetchEnds o past s.base (upload.old_id s) r kept → AnswersWork r o
fetch_had o past s work.More kept h = h.1
fetch_had o past s work.Gone kept h = h.0
fetch_had o past s work.StoreFault kept h = h
fetch_had o past s work.NoMemory kept h = tt
fetch_had o past s _ kept h = absurd h

pub upload_had : (o : Outcome) (before after own : List Entry) (ids : List Id16) (l : Option Latest) (fetch : Bool) (seen : Seen) (text : List ℕ) (s : upload.State) (r : Work) (t : upload.State)
    → uploading.SoundWorkEnds o before after own ids l fetch seen text s r t → AnswersWork r o
upload_had o before after own ids None fetch seen text s r t h = get_had o after seen (upload.asked_plan s) s.publish r t.publish h.1
upload_had o before after own ids (Some l) true seen text s r t h = fetch_had o (history_of after) s r t.fetched h.1
upload_had o before after own ids (Some l) false seen text s r t h = subst (λ (x : Work). AnswersWork x o) (sym h.1) (put_had o (history_of before) own ids text h.0 h.2)

read_had : (o : Outcome) (log : List Entry) (seen : Seen) (s : cleanup.State) (r : Work) (t : cleanup.State) → cleaning.SoundReadEnds o log seen s r t → AnswersWork r o
read_had o log seen s work.ClockFault t h = tt
read_had o log seen s work.Nothing t h = h.1
read_had o log seen s work.More t h = h.1
read_had o log seen s (work.Fault f) t h = h.1
read_had o log seen s work.NoContainer t h = h.0
read_had o log seen s (work.BadManifest at) t h = h.1
read_had o log seen s work.Gone t h = h.1
read_had o log seen s (work.BadBlock len) t h = h.1
read_had o log seen s work.NameTaken t h = h.1
read_had o log seen s work.StoreFault t h = h.0
read_had o log seen s work.NamesFault t h = tt
read_had o log seen s work.NoMemory t h = tt

unmade_had : (o : Outcome) (own : List Entry) (i : Id16) (at : ℕ) → cleaning.DeletionFails o own i at → o ≢ outcome.Ok
unmade_had outcome.Ok own i at h = absurd h
unmade_had outcome.Fail own i at h = λ e. cc
unmade_had outcome.Lost own i at h = λ e. cc

deleted_had : (o : Outcome) (own : List Entry) (i : Id16) (at : ℕ) (r : Work) → cleaning.SoundDeleteEnds o own i at r → AnswersWork r o
deleted_had o own i at work.More h = h.0
deleted_had o own i at work.StoreFault h = unmade_had o own i at h
deleted_had o own i at work.NoMemory h = tt
deleted_had o own i at _ h = absurd h

pub clean_had : (o : Outcome) (after own : List Entry) (l : Option Latest) (seen : Seen) (s : cleanup.State) (r : Work) (t : cleanup.State)
    → cleaning.SoundWorkEnds o after own l seen s r t → AnswersWork r o
clean_had o after own None seen s r t h = read_had o after seen s r t h.1
clean_had o after own (Some l) seen s r t h = deleted_had o own h.0 h.1 r h.3

-- ---- what was read before refused puts

pub copy_read : (l : Option Latest) (seen : Seen) (s t : copy.State) → copying.WorkLeaves l seen s work.More t → seen_before t.publish ≡ seen_before s.publish
copy_read None seen s t h = ap (λ (y : copy.State). seen_before y.publish) h.2 ∙ ap seen_before h.1.5
copy_read (Some l) seen s t h = ap (λ (y : copy.State). seen_before y.publish) h.1

pub upload_read : (l : Option Latest) (fetch : Bool) (seen : Seen) (s t : upload.State) → uploading.WorkLeaves l fetch seen s work.More t → seen_before t.publish ≡ seen_before s.publish
upload_read None fetch seen s t h = ap (λ (y : upload.State). seen_before y.publish) h.2 ∙ ap seen_before h.1.5
upload_read (Some l) true seen s t h = ap (λ (y : upload.State). seen_before y.publish) h.3
upload_read (Some l) false seen s t h = ap (λ (y : upload.State). seen_before y.publish) h.1

pub clean_read : (answers : RuleAnswers) (l : Option Latest) (seen : Seen) (s t : cleanup.State) → cleaning.WorkLeaves answers l seen s work.More t → seen_before t.publish ≡ seen_before s.publish
clean_read answers None seen s t h = ap (λ (y : cleanup.State). seen_before y.publish) h.4.3.becomes ∙ ap seen_before h.3.5
clean_read answers (Some l) seen s t h = ap (λ (y : cleanup.State). seen_before y.publish) h

-- ---- a get of the manifest leaves the intent as it was

upload_intends : (l : Option Latest) (fetch : Bool) (seen : Seen) (s v : upload.State) → l ≡ None → uploading.WorkLeaves l fetch seen s work.More v → (taken : ℕ) → uploading_of taken v ≡ uploading_of taken s
upload_intends None fetch seen s v none h taken =
    ap (uploading_of taken) h.2 ∙ ap (λ (p : publish.State). uploading_of taken (uploading.with_publish s p)) h.1.5
upload_intends (Some l) fetch seen s v none h taken = absurd (cc (none))

pub keeps_intent : (answers : RuleAnswers) (seen : Seen) (view : List Writes) (c : Blocks) (t u : PublishTask) → WorkLeaves answers seen view c t work.More u → KeepsIntent t u
keeps_intent answers seen view c (task.Copy id s) (task.Copy i v) h none taken = ap (λ (j : Id16). record { id = j; upload = None }) h.same_id
keeps_intent answers seen view c (task.Upload id s) (task.Upload i v) h none taken =
    ap (λ (j : Id16). record { id = j; upload = Some (uploading_of taken v) }) h.same_id
    ∙ ap (λ (y : Uploading). record { id = id; upload = Some y }) (upload_intends s.publish.latest (uploading.is_fetch view c s) seen s v none h.kind taken)
keeps_intent answers seen view c (task.Cleanup id s) (task.Cleanup i v) h none taken = ap (λ (j : Id16). record { id = j; upload = None }) h.same_id
keeps_intent answers seen view c (task.Create x) u h none taken = absurd h.kind
keeps_intent answers seen view c (task.Copy id s) _ h none taken = absurd h.kind
keeps_intent answers seen view c (task.Upload id s) _ h none taken = absurd h.kind
keeps_intent answers seen view c (task.Cleanup id s) _ h none taken = absurd h.kind
