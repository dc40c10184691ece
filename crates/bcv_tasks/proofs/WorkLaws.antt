-- A step of each kind of task is a task's step.
use Rattle.std.proofs.Common.{◌≡◌, ◌≢◌, ◌∙◌, ◌⊎◌, inl, inr, ℕ, ◌≤◌, Bool, true, false, List, [], ◌∷◌, ◌++◌, length, Option, Some, None, refl, sym, ap, subst, arith, append-nil}
use Rattle.bcv_base.specs.declared.id.Id16.{Id16}
use Rattle.bcv_base.specs.declared.log.Entry.{Entry}
use Rattle.bcv_base.specs.declared.outcome.Outcome.{Outcome}
use Rattle.bcv_base.specs.declared.outcome.Outcome.TheVariants as outcome
use Rattle.bcv_base.specs.declared.seen.Latest.{Latest}
use Rattle.bcv_base.specs.declared.seen.Seen.{Seen}
use Rattle.bcv_base.specs.Drawn.{NamesShown, AddsNames}
use Rattle.bcv_base.specs.History.{Item, history_of}
use Rattle.bcv_base.specs.Image.{Writes}
use Rattle.bcv_base.specs.Moments.{ClockShown}
use Rattle.bcv_cache.specs.Entry.{Blocks}
use Rattle.bcv_cleanup.specs.CleanupWork as cleaning
use Rattle.bcv_cleanup.specs.Released.{RuleAnswers}
use Rattle.bcv_cleanup.specs.State as cleanup
use Rattle.bcv_dbcopy.specs.State as copy
use Rattle.bcv_dbcopy.specs.TaskWork as copying
use Rattle.bcv_dbmap.specs.declared.plan.EditPlan.{EditPlan}
use Rattle.bcv_dbmap.specs.declared.plan.EditPlan.TheVariants as edit
use Rattle.bcv_publish.specs.declared.work.BlockEnd.{BlockEnd}
use Rattle.bcv_publish.specs.declared.work.BlockEnd.TheVariants as block
use Rattle.bcv_publish.specs.declared.work.Work.{Work}
use Rattle.bcv_publish.specs.declared.work.Work.TheVariants as work
use Rattle.bcv_publish.specs.BlockPut.{BlockFails, SoundBlockEnds, block_work}
use Rattle.bcv_publish.specs.ManifestGet.{GetLeaves, SoundGetEnds}
use Rattle.bcv_publish.specs.State as publish
use Rattle.bcv_store.specs.StoreShown.{StoreTold, StoreShown}
use Rattle.bcv_tasks.specs.declared.publish_task.PublishTask.TheVariants as task
use Rattle.bcv_tasks.specs.TaskWork.{AnswersWork, ClockCause, HasNames, NamesCause, TaskWorks, WorkLeaves, WorkTakes}
use Rattle.bcv_upload.specs.State as upload
use Rattle.bcv_upload.specs.UploadWork as uploading
use Rattle.bcv_upload.specs.UploadWork.{is_fetch, next_text}

-- ---- what a publication keeps through a step

record IsSame (p q : publish.State) : Type 0 where
  id : q.id ≡ p.id
  writer : q.writer ≡ p.writer
  refused : q.refused ≡ p.refused

same_self : (p q : publish.State) → q ≡ p → IsSame p q
same_self p q is = record { id = ap (λ (x : publish.State). x.id) is; writer = ap (λ (x : publish.State). x.writer) is; refused = ap (λ (x : publish.State). x.refused) is }

get_same : (seen : Seen) (plan : EditPlan) (p : publish.State) (r : Work) (q : publish.State) → GetLeaves seen plan p r q → IsSame p q
get_same seen plan p work.More q h =
    record { id = ap (λ (x : publish.State). x.id) h.5; writer = ap (λ (x : publish.State). x.writer) h.5; refused = ap (λ (x : publish.State). x.refused) h.5 }
get_same seen plan p (work.Fault f) q h = same_self p q h
get_same seen plan p work.NoContainer q h = same_self p q h
get_same seen plan p (work.BadManifest at) q h = same_self p q h
get_same seen plan p work.StoreFault q h = same_self p q h
get_same seen plan p work.NoMemory q h = same_self p q h
get_same seen plan p _ q h = absurd h

-- ---- what a step does not answer

abbrev IsNoClockFault : Work → Type 0
IsNoClockFault work.ClockFault = ⊥
IsNoClockFault _ = Unit {0}

abbrev IsNoNamesFault : Work → Type 0
IsNoNamesFault work.NamesFault = ⊥
IsNoNamesFault _ = Unit {0}

no_clock : (n : ℕ) (r : Work) → IsNoClockFault r → ClockCause n n r
no_clock n work.ClockFault h = absurd h
no_clock n _ h = refl

no_names : (n : ℕ) (r : Work) → IsNoNamesFault r → NamesCause n n r
no_names n work.NamesFault h = absurd h
no_names n _ h = refl

get_no_clock : (seen : Seen) (plan : EditPlan) (p : publish.State) (r : Work) (q : publish.State) → GetLeaves seen plan p r q → IsNoClockFault r
get_no_clock seen plan p work.ClockFault q h = h
get_no_clock seen plan p _ q h = tt

get_no_names : (seen : Seen) (plan : EditPlan) (p : publish.State) (r : Work) (q : publish.State) → GetLeaves seen plan p r q → IsNoNamesFault r
get_no_names seen plan p work.NamesFault q h = h
get_no_names seen plan p _ q h = tt

-- ---- outcomes

get_answers : (o : Outcome) (log : List Entry) (seen : Seen) (plan : EditPlan) (p : publish.State) (r : Work) (q : publish.State) → SoundGetEnds o log seen plan p r q → AnswersWork r o
get_answers o log seen plan p work.More q h = h.1
get_answers o log seen plan p work.Nothing q h = h.1
get_answers o log seen plan p (work.Fault f) q h = h.1
get_answers o log seen plan p work.NoContainer q h = h.0
get_answers o log seen plan p (work.BadManifest at) q h = h.1
get_answers o log seen plan p work.Gone q h = h.1
get_answers o log seen plan p (work.BadBlock len) q h = h.1
get_answers o log seen plan p work.NameTaken q h = h.1
get_answers o log seen plan p work.StoreFault q h = h.0
get_answers o log seen plan p work.NamesFault q h = tt
get_answers o log seen plan p work.ClockFault q h = tt
get_answers o log seen plan p work.NoMemory q h = tt

block_fails : (o : Outcome) (first : Option (List ℕ)) (own : List Entry) (i : Id16) (bytes : List ℕ) → BlockFails o first own i bytes → o ≢ outcome.Ok
block_fails outcome.Ok first own i bytes h = absurd h
block_fails outcome.Fail first own i bytes h = λ is. absurd (cc)
block_fails outcome.Lost first own i bytes h = λ is. absurd (cc)

block_answers : (o : Outcome) (past : List Item) (own : List Entry) (ids : List Id16) (bytes : List ℕ) (e : BlockEnd) → SoundBlockEnds o past own ids bytes e → AnswersWork (block_work e) o
block_answers o past own ids bytes block.Stored h = h.2
block_answers o past own ids bytes block.NameTaken h = h.2
block_answers o past own ids bytes block.StoreFault h = block_fails o _ own h.0 bytes h.2
block_answers o past own ids bytes block.NamesFault h = tt
block_answers o past own ids bytes block.NoMemory h = tt

-- ---- new databases, copies and removals

copy_same : (o : Option Latest) (seen : Seen) (s : copy.State) (r : Work) (t : copy.State) → copying.WorkLeaves o seen s r t → IsSame s.publish t.publish
copy_same None seen s r t h = subst (λ (x : copy.State). IsSame s.publish x.publish) (sym h.2) (get_same seen s.edit s.publish r h.0 h.1)
copy_same (Some l) seen s work.More t h = same_self s.publish t.publish (ap (λ (x : copy.State). x.publish) h.1)
copy_same (Some l) seen s work.NameTaken t h = same_self s.publish t.publish (ap (λ (x : copy.State). x.publish) h)
copy_same (Some l) seen s work.StoreFault t h = same_self s.publish t.publish (ap (λ (x : copy.State). x.publish) h)
copy_same (Some l) seen s work.NamesFault t h = same_self s.publish t.publish (ap (λ (x : copy.State). x.publish) h)
copy_same (Some l) seen s work.NoMemory t h = same_self s.publish t.publish (ap (λ (x : copy.State). x.publish) h)
copy_same (Some l) seen s _ t h = absurd h

pub copy_leaves : (answers : RuleAnswers) (seen : Seen) (view : List Writes) (c : Blocks) (id : Id16) (s t : copy.State) (r : Work) → copying.WorkLeaves s.publish.latest seen s r t
    → WorkLeaves answers seen view c (task.Copy id s) r (task.Copy id t)
copy_leaves answers seen view c id s t r h =
    let same = copy_same s.publish.latest seen s r t h in
    record { same_id = refl; same_writer = same.writer; same_refused = same.refused; kind = h }

pub copy_id : (seen : Seen) (id : Id16) (s t : copy.State) (r : Work) → id ≡ s.publish.id → copying.WorkLeaves s.publish.latest seen s r t → id ≡ t.publish.id
copy_id seen id s t r is h = is ∙ sym (copy_same s.publish.latest seen s r t h).id

copy_no_clock : (o : Option Latest) (seen : Seen) (s : copy.State) (r : Work) (t : copy.State) → copying.WorkLeaves o seen s r t → IsNoClockFault r
copy_no_clock None seen s r t h = get_no_clock seen s.edit s.publish r h.0 h.1
copy_no_clock (Some l) seen s work.ClockFault t h = h
copy_no_clock (Some l) seen s _ t h = tt

-- the names of a task once a block has a name
with_id_names : (id i : Id16) (e : EditPlan) (ids : List Id16) → ids ≡ i ∷ []
    → (id ∷ copy.put_ids (copy.with_id e i) ≡ id ∷ copy.put_ids e) ⊎ (id ∷ copy.put_ids (copy.with_id e i) ≡ (id ∷ copy.put_ids e) ++ ids)
with_id_names id i (edit.New e) ids is = inr (ap (λ (is : List Id16). (id ∷ e.blocks) ++ is) (sym is))
with_id_names id i (edit.Upload from e) ids is = inl refl
with_id_names id i (edit.Copy from to) ids is = inl refl
with_id_names id i (edit.Remove name) ids is = inl refl
with_id_names id i (edit.Sweep swept) ids is = inl refl

copy_names : (o : Option Latest) (seen : Seen) (id : Id16) (s : copy.State) (r : Work) (t : copy.State) (ids : List Id16) → copying.WorkLeaves o seen s r t → copying.DrawsFor o s r t ids
    → HasNames (task.Copy id s) (task.Copy id t) ids
copy_names None seen id s r t ids h d = inl (ap (λ (x : copy.State). id ∷ copy.put_ids x.edit) h.2)
copy_names (Some l) seen id s work.More t ids h d =
    subst (λ (x : copy.State). HasNames (task.Copy id s) (task.Copy id x) ids) (sym d.2) (with_id_names id d.0 s.edit ids d.1)
copy_names (Some l) seen id s work.NameTaken t ids h d = inl (ap (λ (x : copy.State). id ∷ copy.put_ids x.edit) h)
copy_names (Some l) seen id s work.StoreFault t ids h d = inl (ap (λ (x : copy.State). id ∷ copy.put_ids x.edit) h)
copy_names (Some l) seen id s work.NamesFault t ids h d = inl (ap (λ (x : copy.State). id ∷ copy.put_ids x.edit) h)
copy_names (Some l) seen id s work.NoMemory t ids h d = inl (ap (λ (x : copy.State). id ∷ copy.put_ids x.edit) h)
copy_names (Some l) seen id s _ t ids h d = absurd h

one : (ids : List Id16) → length ids ≡ 1 → length ids ≤ 1
one ids is = omega (arith, is)

none : (ids : List Id16) → ids ≡ [] → length ids ≤ 1
none ids is = let long : length ids ≡ 0 = ap length is in omega (arith, long)

copy_few : (o : Option Latest) (s : copy.State) (r : Work) (t : copy.State) (ids : List Id16) → copying.DrawsFor o s r t ids → length ids ≤ 1
copy_few None s r t ids d = none ids d
copy_few (Some l) s work.More t ids d = one ids (ap length d.1)
copy_few (Some l) s work.NamesFault t ids d = none ids d
copy_few (Some l) s work.NoMemory t ids d = d
copy_few (Some l) s _ t ids d = one ids d

copy_takes : (store : StoreTold) (old new : StoreShown) (r : Work) → IsNoClockFault r → copying.WorkTakes store old new r → WorkTakes store old new r
copy_takes store old new work.NamesFault no_fault h = h
copy_takes store old new work.NoMemory no_fault h = h
copy_takes store old new work.ClockFault no_fault h = absurd no_fault
copy_takes store old new _ no_fault h = h

copy_cause : (before now : ℕ) (r : Work) → copying.WorkNamesCause before now r → NamesCause before now r
copy_cause before now work.NamesFault h = h
copy_cause before now _ h = h

copy_block_answers : (o : Outcome) (past : List Item) (own : List Entry) (ids : List Id16) (bytes : List ℕ) (r : Work) → copying.SoundBlockWork o past own ids bytes r → AnswersWork r o
copy_block_answers o past own ids bytes work.More h = block_answers o past own ids bytes block.Stored h
copy_block_answers o past own ids bytes work.NameTaken h = block_answers o past own ids bytes block.NameTaken h
copy_block_answers o past own ids bytes work.StoreFault h = block_answers o past own ids bytes block.StoreFault h
copy_block_answers o past own ids bytes work.NamesFault h = tt
copy_block_answers o past own ids bytes work.NoMemory h = tt
copy_block_answers o past own ids bytes _ h = absurd h

copy_answers : (o : Outcome) (before after own : List Entry) (ids : List Id16) (read : Option Latest) (seen : Seen) (s : copy.State) (r : Work) (t : copy.State)
    → copying.SoundWorkEnds o before after own ids read seen s r t → AnswersWork r o
copy_answers o before after own ids None seen s r t h = get_answers o after seen s.edit s.publish r t.publish h.1
copy_answers o before after own ids (Some l) seen s r t h = copy_block_answers o (history_of before) own ids (copying.next_text l.manifest.block s s.edit) r h

pub copy_works : (store : StoreTold) (old new : StoreShown) (names later : NamesShown) (clock : ClockShown) (seen : Seen) (view : List Writes) (c : Blocks) (id : Id16) (s t : copy.State) (r : Work)
    → copying.WorkLeaves s.publish.latest seen s r t → copying.TaskWorks store old new names later seen s r t
    → TaskWorks store old new names later clock clock view c (task.Copy id s) r (task.Copy id t)
copy_works store old new names later clock seen view c id s t r left h = record {
  ids = h.ids;
  drawn = h.drawn;
  few = copy_few s.publish.latest s r t h.ids h.draws;
  has = copy_names s.publish.latest seen id s r t h.ids left h.draws;
  sound = λ tells mine sound honest owns true_to fresh.
      let w = h.sound tells mine sound honest owns fresh in
      record {
        growth = w.growth;
        outcome = w.outcome;
        next = w.next;
        answers = copy_answers w.outcome old.log new.log w.growth.own h.ids s.publish.latest seen s r t w.ends;
        owns = w.blocks;
      };
  taken = copy_takes store old new r (copy_no_clock s.publish.latest seen s r t left) h.taken;
  later = h.later;
  failed = h.failed;
  names_failed = copy_cause names.faults later.faults r h.names_failed;
  clock_failed = no_clock clock.faults r (copy_no_clock s.publish.latest seen s r t left);
}

-- ---- uploads

fetch_same : (s : upload.State) (r : Work) (t : upload.State) → uploading.FetchLeaves s r t → t.publish ≡ s.publish
fetch_same s work.More t h = ap (λ (x : upload.State). x.publish) h.3
fetch_same s work.Gone t h = ap (λ (x : upload.State). x.publish) h
fetch_same s (work.BadBlock len) t h = ap (λ (x : upload.State). x.publish) h.1
fetch_same s work.StoreFault t h = ap (λ (x : upload.State). x.publish) h
fetch_same s work.NoMemory t h = ap (λ (x : upload.State). x.publish) h
fetch_same s _ t h = absurd h

block_same : (s : upload.State) (r : Work) (t : upload.State) → uploading.BlockLeaves s r t → t.publish ≡ s.publish
block_same s work.More t h = ap (λ (x : upload.State). x.publish) h.1
block_same s work.NameTaken t h = ap (λ (x : upload.State). x.publish) h
block_same s work.StoreFault t h = ap (λ (x : upload.State). x.publish) h
block_same s work.NamesFault t h = ap (λ (x : upload.State). x.publish) h
block_same s work.NoMemory t h = ap (λ (x : upload.State). x.publish) h
block_same s _ t h = absurd h

upload_same : (o : Option Latest) (fetch : Bool) (seen : Seen) (s : upload.State) (r : Work) (t : upload.State) → uploading.WorkLeaves o fetch seen s r t → IsSame s.publish t.publish
upload_same None fetch seen s r t h = subst (λ (x : upload.State). IsSame s.publish x.publish) (sym h.2) (get_same seen (upload.asked_plan s) s.publish r h.0 h.1)
upload_same (Some l) true seen s r t h = same_self s.publish t.publish (fetch_same s r t h)
upload_same (Some l) false seen s r t h = same_self s.publish t.publish (block_same s r t h)

pub upload_leaves : (answers : RuleAnswers) (seen : Seen) (view : List Writes) (c : Blocks) (id : Id16) (s t : upload.State) (r : Work)
    → uploading.WorkLeaves s.publish.latest (is_fetch view c s) seen s r t → WorkLeaves answers seen view c (task.Upload id s) r (task.Upload id t)
upload_leaves answers seen view c id s t r h =
    let same = upload_same s.publish.latest (is_fetch view c s) seen s r t h in
    record { same_id = refl; same_writer = same.writer; same_refused = same.refused; kind = h }

pub upload_id : (seen : Seen) (fetch : Bool) (id : Id16) (s t : upload.State) (r : Work) → id ≡ s.publish.id → uploading.WorkLeaves s.publish.latest fetch seen s r t → id ≡ t.publish.id
upload_id seen fetch id s t r is h = is ∙ sym (upload_same s.publish.latest fetch seen s r t h).id

upload_no_clock : (o : Option Latest) (fetch : Bool) (seen : Seen) (s : upload.State) (r : Work) (t : upload.State) → uploading.WorkLeaves o fetch seen s r t → IsNoClockFault r
upload_no_clock None fetch seen s r t h = get_no_clock seen (upload.asked_plan s) s.publish r h.0 h.1
upload_no_clock (Some l) true seen s work.ClockFault t h = h
upload_no_clock (Some l) true seen s _ t h = tt
upload_no_clock (Some l) false seen s work.ClockFault t h = h
upload_no_clock (Some l) false seen s _ t h = tt

fetch_ids : (s : upload.State) (r : Work) (t : upload.State) → uploading.FetchLeaves s r t → t.ids ≡ s.ids
fetch_ids s work.More t h = ap (λ (x : upload.State). x.ids) h.3
fetch_ids s work.Gone t h = ap (λ (x : upload.State). x.ids) h
fetch_ids s (work.BadBlock len) t h = ap (λ (x : upload.State). x.ids) h.1
fetch_ids s work.StoreFault t h = ap (λ (x : upload.State). x.ids) h
fetch_ids s work.NoMemory t h = ap (λ (x : upload.State). x.ids) h
fetch_ids s _ t h = absurd h

block_names : (id : Id16) (s : upload.State) (r : Work) (t : upload.State) (ids : List Id16) → uploading.BlockLeaves s r t → uploading.BlockDraws s r t ids → HasNames (task.Upload id s) (task.Upload id t) ids
block_names id s work.More t ids h d = inr (ap (λ (x : upload.State). id ∷ x.ids) d.2 ∙ ap (λ (is : List Id16). (id ∷ s.ids) ++ is) (sym d.1))
block_names id s work.NameTaken t ids h d = inl (ap (λ (x : upload.State). id ∷ x.ids) h)
block_names id s work.StoreFault t ids h d = inl (ap (λ (x : upload.State). id ∷ x.ids) h)
block_names id s work.NamesFault t ids h d = inl (ap (λ (x : upload.State). id ∷ x.ids) h)
block_names id s work.NoMemory t ids h d = inl (ap (λ (x : upload.State). id ∷ x.ids) h)
block_names id s _ t ids h d = absurd h

upload_names : (o : Option Latest) (fetch : Bool) (seen : Seen) (id : Id16) (s : upload.State) (r : Work) (t : upload.State) (ids : List Id16) → uploading.WorkLeaves o fetch seen s r t
    → uploading.DrawsFor o fetch s r t ids → HasNames (task.Upload id s) (task.Upload id t) ids
upload_names None fetch seen id s r t ids h d = inl (ap (λ (x : upload.State). id ∷ x.ids) h.2)
upload_names (Some l) true seen id s r t ids h d = inl (ap (λ (is : List Id16). id ∷ is) (fetch_ids s r t h))
upload_names (Some l) false seen id s r t ids h d = block_names id s r t ids h d

block_few : (s : upload.State) (r : Work) (t : upload.State) (ids : List Id16) → uploading.BlockDraws s r t ids → length ids ≤ 1
block_few s work.More t ids d = one ids (ap length d.1)
block_few s work.NamesFault t ids d = none ids d
block_few s work.NoMemory t ids d = d
block_few s _ t ids d = one ids d

upload_few : (o : Option Latest) (fetch : Bool) (s : upload.State) (r : Work) (t : upload.State) (ids : List Id16) → uploading.DrawsFor o fetch s r t ids → length ids ≤ 1
upload_few None fetch s r t ids d = none ids d
upload_few (Some l) true s r t ids d = none ids d
upload_few (Some l) false s r t ids d = block_few s r t ids d

upload_takes : (store : StoreTold) (old new : StoreShown) (r : Work) → IsNoClockFault r → uploading.WorkTakes store old new r → WorkTakes store old new r
upload_takes store old new work.NamesFault no_fault h = h
upload_takes store old new work.NoMemory no_fault h = h
upload_takes store old new work.ClockFault no_fault h = absurd no_fault
upload_takes store old new _ no_fault h = h

upload_cause : (before now : ℕ) (r : Work) → uploading.WorkNamesCause before now r → NamesCause before now r
upload_cause before now work.NamesFault h = h
upload_cause before now _ h = h

fetch_answers : (o : Outcome) (past : List Item) (s : upload.State) (r : Work) (kept : Option (List ℕ)) → uploading.SoundFetchEnds o past s.base (upload.old_id s) r kept → AnswersWork r o
fetch_answers o past s work.More kept h = h.1
fetch_answers o past s work.Gone kept h = h.0
fetch_answers o past s work.StoreFault kept h = h
fetch_answers o past s work.NoMemory kept h = tt
fetch_answers o past s _ kept h = absurd h

upload_answers : (o : Outcome) (before after own : List Entry) (ids : List Id16) (read : Option Latest) (fetch : Bool) (seen : Seen) (text : List ℕ) (s : upload.State) (r : Work) (t : upload.State)
    → uploading.SoundWorkEnds o before after own ids read fetch seen text s r t → AnswersWork r o
upload_answers o before after own ids None fetch seen text s r t h = get_answers o after seen (upload.asked_plan s) s.publish r t.publish h.1
upload_answers o before after own ids (Some l) true seen text s r t h = fetch_answers o (history_of after) s r t.fetched h.1
upload_answers o before after own ids (Some l) false seen text s r t h = subst (λ (x : Work). AnswersWork x o) (sym h.1) (block_answers o (history_of before) own ids text h.0 h.2)

pub upload_works : (store : StoreTold) (old new : StoreShown) (names later : NamesShown) (clock : ClockShown) (seen : Seen) (view : List Writes) (c : Blocks) (id : Id16) (s t : upload.State) (r : Work)
    → uploading.WorkLeaves s.publish.latest (is_fetch view c s) seen s r t → uploading.TaskWorks store old new names later seen view c s r t
    → TaskWorks store old new names later clock clock view c (task.Upload id s) r (task.Upload id t)
upload_works store old new names later clock seen view c id s t r left h = record {
  ids = h.ids;
  drawn = h.drawn;
  few = upload_few s.publish.latest (is_fetch view c s) s r t h.ids h.draws;
  has = upload_names s.publish.latest (is_fetch view c s) seen id s r t h.ids left h.draws;
  sound = λ tells mine sound honest owns true_to fresh.
      let w = h.sound tells mine sound honest owns true_to fresh in
      record {
        growth = w.growth;
        outcome = w.outcome;
        next = w.next;
        answers = upload_answers w.outcome old.log new.log w.growth.own h.ids s.publish.latest (is_fetch view c s) seen (next_text view c s) s r t w.ends;
        owns = w.blocks;
      };
  taken = upload_takes store old new r (upload_no_clock s.publish.latest (is_fetch view c s) seen s r t left) h.taken;
  later = h.later;
  failed = h.failed;
  names_failed = upload_cause names.faults later.faults r h.names_failed;
  clock_failed = no_clock clock.faults r (upload_no_clock s.publish.latest (is_fetch view c s) seen s r t left);
}

-- ---- cleanups

read_publish : (answers : RuleAnswers) (moment : ℕ) (s : cleanup.State) (p : publish.State) (r : Work) (t : cleanup.State) → cleaning.ReadLeaves answers moment s p r t → t.publish ≡ p
read_publish answers moment s p work.More t h = ap (λ (x : cleanup.State). x.publish) h.3.becomes
read_publish answers moment s p work.Nothing t h = ap (λ (x : cleanup.State). x.publish) h.1.becomes
read_publish answers moment s p _ t h = ap (λ (x : cleanup.State). x.publish) h

step_same : (answers : RuleAnswers) (seen : Seen) (s : cleanup.State) (r : Work) (t : cleanup.State)
    → ((moment : ℕ) × (p : publish.State) × cleaning.IsMoment s.moment moment × GetLeaves seen s.edit s.publish (cleaning.get_answer r) p × cleaning.ReadLeaves answers moment s p r t) → IsSame s.publish t.publish
step_same answers seen s r t h =
    subst (λ (q : publish.State). IsSame s.publish q) (sym (read_publish answers h.0 s h.1 r t h.4)) (get_same seen s.edit s.publish (cleaning.get_answer r) h.1 h.3)

get_step_same : (answers : RuleAnswers) (seen : Seen) (s : cleanup.State) (r : Work) (t : cleanup.State) → cleaning.GetStep answers seen s r t → IsSame s.publish t.publish
get_step_same answers seen s work.ClockFault t h = same_self s.publish t.publish (ap (λ (x : cleanup.State). x.publish) h.1)
get_step_same answers seen s work.More t h = step_same answers seen s work.More t h
get_step_same answers seen s work.Nothing t h = step_same answers seen s work.Nothing t h
get_step_same answers seen s (work.Fault f) t h = step_same answers seen s (work.Fault f) t h
get_step_same answers seen s work.NoContainer t h = step_same answers seen s work.NoContainer t h
get_step_same answers seen s (work.BadManifest at) t h = step_same answers seen s (work.BadManifest at) t h
get_step_same answers seen s work.Gone t h = step_same answers seen s work.Gone t h
get_step_same answers seen s (work.BadBlock len) t h = step_same answers seen s (work.BadBlock len) t h
get_step_same answers seen s work.NameTaken t h = step_same answers seen s work.NameTaken t h
get_step_same answers seen s work.StoreFault t h = step_same answers seen s work.StoreFault t h
get_step_same answers seen s work.NamesFault t h = step_same answers seen s work.NamesFault t h
get_step_same answers seen s work.NoMemory t h = step_same answers seen s work.NoMemory t h

cleanup_same : (answers : RuleAnswers) (o : Option Latest) (seen : Seen) (s : cleanup.State) (r : Work) (t : cleanup.State) → cleaning.WorkLeaves answers o seen s r t → IsSame s.publish t.publish
cleanup_same answers None seen s r t h = get_step_same answers seen s r t h
cleanup_same answers (Some l) seen s work.More t h = same_self s.publish t.publish (ap (λ (x : cleanup.State). x.publish) h)
cleanup_same answers (Some l) seen s work.StoreFault t h = same_self s.publish t.publish (ap (λ (x : cleanup.State). x.publish) h)
cleanup_same answers (Some l) seen s work.NoMemory t h = same_self s.publish t.publish (ap (λ (x : cleanup.State). x.publish) h)
cleanup_same answers (Some l) seen s _ t h = absurd h

pub cleanup_leaves : (answers : RuleAnswers) (seen : Seen) (view : List Writes) (c : Blocks) (id : Id16) (s t : cleanup.State) (r : Work) → cleaning.WorkLeaves answers s.publish.latest seen s r t
    → WorkLeaves answers seen view c (task.Cleanup id s) r (task.Cleanup id t)
cleanup_leaves answers seen view c id s t r h =
    let same = cleanup_same answers s.publish.latest seen s r t h in
    record { same_id = refl; same_writer = same.writer; same_refused = same.refused; kind = h }

pub cleanup_id : (answers : RuleAnswers) (seen : Seen) (id : Id16) (s t : cleanup.State) (r : Work) → id ≡ s.publish.id → cleaning.WorkLeaves answers s.publish.latest seen s r t → id ≡ t.publish.id
cleanup_id answers seen id s t r is h = is ∙ sym (cleanup_same answers s.publish.latest seen s r t h).id

cleanup_no_names : (answers : RuleAnswers) (o : Option Latest) (seen : Seen) (s : cleanup.State) (r : Work) (t : cleanup.State) → cleaning.WorkLeaves answers o seen s r t → IsNoNamesFault r
cleanup_no_names answers None seen s work.NamesFault t h = absurd h.3
cleanup_no_names answers None seen s _ t h = tt
cleanup_no_names answers (Some l) seen s work.NamesFault t h = h
cleanup_no_names answers (Some l) seen s _ t h = tt

cleanup_takes : (store : StoreTold) (old new : StoreShown) (r : Work) → IsNoNamesFault r → cleaning.WorkTakes store old new r → WorkTakes store old new r
cleanup_takes store old new work.NamesFault no_fault h = absurd no_fault
cleanup_takes store old new work.NoMemory no_fault h = h
cleanup_takes store old new work.ClockFault no_fault h = h
cleanup_takes store old new _ no_fault h = h

cleanup_cause : (before now : ℕ) (r : Work) → cleaning.WorkClockCause before now r → ClockCause before now r
cleanup_cause before now work.ClockFault h = h
cleanup_cause before now _ h = h

deletion_fails : (o : Outcome) (own : List Entry) (i : Id16) (at : ℕ) → cleaning.DeletionFails o own i at → o ≢ outcome.Ok
deletion_fails outcome.Ok own i at h = absurd h
deletion_fails outcome.Fail own i at h = λ is. absurd (cc)
deletion_fails outcome.Lost own i at h = λ is. absurd (cc)

delete_answers : (o : Outcome) (own : List Entry) (i : Id16) (at : ℕ) (r : Work) → cleaning.SoundDeleteEnds o own i at r → AnswersWork r o
delete_answers o own i at work.More h = h.0
delete_answers o own i at work.StoreFault h = deletion_fails o own i at h
delete_answers o own i at work.NoMemory h = tt
delete_answers o own i at _ h = absurd h

read_answers : (o : Outcome) (log : List Entry) (seen : Seen) (s : cleanup.State) (r : Work) (t : cleanup.State) → cleaning.SoundReadEnds o log seen s r t → AnswersWork r o
read_answers o log seen s work.ClockFault t h = tt
read_answers o log seen s work.More t h = h.1
read_answers o log seen s work.Nothing t h = h.1
read_answers o log seen s (work.Fault f) t h = h.1
read_answers o log seen s work.NoContainer t h = h.0
read_answers o log seen s (work.BadManifest at) t h = h.1
read_answers o log seen s work.Gone t h = h.1
read_answers o log seen s (work.BadBlock len) t h = h.1
read_answers o log seen s work.NameTaken t h = h.1
read_answers o log seen s work.StoreFault t h = h.0
read_answers o log seen s work.NamesFault t h = tt
read_answers o log seen s work.NoMemory t h = tt

cleanup_answers : (o : Outcome) (after own : List Entry) (read : Option Latest) (seen : Seen) (s : cleanup.State) (r : Work) (t : cleanup.State)
    → cleaning.SoundWorkEnds o after own read seen s r t → AnswersWork r o
cleanup_answers o after own None seen s r t h = read_answers o after seen s r t h.1
cleanup_answers o after own (Some l) seen s r t h = delete_answers o own h.0 h.1 r h.3

adds_none : (drawn : Option (List Id16)) → AddsNames drawn drawn []
adds_none None = tt
adds_none (Some ids) = sym (append-nil ids)

pub cleanup_works : (answers : RuleAnswers) (store : StoreTold) (old new : StoreShown) (names : NamesShown) (clock later : ClockShown) (seen : Seen) (view : List Writes) (c : Blocks) (id : Id16) (s t : cleanup.State) (r : Work)
    → cleaning.WorkLeaves answers s.publish.latest seen s r t → cleaning.TaskWorks store old new clock later seen s r t
    → TaskWorks store old new names names clock later view c (task.Cleanup id s) r (task.Cleanup id t)
cleanup_works answers store old new names clock later seen view c id s t r left h = record {
  ids = [];
  drawn = adds_none names.drawn;
  few = none [] refl;
  has = inl refl;
  sound = λ tells mine sound honest owns true_to fresh.
      let w = h.sound tells mine sound honest owns in
      record {
        growth = w.growth;
        outcome = w.outcome;
        next = w.next;
        answers = cleanup_answers w.outcome new.log w.growth.own s.publish.latest seen s r t w.ends;
        owns = w.taken;
      };
  taken = cleanup_takes store old new r (cleanup_no_names answers s.publish.latest seen s r t left) h.taken;
  later = h.later;
  failed = h.failed;
  names_failed = no_names names.faults r (cleanup_no_names answers s.publish.latest seen s r t left);
  clock_failed = cleanup_cause clock.faults later.faults r h.clock_failed;
}
