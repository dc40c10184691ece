-- The put of a publishing task is the machine's, for each kind of task.
use Rattle.std.proofs.Common.{◌≡◌, ◌∙◌, ◌+◌, ◌<◌, ◌≤◌, ◌^◌, ◌==◌, ℕ, suc, Bool, true, false, List, [], ◌∷◌, ◌++◌, length, length-append, map, take, Option, Some, None, IfSome, IsSome, MatchOption, is_some, refl, sym, ap, subst, arith}
use Rattle.std.proofs.lemmas.Bool.{eq-eqb, ne_eqb}
use Rattle.std.proofs.lemmas.List.{length-take}
use Rattle.std.proofs.lemmas.Option.{same_Some}
use Rattle.std.specs.Prelude.{min}
use Rattle.std.specs.Cmp.{first_so}
use Rattle.std.specs.List.{AllByRecursion}
use Rattle.std.specs.Option.{option_map}
use Rattle.bcv_base.specs.declared.id.Id16.{Id16}
use Rattle.bcv_base.specs.declared.log.Entry.{Entry}
use Rattle.bcv_base.specs.declared.manifest.Manifest.{Manifest}
use Rattle.bcv_base.specs.declared.seen.Latest.{Latest}
use Rattle.bcv_base.specs.Edits as edits
use Rattle.bcv_base.specs.History.{Item, Published, history_of, last_of}
use Rattle.bcv_base.specs.HistoryLaws.{id_eq-self, last_is}
use Rattle.bcv_base.specs.Ids.{IsId, id_eq}
use Rattle.bcv_base.specs.Image.{Page, Writes, view_image}
use Rattle.bcv_base.specs.Joined.{database_of, joined}
use Rattle.bcv_base.specs.ManifestRules.{MeetsEntryRules}
use Rattle.bcv_base.specs.Version.{Database}
use Rattle.bcv_base.specs.Versions.{version_of, versions_of}
use Rattle.bcv_base.specs.Views.{view_size}
use Rattle.bcv_cache.specs.Entry as cache
use Rattle.bcv_cleanup.specs.State as cleanup
use Rattle.bcv_dbcopy.specs.State as copy
use Rattle.bcv_dbcopy.specs.TaskPut.{edit_made}
use Rattle.bcv_dbcopy.proofs.PagesLaws.{blocks_are_the_pages}
use Rattle.bcv_dbmap.specs.declared.plan.EditPlan.{EditPlan}
use Rattle.bcv_dbmap.specs.declared.plan.EditPlan.TheVariants as edit
use Rattle.bcv_dbmap.specs.Applied.{edit_of, first_manifest}
use Rattle.bcv_dbmap.specs.Sound.{Sound}
use Rattle.bcv_dbmap.proofs.Keys.{all_found, keyed_key}
use Rattle.bcv_machine.specs.ManifestPut.{IsNext, IsRefused, count_begun, done_reply, is_last_try, last_refusal, sized_by, taken_by, tried_again}
use Rattle.bcv_machine.specs.ManifestPut as machine
use Rattle.bcv_machine.specs.State as m
use Rattle.bcv_model.specs.declared.kept.Kept.{Kept}
use Rattle.bcv_model.specs.declared.kept.Local.{Local}
use Rattle.bcv_model.specs.declared.note.Note.TheVariants as note
use Rattle.bcv_model.specs.declared.reply.Reply.TheVariants as reply
use Rattle.bcv_model.specs.Commits.{writes_of}
use Rattle.bcv_model.specs.NoteRules.{MayUpload}
use Rattle.bcv_model.specs.Notes.{after_note, kept_name}
use Rattle.bcv_publish.specs.ManifestAppend.{IsAppended}
use Rattle.bcv_publish.specs.ManifestPut.{IsReady}
use Rattle.bcv_publish.specs.ManifestPut as publishing
use Rattle.bcv_publish.specs.State as publish
use Rattle.bcv_tasks.specs.declared.publish_task.PublishTask.{PublishTask}
use Rattle.bcv_tasks.specs.declared.publish_task.PublishTask.TheVariants as task
use Rattle.bcv_tasks.specs.declared.put_answer.PutAnswer.TheVariants as answer
use Rattle.bcv_tasks.specs.State.{IsRunning, brought, latest_of, left_of, made_over, pending_of}
use Rattle.bcv_tasks.specs.TaskPut.{IsPassed, IsStillLast, number_after, with_refused}
use Rattle.bcv_upload.specs.BlockText.{IsViewOf}
use Rattle.bcv_upload.specs.State as upload
use Rattle.bcv_upload.specs.UploadPut.{view_over}
use Rattle.bcv_upload.proofs.Tasks.{any_ready}
use Rattle.bcv_upload.proofs.ViewPages.{uploaded_is_the_view}
use Rattle.bcv_clientstate.specs.BaseLaws.{FitsLocal, FitsUpload}
use Rattle.bcv_clientstate.specs.Fits.{TakesFrom}
use Rattle.bcv_clientstate.specs.Parts.{Parts, mine_of}
use Rattle.bcv_clientstate.specs.SeenClient.{Free, kind_of, seen_txn}
use Rattle.bcv_clientstate.specs.SeenContainer.{HasBase, container_of}
use Rattle.bcv_clientstate.proofs.Bases.{base_block, base_database, pages_len}
use Rattle.bcv_clientstate.proofs.Growth.{leaves_client}
use Rattle.bcv_clientstate.proofs.KnownLaws.{known_is_known}
use Rattle.bcv_clientstate.proofs.PutLaws.{last_is_last, none_is_none}
use Rattle.bcv_publication.specs.PutSides.{Appended, waiting}
use Rattle.bcv_publication.specs.TaskSides.{DoneIsAnswered, DoneIsKnown, MayStep, PassedIsRefused, RefusalIsAnswered, RefusedIsTriedAgain, StillIsNext, TaskIsAppended, TaskIsTried, job_of, number_read, seen_task, with_job}
use Rattle.bcv_publication.proofs.PutMade.{appended_history, container_is, first_after, first_next, locals_stay, version_is}

-- ---- the kinds of a copy

copy_edit : (c : m.Container) (e : EditPlan) (pages : List Page) → copy.IsEdit e pages → machine.edit_of c (kind_of e pages) ≡ Some (edit_made e pages)
copy_edit c (edit.New e) pages is = refl
copy_edit c (edit.Upload from e) pages is = absurd is
copy_edit c (edit.Copy from to) pages is = refl
copy_edit c (edit.Remove name) pages is = refl
copy_edit c (edit.Sweep ids) pages is = absurd is

copy_sized : (c : m.Container) (e : EditPlan) (pages : List Page) → sized_by (kind_of e pages) c ≡ c
copy_sized c (edit.New e) pages = refl
copy_sized c (edit.Upload from e) pages = refl
copy_sized c (edit.Copy from to) pages = refl
copy_sized c (edit.Remove name) pages = refl
copy_sized c (edit.Sweep ids) pages = refl

copy_takes : (e : EditPlan) (pages : List Page) → copy.IsEdit e pages → taken_by (kind_of e pages) ≡ None
copy_takes (edit.New e) pages is = refl
copy_takes (edit.Upload from e) pages is = absurd is
copy_takes (edit.Copy from to) pages is = refl
copy_takes (edit.Remove name) pages is = refl
copy_takes (edit.Sweep ids) pages is = absurd is

copy_last : (e : EditPlan) (pages : List Page) (ns : List ℕ) → is_last_try (kind_of e pages) ns ≡ (length ns == 7)
copy_last (edit.New e) pages ns = refl
copy_last (edit.Upload from e) pages ns = refl
copy_last (edit.Copy from to) pages ns = refl
copy_last (edit.Remove name) pages ns = refl
copy_last (edit.Sweep ids) pages ns = refl

copy_refusal : (e : EditPlan) (pages : List Page) (ns : List ℕ) → last_refusal (kind_of e pages) ns ≡ reply.Contended ns
copy_refusal (edit.New e) pages ns = refl
copy_refusal (edit.Upload from e) pages ns = refl
copy_refusal (edit.Copy from to) pages ns = refl
copy_refusal (edit.Remove name) pages ns = refl
copy_refusal (edit.Sweep ids) pages ns = refl

copy_done : (q : m.Publication) (e : EditPlan) (pages : List Page) (n : ℕ) → copy.IsEdit e pages → done_reply q (kind_of e pages) n false ≡ reply.Done n
copy_done q (edit.New e) pages n is = refl
copy_done q (edit.Upload from e) pages n is = absurd is
copy_done q (edit.Copy from to) pages n is = refl
copy_done q (edit.Remove name) pages n is = refl
copy_done q (edit.Sweep ids) pages n is = absurd is

map_len : {A B : Type 0} (f : A → B) (xs : List A) → length (map f xs) ≡ length xs
map_len f [] = refl
map_len f (x ∷ xs) = ap suc (map_len f xs)

-- ---- the intent of an upload

-- the entry that is published meets the rules
entry_meets : (s : upload.State) (o : Option Latest) → MatchOption o ⊥ (λ l. IsReady l.manifest (upload.plan_of s) s.publish.writer) → IfSome o (upload.Passed s)
    → MeetsEntryRules s.base.block (upload.entry_with s.base s.size s.touched s.ids s.publish.id)
entry_meets s None ready passed = absurd ready
entry_meets s (Some l) ready passed = subst (λ (b : ℕ). MeetsEntryRules b (upload.entry_with s.base s.size s.touched s.ids s.publish.id)) passed.block ready.fits

module _ (past : List Item) (k : Kept) (s : upload.State) (view : List Writes) (sound : Sound past) (all : AllByRecursion (FitsLocal past) k.locals)
    (base : HasBase past s.base.number s.base.block s.base.entry) (takes : TakesFrom k s.base.entry.name s.base.number view) where
  local : Local
  local = takes.local

  there : FitsLocal past takes.local
  there = all_found kept_name (FitsLocal past) s.base.entry.name k.locals takes.local all takes.is_local

  named : kept_name takes.local ≡ s.base.entry.name
  named = keyed_key kept_name s.base.entry.name k.locals takes.local takes.is_local

  -- the base of the upload is the one that the commits stand on
  same : database_of past takes.local.entry ≡ database_of past s.base.entry
  same =
      same_Some (database_of past takes.local.entry) (database_of past s.base.entry)
      (sym (base_database 0 past takes.local.number takes.local.block takes.local.entry sound there)
      ∙ ap (λ (n : ℕ). m.database_at (container_of 0 past) n (kept_name takes.local)) takes.base
      ∙ ap (m.database_at (container_of 0 past) s.base.number) named
      ∙ base_database 0 past s.base.number s.base.block s.base.entry sound base)

  same_pages : takes.local.entry.pages ≡ s.base.entry.pages
  same_pages =
      sym (pages_len takes.local.entry.pages takes.local.entry.page_size (joined past takes.local.entry.blocks)) ∙ ap (λ (d : Database). length d.image) same
      ∙ pages_len s.base.entry.pages s.base.entry.page_size (joined past s.base.entry.blocks)

  few : length view ≤ length takes.local.commits
  few =
      let long : length view ≡ min (length view) (length (map writes_of takes.local.commits)) = ap length (sym takes.first) ∙ length-take (length view) (map writes_of takes.local.commits) in
      let many : length (map writes_of takes.local.commits) ≡ length takes.local.commits = map_len writes_of takes.local.commits in
      omega (arith, long, many)

  pub may_upload : (running : upload.IsRunning s) → upload.is_ready s ≡ true → length view < 2 ^ 64
      → MayUpload k (record { count = length view; block = s.base.block; entry = upload.entry_with s.base s.size s.touched s.ids s.publish.id })
  may_upload running ready count = record {
    is_block = running.task.base.block;
    is_entry = entry_meets s s.publish.latest (any_ready s (upload.plan_of s) refl running.task ready) (running.task.read running.waits);
    local = takes.local;
    is_local = takes.is_local;
    least = takes.some;
    most = few;
    small = count;
    same_block = sym (base_block past s.base.number s.base.block s.base.entry sound base) ∙ base_block past takes.local.number takes.local.block takes.local.entry sound there;
    same_page_size = sym (ap (λ (d : Database). d.page_size) same);
  }

  pub fits_upload : IsViewOf s.base view s.size s.touched
      → FitsUpload k (record { count = length view; block = s.base.block; entry = upload.entry_with s.base s.size s.touched s.ids s.publish.id })
  fits_upload of_view =
      subst (λ (o : Option Local). IfSome o (λ l. s.size ≡ view_size l.entry.pages (take (length view) (map writes_of l.commits)))) (sym takes.is_local)
      (of_view.size_is ∙ ap (λ (n : ℕ). view_size n view) (sym same_pages) ∙ ap (view_size takes.local.entry.pages) (sym takes.first))

-- ---- what may be tried

pub task_is_tried : TaskIsTried
task_is_tried log p entries n view (task.Create c) may ready = record {
  sound = may.sound;
  ordered = may.fits.ordered;
  locals = may.fits.locals;
  named = subst IsSome (sym may.fits.named) refl;
  is_id = may.fits.tasks.0.1;
  same_id = refl;
  takes = refl;
  may_upload = tt;
  upload = tt;
  waits = may.waits;
  intended = refl;
  quiet = may.quiet;
}
task_is_tried log p entries n view (task.Copy id s) may ready = record {
  sound = may.sound;
  ordered = may.fits.ordered;
  locals = may.fits.locals;
  named = subst IsSome (sym may.fits.named) refl;
  is_id = subst IsId (sym may.running.0) may.fits.tasks.0.1.is_id;
  same_id = sym may.running.0;
  takes = copy_takes s.edit s.pages may.running.1.task.edit;
  may_upload = tt;
  upload = tt;
  waits = may.waits;
  intended = refl;
  quiet = may.quiet;
}
task_is_tried log p entries n view (task.Upload id s) may ready = record {
  sound = may.sound;
  ordered = may.fits.ordered;
  locals = may.fits.locals;
  named = subst IsSome (sym may.fits.named) refl;
  is_id = subst IsId (sym may.running.0) may.fits.tasks.0.1.is_id;
  same_id = sym may.running.0;
  takes = refl;
  may_upload = may_upload (history_of log) p.kept s view may.sound may.fits.locals may.fits.tasks.0.5 may.fits.tasks.0.6 may.running.1 ready may.count;
  upload = fits_upload (history_of log) p.kept s view may.sound may.fits.locals may.fits.tasks.0.5 may.fits.tasks.0.6 may.fits.tasks.0.3;
  waits = may.waits;
  intended = refl;
  quiet = may.quiet;
}
task_is_tried log p entries n view (task.Cleanup id s) may ready = record {
  sound = may.sound;
  ordered = may.fits.ordered;
  locals = may.fits.locals;
  named = subst IsSome (sym may.fits.named) refl;
  is_id = subst IsId (sym may.running.0) may.fits.tasks.0.1.is_id;
  same_id = sym may.running.0;
  takes = refl;
  may_upload = tt;
  upload = tt;
  waits = may.waits;
  intended = refl;
  quiet = may.quiet;
}

-- ---- what is read, where a task is ready

-- a task other than a create has read a manifest
kept_some : (o : Option Latest) → is_some o ≡ true → (l : Latest) × (o ≡ Some l)
kept_some None h = absurd (cc)
kept_some (Some l) h = (l, refl)

copy_read : (s : copy.State) → copy.is_ready s ≡ true → (l : Latest) × (s.publish.latest ≡ Some l)
copy_read s ready = kept_some s.publish.latest (first_so (is_some s.publish.latest) (copy.left_of s == 1) ready)

upload_read : (s : upload.State) → upload.is_ready s ≡ true → (l : Latest) × (s.publish.latest ≡ Some l)
upload_read s ready = kept_some s.publish.latest (first_so (is_some s.publish.latest) (upload.left_of s == 1) ready)

cleanup_read : (s : cleanup.State) → cleanup.is_ready s ≡ true → (l : Latest) × (s.publish.latest ≡ Some l)
cleanup_read s ready = kept_some s.publish.latest (first_so (is_some s.publish.latest) (cleanup.left_of s == 1) ready)

-- ---- what is appended

abbrev txns_up : Option m.Up → List m.Txn
txns_up None = []
txns_up (Some u) = u.txns

any_free : Free
any_free = record { slots = 0; fused = false; failing = false; noted = 0; flight = None }

module _ (moment : ℕ) (log own after : List Entry) (p : Parts) (entries : List cache.Entry) (n : ℕ) (view : List Writes) (t : PublishTask) (brings : Manifest)
    (may : MayStep log p entries n view t) (grown : after ≡ log ++ own) (sound_after : Sound (history_of after)) where
  abbrev past : List Item
  past = history_of log

  abbrev q : m.Publication
  q = seen_task p.kept.pending view t

  -- the version, where the machine makes it of the publication
  made_as : (etag : ℕ) → IsAppended own brings etag → machine.version_made (container_of moment past) q ≡ Some (version_of past brings)
      → container_of moment (Published brings ∷ past) ≡ record (sized_by q.kind (container_of moment past)) { versions = (container_of moment past).versions ++ version_of past brings ∷ [] }
      → Appended moment past (history_of after) p q (version_of past brings)
  made_as etag is next becomes =
      let there : history_of after ≡ Published brings ∷ past = appended_history log own after brings etag grown is in
      let longer : history_of (log ++ own) ≡ history_of after = ap history_of (sym grown) in
      record {
        next = next;
        after = ap (container_of moment) there ∙ becomes;
        sound = sound_after;
        locals = subst (λ (x : List Item). AllByRecursion (FitsLocal x) p.kept.locals) longer (locals_stay log own p.kept.locals may.fits.locals);
        txns = subst (λ (x : List Item). map (seen_txn x) p.txns ≡ map (seen_txn past) p.txns) longer
            (ap (λ (c : m.Client). txns_up c.up) (leaves_client log own (with_job n (job_of view t) p) entries any_free may.sound may.fits));
      }

  -- an edit of the manifest that was read
  edited : (etag : ℕ) (read : Latest) (plan : EditPlan) (writer : Id16) → IsAppended own brings etag → last_of past ≡ Some read.manifest
      → brings ≡ publishing.made (record { writer = writer; id = q.id; latest = Some read; refused = []; block = None }) read plan moment
      → machine.edit_of (container_of moment past) q.kind ≡ Some (edit_of past plan) → sized_by q.kind (container_of moment past) ≡ container_of moment past
      → Appended moment past (history_of after) p q (version_of past brings)
  edited etag read plan writer is last made edit_is sized =
      made_as etag is
      (version_is moment past read.manifest plan q writer may.sound last edit_is ∙ ap (λ (x : Manifest). Some (version_of past x)) (sym made))
      (subst (λ (x : Manifest). container_of moment (Published x ∷ past) ≡ record (sized_by q.kind (container_of moment past)) { versions = (container_of moment past).versions ++ version_of past x ∷ [] })
      (sym made) (container_is moment past read.manifest plan q writer may.sound last sized))

-- the manifest that is brought over one that was read
made_is : (p : publish.State) (plan : EditPlan) (moment : ℕ) (o : Option Latest) (read : Latest) (brings : Manifest) → o ≡ Some read → made_over p plan moment o ≡ Some brings
    → brings ≡ publishing.made p read plan moment
made_is p plan moment o read brings is brought_is =
    sym (same_Some (publishing.made p read plan moment) brings (ap (made_over p plan moment) (sym is) ∙ brought_is))

still : (last : Option Manifest) (o : Option Latest) (read : Latest) → o ≡ Some read → IsStillLast last o → last ≡ Some read.manifest
still last o read is h = h ∙ ap (λ (x : Option Latest). option_map (λ (l : Latest). l.manifest) x) is

-- the machine uploads the view over its base
upload_edit : (moment : ℕ) (past : List Item) (s : upload.State) (view : List Writes) → Sound past → HasBase past s.base.number s.base.block s.base.entry
    → machine.edit_of (container_of moment past) (m.Uploading s.base.entry.name s.base.number view) ≡ Some (edits.Upload s.base.entry.name s.base.entry.page_size (view_over past s.base view))
upload_edit moment past s view sound base =
    ap (option_map (λ (x : Database). edits.Upload s.base.entry.name x.page_size (view_image x.page_size x.image view))) (base_database moment past s.base.number s.base.block s.base.entry sound base)

pub task_is_appended : TaskIsAppended
task_is_appended moment log own after p entries n view (task.Create c) brings number may ready last brought_is grown appends sound_after =
    let made : first_manifest c.block c.retention c.id c.writer moment ≡ brings = same_Some (first_manifest c.block c.retention c.id c.writer moment) brings brought_is in
    let none : last_of (history_of log) ≡ None = last ∙ ap (λ (x : Option Latest). option_map (λ (l : Latest). l.manifest) x) may.running.waits in
    made_as moment log own after p entries n view (task.Create c) brings may grown sound_after appends.1.0 appends.1.1
    (first_next moment (history_of log) c.block c.retention c.id c.writer may.sound none ∙ ap (λ (x : Manifest). Some (version_of (history_of log) x)) made)
    (subst (λ (x : Manifest). container_of moment (Published x ∷ history_of log)
    ≡ record (sized_by (m.Creating c.block c.retention) (container_of moment (history_of log))) { versions = (container_of moment (history_of log)).versions ++ version_of (history_of log) x ∷ [] })
    made (first_after moment (history_of log) c.block c.retention c.id c.writer may.sound none))
task_is_appended moment log own after p entries n view (task.Copy id s) brings number may ready last brought_is grown appends sound_after =
    let r = copy_read s ready in
    edited moment log own after p entries n view (task.Copy id s) brings may grown sound_after appends.1.0 r.0 s.edit s.publish.writer appends.1.1
    (still (last_of (history_of log)) s.publish.latest r.0 r.1 last)
    (made_is s.publish s.edit moment s.publish.latest r.0 brings r.1 brought_is)
    (copy_edit (container_of moment (history_of log)) s.edit s.pages may.running.1.task.edit
    ∙ ap Some (sym (blocks_are_the_pages (mine_of (with_job n (job_of view (task.Copy id s)) p)) log s may.running.1.task ready may.fits.tasks.0.2)))
    (copy_sized (container_of moment (history_of log)) s.edit s.pages)
task_is_appended moment log own after p entries n view (task.Upload id s) brings number may ready last brought_is grown appends sound_after =
    let r = upload_read s ready in
    let job = may.fits.tasks.0 in
    edited moment log own after p entries n view (task.Upload id s) brings may grown sound_after appends.1.0 r.0 (upload.plan_of s) s.publish.writer appends.1.1
    (still (last_of (history_of log)) s.publish.latest r.0 r.1 last)
    (made_is s.publish (upload.plan_of s) moment s.publish.latest r.0 brings r.1 brought_is)
    (upload_edit moment (history_of log) s view may.sound job.5
    ∙ ap Some (sym (uploaded_is_the_view (mine_of (with_job n (job_of view (task.Upload id s)) p)) log view s may.sound may.running.1.task ready job.3 job.4 job.2)))
    refl
task_is_appended moment log own after p entries n view (task.Cleanup id s) brings number may ready last brought_is grown appends sound_after =
    let r = cleanup_read s ready in
    edited moment log own after p entries n view (task.Cleanup id s) brings may grown sound_after appends.1.0 r.0 s.edit s.publish.writer appends.1.1
    (still (last_of (history_of log)) s.publish.latest r.0 r.1 last)
    (made_is s.publish s.edit moment s.publish.latest r.0 brings r.1 brought_is)
    (ap (λ (e : EditPlan). Some (edit_of (history_of log) e)) (sym may.running.1.task.edit))
    refl

-- ---- numbers

number_over : (p : publish.State) (plan : EditPlan) (moment : ℕ) (o : Option Latest) (brings : Manifest) → made_over p plan moment o ≡ Some brings → brings.number ≡ number_after o
number_over p plan moment None brings is = absurd (cc)
number_over p plan moment (Some l) brings is = ap (λ (x : Manifest). x.number) (sym (same_Some (publishing.made p l plan moment) brings is))

number_brought : (moment : ℕ) (t : PublishTask) (brings : Manifest) → IsRunning t → brought t moment ≡ Some brings → brings.number ≡ number_after (latest_of t)
number_brought moment (task.Create c) brings running is =
    ap (λ (x : Manifest). x.number) (sym (same_Some (first_manifest c.block c.retention c.id c.writer moment) brings is)) ∙ ap number_after (sym running.waits)
number_brought moment (task.Copy id s) brings running is = number_over s.publish s.edit moment s.publish.latest brings is
number_brought moment (task.Upload id s) brings running is = number_over s.publish (upload.plan_of s) moment s.publish.latest brings is
number_brought moment (task.Cleanup id s) brings running is = number_over s.publish s.edit moment s.publish.latest brings is

next_over : (moment : ℕ) (past : List Item) (o : Option Latest) → Sound past → IsStillLast (last_of past) o → IsNext (container_of moment past) (number_read o) (number_after o)
next_over moment past None sound last =
    let none : length (versions_of past) ≡ 0 = ap length (none_is_none moment past sound last) in
    (sym none, ap (λ (k : ℕ). k + 1) (sym none))
next_over moment past (Some l) sound last =
    let count = (last_is_last moment past l.manifest sound last).number in
    (sym count, ap (λ (k : ℕ). k + 1) (sym count))

pub still_is_next : StillIsNext
still_is_next moment log t brings sound running last is =
    subst (λ (k : ℕ). IsNext (container_of moment (history_of log)) (number_read (latest_of t)) k) (sym (number_brought moment t brings running is))
    (next_over moment (history_of log) (latest_of t) sound last)

passed_over : (moment : ℕ) (past : List Item) (last : Option Manifest) (read : Option Latest) → Sound past → last_of past ≡ last → IsPassed last read → IsRefused (container_of moment past) (number_read read)
passed_over moment past None read sound is h = absurd h
passed_over moment past (Some l) None sound is h =
    let some = last_is past l sound.reads is in
    let long : length (versions_of past) ≡ length some.older + 1 = ap length some.versions ∙ length-append some.older (version_of past l ∷ []) in
    omega (arith, long)
passed_over moment past (Some l) (Some read) sound is h =
    let count = (last_is_last moment past l sound is).number in
    omega (arith, h, count)

pub passed_is_refused : PassedIsRefused
passed_is_refused moment log read sound h = passed_over moment (history_of log) (last_of (history_of log)) read sound refl h

pub done_is_known : DoneIsKnown
done_is_known log p x brings = known_is_known (history_of log) (after_note (waiting x p).kept (note.Done x.id brings.number)) brings

-- ---- answers

timed : (moment : Option ℕ) (ids : List Id16) → cleanup.IsTimed moment ids → 1 ≤ length ids → IsSome moment
timed moment [] is some = absurd (omega (arith, some))
timed moment (i ∷ is) known some = known

begun_count : (s : cleanup.State) (moment : Option ℕ) → IsSome moment → count_begun (option_map (λ (at : ℕ). record { moment = at; count = length (cleanup.taken_ids s) }) moment) ≡ length (cleanup.taken_ids s)
begun_count s None some = absurd (cc)
begun_count s (Some at) some = refl

begun_of : (o : Option Latest) (l : Latest) (ids : List Id16) → o ≡ Some l → cleanup.HasBegun o ids → 1 ≤ length ids
begun_of o l ids is h = subst (λ (x : Option Latest). cleanup.HasBegun x ids) is h

pub done_is_answered : DoneIsAnswered
done_is_answered before view (task.Create c) n running ready = refl
done_is_answered before view (task.Copy id s) n running ready = copy_done (seen_task before view (task.Copy id s)) s.edit s.pages n running.1.task.edit
done_is_answered before view (task.Upload id s) n running ready = refl
done_is_answered before view (task.Cleanup id s) n running ready =
    let r = cleanup_read s ready in
    ap (λ (k : ℕ). reply.Cleaned k s.more)
    (begun_count s s.moment (timed s.moment (cleanup.taken_ids s) running.1.task.timed (begun_of s.publish.latest r.0 (cleanup.taken_ids s) r.1 running.1.begun)))

-- a refused put has read a manifest
create_reads : (o : Option Latest) (l : Latest) → o ≡ None → o ≡ Some l → ⊥
create_reads o l none is = cc

not_seven : (ns : List ℕ) → length ns < 7 → (length ns == 7) ≡ false
not_seven ns few = ne_eqb (length ns) 7 (λ e. absurd (omega (arith, few, e)))

seven : (refused numbers : List ℕ) (k : ℕ) → length numbers ≡ 8 → numbers ≡ refused ++ k ∷ [] → (length refused == 7) ≡ true
seven refused numbers k eight is =
    let long : length numbers ≡ length refused + 1 = ap length is ∙ length-append refused (k ∷ []) in
    eq-eqb (length refused) 7 (omega (arith, eight, long))

all_numbers : (refused numbers : List ℕ) (o : Option Latest) (l : Latest) → o ≡ Some l → numbers ≡ refused ++ l.manifest.number ∷ [] → reply.Contended (refused ++ number_read o ∷ []) ≡ reply.Contended numbers
all_numbers refused numbers o l is all = ap (λ (x : Option Latest). reply.Contended (refused ++ number_read x ∷ [])) is ∙ ap reply.Contended (sym all)

pub refusal_is_answered : RefusalIsAnswered
refusal_is_answered moment before view t u (answer.Published n) running ready h = tt
refusal_is_answered moment before view (task.Create c) u answer.Refused running ready h = absurd (create_reads c.latest h.1.1.read running.waits h.1.1.kept)
refusal_is_answered moment before view (task.Copy id s) u answer.Refused running ready h = copy_last s.edit s.pages s.publish.refused ∙ not_seven s.publish.refused h.0
refusal_is_answered moment before view (task.Upload id s) u answer.Refused running ready h = not_seven s.publish.refused h.0
refusal_is_answered moment before view (task.Cleanup id s) u answer.Refused running ready h = not_seven s.publish.refused h.0
refusal_is_answered moment before view (task.Create c) u (answer.Contended numbers) running ready h = absurd (create_reads c.latest h.2.read running.waits h.2.kept)
refusal_is_answered moment before view (task.Copy id s) u (answer.Contended numbers) running ready h = (
  copy_last s.edit s.pages s.publish.refused ∙ seven s.publish.refused numbers h.2.read.manifest.number h.0 h.2.all,
  copy_refusal s.edit s.pages _ ∙ all_numbers s.publish.refused numbers s.publish.latest h.2.read h.2.kept h.2.all,
)
refusal_is_answered moment before view (task.Upload id s) u (answer.Contended numbers) running ready h =
    (seven s.publish.refused numbers h.2.read.manifest.number h.0 h.2.all, all_numbers s.publish.refused numbers s.publish.latest h.2.read h.2.kept h.2.all)
refusal_is_answered moment before view (task.Cleanup id s) u (answer.Contended numbers) running ready h =
    (seven s.publish.refused numbers h.2.read.manifest.number h.0 h.2.all, all_numbers s.publish.refused numbers s.publish.latest h.2.read h.2.kept h.2.all)
refusal_is_answered moment before view (task.Create c) u answer.Exists running ready h = (refl, refl)
refusal_is_answered moment before view (task.Copy id s) u answer.Exists running ready h = absurd h.0
refusal_is_answered moment before view (task.Upload id s) u answer.Exists running ready h = absurd h.0
refusal_is_answered moment before view (task.Cleanup id s) u answer.Exists running ready h = absurd h.0
refusal_is_answered moment before view t u answer.Unknown running ready h = tt
refusal_is_answered moment before view t u answer.NoMemory running ready h = tt

-- ---- a task that is tried again

-- the publication with these requests left, which has read nothing since the put was refused
abbrev anew : m.Publication → ℕ → Bool → ℕ → m.Publication
anew q left intended read = record q { left = left; read = None; refused = q.refused ++ read ∷ []; intended = intended }

tried_anew : (q : m.Publication) (left : ℕ) (waits id : Id16) (o : Option Latest) (l : Latest) → left ≡ 2 → waits ≡ id → o ≡ Some l
    → anew q left (id_eq waits id) l.manifest.number ≡ tried_again q (number_read o)
tried_anew q left waits id o l two same is =
    ap (λ (k : ℕ). anew q k (id_eq waits id) l.manifest.number) two
    ∙ ap (λ (b : Bool). anew q 2 b l.manifest.number) (ap (λ (i : Id16). id_eq i id) same ∙ id_eq-self id)
    ∙ ap (λ (x : Option Latest). anew q 2 true (number_read x)) (sym is)

pub refused_is_tried_again : RefusedIsTriedAgain
refused_is_tried_again moment before view (task.Create c) u running ready h two = absurd (create_reads c.latest h.1.1.read running.waits h.1.1.kept)
refused_is_tried_again moment before view (task.Copy id s) u running ready h two =
    ap (seen_task (Some (pending_of (length view) (task.Copy id s))) view) h.1.1.becomes
    ∙ tried_anew (seen_task before view (task.Copy id s)) (left_of (with_refused (task.Copy id s) h.1.1.read)) id s.publish.id s.publish.latest h.1.1.read (ap left_of (sym h.1.1.becomes) ∙ two) running.0 h.1.1.kept
refused_is_tried_again moment before view (task.Upload id s) u running ready h two =
    ap (seen_task (Some (pending_of (length view) (task.Upload id s))) view) h.1.1.becomes
    ∙ tried_anew (seen_task before view (task.Upload id s)) (left_of (with_refused (task.Upload id s) h.1.1.read)) id s.publish.id s.publish.latest h.1.1.read (ap left_of (sym h.1.1.becomes) ∙ two) running.0 h.1.1.kept
refused_is_tried_again moment before view (task.Cleanup id s) u running ready h two =
    ap (seen_task (Some (pending_of (length view) (task.Cleanup id s))) view) h.1.1.becomes
    ∙ tried_anew (seen_task before view (task.Cleanup id s)) (left_of (with_refused (task.Cleanup id s) h.1.1.read)) id s.publish.id s.publish.latest h.1.1.read (ap left_of (sym h.1.1.becomes) ∙ two) running.0 h.1.1.kept
