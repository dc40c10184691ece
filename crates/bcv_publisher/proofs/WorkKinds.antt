-- What is said of a request before a put, for each kind of task.
use Rattle.std.proofs.Common.{◌≡◌, ◌∙◌, ◌+◌, ◌-◌, ◌≤◌, ◌==◌, ◌&&◌, ℕ, zero, suc, Bool, true, false, cond, List, [], ◌∷◌, ◌++◌, append-nil, length, Option, Some, None, is_some, is_none, option_map, MatchOption, IfSome, refl, sym, ap, subst, arith}
use Rattle.std.proofs.lemmas.Bool.{eq-eqb, false≢true}
use Rattle.std.proofs.lemmas.Option.{same_Some}
use Rattle.bcv_base.specs.declared.id.Id16.{Id16}
use Rattle.bcv_base.specs.declared.log.Entry.{Entry}
use Rattle.bcv_base.specs.declared.log.Entry.TheVariants as entry
use Rattle.bcv_base.specs.declared.manifest.Manifest.{Manifest}
use Rattle.bcv_base.specs.declared.object.ObjName.TheVariants as object
use Rattle.bcv_base.specs.declared.outcome.Outcome.{Outcome}
use Rattle.bcv_base.specs.declared.outcome.Outcome.TheVariants as outcome
use Rattle.bcv_base.specs.declared.seen.Latest.{Latest}
use Rattle.bcv_base.specs.declared.seen.Seen.{Seen}
use Rattle.bcv_base.specs.History.{Item, first_put, history_of, last_of}
use Rattle.bcv_base.specs.HistoryLaws.{has_id-first}
use Rattle.bcv_base.specs.Ids.{has_id}
use Rattle.bcv_base.specs.Image.{Page, Writes}
use Rattle.bcv_base.specs.Joined.{database_of}
use Rattle.bcv_base.specs.ManifestRules.{blocks_needed}
use Rattle.bcv_base.specs.SizeLimits.{most_blocks}
use Rattle.bcv_base.specs.Version.{Version}
use Rattle.bcv_cache.specs.Entry as cache
use Rattle.bcv_cleanup.specs.CleanupWork as cleaning
use Rattle.bcv_cleanup.specs.Released.{RuleAnswers}
use Rattle.bcv_cleanup.specs.State as cleanup
use Rattle.bcv_clientlaws.specs.OwnEntries.{AreOfBlocks}
use Rattle.bcv_clientstate.specs.CheckLaws.{IsAskedAs}
use Rattle.bcv_clientstate.specs.Fits.{Fits}
use Rattle.bcv_clientstate.specs.Parts.{Parts}
use Rattle.bcv_clientstate.specs.SeenClient.{Free, kind_of, read_number, seen_cleaning, seen_copying, seen_uploading, seen_up, side_of}
use Rattle.bcv_clientstate.specs.SeenContainer.{container_of}
use Rattle.bcv_clientstate.specs.Stages.{IsSwept, IsSweptOf}
use Rattle.bcv_clientstate.specs.WorkSides.{IsUploadOf, TakesOld}
use Rattle.bcv_clientstate.proofs.Bases.{base_block, base_database}
use Rattle.bcv_clientstate.proofs.CheckLaws.{passes_is_free}
use Rattle.bcv_clientstate.proofs.WorkSides.{cleanup_goes_on, cleanup_reads, copy_goes_on, copy_reads, takes_old, upload_goes_on, upload_reads}
use Rattle.bcv_dbcopy.specs.State as copy
use Rattle.bcv_dbcopy.specs.TaskWork as copying
use Rattle.bcv_dbmap.specs.declared.plan.EditPlan.{EditPlan}
use Rattle.bcv_dbmap.specs.declared.plan.EditPlan.TheVariants as edit
use Rattle.bcv_dbmap.specs.Sound.{IsSoundLog}
use Rattle.bcv_machine.specs.ManifestGet.{CanPublish, GetsManifest, IsFound}
use Rattle.bcv_machine.specs.MiddleStep.{GoesOn, IsBlockBegun, after_request, deleted_by, swept_at, swept_by}
use Rattle.bcv_machine.specs.Gone.{MayBeGone}
use Rattle.bcv_machine.specs.State as m
use Rattle.bcv_model.specs.declared.kept.PendingPub.{PendingPub}
use Rattle.bcv_model.specs.declared.reply.Reply.TheVariants as reply
use Rattle.bcv_publish.specs.declared.work.BlockEnd.{BlockEnd}
use Rattle.bcv_publish.specs.declared.work.BlockEnd.TheVariants as end
use Rattle.bcv_publish.specs.declared.work.Work.{Work}
use Rattle.bcv_publish.specs.declared.work.Work.TheVariants as work
use Rattle.bcv_publish.specs.BlockPut.{BlockFails, IsBlockAppended, SoundBlockEnds, block_work}
use Rattle.bcv_publish.specs.ManifestGet.{Checks, SoundGetEnds}
use Rattle.bcv_publish.specs.ManifestRead.{unlike}
use Rattle.bcv_publish.specs.State as publish
use Rattle.bcv_tasks.specs.declared.publish_task.PublishTask.TheVariants as task
use Rattle.bcv_upload.specs.State as upload
use Rattle.bcv_upload.specs.UploadWork as uploading
use Rattle.bcv_publisher.specs.WorkStep.{AreUnused}
use Rattle.bcv_publisher.proofs.WorkFaults.{IsToEnd, get_finds_nothing}
use Rattle.bcv_publisher.proofs.WorkGoes.{Says, after_one, get_goes, get_says, middle_goes, request_fails_by, request_gone_by, same_container}

-- ---- requests that are left

two_left : (left k : ℕ) → left ≡ k + 1 → (left == 1) ≡ false → 2 ≤ left
two_left left zero is not = absurd (false≢true (sym not ∙ eq-eqb left 1 is))
two_left left (suc k) is not = omega (arith, is)

-- a task that is not ready and keeps a manifest has more than one
not_one : (o : Option Latest) (l : Latest) (left : ℕ) → o ≡ Some l → (is_some o && (left == 1)) ≡ false → (left == 1) ≡ false
not_one o l left kept more = ap (λ (x : Option Latest). is_some x && (left == 1)) (sym kept) ∙ more

-- whether a get of old bytes was made, as a count
abbrev get_made : Option (List ℕ) → ℕ
get_made o = cond (is_some o) 1 0

-- ---- what was appended

put_same : (moment : ℕ) (log own : List Entry) (i : Id16) (bytes : List ℕ) → IsBlockAppended own i bytes → container_of moment (history_of (log ++ own)) ≡ container_of moment (history_of log)
put_same moment log own i bytes put = after_one moment log own (entry.Put true (object.Block i) bytes put.0) put.1

record Failed (moment : ℕ) (log own : List Entry) (o : Outcome) : Type 0 where
  not : o ≡ outcome.Ok → ⊥
  same : container_of moment (history_of (log ++ own)) ≡ container_of moment (history_of log)

put_failed : (moment : ℕ) (log own : List Entry) (o : Outcome) (first : Option (List ℕ)) (i : Id16) (bytes : List ℕ) → BlockFails o first own i bytes → Failed moment log own o
put_failed moment log own outcome.Ok first i bytes fails = absurd fails
put_failed moment log own outcome.Fail first i bytes fails = record { not = λ e. cc; same = same_container moment log own fails }
put_failed moment log own outcome.Lost None i bytes fails = record { not = λ e. cc; same = put_same moment log own i bytes fails }
put_failed moment log own outcome.Lost (Some earlier) i bytes fails = record { not = λ e. cc; same = same_container moment log own fails }

after_none : (o : Outcome) (q : m.Publication) (c : m.Container) → deleted_by q q.kind c ≡ c → after_request o q c ≡ c
after_none outcome.Ok q c none = none
after_none outcome.Fail q c none = refl
after_none outcome.Lost q c none = none

-- a name that was drawn was never put
never_taken : (past : List Item) (ids : List Id16) (i : Id16) → AreUnused past ids → ids ≡ i ∷ [] → is_none (first_put past i) ≡ false → ⊥
never_taken past ids i unused is there =
    let free : first_put past i ≡ None = (unused i (subst (λ (is : List Id16). has_id i is ≡ true) (sym is) (has_id-first i []))).1 in
    false≢true (sym there ∙ ap (λ (o : Option (List ℕ)). is_none o) free)

-- a log to which nothing was appended
unchanged : (log own : List Entry) → own ≡ [] → log ++ own ≡ log
unchanged log own none = ap (λ (es : List Entry). log ++ es) none ∙ append-nil log

module _ (moment : ℕ) (log own : List Entry) (entries : List cache.Entry) (here : Parts) (f : Free) (sound : IsSoundLog log) (fits : Fits here entries log) (are : AreOfBlocks own) (w : Option PendingPub) (o : Outcome)
    (view : List Writes) (seen : Seen) where
  abbrev past : List Item
  past = history_of log

  abbrev x : m.Side
  x = side_of moment past here f

  abbrev u : m.Up
  u = seen_up past here

  -- ---- new databases, copies and removals

  module _ (id : Id16) (s t : copy.State) (run : copy.IsRunning s) (waits : copy.is_ready s ≡ false) (to_end : IsToEnd log entries here (seen_copying w s) w) where
    abbrev copy_q : m.Publication
    copy_q = seen_copying w s

    abbrev CopySays : Work → Type 0
    CopySays result = Says moment log own entries here f copy_q sound fits are w o view (task.Copy id t) result

    copy_asked : (c : m.Container) (pages : List Page) (e : EditPlan) → copy.IsEdit e pages → IsAskedAs c (kind_of e pages) e
    copy_asked c pages (edit.New e) is = (refl, refl, is.count, is.name)
    copy_asked c pages (edit.Copy from to) is = (refl, refl, is.1)
    copy_asked c pages (edit.Remove name) is = refl
    copy_asked c pages (edit.Upload from e) is = absurd is
    copy_asked c pages (edit.Sweep ids) is = absurd is

    copy_got : s.publish.latest ≡ None → own ≡ [] → copying.WorkLeaves None seen s work.More t → SoundGetEnds o log seen s.edit s.publish work.More t.publish → CopySays work.More
    copy_got unread none leaves ends =
        let same : t ≡ copying.with_publish s t.publish = leaves.2 ∙ ap (copying.with_publish s) (sym (ap (λ (y : copy.State). y.publish) leaves.2)) in
        get_goes moment log own entries here f copy_q sound fits are (ap read_number unread) none o (reply.Working (copy.left_of t)) here f (Some (seen_copying w t))
        (subst (λ (y : Outcome). GetsManifest x u copy_q y (reply.Working (copy.left_of t)) x (Some (seen_copying w t))) (sym ends.1)
        (subst (λ (y : copy.State). GetsManifest x u copy_q outcome.Ok (reply.Working (copy.left_of y)) x (Some (seen_copying w y))) (sym same)
        (copy_reads moment past w s ends.0 t.publish x u (record { sound = sound; last = ends.2; container = refl }) run unread ends.5)))

    copy_get : s.publish.latest ≡ None → own ≡ [] → ((k : Manifest) → last_of past ≡ Some k → unlike s.publish seen k ≡ None) → (result : Work) → copying.WorkLeaves None seen s result t
        → SoundGetEnds o log seen s.edit s.publish result t.publish → CopySays result
    copy_get unread none like result leaves ends =
        get_says moment log own entries here f copy_q sound fits are w o view (task.Copy id t) to_end (ap read_number unread) none seen s.edit s.publish
        (copy_asked (container_of moment past) s.pages s.edit run.task.edit) like result t.publish
        (λ e. copy_got unread none (subst (λ (r : Work). copying.WorkLeaves None seen s r t) e leaves) (subst (λ (r : Work). SoundGetEnds o log seen s.edit s.publish r t.publish) e ends)) ends

    -- the put of a block
    module _ (l : Latest) (kept : s.publish.latest ≡ Some l) where
      copy_left : copy.left_of s ≡ copy.left_by s.block s
      copy_left = ap (λ (b : Bool). cond b 0 (copy.left_by s.block s)) run.waits

      copy_two : (b : Option ℕ) → s.block ≡ b → MatchOption b (copy.IsFresh s) (copy.IsUnderWay s) → 2 ≤ copy.left_of s
      copy_two None e fresh = absurd (let both : ◌≡◌ {A = Option Latest} None (Some l) = sym fresh.latest ∙ kept in cc)
      copy_two (Some block) e way =
          two_left (copy.left_of s) (copy.needed block s.edit - length (copy.put_ids s.edit))
          (copy_left ∙ ap (λ (b : Option ℕ). copy.left_by b s) e ∙ ap (λ (y : Option Latest). (copy.needed block s.edit - length (copy.put_ids s.edit)) + copy.manifest_requests y) kept)
          (not_one s.publish.latest l (copy.left_of s) kept waits)

      copy_more : 2 ≤ copy.left_of s
      copy_more = copy_two s.block refl (run.task.stage run.waits)

      copy_deletes : (c : m.Container) (pages : List Page) (e : EditPlan) → deleted_by copy_q (kind_of e pages) c ≡ c
      copy_deletes c pages (edit.New e) = refl
      copy_deletes c pages (edit.Copy from to) = refl
      copy_deletes c pages (edit.Remove name) = refl
      copy_deletes c pages (edit.Upload from e) = refl
      copy_deletes c pages (edit.Sweep ids) = refl

      copy_fails : Failed moment log own o → CopySays work.StoreFault
      copy_fails failed =
          request_fails_by moment log own entries here f copy_q sound fits are w o view (task.Copy id t) to_end l.manifest.number (ap read_number kept) copy_more failed.not
          (failed.same ∙ sym (after_none o copy_q (container_of moment past) (copy_deletes (container_of moment past) s.pages s.edit)))

      copy_block : (before : List Item) (ids : List Id16) (bytes : List ℕ) → AreUnused before ids → (result : Work) → copying.BlockLeaves s result t → copying.SoundBlockWork o before own ids bytes result
          → CopySays result
      copy_block before ids bytes unused work.More leaves ends =
          middle_goes moment log own entries here f copy_q sound fits are l.manifest.number (ap read_number kept) copy_more (container_of moment past) (put_same moment log own ends.0 bytes ends.4) o
          (reply.Working (copy.left_of t)) here f (Some (seen_copying w t)) refl
          (subst (λ (y : Outcome). GoesOn x u copy_q y (reply.Working (copy.left_of t)) x (Some (seen_copying w t))) (sym ends.2)
          (subst (λ (y : copy.State). GoesOn x u copy_q outcome.Ok (reply.Working (copy.left_of y)) x (Some (seen_copying w y))) (sym leaves.1) (copy_goes_on w s l leaves.0 x u run kept waits)))
      copy_block before ids bytes unused work.NameTaken leaves ends = absurd (never_taken before ids ends.0 unused ends.1 ends.3)
      copy_block before ids bytes unused work.StoreFault leaves ends = copy_fails (put_failed moment log own o (first_put before ends.0) ends.0 bytes ends.2)
      copy_block before ids bytes unused work.NamesFault leaves ends = tt
      copy_block before ids bytes unused work.NoMemory leaves ends = tt
      copy_block before ids bytes unused _ leaves ends = absurd ends

    pub copy_says : (before : List Entry) (ids : List Id16) → AreUnused (history_of before) ids → ((k : Manifest) → last_of past ≡ Some k → unlike s.publish seen k ≡ None) → (l : Option Latest) → s.publish.latest ≡ l
        → (result : Work) → copying.WorkLeaves l seen s result t → copying.SoundWorkEnds o before (log ++ own) own ids l seen s result t → CopySays result
    copy_says before ids unused like None unread result leaves ends =
        copy_get unread ends.0 like result leaves (subst (λ (after : List Entry). SoundGetEnds o after seen s.edit s.publish result t.publish) (unchanged log own ends.0) ends.1)
    copy_says before ids unused like (Some l) kept result leaves ends = copy_block l kept (history_of before) ids (copying.next_text l.manifest.block s s.edit) unused result leaves ends

  -- ---- uploads

  module _ (id : Id16) (s t : upload.State) (is : IsUploadOf past s view) (waits : upload.is_ready s ≡ false) (to_end : IsToEnd log entries here (seen_uploading w s view) w) where
    abbrev upload_q : m.Publication
    upload_q = seen_uploading w s view

    abbrev UploadSays : Work → Type 0
    UploadSays result = Says moment log own entries here f upload_q sound fits are w o view (task.Upload id t) result

    upload_asked : IsAskedAs (container_of moment past) (m.Uploading s.base.entry.name s.base.number view) (upload.asked_plan s)
    upload_asked = (
      refl,
      record { mine = database_of past s.base.entry; there = base_database moment past s.base.number s.base.block s.base.entry sound is.base; tag = refl },
      subst (λ (b : ℕ). blocks_needed b s.base.entry.page_size s.size ≤ most_blocks) (sym (base_block past s.base.number s.base.block s.base.entry sound is.base)) is.running.task.few,
    )

    upload_got : s.publish.latest ≡ None → own ≡ [] → (fetch : Bool) → uploading.WorkLeaves None fetch seen s work.More t → SoundGetEnds o log seen (upload.asked_plan s) s.publish work.More t.publish → UploadSays work.More
    upload_got unread none fetch leaves ends =
        let same : t ≡ uploading.with_publish s t.publish = leaves.2 ∙ ap (uploading.with_publish s) (sym (ap (λ (y : upload.State). y.publish) leaves.2)) in
        get_goes moment log own entries here f upload_q sound fits are (ap read_number unread) none o (reply.Working (upload.left_of t)) here f (Some (seen_uploading w t view))
        (subst (λ (y : Outcome). GetsManifest x u upload_q y (reply.Working (upload.left_of t)) x (Some (seen_uploading w t view))) (sym ends.1)
        (subst (λ (y : upload.State). GetsManifest x u upload_q outcome.Ok (reply.Working (upload.left_of y)) x (Some (seen_uploading w y view))) (sym same)
        (upload_reads moment past w s view ends.0 t.publish x u (record { sound = sound; last = ends.2; container = refl }) is unread ends.5)))

    upload_get : s.publish.latest ≡ None → own ≡ [] → ((k : Manifest) → last_of past ≡ Some k → unlike s.publish seen k ≡ None) → (fetch : Bool) (result : Work) → uploading.WorkLeaves None fetch seen s result t
        → SoundGetEnds o log seen (upload.asked_plan s) s.publish result t.publish → UploadSays result
    upload_get unread none like fetch result leaves ends =
        get_says moment log own entries here f upload_q sound fits are w o view (task.Upload id t) to_end (ap read_number unread) none seen (upload.asked_plan s) s.publish upload_asked like result t.publish
        (λ e. upload_got unread none fetch (subst (λ (r : Work). uploading.WorkLeaves None fetch seen s r t) e leaves) (subst (λ (r : Work). SoundGetEnds o log seen (upload.asked_plan s) s.publish r t.publish) e ends)) ends

    module _ (l : Latest) (kept : s.publish.latest ≡ Some l) where
      upload_left : upload.left_of s ≡ upload.block_requests s + 1
      upload_left =
          ap (λ (b : Bool). cond b 0 (upload.block_requests s + upload.manifest_requests s.publish.latest)) is.running.waits
          ∙ ap (λ (y : Option Latest). upload.block_requests s + upload.manifest_requests y) kept

      upload_more : 2 ≤ upload.left_of s
      upload_more = two_left (upload.left_of s) (upload.block_requests s) upload_left (not_one s.publish.latest l (upload.left_of s) kept waits)

      upload_on : (fetch : Bool) → container_of moment (history_of (log ++ own)) ≡ container_of moment past → o ≡ outcome.Ok → uploading.WorkLeaves (Some l) fetch seen s work.More t → UploadSays work.More
      upload_on fetch same ok leaves =
          middle_goes moment log own entries here f upload_q sound fits are l.manifest.number (ap read_number kept) upload_more (container_of moment past) same o
          (reply.Working (upload.left_of t)) here f (Some (seen_uploading w t view)) refl
          (subst (λ (y : Outcome). GoesOn x u upload_q y (reply.Working (upload.left_of t)) x (Some (seen_uploading w t view))) (sym ok) (upload_goes_on w s t view l fetch seen x u is.running kept waits leaves))

      upload_fails : Failed moment log own o → UploadSays work.StoreFault
      upload_fails failed =
          request_fails_by moment log own entries here f upload_q sound fits are w o view (task.Upload id t) to_end l.manifest.number (ap read_number kept) upload_more failed.not
          (failed.same ∙ sym (after_none o upload_q (container_of moment past) refl))

      -- the get of old bytes
      upload_fetch : own ≡ [] → (s.fetched ≡ None) → (uploading.IsOutlivedBase past s.base (upload.old_id s) → MayBeGone (container_of moment past) s.base.entry.name s.base.number) → (result : Work) → uploading.FetchLeaves s result t
          → uploading.SoundFetchEnds o past s.base (upload.old_id s) result t.fetched → UploadSays result
      upload_fetch none quiet gone work.More leaves ends = upload_on true (same_container moment log own none) ends.1 leaves
      upload_fetch none quiet gone work.Gone leaves ends =
          request_gone_by moment log own entries here f upload_q sound fits are w o view (task.Upload id t) to_end l.manifest.number (ap read_number kept) upload_more ends.0 (same_container moment log own none)
          (begun, gone ends.1)
        where
          begun : IsBlockBegun (upload.left_of s)
          begun =
              let left = upload_left in
              let none_made : get_made s.fetched ≡ 0 = ap get_made quiet in
              omega (arith, left, none_made)
      upload_fetch none quiet gone work.StoreFault leaves ends = upload_fails (record { not = ends; same = same_container moment log own none })
      upload_fetch none quiet gone work.NoMemory leaves ends = tt
      upload_fetch none quiet gone _ leaves ends = absurd ends

      -- the put of a block
      upload_put : (before : List Item) (ids : List Id16) (bytes : List ℕ) → AreUnused before ids → (e : BlockEnd) → uploading.BlockLeaves s (block_work e) t → SoundBlockEnds o before own ids bytes e
          → UploadSays (block_work e)
      upload_put before ids bytes unused end.Stored leaves ends = upload_on false (put_same moment log own ends.0 bytes ends.4) ends.2 leaves
      upload_put before ids bytes unused end.NameTaken leaves ends = absurd (never_taken before ids ends.0 unused ends.1 ends.3)
      upload_put before ids bytes unused end.StoreFault leaves ends = upload_fails (put_failed moment log own o (first_put before ends.0) ends.0 bytes ends.2)
      upload_put before ids bytes unused end.NamesFault leaves ends = tt
      upload_put before ids bytes unused end.NoMemory leaves ends = tt

    pub upload_says : (before : List Entry) (ids : List Id16) → AreUnused (history_of before) ids → ((k : Manifest) → last_of past ≡ Some k → unlike s.publish seen k ≡ None) → (l : Option Latest) → s.publish.latest ≡ l
        → (fetch : Bool) → (fetch ≡ true → s.fetched ≡ None) → (uploading.IsOutlivedBase past s.base (upload.old_id s) → MayBeGone (container_of moment past) s.base.entry.name s.base.number) → (bytes : List ℕ)
        → (result : Work) → uploading.WorkLeaves l fetch seen s result t → uploading.SoundWorkEnds o before (log ++ own) own ids l fetch seen bytes s result t → UploadSays result
    upload_says before ids unused like None unread fetch quiet gone bytes result leaves ends =
        upload_get unread ends.0 like fetch result leaves (subst (λ (after : List Entry). SoundGetEnds o after seen (upload.asked_plan s) s.publish result t.publish) (unchanged log own ends.0) ends.1)
    upload_says before ids unused like (Some l) kept true quiet gone bytes result leaves ends =
        upload_fetch l kept ends.0 (quiet refl) gone result leaves
        (subst (λ (after : List Entry). uploading.SoundFetchEnds o (history_of after) s.base (upload.old_id s) result t.fetched) (unchanged log own ends.0) ends.1)
    upload_says before ids unused like (Some l) kept false quiet gone bytes result leaves ends =
        subst (λ (r : Work). UploadSays r) (sym ends.1)
        (upload_put l kept (history_of before) ids bytes unused ends.0 (subst (λ (r : Work). uploading.BlockLeaves s r t) ends.1 leaves) ends.2)

  -- ---- cleanups

  module _ (id : Id16) (s t : cleanup.State) (run : cleanup.IsRunning s) (swept : IsSwept s) (waits : cleanup.is_ready s ≡ false) (to_end : IsToEnd log entries here (seen_cleaning w s) w) (answers : RuleAnswers) where
    abbrev clean_q : m.Publication
    clean_q = seen_cleaning w s

    abbrev CleanSays : Work → Type 0
    CleanSays result = Says moment log own entries here f clean_q sound fits are w o view (task.Cleanup id t) result

    clean_asked : (e : EditPlan) (ids : List Id16) → e ≡ edit.Sweep ids → IsAskedAs (container_of moment past) m.Cleaning e
    clean_asked e ids is = subst (IsAskedAs (container_of moment past) m.Cleaning) (sym is) tt

    asked_now : IsAskedAs (container_of moment past) m.Cleaning s.edit
    asked_now = clean_asked s.edit (cleanup.taken_ids s) run.task.edit

    -- the manifest that was kept is the one that was read
    same_read : (q : publish.State) (l : Latest) → t.publish ≡ q → q.latest ≡ Some l → (k : Latest) → t.publish ≡ publish.with_latest s.publish k → k ≡ l
    same_read q l is kept k becomes = same_Some k l (sym (ap (λ (y : publish.State). y.latest) becomes) ∙ ap (λ (y : publish.State). y.latest) is ∙ kept)

    clean_got : s.publish.latest ≡ None → own ≡ [] → cleanup.IsRunning t → (s.moment ≡ None → IfSome t.moment (λ at. at ≡ moment)) → cleaning.GetStep answers seen s work.More t
        → SoundGetEnds o log seen s.edit s.publish work.More t.publish → CleanSays work.More
    clean_got unread none runs now leaves ends =
        let at : ℕ = leaves.0 in
        let p : publish.State = leaves.1 in
        let keeps = leaves.4.3 in
        let becomes : t ≡ cleaning.with_taken s p at leaves.4.0 leaves.4.1 = keeps.becomes in
        let same : t.publish ≡ p = ap (λ (y : cleanup.State). y.publish) becomes in
        let read : ends.0 ≡ keeps.read = same_read p keeps.read same keeps.kept ends.0 ends.5.1 in
        get_goes moment log own entries here f clean_q sound fits are (ap read_number unread) none o (reply.Working (cleanup.left_of t)) here f (Some (seen_cleaning w t))
        (subst (λ (y : Outcome). GetsManifest x u clean_q y (reply.Working (cleanup.left_of t)) x (Some (seen_cleaning w t))) (sym ends.1)
        (cleanup_reads moment at past w s t ends.0 p leaves.4.0 leaves.4.1 x u (record { sound = sound; last = ends.2; container = refl }) run runs unread swept
        (subst (Checks s.edit s.publish ends.0 work.More) same ends.5)
        (subst (λ (l : Latest). TakesOld at l.manifest (cleanup.taken_ids s) leaves.4.0) (sym read) (takes_old answers at keeps.read.manifest (cleanup.taken_ids s) leaves.4.0 keeps.finds.takes))
        becomes leaves.2
        (λ first. subst (λ (y : Option ℕ). IfSome y (λ k. k ≡ moment)) (ap (λ (y : cleanup.State). y.moment) becomes) (now first))))

    -- nothing is there to be cleaned up, at a first get
    first_get : (refused : List ℕ) → s.publish.refused ≡ refused → IsSweptOf refused s → cleanup.taken_ids s ≡ [] → s.publish.refused ≡ []
    first_get [] is staged none = is
    first_get (n ∷ ns) is staged none = absurd (let some = staged in let long : length (cleanup.taken_ids s) ≡ 0 = ap length none in omega (arith, some, long))

    nothing_found : (v : Option Version) → CanPublish (container_of moment past) m.Cleaning v → s.publish.refused ≡ [] → IsFound (container_of moment past) clean_q v (reply.Cleaned 0 false)
    nothing_found None can first = absurd can
    nothing_found (Some v) can first = (can, first, refl, refl)

    clean_nothing : s.publish.latest ≡ None → own ≡ [] → cleanup.taken_ids s ≡ [] → (l : Latest) → o ≡ outcome.Ok → last_of past ≡ Some l.manifest → (q : publish.State) → Checks s.edit s.publish l work.More q → CleanSays work.Nothing
    clean_nothing unread none untaken l ok last q checks = λ r next free same how.
        get_goes moment log own entries here f clean_q sound fits are (ap read_number unread) none o r next free None
        (subst (λ (y : Outcome). GetsManifest x u clean_q y r (side_of moment past next free) None) (sym ok)
        (get_finds_nothing (container_of moment past) log entries here f clean_q w to_end
        (nothing_found (m.last_version (container_of moment past)) (passes_is_free moment past l.manifest m.Cleaning s.edit s.publish.writer sound last asked_now checks.0)
        (first_get s.publish.refused refl (swept unread) untaken)) r next free how))

    clean_fault : s.publish.latest ≡ None → own ≡ [] → ((k : Manifest) → last_of past ≡ Some k → unlike s.publish seen k ≡ None) → (result : Work) → (result ≡ work.More → CleanSays work.More)
        → SoundGetEnds o log seen s.edit s.publish result t.publish → CleanSays result
    clean_fault unread none like result on ends =
        get_says moment log own entries here f clean_q sound fits are w o view (task.Cleanup id t) to_end (ap read_number unread) none seen s.edit s.publish asked_now like result t.publish on ends

    clean_get : s.publish.latest ≡ None → own ≡ [] → ((k : Manifest) → last_of past ≡ Some k → unlike s.publish seen k ≡ None) → (result : Work) → (result ≡ work.More → cleanup.IsRunning t)
        → (s.moment ≡ None → IfSome t.moment (λ at. at ≡ moment)) → cleaning.GetStep answers seen s result t → cleaning.SoundReadEnds o log seen s result t → CleanSays result
    clean_get unread none like work.Nothing runs now leaves ends = clean_nothing unread none leaves.4.0 ends.0 ends.1 ends.2 t.publish ends.5
    clean_get unread none like work.ClockFault runs now leaves ends = tt
    clean_get unread none like work.More runs now leaves ends = clean_got unread none (runs refl) now leaves ends
    clean_get unread none like (work.Fault e) runs now leaves ends = clean_fault unread none like (work.Fault e) (λ more. absurd (cc)) ends
    clean_get unread none like work.NoContainer runs now leaves ends = clean_fault unread none like work.NoContainer (λ more. absurd (cc)) ends
    clean_get unread none like (work.BadManifest at) runs now leaves ends = clean_fault unread none like (work.BadManifest at) (λ more. absurd (cc)) ends
    clean_get unread none like work.Gone runs now leaves ends = clean_fault unread none like work.Gone (λ more. absurd (cc)) ends
    clean_get unread none like (work.BadBlock len) runs now leaves ends = clean_fault unread none like (work.BadBlock len) (λ more. absurd (cc)) ends
    clean_get unread none like work.NameTaken runs now leaves ends = clean_fault unread none like work.NameTaken (λ more. absurd (cc)) ends
    clean_get unread none like work.StoreFault runs now leaves ends = clean_fault unread none like work.StoreFault (λ more. absurd (cc)) ends
    clean_get unread none like work.NamesFault runs now leaves ends = tt
    clean_get unread none like work.NoMemory runs now leaves ends = tt

    module _ (l : Latest) (kept : s.publish.latest ≡ Some l) where
      clean_left : cleanup.left_of s ≡ (length (cleanup.taken_ids s) - s.deleted) + 1
      clean_left =
          ap (λ (b : Bool). cond b 0 (cleanup.deletions_left s.publish.latest (cleanup.taken_ids s) s.deleted + cleanup.manifest_requests s.publish.latest)) run.waits
          ∙ ap (λ (y : Option Latest). cleanup.deletions_left y (cleanup.taken_ids s) s.deleted + cleanup.manifest_requests y) kept

      clean_more : 2 ≤ cleanup.left_of s
      clean_more = two_left (cleanup.left_of s) (length (cleanup.taken_ids s) - s.deleted) clean_left (not_one s.publish.latest l (cleanup.left_of s) kept waits)

      -- the container after a deletion at the moment at which the cleanup began
      swept_then : (at : ℕ) → s.moment ≡ Some at → deleted_by clean_q m.Cleaning (container_of moment past) ≡ record (container_of moment past) { swept = swept_at at (container_of moment past).swept }
      swept_then at known =
          ap (λ (y : Option ℕ). swept_by (option_map (λ (k : ℕ). record { moment = k; count = length (cleanup.taken_ids s) }) y) (container_of moment past)) known

      deletion_is : (i : Id16) (at : ℕ) → cleaning.IsDeletion own i at
          → container_of moment (history_of (log ++ own)) ≡ record (container_of moment past) { swept = swept_at at (container_of moment past).swept }
      deletion_is i at one = after_one moment log own (entry.Deleted true (object.Block i) at) one

      clean_fails : (i : Id16) (at : ℕ) → s.moment ≡ Some at → (y : Outcome) → o ≡ y → cleaning.DeletionFails y own i at → CleanSays work.StoreFault
      clean_fails i at known outcome.Ok is fails = absurd fails
      clean_fails i at known outcome.Fail is fails =
          request_fails_by moment log own entries here f clean_q sound fits are w o view (task.Cleanup id t) to_end l.manifest.number (ap read_number kept) clean_more
          (λ ok. let both : outcome.Fail ≡ outcome.Ok = sym is ∙ ok in cc)
          (same_container moment log own fails ∙ ap (λ (y : Outcome). after_request y clean_q (container_of moment past)) (sym is))
      clean_fails i at known outcome.Lost is fails =
          request_fails_by moment log own entries here f clean_q sound fits are w o view (task.Cleanup id t) to_end l.manifest.number (ap read_number kept) clean_more
          (λ ok. let both : outcome.Lost ≡ outcome.Ok = sym is ∙ ok in cc)
          (deletion_is i at fails ∙ sym (swept_then at known) ∙ ap (λ (y : Outcome). after_request y clean_q (container_of moment past)) (sym is))

      clean_delete : (i : Id16) (at : ℕ) → s.moment ≡ Some at → (result : Work) → cleaning.DeleteLeaves s result t → cleaning.SoundDeleteEnds o own i at result → CleanSays result
      clean_delete i at known work.More leaves ends =
          middle_goes moment log own entries here f clean_q sound fits are l.manifest.number (ap read_number kept) clean_more
          (record (container_of moment past) { swept = swept_at at (container_of moment past).swept }) (deletion_is i at ends.1) o
          (reply.Working (cleanup.left_of t)) here f (Some (seen_cleaning w t)) refl
          (subst (λ (y : Outcome). GoesOn x u clean_q y (reply.Working (cleanup.left_of t)) (record x { container = record (container_of moment past) { swept = swept_at at (container_of moment past).swept } }) (Some (seen_cleaning w t)))
          (sym ends.0) (cleanup_goes_on moment at past w s t i l x u refl run kept waits known leaves))
      clean_delete i at known work.StoreFault leaves ends = clean_fails i at known o refl ends
      clean_delete i at known work.NoMemory leaves ends = tt
      clean_delete i at known _ leaves ends = absurd ends

    pub clean_says : ((k : Manifest) → last_of past ≡ Some k → unlike s.publish seen k ≡ None) → (l : Option Latest) → s.publish.latest ≡ l
        → (result : Work) → (result ≡ work.More → cleanup.IsRunning t) → (s.moment ≡ None → IfSome t.moment (λ at. at ≡ moment)) → cleaning.WorkLeaves answers l seen s result t
        → cleaning.SoundWorkEnds o (log ++ own) own l seen s result t → CleanSays result
    clean_says like None unread result runs now leaves ends =
        clean_get unread ends.0 like result runs now leaves (subst (λ (after : List Entry). cleaning.SoundReadEnds o after seen s result t) (unchanged log own ends.0) ends.1)
    clean_says like (Some l) kept result runs now leaves ends = clean_delete l kept ends.0 ends.1 ends.2.moment result leaves ends.3
