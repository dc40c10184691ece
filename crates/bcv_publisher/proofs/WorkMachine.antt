-- A step of a publication before its put is the machine's, and leaves a client that fits its log.
use Rattle.std.proofs.Common.{◌≡◌, ◌≢◌, ◌∙◌, ℕ, Bool, false, cond, List, [], ◌++◌, length, Option, Some, None, is_none, IsSome, IfSome, refl, sym, ap, subst}
use Rattle.bcv_base.specs.declared.id.Id16.{Id16}
use Rattle.bcv_base.specs.declared.log.Entry.{Entry}
use Rattle.bcv_base.specs.declared.manifest.Manifest.{Manifest}
use Rattle.bcv_base.specs.declared.outcome.Outcome.{Outcome}
use Rattle.bcv_base.specs.declared.outcome.Outcome.TheVariants as outcome
use Rattle.bcv_base.specs.declared.seen.Seen.{Seen}
use Rattle.bcv_base.specs.Drawn.{NamesShown}
use Rattle.bcv_base.specs.Faults.{Rose}
use Rattle.bcv_base.specs.History.{history_of, last_of}
use Rattle.bcv_base.specs.Ids.{IsId}
use Rattle.bcv_base.specs.Image.{Writes}
use Rattle.bcv_base.specs.Moments.{ClockShown}
use Rattle.bcv_cache.specs.Entry.{Blocks}
use Rattle.bcv_cleanup.specs.CleanupWork as cleaning
use Rattle.bcv_cleanup.specs.Released.{RuleAnswers}
use Rattle.bcv_cleanup.specs.State as cleanup
use Rattle.bcv_clientlaws.specs.OwnEntries.{AreOfBlocks}
use Rattle.bcv_clientlaws.proofs.Appended.{seen_later}
use Rattle.bcv_clientlaws.proofs.OtherParts.{client_is_mine, in_front, names_suffice, others_leave_fits, tasks_are_mine}
use Rattle.bcv_clientlaws.proofs.OwnEntries.{blocks_leave_fits, cleanup_appends, copy_appends, upload_appends}
use Rattle.bcv_clientlog.specs.LogParts.{is_shut}
use Rattle.bcv_clientstate.specs.CheckLaws.{fault_reply}
use Rattle.bcv_clientstate.specs.Fits.{Fits, FitsJob, FitsSeen}
use Rattle.bcv_clientstate.specs.Journaled.{Journaled}
use Rattle.bcv_clientstate.specs.Parts.{Parts, mine_of, names_of_job, with_ledger}
use Rattle.bcv_clientstate.specs.SeenClient.{Free}
use Rattle.bcv_clientstate.specs.Stages.{IsStagedJob}
use Rattle.bcv_clientstate.specs.WorkSides.{IsUploadOf}
use Rattle.bcv_clientstate.proofs.Stages.{upload_stays_staged}
use Rattle.bcv_dbcopy.specs.State as copy
use Rattle.bcv_dbcopy.specs.TaskWork as copying
use Rattle.bcv_dbmap.specs.Honest.{GrewHonestly}
use Rattle.bcv_dbmap.specs.RequestGrowth.{RequestGrowth}
use Rattle.bcv_dbmap.specs.Sound.{IsSoundLog}
use Rattle.bcv_dbmap.proofs.OthersLaws.{others_keep_sound}
use Rattle.bcv_disk.specs.DiskShown.{DiskShown, DiskTold}
use Rattle.bcv_ledger.specs.declared.ledger.Ledger.{Ledger}
use Rattle.bcv_ledger.specs.Begins.{WaitsFor}
use Rattle.bcv_ledger.specs.LedgerNotes.{parts_in}
use Rattle.bcv_machine.specs.State as m
use Rattle.bcv_model.specs.declared.kept.PendingPub.{PendingPub}
use Rattle.bcv_model.specs.declared.reply.Reply.{Reply}
use Rattle.bcv_model.specs.declared.reply.Reply.TheVariants as reply
use Rattle.bcv_publication.specs.TaskSides.{MayStep, job_of, seen_task, with_job}
use Rattle.bcv_publish.specs.declared.work.Work.{Work}
use Rattle.bcv_publish.specs.declared.work.Work.TheVariants as work
use Rattle.bcv_publish.specs.BlockPut.{AreFresh}
use Rattle.bcv_publish.specs.ManifestRead.{unlike}
use Rattle.bcv_store.specs.Plans.{next_of}
use Rattle.bcv_store.specs.StoreShown.{StoreShown, StoreTold}
use Rattle.bcv_tasks.specs.declared.publish_task.PublishTask.{PublishTask}
use Rattle.bcv_tasks.specs.declared.publish_task.PublishTask.TheVariants as task
use Rattle.bcv_tasks.specs.State.{IsRunning, id_of, is_ready, left_of, pending_of, publish_of}
use Rattle.bcv_tasks.specs.TaskWork.{AnswersWork, WorkLeaves, WorksAs, cache_after}
use Rattle.bcv_upload.specs.State as upload
use Rattle.bcv_upload.specs.UploadWork as uploading
use Rattle.bcv_publisher.specs.PutStep.{Armed, StepGoes, rest_of}
use Rattle.bcv_publisher.specs.WorkEnds.{EndsBy, EndsWork}
use Rattle.bcv_publisher.specs.WorkStep.{IsEvent, IsReplyTo, MayWork, TaskFits, WorkJournals, WorkSays, drawn_ids, moment_read, seen_before}
use Rattle.bcv_publisher.proofs.WorkFaults.{Leaves, fault_leaves, is_id, rest_fits, to_end}
use Rattle.bcv_publisher.proofs.WorkFits.{are_first, cache_fits, clean_goes, clean_staged, copy_goes, fetch_is_first, ledger_fits, upload_goes}
use Rattle.bcv_publisher.proofs.WorkGoes.{By, Says, never_bad}
use Rattle.bcv_publisher.proofs.WorkGone.{outlived_base}
use Rattle.bcv_publisher.proofs.WorkKinds.{clean_says, copy_says, upload_says}
use Rattle.bcv_publisher.proofs.WorkOutcomes.{clean_had, clean_read, copy_had, copy_read, upload_had, upload_read}

-- ---- replies

-- a task that ends is not there any more
rest_none : (w : Option PendingPub) (view : List Writes) (r : Reply) (u : PublishTask) (made : Work) → IsReplyTo r made → (made ≡ work.More → ⊥) → rest_of w view r u ≡ None
rest_none w view (reply.Working left) u made is not = absurd (not is)
rest_none w view _ u made is not = refl

none_fits : (mine : List Id16) (p : Parts) (log : List Entry) (view : List Writes) (r : Reply) (u : PublishTask) (made : Work) → IsReplyTo r made → (made ≡ work.More → ⊥) → TaskFits mine p log view r u
none_fits mine p log view (reply.Working left) u made is not = absurd (not is)
none_fits mine p log view _ u made is not = tt

module _ {D : Type 0} {g : _} (store : StoreTold) (mine : List Id16) (before after : StoreShown) (seen : Seen) (view : List Writes) (c : Blocks) (old : Ledger D g) (p : Parts) (n : ℕ) (t : PublishTask)
    (ids : List Id16) (may : MayWork mine before.log (with_ledger (parts_in old) p) c.entries n view seen t ids) where
  abbrev pub here : Parts
  here = with_ledger (parts_in old) p

  abbrev w : Option PendingPub
  w = old.databases.kept.pending

  abbrev q : m.Publication
  q = seen_task w view t

  -- ---- the log with what others appended

  module _ (growth : RequestGrowth store.alone mine before.log after.log) where
    abbrev pub grown : List Entry
    grown = before.log ++ growth.others

    pub sound_then : IsSoundLog grown
    sound_then = others_keep_sound mine before.log growth.others may.step.sound growth.lawful

    pub step_then : MayStep grown here c.entries n view t
    step_then = record {
      sound = sound_then;
      fits = others_leave_fits mine before.log growth.others (with_job n (job_of view t) here) c.entries may.step.sound may.own growth.lawful may.step.fits;
      quiet = may.step.quiet;
      running = may.step.running;
      writer = may.step.writer;
      waits = may.step.waits;
      count = may.step.count;
    }

    pub fits_then : Fits here c.entries grown
    fits_then = rest_fits grown c.entries here n view t step_then

    pub like_then : (k : Manifest) → last_of (history_of grown) ≡ Some k → unlike (publish_of t) seen k ≡ None
    like_then =
        never_bad (history_of grown) seen (publish_of t) sound_then (seen_later before.log growth.others seen may.seen_is)
        (seen_later before.log growth.others (seen_before (publish_of t)) may.read_is)

  -- ---- what each kind of task gives

  pub record Given (made : Work) (u : PublishTask) : Type 0 where
    pub growth : RequestGrowth store.alone mine before.log after.log
    pub request : Outcome
    pub next_is : store.plans → request ≡ next_of before.plan
    pub are : AreOfBlocks growth.own
    pub had : AnswersWork made request
    pub says : (moment : ℕ) → IfSome (moment_read t u) (λ at. at ≡ moment) → (f : Free)
        → Says moment (grown growth) growth.own c.entries here f q (sound_then growth) (fits_then growth) are w request view u made
    pub job : made ≡ work.More → FitsJob mine here.id here.kept (grown growth ++ growth.own) (job_of view u) × IsStagedJob (job_of view u) × (seen_before (publish_of u) ≡ seen_before (publish_of t))

  -- ---- the job that a task is, of the names that are mine

  pub own_job : FitsJob mine here.id here.kept before.log (job_of view t)
  own_job =
      let whole : Parts = with_job n (job_of view t) here in
      names_suffice (mine_of whole) mine here.id here.kept before.log (job_of view t) may.step.fits.tasks.0 (may.own here.id (client_is_mine whole))
      (λ i h. may.own i (in_front (mine_of whole) (names_of_job (job_of view t)) _ (tasks_are_mine whole) i h))

  pub own_job_then : (growth : RequestGrowth store.alone mine before.log after.log) → FitsJob mine here.id here.kept (grown growth) (job_of view t)
  own_job_then growth =
      let whole : Parts = with_job n (job_of view t) here in
      names_suffice (mine_of whole) mine here.id here.kept (grown growth) (job_of view t) (step_then growth).fits.tasks.0 (may.own here.id (client_is_mine whole))
      (λ i h. may.own i (in_front (mine_of whole) (names_of_job (job_of view t)) _ (tasks_are_mine whole) i h))

  pub fresh_then : AreFresh mine before.log ids
  fresh_then i h = (may.drawn i h, (may.unused i h).0)

  -- ---- the end

  module _ (told : DiskTold) (shown : D → DiskShown) (names later_names : NamesShown) (clock later_clock : ClockShown) (later_c : Blocks) (new : Ledger D g)
      (made : Work) (u : PublishTask) (given : Given made u) (r : Reply) (ends : EndsWork told shown old new u made r) (is_reply : IsReplyTo r made) (tells : told.tells)
      (is_open : is_shut old.log ≡ false) (same_id : id_of u ≡ id_of t) (cached : later_c ≡ cache_after view t c) (failed : made ≡ work.StoreFault → Rose before.faults after.faults)
      (names_failed : made ≡ work.NamesFault → Rose names.faults later_names.faults) (clock_failed : made ≡ work.ClockFault → Rose clock.faults later_clock.faults) where
    abbrev next : Parts
    next = with_ledger (parts_in new) p

    abbrev log : List Entry
    log = grown given.growth

    abbrev own : List Entry
    own = given.growth.own

    grown_is : after.log ≡ log ++ own
    grown_is = given.growth.grown

    client_fits : Fits next later_c.entries after.log
    client_fits =
        ledger_fits told shown old new after.log p later_c.entries
        (subst (λ (l : List Entry). Fits here later_c.entries l) (sym grown_is)
        (blocks_leave_fits log own here later_c.entries (cache_fits log here view t c later_c (fits_then given.growth) cached) may.alone given.are))
        may.alone u made r ends

    job_fits : (x : Work) → made ≡ x → TaskFits mine next after.log view r u
    job_fits work.More is =
        let on = subst (λ (y : Work). EndsWork told shown old new u y r) is ends in
        let job = given.job is in
        subst (λ (y : Reply). TaskFits mine next after.log view y u) (sym on.1) (
          subst (λ (l : Ledger D g). FitsJob mine p.id l.databases.kept after.log (job_of view u)) (sym on.0)
              (subst (λ (l : List Entry). FitsJob mine p.id old.databases.kept l (job_of view u)) (sym grown_is) job.0),
          job.1,
          subst (λ (s : Seen). FitsSeen (history_of after.log) s) (sym job.2)
              (subst (λ (l : List Entry). FitsSeen (history_of l) (seen_before (publish_of t))) (sym grown_is)
              (seen_later log own (seen_before (publish_of t)) (seen_later before.log given.growth.others (seen_before (publish_of t)) may.read_is))),
        )
    job_fits _ is = none_fits mine next after.log view r u made is_reply (λ more. absurd (cc (is, more)))

    -- ---- the step

    same_pending : (o : Option PendingPub) → WaitsFor o (pending_of (length view) t) → IfSome o (λ x. x.id ≡ id_of u)
    same_pending None waits = tt
    same_pending (Some x) waits = ap (λ (y : PendingPub). y.id) waits ∙ sym same_id

    module _ (f : Free) (journaled : Journaled shown old.log old.databases.kept f) (armed : Armed r f) where
      abbrev Went : Type 0
      Went = WorkJournals shown log after.log names later_names clock later_clock old new p view t given.request r u f

      -- what is said at the moment that a cleanup read
      abbrev SaysOf : Work → Type 0
      SaysOf x =
          (moment : ℕ) → IfSome (moment_read t u) (λ at. at ≡ moment)
          → Says moment log own c.entries here f q (sound_then given.growth) (fits_then given.growth) given.are w given.request view u x

      abbrev Goes : ℕ → Free → Option m.Publication → Type 0
      Goes moment free rest = StepGoes moment (history_of log) (history_of after.log) here next f free q given.request r rest

      -- the history of the log afterwards
      at_last : (moment : ℕ) (next : Parts) (free : Free) (y : Reply) (rest : Option m.Publication) → StepGoes moment (history_of log) (history_of (log ++ own)) here next f free q given.request y rest
          → StepGoes moment (history_of log) (history_of after.log) here next f free q given.request y rest
      at_last moment next free y rest goes = subst (λ (l : List Entry). StepGoes moment (history_of log) (history_of l) here next f free q given.request y rest) (sym grown_is) goes

      went_on : EndsWork told shown old new u work.More r → SaysOf work.More → Went
      went_on on says = record {
        free = f;
        slots = refl;
        journaled = subst (λ (l : Ledger D g). Journaled shown l.log l.databases.kept f) (sym on.0) journaled;
        goes = λ event moment read.
            subst (λ (l : Ledger D g). StepGoes moment (history_of log) (history_of after.log) here (with_ledger (parts_in l) p) f f q given.request r (rest_of l.databases.kept.pending view r u)) (sym on.0)
            (subst (λ (y : Reply). StepGoes moment (history_of log) (history_of after.log) here here f f q given.request y (rest_of w view y u)) (sym on.1)
            (at_last moment here f (reply.Working (left_of u)) (Some (seen_task w view u)) (says moment read)));
      }

      -- what a task that ended by a fault left
      left_by : (fault : Reply) → EndsBy told shown old new u w fault r → Leaves told shown old new p u tells is_open w fault r f
      left_by fault by =
          fault_leaves told shown old new p u tells is_open w refl (same_pending w may.step.waits) (subst IsSome (sym may.step.fits.named) refl)
          (subst IsId (sym same_id) (is_id before.log c.entries here n view t may.step)) fault r by f journaled armed

      went_out : (fault : Reply) → (made ≡ work.More → ⊥) → EndsBy told shown old new u w fault r
          → (IsEvent names later_names clock later_clock r → (moment : ℕ) → IfSome (moment_read t u) (λ at. at ≡ moment)
          → By moment log own c.entries here f q (sound_then given.growth) (fits_then given.growth) given.are w given.request view u fault) → Went
      went_out fault not by says =
          let left = left_by fault by in
          record {
            free = left.free;
            slots = left.slots;
            journaled = left.journaled;
            goes = λ event moment read.
                subst (λ (o : Option m.Publication). Goes moment left.free o) (sym (rest_none new.databases.kept.pending view r u made is_reply not))
                (at_last moment next left.free r None (says event moment read r next left.free refl (left.ended event.memory)));
          }

      not_more : (x : Work) → made ≡ x → (x ≡ work.More → ⊥) → made ≡ work.More → ⊥
      not_more x is other more = other (sym is ∙ more)

      went : (x : Work) → made ≡ x → EndsWork told shown old new u x r → SaysOf x → Went
      went work.More is by says = went_on by says
      went work.NoMemory is by says = record {
        free = f;
        slots = refl;
        journaled = subst (λ (l : Ledger D g). Journaled shown l.log l.databases.kept f) (sym by.0) journaled;
        goes = λ event. absurd (event.memory by.1);
      }
      went work.NamesFault is by says = went_out reply.NamesFault (not_more work.NamesFault is (λ e. absurd (cc))) by (λ event. absurd (event.name (names_failed is)))
      went work.ClockFault is by says = went_out reply.ClockFault (not_more work.ClockFault is (λ e. absurd (cc))) by (λ event. absurd (event.moment (clock_failed is)))
      went work.Nothing is by says = went_out (reply.Cleaned 0 false) (not_more work.Nothing is (λ e. absurd (cc))) by (λ event. says)
      went (work.Fault e) is by says = went_out (fault_reply e) (not_more (work.Fault e) is (λ e. absurd (cc))) by (λ event. says)
      went work.NoContainer is by says = went_out reply.NoContainer (not_more work.NoContainer is (λ e. absurd (cc))) by (λ event. says)
      went (work.BadManifest at) is by says = went_out (reply.BadManifest at) (not_more (work.BadManifest at) is (λ e. absurd (cc))) by (λ event. says)
      went work.Gone is by says = went_out reply.Gone (not_more work.Gone is (λ e. absurd (cc))) by (λ event. says)
      went (work.BadBlock len) is by says = went_out (reply.BadBlock len) (not_more (work.BadBlock len) is (λ e. absurd (cc))) by (λ event. says)
      went work.NameTaken is by says = went_out reply.NameTaken (not_more work.NameTaken is (λ e. absurd (cc))) by (λ event. says)
      went work.StoreFault is by says = went_out reply.StoreFault (not_more work.StoreFault is (λ e. absurd (cc))) by (λ event. says)

    -- an outcome that is not Ok is that of a fault of the store
    cause : (x : Work) → made ≡ x → (x ≡ work.NamesFault → ⊥) → (x ≡ work.ClockFault → ⊥) → (x ≡ work.NoMemory → ⊥) → AnswersWork x given.request → given.request ≢ outcome.Ok → Rose before.faults after.faults
    cause work.StoreFault is named timed found had not = failed is
    cause work.NamesFault is named timed found had not = absurd (named refl)
    cause work.ClockFault is named timed found had not = absurd (timed refl)
    cause work.NoMemory is named timed found had not = absurd (found refl)
    cause _ is named timed found had not = absurd (not had)

    out_of_memory : made ≡ work.NoMemory → r ≡ reply.NoMemory
    out_of_memory e = (subst (λ (y : Work). EndsWork told shown old new u y r) e ends).1

    pub worked : WorkSays shown store mine before after names later_names clock later_clock later_c old new p view t r u
    worked = record {
      growth = given.growth;
      client = client_fits;
      job = job_fits made refl;
      request = given.request;
      planned = given.next_is;
      cause = λ event not. cause made refl (λ e. event.name (names_failed e)) (λ e. event.moment (clock_failed e)) (λ e. event.memory (out_of_memory e)) given.had not;
      journals = λ f journaled armed. went f journaled armed made refl ends (λ moment read. given.says moment read f);
    }

-- ---- each kind

module _ {D : Type 0} {g : _} (store : StoreTold) (mine : List Id16) (before after : StoreShown) (names later_names : NamesShown) (clock later_clock : ClockShown)
    (seen : Seen) (view : List Writes) (c : Blocks) (old : Ledger D g) (p : Parts) (n : ℕ) (store_tells : store.tells) (honest : GrewHonestly store.alone mine before.log after.log) where
  copy_given : (id : Id16) (s : copy.State) (i : Id16) (v : copy.State) (made : Work) (kind : copying.TaskWorks store before after names later_names seen s made v)
      → (may : MayWork mine before.log (with_ledger (parts_in old) p) c.entries n view seen (task.Copy id s) kind.ids) → copying.WorkLeaves s.publish.latest seen s made v → copy.is_ready s ≡ false
      → (made ≡ work.More → copy.IsRunning v) → Given store mine before after seen view c old p n (task.Copy id s) kind.ids may made (task.Copy i v)
  copy_given id s i v made kind may leaves waits runs =
      let sound = kind.sound store_tells mine may.step.sound honest (own_job store mine before after seen view c old p n (task.Copy id s) kind.ids may).2 (fresh_then store mine before after seen view c old p n (task.Copy id s) kind.ids may) in
      let own : List Entry = sound.growth.own in
      let log : List Entry = before.log ++ sound.growth.others in
      let ends : copying.SoundWorkEnds sound.outcome before.log (log ++ own) own kind.ids s.publish.latest seen s made v =
      subst (λ (l : List Entry). copying.SoundWorkEnds sound.outcome before.log l own kind.ids s.publish.latest seen s made v) sound.growth.grown sound.ends in
      let are : AreOfBlocks own = copy_appends sound.outcome before.log (log ++ own) own kind.ids seen s v made ends in
      record {
        growth = sound.growth;
        request = sound.outcome;
        next_is = sound.next;
        are = are;
        had = copy_had sound.outcome before.log (log ++ own) own kind.ids s.publish.latest seen s made v ends;
        says = λ moment read f.
            copy_says moment log own c.entries (with_ledger (parts_in old) p) f (sound_then store mine before after seen view c old p n (task.Copy id s) kind.ids may sound.growth)
            (fits_then store mine before after seen view c old p n (task.Copy id s) kind.ids may sound.growth) are old.databases.kept.pending sound.outcome view seen i s v may.step.running.1 waits
            (to_end log c.entries (with_ledger (parts_in old) p) n view (task.Copy id s) (step_then store mine before after seen view c old p n (task.Copy id s) kind.ids may sound.growth) may.alone old.databases.kept.pending refl)
            before.log kind.ids may.unused (like_then store mine before after seen view c old p n (task.Copy id s) kind.ids may sound.growth) s.publish.latest refl made leaves ends;
        job = λ more.
            let on = subst (λ (y : Work). copying.WorkLeaves s.publish.latest seen s y v) more leaves in (
              copy_goes mine (with_ledger (parts_in old) p).id old.databases.kept log own sound.outcome before.log kind.ids seen s v
                  (own_job_then store mine before after seen view c old p n (task.Copy id s) kind.ids may sound.growth) (runs more) on
                  (subst (λ (y : Work). copying.SoundWorkEnds sound.outcome before.log (log ++ own) own kind.ids s.publish.latest seen s y v) more ends)
                  (subst (λ (l : List Entry). copying.OwnsBlocks mine l v) sound.growth.grown sound.blocks),
              tt,
              copy_read s.publish.latest seen s v on,
            );
      }

  upload_given : (id : Id16) (s : upload.State) (i : Id16) (v : upload.State) (made : Work) (kind : uploading.TaskWorks store before after names later_names seen view c s made v)
      → (may : MayWork mine before.log (with_ledger (parts_in old) p) c.entries n view seen (task.Upload id s) kind.ids) → uploading.WorkLeaves s.publish.latest (uploading.is_fetch view c s) seen s made v
      → upload.is_ready s ≡ false → (made ≡ work.More → upload.IsRunning v) → Given store mine before after seen view c old p n (task.Upload id s) kind.ids may made (task.Upload i v)
  upload_given id s i v made kind may leaves waits runs =
      let here : Parts = with_ledger (parts_in old) p in
      let fetch : Bool = uploading.is_fetch view c s in
      let text : List ℕ = uploading.next_text view c s in
      let sound = kind.sound store_tells mine may.step.sound honest (own_job store mine before after seen view c old p n (task.Upload id s) kind.ids may).2 (are_first (history_of before.log) c.entries may.step.fits.cached)
      (fresh_then store mine before after seen view c old p n (task.Upload id s) kind.ids may) in
      let own : List Entry = sound.growth.own in
      let log : List Entry = before.log ++ sound.growth.others in
      let ends : uploading.SoundWorkEnds sound.outcome before.log (log ++ own) own kind.ids s.publish.latest fetch seen text s made v =
      subst (λ (l : List Entry). uploading.SoundWorkEnds sound.outcome before.log l own kind.ids s.publish.latest fetch seen text s made v) sound.growth.grown sound.ends in
      let are : AreOfBlocks own = upload_appends sound.outcome before.log (log ++ own) own kind.ids fetch seen text s v made ends in
      let now = step_then store mine before after seen view c old p n (task.Upload id s) kind.ids may sound.growth in
      let is : IsUploadOf (history_of log) s view = record { running = now.running.1; base = now.fits.tasks.0.5; of_view = now.fits.tasks.0.3; staged = now.fits.staged.0 } in
      let sound_now = sound_then store mine before after seen view c old p n (task.Upload id s) kind.ids may sound.growth in
      record {
        growth = sound.growth;
        request = sound.outcome;
        next_is = sound.next;
        are = are;
        had = upload_had sound.outcome before.log (log ++ own) own kind.ids s.publish.latest fetch seen text s made v ends;
        says = λ moment read f.
            upload_says moment log own c.entries here f sound_now
            (fits_then store mine before after seen view c old p n (task.Upload id s) kind.ids may sound.growth) are old.databases.kept.pending sound.outcome view seen i s v is waits
            (to_end log c.entries here n view (task.Upload id s) now may.alone old.databases.kept.pending refl)
            before.log kind.ids may.unused (like_then store mine before after seen view c old p n (task.Upload id s) kind.ids may sound.growth) s.publish.latest refl fetch (fetch_is_first view c s)
            (outlived_base moment (history_of log) s.base (upload.old_id s) sound_now is.base) text made leaves ends;
        job = λ more.
            let on = subst (λ (y : Work). uploading.WorkLeaves s.publish.latest fetch seen s y v) more leaves in (
              upload_goes mine here.id old.databases.kept log own sound.outcome before.log kind.ids fetch seen text view s v
                  (own_job_then store mine before after seen view c old p n (task.Upload id s) kind.ids may sound.growth) (runs more) on
                  (subst (λ (y : Work). uploading.SoundWorkEnds sound.outcome before.log (log ++ own) own kind.ids s.publish.latest fetch seen text s y v) more ends)
                  (subst (λ (l : List Entry). uploading.OwnsBlocks mine l view v) sound.growth.grown sound.blocks),
              upload_stays_staged s v fetch seen on,
              upload_read s.publish.latest fetch seen s v on,
            );
      }

  clean_given : (answers : RuleAnswers) (id : Id16) (s : cleanup.State) (i : Id16) (v : cleanup.State) (made : Work) → cleaning.TaskWorks store before after clock later_clock seen s made v
      → (may : MayWork mine before.log (with_ledger (parts_in old) p) c.entries n view seen (task.Cleanup id s) []) → cleaning.WorkLeaves answers s.publish.latest seen s made v
      → cleanup.is_ready s ≡ false → (made ≡ work.More → cleanup.IsRunning v) → Given store mine before after seen view c old p n (task.Cleanup id s) [] may made (task.Cleanup i v)
  clean_given answers id s i v made kind may leaves waits runs =
      let here : Parts = with_ledger (parts_in old) p in
      let sound = kind.sound store_tells mine may.step.sound honest (own_job store mine before after seen view c old p n (task.Cleanup id s) [] may).2 in
      let own : List Entry = sound.growth.own in
      let log : List Entry = before.log ++ sound.growth.others in
      let ends : cleaning.SoundWorkEnds sound.outcome (log ++ own) own s.publish.latest seen s made v =
      subst (λ (l : List Entry). cleaning.SoundWorkEnds sound.outcome l own s.publish.latest seen s made v) sound.growth.grown sound.ends in
      let are : AreOfBlocks own = cleanup_appends sound.outcome (log ++ own) own seen s v made ends in
      let now = step_then store mine before after seen view c old p n (task.Cleanup id s) [] may sound.growth in
      record {
        growth = sound.growth;
        request = sound.outcome;
        next_is = sound.next;
        are = are;
        had = clean_had sound.outcome (log ++ own) own s.publish.latest seen s made v ends;
        says = λ moment read f.
            clean_says moment log own c.entries here f (sound_then store mine before after seen view c old p n (task.Cleanup id s) [] may sound.growth)
            (fits_then store mine before after seen view c old p n (task.Cleanup id s) [] may sound.growth) are old.databases.kept.pending sound.outcome view seen i s v now.running.1 now.fits.staged.0 waits
            (to_end log c.entries here n view (task.Cleanup id s) now may.alone old.databases.kept.pending refl) answers
            (like_then store mine before after seen view c old p n (task.Cleanup id s) [] may sound.growth) s.publish.latest refl made runs
            (λ first. subst (λ (y : Option ℕ). IfSome (cond (is_none y) v.moment None) (λ at. at ≡ moment)) first read) leaves ends;
        job = λ more.
            let on = subst (λ (y : Work). cleaning.WorkLeaves answers s.publish.latest seen s y v) more leaves in (
              clean_goes mine here.id old.databases.kept log own sound.outcome seen answers s v
                  (own_job_then store mine before after seen view c old p n (task.Cleanup id s) [] may sound.growth) (runs more) on
                  (subst (λ (y : Work). cleaning.SoundWorkEnds sound.outcome (log ++ own) own s.publish.latest seen s y v) more ends)
                  (subst (λ (l : List Entry). cleaning.HasTaken l v) sound.growth.grown sound.taken),
              clean_staged answers seen s v on,
              clean_read answers s.publish.latest seen s v on,
            );
      }

  pub given_by : (answers : RuleAnswers) (t : PublishTask) (made : Work) (u : PublishTask) (kind : WorksAs store before after names later_names clock later_clock seen view c t made u)
      → (may : MayWork mine before.log (with_ledger (parts_in old) p) c.entries n view seen t (drawn_ids store before after names later_names clock later_clock seen view c t made u kind))
      → WorkLeaves answers seen view c t made u → is_ready t ≡ false → (made ≡ work.More → IsRunning u)
      → Given store mine before after seen view c old p n t (drawn_ids store before after names later_names clock later_clock seen view c t made u kind) may made u
  given_by answers (task.Copy id s) made (task.Copy i v) kind may leaves waits runs = copy_given id s i v made kind.0 may leaves.kind waits (λ e. (runs e).1)
  given_by answers (task.Upload id s) made (task.Upload i v) kind may leaves waits runs = upload_given id s i v made kind.0 may leaves.kind waits (λ e. (runs e).1)
  given_by answers (task.Cleanup id s) made (task.Cleanup i v) kind may leaves waits runs = clean_given answers id s i v made kind.0 may leaves.kind waits (λ e. (runs e).1)
  given_by answers (task.Create x) made u kind may leaves waits runs = absurd kind
  given_by answers (task.Copy id s) made _ kind may leaves waits runs = absurd kind
  given_by answers (task.Upload id s) made _ kind may leaves waits runs = absurd kind
  given_by answers (task.Cleanup id s) made _ kind may leaves waits runs = absurd kind
