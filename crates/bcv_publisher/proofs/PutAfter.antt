-- The client after a step at a put, at each of its exits.
use Rattle.std.proofs.Common.{◌≡◌, ◌∙◌, ℕ, Bool, true, false, List, [], ◌∷◌, ◌++◌, append-nil, inl, length, Option, Some, None, MatchOption, refl, sym, ap, subst}
use Rattle.bcv_base.specs.declared.id.Id16.{Id16}
use Rattle.bcv_base.specs.declared.log.Entry.{Entry}
use Rattle.bcv_base.specs.declared.manifest.Manifest.{Manifest}
use Rattle.bcv_base.specs.declared.seen.Seen.{Seen}
use Rattle.bcv_base.specs.History.{history_of, last_of}
use Rattle.bcv_base.specs.Image.{Writes}
use Rattle.bcv_cache.specs.Entry as cache
use Rattle.bcv_clientlog.specs.LogParts.{is_shut}
use Rattle.bcv_clientlaws.specs.OtherParts.{FitsKept, Includes}
use Rattle.bcv_databases.specs.declared.known.Known.{Known}
use Rattle.bcv_databases.specs.Sound.{AreDatabases}
use Rattle.bcv_dbmap.specs.Growth.{AreLawful}
use Rattle.bcv_dbmap.specs.Kept.{IsKept}
use Rattle.bcv_dbmap.proofs.OthersLaws.{others_keep_sound}
use Rattle.bcv_disk.specs.DiskShown.{DiskShown, DiskTold}
use Rattle.bcv_model.specs.declared.kept.Kept.{Kept}
use Rattle.bcv_model.specs.declared.kept.PendingPub.{PendingPub}
use Rattle.bcv_model.specs.declared.note.Note.{Note}
use Rattle.bcv_model.specs.declared.note.Note.TheVariants as note
use Rattle.bcv_model.specs.declared.reply.Reply.{Reply}
use Rattle.bcv_model.specs.declared.reply.Reply.TheVariants as reply
use Rattle.bcv_model.specs.NoteRules.{Folds, MayEnd, MayStand}
use Rattle.bcv_model.specs.Notes.{after_note}
use Rattle.bcv_store.specs.StoreShown.{StoreShown, StoreTold}
use Rattle.bcv_tasks.specs.declared.publish_task.PublishTask.{PublishTask}
use Rattle.bcv_tasks.specs.declared.put_answer.PutAnswer.{PutAnswer}
use Rattle.bcv_tasks.specs.declared.put_answer.PutAnswer.TheVariants as answer
use Rattle.bcv_tasks.specs.State.{IsRunning, is_ready, latest_of, pending_of, publish_of}
use Rattle.bcv_tasks.specs.TaskPut.{AnswersPut, Appends, FitsAfterPut, PutLeaves, TaskPuts}
use Rattle.bcv_clientstate.specs.Fits.{Fits, FitsJob, FitsSeen}
use Rattle.bcv_clientstate.specs.KnownLaws.{known_of}
use Rattle.bcv_clientstate.specs.PartRefusals.{runs_publication}
use Rattle.bcv_clientstate.specs.Parts.{LedgerParts, Parts, mine_of, with_ledger}
use Rattle.bcv_clientlaws.proofs.OtherParts.{fewer_lawful, shut_fits}
use Rattle.bcv_ledger.specs.declared.ledger.Ledger.{Ledger}
use Rattle.bcv_ledger.specs.Begins.{Begins}
use Rattle.bcv_ledger.specs.FitsLedger.{FitsLedger}
use Rattle.bcv_ledger.specs.LedgerNotes.{parts_in}
use Rattle.bcv_ledger.specs.NoteEnds.{IsNoteFault, NoteEnds, ShutAfter}
use Rattle.bcv_publication.specs.PutSides.{Tried}
use Rattle.bcv_publication.specs.TaskSides.{MayStep, job_of, seen_task, with_job}
use Rattle.bcv_publication.proofs.TaskSides.{task_is_tried}
use Rattle.bcv_publish.specs.ManifestRead.{is_other}
use Rattle.bcv_publisher.specs.NotesFit.{FoldsFit}
use Rattle.bcv_publisher.specs.PutNotes.{FitsAfter, FitsOn, PublishedIsKept}
use Rattle.bcv_publisher.specs.WorkStep.{seen_before}
use Rattle.bcv_publisher.proofs.Grown.{fits_with_ledger, same_ledger}
use Rattle.bcv_publisher.proofs.NotesFit.{begun_fits, client_kept, kept_pending, noted_kept, void_kept}
use Rattle.bcv_publisher.proofs.PutEnds.{was_published, was_refused}
use Rattle.bcv_publisher.proofs.PutFits.{alone_fits, done_ledger, grown_may, is_number, made_is_alike, put_leaves_fit, void_ledger, waits}
use Rattle.bcv_publisher.proofs.StepMoments.{begun_fold, begun_notes}
use Rattle.bcv_publisher.proofs.RefusedReads.{refused_is_seen}
use Rattle.bcv_publisher.proofs.TaskPuts.{may_put, own_job, refused_fits_on, refused_is_at_stage, same_locals}

module _ {D : Type 0} {g : _} (store : StoreTold) (before : StoreShown) (old : Ledger D g) (t : PublishTask) (moment : ℕ) (ready : is_ready t ≡ true) (is_open : is_shut old.log ≡ false) (p : Parts)
    (entries : List cache.Entry) (n : ℕ) (view : List Writes) (mine : List Id16) (all : Includes mine (mine_of (with_job n (job_of view t) (with_ledger (parts_in old) p))))
    (may : MayStep before.log (with_ledger (parts_in old) p) entries n view t) (quiet : runs_publication p ≡ false) where
  abbrev here : Parts
  here = with_ledger (parts_in old) p

  abbrev x : PendingPub
  x = pending_of (length view) t

  -- what is kept once the intent stands
  abbrev k : Kept
  k = record old.databases.kept { pending = Some x }

  tried : Tried (history_of before.log) here (seen_task old.databases.kept.pending view t) x
  tried = task_is_tried before.log here entries n view t may ready

  may_fold : (ys : List Note) (end : Kept) → Folds k ys end → Folds old.databases.kept (begun_notes old.databases.kept.pending x ys) end
  may_fold ys end folds =
      begun_fold old.databases.kept x old.databases.kept.pending ys end refl may.waits
      (λ none. record { named = tried.named; is_id = tried.is_id; free = none; upload = tried.may_upload }) folds

  may_end : MayEnd k x.id
  may_end = record { named = tried.named; is_id = tried.is_id; waits = refl }

  parts_are : (new : Ledger D g) (a : Bool) (j : Kept) (ks : List Known) → is_shut new.log ≡ a → new.databases.kept ≡ j → new.databases.known ≡ ks
      → with_ledger (parts_in new) p ≡ record here { closed = a; kept = j; known = ks }
  parts_are new a j ks closed kept known =
      ap (λ (c : LedgerParts). with_ledger c p) (same_ledger (is_shut new.log) a new.databases.kept j new.databases.known ks closed kept known)

  -- whichever of its notes a crash leaves fits, where what is kept once the intent stands fits with those of its end
  left_fits : (log : List Entry) (ys : List Note) → FoldsFit log p.id k ys → FoldsFit log p.id old.databases.kept (begun_notes old.databases.kept.pending x ys)
  left_fits log ys fits = begun_fits log p.id old.databases.kept x old.databases.kept.pending ys refl may.waits fits

  -- ---- the intent did not come to stand

  was_kept : FitsKept before.log p.id old.databases.kept []
  was_kept = client_kept before.log entries here (alone_fits before.log [] [] [] here entries n view t moment may quiet tt)

  begun_kept : FitsKept before.log p.id k []
  begun_kept = kept_pending before.log p.id old.databases.kept (Some x) was_kept (inl (may_put mine before.log here entries n view t all may).fresh)

  before_fits : (new : Ledger D g) (fault : Reply) → ShutAfter (Some fault) (is_shut new.log) → IsNoteFault (Some fault) → new.databases.kept ≡ old.databases.kept
      → new.databases.known ≡ old.databases.known → Fits (with_ledger (parts_in new) p) entries before.log
  before_fits new fault closed answers kept known = by fault closed answers
    where
      fits : Fits here entries before.log
      fits = alone_fits before.log [] [] [] here entries n view t moment may quiet tt

      open_fits : is_shut new.log ≡ false → Fits (with_ledger (parts_in new) p) entries before.log
      open_fits closed =
          subst (λ (y : Parts). Fits y entries before.log) (sym (parts_are new (is_shut old.log) old.databases.kept old.databases.known (closed ∙ sym is_open) kept known)) fits

      by : (r : Reply) → ShutAfter (Some r) (is_shut new.log) → IsNoteFault (Some r) → Fits (with_ledger (parts_in new) p) entries before.log
      by reply.DiskFault closed answers =
          subst (λ (y : Parts). Fits y entries before.log) (sym (parts_are new true old.databases.kept old.databases.known closed kept known)) (shut_fits before.log here entries fits)
      by reply.JournalFull closed answers = open_fits closed
      by reply.NoMemory closed answers = open_fits closed
      by _ closed answers = absurd answers

  fault_on : (new : Ledger D g) (log : List Entry) (fault : Reply) (u : PublishTask) → IsNoteFault (Some fault) → FitsOn mine p.id new.databases.kept log view fault u
  fault_on new log reply.DiskFault u answers = tt
  fault_on new log reply.JournalFull u answers = tt
  fault_on new log reply.NoMemory u answers = tt
  fault_on new log _ u answers = absurd answers

  fault_published : (log : List Entry) (fault : Reply) (u : PublishTask) → IsNoteFault (Some fault) → PublishedIsKept log fault u
  fault_published log reply.DiskFault u answers = tt
  fault_published log reply.JournalFull u answers = tt
  fault_published log reply.NoMemory u answers = tt
  fault_published log _ u answers = absurd answers

  pub unbegun_after : (told : DiskTold) (shown : D → DiskShown) (new : Ledger D g) (fault : Reply) → Begins told shown old new x (Some fault)
      → FitsAfter mine old new before.log p entries view (begun_notes old.databases.kept.pending x []) fault t
  unbegun_after told shown new fault begins = record {
    fits = before_fits new fault begins.shut begins.answers begins.kept begins.known;
    job = fault_on new before.log fault t begins.answers;
    published = fault_published before.log fault t begins.answers;
    may = (k, may_fold [] k refl);
    left = left_fits before.log [] begun_kept;
  }

  -- nothing was done
  pub untouched_after : FitsAfter mine old old before.log p entries view [] reply.NoMemory t
  untouched_after = record {
    fits = alone_fits before.log [] [] [] here entries n view t moment may quiet tt;
    job = tt;
    published = tt;
    may = (old.databases.kept, refl);
    left = was_kept;
  }

  -- ---- the put was made

  module _ (told : DiskTold) (shown : D → DiskShown) (after : StoreShown) (mid : Ledger D g) (begins : Begins told shown old mid x None) (u : PublishTask) (said : PutAnswer)
      (left : PutLeaves moment t said u) (puts : TaskPuts store mine before after view t moment said u) where
    abbrev others : List Entry
    others = puts.growth.others

    abbrev own : List Entry
    own = puts.growth.own

    -- lawful to the client's names alone
    lawful : AreLawful (mine_of (with_job n (job_of view t) here)) (history_of before.log) others
    lawful = fewer_lawful mine (mine_of (with_job n (job_of view t) here)) all (history_of before.log) others puts.growth.lawful

    abbrev waiting_parts : Parts
    waiting_parts = waits before.log others own after.log here entries n view t moment may quiet lawful

    fits_then : Fits waiting_parts entries after.log
    fits_then =
        put_leaves_fit before.log others own after.log here entries n view t moment may quiet lawful puts.manifest puts.published puts.growth.grown puts.growth.sound puts.brings puts.appends

    kept_then : FitsKept after.log p.id k []
    kept_then = client_kept after.log entries waiting_parts fits_then

    -- whatever was noted after it, or not
    parts_then : (new : Ledger D g) (a : Bool) → is_shut new.log ≡ a → new.databases.kept ≡ mid.databases.kept → new.databases.known ≡ mid.databases.known
        → with_ledger (parts_in new) p ≡ record waiting_parts { closed = a }
    parts_then new a closed kept known = parts_are new a k old.databases.known closed (kept ∙ begins.kept) (known ∙ begins.known)

    mid_fits : (new : Ledger D g) → is_shut new.log ≡ false → new.databases.kept ≡ mid.databases.kept → new.databases.known ≡ mid.databases.known
        → Fits (with_ledger (parts_in new) p) entries after.log
    mid_fits new closed kept known =
        subst (λ (y : Parts). Fits y entries after.log) (sym (parts_then new (is_shut old.log) (closed ∙ sym is_open) kept known)) fits_then

    -- nothing was noted, and the task has ended
    pub ended_after : (r : Reply) → FitsOn mine p.id mid.databases.kept after.log view r u → PublishedIsKept after.log r u
        → FitsAfter mine old mid after.log p entries view (begun_notes old.databases.kept.pending x []) r u
    ended_after r job published =
        record { fits = mid_fits mid begins.shut refl refl; job = job; published = published; may = (k, may_fold [] k refl); left = left_fits after.log [] kept_then }

    -- the task goes on
    pub refused_after : said ≡ answer.Refused → IsRunning u
        → FitsAfter mine old mid after.log p entries view (begun_notes old.databases.kept.pending x []) (reply.Working 2) u
    refused_after is goes_on =
        let leaves : PutLeaves moment t answer.Refused u = subst (λ (a : PutAnswer). PutLeaves moment t a u) is left in
        let w = was_refused puts.outcome puts.published (last_of (history_of (before.log ++ others))) (latest_of t)
        (subst (λ (a : PutAnswer). AnswersPut a puts.outcome puts.published (last_of (history_of (before.log ++ others))) (latest_of t)) is puts.answers) in
        let none : own ≡ [] = subst (λ (o : Option ℕ). Appends own puts.manifest o) w.none puts.appends in
        let log_is : after.log ≡ before.log ++ others = puts.growth.grown ∙ ap (λ (es : List Entry). (before.log ++ others) ++ es) none ∙ append-nil (before.log ++ others) in
        let was : FitsJob mine p.id old.databases.kept (before.log ++ others) (job_of view t) =
        own_job mine (before.log ++ others) here entries n view t all (grown_may before.log others own after.log here entries n view t moment may quiet lawful) in
        let now : FitsJob mine p.id mid.databases.kept (before.log ++ others) (job_of view t) =
        same_locals mine p.id old.databases.kept mid.databases.kept (before.log ++ others) view t (ap (λ (j : Kept). j.locals) begins.kept) was in
        ended_after (reply.Working 2) (
          subst (λ (log : List Entry). FitsJob mine p.id mid.databases.kept log (job_of view u)) (sym log_is)
              (refused_fits_on mine p.id mid.databases.kept (before.log ++ others) view moment t u now leaves goes_on),
          refused_is_at_stage view moment t u may.running ready leaves,
          subst (λ (log : List Entry). FitsSeen (history_of log) (seen_before (publish_of u))) (sym log_is)
              (refused_is_seen (before.log ++ others) moment t u (others_keep_sound mine before.log others may.sound puts.growth.lawful) may.running ready
              (may_put mine (before.log ++ others) here entries n view t all (grown_may before.log others own after.log here entries n view t moment may quiet lawful)).kept w.passed leaves),
        ) tt

    -- ---- the end was noted

    -- it stands
    noted_fits : (new : Ledger D g) → AreDatabases new.databases → is_shut new.log ≡ false → FitsLedger (history_of after.log) p.id new.databases.kept new.databases.known
        → Fits (with_ledger (parts_in new) p) entries after.log
    noted_fits new holds closed ledger =
        subst (λ (y : Parts). Fits y entries after.log) (sym (parts_are new (is_shut old.log) new.databases.kept new.databases.known (closed ∙ sym is_open) refl refl))
        (fits_with_ledger after.log waiting_parts entries new.databases fits_then quiet holds ledger)

    -- or it does not
    fault_fits : (new : Ledger D g) (z : Note) (known : List Known) (fault : Reply) → NoteEnds told shown mid new z known (Some fault) → Fits (with_ledger (parts_in new) p) entries after.log
    fault_fits new z known fault ends = by fault ends.shut ends.answers
      where
        by : (r : Reply) → ShutAfter (Some r) (is_shut new.log) → IsNoteFault (Some r) → Fits (with_ledger (parts_in new) p) entries after.log
        by reply.DiskFault closed answers =
            subst (λ (y : Parts). Fits y entries after.log) (sym (parts_then new true closed ends.kept ends.knows)) (shut_fits after.log waiting_parts entries fits_then)
        by reply.JournalFull closed answers = mid_fits new closed ends.kept ends.knows
        by reply.NoMemory closed answers = mid_fits new closed ends.kept ends.knows
        by _ closed answers = absurd answers

    may_note : (z : Note) → MayStand k z → (end : Kept) × Folds old.databases.kept (begun_notes old.databases.kept.pending x (z ∷ [])) end
    may_note z stands = (after_note k z, may_fold (z ∷ []) (after_note k z) (stands, refl))

    -- the end of which a crash leaves the note
    ends_left : (z : Note) → FitsKept after.log p.id (after_note k z) [] → FoldsFit after.log p.id old.databases.kept (begun_notes old.databases.kept.pending x (z ∷ []))
    ends_left z noted = left_fits after.log (z ∷ []) (kept_then, noted)

    pub fault_after : (new : Ledger D g) (z : Note) (known : List Known) (fault : Reply) → NoteEnds told shown mid new z known (Some fault) → MayStand k z
        → FitsKept after.log p.id (after_note k z) []
        → FitsAfter mine old new after.log p entries view (begun_notes old.databases.kept.pending x (z ∷ [])) fault u
    fault_after new z known fault ends stands noted = record {
      fits = fault_fits new z known fault ends;
      job = fault_on new after.log fault u ends.answers;
      published = fault_published after.log fault u ends.answers;
      may = may_note z stands;
      left = ends_left z noted;
    }

    pub left_void : FitsKept after.log p.id (after_note k (note.Void x.id)) []
    left_void = void_kept after.log p.id x.id k kept_then

    pub may_void : MayStand k (note.Void x.id)
    may_void = may_end

    pub void_after : (new : Ledger D g) (r : Reply) → AreDatabases new.databases → NoteEnds told shown mid new (note.Void x.id) mid.databases.known None
        → FitsOn mine p.id new.databases.kept after.log view r u → PublishedIsKept after.log r u
        → FitsAfter mine old new after.log p entries view (begun_notes old.databases.kept.pending x (note.Void x.id ∷ [])) r u
    void_after new r holds ends job published =
        let ledger : FitsLedger (history_of after.log) p.id (after_note k (note.Void x.id)) old.databases.known =
        void_ledger before.log others own after.log here entries n view t moment may quiet lawful puts.manifest puts.published puts.growth.grown puts.growth.sound puts.brings puts.appends in
        record {
          fits =
              noted_fits new holds ends.shut
              (subst (λ (j : Kept). FitsLedger (history_of after.log) p.id j new.databases.known) (sym (ends.kept ∙ ap (λ (j : Kept). after_note j (note.Void x.id)) begins.kept))
              (subst (λ (ks : List Known). FitsLedger (history_of after.log) p.id (after_note k (note.Void x.id)) ks) (sym (ends.knows ∙ begins.known)) ledger));
          job = job;
          published = published;
          may = may_note (note.Void x.id) may_end;
          left = ends_left (note.Void x.id) left_void;
        }

    module _ (number : ℕ) (is : said ≡ answer.Published number) where
      published_is : puts.published ≡ Some number
      published_is = (was_published number puts.outcome puts.published (last_of (history_of (before.log ++ others))) (latest_of t)
          (subst (λ (a : PutAnswer). AnswersPut a puts.outcome puts.published (last_of (history_of (before.log ++ others))) (latest_of t)) is puts.answers)).is

      -- what was published is there
      pub is_kept : MatchOption (latest_of u) ⊥ (IsKept after.log)
      is_kept = subst (λ (a : PutAnswer). FitsAfterPut a mine after.log view u) is puts.fits

      -- of the block size that was seen
      pub is_alike : (s : Seen) → FitsSeen (history_of before.log) s → is_other s.block puts.manifest.block ≡ false
      is_alike s is_seen =
          made_is_alike before.log others own after.log s puts.manifest number puts.growth.grown puts.growth.sound is_seen (subst (Appends own puts.manifest) published_is puts.appends)

      pub may_done : MayStand k (note.Done x.id number)
      may_done = (
        may_end,
        is_number before.log others own after.log here entries n view t moment may quiet lawful puts.manifest puts.published puts.growth.grown puts.growth.sound puts.brings puts.appends number
            published_is,
      )

      -- what is kept and known once done is noted
      made_ledger : FitsLedger (history_of after.log) p.id (after_note k (note.Done x.id number)) (known_of (after_note k (note.Done x.id number)) puts.manifest)
      made_ledger =
          done_ledger before.log others own after.log here entries n view t moment may quiet lawful puts.manifest puts.published puts.growth.grown puts.growth.sound puts.brings puts.appends
          number published_is

      pub left_done : FitsKept after.log p.id (after_note k (note.Done x.id number)) []
      left_done =
          noted_kept after.log p.id k (note.Done x.id number) (known_of (after_note k (note.Done x.id number)) puts.manifest) kept_then.ordered may_done made_ledger

      pub done_after : (new : Ledger D g) (found : Manifest) (r : Reply) → found ≡ puts.manifest → AreDatabases new.databases
          → NoteEnds told shown mid new (note.Done x.id number) (known_of (after_note mid.databases.kept (note.Done x.id number)) found) None
          → FitsOn mine p.id new.databases.kept after.log view r u → PublishedIsKept after.log r u
          → FitsAfter mine old new after.log p entries view (begun_notes old.databases.kept.pending x (note.Done x.id number ∷ [])) r u
      done_after new found r same holds ends job published =
          let j : Kept = after_note k (note.Done x.id number) in
          let known_is : new.databases.known ≡ known_of j puts.manifest =
          ends.knows ∙ ap (λ (i : Kept). known_of (after_note i (note.Done x.id number)) found) begins.kept ∙ ap (known_of j) same in
          record {
            fits =
                noted_fits new holds ends.shut
                (subst (λ (i : Kept). FitsLedger (history_of after.log) p.id i new.databases.known) (sym (ends.kept ∙ ap (λ (i : Kept). after_note i (note.Done x.id number)) begins.kept))
                (subst (λ (ks : List Known). FitsLedger (history_of after.log) p.id j ks) (sym known_is) made_ledger));
            job = job;
            published = published;
            may = may_note (note.Done x.id number) may_done;
            left = ends_left (note.Done x.id number) left_done;
          }
