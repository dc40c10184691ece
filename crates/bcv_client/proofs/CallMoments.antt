-- What a call notes and what a crash at any moment of it leaves, by what its parts promise.
use Rattle.std.proofs.Common.{◌≡◌, ◌∙◌, ◌⊎◌, ◌+◌, ◌^◌, ◌<◌, ℕ, true, false, List, [], ◌∷◌, Option, Some, None, IsSome, inl, inr, refl, sym, ap, subst}
use Rattle.bcv_base.specs.declared.id.Id16.{Id16}
use Rattle.bcv_base.specs.declared.log.Entry.{Entry}
use Rattle.bcv_base.specs.Drawn.{NamesShown}
use Rattle.bcv_base.specs.History.{history_of}
use Rattle.bcv_base.specs.Ids.{has_id}
use Rattle.bcv_base.specs.Moments.{ClockShown}
use Rattle.bcv_cleanup.specs.Released.{RuleAnswers}
use Rattle.bcv_clientlog.specs.LogParts.{LoadsUpTo, is_shut, log_area, log_disk, log_tail}
use Rattle.bcv_clientlog.specs.declared.log.ClientLog.{ClientLog}
use Rattle.bcv_clientstate.specs.CheckLaws.{fault_reply}
use Rattle.bcv_clientstate.specs.Journaled.{most_of}
use Rattle.bcv_clientstate.specs.NoteSides.{MayNote}
use Rattle.bcv_clientstate.specs.PartRefusals.{commit_reason_in, revert_reason_in, runs_publication}
use Rattle.bcv_clientstate.specs.Parts as parts
use Rattle.bcv_clientstate.specs.Parts.{mine_of}
use Rattle.bcv_clientstate.specs.SeenClient.{Free}
use Rattle.bcv_databases.specs.Sound.{AreDatabases}
use Rattle.bcv_disk.specs.Calls.{LeavesOnly-started, LeavesOnly-weaker}
use Rattle.bcv_disk.specs.Crash.{LeavesOnly}
use Rattle.bcv_disk.specs.DiskShown.{DiskShown, DiskTold}
use Rattle.bcv_ledger.specs.LedgerNotes.{parts_in}
use Rattle.bcv_ledger.specs.LocalCalls.{CommitsFrom, LedgerCommits, LedgerReverts, RevertsFrom}
use Rattle.bcv_ledger.specs.declared.ledger.Ledger.{Ledger}
use Rattle.bcv_ledger.proofs.LocalLaws.{revert_may_stand}
use Rattle.bcv_machine.specs.State as m
use Rattle.bcv_model.specs.declared.ask.Ask.{Ask}
use Rattle.bcv_model.specs.declared.ask.Commit.{Commit}
use Rattle.bcv_model.specs.declared.kept.Kept.{Kept}
use Rattle.bcv_model.specs.declared.kept.PendingPub.{PendingPub}
use Rattle.bcv_model.specs.declared.note.Note.{Note}
use Rattle.bcv_model.specs.declared.note.Note.TheVariants as note
use Rattle.bcv_model.specs.declared.reply.Reply.{Reply}
use Rattle.bcv_model.specs.declared.reply.Reply.TheVariants as reply
use Rattle.bcv_model.specs.Commits.{writes_of}
use Rattle.bcv_model.specs.NoteRules.{Folds, IsPendingAs, MayEnd}
use Rattle.bcv_model.specs.Notes.{after_note}
use Rattle.bcv_publisher.specs.StepNotes.{EndsOnce, LeavesNotes, NotesPublication}
use Rattle.bcv_publish.specs.declared.work.Work.{Work}
use Rattle.bcv_publish.specs.declared.work.Work.TheVariants as work
use Rattle.bcv_publisher.specs.WorkEnds.{EndsBy, EndsWork}
use Rattle.bcv_publisher.proofs.Moments.{leaves_noted}
use Rattle.bcv_publisher.proofs.StepMoments.{end_moment}
use Rattle.bcv_store.specs.StoreShown.{StoreShown, StoreTold}
use Rattle.bcv_tasks.specs.declared.publish_task.PublishTask.{PublishTask}
use Rattle.bcv_tasks.specs.State.{id_of, pending_of, refused_of}
use Rattle.bcv_client.specs.AnyMoment.{AnyMoment, CallMoments, HoldsSince, LeavesSince, LocalMoments, MayStandHere, MayStandOver, NotesOfAsk, NotesOfCommit, NotesOfRevert, NotesOfStep, TaskMoments}
use Rattle.bcv_client.specs.ClientForm.{IsInForm, PendingFor, PublishInForm}
use Rattle.bcv_client.specs.ClientParts.{parts_of, entries_of}
use Rattle.bcv_client.specs.Events.{StandsOver}
use Rattle.bcv_client.specs.LocalWrites.{OnlyWrites}
use Rattle.bcv_client.specs.PublicationOver.{StandsWith, mine_with, view_at}
use Rattle.bcv_client.specs.PublicationPut.{ClientNotes}
use Rattle.bcv_client.specs.ResolveOver.{ClientResolves}
use Rattle.bcv_client.specs.TaskRequests.{ClientWorks, WorksOver}
use Rattle.bcv_client.specs.TaskTaken.{TaskOut}
use Rattle.bcv_client.specs.declared.client.Client.{Client}
use Rattle.bcv_client.specs.declared.job.Job.{Job}
use Rattle.bcv_client.specs.declared.job.Job.TheVariants as job
use Rattle.bcv_client.proofs.Commits.{may_note}
use Rattle.bcv_client.proofs.FallsSteps.{task_is_id}
use Rattle.bcv_client.proofs.FirstReasons.{free_to_revert, open_to_commit}
use Rattle.bcv_client.proofs.NumberSteps.{mine_found, stands_found}
use Rattle.bcv_client.proofs.Reverts.{SameLedger}
use Rattle.bcv_client.proofs.TaskStands.{waits_for}
use Rattle.bcv_client.proofs.TasksTaken.{parts_without, stands_without, without_mine}

-- ---- which notes

none_of_step : (w : Option PendingPub) → NotesOfStep w []
none_of_step None = tt
none_of_step (Some p) = tt

-- those of a publication, whose pending one it is
of_step : (w : Option PendingPub) (x : PendingPub) (ns : List ℕ) (notes : List Note) → PendingFor w x ns → NotesPublication w x notes → NotesOfStep w notes
of_step None x ns [] waits noted = tt
of_step None x ns (y ∷ ys) waits noted = subst (λ (z : Note). NotesOfStep None (z ∷ ys)) (sym noted.0) noted.1
of_step (Some p) x ns notes waits noted = subst (λ (q : PendingPub). EndsOnce q.id notes) (sym (waits_for (Some p) x ns waits)) noted

module _ {D : Type 0} {g : _} (told : DiskTold) (shown : D → DiskShown)
    (only_now : (disk : D) → told.tells → (image : List ℕ) → (shown disk).left_since (shown disk).moment image → (shown disk).may_leave image) where
  -- ---- what a crash leaves

  -- nothing of the log has changed
  pub still_leaves : (old new : Ledger D g) (notes : List Note) → new.log ≡ old.log → LeavesSince told shown old new notes
  still_leaves old new notes same tells f journaled end folds =
      subst (λ (l : ClientLog D g). LeavesOnly (shown (log_disk old.log)) (shown (log_disk l)) (HoldsSince old.databases.kept (most_of f) f.flight notes)) (sym same)
      (LeavesOnly-started (shown (log_disk old.log)) (HoldsSince old.databases.kept (most_of f) f.flight notes)
      (λ image left. inl (journaled.images image (only_now (log_disk old.log) tells image left))))

  -- these were noted
  noted_leaves : (old new : Ledger D g) (notes : List Note)
      → (told.tells → (end : Kept) → Folds old.databases.kept notes end → LeavesNotes shown old.log new.log old.databases.kept notes)
      → LeavesSince told shown old new notes
  noted_leaves old new notes any tells f journaled end folds =
      LeavesOnly-weaker (shown (log_disk old.log)) (shown (log_disk new.log)) (LoadsUpTo old.databases.kept (most_of f) notes)
      (HoldsSince old.databases.kept (most_of f) f.flight notes) (λ image loads. inr loads) (any tells end folds f journaled)

  -- an open journal need not be closed
  open_shut : (log : ClientLog D g) (notes : List Note) → is_shut log ≡ false → is_shut log ≡ true → notes ≡ []
  open_shut log notes is_open is = absurd (let e : false ≡ true = sym is_open ∙ is in cc)

  -- ---- calls that note nothing

  quiet : (Are May : List Note → Type 0) (old new : Ledger D g) → Are [] → May [] → new.log ≡ old.log → AnyMoment Are May told shown old new
  quiet Are May old new are may same = record { notes = []; are = are; may = may; shut = λ is. refl; leaves = still_leaves old new [] same }

  module _ (store : StoreTold) (before after : StoreShown) (old new : Client D g) (same : new.ledger.log ≡ old.ledger.log) where
    none_over : (Stood : List Entry → Free → Type 0) (own : List Id16) → MayStandOver Stood own told store before after old.ledger.databases.kept []
    none_over Stood own store_tells tells mine f stands all honest = (old.ledger.databases.kept, refl)

    pub unmoved_moments : (Are : List Note → Type 0) → Are [] → CallMoments Are told shown store before after old new
    unmoved_moments Are are =
        quiet Are (MayStandOver (StandsOver shown old) (mine_of (parts_of old)) told store before after old.ledger.databases.kept) old.ledger new.ledger are
        (none_over (StandsOver shown old) (mine_of (parts_of old))) same

    pub unmoved_step : CallMoments (NotesOfStep old.ledger.databases.kept.pending) told shown store before after old new
    unmoved_step = unmoved_moments (NotesOfStep old.ledger.databases.kept.pending) (none_of_step old.ledger.databases.kept.pending)

  -- ---- a commit and a revert

  module _ (old new : Client D g) (db : List ℕ) (only : OnlyWrites old new) where
    abbrev kept : Kept
    kept = old.ledger.databases.kept

    none_here : MayStandHere shown old []
    none_here log f stands = (kept, refl)

    module _ (c : Commit) (form : IsInForm old.seen old.ledger.databases old.txns old.tasks.items) (are : AreDatabases new.ledger.databases) (size : c.size < 2 ^ 32) where
      pub commit_moments : (r : Reply) → LedgerCommits told shown old.ledger new.ledger db c r → LocalMoments (NotesOfCommit old.ledger.databases db c) told shown old new
      commit_moments r commits = by (commit_reason_in (parts_in old.ledger) db (writes_of c)) refl commits
        where
          by : (why : Option Reply) → commit_reason_in (parts_in old.ledger) db (writes_of c) ≡ why → CommitsFrom told shown old.ledger new.ledger db c r why
              → LocalMoments (NotesOfCommit old.ledger.databases db c) told shown old new
          by (Some why) is from = quiet (NotesOfCommit old.ledger.databases db c) (MayStandHere shown old) old.ledger new.ledger tt none_here from.1.log
          by None is from =
              let unshut : is_shut old.ledger.log ≡ false = (open_to_commit (parts_in old.ledger) db (writes_of c) is).0 in
              record {
                notes = from.note ∷ [];
                are = from.is_note;
                may = λ log f stands.
                    let may : (y : m.Note) × MayNote (history_of log) (parts_of old) from.note y = may_note told shown old new db c only form are size log from.note stands.sound stands.fits is from.is_note in
                    (after_note kept from.note, (may.1.may, refl));
                shut = open_shut old.ledger.log (from.note ∷ []) unshut;
                leaves = noted_leaves old.ledger new.ledger (from.note ∷ []) (end_moment told shown old.ledger new.ledger from.note _ _ from.ends unshut);
              }

    module _ (mid : Ledger D g) (s : SameLedger mid new.ledger) where
      pub revert_moments : (r : Reply) → LedgerReverts told shown old.ledger mid (runs_publication (parts_of old)) db r → LocalMoments (NotesOfRevert db) told shown old new
      revert_moments r reverts = by (revert_reason_in (parts_in old.ledger) (runs_publication (parts_of old)) db) refl reverts
        where
          by : (why : Option Reply) → revert_reason_in (parts_in old.ledger) (runs_publication (parts_of old)) db ≡ why
              → RevertsFrom told shown old.ledger mid db r why → LocalMoments (NotesOfRevert db) told shown old new
          by (Some why) is from = quiet (NotesOfRevert db) (MayStandHere shown old) old.ledger new.ledger tt none_here (s.log ∙ from.1.log)
          by None is from =
              let unshut : is_shut old.ledger.log ≡ false = (free_to_revert (parts_in old.ledger) (runs_publication (parts_of old)) db is).0 in
              record {
                notes = note.Revert db ∷ [];
                are = refl;
                may = λ log f stands.
                    let may : MayNote (history_of log) (parts_of old) (note.Revert db) (m.Reverting db) = revert_may_stand log (entries_of old) (parts_of old) db stands.sound stands.fits is in
                    (after_note kept (note.Revert db), (may.may, refl));
                shut = open_shut old.ledger.log (note.Revert db ∷ []) unshut;
                leaves = noted_leaves old.ledger new.ledger (note.Revert db ∷ [])
                    (λ tells end folds.
                    subst (λ (l : ClientLog D g). LeavesNotes shown old.ledger.log l kept (note.Revert db ∷ [])) (sym s.log)
                    (end_moment told shown old.ledger mid (note.Revert db) _ _ from.ends unshut tells end folds));
              }

  -- as the ask's, over any log that others grow
  pub local_moments : (Are : List Note → Type 0) (store : StoreTold) (before after : StoreShown) (old new : Client D g) → LocalMoments Are told shown old new
      → CallMoments Are told shown store before after old new
  local_moments Are store before after old new l = record {
    notes = l.notes;
    are = l.are;
    may = λ store_tells tells mine f stands all honest. l.may before.log f stands;
    shut = l.shut;
    leaves = l.leaves;
  }

  -- ---- a resolve

  module _ (store : StoreTold) (before after : StoreShown) (old new : Client D g) (is_open : is_shut old.ledger.log ≡ false) where
    pub resolve_moments : (r : Reply) → ClientResolves told shown store before after old new r → runs_publication (parts_of old) ≡ false
        → CallMoments (NotesOfStep old.ledger.databases.kept.pending) told shown store before after old new
    resolve_moments r res alone = record {
      notes = res.resolves.notes;
      are = subst (λ (w : Option PendingPub). NotesOfStep w res.resolves.notes) (sym res.resolves.is_pending) res.resolves.ends;
      may = λ store_tells tells mine f stands all honest.
          (res.resolves.machine store_tells tells (parts_of old) (entries_of old) mine stands.sound stands.fits alone refl refl all honest).may;
      shut = open_shut old.ledger.log res.resolves.notes is_open;
      leaves = noted_leaves old.ledger new.ledger res.resolves.notes
          (λ tells end folds.
          subst (λ (l : ClientLog D g). LeavesNotes shown old.ledger.log l old.ledger.databases.kept res.resolves.notes) (sym res.views.log)
          (res.resolves.any_moment tells end folds));
    }

    -- ---- a publication

    module _ (set taken : ℕ) (t : PublishTask) (own : PublishInForm old.seen old.ledger.databases set taken t) (n : ℕ) where
      abbrev pending : Option PendingPub
      pending = old.ledger.databases.kept.pending

      abbrev May : List Note → Type 0
      May = MayStandOver (StandsWith shown old n set taken t) (mine_with old n set taken t) told store before after old.ledger.databases.kept

      -- its put
      pub put_moments : ClientNotes told shown store before after old new set taken t → TaskMoments told shown store before after old new n set taken t
      put_moments noted = record {
        notes = noted.notes;
        are = of_step pending (pending_of taken t) (refused_of t) noted.notes own.waits noted.noted;
        may = λ store_tells tells mine f stands all honest. noted.may store_tells n mine f stands all honest;
        shut = open_shut old.ledger.log noted.notes is_open;
        leaves = noted_leaves old.ledger new.ledger noted.notes noted.any_moment;
      }

      -- a step before it that notes nothing
      quiet_task : new.ledger ≡ old.ledger → TaskMoments told shown store before after old new n set taken t
      quiet_task same =
          quiet (NotesOfStep pending) May old.ledger new.ledger (none_of_step pending) (λ store_tells tells mine f stands all honest. (old.ledger.databases.kept, refl))
          (ap (λ (l : Ledger D g). l.log) same)

      abbrev void : Note
      void = note.Void (id_of t)

      -- or the void of what is pending
      module _ (answers : RuleAnswers) (names later_names : NamesShown) (clock later_clock : ClockShown) (r : Reply) (u : PublishTask) where
        module _ (works : WorksOver told shown answers store before after names later_names clock later_clock old new set t r u) where
          void_leaves : LeavesSince told shown old.ledger new.ledger (void ∷ [])
          void_leaves tells f journaled end folds =
              let may : MayEnd old.ledger.databases.kept (id_of t) = folds.0 in
              by (works.step.any_moment tells (journaled.settled is_open) may.named may.is_id)
            where
              by : (new.ledger ≡ old.ledger)
                  ⊎ LeavesOnly (shown (log_disk old.ledger.log)) (shown (log_disk new.ledger.log))
                  (LoadsUpTo old.ledger.databases.kept (log_tail old.ledger.log + log_area old.ledger.log) (void ∷ []))
                  → LeavesOnly (shown (log_disk old.ledger.log)) (shown (log_disk new.ledger.log)) (HoldsSince old.ledger.databases.kept (most_of f) f.flight (void ∷ []))
              by (inl same) = still_leaves old.ledger new.ledger (void ∷ []) (ap (λ (l : Ledger D g). l.log) same) tells f journaled end folds
              by (inr leaves) =
                  LeavesOnly-weaker (shown (log_disk old.ledger.log)) (shown (log_disk new.ledger.log)) (LoadsUpTo old.ledger.databases.kept (most_of f) (void ∷ []))
                  (HoldsSince old.ledger.databases.kept (most_of f) f.flight (void ∷ [])) (λ image loads. inr loads)
                  (leaves_noted shown old.ledger.log new.ledger.log old.ledger.databases.kept (void ∷ []) f journaled leaves)

          voids : (p : PendingPub) → pending ≡ Some p → TaskMoments told shown store before after old new n set taken t
          voids p is =
              let id : id_of t ≡ p.id =
              sym (ap (λ (y : PendingPub). y.id) (waits_for (Some p) (pending_of taken t) (refused_of t) (subst (λ (w : Option PendingPub). PendingFor w (pending_of taken t) (refused_of t)) is own.waits))) in
              record {
                notes = void ∷ [];
                are = subst (λ (w : Option PendingPub). NotesOfStep w (void ∷ [])) (sym is) id;
                may = λ store_tells tells mine f stands all honest.
                    let may : MayEnd old.ledger.databases.kept (id_of t) = record {
                      named = subst (λ (o : Option Id16). IsSome o) (sym stands.stands.fits.named) refl;
                      is_id = task_is_id (mine_with old n set taken t) old.id old.ledger.databases.kept before.log (view_at old.ledger.databases set t) t own.running stands.task.fits;
                      waits = subst (λ (w : Option PendingPub). IsPendingAs w (id_of t)) (sym is) (sym id);
                    } in
                    (after_note old.ledger.databases.kept void, (may, refl));
                shut = open_shut old.ledger.log (void ∷ []) is_open;
                leaves = void_leaves;
              }

          by_pending : (x : Reply) (w : Option PendingPub) → pending ≡ w → EndsBy told shown old.ledger new.ledger u w x r → TaskMoments told shown store before after old new n set taken t
          by_pending x None is ended = quiet_task ended.0
          by_pending x (Some p) is ended = voids p is

          by_end : (w : Work) → EndsWork told shown old.ledger new.ledger u w r → TaskMoments told shown store before after old new n set taken t
          by_end work.More ends = quiet_task ends.0
          by_end work.Nothing ends = by_pending (reply.Cleaned 0 false) pending refl ends
          by_end (work.Fault fault) ends = by_pending (fault_reply fault) pending refl ends
          by_end work.NoContainer ends = by_pending reply.NoContainer pending refl ends
          by_end (work.BadManifest at) ends = by_pending (reply.BadManifest at) pending refl ends
          by_end work.Gone ends = by_pending reply.Gone pending refl ends
          by_end (work.BadBlock len) ends = by_pending (reply.BadBlock len) pending refl ends
          by_end work.NameTaken ends = by_pending reply.NameTaken pending refl ends
          by_end work.StoreFault ends = by_pending reply.StoreFault pending refl ends
          by_end work.NamesFault ends = by_pending reply.NamesFault pending refl ends
          by_end work.ClockFault ends = by_pending reply.ClockFault pending refl ends
          by_end work.NoMemory ends = quiet_task ends.0

        pub work_moments : ClientWorks told shown answers store before after names later_names clock later_clock old new set t r u → TaskMoments told shown store before after old new n set taken t
        work_moments (inl works) = by_end works works.step.made works.step.ends
        work_moments (inr nothing) = quiet_task nothing.ledger

  -- a task that was put back
  pub back_moments : (store : StoreTold) (before after : StoreShown) (old mid new : Client D g) (n set taken : ℕ) (t : PublishTask) → new.ledger ≡ mid.ledger
      → TaskMoments told shown store before after old mid n set taken t → TaskMoments told shown store before after old new n set taken t
  back_moments store before after old mid new n set taken t same m =
      subst (λ (l : Ledger D g).
      AnyMoment (NotesOfStep old.ledger.databases.kept.pending)
      (MayStandOver (StandsWith shown old n set taken t) (mine_with old n set taken t) told store before after old.ledger.databases.kept) told shown old.ledger l) (sym same) m

  -- ---- the task of a number, which was taken out

  module _ (store : StoreTold) (before after : StoreShown) (old mid new : Client D g) (n : ℕ) where
    as_before : (May Was : List Note → Type 0) → mid.ledger ≡ old.ledger → (m : AnyMoment (NotesOfStep mid.ledger.databases.kept.pending) May told shown mid.ledger new.ledger) → Was m.notes
        → AnyMoment (NotesOfStep old.ledger.databases.kept.pending) Was told shown old.ledger new.ledger
    as_before May Was same m may = record {
      notes = m.notes;
      are = subst (λ (l : Ledger D g). NotesOfStep l.databases.kept.pending m.notes) same m.are;
      may = may;
      shut = λ is. m.shut (ap (λ (l : Ledger D g). is_shut l.log) same ∙ is);
      leaves = subst (λ (l : Ledger D g). LeavesSince told shown l new.ledger m.notes) same m.leaves;
    }

    pub publication_moments : (set taken : ℕ) (t : PublishTask) → TaskOut old mid n (job.Publish set taken t) → TaskMoments told shown store before after mid new n set taken t
        → CallMoments (NotesOfStep old.ledger.databases.kept.pending) told shown store before after old new
    publication_moments set taken t out m =
        as_before (MayStandOver (StandsWith shown mid n set taken t) (mine_with mid n set taken t) told store before after mid.ledger.databases.kept)
        (MayStandOver (StandsOver shown old) (mine_of (parts_of old)) told store before after old.ledger.databases.kept) out.only.ledger m
        (λ store_tells tells mine f stands all honest.
        subst (λ (l : Ledger D g). (end : Kept) × Folds l.databases.kept m.notes end) out.only.ledger
        (m.may store_tells tells mine f (stands_found shown old mid n set taken t out before.log f stands) (mine_found shown old mid n set taken t out mine all) honest))

    pub single_moments : (j : Job) → TaskOut old mid n j → CallMoments (NotesOfStep mid.ledger.databases.kept.pending) told shown store before after mid new
        → CallMoments (NotesOfStep old.ledger.databases.kept.pending) told shown store before after old new
    single_moments j out m =
        as_before (MayStandOver (StandsOver shown mid) (mine_of (parts_of mid)) told store before after mid.ledger.databases.kept)
        (MayStandOver (StandsOver shown old) (mine_of (parts_of old)) told store before after old.ledger.databases.kept) out.only.ledger m
        (λ store_tells tells mine f stands all honest.
        subst (λ (l : Ledger D g). (end : Kept) × Folds l.databases.kept m.notes end) out.only.ledger
        (m.may store_tells tells mine f (stands_without old mid n j out shown before.log f stands)
        (λ i has. all i (without_mine n (parts_of old) i (subst (λ (p : parts.Parts). has_id i (mine_of p) ≡ true) (parts_without old mid n j out) has))) honest))

  -- ---- an ask

  module _ (store : StoreTold) (before after : StoreShown) (old new : Client D g) (q x : Ask) (is : q ≡ x) where
    pub asked_moments : CallMoments (NotesOfAsk old.ledger.databases x) told shown store before after old new → CallMoments (NotesOfAsk old.ledger.databases q) told shown store before after old new
    asked_moments m = subst (λ (y : Ask). CallMoments (NotesOfAsk old.ledger.databases y) told shown store before after old new) (sym is) m

    pub quiet_ask : NotesOfAsk old.ledger.databases x [] → new.ledger.log ≡ old.ledger.log → CallMoments (NotesOfAsk old.ledger.databases q) told shown store before after old new
    quiet_ask are same = asked_moments (unmoved_moments store before after old new same (NotesOfAsk old.ledger.databases x) are)
