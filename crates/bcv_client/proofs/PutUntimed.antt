-- The put of a task where no moment was read: void is noted where the publication is pending.
use Rattle.std.proofs.Common.{◌≡◌, ◌∙◌, ℕ, true, false, List, [], ◌∷◌, ◌++◌, append-nil, map, Option, Some, None, IsSome, refl, sym, ap, subst, arith}
use Rattle.std.specs.List.{AllByRecursion, list_any}
use Rattle.bcv_base.specs.declared.id.Id16.{Id16}
use Rattle.bcv_base.specs.declared.log.Entry.{Entry}
use Rattle.bcv_base.specs.declared.seen.Latest.{Latest}
use Rattle.bcv_base.specs.declared.seen.Seen.{Seen}
use Rattle.bcv_base.specs.Drawn.{NamesShown}
use Rattle.bcv_base.specs.Faults.{Rose}
use Rattle.bcv_base.specs.History.{history_of}
use Rattle.bcv_base.specs.Ids.{IsId}
use Rattle.bcv_base.specs.Moments.{ClockShown}
use Rattle.bcv_cache.specs.Entry.{Blocks}
use Rattle.bcv_clientlaws.specs.OtherParts.{FitsKept, Includes}
use Rattle.bcv_clientlog.specs.LogParts.{is_shut}
use Rattle.bcv_clientstate.specs.Fits.{Fits}
use Rattle.bcv_clientstate.specs.PartRefusals.{runs_publication}
use Rattle.bcv_clientstate.specs.Parts.{Parts, Task, mine_of, with_ledger}
use Rattle.bcv_clientstate.specs.Parts as parts
use Rattle.bcv_clientstate.specs.SeenClient.{Free}
use Rattle.bcv_databases.specs.Catalog.{Catalog}
use Rattle.bcv_databases.specs.Sound.{KeepsViews}
use Rattle.bcv_dbmap.specs.RequestGrowth.{RequestGrowth}
use Rattle.bcv_dbmap.specs.Sound.{IsSoundLog}
use Rattle.bcv_disk.specs.DiskShown.{DiskShown, DiskTold}
use Rattle.bcv_ledger.specs.declared.ledger.Ledger.{Ledger}
use Rattle.bcv_ledger.specs.LedgerNotes.{parts_in}
use Rattle.bcv_ledger.specs.NoteEnds.{IsNoteFault, kept_ended, known_ended}
use Rattle.bcv_model.specs.declared.kept.Kept.{Kept}
use Rattle.bcv_model.specs.declared.kept.PendingPub.{PendingPub}
use Rattle.bcv_model.specs.declared.note.Note.{Note}
use Rattle.bcv_model.specs.declared.note.Note.TheVariants as note
use Rattle.bcv_model.specs.declared.reply.Reply.{Reply}
use Rattle.bcv_model.specs.declared.reply.Reply.TheVariants as reply
use Rattle.bcv_model.specs.NoteRules.{Folds, IsPendingAs, MayEnd, MayStand}
use Rattle.bcv_model.specs.Notes.{after_note}
use Rattle.bcv_pages.specs.Held.{Held}
use Rattle.bcv_publish.specs.declared.work.Work.TheVariants as work
use Rattle.bcv_publisher.specs.NotesFit.{FoldsFit}
use Rattle.bcv_publisher.specs.PollStep.{IsReadForm}
use Rattle.bcv_publisher.specs.Settles.{Voids, reply_by}
use Rattle.bcv_publisher.specs.StepNotes.{LeavesNotes, NotesPublication}
use Rattle.bcv_publisher.specs.WorkEnds.{EndsBy}
use Rattle.bcv_publisher.specs.WorkStep.{IsEvent}
use Rattle.bcv_publisher.proofs.Moments.{leaves_kept}
use Rattle.bcv_publisher.proofs.NotesFit.{void_kept}
use Rattle.bcv_publisher.proofs.StepMoments.{end_moment}
use Rattle.bcv_publisher.proofs.WorkFits.{ledger_fits}
use Rattle.bcv_slots.specs.declared.Slot.{Slot}
use Rattle.bcv_store.specs.StoreShown.{StoreShown, StoreTold}
use Rattle.bcv_tasks.specs.declared.publish_task.PublishTask.{PublishTask}
use Rattle.bcv_tasks.specs.State.{id_of, pending_of, refused_of}
use Rattle.bcv_transaction.specs.MachineCalls.{open_part}
use Rattle.bcv_transaction.specs.Open.{Open}
use Rattle.bcv_client.specs.ClientForm.{HasSize, IsInForm, PendingFor, PublishInForm}
use Rattle.bcv_client.specs.ClientParts.{entries_of, parts_of}
use Rattle.bcv_client.specs.Events.{SawItsReads, StandsOver}
use Rattle.bcv_client.specs.NewTasks.{is_busy}
use Rattle.bcv_client.specs.PublicationOver.{GoesOnOver, PublicationOver, StaysInForm, StandsWith, mine_with, publishing_part}
use Rattle.bcv_client.specs.PublicationPut.{EndsUntimed}
use Rattle.bcv_client.specs.TaskParts.{entries_in, sets_in, task_part}
use Rattle.bcv_client.specs.declared.client.Client.{Client}
use Rattle.bcv_client.specs.declared.job.Job.{Job}
use Rattle.bcv_client.proofs.BlockSizes.{size_void}
use Rattle.bcv_client.proofs.BusyTasks.{busy_jobs}
use Rattle.bcv_client.proofs.MyNames.{named_by, pending_was, tasks_by, tasks_were, without_task_mine}
use Rattle.bcv_client.proofs.TaskStands.{quiet_saw, waits_for}
use Rattle.bcv_client.proofs.RevertForm.{quiet_changes, quiet_slots, size_as_before}
use Rattle.bcv_client.proofs.SetViews.{keeps_txns, tasks_same, txns_same}
use Rattle.bcv_client.proofs.WorkFlights.{LeavesNames, names_left}

same_views : (sets : List (Option Held)) → KeepsViews sets sets
same_views sets place h at = (h, at, (λ from to can. (can, refl)), refl)

-- nothing was appended
none_grown : (alone : Type 0) (mine : List Id16) (log : List Entry) → IsSoundLog log → RequestGrowth alone mine log log
none_grown alone mine log sound = record {
  others = [];
  none = λ a. refl;
  lawful = tt;
  own = [];
  one = omega arith;
  grown = sym (append-nil (log ++ []) ∙ append-nil log);
  own_lawful = λ theirs apart. tt;
  sound = sound;
}

-- ---- the end of the publication, by what is pending

module _ {D : Type 0} {g : _} (told : DiskTold) (shown : D → DiskShown) (l k : Ledger D g) (t : PublishTask) (r : Reply) where
  abbrev void : Note
  void = note.Void (id_of t)

  -- which replies come
  module _ (P : Reply → Type 0) (clock : P reply.ClockFault) (full : P reply.JournalFull) (disk : P reply.DiskFault) (memory : P reply.NoMemory) where
    by_fault : (e : Reply) → IsNoteFault (Some e) → P e
    by_fault reply.JournalFull answers = full
    by_fault reply.DiskFault answers = disk
    by_fault reply.NoMemory answers = memory
    by_fault _ answers = absurd answers

    by_void : (h : Voids told shown l k t reply.ClockFault r) → (o : Option Reply) → h.fault ≡ o → P r
    by_void h None is = subst P (sym (h.is ∙ ap (λ (y : Option Reply). reply_by y reply.ClockFault) is)) clock
    by_void h (Some e) is =
        subst P (sym (h.is ∙ ap (λ (y : Option Reply). reply_by y reply.ClockFault) is)) (by_fault e (subst IsNoteFault is h.ends.answers))

    pub reply_is : (w : Option PendingPub) → EndsBy told shown l k t w reply.ClockFault r → P r
    reply_is None ends = subst P (sym ends.1) clock
    reply_is (Some x) h = by_void h h.fault refl

  -- the sets stay
  pub views_end : (w : Option PendingPub) → EndsBy told shown l k t w reply.ClockFault r → KeepsViews l.databases.sets k.databases.sets
  views_end None ends = subst (λ (y : Ledger D g). KeepsViews l.databases.sets y.databases.sets) (sym ends.0) (same_views l.databases.sets)
  views_end (Some x) h = h.ends.views

  -- so does the block size
  module _ (size : Option ℕ) (blocks : Option Blocks) (has : HasSize size l.databases blocks) where
    size_by : (h : Voids told shown l k t reply.ClockFault r) → (o : Option Reply) → h.fault ≡ o → HasSize size k.databases blocks
    size_by h None is =
        size_void size l.databases k.databases blocks (id_of t) has (h.ends.kept ∙ ap (λ (y : Option Reply). kept_ended y l.databases.kept void) is)
        (h.ends.knows ∙ ap (λ (y : Option Reply). known_ended y l.databases.known l.databases.known) is)
    size_by h (Some e) is =
        size_as_before size l.databases k.databases blocks has (h.ends.kept ∙ ap (λ (y : Option Reply). kept_ended y l.databases.kept void) is)
        (h.ends.knows ∙ ap (λ (y : Option Reply). known_ended y l.databases.known l.databases.known) is)

    pub size_end : (w : Option PendingPub) → EndsBy told shown l k t w reply.ClockFault r → HasSize size k.databases blocks
    size_end None ends = subst (λ (y : Ledger D g). HasSize size y.databases blocks) (sym ends.0) has
    size_end (Some x) h = size_by h h.fault refl

  -- ---- what is noted

  abbrev pub void_notes : Option PendingPub → List Note
  void_notes None = []
  void_notes (Some x) = void ∷ []

  pub noted_end : (w : Option PendingPub) (y : PendingPub) → id_of t ≡ y.id → NotesPublication w y (void_notes w)
  noted_end None y is = tt
  noted_end (Some x) y is = is

  pub may_fold : (w : Option PendingPub) → (IsSome w → MayStand l.databases.kept void) → (end : Kept) × Folds l.databases.kept (void_notes w) end
  may_fold None may = (l.databases.kept, refl)
  may_fold (Some x) may = (after_note l.databases.kept void, (may refl, refl))

  pub left_end : (log : List Entry) (id : Id16) → FitsKept log id l.databases.kept [] → (w : Option PendingPub) → FoldsFit log id l.databases.kept (void_notes w)
  left_end log id fits None = fits
  left_end log id fits (Some x) = (fits, void_kept log id (id_of t) l.databases.kept fits)

  pub moments_end : ((disk : D) → told.tells → (image : List ℕ) → (shown disk).left_since (shown disk).moment image → (shown disk).may_leave image) → is_shut l.log ≡ false
      → (w : Option PendingPub) → EndsBy told shown l k t w reply.ClockFault r → told.tells → (end : Kept) → Folds l.databases.kept (void_notes w) end
      → LeavesNotes shown l.log k.log l.databases.kept (void_notes w)
  moments_end only_now is_open None ends tells end folds =
      subst (λ (y : Ledger D g). LeavesNotes shown l.log y.log l.databases.kept []) (sym ends.0)
      (λ f journaled. leaves_kept told shown tells only_now l.log l.databases.kept f is_open journaled)
  moments_end only_now is_open (Some x) h tells end folds = end_moment told shown l k void l.databases.known h.fault h.ends is_open tells end folds

-- ---- the step

module _ {D : Type 0} {g : _} (told : DiskTold) (shown : D → DiskShown) (before after : StoreShown) (old new : Client D g) (set taken : ℕ) (t : PublishTask) (r : Reply) (u : PublishTask)
    (step : EndsUntimed told shown before after old new t r u) (form : IsInForm old.seen old.ledger.databases old.txns old.tasks.items) (own : PublishInForm old.seen old.ledger.databases set taken t)
    (is_id : IsId (id_of t)) (alone : runs_publication (parts_of old) ≡ false) where
  abbrev p : Parts
  p = parts_of old

  abbrev c : Catalog
  c = old.ledger.databases

  abbrev d : Catalog
  d = new.ledger.databases

  none_busy : list_any (λ (s : Slot Job). is_busy s.item) old.tasks.items ≡ false
  none_busy = sym (busy_jobs c old.tasks.items) ∙ alone

  views : KeepsViews c.sets d.sets
  views = views_end told shown old.ledger new.ledger t r c.kept.pending step.ends

  pub untimed_form : IsInForm new.seen d new.txns new.tasks.items
  untimed_form =
      subst (λ (s : Seen). IsInForm s d new.txns new.tasks.items) (sym step.seen_same)
      (subst (λ (o : Open). IsInForm old.seen d o new.tasks.items) (sym step.only.txns)
      (subst (IsInForm old.seen d old.txns) (sym (ap (λ x. x.items) step.only.tasks))
      (quiet_changes old.seen old.seen c d old.txns old.tasks.items form none_busy (keeps_txns c.sets d.sets views old.txns.txns)
      (size_end told shown old.ledger new.ledger t r old.seen.block old.txns.cache form.size c.kept.pending step.ends))))

  pub untimed_read : IsReadForm old.seen old.latest → IsReadForm new.seen new.latest
  untimed_read read = subst (λ (s : Seen). IsReadForm s new.latest) (sym step.seen_same) (subst (IsReadForm old.seen) (sym step.only.latest) read)

  pub untimed_stays : StaysInForm new set taken r u
  untimed_stays = reply_is told shown old.ledger new.ledger t r (λ (y : Reply). StaysInForm new set taken y u) tt tt tt tt c.kept.pending step.ends

  abbrev parts_ended : Id16 → Seen → Option Latest → Open → List (Slot Job) → Parts
  parts_ended id seen latest o tasks = record {
    id = id;
    closed = is_shut new.ledger.log;
    seen = seen;
    latest = latest;
    kept = d.kept;
    known = d.known;
    txns = map (open_part (sets_in d)) o.txns;
    tasks = map (task_part d) tasks;
  }

  parts_after : parts_of new ≡ with_ledger (parts_in new.ledger) p
  parts_after =
      ap (λ (i : Id16). parts_ended i new.seen new.latest new.txns new.tasks.items) step.only.id
      ∙ ap (λ (s : Seen). parts_ended old.id s new.latest new.txns new.tasks.items) step.seen_same
      ∙ ap (λ (k : Option Latest). parts_ended old.id old.seen k new.txns new.tasks.items) step.only.latest
      ∙ ap (λ (o : Open). parts_ended old.id old.seen old.latest o new.tasks.items) step.only.txns
      ∙ ap (λ x. parts_ended old.id old.seen old.latest old.txns x.items) step.only.tasks
      ∙ ap (λ (xs : List parts.OpenTxn). record (parts_ended old.id old.seen old.latest old.txns old.tasks.items) { txns = xs })
      (txns_same c d old.txns.txns form.txns (keeps_txns c.sets d.sets views old.txns.txns))
      ∙ ap (λ (xs : List Task). record (with_ledger (parts_in new.ledger) p) { tasks = xs })
      (tasks_same c d old.seen old.txns old.tasks.items form.tasks_are.each (quiet_slots c.sets d.sets old.tasks.items none_busy))

  -- void may stand where the publication is pending
  pub may_void : (log : List Entry) → Fits p (entries_of old) log → IsSome c.kept.pending → MayStand c.kept (note.Void (id_of t))
  may_void log fits some = by c.kept.pending refl some
    where
      by : (w : Option PendingPub) → c.kept.pending ≡ w → IsSome w → MayEnd c.kept (id_of t)
      by None is some = absurd (let e : false ≡ true = some in cc)
      by (Some x) is some = record {
        named = subst IsSome (sym fits.named) refl;
        is_id = is_id;
        waits =
            subst (λ (w : Option PendingPub). IsPendingAs w (id_of t)) (sym is)
            (ap (λ (y : PendingPub). y.id) (waits_for (Some x) (pending_of taken t) (refused_of t) (subst (λ (w : Option PendingPub). PendingFor w (pending_of taken t) (refused_of t)) is own.waits)));
      }

  -- ---- over a log

  module _ (store : StoreTold) (n moment : ℕ) (mine : List Id16) (f : Free) (stands : StandsWith shown old n set taken t before.log f) (tells : told.tells) (clock later_clock : ClockShown) (names : NamesShown)
      (rose : Rose clock.faults later_clock.faults) (all : Includes mine (mine_with old n set taken t)) where
    left : LeavesNames told shown mine old.ledger new.ledger t f tells stands.stands.journaled
    left = names_left told shown mine old.ledger new.ledger t f tells stands.stands.journaled (may_void before.log stands.stands.fits) work.ClockFault r step.ends

    my_own : Includes mine (mine_of p)
    my_own = without_task_mine mine p (publishing_part c n set taken t) all

    names_then : Includes mine (mine_of (parts_of new))
    names_then =
        named_by mine old new my_own step.only.id (left.pending (pending_was mine old new my_own))
        (tasks_by mine old new my_own old.tasks.items (ap (λ x. x.items) step.only.tasks) (tasks_were mine old new my_own))

    stands_then : StandsOver shown new before.log left.free
    stands_then = record {
      sound = stands.stands.sound;
      fits =
          subst (λ (q : Parts). Fits q (entries_of new) before.log) (sym parts_after)
          (subst (λ (o : Open). Fits (with_ledger (parts_in new.ledger) p) (entries_in o.cache) before.log) (sym step.only.txns)
          (ledger_fits told shown old.ledger new.ledger before.log p (entries_of old) stands.stands.fits alone t work.ClockFault r step.ends));
      saw = subst (AllByRecursion (λ (s : Slot Job). SawItsReads (history_of before.log) s.item)) (sym (ap (λ x. x.items) step.only.tasks)) (quiet_saw (history_of before.log) old.tasks.items none_busy);
      journaled = left.journaled;
      slots = left.slots ∙ stands.stands.slots ∙ sym (ap (λ (o : Open). o.slots) step.only.txns);
    }

    here_over : PublicationOver (IsEvent names names clock later_clock r) shown store mine before before old new moment f n set taken t r u
    here_over = record {
      over = record {
        growth = none_grown store.alone mine before.log stands.stands.sound;
        free = left.free;
        stands = stands_then;
        names = names_then;
        flight = left.flight;
        event = λ is. absurd (is.moment rose);
      };
      on = reply_is told shown old.ledger new.ledger t r (λ (y : Reply). GoesOnOver mine new.id d before.log n set taken y u) tt tt tt tt c.kept.pending step.ends;
    }

    pub untimed_over : PublicationOver (IsEvent names names clock later_clock r) shown store mine before after old new moment f n set taken t r u
    untimed_over =
        subst (λ (s : StoreShown). PublicationOver (IsEvent names names clock later_clock r) shown store mine before s old new moment f n set taken t r u) (sym step.store_same) here_over
