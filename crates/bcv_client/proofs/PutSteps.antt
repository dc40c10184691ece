-- The put of a task, as the step of a publishing task that was taken out.
use Rattle.std.proofs.Common.{◌≡◌, ◌∙◌, ◌<◌, ◌^◌, ℕ, false, true, List, [], append-nil, length, Option, Some, None, refl, sym, ap, subst, arith}
use Rattle.bcv_base.specs.declared.clock.Now.TheVariants as now
use Rattle.bcv_base.specs.declared.id.Id16.{Id16}
use Rattle.bcv_base.specs.declared.log.Entry.{Entry}
use Rattle.bcv_base.specs.Drawn.{AddsNames, NamesShown}
use Rattle.bcv_base.specs.Faults.{Rose}
use Rattle.bcv_base.specs.Ids.{IsId}
use Rattle.bcv_base.specs.Moments.{ClockShown, Tells}
use Rattle.bcv_clientlaws.specs.OtherParts.{Includes}
use Rattle.bcv_clientlog.specs.declared.log.ClientLog.{ClientLog}
use Rattle.bcv_clientlog.specs.LogParts.{is_shut}
use Rattle.bcv_clientstate.specs.PartRefusals.{runs_publication}
use Rattle.bcv_clientstate.specs.SeenClient.{Free}
use Rattle.bcv_disk.specs.DiskShown.{DiskShown, DiskTold}
use Rattle.bcv_model.specs.declared.kept.PendingPub.{PendingPub}
use Rattle.bcv_model.specs.declared.reply.Reply.{Reply}
use Rattle.bcv_model.specs.declared.reply.Reply.TheVariants as reply
use Rattle.bcv_publisher.specs.NotesFit.{FoldsFit}
use Rattle.bcv_publisher.specs.PollStep.{IsReadForm}
use Rattle.bcv_publisher.specs.PutStep.{MayPutManifest, PutStepLeaves}
use Rattle.bcv_publisher.specs.StepNotes.{LeavesNotes, NotesPublication}
use Rattle.bcv_publisher.specs.WorkStep.{IsEvent}
use Rattle.bcv_publisher.proofs.NotesFit.{client_kept}
use Rattle.bcv_store.specs.StoreShown.{StoreShown, StoreTold}
use Rattle.bcv_tasks.specs.declared.publish_task.PublishTask.{PublishTask}
use Rattle.bcv_tasks.specs.declared.publish_task.PublishTask.TheVariants as task
use Rattle.bcv_tasks.specs.State.{id_of, is_ready, pending_of, writer_of}
use Rattle.bcv_client.specs.ClientForm.{IsInForm, PublishInForm}
use Rattle.bcv_client.specs.ClientParts.{entries_of, parts_of}
use Rattle.bcv_transaction.specs.Open.{Open}
use Rattle.bcv_client.specs.PublicationOver.{OnlyPublishes, PublicationOver, StandsWith, StaysInForm, StepsTask, mine_with, view_at}
use Rattle.bcv_client.specs.PublicationPut.{ClientNotes, ClientPuts, EndsUntimed, OnlyPuts, PutsAt, signed}
use Rattle.bcv_client.specs.declared.client.Client.{Client}
use Rattle.bcv_client.proofs.PutForm.{form_put, put_stays, read_put}
use Rattle.bcv_client.proofs.PutOver.{may_put, put_over}
use Rattle.bcv_client.proofs.TaskStands.{counted}
use Rattle.bcv_client.proofs.PutTasks.{signed_form, signed_id, signed_pending, signed_ready, signed_writer}
use Rattle.bcv_client.proofs.Reverts.{same_ledger}
use Rattle.bcv_client.proofs.PutUntimed.{left_end, may_fold, may_void, moments_end, noted_end, untimed_form, untimed_over, untimed_read, untimed_stays, void_notes}

-- ---- no names

no_names : (o : Option (List Id16)) → AddsNames o o []
no_names None = tt
no_names (Some ids) = sym (append-nil ids)

-- ---- the task that publishes in the client's name stands for the same

module _ {D : Type 0} {g : _} (w : Id16) where
  signed_mine : (c : Client D g) (n set taken : ℕ) (t : PublishTask) → mine_with c n set taken (signed w t) ≡ mine_with c n set taken t
  signed_mine c n set taken (task.Create x) = refl
  signed_mine c n set taken (task.Copy id s) = refl
  signed_mine c n set taken (task.Upload id s) = refl
  signed_mine c n set taken (task.Cleanup id s) = refl

  signed_stands : (shown : D → DiskShown) (c : Client D g) (n set taken : ℕ) (t : PublishTask) (log : List Entry) (f : Free) → StandsWith shown c n set taken t log f
      → StandsWith shown c n set taken (signed w t) log f
  signed_stands shown c n set taken (task.Create x) log f stands =
      record { stands = stands.stands; task = record { fits = stands.task.fits; staged = stands.task.staged; saw = record { block = stands.task.saw.block; number = stands.task.saw.number } } }
  signed_stands shown c n set taken (task.Copy id s) log f stands = stands
  signed_stands shown c n set taken (task.Upload id s) log f stands = stands
  signed_stands shown c n set taken (task.Cleanup id s) log f stands = stands

  signed_over : (One : Type 0) (shown : D → DiskShown) (store : StoreTold) (mine : List Id16) (before after : StoreShown) (old new : Client D g) (moment : ℕ) (f : Free) (n set taken : ℕ) (t : PublishTask) (r : Reply) (u : PublishTask)
      → PublicationOver One shown store mine before after old new moment f n set taken (signed w t) r u → PublicationOver One shown store mine before after old new moment f n set taken t r u
  signed_over One shown store mine before after old new moment f n set taken (task.Create x) r u h = record { over = h.over; on = h.on }
  signed_over One shown store mine before after old new moment f n set taken (task.Copy id s) r u h = h
  signed_over One shown store mine before after old new moment f n set taken (task.Upload id s) r u h = h
  signed_over One shown store mine before after old new moment f n set taken (task.Cleanup id s) r u h = h

only_puts : {D : Type 0} {g : _} (old new : Client D g) → OnlyPuts old new → OnlyPublishes old new
only_puts old new only = record { id = only.id; tasks = only.tasks; opened = ap (λ (o : Open). o.txns) only.txns; slots = ap (λ (o : Open). o.slots) only.txns; taken = only.taken }

-- ---- a moment was read

module _ {D : Type 0} {g : _} (told : DiskTold) (shown : D → DiskShown) (store : StoreTold) (before after : StoreShown) (clock later_clock : ClockShown) (old new : Client D g) (set taken : ℕ) (t : PublishTask) (moment : ℕ)
    (r : Reply) (u : PublishTask) (tells_moment : Tells clock later_clock (now.At moment)) (step : PutsAt told shown store before after old new set taken (signed old.id t) moment r u)
    (in_form : IsInForm old.seen old.ledger.databases old.txns old.tasks.items) (own : PublishInForm old.seen old.ledger.databases set taken t) (ready : is_ready t ≡ true)
    (alone : runs_publication (parts_of old) ≡ false) (small : taken < 2 ^ 64) where
  abbrev v : PublishTask
  v = signed old.id t

  own_v : PublishInForm old.seen old.ledger.databases set taken v
  own_v = signed_form old.id old.seen old.ledger.databases set taken t own

  ready_v : is_ready v ≡ true
  ready_v = signed_ready old.id t ∙ ready

  module _ (n : ℕ) (mine : List Id16) (f : Free) (stands : StandsWith shown old n set taken t before.log f) (all : Includes mine (mine_with old n set taken t)) where
    stands_v : StandsWith shown old n set taken v before.log f
    stands_v = signed_stands old.id shown old n set taken t before.log f stands

    all_v : Includes mine (mine_with old n set taken v)
    all_v = subst (λ (names : List Id16). Includes mine names) (sym (signed_mine old.id old n set taken t)) all

    writer_v : writer_of v ≡ old.id
    writer_v = signed_writer (mine_with old n set taken t) old.id old.ledger.databases.kept before.log (view_at old.ledger.databases set t) t stands.task.fits

    may : MayPutManifest mine before.log (parts_of old) (entries_of old) n (view_at old.ledger.databases set v) old.seen v
    may = may_put told shown store before after old new set taken v moment r u step in_form own_v ready_v alone small n mine f stands_v all_v writer_v

    count : pending_of (length (view_at old.ledger.databases set v)) v ≡ pending_of taken v
    count = counted old.ledger.databases set taken old.seen v own_v.view

  pub put_steps : (names : NamesShown) → StepsTask told shown store before after names names clock later_clock old new set taken t r u
  put_steps names = record {
    ids = [];
    drawn = no_names names.drawn;
    few = omega arith;
    at = Some moment;
    reads = tells_moment;
    over = λ store_tells tells n at mine f stands all none unused is honest is_armed.
        let entries = entries_of old in
        let view = view_at old.ledger.databases set v in
        let says = step.puts.machine store_tells tells (parts_of old) entries n view mine (count n mine f stands all) (may n mine f stands all) honest in
        let fits = step.notes.client store_tells (parts_of old) entries n view mine (count n mine f stands all) (may n mine f stands all) alone honest in
        let over =
        put_over told shown store before after old new set taken v moment r u step in_form own_v ready_v alone small n mine f (stands_v n mine f stands all) (all_v n mine f stands all) (writer_v n mine f stands all) says fits
        names clock later_clock is_armed in
        signed_over old.id (IsEvent names names clock later_clock r) shown store mine before after old new at f n set taken t r u
        (subst (λ (k : ℕ). PublicationOver (IsEvent names names clock later_clock r) shown store mine before after old new k f n set taken v r u) is over);
  }

  pub put_notes : ClientNotes told shown store before after old new set taken t
  put_notes = record {
    notes = step.notes.notes;
    noted = subst (λ (x : PendingPub). NotesPublication old.ledger.databases.kept.pending x step.notes.notes) (signed_pending old.id taken t) step.notes.noted;
    any_moment = λ tells end folds.
        subst (λ (l : ClientLog D _). LeavesNotes shown old.ledger.log l old.ledger.databases.kept step.notes.notes) (sym (same_ledger step.mid new.ledger old.txns step.views).log)
        (step.notes.any_moment tells end folds);
    may = λ store_tells n mine f stands all honest.
        (step.notes.client store_tells (parts_of old) (entries_of old) n (view_at old.ledger.databases set v) mine (count n mine f stands all) (may n mine f stands all) alone honest).may;
    left = λ store_tells n mine f stands all honest.
        (step.notes.client store_tells (parts_of old) (entries_of old) n (view_at old.ledger.databases set v) mine (count n mine f stands all) (may n mine f stands all) alone honest).left;
  }

  -- every clause
  pub record PutHolds : Type 0 where
    pub form : IsInForm new.seen new.ledger.databases new.txns new.tasks.items
    pub read : IsReadForm new.seen new.latest
    pub only : OnlyPublishes old new
    pub stays : StaysInForm new set taken r u
    pub puts : ClientPuts told shown store before after clock later_clock old new set taken t r u
    pub notes : ClientNotes told shown store before after old new set taken t
    pub steps : (names : NamesShown) → StepsTask told shown store before after names names clock later_clock old new set taken t r u

  no_clock : (y : Reply) → PutStepLeaves old.ledger step.mid old.seen (pending_of taken v) v moment y u → y ≡ reply.ClockFault → Rose clock.faults later_clock.faults
  no_clock y leaves is = absurd (subst (λ (z : Reply). PutStepLeaves old.ledger step.mid old.seen (pending_of taken v) v moment z u) is leaves)

  pub put_holds : IsReadForm old.seen old.latest → IsId (id_of t) → PutHolds
  put_holds read is_id =
      let is_id_v : IsId (id_of v) = subst IsId (sym (signed_id old.id t)) is_id in
      record {
        form = form_put told shown store before after old new set taken v moment r u step in_form read own_v ready_v is_id_v alone;
        read = read_put told shown store before after old new set taken v moment r u step in_form read own_v ready_v is_id_v alone;
        only = only_puts old new step.only;
        stays = put_stays told shown store before after old new set taken v moment r u step in_form read own_v ready_v is_id_v alone;
        puts = record { read = now.At moment; tells = tells_moment; by = step; cause = no_clock r step.puts.leaves };
        notes = put_notes;
        steps = put_steps;
      }

-- ---- none was

module _ {D : Type 0} {g : _} (told : DiskTold) (shown : D → DiskShown) (store : StoreTold) (before after : StoreShown) (clock later_clock : ClockShown) (old new : Client D g) (set taken : ℕ) (t : PublishTask) (r : Reply)
    (u : PublishTask) (rose : Rose clock.faults later_clock.faults) (step : EndsUntimed told shown before after old new (signed old.id t) r u)
    (in_form : IsInForm old.seen old.ledger.databases old.txns old.tasks.items) (own : PublishInForm old.seen old.ledger.databases set taken t) (is_id : IsId (id_of t))
    (alone : runs_publication (parts_of old) ≡ false) where
  abbrev q : PublishTask
  q = signed old.id t

  own_q : PublishInForm old.seen old.ledger.databases set taken q
  own_q = signed_form old.id old.seen old.ledger.databases set taken t own

  is_id_q : IsId (id_of q)
  is_id_q = subst IsId (sym (signed_id old.id t)) is_id

  pub untimed_steps : (names : NamesShown) → StepsTask told shown store before after names names clock later_clock old new set taken t r u
  untimed_steps names = record {
    ids = [];
    drawn = no_names names.drawn;
    few = omega arith;
    at = None;
    reads = tt;
    over = λ store_tells tells n at mine f stands all none unused is honest is_armed.
        signed_over old.id (IsEvent names names clock later_clock r) shown store mine before after old new at f n set taken t r u
        (untimed_over told shown before after old new set taken q r u step in_form own_q is_id_q alone store n at mine f (signed_stands old.id shown old n set taken t before.log f stands) tells clock later_clock names rose
        (subst (λ (names : List Id16). Includes mine names) (sym (signed_mine old.id old n set taken t)) all));
  }

  pub untimed_notes : ((disk : D) → told.tells → (image : List ℕ) → (shown disk).left_since (shown disk).moment image → (shown disk).may_leave image) → is_shut old.ledger.log ≡ false
      → ClientNotes told shown store before after old new set taken t
  untimed_notes only_now is_open =
      let w = old.ledger.databases.kept.pending in
      record {
        notes = void_notes told shown old.ledger new.ledger q r w;
        noted = noted_end told shown old.ledger new.ledger q r w (pending_of taken t) (signed_id old.id t);
        any_moment = moments_end told shown old.ledger new.ledger q r only_now is_open w step.ends;
        may = λ store_tells n mine f stands all honest.
            may_fold told shown old.ledger new.ledger q r w (may_void told shown before after old new set taken q r u step in_form own_q is_id_q alone before.log stands.stands.fits);
        left = λ store_tells n mine f stands all honest.
            subst (λ (s : StoreShown). FoldsFit s.log old.id old.ledger.databases.kept (void_notes told shown old.ledger new.ledger q r w)) (sym step.store_same)
            (left_end told shown old.ledger new.ledger q r before.log old.id (client_kept before.log (entries_of old) (parts_of old) stands.stands.fits) w);
      }

  -- every clause
  pub record UntimedHolds : Type 0 where
    pub form : IsInForm new.seen new.ledger.databases new.txns new.tasks.items
    pub read : IsReadForm new.seen new.latest
    pub only : OnlyPublishes old new
    pub stays : StaysInForm new set taken r u
    pub puts : ClientPuts told shown store before after clock later_clock old new set taken t r u
    pub steps : (names : NamesShown) → StepsTask told shown store before after names names clock later_clock old new set taken t r u

  pub untimed_holds : IsReadForm old.seen old.latest → Tells clock later_clock now.Failed → UntimedHolds
  untimed_holds read tells_none = record {
    form = untimed_form told shown before after old new set taken q r u step in_form own_q is_id_q alone;
    read = untimed_read told shown before after old new set taken q r u step in_form own_q is_id_q alone read;
    only = only_puts old new step.only;
    stays = untimed_stays told shown before after old new set taken q r u step in_form own_q is_id_q alone;
    puts = record { read = now.Failed; tells = tells_none; by = step; cause = λ is. rose };
    steps = untimed_steps;
  }
