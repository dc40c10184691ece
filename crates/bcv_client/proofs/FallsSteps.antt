-- What a crash may leave after the step of a task fits the log.
use Rattle.std.proofs.Common.{◌≡◌, ◌∙◌, ◌⊎◌, ◌^◌, ◌<◌, ◌≤◌, ◌+◌, ℕ, Bool, true, false, List, [], ◌∷◌, ◌++◌, Option, Some, None, IfSome, IsSome, unwrap_or, inl, inr, refl, sym, ap, subst, arith}
use Rattle.std.specs.List.{list_any}
use Rattle.bcv_base.specs.declared.id.Id16.{Id16}
use Rattle.bcv_base.specs.declared.log.Entry.{Entry}
use Rattle.bcv_base.specs.Drawn.{AddsNames, NamesShown}
use Rattle.bcv_base.specs.History.{history_of}
use Rattle.bcv_base.specs.Ids.{IsId}
use Rattle.bcv_base.specs.Image.{Writes}
use Rattle.bcv_base.specs.Moments.{ClockShown}
use Rattle.bcv_clientlaws.specs.OtherParts.{FitsKept, Includes}
use Rattle.bcv_clientlog.specs.LogParts.{LoadsUpTo, is_shut, log_area, log_disk, log_tail}
use Rattle.bcv_clientlog.specs.declared.log.ClientLog.{ClientLog}
use Rattle.bcv_clientstate.specs.Fits.{FitsJob}
use Rattle.bcv_clientstate.specs.Journaled.{most_of}
use Rattle.bcv_clientstate.specs.PartRefusals.{runs_publication}
use Rattle.bcv_clientstate.specs.Parts.{mine_of, with_ledger}
use Rattle.bcv_clientstate.specs.SeenClient.{Free}
use Rattle.bcv_cleanup.specs.Released.{RuleAnswers}
use Rattle.bcv_dbmap.specs.Honest.{GrewHonestly}
use Rattle.bcv_dbmap.specs.RequestGrowth.{RequestGrowth}
use Rattle.bcv_disk.specs.Crash.{LeavesOnly}
use Rattle.bcv_disk.specs.DiskShown.{DiskShown, DiskTold}
use Rattle.bcv_ledger.specs.LedgerNotes.{parts_in}
use Rattle.bcv_ledger.specs.NoteEnds.{ShutAfter}
use Rattle.bcv_ledger.specs.declared.ledger.Ledger.{Ledger}
use Rattle.bcv_model.specs.declared.kept.Kept.{Kept}
use Rattle.bcv_model.specs.declared.note.Note.TheVariants as note
use Rattle.bcv_model.specs.declared.reply.Reply.{Reply}
use Rattle.bcv_model.specs.declared.reply.Reply.TheVariants as reply
use Rattle.bcv_publication.specs.TaskSides.{job_of}
use Rattle.bcv_publisher.specs.PollStep.{PollStep}
use Rattle.bcv_publisher.specs.WorkStep.{AreUnused, LeavesLedger, drawn_ids, moment_read}
use Rattle.bcv_publisher.proofs.NotesFit.{client_kept, void_kept}
use Rattle.bcv_slots.specs.declared.Slot.{Slot}
use Rattle.bcv_store.specs.StoreShown.{StoreShown, StoreTold}
use Rattle.bcv_tasks.specs.declared.publish_task.PublishTask.{PublishTask}
use Rattle.bcv_tasks.specs.declared.publish_task.PublishTask.TheVariants as task
use Rattle.bcv_tasks.specs.State.{IsRunning, id_of, is_ready}
use Rattle.bcv_client.specs.CallNames.{LeavesFit}
use Rattle.bcv_client.specs.ClientForm.{IsInForm, PublishInForm}
use Rattle.bcv_client.specs.ClientParts.{entries_of, parts_of}
use Rattle.bcv_client.specs.Events.{IsArmed, StandsOver}
use Rattle.bcv_client.specs.Falls.{FallsJob, FallsPut, FallsTask}
use Rattle.bcv_client.specs.NewTasks.{is_busy}
use Rattle.bcv_client.specs.PublicationOver.{OnlyPublishes, StandsWith, mine_with, view_at}
use Rattle.bcv_client.specs.PublicationPut.{ClientNotes}
use Rattle.bcv_client.specs.ResolveOver.{ClientResolves}
use Rattle.bcv_client.specs.TaskRequests.{ClientWorks, WorksOver, cache_for}
use Rattle.bcv_client.specs.declared.client.Client.{Client}
use Rattle.bcv_client.specs.declared.job.Job.{Job}
use Rattle.bcv_client.proofs.LeftFits.{grown_left, noted_left, open_left, same_left}
use Rattle.bcv_client.proofs.OthersGrew.{grown_by_others}
use Rattle.bcv_client.proofs.NumberSteps.{adds_none}
use Rattle.bcv_client.proofs.WorkOver.{work_over, work_says}

-- ---- a step in which others alone append, and nothing is noted

module _ {D : Type 0} {g : _} (told : DiskTold) (shown : D → DiskShown) (store : StoreTold) (before after : StoreShown) (old new : Client D g) (id : new.id ≡ old.id)
    (same : new.ledger.log ≡ old.ledger.log) where
  pub others_fall : (store.tells → (mine : List Id16) (f : Free) → StandsOver shown old before.log f → Includes mine (mine_of (parts_of old)) → GrewHonestly store.alone mine before.log after.log
      → (growth : RequestGrowth store.alone mine before.log after.log) × (growth.own ≡ [])) → FallsJob told shown store before after old new
  others_fall grows store_tells tells mine f stands all flight none unused honest fits =
      let grew = grows store_tells mine f stands all honest in
      let grown : after.log ≡ before.log ++ grew.0.others = grown_by_others store.alone mine before.log after.log grew.0 grew.1 in
      same_left shown old new after.log id same
      (subst (λ (log : List Entry). LeavesFit shown old log) (sym grown) (grown_left shown old before.log grew.0.others mine f stands all flight grew.0.lawful fits))

  pub poll_falls : (r : Reply) → PollStep store before after old.ledger new.ledger old.seen new.seen old.latest new.latest r → FallsJob told shown store before after old new
  poll_falls r polls =
      others_fall (λ store_tells mine f stands all honest.
      let says = polls.machine store_tells (parts_of old) (entries_of old) mine stands.sound stands.fits all honest in (says.growth, says.no_own))

-- ---- a resolve, and a put

module _ {D : Type 0} {g : _} (told : DiskTold) (shown : D → DiskShown)
    (counts_now : (disk : D) → told.tells → (t : ℕ) (image : List ℕ) → t ≤ (shown disk).moment → (shown disk).may_leave image → (shown disk).left_since t image)
    (store : StoreTold) (before after : StoreShown) (old new : Client D g) (id : new.id ≡ old.id) where
  pub resolve_falls : (r : Reply) → ClientResolves told shown store before after old new r → runs_publication (parts_of old) ≡ false → FallsJob told shown store before after old new
  resolve_falls r res alone store_tells tells mine f stands all flight none unused honest fits =
      let says = res.resolves.machine store_tells tells (parts_of old) (entries_of old) mine stands.sound stands.fits alone refl refl all honest in
      noted_left told shown counts_now tells old new after.log old.ledger.databases.kept (most_of f) res.resolves.notes id
      (subst (λ (l : ClientLog D g). LeavesOnly (shown (log_disk old.ledger.log)) (shown (log_disk l)) (LoadsUpTo old.ledger.databases.kept (most_of f) res.resolves.notes)) (sym res.views.log)
      (res.resolves.any_moment tells says.may.0 says.may.1 f stands.journaled)) says.left

  pub put_falls : (set taken : ℕ) (t : PublishTask) → ClientNotes told shown store before after old new set taken t → FallsPut told shown store before after old new set taken t
  put_falls set taken t noted n store_tells tells mine f stands all flight none unused honest fits =
      let may = noted.may store_tells n mine f stands all honest in
      noted_left told shown counts_now tells old new after.log old.ledger.databases.kept (most_of f) noted.notes id (noted.any_moment tells may.0 may.1 f stands.stands.journaled)
      (noted.left store_tells n mine f stands all honest)

-- ---- a step before a put

-- a task's publication has an id
pub task_is_id : (mine : List Id16) (writer : Id16) (k : Kept) (log : List Entry) (view : List Writes) (t : PublishTask) → IsRunning t → FitsJob mine writer k log (job_of view t) → IsId (id_of t)
task_is_id mine writer k log view (task.Create c) running fits = fits.1
task_is_id mine writer k log view (task.Copy id s) running fits = subst IsId (sym running.0) fits.1.is_id
task_is_id mine writer k log view (task.Upload id s) running fits = subst IsId (sym running.0) fits.1.is_id
task_is_id mine writer k log view (task.Cleanup id s) running fits = subst IsId (sym running.0) fits.1.is_id

-- where the journal is still open nothing need be armed, and where it is closed a fault of the disk was answered
open_armed : (r : Reply) (shut : Bool) (f : Free) → shut ≡ false → ShutAfter (Some r) shut → IsArmed r f
open_armed reply.DiskFault shut f is after = absurd (let e : false ≡ true = sym is ∙ after in cc)
open_armed _ shut f is after = tt

shut_kept : {D : Type 0} {g : _} (old new : Ledger D g) (t : PublishTask) (r : Reply) → is_shut new.log ≡ true → ShutAfter (Some r) (is_shut new.log) → LeavesLedger old new t r
    → new.databases.kept ≡ old.databases.kept
shut_kept old new t reply.DiskFault is after leaves = leaves.1.0
shut_kept old new t _ is after leaves = absurd (let e : true ≡ false = sym is ∙ after in cc)

-- a moment that was read, or any
abbrev moment_in : Option ℕ → ℕ
moment_in at = unwrap_or at 0

is_moment : (at : Option ℕ) → IfSome at (λ x. x ≡ moment_in at)
is_moment None = tt
is_moment (Some x) = refl

module _ {D : Type 0} {g : _} (told : DiskTold) (shown : D → DiskShown)
    (counts_now : (disk : D) → told.tells → (t : ℕ) (image : List ℕ) → t ≤ (shown disk).moment → (shown disk).may_leave image → (shown disk).left_since t image)
    (answers : RuleAnswers) (store : StoreTold) (before after : StoreShown) (names later_names : NamesShown)
    (clock later_clock : ClockShown) (old new : Client D g) (set taken : ℕ) (t : PublishTask) (r : Reply) (u : PublishTask) (only : OnlyPublishes old new) (sees : new.seen ≡ old.seen)
    (reads : new.latest ≡ old.latest) (form : IsInForm old.seen old.ledger.databases old.txns old.tasks.items) (own : PublishInForm old.seen old.ledger.databases set taken t)
    (not_ready : is_ready t ≡ false) (alone : runs_publication (parts_of old) ≡ false) (quiet : list_any (λ (s : Slot Job). is_busy s.item) old.tasks.items ≡ false) (few : taken < 2 ^ 64)
    (is_open : is_shut old.ledger.log ≡ false) where
  abbrev kept : Kept
  kept = old.ledger.databases.kept

  module _ (works : WorksOver told shown answers store before after names later_names clock later_clock old new set t r u) where
    abbrev ids : List Id16
    ids = drawn_ids store before after names later_names clock later_clock old.seen (view_at old.ledger.databases set t) (cache_for old.txns t) t works.step.made u works.step.kind

    module _ (n : ℕ) (store_tells : store.tells) (tells : told.tells) (mine : List Id16) (f : Free) (stands : StandsWith shown old n set taken t before.log f)
        (all : Includes mine (mine_with old n set taken t)) (drawn : Includes mine ids) (unused : AreUnused (history_of before.log) ids) (honest : GrewHonestly store.alone mine before.log after.log) where
      -- the journal is still open
      opens : is_shut new.ledger.log ≡ false → LeavesFit shown new after.log
      opens unshut =
          let over =
          (work_over told shown answers store before after names later_names clock later_clock old new set taken t r u only sees reads form own not_ready alone quiet few works store_tells tells n
          (moment_in (moment_read t u)) mine f stands all drawn unused (is_moment (moment_read t u)) honest (open_armed r (is_shut new.ledger.log) f unshut works.step.shut)).over in
          open_left shown new after.log over.free over.stands unshut

      -- or the disk failed at the void
      kept_still : is_shut new.ledger.log ≡ true → FitsKept after.log old.id kept []
      kept_still shut =
          let says =
          work_says told shown answers store before after names later_names clock later_clock old new set taken t r u only sees reads form own not_ready alone quiet few works store_tells tells n mine f stands
          all drawn unused honest in
          subst (λ (k : Kept). FitsKept after.log old.id k []) (shut_kept old.ledger new.ledger t r shut works.step.shut works.step.ledger)
          (client_kept after.log works.later.entries (with_ledger (parts_in new.ledger) (parts_of old)) says.client)

      has_id_noted : IsSome kept.me
      has_id_noted = subst (λ (o : Option Id16). IsSome o) (sym stands.stands.fits.named) refl

      fails : is_shut new.ledger.log ≡ true → LeavesFit shown new after.log
      fails shut =
          by (works.step.any_moment tells (stands.stands.journaled.settled is_open) has_id_noted
          (task_is_id (mine_with old n set taken t) old.id kept before.log (view_at old.ledger.databases set t) t own.running stands.task.fits))
        where
          by : (new.ledger ≡ old.ledger)
              ⊎ LeavesOnly (shown (log_disk old.ledger.log)) (shown (log_disk new.ledger.log)) (LoadsUpTo kept (log_tail old.ledger.log + log_area old.ledger.log) (note.Void (id_of t) ∷ []))
              → LeavesFit shown new after.log
          by (inl same) = absurd (let e : true ≡ false = sym shut ∙ ap (λ (l : Ledger D g). is_shut l.log) same ∙ is_open in cc)
          by (inr leaves) =
              noted_left told shown counts_now tells old new after.log kept (log_tail old.ledger.log + log_area old.ledger.log) (note.Void (id_of t) ∷ []) only.id leaves
              (kept_still shut, void_kept after.log old.id (id_of t) kept (kept_still shut))

      either_way : LeavesFit shown new after.log
      either_way = by (is_shut new.ledger.log) refl
        where
          by : (b : Bool) → is_shut new.ledger.log ≡ b → LeavesFit shown new after.log
          by false unshut = opens unshut
          by true shut = fails shut

  pub work_falls : ClientWorks told shown answers store before after names later_names clock later_clock old new set t r u
      → FallsTask told shown store before after names later_names old new set taken t
  work_falls (inl works) n = record {
    ids = ids works;
    drawn = works.step.drawn;
    few = works.step.few;
    over = λ store_tells tells mine f stands all flight drawn unused honest fits. either_way works n store_tells tells mine f stands all drawn unused.0 honest;
  }
  work_falls (inr nothing) n = record {
    ids = [];
    drawn = subst (λ (x : NamesShown). AddsNames names.drawn x.drawn []) (sym nothing.names_are) (adds_none names.drawn);
    few = omega arith;
    over = λ store_tells tells mine f stands all flight drawn unused honest fits.
        subst (λ (s : StoreShown). LeavesFit shown new s.log) (sym nothing.store_is)
        (same_left shown old new before.log only.id (ap (λ (l : Ledger D g). l.log) nothing.ledger) fits);
  }
