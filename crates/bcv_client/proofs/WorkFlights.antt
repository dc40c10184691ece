-- What the end of a publication before its put leaves of the client's names: nothing is pending, and no intent in flight, that was not.
use Rattle.std.proofs.Common.{◌≡◌, ◌≢◌, ◌⊎◌, ◌+◌, ◌-◌, ◌^◌, ◌≤◌, ◌<◌, inl, inr, ℕ, true, false, leb, min, Option, Some, None, IfSome, IsSome, List, refl, sym, ap, subst, arith}
use Rattle.std.proofs.lemmas.Bool.Decides.{leb_tells}
use Rattle.bcv_base.specs.declared.id.Id16.{Id16}
use Rattle.bcv_base.specs.declared.log.Entry.{Entry}
use Rattle.bcv_base.specs.declared.outcome.Outcome.{Outcome}
use Rattle.bcv_base.specs.Drawn.{NamesShown}
use Rattle.bcv_base.specs.Faults.{Rose}
use Rattle.bcv_base.specs.History.{history_of}
use Rattle.bcv_base.specs.Ids.{has_id}
use Rattle.bcv_base.specs.Image.{Writes}
use Rattle.bcv_base.specs.Moments.{ClockShown}
use Rattle.bcv_clientlaws.specs.OtherParts.{Includes}
use Rattle.bcv_clientlog.specs.LogParts.{is_shut}
use Rattle.bcv_clientstate.specs.CheckLaws.{fault_reply}
use Rattle.bcv_clientstate.specs.Journaled.{Journaled, free_failed, free_noted}
use Rattle.bcv_clientstate.specs.Parts.{Parts, names_of_pending, with_ledger}
use Rattle.bcv_clientstate.specs.SeenClient.{Free}
use Rattle.bcv_disk.specs.DiskShown.{DiskShown, DiskTold}
use Rattle.bcv_ledger.specs.LedgerNotes.{parts_in}
use Rattle.bcv_ledger.specs.NoteEnds.{NoteEnds, ShutAfter}
use Rattle.bcv_ledger.specs.declared.ledger.Ledger.{Ledger}
use Rattle.bcv_machine.specs.State as m
use Rattle.bcv_model.specs.declared.kept.Kept.{Kept}
use Rattle.bcv_model.specs.declared.kept.PendingPub.{PendingPub}
use Rattle.bcv_model.specs.declared.note.Note.{Note}
use Rattle.bcv_model.specs.declared.note.Note.TheVariants as note
use Rattle.bcv_model.specs.declared.reply.Reply.{Reply}
use Rattle.bcv_model.specs.declared.reply.Reply.TheVariants as reply
use Rattle.bcv_model.specs.NoteRules.{MayStand}
use Rattle.bcv_model.specs.Notes.{note_size}
use Rattle.bcv_publication.specs.TaskSides.{seen_task}
use Rattle.bcv_publish.specs.declared.work.Work.{Work}
use Rattle.bcv_publish.specs.declared.work.Work.TheVariants as work
use Rattle.bcv_publisher.specs.PutStep.{StepGoes, rest_of}
use Rattle.bcv_publisher.specs.WorkEnds.{EndsBy, EndsWork}
use Rattle.bcv_publisher.specs.WorkStep.{IsEvent, WorkJournals, moment_read}
use Rattle.bcv_tasks.specs.declared.publish_task.PublishTask.{PublishTask}
use Rattle.bcv_tasks.specs.State.{id_of}
use Rattle.bcv_client.specs.CallNames.{flight_names}
use Rattle.bcv_client.proofs.Flights.{step_flies}
use Rattle.bcv_client.proofs.MyNames.{none_flies, none_mine}

-- ---- the end of a task

module _ {D : Type 0} {g : _} (told : DiskTold) (shown : D → DiskShown) (mine : List Id16) (old new : Ledger D g) (u : PublishTask) (f : Free) (tells : told.tells)
    (was : Journaled shown old.log old.databases.kept f) where
  abbrev void : Note
  void = note.Void (id_of u)

  -- what is free then, over the journal
  pub record LeavesNames : Type 0 where
    pub free : Free
    pub slots : free.slots ≡ f.slots
    pub journaled : Journaled shown new.log new.databases.kept free
    pub flight : Includes mine (flight_names f.flight) → Includes mine (flight_names free.flight)
    pub pending : Includes mine (names_of_pending old.databases.kept.pending) → Includes mine (names_of_pending new.databases.kept.pending)

  kept_pending : new.databases.kept ≡ old.databases.kept → Includes mine (names_of_pending old.databases.kept.pending) → Includes mine (names_of_pending new.databases.kept.pending)
  kept_pending is all = subst (λ (k : Kept). Includes mine (names_of_pending k.pending)) (sym is) all

  unmoved : new ≡ old → LeavesNames
  unmoved is = record {
    free = f;
    slots = refl;
    journaled = subst (λ (l : Ledger D g). Journaled shown l.log l.databases.kept f) (sym is) was;
    flight = λ flies. flies;
    pending = kept_pending (ap (λ (l : Ledger D g). l.databases.kept) is);
  }

  -- void was noted, or was to be
  voided : MayStand old.databases.kept void → (fault : Option Reply) → NoteEnds told shown old new void old.databases.known fault → LeavesNames
  voided may None ends = record {
    free = free_noted (note_size void) f;
    slots = refl;
    journaled = ends.goes tells may f was m.Voiding refl;
    flight = λ flies. flies;
    pending = λ all. subst (λ (k : Kept). Includes mine (names_of_pending k.pending)) (sym ends.kept) (none_mine mine);
  }
  voided may (Some reply.DiskFault) ends = record {
    free = free_failed (note_size void) m.Voiding f;
    slots = refl;
    journaled = ends.goes tells may f was m.Voiding refl;
    flight = λ flies. none_mine mine;
    pending = kept_pending ends.kept;
  }
  voided may (Some reply.JournalFull) ends = record {
    free = f;
    slots = refl;
    journaled = (ends.goes tells may f was m.Voiding refl).0;
    flight = λ flies. flies;
    pending = kept_pending ends.kept;
  }
  voided may (Some reply.NoMemory) ends = record {
    free = f;
    slots = refl;
    journaled = ends.goes tells may f was m.Voiding refl;
    flight = λ flies. flies;
    pending = kept_pending ends.kept;
  }
  voided may (Some _) ends = absurd ends.answers

  pub names_left : (may : IsSome old.databases.kept.pending → MayStand old.databases.kept void) (made : Work) (r : Reply) → EndsWork told shown old new u made r → LeavesNames
  names_left may made r ends = by made ends
    where
      of_end : (w : Option PendingPub) → (IsSome w → MayStand old.databases.kept void) → (fault : Reply) → EndsBy told shown old new u w fault r → LeavesNames
      of_end None stands fault e = unmoved e.0
      of_end (Some x) stands fault e = voided (stands refl) e.fault e.ends

      by : (x : Work) → EndsWork told shown old new u x r → LeavesNames
      by work.More e = unmoved e.0
      by work.NoMemory e = unmoved e.0
      by work.Nothing e = of_end old.databases.kept.pending may (reply.Cleaned 0 false) e
      by (work.Fault why) e = of_end old.databases.kept.pending may (fault_reply why) e
      by work.NoContainer e = of_end old.databases.kept.pending may reply.NoContainer e
      by (work.BadManifest at) e = of_end old.databases.kept.pending may (reply.BadManifest at) e
      by work.Gone e = of_end old.databases.kept.pending may reply.Gone e
      by (work.BadBlock len) e = of_end old.databases.kept.pending may (reply.BadBlock len) e
      by work.NameTaken e = of_end old.databases.kept.pending may reply.NameTaken e
      by work.StoreFault e = of_end old.databases.kept.pending may reply.StoreFault e
      by work.NamesFault e = of_end old.databases.kept.pending may reply.NamesFault e
      by work.ClockFault e = of_end old.databases.kept.pending may reply.ClockFault e

-- ---- whether a step is an event

-- the count rose or did not
rose_or_not : (before now : ℕ) → Rose before now ⊎ (Rose before now → ⊥)
rose_or_not before now = by (min (before + 1) (2 ^ 64 - 1)) (leb_tells (min (before + 1) (2 ^ 64 - 1)) now)
  where
    by : (at : ℕ) → ((leb at now ≡ true) × (at ≤ now)) ⊎ ((leb at now ≡ false) × (now < at)) → (at ≤ now) ⊎ (at ≤ now → ⊥)
    by at (inl rose) = inl rose.1
    by at (inr less) = inr (λ rose. omega (arith, less.1, rose))

no_memory_or_not : (r : Reply) → (r ≢ reply.NoMemory) ⊎ (r ≡ reply.NoMemory)
no_memory_or_not reply.NoMemory = inr refl
no_memory_or_not _ = inl (λ e. absurd (cc))

pub event_or_not : (names later_names : NamesShown) (clock later_clock : ClockShown) (r : Reply)
    → IsEvent names later_names clock later_clock r ⊎ (IsEvent names later_names clock later_clock r → ⊥)
event_or_not names later_names clock later_clock r =
    by (no_memory_or_not r) (rose_or_not names.faults later_names.faults) (rose_or_not clock.faults later_clock.faults)
  where
    by : (r ≢ reply.NoMemory) ⊎ (r ≡ reply.NoMemory) → Rose names.faults later_names.faults ⊎ (Rose names.faults later_names.faults → ⊥)
        → Rose clock.faults later_clock.faults ⊎ (Rose clock.faults later_clock.faults → ⊥) → IsEvent names later_names clock later_clock r ⊎ (IsEvent names later_names clock later_clock r → ⊥)
    by (inr none) b c = inr (λ is. is.memory none)
    by (inl some) (inl rose) c = inr (λ is. is.name rose)
    by (inl some) (inr still) (inl rose) = inr (λ is. is.moment rose)
    by (inl some) (inr still) (inr stands) = inl (record { memory = some; name = still; moment = stands })

-- ---- the step

module _ {D : Type 0} {g : _} (told : DiskTold) (shown : D → DiskShown) (mine : List Id16) (before after : List Entry) (names later_names : NamesShown) (clock later_clock : ClockShown) (old new : Ledger D g) (p : Parts)
    (view : List Writes) (t : PublishTask) (request : Outcome) (r : Reply) (u : PublishTask) (f : Free) (tells : told.tells) (journaled : Journaled shown old.log old.databases.kept f) where
  abbrev IsOne : Type 0
  IsOne = IsEvent names later_names clock later_clock r

  -- what is free then: an event is the machine's step
  pub record FliesAfter : Type 0 where
    pub left : LeavesNames told shown mine old new u f tells journaled
    pub goes : IsOne → (moment : ℕ) → IfSome (moment_read t u) (λ at. at ≡ moment)
        → StepGoes moment (history_of before) (history_of after) (with_ledger (parts_in old) p) (with_ledger (parts_in new) p) f left.free
        (seen_task old.databases.kept.pending view t) request r (rest_of new.databases.kept.pending view r u)

  pub flies_after : WorkJournals shown before after names later_names clock later_clock old new p view t request r u f → LeavesNames told shown mine old new u f tells journaled
      → (moment : ℕ) → IfSome (moment_read t u) (λ at. at ≡ moment) → has_id (seen_task old.databases.kept.pending view t).id mine ≡ true → ShutAfter (Some r) (is_shut new.log)
      → IsOne ⊎ (IsOne → ⊥) → FliesAfter
  flies_after j left moment at named shut (inl is) = record {
    left = record {
      free = j.free;
      slots = j.slots;
      journaled = j.journaled;
      flight =
          step_flies mine moment (history_of before) (history_of after) (with_ledger (parts_in old) p) (with_ledger (parts_in new) p) f j.free (seen_task old.databases.kept.pending view t) request r
          (rest_of new.databases.kept.pending view r u) (is_shut new.log) named shut (λ is_open. none_flies mine shown new.log new.databases.kept j.free j.journaled is_open) (λ memory. j.goes is moment at);
      pending = left.pending;
    };
    goes = λ event. j.goes event;
  }
  flies_after j left moment at named shut (inr not) = record { left = left; goes = λ event. absurd (not event) }
