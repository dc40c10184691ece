-- What a step before a put does, by what its request came to.
use Rattle.std.proofs.Common.{◌≡◌, ◌≢◌, ◌∙◌, ◌+◌, ◌⊎◌, Bool, false, [], ◌∷◌, Option, Some, None, IsSome, IfSome, inl, inr, refl, sym, ap, subst}
use Rattle.std.proofs.lemmas.Option.{same_Some}
use Rattle.bcv_base.specs.declared.id.Id16.{Id16}
use Rattle.bcv_base.specs.Drawn.{NamesShown}
use Rattle.bcv_base.specs.Faults.{Rose}
use Rattle.bcv_base.specs.Ids.{IsId}
use Rattle.bcv_base.specs.Moments.{ClockShown}
use Rattle.bcv_clientlog.specs.LogParts.{Holds, LoadsUpTo, is_shut, log_area, log_disk, log_tail}
use Rattle.bcv_clientstate.specs.CheckLaws.{fault_reply}
use Rattle.bcv_databases.specs.Sound.{KeepsViews}
use Rattle.bcv_dbmap.specs.declared.fault.EditFault.{EditFault}
use Rattle.bcv_dbmap.specs.declared.fault.EditFault.TheVariants as fault
use Rattle.bcv_disk.specs.Calls.{DiskFails-as, DiskFails-none}
use Rattle.bcv_disk.specs.Crash.{LeavesOnly}
use Rattle.bcv_disk.specs.DiskCalls.{DiskFails}
use Rattle.bcv_disk.specs.DiskShown.{DiskShown, DiskTold}
use Rattle.bcv_ledger.specs.declared.ledger.Ledger.{Ledger}
use Rattle.bcv_ledger.specs.NoteEnds.{NoteEnds, ShutAfter}
use Rattle.bcv_model.specs.declared.kept.Kept.{Kept}
use Rattle.bcv_model.specs.declared.kept.PendingPub.{PendingPub}
use Rattle.bcv_model.specs.declared.note.Note.TheVariants as note
use Rattle.bcv_model.specs.declared.reply.Reply.{Reply}
use Rattle.bcv_model.specs.declared.reply.Reply.TheVariants as reply
use Rattle.bcv_model.specs.NoteRules.{IsPendingAs, MayEnd}
use Rattle.bcv_model.specs.Notes.{after_note}
use Rattle.bcv_publish.specs.declared.work.Work.{Work}
use Rattle.bcv_publish.specs.declared.work.Work.TheVariants as work
use Rattle.bcv_store.specs.StoreShown.{StoreShown}
use Rattle.bcv_tasks.specs.declared.publish_task.PublishTask.{PublishTask}
use Rattle.bcv_tasks.specs.State.{IsRunning, id_of, left_of}
use Rattle.bcv_publisher.specs.PutStep.{Keeps}
use Rattle.bcv_publisher.specs.Settles.{reply_by}
use Rattle.bcv_publisher.specs.WorkEnds.{EndsBy, EndsWork}
use Rattle.bcv_publisher.specs.WorkStep.{IsReplyTo, KeepsIntent, LeavesLedger, LeavesTask, WorkCauses}
use Rattle.bcv_publisher.proofs.Grown.{same_views}

module _ {D : Type 0} {g : _} (told : DiskTold) (shown : D → DiskShown) (old new : Ledger D g) (before after : StoreShown) (names later_names : NamesShown) (clock later_clock : ClockShown)
    (t u : PublishTask) (is_open : is_shut old.log ≡ false) where
  -- what is said of a reply, but for the parts that the request's record says
  pub record Replied (made : Work) (r : Reply) : Type 0 where
    pub is_reply : IsReplyTo r made
    pub task : LeavesTask t r u
    pub ledger : LeavesLedger old new t r
    pub views : KeepsViews old.databases.sets new.databases.sets
    pub causes : WorkCauses before after names later_names clock later_clock r
    pub shut : ShutAfter (Some r) (is_shut new.log)
    pub disk : DiskFails told (shown (log_disk old.log)) (shown (log_disk new.log)) (r ≡ reply.DiskFault)
    pub any_moment : told.tells → Holds shown old.log old.databases.kept → IsSome old.databases.kept.me → IsId (id_of t)
        → (new ≡ old) ⊎ LeavesOnly (shown (log_disk old.log)) (shown (log_disk new.log)) (LoadsUpTo old.databases.kept (log_tail old.log + log_area old.log) (note.Void (id_of t) ∷ []))

  -- the reply of a task that ends, before anything is noted
  record Plain (made : Work) (r : Reply) : Type 0 where
    is_reply : IsReplyTo r made
    task : LeavesTask t r u
    ledger : Keeps new (after_note old.databases.kept (note.Void (id_of t))) old.databases.known → LeavesLedger old new t r
    causes : WorkCauses before after names later_names clock later_clock r
    shut : (b : Bool) → b ≡ false → ShutAfter (Some r) b
    disk : r ≡ reply.DiskFault → ⊥
    more : made ≢ work.More
    memory : made ≢ work.NoMemory

  none_pending : (k : Kept) → k.pending ≡ None → k ≡ after_note k (note.Void (id_of t))
  none_pending k none = ap (λ (o : Option PendingPub). record k { pending = o }) none

  untouched : new ≡ old → (r : Reply) → (r ≡ reply.DiskFault → ⊥) → DiskFails told (shown (log_disk old.log)) (shown (log_disk new.log)) (r ≡ reply.DiskFault)
  untouched same r no_fault =
      subst (λ (l : Ledger D g). DiskFails told (shown (log_disk old.log)) (shown (log_disk l.log)) (r ≡ reply.DiskFault)) (sym same) (DiskFails-none told (shown (log_disk old.log)) (λ e. no_fault e))

  open_still : new ≡ old → is_shut new.log ≡ false
  open_still same = ap (λ (l : Ledger D g). is_shut l.log) same ∙ is_open

  views_stay : new ≡ old → KeepsViews old.databases.sets new.databases.sets
  views_stay same = subst (λ (l : Ledger D g). KeepsViews old.databases.sets l.databases.sets) (sym same) (same_views old.databases.sets)

  -- nothing was pending
  alone : (made : Work) (r result : Reply) → Plain made r → old.databases.kept.pending ≡ None → new ≡ old → result ≡ r → Replied made result
  alone made r result plain none same is = subst (Replied made) (sym is) (record {
    is_reply = plain.is_reply;
    task = plain.task;
    ledger = plain.ledger (ap (λ (l : Ledger D g). l.databases.kept) same ∙ none_pending old.databases.kept none, ap (λ (l : Ledger D g). l.databases.known) same);
    views = views_stay same;
    causes = plain.causes;
    shut = plain.shut (is_shut new.log) (open_still same);
    disk = untouched same r plain.disk;
    any_moment = λ tells holds named is_id. inl same;
  })

  may_end : IsSome old.databases.kept.me → IsId (id_of t) → (o : Option PendingPub) → old.databases.kept.pending ≡ o → IsSome o → IfSome o (λ x. x.id ≡ id_of t) → MayEnd old.databases.kept (id_of t)
  may_end named is_id None is some waits = absurd (cc)
  may_end named is_id (Some x) is some waits =
      record { named = named; is_id = is_id; waits = subst (λ (o : Option PendingPub). IsPendingAs o (id_of t)) (sym is) waits }

  module _ (waits : IfSome old.databases.kept.pending (λ x. x.id ≡ id_of t)) (pending : IsSome old.databases.kept.pending) where
    -- void was tried
    any : (fault : Option Reply) → NoteEnds told shown old new (note.Void (id_of t)) old.databases.known fault → told.tells → Holds shown old.log old.databases.kept
        → IsSome old.databases.kept.me → IsId (id_of t)
        → (new ≡ old) ⊎ LeavesOnly (shown (log_disk old.log)) (shown (log_disk new.log)) (LoadsUpTo old.databases.kept (log_tail old.log + log_area old.log) (note.Void (id_of t) ∷ []))
    any fault ends tells holds named is_id = inr (ends.any_moment tells holds (may_end named is_id old.databases.kept.pending refl pending waits))

    void_fault : (made : Work) (fault : Reply) → made ≢ work.More → made ≢ work.NoMemory → NoteEnds told shown old new (note.Void (id_of t)) old.databases.known (Some fault) → fault ≢ reply.JournalFull
        → Replied made fault
    void_fault made reply.DiskFault more memory ends room = record {
      is_reply = (more, memory);
      task = tt;
      ledger = (pending, (ends.kept, ends.knows));
      views = ends.views;
      causes = tt;
      shut = ends.shut;
      disk = DiskFails-as told (shown (log_disk old.log)) (shown (log_disk new.log)) (λ e. ap Some e) (λ e. same_Some reply.DiskFault reply.DiskFault e) ends.fails;
      any_moment = any (Some reply.DiskFault) ends;
    }
    void_fault made reply.NoMemory more memory ends room = record {
      is_reply = more;
      task = tt;
      ledger = (ends.kept, ends.knows);
      views = ends.views;
      causes = tt;
      shut = ends.shut;
      disk = DiskFails-as told (shown (log_disk old.log)) (shown (log_disk new.log)) (λ e. ap Some e) (λ e. same_Some reply.NoMemory reply.DiskFault e) ends.fails;
      any_moment = any (Some reply.NoMemory) ends;
    }
    void_fault made reply.JournalFull more memory ends room = absurd (room refl)
    void_fault made _ more memory ends room = absurd ends.answers

    voided : (made : Work) (r : Reply) → Plain made r → (fault : Option Reply) → NoteEnds told shown old new (note.Void (id_of t)) old.databases.known fault → fault ≢ Some reply.JournalFull
        → Replied made (reply_by fault r)
    voided made r plain None ends room = record {
      is_reply = plain.is_reply;
      task = plain.task;
      ledger = plain.ledger (ends.kept, ends.knows);
      views = ends.views;
      causes = plain.causes;
      shut = plain.shut (is_shut new.log) ends.shut;
      disk = DiskFails-as told (shown (log_disk old.log)) (shown (log_disk new.log)) (λ e. absurd (plain.disk e)) (λ e. absurd (cc e)) ends.fails;
      any_moment = any None ends;
    }
    voided made r plain (Some fault) ends room = void_fault made fault plain.more plain.memory ends (λ e. room (ap Some e))

  -- the task ended by a reply
  module _ (waits : IfSome old.databases.kept.pending (λ x. x.id ≡ id_of t)) (same_id : id_of u ≡ id_of t) where
    by : (made : Work) (r result : Reply) → Plain made r → (o : Option PendingPub) → old.databases.kept.pending ≡ o → EndsBy told shown old new u o r result → Replied made result
    by made r result plain None is ends = alone made r result plain is ends.0 ends.1
    by made r result plain (Some x) is ends =
        subst (Replied made) (sym ends.is)
        (voided waits (subst (λ (o : Option PendingPub). IsSome o) (sym is) refl) made r plain ends.fault
        (subst (λ (i : Id16). NoteEnds told shown old new (note.Void i) old.databases.known ends.fault) same_id ends.ends) ends.room)

    ended : (made : Work) (r result : Reply) → Plain made r → EndsBy told shown old new u old.databases.kept.pending r result → Replied made result
    ended made r result plain ends = by made r result plain old.databases.kept.pending refl ends

    -- each fault of an edit
    edit_fault : (f : EditFault) (result : Reply) → EndsBy told shown old new u old.databases.kept.pending (fault_reply f) result → Replied (work.Fault f) result
    edit_fault fault.VersionsFull result ends = ended (work.Fault fault.VersionsFull) reply.VersionsFull result (record { is_reply = refl; task = tt; ledger = λ k. k; causes = tt; shut = λ b e. e; disk = λ e. absurd (cc); more = λ e. absurd (cc); memory = λ e. absurd (cc) }) ends
    edit_fault fault.Exists result ends = ended (work.Fault fault.Exists) reply.Exists result (record { is_reply = refl; task = tt; ledger = λ k. k; causes = tt; shut = λ b e. e; disk = λ e. absurd (cc); more = λ e. absurd (cc); memory = λ e. absurd (cc) }) ends
    edit_fault fault.PageTooLarge result ends = ended (work.Fault fault.PageTooLarge) reply.PageTooLarge result (record { is_reply = refl; task = tt; ledger = λ k. k; causes = tt; shut = λ b e. e; disk = λ e. absurd (cc); more = λ e. absurd (cc); memory = λ e. absurd (cc) }) ends
    edit_fault fault.TooLarge result ends = ended (work.Fault fault.TooLarge) reply.TooLarge result (record { is_reply = refl; task = tt; ledger = λ k. k; causes = tt; shut = λ b e. e; disk = λ e. absurd (cc); more = λ e. absurd (cc); memory = λ e. absurd (cc) }) ends
    edit_fault fault.TooManyDatabases result ends = ended (work.Fault fault.TooManyDatabases) reply.TooManyDatabases result (record { is_reply = refl; task = tt; ledger = λ k. k; causes = tt; shut = λ b e. e; disk = λ e. absurd (cc); more = λ e. absurd (cc); memory = λ e. absurd (cc) }) ends
    edit_fault fault.NoDatabase result ends = ended (work.Fault fault.NoDatabase) reply.NoDatabase result (record { is_reply = refl; task = tt; ledger = λ k. k; causes = tt; shut = λ b e. e; disk = λ e. absurd (cc); more = λ e. absurd (cc); memory = λ e. absurd (cc) }) ends
    edit_fault (fault.Conflict a b) result ends = ended (work.Fault (fault.Conflict a b)) (reply.Conflict a b) result (record { is_reply = refl; task = tt; ledger = λ k. k; causes = tt; shut = λ b e. e; disk = λ e. absurd (cc); more = λ e. absurd (cc); memory = λ e. absurd (cc) }) ends
    edit_fault fault.WritersFull result ends = ended (work.Fault fault.WritersFull) reply.WritersFull result (record { is_reply = refl; task = tt; ledger = λ k. k; causes = tt; shut = λ b e. e; disk = λ e. absurd (cc); more = λ e. absurd (cc); memory = λ e. absurd (cc) }) ends
    edit_fault fault.DeleteListFull result ends = ended (work.Fault fault.DeleteListFull) reply.DeleteListFull result (record { is_reply = refl; task = tt; ledger = λ k. k; causes = tt; shut = λ b e. e; disk = λ e. absurd (cc); more = λ e. absurd (cc); memory = λ e. absurd (cc) }) ends
    edit_fault fault.ManifestTooLong result ends = ended (work.Fault fault.ManifestTooLong) reply.ManifestTooLong result (record { is_reply = refl; task = tt; ledger = λ k. k; causes = tt; shut = λ b e. e; disk = λ e. absurd (cc); more = λ e. absurd (cc); memory = λ e. absurd (cc) }) ends

    pub replied : (made : Work) (result : Reply) → EndsWork told shown old new u made result → (made ≡ work.More → IsRunning u) → (made ≡ work.More → KeepsIntent t u) → (made ≡ work.StoreFault → Rose before.faults after.faults)
        → (made ≡ work.NamesFault → Rose names.faults later_names.faults) → (made ≡ work.ClockFault → Rose clock.faults later_clock.faults) → Replied made result
    replied work.More result ends running keeps store_failed names_failed clock_failed = subst (Replied work.More) (sym ends.1) (record {
      is_reply = refl;
      task = (running refl, refl, keeps refl);
      ledger = ends.0;
      views = views_stay ends.0;
      causes = tt;
      shut = open_still ends.0;
      disk = untouched ends.0 (reply.Working (left_of u)) (λ e. absurd (cc));
      any_moment = λ tells holds named is_id. inl ends.0;
    })
    replied work.NoMemory result ends running keeps store_failed names_failed clock_failed = subst (Replied work.NoMemory) (sym ends.1) (record {
      is_reply = λ e. absurd (cc);
      task = tt;
      ledger = (ap (λ (l : Ledger D g). l.databases.kept) ends.0, ap (λ (l : Ledger D g). l.databases.known) ends.0);
      views = views_stay ends.0;
      causes = tt;
      shut = open_still ends.0;
      disk = untouched ends.0 reply.NoMemory (λ e. absurd (cc));
      any_moment = λ tells holds named is_id. inl ends.0;
    })
    replied (work.Fault f) result ends running keeps store_failed names_failed clock_failed = edit_fault f result ends
    replied work.Nothing result ends running keeps store_failed names_failed clock_failed = ended work.Nothing (reply.Cleaned 0 false) result (record { is_reply = (refl, refl, refl); task = tt; ledger = λ k. k; causes = tt; shut = λ b e. e; disk = λ e. absurd (cc); more = λ e. absurd (cc); memory = λ e. absurd (cc) }) ends
    replied work.NoContainer result ends running keeps store_failed names_failed clock_failed = ended work.NoContainer reply.NoContainer result (record { is_reply = refl; task = tt; ledger = λ k. k; causes = tt; shut = λ b e. e; disk = λ e. absurd (cc); more = λ e. absurd (cc); memory = λ e. absurd (cc) }) ends
    replied (work.BadManifest at) result ends running keeps store_failed names_failed clock_failed = ended (work.BadManifest at) (reply.BadManifest at) result (record { is_reply = refl; task = tt; ledger = λ k. k; causes = tt; shut = λ b e. e; disk = λ e. absurd (cc); more = λ e. absurd (cc); memory = λ e. absurd (cc) }) ends
    replied work.Gone result ends running keeps store_failed names_failed clock_failed = ended work.Gone reply.Gone result (record { is_reply = refl; task = tt; ledger = λ k. k; causes = tt; shut = λ b e. e; disk = λ e. absurd (cc); more = λ e. absurd (cc); memory = λ e. absurd (cc) }) ends
    replied (work.BadBlock len) result ends running keeps store_failed names_failed clock_failed = ended (work.BadBlock len) (reply.BadBlock len) result (record { is_reply = refl; task = tt; ledger = λ k. k; causes = tt; shut = λ b e. e; disk = λ e. absurd (cc); more = λ e. absurd (cc); memory = λ e. absurd (cc) }) ends
    replied work.NameTaken result ends running keeps store_failed names_failed clock_failed = ended work.NameTaken reply.NameTaken result (record { is_reply = refl; task = tt; ledger = λ k. k; causes = tt; shut = λ b e. e; disk = λ e. absurd (cc); more = λ e. absurd (cc); memory = λ e. absurd (cc) }) ends
    replied work.StoreFault result ends running keeps store_failed names_failed clock_failed = ended work.StoreFault reply.StoreFault result (record { is_reply = refl; task = tt; ledger = λ k. k; causes = store_failed refl; shut = λ b e. e; disk = λ e. absurd (cc); more = λ e. absurd (cc); memory = λ e. absurd (cc) }) ends
    replied work.NamesFault result ends running keeps store_failed names_failed clock_failed = ended work.NamesFault reply.NamesFault result (record { is_reply = refl; task = tt; ledger = λ k. k; causes = names_failed refl; shut = λ b e. e; disk = λ e. absurd (cc); more = λ e. absurd (cc); memory = λ e. absurd (cc) }) ends
    replied work.ClockFault result ends running keeps store_failed names_failed clock_failed = ended work.ClockFault reply.ClockFault result (record { is_reply = refl; task = tt; ledger = λ k. k; causes = clock_failed refl; shut = λ b e. e; disk = λ e. absurd (cc); more = λ e. absurd (cc); memory = λ e. absurd (cc) }) ends
