-- What a step at a put does, at each of its exits.
use Rattle.std.proofs.Common.{◌≡◌, ◌≢◌, ◌∙◌, ◌<◌, ◌^◌, ◌++◌, ℕ, Bool, true, false, List, length, Option, Some, None, inl, inr, refl, sym, ap, subst, arith}
use Rattle.std.proofs.lemmas.Option.{same_Some}
use Rattle.bcv_base.specs.declared.id.Id16.{Id16}
use Rattle.bcv_base.specs.declared.manifest.Manifest.{Manifest}
use Rattle.bcv_base.specs.declared.seen.Latest.{Latest}
use Rattle.bcv_base.specs.declared.seen.Seen.{Seen}
use Rattle.bcv_base.specs.History.{history_of, last_of}
use Rattle.bcv_base.specs.Image.{Writes}
use Rattle.bcv_cache.specs.Entry as cache
use Rattle.bcv_clientlog.specs.LogParts.{is_shut, log_disk}
use Rattle.bcv_dbmap.specs.Honest.{GrewHonestly}
use Rattle.bcv_disk.specs.Calls.{DiskFails-as, DiskFails-none, DiskFails-then}
use Rattle.bcv_disk.specs.DiskCalls.{DiskFails}
use Rattle.bcv_disk.specs.DiskShown.{DiskShown, DiskTold}
use Rattle.bcv_machine.specs.State as m
use Rattle.bcv_model.specs.declared.kept.Kept.{Kept}
use Rattle.bcv_model.specs.declared.kept.PendingPub.{PendingPub}
use Rattle.bcv_model.specs.declared.note.Note.{Note}
use Rattle.bcv_model.specs.declared.note.Note.TheVariants as note
use Rattle.bcv_model.specs.declared.reply.Reply.{Reply}
use Rattle.bcv_model.specs.declared.reply.Reply.TheVariants as reply
use Rattle.bcv_model.specs.Notes.{after_note}
use Rattle.bcv_store.specs.StoreShown.{StoreShown, StoreTold}
use Rattle.bcv_tasks.specs.declared.publish_task.PublishTask.{PublishTask}
use Rattle.bcv_tasks.specs.declared.publish_task.PublishTask.TheVariants as task
use Rattle.bcv_tasks.specs.declared.put_answer.PutAnswer.{PutAnswer}
use Rattle.bcv_tasks.specs.declared.put_answer.PutAnswer.TheVariants as answer
use Rattle.bcv_tasks.specs.State.{IsRunning, id_of, is_ready, latest_of, left_of, pending_of}
use Rattle.bcv_tasks.specs.TaskPut.{Appends, PutLeaves, PutsTask, TaskPuts}
use Rattle.bcv_clientstate.specs.Parts.{Parts, with_ledger}
use Rattle.bcv_databases.specs.declared.known.Known.{Known}
use Rattle.bcv_databases.specs.Sound.{KeepsViews}
use Rattle.bcv_ledger.specs.declared.ledger.Ledger.{Ledger}
use Rattle.bcv_ledger.specs.Begins.{Begins}
use Rattle.bcv_ledger.specs.LedgerNotes.{parts_in}
use Rattle.bcv_ledger.specs.NoteEnds.{IsNoteFault, NoteEnds, ShutAfter}
use Rattle.bcv_publication.specs.TaskSides.{done_answer, seen_task}
use Rattle.bcv_publish.specs.ManifestRead.{is_other}
use Rattle.bcv_publisher.specs.PutStep.{Makes, MayPutManifest, PutSays, PutStep, PutStepLeaves, UnknownCause, kept_waiting, rest_of}
use Rattle.bcv_publisher.specs.Settles.{Settles, known_made, reply_by}
use Rattle.bcv_publisher.proofs.Grown.{keeps_views_then, same_views}
use Rattle.bcv_publisher.proofs.PutFits.{made_is_alike}
use Rattle.bcv_publisher.proofs.TaskPuts.{may_put}
use Rattle.bcv_publisher.proofs.PutEnds.{done_with, id_with, latest_with, step_contended, step_contended_fault, step_done, step_done_fault, step_refused, step_there, step_there_fault, step_memory, step_unbegun, step_unknown, step_untouched, was_published}

-- ---- replies

note_cause : (before now : ℕ) (fault : Reply) → IsNoteFault (Some fault) → UnknownCause before now fault
note_cause before now reply.JournalFull h = tt
note_cause before now reply.DiskFault h = tt
note_cause before now reply.NoMemory h = tt
note_cause before now _ h = absurd h

done_cause : (before now : ℕ) (u : PublishTask) (n : ℕ) → UnknownCause before now (done_answer u n)
done_cause before now (task.Create c) n = tt
done_cause before now (task.Copy id s) n = tt
done_cause before now (task.Upload id s) n = tt
done_cause before now (task.Cleanup id s) n = tt

done_shut : (u : PublishTask) (n : ℕ) (shut : Bool) → shut ≡ false → ShutAfter (Some (done_answer u n)) shut
done_shut (task.Create c) n shut h = h
done_shut (task.Copy id s) n shut h = h
done_shut (task.Upload id s) n shut h = h
done_shut (task.Cleanup id s) n shut h = h

done_rest : (waiting : Option PendingPub) (view : List Writes) (t u : PublishTask) (n : ℕ) → rest_of waiting view (done_answer u n) t ≡ None
done_rest waiting view t (task.Create c) n = refl
done_rest waiting view t (task.Copy id s) n = refl
done_rest waiting view t (task.Upload id s) n = refl
done_rest waiting view t (task.Cleanup id s) n = refl

fault_rest : (waiting : Option PendingPub) (view : List Writes) (t : PublishTask) (fault : Reply) → IsNoteFault (Some fault) → rest_of waiting view fault t ≡ None
fault_rest waiting view t reply.JournalFull h = refl
fault_rest waiting view t reply.DiskFault h = refl
fault_rest waiting view t reply.NoMemory h = refl
fault_rest waiting view t _ h = absurd h

done_no_fault : (u : PublishTask) (n : ℕ) → done_answer u n ≡ reply.DiskFault → ⊥
done_no_fault (task.Create c) n is = cc
done_no_fault (task.Copy id s) n is = cc
done_no_fault (task.Upload id s) n is = cc
done_no_fault (task.Cleanup id s) n is = cc

module _ {D : Type 0} {g : _} (told : DiskTold) (shown : D → DiskShown) (store : StoreTold) (before : StoreShown) (old : Ledger D g) (seen : Seen) (taken : ℕ) (t : PublishTask) (moment : ℕ)
    (running : IsRunning t) (ready : is_ready t ≡ true) (is_open : is_shut old.log ≡ false) where
  abbrev x : PendingPub
  x = pending_of taken t

  pub out_of_memory : PutStep told shown store before before old old seen taken t moment reply.NoMemory t
  out_of_memory = record {
    leaves = inl (refl, refl);
    views = same_views old.databases.sets;
    shut = is_open;
    disk = DiskFails-none told (shown (log_disk old.log)) (λ e. absurd (cc));
    later = omega arith;
    unknown = tt;
    machine = λ store_tells tells p entries n view mine long may honest. step_untouched told shown old t before p entries n view mine may.own moment tells ready is_open may.step store;
  }

  made_leaves : (new : Ledger D g) (u : PublishTask) (n : ℕ) → Makes old new seen x t moment (done_answer u n) u → PutStepLeaves old new seen x t moment (done_answer u n) u
  made_leaves new (task.Create c) n h = h
  made_leaves new (task.Copy id s) n h = h
  made_leaves new (task.Upload id s) n h = h
  made_leaves new (task.Cleanup id s) n h = h

  -- ---- the intent did not come to stand

  begun_leaves : (new : Ledger D g) (fault : Reply) → IsNoteFault (Some fault) → new.databases.kept ≡ old.databases.kept → new.databases.known ≡ old.databases.known → PutStepLeaves old new seen x t moment fault t
  begun_leaves new reply.JournalFull h kept known = (refl, (kept, known))
  begun_leaves new reply.DiskFault h kept known = inl (kept, known)
  begun_leaves new reply.NoMemory h kept known = inl (kept, known)
  begun_leaves new _ h kept known = absurd h

  pub not_begun : (new : Ledger D g) (fault : Reply) → Begins told shown old new x (Some fault) → PutStep told shown store before before old new seen taken t moment fault t
  not_begun new fault begins = record {
    leaves = begun_leaves new fault begins.answers begins.kept begins.known;
    views = begins.views;
    shut = begins.shut;
    disk = DiskFails-as told (shown (log_disk old.log)) (shown (log_disk new.log)) (λ e. ap Some e) (λ e. same_Some fault reply.DiskFault e) begins.fails;
    later = omega arith;
    unknown = note_cause before.faults before.faults fault begins.answers;
    machine = λ store_tells tells p entries n view mine long may honest.
        subst (λ (o : Option m.Publication). PutSays shown store mine before before old new (with_ledger (parts_in old) p) (with_ledger (parts_in new) p) moment
        (seen_task old.databases.kept.pending view t) fault o) (sym (fault_rest new.databases.kept.pending view t fault begins.answers))
        (step_unbegun told shown old t before p entries n view mine may.own moment tells ready is_open may.step store new fault
        (subst (λ (y : PendingPub). Begins told shown old new y (Some fault)) (sym long) begins));
  }

  -- ---- the put was made

  module _ (mid new : Ledger D g) (begins : Begins told shown old mid x None) (after : StoreShown) (u : PublishTask) where
    -- a note that failed after the put
    fault_leaves : (fault : Reply) → IsNoteFault (Some fault) → fault ≢ reply.JournalFull → new.databases.kept ≡ mid.databases.kept → new.databases.known ≡ mid.databases.known
        → PutStepLeaves old new seen x t moment fault u
    fault_leaves reply.JournalFull h room kept known = absurd (room refl)
    fault_leaves reply.DiskFault h room kept known = inr (kept ∙ begins.kept, known ∙ begins.known)
    fault_leaves reply.NoMemory h room kept known = inr (kept ∙ begins.kept, known ∙ begins.known)
    fault_leaves _ h room kept known = absurd h

    views_then : KeepsViews mid.databases.sets new.databases.sets → KeepsViews old.databases.sets new.databases.sets
    views_then keeps = keeps_views_then old.databases.sets mid.databases.sets new.databases.sets begins.views keeps

    disk_then : (fault : Option Reply) (r : Reply) → (r ≡ reply.DiskFault → fault ≡ Some reply.DiskFault) → (fault ≡ Some reply.DiskFault → r ≡ reply.DiskFault)
        → DiskFails told (shown (log_disk mid.log)) (shown (log_disk new.log)) (fault ≡ Some reply.DiskFault)
        → DiskFails told (shown (log_disk old.log)) (shown (log_disk new.log)) (r ≡ reply.DiskFault)
    disk_then fault r there back fails =
        DiskFails-as told (shown (log_disk old.log)) (shown (log_disk new.log)) there back
        (DiskFails-then told (shown (log_disk old.log)) (shown (log_disk mid.log)) (shown (log_disk new.log)) (λ e. absurd (cc e)) begins.fails fails)

    disk_alone : (r : Reply) → new ≡ mid → (r ≡ reply.DiskFault → ⊥) → DiskFails told (shown (log_disk old.log)) (shown (log_disk new.log)) (r ≡ reply.DiskFault)
    disk_alone r same no_fault =
        subst (λ (l : Ledger D g). DiskFails told (shown (log_disk old.log)) (shown (log_disk l.log)) (r ≡ reply.DiskFault)) (sym same)
        (DiskFails-as told (shown (log_disk old.log)) (shown (log_disk mid.log)) (λ e. absurd (no_fault e)) (λ e. absurd (cc e)) begins.fails)

    begins_at : (view : List Writes) → pending_of (length view) t ≡ pending_of taken t → Begins told shown old mid (pending_of (length view) t) None
    begins_at view long = subst (λ (y : PendingPub). Begins told shown old mid y None) (sym long) begins

    puts_at : (said : PutAnswer) → PutsTask store before after t moment said u → store.tells → (p : Parts) (entries : List cache.Entry) (n : ℕ) (view : List Writes) (mine : List Id16)
        → MayPutManifest mine before.log (with_ledger (parts_in old) p) entries n view seen t
        → GrewHonestly store.alone mine before.log after.log
        → TaskPuts store mine before after view t moment said u
    puts_at said puts store_tells p entries n view mine may honest =
        puts.sound store_tells mine may.step.sound honest view (may_put mine before.log (with_ledger (parts_in old) p) entries n view t may.own may.step)

    -- ---- the version was published

    module _ (number : ℕ) (puts : PutsTask store before after t moment (answer.Published number) u) (latest : Latest) (is_latest : latest_of u ≡ Some latest) (fits : number < 2 ^ 64) where
      same_id : id_of u ≡ id_of t
      same_id = ap id_of puts.leaves.becomes ∙ id_with t _ true

      same_answer : done_answer u number ≡ done_answer t number
      same_answer = ap (λ (y : PublishTask). done_answer y number) puts.leaves.becomes ∙ done_with t _ true number

      manifest_is : latest.manifest ≡ puts.leaves.manifest
      manifest_is =
          ap (λ (l : Latest). l.manifest)
          (same_Some latest (record { manifest = puts.leaves.manifest; etag = puts.leaves.etag }) (sym is_latest ∙ ap latest_of puts.leaves.becomes ∙ latest_with t _ true))

      abbrev done : Note
      done = note.Done (id_of t) number

      -- the databases that are known then, by whether the block size is another one
      abbrev known_then : Bool → Kept → List Known → List Known
      known_then other k known = known_made other k (id_of t) number latest.manifest known

      abbrev other : Bool
      other = is_other seen.block latest.manifest.block

      published_by : (fault : Option Reply) → NoteEnds told shown mid new done (known_then other mid.databases.kept mid.databases.known) fault → fault ≢ Some reply.JournalFull
          → PutStep told shown store before after old new seen taken t moment (reply_by fault (done_answer u number)) u
      published_by None ends room = record {
        leaves = made_leaves new u number (record {
          number = number;
          leaves = puts.leaves;
          latest = latest;
          is_latest = is_latest;
          answers = same_answer;
          keeps = (
            ends.kept ∙ ap (λ (k : Kept). after_note k done) begins.kept,
            ends.knows ∙ ap (λ (k : Kept). known_then other k mid.databases.known) begins.kept ∙ ap (known_then other (kept_waiting old.databases.kept x)) begins.known,
          );
        });
        views = views_then ends.views;
        shut = done_shut u number (is_shut new.log) ends.shut;
        disk = disk_then None (done_answer u number) (λ e. absurd (done_no_fault u number e)) (λ e. absurd (cc)) ends.fails;
        later = puts.later;
        unknown = done_cause before.faults after.faults u number;
        machine = λ store_tells tells p entries n view mine long may honest.
            let told_puts = puts_at (answer.Published number) puts store_tells p entries n view mine may honest in
            let found : latest.manifest ≡ told_puts.manifest = manifest_is ∙ same_Some puts.leaves.manifest told_puts.manifest (sym puts.leaves.brings ∙ told_puts.brings) in
            let alike : other ≡ false =
            subst (λ (k : Manifest). is_other seen.block k.block ≡ false) (sym found)
            (made_is_alike before.log told_puts.growth.others told_puts.growth.own after.log seen told_puts.manifest number told_puts.growth.grown told_puts.growth.sound may.seen_is
            (subst (Appends told_puts.growth.own told_puts.manifest) (was_published number told_puts.outcome told_puts.published (last_of (history_of (before.log ++ told_puts.growth.others))) (latest_of t) told_puts.answers).is told_puts.appends)) in
            subst (λ (o : Option m.Publication). PutSays shown store mine before after old new (with_ledger (parts_in old) p) (with_ledger (parts_in new) p) moment
            (seen_task old.databases.kept.pending view t) (done_answer u number) o) (sym (done_rest new.databases.kept.pending view u u number))
            (subst (λ (r : Reply). PutSays shown store mine before after old new (with_ledger (parts_in old) p) (with_ledger (parts_in new) p) moment
            (seen_task old.databases.kept.pending view t) r None) (sym same_answer)
            (step_done told shown old t before p entries n view mine may.own moment tells ready is_open may.step store after mid (begins_at view long) u (answer.Published number) puts.leaves told_puts puts.failed new number refl fits
            latest.manifest found (subst (λ (b : Bool). NoteEnds told shown mid new done (known_then b mid.databases.kept mid.databases.known) None) alike ends)));
      }
      published_by (Some fault) ends room = record {
        leaves = fault_leaves fault ends.answers (λ e. room (ap Some e)) ends.kept ends.knows;
        views = views_then ends.views;
        shut = ends.shut;
        disk = disk_then (Some fault) fault (λ e. ap Some e) (λ e. same_Some fault reply.DiskFault e) ends.fails;
        later = puts.later;
        unknown = note_cause before.faults after.faults fault ends.answers;
        machine = λ store_tells tells p entries n view mine long may honest.
            let told_puts = puts_at (answer.Published number) puts store_tells p entries n view mine may honest in
            subst (λ (o : Option m.Publication). PutSays shown store mine before after old new (with_ledger (parts_in old) p) (with_ledger (parts_in new) p) moment
            (seen_task old.databases.kept.pending view t) fault o) (sym (fault_rest new.databases.kept.pending view u fault ends.answers))
            (step_done_fault told shown old t before p entries n view mine may.own moment tells ready is_open may.step store after mid (begins_at view long) u (answer.Published number) puts.leaves told_puts puts.failed new number refl fits
            (known_then other mid.databases.kept mid.databases.known) fault ends (λ e. room (ap Some e)));
      }

    -- ---- the put was refused for good

    module _ (said : PutAnswer) (puts : PutsTask store before after t moment said u) where
      contended_by : (ns : List ℕ) → said ≡ answer.Contended ns → (fault : Option Reply) → NoteEnds told shown mid new (note.Void (id_of t)) mid.databases.known fault → fault ≢ Some reply.JournalFull
          → PutStep told shown store before after old new seen taken t moment (reply_by fault (reply.Contended ns)) u
      contended_by ns is None ends room = record {
        leaves = record {
          leaves = subst (λ (a : PutAnswer). PutLeaves moment t a u) is puts.leaves;
          keeps = (ends.kept ∙ ap (λ (k : Kept). after_note k (note.Void (id_of t))) begins.kept, ends.knows ∙ begins.known);
        };
        views = views_then ends.views;
        shut = ends.shut;
        disk = disk_then None (reply.Contended ns) (λ e. absurd (cc)) (λ e. absurd (cc)) ends.fails;
        later = puts.later;
        unknown = tt;
        machine = λ store_tells tells p entries n view mine long may honest.
            step_contended told shown old t before p entries n view mine may.own moment tells ready is_open may.step store after mid (begins_at view long) u said puts.leaves (puts_at said puts store_tells p entries n view mine may honest) puts.failed
            new ns is ends;
      }
      contended_by ns is (Some fault) ends room = record {
        leaves = fault_leaves fault ends.answers (λ e. room (ap Some e)) ends.kept ends.knows;
        views = views_then ends.views;
        shut = ends.shut;
        disk = disk_then (Some fault) fault (λ e. ap Some e) (λ e. same_Some fault reply.DiskFault e) ends.fails;
        later = puts.later;
        unknown = note_cause before.faults after.faults fault ends.answers;
        machine = λ store_tells tells p entries n view mine long may honest.
            subst (λ (o : Option m.Publication). PutSays shown store mine before after old new (with_ledger (parts_in old) p) (with_ledger (parts_in new) p) moment
            (seen_task old.databases.kept.pending view t) fault o) (sym (fault_rest new.databases.kept.pending view u fault ends.answers))
            (step_contended_fault told shown old t before p entries n view mine may.own moment tells ready is_open may.step store after mid (begins_at view long) u said puts.leaves (puts_at said puts store_tells p entries n view mine may honest)
            puts.failed new ns is fault ends (λ e. room (ap Some e)));
      }

      there_by : said ≡ answer.Exists → (fault : Option Reply) → NoteEnds told shown mid new (note.Void (id_of t)) mid.databases.known fault → fault ≢ Some reply.JournalFull
          → PutStep told shown store before after old new seen taken t moment (reply_by fault reply.Exists) u
      there_by is None ends room = record {
        leaves = record {
          leaves = subst (λ (a : PutAnswer). PutLeaves moment t a u) is puts.leaves;
          keeps = (ends.kept ∙ ap (λ (k : Kept). after_note k (note.Void (id_of t))) begins.kept, ends.knows ∙ begins.known);
        };
        views = views_then ends.views;
        shut = ends.shut;
        disk = disk_then None reply.Exists (λ e. absurd (cc)) (λ e. absurd (cc)) ends.fails;
        later = puts.later;
        unknown = tt;
        machine = λ store_tells tells p entries n view mine long may honest.
            step_there told shown old t before p entries n view mine may.own moment tells ready is_open may.step store after mid (begins_at view long) u said puts.leaves (puts_at said puts store_tells p entries n view mine may honest) puts.failed
            new is ends;
      }
      there_by is (Some fault) ends room = record {
        leaves = fault_leaves fault ends.answers (λ e. room (ap Some e)) ends.kept ends.knows;
        views = views_then ends.views;
        shut = ends.shut;
        disk = disk_then (Some fault) fault (λ e. ap Some e) (λ e. same_Some fault reply.DiskFault e) ends.fails;
        later = puts.later;
        unknown = note_cause before.faults after.faults fault ends.answers;
        machine = λ store_tells tells p entries n view mine long may honest.
            subst (λ (o : Option m.Publication). PutSays shown store mine before after old new (with_ledger (parts_in old) p) (with_ledger (parts_in new) p) moment
            (seen_task old.databases.kept.pending view t) fault o) (sym (fault_rest new.databases.kept.pending view u fault ends.answers))
            (step_there_fault told shown old t before p entries n view mine may.own moment tells ready is_open may.step store after mid (begins_at view long) u said puts.leaves (puts_at said puts store_tells p entries n view mine may honest)
            puts.failed new is fault ends (λ e. room (ap Some e)));
      }

  -- ---- every answer

  module _ (mid : Ledger D g) (begins : Begins told shown old mid x None) (after : StoreShown) (u : PublishTask) where
    -- nothing was noted after the put
    refused_on : PutsTask store before after t moment answer.Refused u → left_of u ≡ 2 → IsRunning u → PutStep told shown store before after old mid seen taken t moment (reply.Working 2) u
    refused_on puts two goes_on = record {
      leaves = record { leaves = puts.leaves; running = goes_on; two = refl; counted = two; keeps = (begins.kept, begins.known) };
      views = begins.views;
      shut = begins.shut;
      disk = disk_alone mid mid begins after u (reply.Working 2) refl (λ e. cc);
      later = puts.later;
      unknown = tt;
      machine = λ store_tells tells p entries n view mine long may honest.
          step_refused told shown old t before p entries n view mine may.own moment tells ready is_open may.step store after mid (begins_at mid mid begins after u view long) u answer.Refused puts.leaves
          (puts_at mid mid begins after u answer.Refused puts store_tells p entries n view mine may honest) puts.failed refl two mid.databases.kept.pending
          (ap (λ (k : Kept). k.pending) begins.kept ∙ ap Some (sym long));
    }

    unknown_ends : PutsTask store before after t moment answer.Unknown u → PutStep told shown store before after old mid seen taken t moment (reply.Unknown (id_of t)) u
    unknown_ends puts = record {
      leaves = (refl, puts.leaves, (begins.kept, begins.known));
      views = begins.views;
      shut = begins.shut;
      disk = disk_alone mid mid begins after u (reply.Unknown (id_of t)) refl (λ e. cc);
      later = puts.later;
      unknown = puts.failed refl;
      machine = λ store_tells tells p entries n view mine long may honest.
          step_unknown told shown old t before p entries n view mine may.own moment tells ready is_open may.step store after mid (begins_at mid mid begins after u view long) u answer.Unknown puts.leaves
          (puts_at mid mid begins after u answer.Unknown puts store_tells p entries n view mine may honest) puts.failed refl;
    }

    memory_ends : PutsTask store before after t moment answer.NoMemory u → PutStep told shown store before after old mid seen taken t moment reply.NoMemory u
    memory_ends puts = record {
      leaves = inr (begins.kept, begins.known);
      views = begins.views;
      shut = begins.shut;
      disk = disk_alone mid mid begins after u reply.NoMemory refl (λ e. cc);
      later = puts.later;
      unknown = tt;
      machine = λ store_tells tells p entries n view mine long may honest.
          step_memory told shown old t before p entries n view mine may.own moment tells ready is_open may.step store after mid (begins_at mid mid begins after u view long) u answer.NoMemory puts.leaves
          (puts_at mid mid begins after u answer.NoMemory puts store_tells p entries n view mine may honest) puts.failed;
    }

    pub settled : (new : Ledger D g) (said : PutAnswer) (result : Reply) → PutsTask store before after t moment said u → (said ≡ answer.Refused → left_of u ≡ 2) → (said ≡ answer.Refused → IsRunning u)
        → Settles told shown mid new u seen said result → PutStep told shown store before after old new seen taken t moment result u
    settled new (answer.Published number) result puts two goes_on h =
        let same = ap id_of puts.leaves.becomes ∙ id_with t _ true in
        subst (λ (r : Reply). PutStep told shown store before after old new seen taken t moment r u) (sym h.is)
        (published_by mid new begins after u number puts h.latest h.is_latest h.done.number h.fault
        (subst (λ (i : Id16). NoteEnds told shown mid new (note.Done i number) (known_made (is_other seen.block h.latest.manifest.block) mid.databases.kept i number h.latest.manifest mid.databases.known) h.fault) same h.done.ends)
        h.done.room)
    settled new answer.Refused result puts two goes_on h =
        subst (λ (r : Reply). PutStep told shown store before after old new seen taken t moment r u) (sym h.1)
        (subst (λ (l : Ledger D g). PutStep told shown store before after old l seen taken t moment (reply.Working 2) u) (sym h.0) (refused_on puts (two refl) (goes_on refl)))
    settled new (answer.Contended ns) result puts two goes_on h =
        let same = ap id_of puts.leaves.2.becomes ∙ id_with t _ false in
        subst (λ (r : Reply). PutStep told shown store before after old new seen taken t moment r u) (sym h.is)
        (contended_by mid new begins after u (answer.Contended ns) puts ns refl h.fault
        (subst (λ (i : Id16). NoteEnds told shown mid new (note.Void i) mid.databases.known h.fault) same h.ends) h.room)
    settled new answer.Exists result puts two goes_on h =
        subst (λ (r : Reply). PutStep told shown store before after old new seen taken t moment r u) (sym h.is)
        (there_by mid new begins after u answer.Exists puts refl h.fault
        (subst (λ (i : Id16). NoteEnds told shown mid new (note.Void i) mid.databases.known h.fault) (ap id_of puts.leaves.1) h.ends) h.room)
    settled new answer.Unknown result puts two goes_on h =
        subst (λ (r : Reply). PutStep told shown store before after old new seen taken t moment r u) (sym h.1)
        (subst (λ (l : Ledger D g). PutStep told shown store before after old l seen taken t moment (reply.Unknown (id_of u)) u) (sym h.0)
        (subst (λ (i : Id16). PutStep told shown store before after old mid seen taken t moment (reply.Unknown i) u) (sym (ap id_of puts.leaves)) (unknown_ends puts)))
    settled new answer.NoMemory result puts two goes_on h =
        subst (λ (r : Reply). PutStep told shown store before after old new seen taken t moment r u) (sym h.1)
        (subst (λ (l : Ledger D g). PutStep told shown store before after old l seen taken t moment reply.NoMemory u) (sym h.0) (memory_ends puts))
