-- What a step at a put notes, at each of its exits.
use Rattle.std.proofs.Common.{◌≡◌, ◌∙◌, ℕ, Bool, true, false, List, [], ◌∷◌, length, Option, Some, None, MatchOption, refl, sym, ap, subst}
use Rattle.std.proofs.lemmas.Option.{same_Some}
use Rattle.bcv_base.specs.declared.id.Id16.{Id16}
use Rattle.bcv_base.specs.declared.log.Entry.{Entry}
use Rattle.bcv_base.specs.declared.manifest.Manifest.{Manifest}
use Rattle.bcv_base.specs.declared.seen.Latest.{Latest}
use Rattle.bcv_base.specs.declared.seen.Seen.{Seen}
use Rattle.bcv_base.specs.Image.{Writes}
use Rattle.bcv_cache.specs.Entry as cache
use Rattle.bcv_clientlog.specs.LogParts.{is_shut}
use Rattle.bcv_databases.specs.Sound.{AreDatabases}
use Rattle.bcv_databases.specs.declared.known.Known.{Known}
use Rattle.bcv_dbmap.specs.Kept.{IsKept}
use Rattle.bcv_disk.specs.DiskShown.{DiskShown, DiskTold}
use Rattle.bcv_model.specs.declared.kept.Kept.{Kept}
use Rattle.bcv_model.specs.declared.kept.PendingPub.{PendingPub}
use Rattle.bcv_model.specs.declared.note.Note.{Note}
use Rattle.bcv_model.specs.declared.note.Note.TheVariants as note
use Rattle.bcv_model.specs.declared.reply.Reply.{Reply}
use Rattle.bcv_model.specs.declared.reply.Reply.TheVariants as reply
use Rattle.bcv_model.specs.NoteRules.{Folds}
use Rattle.bcv_store.specs.StoreShown.{StoreShown, StoreTold}
use Rattle.bcv_tasks.specs.declared.publish_task.PublishTask.{PublishTask}
use Rattle.bcv_tasks.specs.declared.publish_task.PublishTask.TheVariants as task
use Rattle.bcv_tasks.specs.declared.put_answer.PutAnswer.{PutAnswer}
use Rattle.bcv_tasks.specs.declared.put_answer.PutAnswer.TheVariants as answer
use Rattle.bcv_tasks.specs.State.{IsRunning, id_of, is_ready, latest_of, pending_of}
use Rattle.bcv_tasks.specs.TaskPut.{PutsTask, TaskPuts}
use Rattle.bcv_clientstate.specs.PartRefusals.{runs_publication}
use Rattle.bcv_clientstate.specs.Parts.{Parts, with_ledger}
use Rattle.bcv_ledger.specs.declared.ledger.Ledger.{Ledger}
use Rattle.bcv_ledger.specs.Begins.{Begins}
use Rattle.bcv_ledger.specs.LedgerNotes.{parts_in}
use Rattle.bcv_ledger.specs.NoteEnds.{NoteEnds}
use Rattle.bcv_publication.specs.TaskSides.{done_answer}
use Rattle.bcv_publish.specs.ManifestRead.{is_other}
use Rattle.bcv_publisher.specs.PutNotes.{FitsAfter, FitsOn, PublishedIsKept, PutNotes}
use Rattle.bcv_publisher.specs.PutStep.{MayPutManifest}
use Rattle.bcv_publisher.specs.Settles.{Settles, known_made, reply_by}
use Rattle.bcv_publisher.specs.StepNotes.{EndsOnce, LeavesNotes, NotesPublication}
use Rattle.bcv_publisher.proofs.Moments.{leaves_kept}
use Rattle.bcv_publisher.proofs.PutAfter.{done_after, ended_after, fault_after, is_alike, is_kept, left_done, left_void, may_done, may_void, refused_after, unbegun_after, untouched_after, void_after}
use Rattle.bcv_publisher.proofs.PutEnds.{id_with, latest_with}
use Rattle.bcv_publisher.proofs.StepMoments.{are_of_publication, begun_notes, both_moments, end_moment, intent_moment}
use Rattle.bcv_publisher.proofs.TaskPuts.{may_put}

none_noted : (o : Option PendingPub) (x : PendingPub) → NotesPublication o x []
none_noted None x = tt
none_noted (Some p) x = tt

done_on : (mine : List Id16) (writer : Id16) (k : Kept) (log : List Entry) (view : List Writes) (t u : PublishTask) (n : ℕ) → FitsOn mine writer k log view (done_answer t n) u
done_on mine writer k log view (task.Create c) u n = tt
done_on mine writer k log view (task.Copy id s) u n = tt
done_on mine writer k log view (task.Upload id s) u n = tt
done_on mine writer k log view (task.Cleanup id s) u n = tt

done_kept : (log : List Entry) (t u : PublishTask) (n : ℕ) → MatchOption (latest_of u) ⊥ (IsKept log) → PublishedIsKept log (done_answer t n) u
done_kept log (task.Create c) u n kept = kept
done_kept log (task.Copy id s) u n kept = kept
done_kept log (task.Upload id s) u n kept = kept
done_kept log (task.Cleanup id s) u n kept = kept

module _ {D : Type 0} {g : _} (told : DiskTold) (shown : D → DiskShown) (store : StoreTold) (before : StoreShown) (old : Ledger D g) (seen : Seen) (taken : ℕ) (t : PublishTask) (moment : ℕ)
    (ready : is_ready t ≡ true) (is_open : is_shut old.log ≡ false)
    (only_now : (disk : D) → told.tells → (image : List ℕ) → (shown disk).left_since (shown disk).moment image → (shown disk).may_leave image) where
  abbrev x : PendingPub
  x = pending_of taken t

  abbrev o : Option PendingPub
  o = old.databases.kept.pending

  -- nothing was done
  pub nothing_noted : PutNotes told shown store before before old old seen taken t reply.NoMemory t
  nothing_noted = record {
    notes = [];
    noted = none_noted o x;
    any_moment = λ tells end folds f journaled. leaves_kept told shown tells only_now old.log old.databases.kept f is_open journaled;
    client = λ store_tells p entries n view mine long may quiet honest. untouched_after store before old t moment ready is_open p entries n view mine may.own may.step quiet;
  }

  -- the intent did not come to stand
  pub intent_not_noted : (new : Ledger D g) (fault : Reply) → Begins told shown old new x (Some fault) → PutNotes told shown store before before old new seen taken t fault t
  intent_not_noted new fault begins = record {
    notes = begun_notes o x [];
    noted = are_of_publication o x [] tt;
    any_moment = intent_moment told shown old new x (Some fault) begins is_open only_now;
    client = λ store_tells p entries n view mine long may quiet honest.
        subst (λ (y : PendingPub). FitsAfter mine old new before.log p entries view (begun_notes o y []) fault t) long
        (unbegun_after store before old t moment ready is_open p entries n view mine may.own may.step quiet told shown new fault (subst (λ (y : PendingPub). Begins told shown old new y (Some fault)) (sym long) begins));
  }

  module _ (mid : Ledger D g) (begins : Begins told shown old mid x None) (after : StoreShown) (u : PublishTask) where
    -- what is known of the put and of its client, for each client that stands
    abbrev Sees : PutAnswer → Ledger D g → List Note → Reply → Type 0
    Sees said new ys r =
        (p : Parts) (entries : List cache.Entry) (n : ℕ) (view : List Writes) (mine : List Id16) (long : pending_of (length view) t ≡ pending_of taken t) (may : MayPutManifest mine before.log (with_ledger (parts_in old) p) entries n view seen t)
        → runs_publication p ≡ false → Begins told shown old mid (pending_of (length view) t) None
        → TaskPuts store mine before after view t moment said u
        → FitsAfter mine old new after.log p entries view (begun_notes o (pending_of (length view) t) ys) r u

    put_noted : (said : PutAnswer) → PutsTask store before after t moment said u → (new : Ledger D g) (ys : List Note) (r : Reply) → EndsOnce x.id ys
        → (told.tells → (end : Kept) → Folds mid.databases.kept ys end → LeavesNotes shown mid.log new.log mid.databases.kept ys) → Sees said new ys r
        → PutNotes told shown store before after old new seen taken t r u
    put_noted said puts new ys r ends moments sees = record {
      notes = begun_notes o x ys;
      noted = are_of_publication o x ys ends;
      any_moment = both_moments told shown old mid x begins is_open new.log ys moments;
      client = λ store_tells p entries n view mine long may quiet honest.
          subst (λ (y : PendingPub). FitsAfter mine old new after.log p entries view (begun_notes o y ys) r u) long
          (sees p entries n view mine long may quiet (subst (λ (y : PendingPub). Begins told shown old mid y None) (sym long) begins)
          (puts.sound store_tells mine may.step.sound honest view (may_put mine before.log (with_ledger (parts_in old) p) entries n view t may.own may.step)));
    }

    still : (new : Ledger D g) → new ≡ mid → told.tells → (end : Kept) → Folds mid.databases.kept [] end → LeavesNotes shown mid.log new.log mid.databases.kept []
    still new same tells end folds f journaled =
        subst (λ (l : Ledger D g). LeavesNotes shown mid.log l.log mid.databases.kept []) (sym same)
        (λ f journaled. leaves_kept told shown tells only_now mid.log mid.databases.kept f begins.shut journaled) f journaled

    -- nothing was noted after the put, and the task has ended
    ended : (said : PutAnswer) → PutsTask store before after t moment said u → (r : Reply)
        → ((mine : List Id16) (writer : Id16) (k : Kept) (log : List Entry) (view : List Writes) → FitsOn mine writer k log view r u) → ((log : List Entry) → PublishedIsKept log r u)
        → PutNotes told shown store before after old mid seen taken t r u
    ended said puts r on published =
        put_noted said puts mid [] r tt (still mid refl) (λ p entries n view mine long may quiet begun told_puts.
        ended_after store before old t moment ready is_open p entries n view mine may.own may.step quiet told shown after mid begun u said puts.leaves told_puts r (on mine p.id mid.databases.kept after.log view) (published after.log))

    goes_on : PutsTask store before after t moment answer.Refused u → IsRunning u → PutNotes told shown store before after old mid seen taken t (reply.Working 2) u
    goes_on puts running =
        put_noted answer.Refused puts mid [] (reply.Working 2) tt (still mid refl) (λ p entries n view mine long may quiet begun told_puts.
        refused_after store before old t moment ready is_open p entries n view mine may.own may.step quiet told shown after mid begun u answer.Refused puts.leaves told_puts refl running)

    -- void is noted
    voids : (said : PutAnswer) → PutsTask store before after t moment said u → (new : Ledger D g) → AreDatabases new.databases → (r : Reply)
        → ((mine : List Id16) (writer : Id16) (k : Kept) (log : List Entry) (view : List Writes) → FitsOn mine writer k log view r u) → ((log : List Entry) → PublishedIsKept log r u)
        → (fault : Option Reply) → NoteEnds told shown mid new (note.Void x.id) mid.databases.known fault → PutNotes told shown store before after old new seen taken t (reply_by fault r) u
    voids said puts new holds r on published None ends =
        put_noted said puts new (note.Void x.id ∷ []) r refl (end_moment told shown mid new (note.Void x.id) mid.databases.known None ends begins.shut) (λ p entries n view mine long may quiet begun told_puts.
        void_after store before old t moment ready is_open p entries n view mine may.own may.step quiet told shown after mid begun u said puts.leaves told_puts new r holds ends (on mine p.id new.databases.kept after.log view) (published after.log))
    voids said puts new holds r on published (Some fault) ends =
        put_noted said puts new (note.Void x.id ∷ []) fault refl (end_moment told shown mid new (note.Void x.id) mid.databases.known (Some fault) ends begins.shut) (λ p entries n view mine long may quiet begun told_puts.
        fault_after store before old t moment ready is_open p entries n view mine may.own may.step quiet told shown after mid begun u said puts.leaves told_puts new (note.Void x.id) mid.databases.known fault ends
        (may_void store before old t moment ready is_open p entries n view mine may.own may.step quiet told shown after mid begun u said puts.leaves told_puts)
        (left_void store before old t moment ready is_open p entries n view mine may.own may.step quiet told shown after mid begun u said puts.leaves told_puts))

    -- done is noted
    module _ (number : ℕ) (puts : PutsTask store before after t moment (answer.Published number) u) (new : Ledger D g) (holds : AreDatabases new.databases) (latest : Latest)
        (is_latest : latest_of u ≡ Some latest) where
      manifest_is : latest.manifest ≡ puts.leaves.manifest
      manifest_is =
          ap (λ (l : Latest). l.manifest)
          (same_Some latest (record { manifest = puts.leaves.manifest; etag = puts.leaves.etag }) (sym is_latest ∙ ap latest_of puts.leaves.becomes ∙ latest_with t _ true))

      abbrev done : Note
      done = note.Done x.id number

      -- the databases that are known then
      abbrev known_then : Bool → List Known
      known_then other = known_made other mid.databases.kept x.id number latest.manifest mid.databases.known

      abbrev known : List Known
      known = known_then (is_other seen.block latest.manifest.block)

      publishes : (fault : Option Reply) → NoteEnds told shown mid new done known fault
          → PutNotes told shown store before after old new seen taken t (reply_by fault (done_answer u number)) u
      publishes None ends =
          put_noted (answer.Published number) puts new (done ∷ []) (done_answer u number) refl (end_moment told shown mid new done known None ends begins.shut)
          (λ p entries n view mine long may quiet begun told_puts.
          let found : latest.manifest ≡ told_puts.manifest = manifest_is ∙ same_Some puts.leaves.manifest told_puts.manifest (sym puts.leaves.brings ∙ told_puts.brings) in
          let alike : is_other seen.block latest.manifest.block ≡ false =
          subst (λ (k : Manifest). is_other seen.block k.block ≡ false) (sym found)
          (is_alike store before old t moment ready is_open p entries n view mine may.own may.step quiet told shown after mid begun u (answer.Published number) puts.leaves told_puts number refl seen may.seen_is) in
          done_after store before old t moment ready is_open p entries n view mine may.own may.step quiet told shown after mid begun u (answer.Published number) puts.leaves told_puts number refl new latest.manifest
          (done_answer u number) found holds (subst (λ (b : Bool). NoteEnds told shown mid new done (known_then b) None) alike ends) (done_on mine p.id new.databases.kept after.log view u u number)
          (done_kept after.log u u number
          (is_kept store before old t moment ready is_open p entries n view mine may.own may.step quiet told shown after mid begun u (answer.Published number) puts.leaves told_puts number refl)))
      publishes (Some fault) ends =
          put_noted (answer.Published number) puts new (done ∷ []) fault refl (end_moment told shown mid new done known (Some fault) ends begins.shut)
          (λ p entries n view mine long may quiet begun told_puts.
          fault_after store before old t moment ready is_open p entries n view mine may.own may.step quiet told shown after mid begun u (answer.Published number) puts.leaves told_puts new done
          known fault ends
          (may_done store before old t moment ready is_open p entries n view mine may.own may.step quiet told shown after mid begun u (answer.Published number) puts.leaves told_puts number refl)
          (left_done store before old t moment ready is_open p entries n view mine may.own may.step quiet told shown after mid begun u (answer.Published number) puts.leaves told_puts number refl))

    -- ---- every answer

    pub settled_notes : (new : Ledger D g) (said : PutAnswer) (result : Reply) → AreDatabases new.databases → PutsTask store before after t moment said u → (said ≡ answer.Refused → IsRunning u)
        → Settles told shown mid new u seen said result → PutNotes told shown store before after old new seen taken t result u
    settled_notes new (answer.Published number) result holds puts running h =
        subst (λ (r : Reply). PutNotes told shown store before after old new seen taken t r u) (sym h.is)
        (publishes number puts new holds h.latest h.is_latest h.fault
        (subst (λ (i : Id16). NoteEnds told shown mid new (note.Done i number) (known_made (is_other seen.block h.latest.manifest.block) mid.databases.kept i number h.latest.manifest mid.databases.known) h.fault)
        (ap id_of puts.leaves.becomes ∙ id_with t _ true) h.done.ends))
    settled_notes new answer.Refused result holds puts running h =
        subst (λ (r : Reply). PutNotes told shown store before after old new seen taken t r u) (sym h.1)
        (subst (λ (l : Ledger D g). PutNotes told shown store before after old l seen taken t (reply.Working 2) u) (sym h.0) (goes_on puts (running refl)))
    settled_notes new (answer.Contended ns) result holds puts running h =
        subst (λ (r : Reply). PutNotes told shown store before after old new seen taken t r u) (sym h.is)
        (voids (answer.Contended ns) puts new holds (reply.Contended ns) (λ mine writer k log view. tt) (λ log. tt) h.fault
        (subst (λ (i : Id16). NoteEnds told shown mid new (note.Void i) mid.databases.known h.fault) (ap id_of puts.leaves.2.becomes ∙ id_with t _ false) h.ends))
    settled_notes new answer.Exists result holds puts running h =
        subst (λ (r : Reply). PutNotes told shown store before after old new seen taken t r u) (sym h.is)
        (voids answer.Exists puts new holds reply.Exists (λ mine writer k log view. tt) (λ log. tt) h.fault
        (subst (λ (i : Id16). NoteEnds told shown mid new (note.Void i) mid.databases.known h.fault) (ap id_of puts.leaves.1) h.ends))
    settled_notes new answer.Unknown result holds puts running h =
        subst (λ (r : Reply). PutNotes told shown store before after old new seen taken t r u) (sym h.1)
        (subst (λ (l : Ledger D g). PutNotes told shown store before after old l seen taken t (reply.Unknown (id_of u)) u) (sym h.0)
        (ended answer.Unknown puts (reply.Unknown (id_of u)) (λ mine writer k log view. tt) (λ log. tt)))
    settled_notes new answer.NoMemory result holds puts running h =
        subst (λ (r : Reply). PutNotes told shown store before after old new seen taken t r u) (sym h.1)
        (subst (λ (l : Ledger D g). PutNotes told shown store before after old l seen taken t reply.NoMemory u) (sym h.0)
        (ended answer.NoMemory puts reply.NoMemory (λ mine writer k log view. tt) (λ log. tt)))
