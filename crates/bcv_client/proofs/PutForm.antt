-- A client stays in form after the put of its task.
use Rattle.std.proofs.Common.{◌≡◌, ◌∙◌, ◌≤◌, ℕ, Bool, true, false, cond, List, [], ◌∷◌, filter, map, Option, Some, None, IfSome, inl, inr, refl, sym, ap, subst, arith}
use Rattle.std.proofs.lemmas.Option.{same_Some}
use Rattle.std.specs.List.{AllByRecursion, list_any}
use Rattle.bcv_base.specs.declared.id.Id16.{Id16}
use Rattle.bcv_base.specs.declared.manifest.DbEntry.{DbEntry}
use Rattle.bcv_base.specs.declared.manifest.Manifest.{Manifest}
use Rattle.bcv_base.specs.declared.seen.Latest.{Latest}
use Rattle.bcv_base.specs.declared.seen.Seen.{Seen}
use Rattle.bcv_base.specs.Ids.{IsId}
use Rattle.bcv_base.specs.ManifestRules.{MeetsEntryRules}
use Rattle.bcv_cache.specs.Entry.{Blocks}
use Rattle.bcv_clientlaws.specs.Forms.{AreInForm, KnownInForm, PendingInForm}
use Rattle.bcv_clientlaws.proofs.DatabaseForms.{notes_keep_form}
use Rattle.bcv_clientstate.specs.KnownLaws.{has_none, known_in, known_of}
use Rattle.bcv_clientstate.specs.PartRefusals.{runs_publication}
use Rattle.bcv_databases.specs.Catalog.{Catalog}
use Rattle.bcv_databases.specs.Sound.{CanEnd, CanUpload, KeepsViews}
use Rattle.bcv_disk.specs.DiskShown.{DiskShown, DiskTold}
use Rattle.bcv_ledger.specs.declared.ledger.Ledger.{Ledger}
use Rattle.bcv_model.specs.declared.kept.Kept.{Kept}
use Rattle.bcv_model.specs.declared.kept.PendingPub.{PendingPub}
use Rattle.bcv_model.specs.declared.kept.Uploading.{Uploading}
use Rattle.bcv_model.specs.declared.note.Note.TheVariants as note
use Rattle.bcv_model.specs.declared.reply.Reply.{Reply}
use Rattle.bcv_model.specs.declared.reply.Reply.TheVariants as reply
use Rattle.bcv_model.specs.Notes.{after_note}
use Rattle.bcv_pages.specs.Held.{Held}
use Rattle.bcv_publish.specs.ManifestRead.{is_other}
use Rattle.bcv_publisher.specs.PollStep.{IsReadForm, seen_with}
use Rattle.bcv_publisher.specs.PutStep.{Keeps, Makes, MayWait, PutStepLeaves, kept_waiting}
use Rattle.bcv_publisher.specs.Settles.{known_made}
use Rattle.bcv_slots.specs.declared.Slot.{Slot}
use Rattle.bcv_store.specs.StoreShown.{StoreShown, StoreTold}
use Rattle.bcv_tasks.specs.declared.publish_task.PublishTask.{PublishTask}
use Rattle.bcv_tasks.specs.declared.publish_task.PublishTask.TheVariants as task
use Rattle.bcv_tasks.specs.State.{IsRunning, id_of, is_ready, latest_of, left_of, pending_of, refused_of, upload_of}
use Rattle.bcv_tasks.specs.TaskPut.{with_refused}
use Rattle.bcv_tasks.proofs.Owned.{latest_with}
use Rattle.bcv_transaction.specs.Open.{Open}
use Rattle.bcv_upload.specs.BlockText.{IsViewOf}
use Rattle.bcv_base.specs.Image.{Writes}
use Rattle.bcv_client.specs.ClientForm.{HasSize, IsInForm, PendingFor, PublishInForm, ViewInForm}
use Rattle.bcv_client.specs.ClientParts.{parts_of}
use Rattle.bcv_client.specs.LocalWrites.{TrimsSets, TrimsWhere}
use Rattle.bcv_client.specs.NewTasks.{is_busy}
use Rattle.bcv_client.specs.PublicationOver.{StaysInForm}
use Rattle.bcv_client.specs.PublicationPut.{PutsAt, SeesWhere, says_made, seen_made, set_uploaded}
use Rattle.bcv_client.specs.declared.client.Client.{Client}
use Rattle.bcv_client.specs.declared.job.Job.{Job}
use Rattle.bcv_client.proofs.BlockSizes.{IsAlike, alike_other, size_found, size_void, sized}
use Rattle.bcv_client.proofs.BusyTasks.{busy_jobs}
use Rattle.bcv_client.proofs.PutTasks.{DbsMeetRules, brought_meets, intent_in_form, refused_again, refused_pending, refused_view, refused_waits}
use Rattle.bcv_client.proofs.RevertForm.{quiet_changes, size_as_before}
use Rattle.bcv_client.proofs.Reverts.{SameLedger, same_ledger}
use Rattle.bcv_client.proofs.SetViews.{KeepsTxn, both_keep, keeps_txns}

-- ---- the block size

-- once the intent stands
pub size_waits : (size : Option ℕ) (c : Catalog) (blocks : Option Blocks) (x : PendingPub) → IfSome size (λ b. PendingInForm b x) → HasSize size c blocks
    → HasSize size (record c { kept = kept_waiting c.kept x }) blocks
size_waits None c blocks x is has = has
size_waits (Some b) c blocks x is has = (has.0, notes_keep_form b c.kept c.known (note.Intent x) has.1 is, has.2)

known_in_form : (block : ℕ) (k : Kept) (m : Manifest) (ds : List DbEntry) → m.block ≡ block → AllByRecursion (MeetsEntryRules m.block) ds
    → AllByRecursion (KnownInForm block) (map (known_in m) (filter (has_none k) ds))
known_in_form block k m [] same all = tt
known_in_form block k m (d ∷ ds) same all =
    elim (has_none k d) as (λ (b : Bool). AllByRecursion (KnownInForm block) (map (known_in m) (cond b (d ∷ filter (has_none k) ds) (filter (has_none k) ds)))) [
      | true ↦ ((same, subst (λ (b : ℕ). MeetsEntryRules b d) same all.0), known_in_form block k m ds same all.1)
      | false ↦ known_in_form block k m ds same all.1
    ]

-- once it was made, whose manifest is known
size_published : (c d : Catalog) (blocks : Option Blocks) (id : Id16) (n : ℕ) (m : Manifest) → DbsMeetRules m → CanEnd c.kept.locals c.kept.pending
    → HasSize (Some m.block) c blocks → d.kept ≡ after_note c.kept (note.Done id n) → d.known ≡ known_of (after_note c.kept (note.Done id n)) m → HasSize (Some m.block) d blocks
size_published c d blocks id n m meets can has kept knows =
    let k : Kept = after_note c.kept (note.Done id n) in
    let noted : AreInForm m.block k c.known = notes_keep_form m.block c.kept c.known (note.Done id n) has.1 can in
    let are : AreInForm m.block k (known_of k m) = record { locals = noted.locals; known = known_in_form m.block k m m.dbs refl meets.each; pending = noted.pending } in
    (has.0, subst (λ (y : Kept). AreInForm m.block y d.known) (sym kept) (subst (AreInForm m.block k) (sym knows) are), has.2)

-- ---- a set that may be trimmed

pub txns_kept : {D : Type 0} {g : _} (sets : List (Option Held)) (l k : Ledger D g) (o : Open) → KeepsViews sets l.databases.sets → TrimsSets l k o
    → AllByRecursion (KeepsTxn sets k.databases.sets) o.txns
txns_kept sets l k o views trims = both_keep sets l.databases.sets k.databases.sets o.txns (keeps_txns sets l.databases.sets views o.txns) trims.views

-- ---- views of an upload

pub view_still : (s : Seen) (c d : Catalog) (set taken : ℕ) (t : PublishTask) → KeepsViews c.sets d.sets → ViewInForm s c set taken t → ViewInForm s d set taken t
view_still s c d set taken (task.Create x) keeps view = tt
view_still s c d set taken (task.Copy id x) keeps view = tt
view_still s c d set taken (task.Upload id x) keeps view =
    let k = keeps set view.held view.is_held in
    let is = k.2 x.base.from x.base.to view.view.can in
    record {
      held = k.0;
      is_held = k.1;
      view = record {
        can = is.0;
        page_size = k.3 ∙ view.view.page_size;
        of_view = subst (λ (ws : List Writes). IsViewOf x.base ws x.size x.touched) (sym is.1) view.view.of_view;
      };
      size = view.size;
      count = view.count;
    }
view_still s c d set taken (task.Cleanup id x) keeps view = tt

-- ---- what was read

-- it was seen still, once a manifest of the same block size is seen
read_with : (s : Seen) (m : Manifest) (k : Option Latest) → IsAlike s.block m.block → IsReadForm s k → IsReadForm (seen_with s m) k
read_with s m None alike read = tt
read_with s m (Some l) alike read =
    let same : m.block ≡ l.manifest.block = subst (λ (o : Option ℕ). IsAlike o m.block) read.block alike in
    let within : l.manifest.number ≤ s.number = read.number in
    record { rules = read.rules; block = ap Some same; number = omega (arith, within) }

-- ---- the step

module _ {D : Type 0} {g : _} (told : DiskTold) (shown : D → DiskShown) (store : StoreTold) (before after : StoreShown) (old new : Client D g) (set taken : ℕ) (t : PublishTask) (moment : ℕ) (r : Reply) (u : PublishTask)
    (step : PutsAt told shown store before after old new set taken t moment r u) (form : IsInForm old.seen old.ledger.databases old.txns old.tasks.items) (read : IsReadForm old.seen old.latest)
    (own : PublishInForm old.seen old.ledger.databases set taken t) (ready : is_ready t ≡ true) (is_id : IsId (id_of t)) (alone : runs_publication (parts_of old) ≡ false) where
  abbrev c : Catalog
  c = old.ledger.databases

  abbrev d : Catalog
  d = new.ledger.databases

  abbrev mid : Ledger D g
  mid = step.mid

  abbrev s : Seen
  s = old.seen

  abbrev x : PendingPub
  x = pending_of taken t

  abbrev waiting : Kept
  waiting = kept_waiting c.kept x

  abbrev blocks : Option Blocks
  blocks = old.txns.cache

  same : SameLedger mid new.ledger
  same = same_ledger mid new.ledger old.txns step.views

  none_busy : list_any (λ (s : Slot Job). is_busy s.item) old.tasks.items ≡ false
  none_busy = sym (busy_jobs c old.tasks.items) ∙ alone

  keeps : AllByRecursion (KeepsTxn c.sets d.sets) old.txns.txns
  keeps = txns_kept c.sets mid new.ledger old.txns step.puts.views step.views

  -- ---- its size

  intent_at : (o : Option ℕ) → s.block ≡ o → IfSome o (λ b. PendingInForm b x)
  intent_at None is = tt
  intent_at (Some b) is = intent_in_form b s c set taken t is ready own.running own.view

  waits_size : HasSize s.block (record c { kept = waiting }) blocks
  waits_size = size_waits s.block c blocks x (intent_at s.block refl) form.size

  size_same : Keeps mid c.kept c.known → HasSize s.block d blocks
  size_same stays = size_as_before s.block c d blocks form.size (same.kept ∙ stays.0) (same.known ∙ stays.1)

  size_waiting : Keeps mid waiting c.known → HasSize s.block d blocks
  size_waiting stays = size_as_before s.block (record c { kept = waiting }) d blocks waits_size (same.kept ∙ stays.0) (same.known ∙ stays.1)

  size_dropped : Keeps mid (after_note waiting (note.Void x.id)) c.known → HasSize s.block d blocks
  size_dropped stays = size_void s.block (record c { kept = waiting }) d blocks x.id waits_size (same.kept ∙ stays.0) (same.known ∙ stays.1)

  size_may_wait : MayWait old.ledger mid x → HasSize s.block d blocks
  size_may_wait (inl stays) = size_same stays
  size_may_wait (inr stays) = size_waiting stays

  unseen : new.seen ≡ s → HasSize s.block d blocks → HasSize new.seen.block d blocks
  unseen sees has = subst (λ (y : Seen). HasSize y.block d blocks) (sym sees) has

  -- ---- a publication that was made

  module _ (y : Reply) (h : Makes old.ledger mid s x t moment y u) (sees : SeesWhere true s new.seen (latest_of u)) where
    abbrev m : Manifest
    m = h.latest.manifest

    meets : DbsMeetRules m
    meets =
        let brought : Latest = record { manifest = h.leaves.manifest; etag = h.leaves.etag } in
        let is : h.latest ≡ brought = same_Some h.latest brought (sym h.is_latest ∙ ap latest_of h.leaves.becomes ∙ latest_with t _ true) in
        subst (λ (l : Latest). DbsMeetRules l.manifest) (sym is) (brought_meets t moment h.leaves.manifest own.running ready is_id h.leaves.brings)

    sees_it : new.seen ≡ seen_made (is_other s.block m.block) s m
    sees_it = subst (λ (o : Option Latest). SeesWhere true s new.seen o) h.is_latest sees

    made_by : (b : Bool) → is_other s.block m.block ≡ b → new.seen ≡ seen_made b s m
        → Keeps mid (after_note waiting (note.Done x.id h.number)) (known_made b waiting x.id h.number m c.known) → HasSize new.seen.block d blocks
    made_by true e is stays =
        unseen is
        (size_found s.block (record c { kept = waiting }) d blocks x.id h.number (record (parts_of old) { kept = waiting }) refl refl own.upload waits_size (same.kept ∙ stays.0) (same.known ∙ stays.1))
    made_by false e is stays =
        subst (λ (z : Seen). HasSize z.block d blocks) (sym is)
        (size_published (record c { kept = waiting }) d blocks x.id h.number m meets own.upload
        (sized s.block m.block (record c { kept = waiting }) blocks meets.block (alike_other s.block m.block e) own.upload waits_size) (same.kept ∙ stays.0) (same.known ∙ stays.1))

    size_made : HasSize new.seen.block d blocks
    size_made = made_by (is_other s.block m.block) refl sees_it h.keeps

    read_by : (b : Bool) → is_other s.block m.block ≡ b → new.seen ≡ seen_made b s m → IsReadForm new.seen old.latest
    read_by true e is = subst (λ (z : Seen). IsReadForm z old.latest) (sym is) read
    read_by false e is = subst (λ (z : Seen). IsReadForm z old.latest) (sym is) (read_with s m old.latest (alike_other s.block m.block e) read)

    read_made : IsReadForm new.seen old.latest
    read_made = read_by (is_other s.block m.block) refl sees_it

  -- ---- every answer

  size_after : (y : Reply) → PutStepLeaves old.ledger mid s x t moment y u → SeesWhere (says_made y) s new.seen (latest_of u) → HasSize new.seen.block d blocks
  size_after (reply.Working left) leaves sees = unseen sees (size_waiting leaves.keeps)
  size_after (reply.Done n) leaves sees = size_made (reply.Done n) leaves sees
  size_after (reply.Cleaned deleted more) leaves sees = size_made (reply.Cleaned deleted more) leaves sees
  size_after (reply.Contended numbers) leaves sees = unseen sees (size_dropped leaves.keeps)
  size_after reply.Exists leaves sees = unseen sees (size_dropped leaves.keeps)
  size_after (reply.Unknown id) leaves sees = unseen sees (size_waiting leaves.2)
  size_after reply.JournalFull leaves sees = unseen sees (size_same leaves.1)
  size_after reply.DiskFault leaves sees = unseen sees (size_may_wait leaves)
  size_after reply.NoMemory leaves sees = unseen sees (size_may_wait leaves)
  size_after _ leaves sees = absurd leaves

  still_read : new.seen ≡ s → IsReadForm new.seen old.latest
  still_read sees = subst (λ (z : Seen). IsReadForm z old.latest) (sym sees) read

  read_after : (y : Reply) → PutStepLeaves old.ledger mid s x t moment y u → SeesWhere (says_made y) s new.seen (latest_of u) → IsReadForm new.seen old.latest
  read_after (reply.Working left) leaves sees = still_read sees
  read_after (reply.Done n) leaves sees = read_made (reply.Done n) leaves sees
  read_after (reply.Cleaned deleted more) leaves sees = read_made (reply.Cleaned deleted more) leaves sees
  read_after (reply.Contended numbers) leaves sees = still_read sees
  read_after reply.Exists leaves sees = still_read sees
  read_after (reply.Unknown id) leaves sees = still_read sees
  read_after reply.JournalFull leaves sees = still_read sees
  read_after reply.DiskFault leaves sees = still_read sees
  read_after reply.NoMemory leaves sees = still_read sees
  read_after _ leaves sees = absurd leaves

  -- the client is in form, and what it read was seen
  pub form_put : IsInForm new.seen d new.txns new.tasks.items
  form_put =
      subst (λ (o : Open). IsInForm new.seen d o new.tasks.items) (sym step.only.txns)
      (subst (IsInForm new.seen d old.txns) (sym (ap (λ x. x.items) step.only.tasks))
      (quiet_changes s new.seen c d old.txns old.tasks.items form none_busy keeps (size_after r step.puts.leaves step.sees)))

  pub read_put : IsReadForm new.seen new.latest
  read_put = subst (IsReadForm new.seen) (sym step.only.latest) (read_after r step.puts.leaves step.sees)

  -- ---- a task that goes on

  pub goes_on : (y : Reply) → PutStepLeaves old.ledger mid s x t moment y u → TrimsWhere (says_made y) (set_uploaded set u) mid new.ledger old.txns old.tasks.items → SeesWhere (says_made y) s new.seen (latest_of u)
      → StaysInForm new set taken y u
  goes_on (reply.Working left) h trims sees =
      let down = h.leaves.1.1 in
      let v : PublishTask = with_refused t down.read in
      let kept : d.kept ≡ waiting = same.kept ∙ h.keeps.0 in
      let views : KeepsViews c.sets d.sets = subst (λ (l : Ledger D g). KeepsViews c.sets l.databases.sets) (sym trims) step.puts.views in
      subst (λ (y : PublishTask). PublishInForm new.seen d set taken y) (sym down.becomes)
      (record {
        running = subst IsRunning down.becomes h.running;
        waits = subst (λ (k : Kept). PendingFor k.pending (pending_of taken v) (refused_of v)) (sym kept) (refused_waits x taken t down.read own.running down.kept refl);
        again = refused_again t down.read own.running down.kept (subst (λ (y : PublishTask). left_of y ≡ 2) down.becomes h.counted);
        upload =
            subst (λ (o : Option Uploading). IfSome o (CanUpload d.kept.locals)) (sym (ap (λ (p : PendingPub). p.upload) (refused_pending taken t down.read)))
            (subst (λ (k : Kept). IfSome (upload_of taken t) (CanUpload k.locals)) (sym kept) own.upload);
        view =
            subst (λ (z : Seen). ViewInForm z d set taken v) (sym sees)
            (view_still s c d set taken v views (refused_view s c set taken t down.read own.view));
      })
  goes_on _ leaves trims sees = tt

  pub put_stays : StaysInForm new set taken r u
  put_stays = goes_on r step.puts.leaves step.trims step.sees
