-- A client stays in form under the step of a publication before its put, and so does its task where it goes on.
use Rattle.std.proofs.Common.{◌≡◌, ◌∙◌, ◌+◌, ◌-◌, ◌==◌, ℕ, Bool, true, false, cond, List, [], ◌∷◌, length, map, Option, Some, None, IfSome, MatchOption, inl, inr, refl, sym, ap, subst, arith}
use Rattle.std.specs.Global.{Vec}
use Rattle.std.specs.List.{AllByRecursion, list_any}
use Rattle.std.proofs.lemmas.Bool.{eq-eqb, false≢true}
use Rattle.bcv_base.specs.declared.id.Id16.{Id16}
use Rattle.bcv_base.specs.declared.seen.Latest.{Latest}
use Rattle.bcv_base.specs.declared.seen.Seen.{Seen}
use Rattle.bcv_base.specs.declared.seen.TxnBase.{TxnBase}
use Rattle.bcv_base.specs.Drawn.{NamesShown}
use Rattle.bcv_base.specs.Image.{Writes}
use Rattle.bcv_base.specs.Keyed.{keyed}
use Rattle.bcv_base.specs.Moments.{ClockShown}
use Rattle.bcv_cache.specs.Cache.{found_first}
use Rattle.bcv_cache.specs.Entry.{Blocks}
use Rattle.bcv_cache.specs.Entry as cache
use Rattle.bcv_cleanup.specs.CleanupWork as cleaning
use Rattle.bcv_cleanup.specs.Released.{RuleAnswers, TakesDead}
use Rattle.bcv_cleanup.specs.State as cleanup
use Rattle.bcv_clientlaws.specs.OwnEntries.{IsSameUpload}
use Rattle.bcv_databases.specs.Catalog.{Catalog}
use Rattle.bcv_databases.specs.Sound.{CanUpload}
use Rattle.bcv_dbcopy.specs.State as copy
use Rattle.bcv_dbcopy.specs.TaskWork as copying
use Rattle.bcv_dbmap.specs.Deletions.{most_cleaned}
use Rattle.bcv_disk.specs.DiskShown.{DiskShown, DiskTold}
use Rattle.bcv_ledger.specs.declared.ledger.Ledger.{Ledger}
use Rattle.bcv_model.specs.declared.kept.Local.{Local}
use Rattle.bcv_model.specs.declared.kept.PendingPub.{PendingPub}
use Rattle.bcv_model.specs.declared.reply.Reply.{Reply}
use Rattle.bcv_model.specs.declared.reply.Reply.TheVariants as reply
use Rattle.bcv_model.specs.Notes.{kept_name}
use Rattle.bcv_pages.specs.Held.{CanView}
use Rattle.bcv_publish.specs.declared.work.Work.{Work}
use Rattle.bcv_publish.specs.declared.work.Work.TheVariants as work
use Rattle.bcv_publish.specs.State as publish
use Rattle.bcv_publisher.specs.WorkStep.{IsReplyTo, KeepsIntent, LeavesLedger, LeavesTask}
use Rattle.bcv_slots.specs.declared.Slot.{Slot}
use Rattle.bcv_store.specs.StoreShown.{StoreShown, StoreTold}
use Rattle.bcv_tasks.specs.declared.publish_task.PublishTask.{PublishTask}
use Rattle.bcv_tasks.specs.declared.publish_task.PublishTask.TheVariants as task
use Rattle.bcv_tasks.specs.State.{IsRunning, id_of, is_ready, latest_of, left_of, pending_of, refused_of, upload_of, uploading_of}
use Rattle.bcv_tasks.specs.TaskWork.{WorkLeaves, cache_after}
use Rattle.bcv_transaction.specs.Open.{Open}
use Rattle.bcv_transaction.specs.OpenCalls.{cache_made}
use Rattle.bcv_transaction.specs.declared.open_txn.OpenTxn.{OpenTxn}
use Rattle.bcv_upload.specs.BlockText.{IsViewOf}
use Rattle.bcv_upload.specs.State as upload
use Rattle.bcv_upload.specs.UploadWork as uploading
use Rattle.bcv_client.specs.ClientForm.{HasSize, IsInForm, PendingFor, PublishInForm, ReadsSet, TriesAgain, UploadInForm, ViewInForm}
use Rattle.bcv_client.specs.InForm.{InForm}
use Rattle.bcv_client.specs.NewTasks.{is_busy}
use Rattle.bcv_client.specs.PublicationOver.{OnlyPublishes, StaysInForm, view_at}
use Rattle.bcv_client.specs.TaskParts.{entries_in, sets_in}
use Rattle.bcv_client.specs.TaskRequests.{ClientWorks, KeepsCache, WorksOver, cache_for}
use Rattle.bcv_client.specs.declared.client.Client.{Client}
use Rattle.bcv_client.specs.declared.job.Job.{Job}
use Rattle.bcv_client.proofs.BlockSizes.{size_void}
use Rattle.bcv_client.proofs.RevertForm.{quiet_stays, size_as_before}
use Rattle.bcv_client.proofs.SetViews.{keeps_txns}
use Rattle.bcv_client.proofs.TxnForms.{jobs_alike, unheld}

-- ---- what is pending

pub waits_by_id : (w : Option PendingPub) (x : PendingPub) (ns : List ℕ) → PendingFor w x ns → IfSome w (λ y. y.id ≡ x.id)
waits_by_id None x ns waits = tt
waits_by_id (Some p) x [] waits = absurd waits
waits_by_id (Some p) x (n ∷ ns) waits = ap (λ (y : PendingPub). y.id) waits

-- a task that is not ready after a refused put has the manifest to read
unread : (t : PublishTask) (n : ℕ) (ns : List ℕ) → is_ready t ≡ false → TriesAgain (n ∷ ns) t → (latest_of t ≡ None) × (left_of t ≡ 2)
unread t n ns not_ready (inl ready) = absurd (false≢true (sym not_ready ∙ ready))
unread t n ns not_ready (inr is) = is

still_waits : (w : Option PendingPub) (t u : PublishTask) (taken : ℕ) (ns : List ℕ) → KeepsIntent t u → is_ready t ≡ false → TriesAgain ns t → PendingFor w (pending_of taken t) ns
    → PendingFor w (pending_of taken u) ns
still_waits None t u taken [] keeps not_ready again waits = tt
still_waits None t u taken (n ∷ ns) keeps not_ready again waits = absurd waits
still_waits (Some p) t u taken [] keeps not_ready again waits = absurd waits
still_waits (Some p) t u taken (n ∷ ns) keeps not_ready again waits = waits ∙ sym (keeps (unread t n ns not_ready again).0 taken)

-- ---- once the manifest is read again the task is ready

one_left : (k left : ℕ) → k + 2 ≡ 2 → left ≡ k + 1 → (left == 1) ≡ true
one_left k left two is = eq-eqb left 1 (omega (arith, two, is))

copied_ready : (seen : Seen) (s v : copy.State) (n : ℕ) (ns : List ℕ) → copy.IsRunning s → s.publish.refused ≡ n ∷ ns → s.publish.latest ≡ None → copy.left_of s ≡ 2
    → copying.WorkLeaves None seen s work.More v → copy.is_ready v ≡ true
copied_ready seen s v n ns run some none two leaves =
    subst (λ (x : copy.State). copy.is_ready x ≡ true) (sym is) (by s.block refl (run.task.stage run.waits))
  where
    is : v ≡ copying.with_publish s (publish.with_latest s.publish leaves.1.0)
    is = leaves.2 ∙ ap (copying.with_publish s) leaves.1.5

    by : (b : Option ℕ) → s.block ≡ b → MatchOption b (copy.IsFresh s) (copy.IsUnderWay s) → copy.is_ready (copying.with_publish s (publish.with_latest s.publish leaves.1.0)) ≡ true
    by None e fresh = absurd (let both : ◌≡◌ {A = List ℕ} [] (n ∷ ns) = sym fresh.refused ∙ some in cc)
    by (Some b) e way =
        let after : copy.State = copying.with_publish s (publish.with_latest s.publish leaves.1.0) in
        let k : ℕ = copy.needed b s.edit - length (copy.put_ids s.edit) in
        let before : k + 2 ≡ 2 =
        ap (λ (x : Option Latest). k + copy.manifest_requests x) (sym none)
        ∙ sym (ap (λ (x : Bool). cond x 0 (copy.left_by s.block s)) run.waits ∙ ap (λ (x : Option ℕ). copy.left_by x s) e)
        ∙ two
        in
        let left : copy.left_of after ≡ k + 1 =
        ap (λ (x : Bool). cond x 0 (copy.left_by (copying.block_known s.block (Some leaves.1.0)) after)) run.waits
        ∙ ap (λ (x : Option ℕ). copy.left_by (copying.block_known x (Some leaves.1.0)) after) e
        in
        one_left k (copy.left_of after) before left

uploaded_ready : (fetch : Bool) (seen : Seen) (s v : upload.State) → s.published ≡ false → s.publish.latest ≡ None → upload.left_of s ≡ 2
    → uploading.WorkLeaves None fetch seen s work.More v → upload.is_ready v ≡ true
uploaded_ready fetch seen s v waits none two leaves =
    let after : upload.State = uploading.with_publish s (publish.with_latest s.publish leaves.1.0) in
    let is : v ≡ after = leaves.2 ∙ ap (uploading.with_publish s) leaves.1.5 in
    let k : ℕ = upload.block_requests s in
    let before : k + 2 ≡ 2 =
    ap (λ (x : Option Latest). k + upload.manifest_requests x) (sym none) ∙ sym (ap (λ (x : Bool). cond x 0 (k + upload.manifest_requests s.publish.latest)) waits) ∙ two
    in
    let left : upload.left_of after ≡ k + 1 = ap (λ (x : Bool). cond x 0 (k + 1)) waits in
    subst (λ (x : upload.State). upload.is_ready x ≡ true) (sym is) (one_left k (upload.left_of after) before left)

cleaned_ready : (answers : RuleAnswers) (seen : Seen) (s v : cleanup.State) → s.published ≡ false → s.publish.latest ≡ None → cleanup.left_of s ≡ 2
    → cleaning.WorkLeaves answers None seen s work.More v → cleanup.is_ready v ≡ true
cleaned_ready answers seen s v waits none two leaves =
    subst (λ (x : cleanup.State). cleanup.is_ready x ≡ true) (sym leaves.4.3.becomes)
    (subst (λ (x : Option Latest). cleanup.is_ready (cleaning.with_taken s (record leaves.1 { latest = x }) leaves.0 leaves.4.0 leaves.4.1) ≡ true) (sym leaves.4.3.kept)
    (by (cleanup.taken_ids s) refl leaves.4.3.finds.takes))
  where
    before : (ts : List Id16) → cleanup.taken_ids s ≡ ts → cleanup.deletions_left None ts s.deleted + 2 ≡ 2
    before ts is =
        ap (λ (xs : List Id16). cleanup.deletions_left None xs s.deleted + 2) (sym is)
        ∙ ap (λ (x : Option Latest). cleanup.deletions_left x (cleanup.taken_ids s) s.deleted + cleanup.manifest_requests x) (sym none)
        ∙ sym (ap (λ (x : Bool). cond x 0 (cleanup.deletions_left s.publish.latest (cleanup.taken_ids s) s.deleted + cleanup.manifest_requests s.publish.latest)) waits)
        ∙ two

    by : (ts : List Id16) → cleanup.taken_ids s ≡ ts → TakesDead answers leaves.0 leaves.4.3.read.manifest ts leaves.4.0
        → cleanup.is_ready (cleaning.with_taken s (record leaves.1 { latest = Some leaves.4.3.read }) leaves.0 leaves.4.0 leaves.4.1) ≡ true
    by [] is takes = absurd (let zero_is : most_cleaned + 2 ≡ 2 = before [] is in omega (arith, zero_is))
    by (i ∷ is) same takes =
        let k : ℕ = length (i ∷ is) - s.deleted in
        let left : cleanup.left_of (cleaning.with_taken s (record leaves.1 { latest = Some leaves.4.3.read }) leaves.0 leaves.4.0 leaves.4.1) ≡ k + 1 =
        ap (λ (x : Bool). cond x 0 ((length leaves.4.0 - s.deleted) + 1)) waits ∙ ap (λ (xs : List Id16). (length xs - s.deleted) + 1) takes
        in
        one_left k (cleanup.left_of (cleaning.with_taken s (record leaves.1 { latest = Some leaves.4.3.read }) leaves.0 leaves.4.0 leaves.4.1)) (before (i ∷ is) same) left

read_is_ready : (answers : RuleAnswers) (seen : Seen) (view : List Writes) (c : Blocks) (t u : PublishTask) (n : ℕ) (ns : List ℕ) → WorkLeaves answers seen view c t work.More u → IsRunning t
    → refused_of t ≡ n ∷ ns → latest_of t ≡ None → left_of t ≡ 2 → is_ready u ≡ true
read_is_ready answers seen view c (task.Copy id s) (task.Copy i v) n ns leaves run some none two =
    copied_ready seen s v n ns run.1 some none two (subst (λ (l : Option Latest). copying.WorkLeaves l seen s work.More v) none leaves.kind)
read_is_ready answers seen view c (task.Upload id s) (task.Upload i v) n ns leaves run some none two =
    uploaded_ready (uploading.is_fetch view c s) seen s v run.1.waits none two (subst (λ (l : Option Latest). uploading.WorkLeaves l (uploading.is_fetch view c s) seen s work.More v) none leaves.kind)
read_is_ready answers seen view c (task.Cleanup id s) (task.Cleanup i v) n ns leaves run some none two =
    cleaned_ready answers seen s v run.1.waits none two (subst (λ (l : Option Latest). cleaning.WorkLeaves answers l seen s work.More v) none leaves.kind)
read_is_ready answers seen view c (task.Create x) u n ns leaves run some none two = absurd leaves.kind
read_is_ready answers seen view c (task.Copy id s) _ n ns leaves run some none two = absurd leaves.kind
read_is_ready answers seen view c (task.Upload id s) _ n ns leaves run some none two = absurd leaves.kind
read_is_ready answers seen view c (task.Cleanup id s) _ n ns leaves run some none two = absurd leaves.kind

-- ---- what an upload is of

upload_same : (l : Option Latest) (fetch : Bool) (seen : Seen) (s v : upload.State) → uploading.WorkLeaves l fetch seen s work.More v → IsSameUpload s v
upload_same None fetch seen s v h = record { base = ap (λ (x : upload.State). x.base) h.2; size = ap (λ (x : upload.State). x.size) h.2; touched = ap (λ (x : upload.State). x.touched) h.2 }
upload_same (Some l) true seen s v h = record { base = ap (λ (x : upload.State). x.base) h.3; size = ap (λ (x : upload.State). x.size) h.3; touched = ap (λ (x : upload.State). x.touched) h.3 }
upload_same (Some l) false seen s v h = record { base = ap (λ (x : upload.State). x.base) h.1; size = ap (λ (x : upload.State). x.size) h.1; touched = ap (λ (x : upload.State). x.touched) h.1 }

-- the upload goes on over the same view
pub same_upload : (answers : RuleAnswers) (seen : Seen) (view : List Writes) (c : Blocks) (id i : Id16) (s v : upload.State) → WorkLeaves answers seen view c (task.Upload id s) work.More (task.Upload i v) → IsSameUpload s v
same_upload answers seen view c id i s v leaves = upload_same s.publish.latest (uploading.is_fetch view c s) seen s v leaves.kind

view_stays : (seen : Seen) (c : Catalog) (set taken : ℕ) (s v : upload.State) → IsSameUpload s v → UploadInForm seen c set taken s → UploadInForm seen c set taken v
view_stays seen c set taken s v same form = record {
  held = form.held;
  is_held = form.is_held;
  view = record {
    can = subst (λ (b : TxnBase). CanView form.held b.from b.to) (sym same.base) form.view.can;
    page_size = form.view.page_size ∙ sym (ap (λ (b : TxnBase). b.entry.page_size) same.base);
    of_view =
        subst (λ (b : TxnBase). IsViewOf b (upload.view_in form.held b) v.size v.touched) (sym same.base)
        (subst (λ (n : ℕ). IsViewOf s.base (upload.view_in form.held s.base) n v.touched) (sym same.size)
        (subst (λ (ns : List ℕ). IsViewOf s.base (upload.view_in form.held s.base) s.size ns) (sym same.touched) form.view.of_view));
  };
  size = form.size ∙ sym (ap (λ (b : TxnBase). Some b.block) same.base);
  count = form.count ∙ sym (ap (λ (b : TxnBase). b.to - b.from) same.base);
}

can_still : (locals : List Local) (taken : ℕ) (s v : upload.State) → IsSameUpload s v → CanUpload locals (uploading_of taken s) → CanUpload locals (uploading_of taken v)
can_still locals taken s v same can = record {
  local = can.local;
  is_local = subst (λ (b : TxnBase). keyed kept_name b.entry.name locals ≡ Some can.local) (sym same.base) can.is_local;
  size = ap (λ (b : TxnBase). b.entry.page_size) same.base ∙ can.size;
}

module _ (answers : RuleAnswers) (seen : Seen) (view : List Writes) (blocks : Blocks) (c : Catalog) (set taken : ℕ) where
  uploads_still : (t u : PublishTask) → WorkLeaves answers seen view blocks t work.More u → IfSome (upload_of taken t) (CanUpload c.kept.locals) → IfSome (upload_of taken u) (CanUpload c.kept.locals)
  uploads_still (task.Copy id s) (task.Copy i v) leaves can = tt
  uploads_still (task.Upload id s) (task.Upload i v) leaves can = can_still c.kept.locals taken s v (same_upload answers seen view blocks id i s v leaves) can
  uploads_still (task.Cleanup id s) (task.Cleanup i v) leaves can = tt
  uploads_still (task.Create x) u leaves can = absurd leaves.kind
  uploads_still (task.Copy id s) _ leaves can = absurd leaves.kind
  uploads_still (task.Upload id s) _ leaves can = absurd leaves.kind
  uploads_still (task.Cleanup id s) _ leaves can = absurd leaves.kind

  views_still : (t u : PublishTask) → WorkLeaves answers seen view blocks t work.More u → ViewInForm seen c set taken t → ViewInForm seen c set taken u
  views_still (task.Copy id s) (task.Copy i v) leaves form = tt
  views_still (task.Upload id s) (task.Upload i v) leaves form = view_stays seen c set taken s v (same_upload answers seen view blocks id i s v leaves) form
  views_still (task.Cleanup id s) (task.Cleanup i v) leaves form = tt
  views_still (task.Create x) u leaves form = absurd leaves.kind
  views_still (task.Copy id s) _ leaves form = absurd leaves.kind
  views_still (task.Upload id s) _ leaves form = absurd leaves.kind
  views_still (task.Cleanup id s) _ leaves form = absurd leaves.kind

  -- the commits that it uploads are the same
  pub same_view : (t u : PublishTask) → WorkLeaves answers seen view blocks t work.More u → view_at c set u ≡ view_at c set t
  same_view (task.Copy id s) (task.Copy i v) leaves = refl
  same_view (task.Upload id s) (task.Upload i v) leaves = ap (λ (b : TxnBase). upload.view_in (sets_in c set) b) (same_upload answers seen view blocks id i s v leaves).base
  same_view (task.Cleanup id s) (task.Cleanup i v) leaves = refl
  same_view (task.Create x) u leaves = absurd leaves.kind
  same_view (task.Copy id s) _ leaves = absurd leaves.kind
  same_view (task.Upload id s) _ leaves = absurd leaves.kind
  same_view (task.Cleanup id s) _ leaves = absurd leaves.kind

  -- a task that goes on is in form
  goes_on_in_form : (t u : PublishTask) → is_ready t ≡ false → WorkLeaves answers seen view blocks t work.More u → IsRunning u → KeepsIntent t u → PublishInForm seen c set taken t
      → PublishInForm seen c set taken u
  goes_on_in_form t u not_ready leaves running keeps form = record {
    running = running;
    waits =
        subst (λ (ns : List ℕ). PendingFor c.kept.pending (pending_of taken u) ns) (sym leaves.same_refused)
        (still_waits c.kept.pending t u taken (refused_of t) keeps not_ready form.again form.waits);
    again = subst (λ (ns : List ℕ). TriesAgain ns u) (sym leaves.same_refused) (again (refused_of t) refl form.again);
    upload = uploads_still t u leaves form.upload;
    view = views_still t u leaves form.view;
  }
    where
      again : (ns : List ℕ) → refused_of t ≡ ns → TriesAgain ns t → TriesAgain ns u
      again [] is tries = tt
      again (n ∷ ns) is tries =
          let left = unread t n ns not_ready tries in
          inl (read_is_ready answers seen view blocks t u n ns leaves form.running is left.0 left.1)

-- ---- the size

module _ {D : Type 0} {g : _} (old new : Ledger D g) (t : PublishTask) (size : Option ℕ) (x : Option Blocks) (has : HasSize size old.databases x) where
  size_kept : new.databases.kept ≡ old.databases.kept → new.databases.known ≡ old.databases.known → HasSize size new.databases x
  size_kept kept knows = size_as_before size old.databases new.databases x has kept knows

  size_then : (r : Reply) → LeavesLedger old new t r → HasSize size new.databases x
  size_then (reply.Working left) leaves = size_kept (ap (λ (l : Ledger D g). l.databases.kept) leaves) (ap (λ (l : Ledger D g). l.databases.known) leaves)
  size_then reply.DiskFault leaves = size_kept leaves.1.0 leaves.1.1
  size_then reply.NoMemory leaves = size_kept leaves.0 leaves.1
  size_then _ leaves = size_void size old.databases new.databases x (id_of t) has leaves.0 leaves.1

-- ---- the cache

-- what the transactions keep besides their cache, and which entries that has
pub record CacheKept (o n : Open) (later : Blocks) : Type 0 where
  pub slots : n.slots ≡ o.slots
  pub txns : n.txns ≡ o.txns
  pub entries : entries_in n.cache ≡ later.entries

pub made_entries : (slots b : ℕ) (x : Option Blocks) → entries_in x ≡ (cache_made slots b x).entries
made_entries slots b None = refl
made_entries slots b (Some c) = refl

untouched : (o n : Open) (later : Blocks) (b : ℕ) → n ≡ o → later ≡ cache_made o.slots b o.cache → CacheKept o n later
untouched o n later b same is = record {
  slots = ap (λ (x : Open). x.slots) same;
  txns = ap (λ (x : Open). x.txns) same;
  entries = ap (λ (x : Open). entries_in x.cache) same ∙ made_entries o.slots b o.cache ∙ sym (ap (λ (x : Blocks). x.entries) is);
}

pub cache_kept : (o n : Open) (later : Blocks) (view : List Writes) (t : PublishTask) → KeepsCache t o later n → later ≡ cache_after view t (cache_for o t) → CacheKept o n later
cache_kept o n later view (task.Create x) keeps is = untouched o n later 1 keeps is
cache_kept o n later view (task.Copy id s) keeps is = untouched o n later 1 keeps is
cache_kept o n later view (task.Upload id s) keeps is =
    record { slots = ap (λ (x : Open). x.slots) keeps; txns = ap (λ (x : Open). x.txns) keeps; entries = ap (λ (x : Open). entries_in x.cache) keeps }
cache_kept o n later view (task.Cleanup id s) keeps is = untouched o n later 1 keeps is

asked_block : (b : Bool) (es : List cache.Entry) (c : Blocks) → (cond b (record c { entries = es }) c).block ≡ c.block
asked_block true es c = refl
asked_block false es c = refl

after_block : (l : Option Latest) (view : List Writes) (s : upload.State) (c : Blocks) → (uploading.cache_after l view s c).block ≡ c.block
after_block None view s c = refl
after_block (Some l) view s c =
    asked_block (uploading.asks_cache s.base view (upload.next_block s) s.fetched) (found_first (upload.base_id s.base (upload.next_block s)) c.entries) c

made_block : (slots b : ℕ) (x : Option Blocks) → IfSome x (λ (c : Blocks). c.block ≡ b) → (cache_made slots b x).block ≡ b
made_block slots b None is = refl
made_block slots b (Some c) is = is

-- the cache of an upload has blocks of the size that was seen
upload_size : (size : Option ℕ) (d : Catalog) (o : Open) (later : Blocks) (view : List Writes) (s : upload.State) → size ≡ Some s.base.block
    → later ≡ uploading.cache_after s.publish.latest view s (cache_made o.slots s.base.block o.cache) → HasSize size d o.cache → HasSize size d (Some later)
upload_size size d o later view s seen is has =
    let b : ℕ = s.base.block in
    let there : HasSize (Some b) d o.cache = subst (λ (x : Option ℕ). HasSize x d o.cache) seen has in
    let block : later.block ≡ b =
    ap (λ (x : Blocks). x.block) is ∙ after_block s.publish.latest view s (cache_made o.slots b o.cache) ∙ made_block o.slots b o.cache there.2
    in
    subst (λ (x : Option ℕ). HasSize x d (Some later)) (sym seen) (there.0, there.1, block)

cache_size : (seen : Seen) (c d : Catalog) (set taken : ℕ) (o n : Open) (later : Blocks) (view : List Writes) (t : PublishTask) → ViewInForm seen c set taken t → KeepsCache t o later n
    → later ≡ cache_after view t (cache_for o t) → HasSize seen.block d o.cache → HasSize seen.block d n.cache
cache_size seen c d set taken o n later view (task.Create x) form keeps is has = subst (λ (y : Open). HasSize seen.block d y.cache) (sym keeps) has
cache_size seen c d set taken o n later view (task.Copy id s) form keeps is has = subst (λ (y : Open). HasSize seen.block d y.cache) (sym keeps) has
cache_size seen c d set taken o n later view (task.Upload id s) form keeps is has =
    subst (λ (y : Open). HasSize seen.block d y.cache) (sym keeps) (upload_size seen.block d o later view s form.size is has)
cache_size seen c d set taken o n later view (task.Cleanup id s) form keeps is has = subst (λ (y : Open). HasSize seen.block d y.cache) (sym keeps) has

-- ---- the whole

-- over another cache of the size
with_cache_of : (seen : Seen) (c : Catalog) (o n : Open) (ss : List (Slot Job)) → n.txns ≡ o.txns → HasSize seen.block c n.cache → IsInForm seen c o ss → IsInForm seen c n ss
with_cache_of seen c o n ss same size form = record {
  size = size;
  txns = subst (λ (ts : List OpenTxn). AllByRecursion (ReadsSet c.sets) ts) (sym same) form.txns;
  tasks_are = record {
    few = form.tasks_are.few;
    differ = form.tasks_are.differ;
    single = form.tasks_are.single;
    each = jobs_alike seen c o n (ap (map unheld) same) ss form.tasks_are.each;
  };
}

module _ {D : Type 0} {g : _} (told : DiskTold) (shown : D → DiskShown) (answers : RuleAnswers) (store : StoreTold) (before after : StoreShown) (names later_names : NamesShown)
    (clock later_clock : ClockShown) (old new : Client D g) (set taken : ℕ) (t : PublishTask) (r : Reply) (u : PublishTask) (only : OnlyPublishes old new) (sees : new.seen ≡ old.seen) where
  -- a task that goes on
  stays : (works : WorksOver told shown answers store before after names later_names clock later_clock old new set t r u) → PublishInForm old.seen old.ledger.databases set taken t → is_ready t ≡ false
      → (x : Reply) → IsReplyTo x works.step.made → LeavesTask t x u → LeavesLedger old.ledger new.ledger t x → StaysInForm new set taken x u
  stays works form not_ready (reply.Working left) is went ledger =
      subst (λ (s : Seen). PublishInForm s new.ledger.databases set taken u) (sym sees)
      (subst (λ (l : Ledger D g). PublishInForm old.seen l.databases set taken u) (sym ledger)
      (goes_on_in_form answers old.seen (view_at old.ledger.databases set t) (cache_for old.txns t) old.ledger.databases set taken t u not_ready
      (subst (λ (w : Work). WorkLeaves answers old.seen (view_at old.ledger.databases set t) (cache_for old.txns t) t w u) is works.step.leaves) went.0 went.2 form))
  stays works form not_ready _ is went ledger = tt

  pub work_goes_on : PublishInForm old.seen old.ledger.databases set taken t → is_ready t ≡ false
      → ClientWorks told shown answers store before after names later_names clock later_clock old new set t r u → StaysInForm new set taken r u
  work_goes_on form not_ready (inl works) = stays works form not_ready r works.step.is_reply works.step.task works.step.ledger
  work_goes_on form not_ready (inr nothing) = subst (λ (x : Reply). StaysInForm new set taken x u) (sym nothing.memory) tt

  -- the client
  pub work_keeps_form : PublishInForm old.seen old.ledger.databases set taken t → list_any (λ (s : Slot Job). is_busy s.item) old.tasks.items ≡ false
      → ClientWorks told shown answers store before after names later_names clock later_clock old new set t r u → InForm old → InForm new
  work_keeps_form publishes quiet (inl works) form =
      let size : HasSize old.seen.block new.ledger.databases old.txns.cache = size_then old.ledger new.ledger t old.seen.block old.txns.cache form.size r works.step.ledger in
      let there : IsInForm old.seen new.ledger.databases old.txns old.tasks.items =
      quiet_stays old.seen old.ledger.databases new.ledger.databases old.txns old.tasks.items form quiet
      (keeps_txns old.ledger.databases.sets new.ledger.databases.sets works.step.views old.txns.txns) size
      in
      let here : IsInForm old.seen new.ledger.databases new.txns old.tasks.items =
      with_cache_of old.seen new.ledger.databases old.txns new.txns old.tasks.items only.opened
      (cache_size old.seen old.ledger.databases new.ledger.databases set taken old.txns new.txns works.later (view_at old.ledger.databases set t) t publishes.view works.keeps works.step.cache size) there
      in
      in_form here
    where
      in_form : IsInForm old.seen new.ledger.databases new.txns old.tasks.items → InForm new
      in_form here =
          subst (λ (s : Seen). IsInForm s new.ledger.databases new.txns new.tasks.items) (sym sees)
          (subst (λ (ss : Vec (Slot Job)). IsInForm old.seen new.ledger.databases new.txns ss.items) (sym only.tasks) here)
  work_keeps_form publishes quiet (inr nothing) form =
      subst (λ (s : Seen). IsInForm s new.ledger.databases new.txns new.tasks.items) (sym sees)
      (subst (λ (l : Ledger D g). IsInForm old.seen l.databases new.txns new.tasks.items) (sym nothing.ledger)
      (subst (λ (o : Open). IsInForm old.seen old.ledger.databases o new.tasks.items) (sym nothing.txns)
      (subst (λ (ss : Vec (Slot Job)). IsInForm old.seen old.ledger.databases old.txns ss.items) (sym only.tasks) form)))
