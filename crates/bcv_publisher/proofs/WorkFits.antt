-- A client fits its log after a request of its publication, without the task and with it where it goes on.
use Rattle.std.proofs.Common.{◌≡◌, ◌∙◌, ℕ, Bool, true, false, cond, List, [], ◌∷◌, ◌++◌, Option, Some, None, IfSome, inl, inr, option_map, find, is_none, refl, sym, ap, subst}
use Rattle.std.proofs.lemmas.Bool.{cases_Bool, false≢true}
use Rattle.std.specs.Cmp.{first_so, second_so}
use Rattle.std.specs.List.{AllByRecursion}
use Rattle.bcv_base.specs.declared.id.Id16.{Id16}
use Rattle.bcv_base.specs.declared.log.Entry.{Entry}
use Rattle.bcv_base.specs.declared.outcome.Outcome.{Outcome}
use Rattle.bcv_base.specs.declared.seen.Latest.{Latest}
use Rattle.bcv_base.specs.declared.seen.Seen.{Seen}
use Rattle.bcv_base.specs.History.{Item, first_put, history_of}
use Rattle.bcv_base.specs.HistoryLaws.{id_eq-is}
use Rattle.bcv_base.specs.Image.{Writes}
use Rattle.bcv_cache.specs.Cache.{found_first, has_id as entry_has_id, slot_of}
use Rattle.bcv_cache.specs.Entry.{Blocks}
use Rattle.bcv_cache.specs.Entry as cache
use Rattle.bcv_cleanup.specs.CleanupWork as cleaning
use Rattle.bcv_cleanup.specs.Released.{RuleAnswers}
use Rattle.bcv_cleanup.specs.State as cleanup
use Rattle.bcv_clientlaws.specs.OwnEntries.{IsOwnWork}
use Rattle.bcv_clientlaws.proofs.Appended.{latest_later}
use Rattle.bcv_clientlaws.proofs.OtherParts.{entries_fit, kept_fits_quietly}
use Rattle.bcv_clientlaws.proofs.OwnEntries.{cleanup_deletes, cleanup_fits, cleanup_reads_on, copy_fits, none_put, copy_works, upload_fits, upload_works}
use Rattle.bcv_clientlog.specs.LogParts.{is_shut}
use Rattle.bcv_clientstate.specs.Fits.{Fits, FitsEntry, FitsJob}
use Rattle.bcv_clientstate.specs.PartRefusals.{runs_publication}
use Rattle.bcv_clientstate.specs.Parts.{Cleaning, Copying, Parts, Uploading, with_ledger}
use Rattle.bcv_clientstate.specs.Stages.{IsSwept}
use Rattle.bcv_clientstate.proofs.Growth.{some_kept}
use Rattle.bcv_clientstate.proofs.Stages.{deletion_stays_swept, reading_is_swept}
use Rattle.bcv_databases.specs.declared.known.Known.{Known}
use Rattle.bcv_dbcopy.specs.State as copy
use Rattle.bcv_dbcopy.specs.TaskWork as copying
use Rattle.bcv_dbmap.specs.Kept.{IsKept}
use Rattle.bcv_disk.specs.DiskShown.{DiskShown, DiskTold}
use Rattle.bcv_ledger.specs.declared.ledger.Ledger.{Ledger}
use Rattle.bcv_ledger.specs.LedgerNotes.{parts_in}
use Rattle.bcv_ledger.specs.NoteEnds.{kept_ended, known_ended}
use Rattle.bcv_model.specs.declared.note.Note.TheVariants as note
use Rattle.bcv_model.specs.declared.kept.Kept.{Kept}
use Rattle.bcv_model.specs.declared.kept.PendingPub.{PendingPub}
use Rattle.bcv_model.specs.declared.reply.Reply.{Reply}
use Rattle.bcv_publish.specs.declared.work.Work.{Work}
use Rattle.bcv_publish.specs.declared.work.Work.TheVariants as work
use Rattle.bcv_publish.specs.State as publish
use Rattle.bcv_snapshot.proofs.CallLaws.{all_found_first}
use Rattle.bcv_tasks.specs.declared.publish_task.PublishTask.{PublishTask}
use Rattle.bcv_tasks.specs.declared.publish_task.PublishTask.TheVariants as task
use Rattle.bcv_tasks.specs.State.{id_of}
use Rattle.bcv_tasks.specs.TaskWork.{cache_after}
use Rattle.bcv_upload.specs.BlockText.{has_base}
use Rattle.bcv_upload.specs.State as upload
use Rattle.bcv_upload.specs.UploadWork.{AreFirstPuts, cached_bytes}
use Rattle.bcv_upload.specs.UploadWork as uploading
use Rattle.bcv_publisher.specs.Settles.{Voids}
use Rattle.bcv_publisher.specs.WorkEnds.{EndsBy, EndsWork}

-- ---- what the ledger keeps

-- with another ledger that keeps the same, or the same with nothing pending
closed_fits : (b : Bool) (log : List Entry) (p : Parts) (entries : List cache.Entry) → Fits p entries log → Fits (record p { closed = b }) entries log
closed_fits b log p entries fits = record {
  named = fits.named;
  is_id = fits.is_id;
  ordered = fits.ordered;
  locals = fits.locals;
  known_order = fits.known_order;
  known_apart = fits.known_apart;
  known = fits.known;
  pending = fits.pending;
  latest = fits.latest;
  seen = fits.seen;
  txns = fits.txns;
  tasks = fits.tasks;
  staged = fits.staged;
  cached = fits.cached;
}

void_fits : (log : List Entry) (p : Parts) (entries : List cache.Entry) → Fits p entries log → runs_publication p ≡ false → Fits (record p { kept = record p.kept { pending = None } }) entries log
void_fits log p entries fits quiet =
    kept_fits_quietly log p entries (record p.kept { pending = None }) p.known fits
    (record {
      named = fits.named;
      ordered = fits.ordered;
      locals = fits.locals;
      are_known = record { order = fits.known_order; apart = fits.known_apart; fits = fits.known };
      pending = tt;
    })
    quiet

module _ {D : Type 0} {g : _} (told : DiskTold) (shown : D → DiskShown) (old new : Ledger D g) (log : List Entry) (p : Parts) (entries : List cache.Entry) (fits : Fits (with_ledger (parts_in old) p) entries log)
    (quiet : runs_publication p ≡ false) where
  abbrev next : Parts
  next = with_ledger (parts_in new) p

  same_ledger : new ≡ old → Fits next entries log
  same_ledger same = subst (λ (l : Ledger D g). Fits (with_ledger (parts_in l) p) entries log) (sym same) fits

  keeping : (b : Bool) (k : Kept) (known : List Known) → k ≡ old.databases.kept → known ≡ old.databases.known → Fits (record p { closed = b; kept = k; known = known }) entries log
  keeping b k known same_kept same_known =
      subst (λ (j : Kept). Fits (record p { closed = b; kept = j; known = known }) entries log) (sym same_kept)
      (subst (λ (ks : List Known). Fits (record p { closed = b; kept = old.databases.kept; known = ks }) entries log) (sym same_known)
      (closed_fits b log (with_ledger (parts_in old) p) entries fits))

  voiding : (b : Bool) (k : Kept) (known : List Known) → k ≡ record old.databases.kept { pending = None } → known ≡ old.databases.known → Fits (record p { closed = b; kept = k; known = known }) entries log
  voiding b k known same_kept same_known =
      subst (λ (j : Kept). Fits (record p { closed = b; kept = j; known = known }) entries log) (sym same_kept)
      (subst (λ (ks : List Known). Fits (record p { closed = b; kept = record old.databases.kept { pending = None }; known = ks }) entries log) (sym same_known)
      (closed_fits b log (record p { closed = is_shut old.log; kept = record old.databases.kept { pending = None }; known = old.databases.known }) entries (void_fits log (with_ledger (parts_in old) p) entries fits quiet)))

  by_fault : (u : PublishTask) (r result : Reply) (h : Voids told shown old new u r result) → Fits next entries log
  by_fault u r result h = at h.fault refl
    where
      at : (o : Option Reply) → h.fault ≡ o → Fits next entries log
      at None is = voiding (is_shut new.log) new.databases.kept new.databases.known (h.ends.kept ∙ ap (λ (y : Option Reply). kept_ended y old.databases.kept (note.Void (id_of u))) is) (h.ends.knows ∙ ap (λ (y : Option Reply). known_ended y old.databases.known old.databases.known) is)
      at (Some e) is = keeping (is_shut new.log) new.databases.kept new.databases.known (h.ends.kept ∙ ap (λ (y : Option Reply). kept_ended y old.databases.kept (note.Void (id_of u))) is) (h.ends.knows ∙ ap (λ (y : Option Reply). known_ended y old.databases.known old.databases.known) is)

  by_pending : (u : PublishTask) (w : Option PendingPub) (r result : Reply) → EndsBy told shown old new u w r result → Fits next entries log
  by_pending u None r result ends = same_ledger ends.0
  by_pending u (Some x) r result ends = by_fault u r result ends

  pub ledger_fits : (u : PublishTask) (made : Work) (result : Reply) → EndsWork told shown old new u made result → Fits next entries log
  ledger_fits u work.More result ends = same_ledger ends.0
  ledger_fits u work.NoMemory result ends = same_ledger ends.0
  ledger_fits u work.Nothing result ends = by_pending u old.databases.kept.pending _ result ends
  ledger_fits u (work.Fault e) result ends = by_pending u old.databases.kept.pending _ result ends
  ledger_fits u work.NoContainer result ends = by_pending u old.databases.kept.pending _ result ends
  ledger_fits u (work.BadManifest at) result ends = by_pending u old.databases.kept.pending _ result ends
  ledger_fits u work.Gone result ends = by_pending u old.databases.kept.pending _ result ends
  ledger_fits u (work.BadBlock len) result ends = by_pending u old.databases.kept.pending _ result ends
  ledger_fits u work.NameTaken result ends = by_pending u old.databases.kept.pending _ result ends
  ledger_fits u work.StoreFault result ends = by_pending u old.databases.kept.pending _ result ends
  ledger_fits u work.NamesFault result ends = by_pending u old.databases.kept.pending _ result ends
  ledger_fits u work.ClockFault result ends = by_pending u old.databases.kept.pending _ result ends

-- ---- the cache

all_found : (past : List Item) (base : _) (view : List Writes) (n : ℕ) (fetched : Option (List ℕ)) (c : Blocks) → AllByRecursion (FitsEntry past) c.entries
    → AllByRecursion (FitsEntry past) (uploading.cache_asked base view n fetched c).entries
all_found past base view n fetched c all =
    elim (uploading.asks_cache base view n fetched) as (λ (b : Bool). AllByRecursion (FitsEntry past) (cond b (record c { entries = found_first (upload.base_id base n) c.entries }) c).entries) [
      | true ↦ all_found_first (FitsEntry past) (upload.base_id base n) c.entries all
      | false ↦ all
    ]

by_read : (past : List Item) (l : Option Latest) (view : List Writes) (s : upload.State) (c : Blocks) → AllByRecursion (FitsEntry past) c.entries
    → AllByRecursion (FitsEntry past) (uploading.cache_after l view s c).entries
by_read past None view s c all = all
by_read past (Some l) view s c all = all_found past s.base view (upload.next_block s) s.fetched c all

-- what an upload finds in the cache was there
cached_still : (past : List Item) (view : List Writes) (t : PublishTask) (c : Blocks) → AllByRecursion (FitsEntry past) c.entries → AllByRecursion (FitsEntry past) (cache_after view t c).entries
cached_still past view (task.Create y) c all = all
cached_still past view (task.Copy id s) c all = all
cached_still past view (task.Upload id s) c all = by_read past s.publish.latest view s c all
cached_still past view (task.Cleanup id s) c all = all

pub cache_fits : (log : List Entry) (p : Parts) (view : List Writes) (t : PublishTask) (c later : Blocks) → Fits p c.entries log → later ≡ cache_after view t c → Fits p later.entries log
cache_fits log p view t c later fits is =
    subst (λ (b : Blocks). Fits p b.entries log) (sym is) (entries_fit log p c.entries (cache_after view t c).entries fits (cached_still (history_of log) view t c fits.cached))

-- ---- the task that goes on

-- what it read before refused puts does not change
pub record Unrefused (p q : publish.State) : Type 0 where
  pub block : q.block ≡ p.block
  pub refused : q.refused ≡ p.refused

module _ (mine : List Id16) (writer : Id16) (k : Kept) (log own : List Entry) where
  abbrev after : List Entry
  after = log ++ own

  read_later : (p : publish.State) → IfSome p.latest (IsKept log) → IfSome p.latest (IsKept after)
  read_later p read = some_kept (IsKept log) (IsKept after) (latest_later log own) p.latest read

  pub copy_goes : (o : Outcome) (before : List Entry) (ids : List Id16) (seen : Seen) (s t : copy.State) → FitsJob mine writer k log (Copying s) → copy.IsRunning t
      → copying.WorkLeaves s.publish.latest seen s work.More t → copying.SoundWorkEnds o before after own ids s.publish.latest seen s work.More t → copying.OwnsBlocks mine after t
      → FitsJob mine writer k after (Copying t)
  copy_goes o before ids seen s t fits run leaves ends owns =
      let works = copy_works o before after own ids seen s t (read_later s.publish fits.1.read) leaves ends in
      copy_fits mine writer k log own s t fits works.blocks run works.goes_on owns

  pub upload_goes : (o : Outcome) (before : List Entry) (ids : List Id16) (fetch : Bool) (seen : Seen) (text : List ℕ) (view : List Writes) (s t : upload.State) → FitsJob mine writer k log (Uploading s view) → upload.IsRunning t
      → uploading.WorkLeaves s.publish.latest fetch seen s work.More t → uploading.SoundWorkEnds o before after own ids s.publish.latest fetch seen text s work.More t → uploading.OwnsBlocks mine after view t
      → FitsJob mine writer k after (Uploading t view)
  upload_goes o before ids fetch seen text view s t fits run leaves ends owns =
      let works = upload_works o before after own ids fetch seen text s t (read_later s.publish fits.1.read) leaves ends in
      upload_fits mine writer k log own s t view fits works.0.blocks run works.0.goes_on works.1.base works.1.size works.1.touched owns

  clean_by : (o : Outcome) (seen : Seen) (answers : RuleAnswers) (l : Option Latest) (s t : cleanup.State) → s.publish.latest ≡ l → IfSome s.publish.latest (IsKept after)
      → cleaning.WorkLeaves answers l seen s work.More t → cleaning.SoundWorkEnds o after own l seen s work.More t → IsOwnWork own after s.publish t.publish
  clean_by o seen answers None s t is read leaves ends = record { blocks = none_put own ends.0; goes_on = cleanup_reads_on o after seen s t ends.1 }
  clean_by o seen answers (Some l) s t is read leaves ends = cleanup_deletes o after own ends.0 ends.1 s t read leaves ends.3

  pub clean_goes : (o : Outcome) (seen : Seen) (answers : RuleAnswers) (s t : cleanup.State) → FitsJob mine writer k log (Cleaning s) → cleanup.IsRunning t
      → cleaning.WorkLeaves answers s.publish.latest seen s work.More t → cleaning.SoundWorkEnds o after own s.publish.latest seen s work.More t → cleaning.HasTaken after t
      → FitsJob mine writer k after (Cleaning t)
  clean_goes o seen answers s t fits run leaves ends taken =
      let works = clean_by o seen answers s.publish.latest s t refl (read_later s.publish fits.1.read) leaves ends in
      cleanup_fits mine writer k log own s t fits works.blocks run works.goes_on taken

-- a cleanup that goes on is at one of its stages
clean_stage : (answers : RuleAnswers) (l : Option Latest) (seen : Seen) (s t : cleanup.State) → s.publish.latest ≡ l → cleaning.WorkLeaves answers l seen s work.More t → IsSwept t
clean_stage answers None seen s t is leaves =
    reading_is_swept s t leaves.1 leaves.4.3.read leaves.0 leaves.4.0 leaves.4.1 leaves.4.3.kept leaves.4.3.becomes
clean_stage answers (Some l) seen s t is leaves = deletion_stays_swept s t l is leaves

pub clean_staged : (answers : RuleAnswers) (seen : Seen) (s t : cleanup.State) → cleaning.WorkLeaves answers s.publish.latest seen s work.More t → IsSwept t
clean_staged answers seen s t leaves = clean_stage answers s.publish.latest seen s t refl leaves

-- ---- what an upload may rely on

first_at : (past : List Item) (i : Id16) (bytes : List ℕ) (es : List cache.Entry) → AllByRecursion (FitsEntry past) es → cached_bytes i es ≡ Some bytes → first_put past i ≡ Some bytes
first_at past i bytes [] all is = absurd (cc)
first_at past i bytes (e ∷ es) all is = elim (cases_Bool (entry_has_id i e)) [
  | inl b ↦ (let some : Some e.bytes ≡ Some bytes = sym (ap (λ (c : Bool). option_map (λ (x : cache.Entry). x.bytes) (cond c (Some e) (find (entry_has_id i) es))) b) ∙ is in
      subst (λ (j : Id16). first_put past j ≡ Some bytes) (sym (id_eq-is i e.id b)) (all.0 ∙ some))
  | inr b ↦ first_at past i bytes es all.1 (sym (ap (λ (c : Bool). option_map (λ (x : cache.Entry). x.bytes) (cond c (Some e) (find (entry_has_id i) es))) b) ∙ is)
]

pub are_first : (past : List Item) (es : List cache.Entry) → AllByRecursion (FitsEntry past) es → AreFirstPuts past es
are_first past es all i bytes is = first_at past i bytes es all is

none_is : (o : Option (List ℕ)) → is_none o ≡ true → o ≡ None
none_is None e = refl
none_is (Some x) e = absurd (false≢true e)

-- a get of old bytes is made only where none brought them
pub fetch_is_first : (view : List Writes) (c : Blocks) (s : upload.State) → uploading.is_fetch view c s ≡ true → s.fetched ≡ None
fetch_is_first view c s fetch =
    let asks : uploading.asks_cache s.base view (upload.next_block s) s.fetched ≡ true =
    first_so (uploading.asks_cache s.base view (upload.next_block s) s.fetched) (is_none (slot_of (upload.base_id s.base (upload.next_block s)) c.entries)) fetch in
    none_is s.fetched (second_so (has_base s.base view (upload.next_block s)) (is_none s.fetched) asks)
