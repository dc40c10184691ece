-- A client fits the log with what it appended itself.
use Rattle.std.proofs.Common.{◌≡◌, ◌∙◌, ◌+◌, ℕ, Bool, true, false, List, [], ◌∷◌, ◌++◌, Option, Some, None, Ok, IfSome, inl, inr, refl, sym, ap, subst}
use Rattle.std.specs.List.{AllByRecursion, list_all, list_any}
use Rattle.std.proofs.lemmas.Bool.{or_parts}
use Rattle.bcv_base.specs.declared.id.Id16.{Id16}
use Rattle.bcv_base.specs.declared.log.Entry.{Entry}
use Rattle.bcv_base.specs.declared.log.Entry.TheVariants as entry
use Rattle.bcv_base.specs.declared.manifest.DbEntry.{DbEntry}
use Rattle.bcv_base.specs.declared.manifest.Manifest.{Manifest}
use Rattle.bcv_base.specs.declared.object.ObjName.TheVariants as object
use Rattle.bcv_base.specs.declared.outcome.Outcome.{Outcome}
use Rattle.bcv_base.specs.declared.outcome.Outcome.TheVariants as outcome
use Rattle.bcv_base.specs.declared.seen.Latest.{Latest}
use Rattle.bcv_base.specs.declared.seen.Seen.{Seen}
use Rattle.bcv_base.specs.History.{Item, BlockPut, BlockDeleted, Published, as_read, first_put, history_after, history_of}
use Rattle.bcv_base.specs.HistoryLaws.{history_after-append, history_of-more}
use Rattle.bcv_base.specs.Ids.{IsId, has_id}
use Rattle.bcv_base.specs.Keyed.{keyed}
use Rattle.bcv_base.specs.ManifestGrammar.{manifest_of}
use Rattle.bcv_base.specs.ManifestRules.{db_name}
use Rattle.bcv_base.specs.Views.{is_commit, touched_blocks, view_size}
use Rattle.bcv_base.specs.declared.seen.TxnBase.{TxnBase}
use Rattle.bcv_cache.specs.Entry as cache
use Rattle.bcv_cleanup.specs.CleanupPut as sweeping
use Rattle.bcv_cleanup.specs.CleanupWork as cleaning
use Rattle.bcv_cleanup.specs.State as cleanup
use Rattle.bcv_dbcopy.specs.State as copy
use Rattle.bcv_dbcopy.specs.TaskPut as copies
use Rattle.bcv_dbcopy.specs.TaskWork as copying
use Rattle.bcv_dbmap.specs.declared.plan.EditPlan.{EditPlan}
use Rattle.bcv_dbmap.specs.declared.plan.EditPlan.TheVariants as edit
use Rattle.bcv_dbmap.specs.Applied.{applied, dbs_after, first_manifest}
use Rattle.bcv_dbmap.specs.Kept.{IsKept}
use Rattle.bcv_dbmap.specs.Past.{has_version, last_own}
use Rattle.bcv_dbmap.proofs.Keys.{keyed_at}
use Rattle.bcv_dbmap.proofs.ManifestLaws.{applied_is_last_own, first_is_last_own}
use Rattle.bcv_model.specs.declared.kept.Kept.{Kept}
use Rattle.bcv_model.specs.declared.kept.PendingPub.{PendingPub}
use Rattle.bcv_model.specs.declared.kept.Uploading as concrete
use Rattle.bcv_publish.specs.declared.work.BlockEnd.{BlockEnd}
use Rattle.bcv_publish.specs.declared.work.BlockEnd.TheVariants as end
use Rattle.bcv_publish.specs.declared.work.PutEnd.TheVariants as put
use Rattle.bcv_publish.specs.declared.work.Work.{Work}
use Rattle.bcv_publish.specs.declared.work.Work.TheVariants as work
use Rattle.bcv_publish.specs.BlockPut.{BlockFails, BlockLost, SoundBlockEnds, block_work}
use Rattle.bcv_publish.specs.ManifestPut.{refused_once}
use Rattle.bcv_publish.specs.State as publish
use Rattle.bcv_upload.specs.BlockText.{IsViewOf, per_block}
use Rattle.bcv_upload.specs.State as upload
use Rattle.bcv_upload.specs.UploadPut as putting
use Rattle.bcv_upload.specs.UploadWork as uploading
use Rattle.bcv_clientstate.specs.BaseLaws.{FitsLocal}
use Rattle.bcv_clientstate.specs.Fits.{Fits, FitsEntry, FitsJob, FitsKnown, FitsPending, FitsPublish, FitsTask, FitsTxn, TakesFrom}
use Rattle.bcv_clientstate.specs.PartRefusals.{is_publishing, runs_publication}
use Rattle.bcv_clientstate.specs.Parts.{Job, Fetching, Polling, Creating, Copying, Uploading, Cleaning, Resolving, Task, Parts, mine_of}
use Rattle.bcv_clientstate.specs.SeenContainer.{HasBase}
use Rattle.bcv_clientstate.proofs.Bases.{stays}
use Rattle.bcv_clientstate.proofs.Growth.{all_kept, some_kept}
use Rattle.bcv_clientlaws.proofs.OtherParts.{task_fits_last}
use Rattle.bcv_clientlaws.proofs.Appended.{entry_later, known_later, latest_later, local_later, seen_later, txn_later}
use Rattle.bcv_clientlaws.specs.OwnEntries.{AreOfBlocks, BlocksLeaveFits, CleanupAppends, CleanupDeletes, CleanupFits, CleanupIsRefused, CleanupReadsOn, CopyAppends, CopyFits, CopyIsRefused, CopyWorks, CreateFits, GoesOnAs, IsIntended, IsOwnWork, IsSameUpload, PublicationFits, TaskGoesOnFits, UploadAppends, UploadFits, UploadIsRefused, UploadWorks}

-- ---- whatever is appended

-- a task that does not publish asks for nothing
quiet_job : (mine more : List Id16) (writer : Id16) (k : Kept) (log after : List Entry) (j : Job) → is_publishing j ≡ false → FitsJob mine writer k log j → FitsJob more writer k after j
quiet_job mine more writer k log after (Fetching access txn page) quiet fits = tt
quiet_job mine more writer k log after Polling quiet fits = tt
quiet_job mine more writer k log after (Creating block retention id) quiet fits = absurd (let both : true ≡ false = quiet in cc)
quiet_job mine more writer k log after (Copying s) quiet fits = absurd (let both : true ≡ false = quiet in cc)
quiet_job mine more writer k log after (Uploading s view) quiet fits = absurd (let both : true ≡ false = quiet in cc)
quiet_job mine more writer k log after (Cleaning s) quiet fits = absurd (let both : true ≡ false = quiet in cc)
quiet_job mine more writer k log after Resolving quiet fits = tt

quiet_tasks : (mine : List Id16) (writer : Id16) (k : Kept) (log after : List Entry) (ts : List Task) → list_any (λ (t : Task). is_publishing t.job) ts ≡ false
    → AllByRecursion (FitsTask mine writer k log) ts → AllByRecursion (FitsTask mine writer k after) ts
quiet_tasks mine writer k log after [] quiet fits = tt
quiet_tasks mine writer k log after (t ∷ ts) quiet fits =
    let q = or_parts (is_publishing t.job) (list_any (λ (x : Task). is_publishing x.job) ts) quiet in
    (quiet_job mine mine writer k log after t.job q.0 fits.0, quiet_tasks mine writer k log after ts q.1 fits.1)

-- where what is pending fits afterwards, so does everything
appended : (log own : List Entry) (p : Parts) (entries : List cache.Entry) → Fits p entries log → runs_publication p ≡ false
    → IfSome p.kept.pending (FitsPending (history_of (log ++ own)) p.id) → Fits p entries (log ++ own)
appended log own p entries fits quiet pending =
    record {
      named = fits.named;
      is_id = fits.is_id;
      ordered = fits.ordered;
      locals = all_kept (FitsLocal (history_of log)) (FitsLocal (history_of (log ++ own))) (local_later log own) p.kept.locals fits.locals;
      known_order = fits.known_order;
      known_apart = fits.known_apart;
      known = all_kept (FitsKnown (history_of log)) (FitsKnown (history_of (log ++ own))) (known_later log own) p.known fits.known;
      pending = pending;
      latest = some_kept (IsKept log) (IsKept (log ++ own)) (latest_later log own) p.latest fits.latest;
      seen = seen_later log own p.seen fits.seen;
      txns = all_kept (FitsTxn (history_of log)) (FitsTxn (history_of (log ++ own))) (txn_later log own) p.txns fits.txns;
      tasks = quiet_tasks (mine_of p) p.id p.kept log (log ++ own) p.tasks quiet fits.tasks;
      staged = fits.staged;
      cached = all_kept (FitsEntry (history_of log)) (FitsEntry (history_of (log ++ own))) (entry_later log own) entries fits.cached;
    }

-- ---- blocks

-- they change no version and no writer
pub record SameVersions (past later : List Item) : Type 0 where
  pub version : (i : Id16) → has_version later i ≡ has_version past i
  pub own : (i : Id16) → last_own later i ≡ last_own past i

same_after : (past : List Item) (own : List Entry) → AreOfBlocks own → SameVersions past (history_after past own)
same_after past [] are = record { version = λ i. refl; own = λ i. refl }
same_after past (entry.Put mine object.Manifest bytes etag ∷ es) are = absurd are.0
same_after past (entry.Put mine (object.Block i) bytes etag ∷ es) are =
    let rest = same_after (BlockPut i bytes ∷ past) es are.1 in record { version = λ j. rest.version j; own = λ j. rest.own j }
same_after past (entry.Deleted mine object.Manifest at ∷ es) are = absurd are.0
same_after past (entry.Deleted mine (object.Block i) at ∷ es) are =
    let rest = same_after (BlockDeleted i at ∷ past) es are.1 in record { version = λ j. rest.version j; own = λ j. rest.own j }

pub same_versions : (log own : List Entry) → AreOfBlocks own → SameVersions (history_of log) (history_of (log ++ own))
same_versions log own are = subst (SameVersions (history_of log)) (sym (history_after-append [] log own)) (same_after (history_of log) own are)

still_pending : (log own : List Entry) (writer : Id16) → AreOfBlocks own → (x : PendingPub) → FitsPending (history_of log) writer x → FitsPending (history_of (log ++ own)) writer x
still_pending log own writer are x (inl fresh) = inl ((same_versions log own are).version x.id ∙ fresh)
still_pending log own writer are x (inr made) =
    inr (record {
      number = made.number;
      last = (same_versions log own are).own writer ∙ made.last;
      entry = some_kept (λ u. HasBase (history_of log) made.number u.block u.entry) (λ u. HasBase (history_of (log ++ own)) made.number u.block u.entry) (λ u has. stays log own made.number u.block u.entry has) x.upload made.entry;
    })

pub blocks_leave_fits : BlocksLeaveFits
blocks_leave_fits log own p entries fits quiet are =
    appended log own p entries fits quiet
    (some_kept (FitsPending (history_of log) p.id) (FitsPending (history_of (log ++ own)) p.id) (still_pending log own p.id are) p.kept.pending fits.pending)

pub task_goes_on_fits : TaskGoesOnFits
task_goes_on_fits mine log own p entries t fits quiet are one staged =
    task_fits_last mine (log ++ own) p entries t (blocks_leave_fits log own p entries fits quiet are) one staged

-- ---- publications

-- the history behind one manifest more
published_is : (log own : List Entry) (m : Manifest) (etag : ℕ) (bytes : List ℕ) → own ≡ entry.Put true object.Manifest bytes etag ∷ [] → manifest_of bytes ≡ Ok m
    → history_of (log ++ own) ≡ Published m ∷ history_of log
published_is log own m etag bytes is reads =
    ap (λ (es : List Entry). history_of (log ++ es)) is ∙ history_of-more log (entry.Put true object.Manifest bytes etag) ∙ ap (λ r. as_read r ∷ history_of log) reads

made_entry_is : (past : List Item) (old : Manifest) (plan : EditPlan) (id writer : Id16) (moment : ℕ) (o : Option concrete.Uploading) → IsIntended id old.block plan o
    → IfSome o (λ u. HasBase (Published (applied old plan id writer moment) ∷ past) (old.number + 1) u.block u.entry)
made_entry_is past old plan id writer moment None is = tt
made_entry_is past old (edit.Upload from e) id writer moment (Some u) is =
    let made : DbEntry = record e { tag = id } in
    record {
      manifest = applied old (edit.Upload from e) id writer moment;
      published = inl refl;
      number_is = refl;
      block_is = sym is.1;
      listed = ap (λ (d : DbEntry). keyed db_name d.name (dbs_after (edit.Upload from e) id old.dbs)) is.0 ∙ keyed_at db_name made old.dbs ∙ ap (λ (d : DbEntry). Some d) (sym is.0);
    }
made_entry_is past old (edit.New e) id writer moment (Some u) is = absurd is
made_entry_is past old (edit.Copy from to) id writer moment (Some u) is = absurd is
made_entry_is past old (edit.Remove name) id writer moment (Some u) is = absurd is
made_entry_is past old (edit.Sweep ids) id writer moment (Some u) is = absurd is

pub publication_fits : PublicationFits
publication_fits log own p entries x old plan moment etag fits quiet is intended put =
    let m : Manifest = applied old plan x.id p.id moment in
    let made : FitsPending (Published m ∷ history_of log) p.id x = inr (record {
      number = old.number + 1;
      last = applied_is_last_own (history_of log) old plan x.id p.id moment;
      entry = made_entry_is (history_of log) old plan x.id p.id moment x.upload intended;
    }) in
    appended log own p entries fits quiet
    (subst (λ (o : Option PendingPub). IfSome o (FitsPending (history_of (log ++ own)) p.id)) (sym is)
    (subst (λ (past : List Item). FitsPending past p.id x) (sym (published_is log own m etag put.0 put.1 put.2)) made))

none_uploaded : (past : List Item) (number : ℕ) (o : Option concrete.Uploading) → o ≡ None → IfSome o (λ u. HasBase past number u.block u.entry)
none_uploaded past number o is = subst (λ (x : Option concrete.Uploading). IfSome x (λ u. HasBase past number u.block u.entry)) (sym is) tt

pub create_fits : CreateFits
create_fits log own p entries x block retention moment etag fits quiet is alone put =
    let m : Manifest = first_manifest block retention x.id p.id moment in
    let made : FitsPending (Published m ∷ history_of log) p.id x = inr (record {
      number = 1;
      last = first_is_last_own (history_of log) block retention x.id p.id moment;
      entry = none_uploaded (Published m ∷ history_of log) 1 x.upload alone;
    }) in
    appended log own p entries fits quiet
    (subst (λ (o : Option PendingPub). IfSome o (FitsPending (history_of (log ++ own)) p.id)) (sym is)
    (subst (λ (past : List Item). FitsPending past p.id x) (sym (published_is log own m etag put.0 put.1 put.2)) made))

-- ---- a task's work

publish_goes_on : (mine : List Id16) (writer : Id16) (log own : List Entry) (p q : publish.State) → AreOfBlocks own → FitsPublish mine writer log p → GoesOnAs (log ++ own) p q
    → FitsPublish mine writer (log ++ own) q
publish_goes_on mine writer log own p q are fits on =
    let base : (i : Id16) → p.id ≡ i → FitsPublish mine writer (log ++ own) (record q { id = i; writer = p.writer }) =
    λ i e. record {
      same_writer = fits.same_writer;
      writer_is_mine = fits.writer_is_mine;
      is_id = subst IsId e fits.is_id;
      is_mine = subst (λ (j : Id16). has_id j mine ≡ true) e fits.is_mine;
      fresh = (same_versions log own are).version i ∙ subst (λ (j : Id16). has_version (history_of log) j ≡ false) e fits.fresh;
      read = on.read;
    } in
    subst (λ (w : Id16). FitsPublish mine writer (log ++ own) (record q { writer = w })) (sym on.writer) (base q.id (sym on.id))

pub copy_fits : CopyFits
copy_fits mine writer k log own s t fits are runs on owns = (runs, publish_goes_on mine writer log own s.publish t.publish are fits.1 on, owns)

pub upload_fits : UploadFits
upload_fits mine writer k log own s t view fits are runs on base size touched owns = (
  runs,
  publish_goes_on mine writer log own s.publish t.publish are fits.1 on,
  owns,
  record {
    size_is = size ∙ fits.3.size_is ∙ ap (λ (b : TxnBase). view_size b.entry.pages view) (sym base);
    touched_are = touched ∙ fits.3.touched_are ∙ ap (λ (b : TxnBase). touched_blocks (per_block b) b.entry.pages view) (sym base);
  },
  subst (λ (b : TxnBase). list_all (is_commit b.entry.page_size) view ≡ true) (sym base) fits.4,
  subst (λ (b : TxnBase). HasBase (history_of (log ++ own)) b.number b.block b.entry) (sym base) (stays log own s.base.number s.base.block s.base.entry fits.5),
  subst (λ (b : TxnBase). TakesFrom k b.entry.name b.number view) (sym base) fits.6,
)

pub cleanup_fits : CleanupFits
cleanup_fits mine writer k log own s t fits are runs on taken = (runs, publish_goes_on mine writer log own s.publish t.publish are fits.1 on, taken)

-- ---- what a step's records say

goes_on_with : (after : List Entry) (p : publish.State) (l : Latest) (q : publish.State) → q ≡ publish.with_latest p l → IsKept after l → GoesOnAs after p q
goes_on_with after p l q is kept =
    subst (GoesOnAs after p) (sym is) (record { writer = refl; id = refl; read = kept })

-- nothing of the publication has changed
goes_on_same : (after : List Entry) (p q : publish.State) → q ≡ p → IfSome p.latest (IsKept after) → GoesOnAs after p q
goes_on_same after p q is kept = subst (GoesOnAs after p) (sym is) (record { writer = refl; id = refl; read = kept })

one_put : (own : List Entry) (i : Id16) (bytes : List ℕ) (etag : ℕ) → own ≡ entry.Put true (object.Block i) bytes etag ∷ [] → AreOfBlocks own
one_put own i bytes etag is = subst AreOfBlocks (sym is) (tt, tt)

pub none_put : (own : List Entry) → own ≡ [] → AreOfBlocks own
none_put own is = subst AreOfBlocks (sym is) tt

copy_by : (o : Outcome) (before after own : List Entry) (ids : List Id16) (seen : Seen) (s t : copy.State) (l : Option Latest) → IfSome s.publish.latest (IsKept after)
    → copying.WorkLeaves l seen s work.More t → copying.SoundWorkEnds o before after own ids l seen s work.More t → IsOwnWork own after s.publish t.publish
copy_by o before after own ids seen s t None kept leaves ends =
    record { blocks = none_put own ends.0; goes_on = goes_on_with after s.publish ends.1.0 t.publish ends.1.5.1 ends.1.3 }
copy_by o before after own ids seen s t (Some l) kept leaves ends =
    record { blocks = one_put own ends.0 _ ends.4.0 ends.4.1; goes_on = goes_on_same after s.publish t.publish (ap (λ (x : copy.State). x.publish) leaves.1) kept }

pub copy_works : CopyWorks
copy_works o before after own ids seen s t kept leaves ends = copy_by o before after own ids seen s t s.publish.latest kept leaves ends

-- the put of a block that goes on is a block
put_ended : (o : Outcome) (past : List Item) (own : List Entry) (ids : List Id16) (text : List ℕ) (end : BlockEnd) → work.More ≡ block_work end → SoundBlockEnds o past own ids text end → AreOfBlocks own
put_ended o past own ids text end.Stored is ends = one_put own ends.0 text ends.4.0 ends.4.1
put_ended o past own ids text end.NameTaken is ends = absurd (let e : work.More ≡ work.NameTaken = is in cc)
put_ended o past own ids text end.StoreFault is ends = absurd (let e : work.More ≡ work.StoreFault = is in cc)
put_ended o past own ids text end.NamesFault is ends = absurd (let e : work.More ≡ work.NamesFault = is in cc)
put_ended o past own ids text end.NoMemory is ends = absurd (let e : work.More ≡ work.NoMemory = is in cc)

upload_by : (o : Outcome) (before after own : List Entry) (ids : List Id16) (fetch : Bool) (seen : Seen) (text : List ℕ) (s t : upload.State) (l : Option Latest)
    → IfSome s.publish.latest (IsKept after) → uploading.WorkLeaves l fetch seen s work.More t → uploading.SoundWorkEnds o before after own ids l fetch seen text s work.More t
    → IsOwnWork own after s.publish t.publish × IsSameUpload s t
upload_by o before after own ids fetch seen text s t None kept leaves ends = (
  record { blocks = none_put own ends.0; goes_on = goes_on_with after s.publish ends.1.0 t.publish ends.1.5.1 ends.1.3 },
  record {
    base = ap (λ (x : upload.State). x.base) leaves.2;
    size = ap (λ (x : upload.State). x.size) leaves.2;
    touched = ap (λ (x : upload.State). x.touched) leaves.2;
  },
)
upload_by o before after own ids true seen text s t (Some l) kept leaves ends = (
  record { blocks = none_put own ends.0; goes_on = goes_on_same after s.publish t.publish (ap (λ (x : upload.State). x.publish) leaves.3) kept },
  record {
    base = ap (λ (x : upload.State). x.base) leaves.3;
    size = ap (λ (x : upload.State). x.size) leaves.3;
    touched = ap (λ (x : upload.State). x.touched) leaves.3;
  },
)
upload_by o before after own ids false seen text s t (Some l) kept leaves ends = (
  record { blocks = put_ended o (history_of before) own ids text ends.0 ends.1 ends.2; goes_on = goes_on_same after s.publish t.publish (ap (λ (x : upload.State). x.publish) leaves.1) kept },
  record {
    base = ap (λ (x : upload.State). x.base) leaves.1;
    size = ap (λ (x : upload.State). x.size) leaves.1;
    touched = ap (λ (x : upload.State). x.touched) leaves.1;
  },
)

pub upload_works : UploadWorks
upload_works o before after own ids fetch seen text s t kept leaves ends = upload_by o before after own ids fetch seen text s t s.publish.latest kept leaves ends

pub cleanup_reads_on : CleanupReadsOn
cleanup_reads_on o after seen s t ends = goes_on_with after s.publish ends.0 t.publish ends.5.1 ends.3

pub cleanup_deletes : CleanupDeletes
cleanup_deletes o after own i at s t kept leaves ends =
    record { blocks = subst AreOfBlocks (sym ends.1) (tt, tt); goes_on = goes_on_same after s.publish t.publish (ap (λ (x : cleanup.State). x.publish) leaves) kept }

-- ---- what a step appends, whatever it answers

lost_put : (first : Option (List ℕ)) (own : List Entry) (i : Id16) (bytes : List ℕ) → BlockLost first own i bytes → AreOfBlocks own
lost_put None own i bytes is = one_put own i bytes is.0 is.1
lost_put (Some earlier) own i bytes is = none_put own is

failed_put : (o : Outcome) (first : Option (List ℕ)) (own : List Entry) (i : Id16) (bytes : List ℕ) → BlockFails o first own i bytes → AreOfBlocks own
failed_put outcome.Ok first own i bytes is = absurd is
failed_put outcome.Fail first own i bytes is = none_put own is
failed_put outcome.Lost first own i bytes is = lost_put first own i bytes is

any_put : (o : Outcome) (past : List Item) (own : List Entry) (ids : List Id16) (bytes : List ℕ) (end : BlockEnd) → SoundBlockEnds o past own ids bytes end → AreOfBlocks own
any_put o past own ids bytes end.Stored ends = one_put own ends.0 bytes ends.4.0 ends.4.1
any_put o past own ids bytes end.NameTaken ends = none_put own ends.4
any_put o past own ids bytes end.StoreFault ends = failed_put o (first_put past ends.0) own ends.0 bytes ends.2
any_put o past own ids bytes end.NamesFault ends = none_put own ends.1
any_put o past own ids bytes end.NoMemory ends = none_put own ends

copied : (o : Outcome) (past : List Item) (own : List Entry) (ids : List Id16) (bytes : List ℕ) (result : Work) → copying.SoundBlockWork o past own ids bytes result → AreOfBlocks own
copied o past own ids bytes work.More ends = any_put o past own ids bytes end.Stored ends
copied o past own ids bytes work.NameTaken ends = any_put o past own ids bytes end.NameTaken ends
copied o past own ids bytes work.StoreFault ends = any_put o past own ids bytes end.StoreFault ends
copied o past own ids bytes work.NamesFault ends = any_put o past own ids bytes end.NamesFault ends
copied o past own ids bytes work.NoMemory ends = any_put o past own ids bytes end.NoMemory ends
copied o past own ids bytes _ ends = absurd ends

copy_appended : (o : Outcome) (before after own : List Entry) (ids : List Id16) (seen : Seen) (s t : copy.State) (result : Work) (l : Option Latest)
    → copying.SoundWorkEnds o before after own ids l seen s result t → AreOfBlocks own
copy_appended o before after own ids seen s t result None ends = none_put own ends.0
copy_appended o before after own ids seen s t result (Some l) ends = copied o (history_of before) own ids (copying.next_text l.manifest.block s s.edit) result ends

pub copy_appends : CopyAppends
copy_appends o before after own ids seen s t result ends = copy_appended o before after own ids seen s t result s.publish.latest ends

upload_appended : (o : Outcome) (before after own : List Entry) (ids : List Id16) (fetch : Bool) (seen : Seen) (text : List ℕ) (s t : upload.State) (result : Work) (l : Option Latest)
    → uploading.SoundWorkEnds o before after own ids l fetch seen text s result t → AreOfBlocks own
upload_appended o before after own ids fetch seen text s t result None ends = none_put own ends.0
upload_appended o before after own ids true seen text s t result (Some l) ends = none_put own ends.0
upload_appended o before after own ids false seen text s t result (Some l) ends = any_put o (history_of before) own ids text ends.0 ends.2

pub upload_appends : UploadAppends
upload_appends o before after own ids fetch seen text s t result ends = upload_appended o before after own ids fetch seen text s t result s.publish.latest ends

deleted : (own : List Entry) (i : Id16) (at : ℕ) → cleaning.IsDeletion own i at → AreOfBlocks own
deleted own i at is = subst AreOfBlocks (sym is) (tt, tt)

failed_deletion : (o : Outcome) (own : List Entry) (i : Id16) (at : ℕ) → cleaning.DeletionFails o own i at → AreOfBlocks own
failed_deletion outcome.Ok own i at is = absurd is
failed_deletion outcome.Fail own i at is = none_put own is
failed_deletion outcome.Lost own i at is = deleted own i at is

any_deletion : (o : Outcome) (own : List Entry) (i : Id16) (at : ℕ) (result : Work) → cleaning.SoundDeleteEnds o own i at result → AreOfBlocks own
any_deletion o own i at work.More ends = deleted own i at ends.1
any_deletion o own i at work.StoreFault ends = failed_deletion o own i at ends
any_deletion o own i at work.NoMemory ends = none_put own ends
any_deletion o own i at _ ends = absurd ends

cleanup_appended : (o : Outcome) (after own : List Entry) (seen : Seen) (s t : cleanup.State) (result : Work) (l : Option Latest) → cleaning.SoundWorkEnds o after own l seen s result t → AreOfBlocks own
cleanup_appended o after own seen s t result None ends = none_put own ends.0
cleanup_appended o after own seen s t result (Some l) ends = any_deletion o own ends.0 ends.1 result ends.3

pub cleanup_appends : CleanupAppends
cleanup_appends o after own seen s t result ends = cleanup_appended o after own seen s t result s.publish.latest ends

-- ---- a put that is refused

pub refused_fits : (mine : List Id16) (writer : Id16) (log : List Entry) (p q : publish.State) (read : Latest) → FitsPublish mine writer log p → q ≡ refused_once p read → FitsPublish mine writer log q
refused_fits mine writer log p q read fits is =
    subst (FitsPublish mine writer log) (sym is)
    (record { same_writer = fits.same_writer; writer_is_mine = fits.writer_is_mine; is_id = fits.is_id; is_mine = fits.is_mine; fresh = fits.fresh; read = tt })

pub copy_is_refused : CopyIsRefused
copy_is_refused mine writer k log moment s t read fits leaves runs =
    let is : t ≡ copies.behind_put s leaves.0 put.Refused = leaves.2 in (
      runs,
      subst (FitsPublish mine writer log) (sym (ap (λ (x : copy.State). x.publish) is)) (refused_fits mine writer log s.publish leaves.0 read fits.1 leaves.1.1),
      subst (copying.OwnsBlocks mine log) (sym is) fits.2,
    )

pub upload_is_refused : UploadIsRefused
upload_is_refused mine writer k log moment s t view read fits leaves runs =
    let is : t ≡ putting.behind_put s leaves.0 put.Refused = leaves.2 in (
      runs,
      subst (FitsPublish mine writer log) (sym (ap (λ (x : upload.State). x.publish) is)) (refused_fits mine writer log s.publish leaves.0 read fits.1 leaves.1.1),
      subst (uploading.OwnsBlocks mine log view) (sym is) (record { listed = fits.2.listed; blocks = fits.2.blocks; fetched = fits.2.fetched }),
      subst (λ (x : upload.State). IsViewOf x.base view x.size x.touched) (sym is) fits.3,
      subst (λ (x : upload.State). list_all (is_commit x.base.entry.page_size) view ≡ true) (sym is) fits.4,
      subst (λ (x : upload.State). HasBase (history_of log) x.base.number x.base.block x.base.entry) (sym is) fits.5,
      subst (λ (x : upload.State). TakesFrom k x.base.entry.name x.base.number view) (sym is) fits.6,
    )

pub cleanup_is_refused : CleanupIsRefused
cleanup_is_refused mine writer k log moment s t read fits leaves runs =
    let is : t ≡ sweeping.behind_put s leaves.0 put.Refused = leaves.2 in (
      runs,
      subst (FitsPublish mine writer log) (sym (ap (λ (x : cleanup.State). x.publish) is)) (refused_fits mine writer log s.publish leaves.0 read fits.1 leaves.1.1),
      subst (cleaning.HasTaken log) (sym is) (record { expired = fits.2.expired; deleted = fits.2.deleted }),
    )
