-- An ask that starts a task is the machine's, and the client with the new task fits the log.
use Rattle.std.proofs.Common.{◌≡◌, ◌∙◌, ◌/◌, ◌||◌, ℕ, Bool, true, false, not, List, [], ◌∷◌, ◌++◌, length, map, Option, Some, None, is_some, unwrap_or, refl, sym, ap, subst, arith}
use Rattle.std.specs.Prelude.{nat_le}
use Rattle.std.specs.List.{flat_map, list_any}
use Rattle.std.specs.Option.{option_map}
use Rattle.std.proofs.lemmas.Bool.{or_from, or_parts}
use Rattle.std.proofs.lemmas.List.Folds.{list_any-append}
use Rattle.bcv_base.specs.declared.id.Id16.{Id16}
use Rattle.bcv_base.specs.declared.log.Entry.{Entry}
use Rattle.bcv_base.specs.declared.manifest.DbEntry.{DbEntry}
use Rattle.bcv_base.specs.declared.seen.TxnBase.{TxnBase}
use Rattle.bcv_base.specs.History.{Item, BlockPut, Published, Unreadable, BlockDeleted, ManifestDeleted, history_of}
use Rattle.bcv_base.specs.HistoryLaws.{has_id-first, has_id-later}
use Rattle.bcv_base.specs.Ids.{IsId, has_id, id_eq}
use Rattle.bcv_base.specs.Image.{Writes}
use Rattle.bcv_base.specs.Joined.{database_of, joined}
use Rattle.bcv_base.specs.Version.{Database, Version}
use Rattle.bcv_base.specs.Versions.{version_of, versions_of}
use Rattle.bcv_base.specs.Views.{touched_blocks}
use Rattle.bcv_cleanup.specs.State as cleanup
use Rattle.bcv_dbcopy.specs.declared.plan.CopyPlan.TheVariants as plan
use Rattle.bcv_dbcopy.specs.State as copy
use Rattle.bcv_dbmap.specs.Past.{has_version}
use Rattle.bcv_dbmap.specs.Sound.{Sound}
use Rattle.bcv_dbmap.proofs.Keys.{all_found, keyed_key}
use Rattle.bcv_machine.specs.Refusals as refusals
use Rattle.bcv_machine.specs.Refusals.{UnlessRefused, first_reason}
use Rattle.bcv_machine.specs.Starting.{Publishes, Starts, StartsAs, left_at_start, started, touched_count, upload_blocks, upload_of}
use Rattle.bcv_machine.specs.State as m
use Rattle.bcv_machine.specs.State.{with_up}
use Rattle.bcv_model.specs.declared.kept.PendingPub.{PendingPub}
use Rattle.bcv_model.specs.declared.reply.Reply.{Reply}
use Rattle.bcv_model.specs.declared.reply.Reply.TheVariants as reply
use Rattle.bcv_model.specs.Commits.{writes_of}
use Rattle.bcv_model.specs.Notes.{kept_name}
use Rattle.bcv_publish.specs.State as publish
use Rattle.bcv_slots.specs.Numbered.{least_free}
use Rattle.bcv_upload.specs.BlockText.{IsViewOf}
use Rattle.bcv_upload.specs.State as upload
use Rattle.bcv_clientstate.specs.BaseLaws.{FitsLocal}
use Rattle.bcv_clientstate.specs.Fits.{FitsJob, FitsPublish}
use Rattle.bcv_clientstate.specs.PartRefusals.{is_publishing, runs_publication}
use Rattle.bcv_clientstate.specs.Parts.{Job, Fetching, Polling, Creating, Copying, Uploading, Cleaning, Resolving, Task, Parts, names_of_job}
use Rattle.bcv_clientstate.specs.SeenClient.{Free, seen_job, seen_task, seen_up, side_of}
use Rattle.bcv_clientstate.specs.SeenContainer.{HasBase, container_of}
use Rattle.bcv_clientstate.specs.SeenKept.{seen_kept, seen_pending}
use Rattle.bcv_clientstate.specs.Stages.{IsStagedJob}
use Rattle.bcv_clientstate.specs.StartRefusals.{asked_over, kind_reasons, runs_all, start_reason}
use Rattle.bcv_clientstate.proofs.Bases.{base_block, base_database, pages_len}
use Rattle.bcv_clientstate.proofs.GoneLaws.{found_among}
use Rattle.bcv_clientstate.proofs.PartRefusals.{map_len}
use Rattle.bcv_clientstate.proofs.Stages.{new_is_staged}
use Rattle.bcv_clientstate.proofs.StartRefusals.{poll_is_refused, resolve_is_refused, start_is_refused, upload_is_over}
use Rattle.bcv_clientlaws.specs.Starts.{CleanupIsNew, CleanupStarts, CopyHasLeft, CopyIsNew, CopyStarts, CreateIsNew, CreateStarts, FetchStarts, NewCleanupFits, NewCopyFits, NewCreateFits, NewUploadFits, PollStarts, QuietTaskFits, RefusesFetch, RefusesPoll, RefusesResolve, RefusesStart, RefusesUpload, ResolveStarts, StartsAsAsked, StartsWithoutPending, UploadHasLeft, UploadIsNew, UploadStarts, kind_asked, with_new_task}
use Rattle.bcv_clientlaws.specs.TaskLists.{task_numbers}
use Rattle.bcv_clientlaws.proofs.OtherParts.{task_fits_last}
use Rattle.bcv_clientlaws.proofs.TaskLists.{free_is_free, task_comes}

-- ---- where nothing speaks against it

not_first : (b : Bool) (r : Reply) (xs : List (Bool × Reply)) → first_reason ((b, r) ∷ xs) ≡ None → b ≡ false
not_first true r xs none = absurd (let e : Some r ≡ None = none in cc)
not_first false r xs none = refl

not_later : (b : Bool) (r : Reply) (xs : List (Bool × Reply)) → first_reason ((b, r) ∷ xs) ≡ None → first_reason xs ≡ None
not_later true r xs none = absurd (let e : Some r ≡ None = none in cc)
not_later false r xs none = none

none_there : {A : Type 0} (o : Option A) → is_some o ≡ false → o ≡ None
none_there None e = refl
none_there (Some x) e = absurd (let both : true ≡ false = e in cc)

module _ (p : Parts) (kind : m.Kind) (free : start_reason p kind ≡ None) where
  abbrev last : List (Bool × Reply)
  last = kind_reasons p kind ++ (runs_all p, reply.TooMany) ∷ []

  abbrev third : List (Bool × Reply)
  third = (runs_publication p, reply.Busy) ∷ last

  abbrev second : List (Bool × Reply)
  second = (is_some p.kept.pending, reply.Pending) ∷ third

  open_then : first_reason second ≡ None
  open_then = not_later p.closed reply.Closed second free

  none_pending : p.kept.pending ≡ None
  none_pending = none_there p.kept.pending (not_first (is_some p.kept.pending) reply.Pending third open_then)

  none_runs : runs_publication p ≡ false
  none_runs = not_first (runs_publication p) reply.Busy last (not_later (is_some p.kept.pending) reply.Pending third open_then)

pub starts_without_pending : StartsWithoutPending
starts_without_pending p kind free = none_pending p kind free

-- ---- an id that was never used

no_ids_of : (waiting : Option PendingPub) (j : Job) → is_publishing j ≡ false → m.job_ids (seen_job waiting j) ≡ []
no_ids_of waiting (Fetching access txn page) quiet = refl
no_ids_of waiting Polling quiet = refl
no_ids_of waiting (Creating block retention id) quiet = absurd (let both : true ≡ false = quiet in cc)
no_ids_of waiting (Copying s) quiet = absurd (let both : true ≡ false = quiet in cc)
no_ids_of waiting (Uploading s view) quiet = absurd (let both : true ≡ false = quiet in cc)
no_ids_of waiting (Cleaning s) quiet = absurd (let both : true ≡ false = quiet in cc)
no_ids_of waiting Resolving quiet = refl

no_ids : (waiting : Option PendingPub) (ts : List Task) → list_any (λ (t : Task). is_publishing t.job) ts ≡ false
    → flat_map (λ (t : m.Task). m.job_ids t.job) (map (seen_task waiting) ts) ≡ []
no_ids waiting [] quiet = refl
no_ids waiting (t ∷ ts) quiet =
    let q = or_parts (is_publishing t.job) (list_any (λ (x : Task). is_publishing x.job) ts) quiet in
    ap (λ (is : List Id16). is ++ flat_map (λ (x : m.Task). m.job_ids x.job) (map (seen_task waiting) ts)) (no_ids_of waiting t.job q.0) ∙ no_ids waiting ts q.1

no_version : (past : List Item) (id : Id16) → has_version past id ≡ false → has_id id (map (λ (v : Version). v.id) (versions_of past)) ≡ false
no_version [] id fresh = refl
no_version (BlockPut i bytes ∷ past) id fresh = no_version past id fresh
no_version (Published k ∷ past) id fresh =
    let q = or_parts (id_eq k.id id) (has_version past id) fresh in
    ap (has_id id) (map_more (versions_of past) (version_of past k))
    ∙ list_any-append (λ x. id_eq x id) (map (λ (v : Version). v.id) (versions_of past)) (k.id ∷ [])
    ∙ or_from (has_id id (map (λ (v : Version). v.id) (versions_of past))) (id_eq k.id id || false) (no_version past id q.1) (or_from (id_eq k.id id) false q.0 refl)
  where
    map_more : (vs : List Version) (v : Version) → map (λ (x : Version). x.id) (vs ++ v ∷ []) ≡ map (λ (x : Version). x.id) vs ++ v.id ∷ []
    map_more [] v = refl
    map_more (w ∷ vs) v = ap (λ (is : List Id16). w.id ∷ is) (map_more vs v)
no_version (Unreadable ∷ past) id fresh = no_version past id fresh
no_version (BlockDeleted i at ∷ past) id fresh = no_version past id fresh
no_version (ManifestDeleted ∷ past) id fresh = no_version past id fresh

unused : (moment : ℕ) (past : List Item) (p : Parts) (f : Free) (id : Id16) → p.kept.pending ≡ None → runs_publication p ≡ false → has_version past id ≡ false
    → m.is_unused (side_of moment past p f) id ≡ true
unused moment past p f id none quiet fresh =
    let running : m.running_ids (Some (seen_up past p)) ≡ [] = no_ids p.kept.pending p.tasks quiet in
    let ids : List Id16 = map (λ (v : Version). v.id) (versions_of past) in
    ap (λ (is : List Id16). not (has_id id (ids ++ (m.pending_ids (option_map seen_pending p.kept.pending) ++ is)))) running
    ∙ ap (λ (o : Option PendingPub). not (has_id id (ids ++ (m.pending_ids (option_map seen_pending o) ++ [])))) none
    ∙ ap not (list_any-append (λ x. id_eq x id) ids [] ∙ or_from (has_id id ids) false (no_version past id fresh) refl)

-- ---- asks

starts_as : (moment : ℕ) (past : List Item) (p : Parts) (f : Free) (n left : ℕ) (j : Job) (k : m.Job) → least_free (task_numbers p) ≡ Some n → seen_job p.kept.pending j ≡ k
    → StartsAs (side_of moment past p f) (seen_up past p) k left (reply.Task n left) (side_of moment past (with_new_task n j p) f)
starts_as moment past p f n left j k free is = (
  free_is_free past p ∙ free,
  refl,
  ap (λ (u : m.Up). with_up (side_of moment past p f) u) (task_comes past (record { number = n; job = j }) p)
      ∙ ap (λ (x : m.Job). with_up (side_of moment past p f) (m.with_task (seen_up past p) n x)) is,
)

pub starts_as_asked : StartsAsAsked
starts_as_asked moment past p f kind n id j free least is_id fresh is =
    let s : m.Side = side_of moment past p f in
    let u : m.Up = seen_up past p in
    let r : Reply = reply.Task n (left_at_start (container_of moment past) kind) in
    let t : m.Side = side_of moment past (with_new_task n j p) f in
    subst (λ (o : Option Reply). UnlessRefused o (with_up s u) r t (Publishes s u kind id r t)) (sym (start_is_refused past p kind ∙ free)) (
      is_id,
      unused moment past p f id (none_pending p kind free) (none_runs p kind free) fresh,
      starts_as moment past p f n (left_at_start (container_of moment past) kind) j (m.Publishing (started (container_of moment past) kind id)) least is,
    )

pub refuses_start : RefusesStart
refuses_start moment past p f kind id r why =
    let s : m.Side = side_of moment past p f in
    let u : m.Up = seen_up past p in
    subst (λ (o : Option Reply). UnlessRefused o (with_up s u) r s (Publishes s u kind id r s)) (sym (start_is_refused past p kind ∙ why)) (refl, refl)

pub poll_starts : PollStarts
poll_starts moment past p f n free least =
    let s : m.Side = side_of moment past p f in
    let u : m.Up = seen_up past p in
    let t : m.Side = side_of moment past (with_new_task n Polling p) f in
    subst (λ (o : Option Reply). UnlessRefused o (with_up s u) (reply.Task n 1) t (StartsAs s u m.Polling 1 (reply.Task n 1) t)) (sym (poll_is_refused past p ∙ free))
    (starts_as moment past p f n 1 Polling m.Polling least refl)

pub refuses_poll : RefusesPoll
refuses_poll moment past p f r why =
    let s : m.Side = side_of moment past p f in
    let u : m.Up = seen_up past p in
    subst (λ (o : Option Reply). UnlessRefused o (with_up s u) r s (StartsAs s u m.Polling 1 r s)) (sym (poll_is_refused past p ∙ why)) (refl, refl)

pub resolve_starts : ResolveStarts
resolve_starts moment past p f n free least =
    let s : m.Side = side_of moment past p f in
    let u : m.Up = seen_up past p in
    let t : m.Side = side_of moment past (with_new_task n Resolving p) f in
    subst (λ (o : Option Reply). UnlessRefused o (with_up s u) (reply.Task n 1) t (StartsAs s u m.Resolving 1 (reply.Task n 1) t)) (sym (resolve_is_refused past p ∙ free))
    (starts_as moment past p f n 1 Resolving m.Resolving least refl)

pub refuses_resolve : RefusesResolve
refuses_resolve moment past p f r why =
    let s : m.Side = side_of moment past p f in
    let u : m.Up = seen_up past p in
    subst (λ (o : Option Reply). UnlessRefused o (with_up s u) r s (StartsAs s u m.Resolving 1 r s)) (sym (resolve_is_refused past p ∙ why)) (refl, refl)

all_run : (past : List Item) (p : Parts) → refusals.has_all_tasks (seen_up past p) ≡ runs_all p
all_run past p = ap (λ (n : ℕ). nat_le 16 n) (map_len (seen_task p.kept.pending) p.tasks)

pub fetch_starts : FetchStarts
fetch_starts moment past p f n page access x away few least =
    let as_is = starts_as moment past p f n 1 (Fetching access x.number page) (m.Fetching access x.number page) least refl in
    (away, all_run past p ∙ few, as_is.0, refl, as_is.2)

pub refuses_fetch : RefusesFetch
refuses_fetch moment past p f page access x away all = (away, all_run past p ∙ all, refl)

-- ---- new tasks

pub create_is_new : CreateIsNew
create_is_new c block retention id = refl

pub copy_is_new : CopyIsNew
copy_is_new c (plan.New name page_size pages) writer id = refl
copy_is_new c (plan.Copy from to) writer id = refl
copy_is_new c (plan.Remove name) writer id = refl

pub cleanup_is_new : CleanupIsNew
cleanup_is_new c writer id = refl

module _ (moment : ℕ) (past : List Item) (base : TxnBase) (view : List Writes) (size : ℕ) (touched : List ℕ) (sound : Sound past)
    (has : HasBase past base.number base.block base.entry) (of_view : IsViewOf base view size touched) where
  abbrev e : DbEntry
  e = base.entry

  abbrev c : m.Container
  c = container_of moment past

  there : m.database_at c base.number e.name ≡ Some (database_of past e)
  there = base_database moment past base.number base.block e sound has

  same_block : c.block ≡ base.block
  same_block = base_block past base.number base.block e sound has

  touched_is : length touched ≡ upload_blocks c e.name base.number view
  touched_is =
      ap length of_view.touched_are
      ∙ ap (λ (b : ℕ). length (touched_blocks (b / e.page_size) e.pages view)) (sym same_block)
      ∙ ap (λ (n : ℕ). length (touched_blocks (c.block / e.page_size) n view)) (sym (pages_len e.pages e.page_size (joined past e.blocks)))
      ∙ ap (λ (o : Option Database). unwrap_or (option_map (touched_count c.block view) o) 0) (sym there)

  left_is : (writer id : Id16) → upload.left_of (upload.new_upload base size touched writer id) ≡ left_at_start c (m.Uploading e.name base.number view)
  left_is writer id = omega (arith, touched_is)

pub upload_is_new : UploadIsNew
upload_is_new moment past base view size touched writer id sound has of_view =
    ap (λ (n : ℕ). m.Publishing (record (started (container_of moment past) (m.Uploading base.entry.name base.number view) id) { left = n }))
    (left_is moment past base view size touched sound has of_view writer id)

pub copy_has_left : CopyHasLeft
copy_has_left c (plan.New name page_size pages) writer id = record { left_is = refl }
copy_has_left c (plan.Copy from to) writer id = record { left_is = refl }
copy_has_left c (plan.Remove name) writer id = record { left_is = refl }

pub upload_has_left : UploadHasLeft
upload_has_left moment past base view size touched writer id sound has of_view = record { left_is = left_is moment past base view size touched sound has of_view writer id }

-- ---- each ask

-- a publication starts where nothing is pending
start_alone : (moment : ℕ) (past : List Item) (p : Parts) (f : Free) (kind : m.Kind) (n : ℕ) (id : Id16) (j : Job) → start_reason p kind ≡ None → least_free (task_numbers p) ≡ Some n
    → IsId id → has_version past id ≡ false → seen_job None j ≡ m.Publishing (started (container_of moment past) kind id)
    → Starts (side_of moment past p f) (seen_up past p) kind id (reply.Task n (left_at_start (container_of moment past) kind)) (side_of moment past (with_new_task n j p) f)
start_alone moment past p f kind n id j free least is_id fresh is =
    starts_as_asked moment past p f kind n id j free least is_id fresh (ap (λ (o : Option PendingPub). seen_job o j) (none_pending p kind free) ∙ is)

pub create_starts : CreateStarts
create_starts moment past p f block retention n id free least is_id fresh =
    start_alone moment past p f (m.Creating block retention) n id (Creating block retention id) free least is_id fresh refl

pub copy_starts : CopyStarts
copy_starts moment past p f x n id free least is_id fresh =
    subst (λ (left : ℕ). Starts (side_of moment past p f) (seen_up past p) (kind_asked x) id (reply.Task n left) (side_of moment past (with_new_task n (Copying (copy.new_task x p.id id)) p) f))
    (sym (copy_has_left (container_of moment past) x p.id id).left_is)
    (start_alone moment past p f (kind_asked x) n id (Copying (copy.new_task x p.id id)) free least is_id fresh (copy_is_new (container_of moment past) x p.id id))

pub cleanup_starts : CleanupStarts
cleanup_starts moment past p f n id free least is_id fresh =
    start_alone moment past p f m.Cleaning n id (Cleaning (cleanup.new_cleanup p.id id)) free least is_id fresh refl

pub upload_starts : UploadStarts
upload_starts moment log entries p f db l base size touched n id sound fits found over free least is_id fresh =
    let past : List Item = history_of log in
    let view : List Writes = map writes_of l.commits in
    let kind : m.Kind = m.Uploading base.entry.name base.number view in
    let j : Job = Uploading (upload.new_upload base size touched p.id id) view in
    let t : m.Side = side_of moment past (with_new_task n j p) f in
    let name : l.entry.name ≡ db = keyed_key kept_name db p.kept.locals l found in
    let same : m.Uploading db l.number view ≡ kind =
    ap (λ (d : List ℕ). m.Uploading d l.number view) (sym name ∙ ap (λ (e : DbEntry). e.name) (sym over.entry)) ∙ ap (λ (k : ℕ). m.Uploading base.entry.name k view) (sym over.number) in
    let asked : upload_of (seen_kept p.kept) db ≡ kind = upload_is_over p db ∙ ap (asked_over db) found ∙ same in
    let has : HasBase past base.number base.block base.entry =
    subst (λ (k : ℕ). HasBase past k base.block base.entry) (sym over.number)
    (subst (λ (b : ℕ). HasBase past l.number b base.entry) (sym over.block)
    (subst (λ (e : DbEntry). HasBase past l.number l.block e) (sym over.entry) (all_found kept_name (FitsLocal past) db p.kept.locals l fits.locals found))) in
    subst (λ (k : m.Kind). Starts (side_of moment past p f) (seen_up past p) k id (reply.Task n (upload.left_of (upload.new_upload base size touched p.id id))) t) (sym asked)
    (subst (λ (left : ℕ). Starts (side_of moment past p f) (seen_up past p) kind id (reply.Task n left) t)
    (sym (upload_has_left moment past base view size touched p.id id sound has over.of_view).left_is)
    (start_alone moment past p f kind n id j (ap (start_reason p) (sym same) ∙ free) least is_id fresh (upload_is_new moment past base view size touched p.id id sound has over.of_view)))

pub refuses_upload : RefusesUpload
refuses_upload moment past p f db id r why =
    refuses_start moment past p f (upload_of (seen_kept p.kept) db) id r (ap (start_reason p) (upload_is_over p db) ∙ why)

-- ---- that they fit

quiet_fits : (log : List Entry) (p : Parts) (j : Job) → names_of_job j ≡ [] → FitsJob (p.id ∷ []) p.id p.kept log j
quiet_fits log p (Fetching access txn page) none = tt
quiet_fits log p Polling none = tt
quiet_fits log p (Creating block retention id) none = absurd (cc (none))
quiet_fits log p (Copying s) none = absurd (cc (none))
quiet_fits log p (Uploading s view) none = absurd (cc (none))
quiet_fits log p (Cleaning s) none = absurd (cc (none))
quiet_fits log p Resolving none = tt

quiet_staged : (j : Job) → names_of_job j ≡ [] → IsStagedJob j
quiet_staged (Fetching access txn page) none = tt
quiet_staged Polling none = tt
quiet_staged (Creating block retention id) none = tt
quiet_staged (Copying s) none = tt
quiet_staged (Uploading s view) none = absurd (cc (none))
quiet_staged (Cleaning s) none = absurd (cc (none))
quiet_staged Resolving none = tt

pub quiet_task_fits : QuietTaskFits
quiet_task_fits log p entries n j fits none =
    task_fits_last (p.id ∷ []) log p entries (record { number = n; job = j }) fits (quiet_fits log p j none) (quiet_staged j none)

-- the client's name, and the drawn one
abbrev names : Parts → Id16 → List Id16
names p id = p.id ∷ id ∷ []

drawn_in : (p : Parts) (id : Id16) → has_id id (names p id) ≡ true
drawn_in p id = has_id-later id p.id (id ∷ []) (has_id-first id [])

client_in : (p : Parts) (id : Id16) → has_id p.id (names p id) ≡ true
client_in p id = has_id-first p.id (id ∷ [])

new_publish_fits : (log : List Entry) (p : Parts) (id : Id16) → IsId id → has_version (history_of log) id ≡ false → FitsPublish (names p id) p.id log (publish.new_publish p.id id)
new_publish_fits log p id is fresh =
    record { same_writer = refl; writer_is_mine = client_in p id; is_id = is; is_mine = drawn_in p id; fresh = fresh; read = tt }

pub new_create_fits : NewCreateFits
new_create_fits log p entries n block retention id fits size is fresh =
    task_fits_last (names p id) log p entries (record { number = n; job = Creating block retention id }) fits (size, is, drawn_in p id, client_in p id, fresh) tt

pub new_copy_fits : NewCopyFits
new_copy_fits log p entries n (plan.New name page_size pages) id fits runs is fresh =
    task_fits_last (names p id) log p entries (record { number = n; job = Copying (copy.new_task (plan.New name page_size pages) p.id id) }) fits (runs, new_publish_fits log p id is fresh, tt) tt
new_copy_fits log p entries n (plan.Copy from to) id fits runs is fresh =
    task_fits_last (names p id) log p entries (record { number = n; job = Copying (copy.new_task (plan.Copy from to) p.id id) }) fits (runs, new_publish_fits log p id is fresh, tt) tt
new_copy_fits log p entries n (plan.Remove name) id fits runs is fresh =
    task_fits_last (names p id) log p entries (record { number = n; job = Copying (copy.new_task (plan.Remove name) p.id id) }) fits (runs, new_publish_fits log p id is fresh, tt) tt

pub new_upload_fits : NewUploadFits
new_upload_fits log p entries n base view size touched id fits runs is fresh of_view commits has takes =
    task_fits_last (names p id) log p entries (record { number = n; job = Uploading (upload.new_upload base size touched p.id id) view }) fits (
      runs,
      new_publish_fits log p id is fresh,
      record {
        listed = record { manifest = has.manifest; published = has.published; among = found_among base.entry.name has.manifest.dbs base.entry has.listed; block = has.block_is };
        blocks = tt;
        fetched = tt;
      },
      of_view,
      commits,
      has,
      takes,
    ) (new_is_staged base size touched p.id id).0

pub new_cleanup_fits : NewCleanupFits
new_cleanup_fits log p entries n id fits runs is fresh =
    task_fits_last (names p id) log p entries (record { number = n; job = Cleaning (cleanup.new_cleanup p.id id) }) fits
    (runs, new_publish_fits log p id is fresh, record { expired = λ i h. absurd (let both : false ≡ true = h in cc); deleted = λ i h. absurd (let both : false ≡ true = h in cc) })
    (λ none. (refl, refl))
