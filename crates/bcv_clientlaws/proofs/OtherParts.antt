-- A client of which one part was replaced still fits.
use Rattle.std.proofs.Common.{◌≡◌, ◌∙◌, ◌==◌, ℕ, suc, Bool, true, false, not, cond, List, [], ◌∷◌, ◌++◌, filter, find, Option, Some, None, refl, sym, subst}
use Rattle.std.specs.List.{AllByRecursion, flat_map, list_any}
use Rattle.std.proofs.lemmas.Bool.{or_parts}
use Rattle.std.proofs.lemmas.List.Folds.{list_any-append}
use Rattle.std.proofs.lemmas.Option.{same_Some}
use Rattle.bcv_base.specs.declared.id.Id16.{Id16}
use Rattle.bcv_base.specs.declared.log.Entry.{Entry}
use Rattle.bcv_base.specs.declared.manifest.Manifest.{Manifest}
use Rattle.bcv_base.specs.declared.seen.TxnBase.{TxnBase}
use Rattle.bcv_base.specs.History.{Item, BlockPut, Published, Unreadable, BlockDeleted, ManifestDeleted, item_of, history_of, last_of}
use Rattle.bcv_base.specs.HistoryLaws.{has_id-first, has_id-later}
use Rattle.bcv_base.specs.Ids.{has_id, id_eq}
use Rattle.bcv_base.specs.Image.{Page, Writes}
use Rattle.bcv_dbcopy.specs.State as copy
use Rattle.bcv_dbcopy.specs.TaskWork as copying
use Rattle.bcv_dbmap.specs.declared.plan.EditPlan.{EditPlan}
use Rattle.bcv_dbmap.specs.declared.plan.EditPlan.TheVariants as edit
use Rattle.bcv_dbmap.specs.Growth.{AreLawful, IsLawful, IsNewBlock, Publishes}
use Rattle.bcv_dbmap.specs.OwnBlock.{IsOwnBlock}
use Rattle.bcv_dbmap.proofs.Bools.{or_left, or_right}
use Rattle.bcv_model.specs.declared.kept.Kept.{Kept}
use Rattle.bcv_publish.specs.State as publish
use Rattle.bcv_upload.specs.UploadWork as uploading
use Rattle.bcv_clientstate.specs.Fits.{FitsJob, FitsPublish, FitsTask, FitsTxn}
use Rattle.bcv_clientstate.specs.PartRefusals.{is_publishing}
use Rattle.bcv_clientstate.specs.Parts.{OpenTxn, Job, Fetching, Polling, Creating, Copying, Uploading, Cleaning, Resolving, Task, Parts, mine_of, names_of_job, names_of_pending}
use Rattle.bcv_clientstate.specs.Stages.{IsStagedTask}
use Rattle.bcv_clientstate.proofs.Growth.{grows}
use Rattle.bcv_clientlaws.specs.OtherParts.{EntriesFit, FitsWithEndedTxn, FitsWithoutTask, FoundTaskFits, Includes, KeepsTaken, KeptFits, KeptFitsQuietly, LatestFits, NamesSuffice, OthersLeaveFits, RisenFits, ShutFits, TaskFitsLast, TasksFit, TxnsFit}
use Rattle.bcv_clientlaws.specs.TaskLists.{fetches_for, with_tasks}

-- ---- names

pub includes_all : (mine : List Id16) → Includes mine mine
includes_all mine i h = h

pub in_front : (mine a b : List Id16) → Includes mine (a ++ b) → Includes mine a
in_front mine a b all i h = all i (list_any-append (λ x. id_eq x i) a b ∙ or_left (has_id i a) (has_id i b) h)

pub in_rest : (mine a b : List Id16) → Includes mine (a ++ b) → Includes mine b
in_rest mine a b all i h = all i (list_any-append (λ x. id_eq x i) a b ∙ or_right (has_id i a) (has_id i b) h)

pub behind_one : (mine : List Id16) (j : Id16) (is : List Id16) → Includes mine (j ∷ is) → Includes mine is
behind_one mine j is all i h = all i (has_id-later i j is h)

pub the_first : (mine : List Id16) (j : Id16) (is : List Id16) → Includes mine (j ∷ is) → has_id j mine ≡ true
the_first mine j is all = all j (has_id-first j is)

-- ---- fewer names

module _ (mine less : List Id16) (all : Includes mine less) where
  not_in : (i : Id16) → has_id i mine ≡ false → has_id i less ≡ false
  not_in i no_one = by (has_id i less) refl
    where
      by : (b : Bool) → has_id i less ≡ b → b ≡ false
      by true e = sym (all i e) ∙ no_one
      by false e = refl

  fewer_new : (past : List Item) (size : ℕ) (i : Id16) → IsNewBlock mine past size i → IsNewBlock less past size i
  fewer_new past size i is = record { there = is.there; not_mine = not_in i is.not_mine; not_listed = is.not_listed; not_dead = is.not_dead }

  fewer_published : (past : List Item) (o : Option Manifest) (m : Manifest) → Publishes mine past o m → Publishes less past o m
  fewer_published past None m is = record { first = is.first; another = not_in is.first.writer is.another }
  fewer_published past (Some old) m is =
      record { edit = is.edit; another = not_in is.edit.writer is.another; blocks = λ i h g. fewer_new past old.block i (is.blocks i h g); swept = is.swept }

  fewer_item : (past : List Item) (x : Item) → IsLawful mine past x → IsLawful less past x
  fewer_item past (BlockPut i bytes) is = record { unput = is.unput; unlisted = is.unlisted; not_mine = not_in i is.not_mine }
  fewer_item past (Published m) is =
      record { rules = is.rules; limits = is.limits; fresh = is.fresh; not_mine = not_in m.id is.not_mine; publishes = fewer_published past (last_of past) m is.publishes }
  fewer_item past Unreadable is = is
  fewer_item past (BlockDeleted i at) is = is
  fewer_item past ManifestDeleted is = is

  pub fewer_lawful : (past : List Item) (es : List Entry) → AreLawful mine past es → AreLawful less past es
  fewer_lawful past [] lawful = tt
  fewer_lawful past (e ∷ es) lawful = (fewer_item past (item_of e) lawful.0, fewer_lawful (item_of e ∷ past) es lawful.1)

pub others_leave_fits : OthersLeaveFits
others_leave_fits mine log others p entries sound all lawful fits =
    grows log others p entries sound (fewer_lawful mine (mine_of p) all (history_of log) others lawful) fits

-- ---- a task's own names

module _ (mine more : List Id16) (writer : Id16) (log : List Entry) (w : has_id writer more ≡ true) where
  own_is : (past : List Item) (size : ℕ) (i : Id16) → has_id i more ≡ true → IsOwnBlock mine past size i → IsOwnBlock more past size i
  own_is past size i h is = record { is_mine = h; there = is.there; unlisted = is.unlisted; not_dead = is.not_dead }

  publish_is : (p : publish.State) → has_id p.id more ≡ true → FitsPublish mine writer log p → FitsPublish more writer log p
  publish_is p h fits = record { same_writer = fits.same_writer; writer_is_mine = w; is_id = fits.is_id; is_mine = h; fresh = fits.fresh; read = fits.read }

  copied_are : (past : List Item) (block page_size : ℕ) (pages : List Page) (n : ℕ) (ids : List Id16) → Includes more ids
      → copying.AreOwnBlocks mine past block page_size pages n ids → copying.AreOwnBlocks more past block page_size pages n ids
  copied_are past block page_size pages n [] all are = tt
  copied_are past block page_size pages n (i ∷ is) all are =
      (own_is past block i (the_first more i is all) are.0, are.1, copied_are past block page_size pages (suc n) is (behind_one more i is all) are.2)

  copy_has : (past : List Item) (pages : List Page) (e : EditPlan) (block : Option ℕ) → Includes more (copy.put_ids e)
      → copying.HasBlocks mine past pages e block → copying.HasBlocks more past pages e block
  copy_has past pages (edit.New e) (Some block) all has = copied_are past block e.page_size pages 0 e.blocks all has
  copy_has past pages (edit.New e) None all has = tt
  copy_has past pages (edit.Upload from e) block all has = tt
  copy_has past pages (edit.Copy from to) block all has = tt
  copy_has past pages (edit.Remove name) block all has = tt
  copy_has past pages (edit.Sweep ids) block all has = tt

  uploaded_are : (past : List Item) (base : TxnBase) (view : List Writes) (ids : List Id16) (ns : List ℕ) → Includes more ids
      → uploading.AreOwnBlocks mine past base view ids ns → uploading.AreOwnBlocks more past base view ids ns
  uploaded_are past base view [] ns all are = tt
  uploaded_are past base view (i ∷ is) [] all are = are
  uploaded_are past base view (i ∷ is) (n ∷ ns) all are =
      (own_is past base.block i (the_first more i is all) are.0, are.1, uploaded_are past base view is ns (behind_one more i is all) are.2)

pub names_suffice : NamesSuffice
names_suffice mine more writer k log (Fetching access txn page) fits w all = tt
names_suffice mine more writer k log Polling fits w all = tt
names_suffice mine more writer k log (Creating block retention id) fits w all = (fits.0, fits.1, the_first more id [] all, w, fits.4)
names_suffice mine more writer k log (Copying s) fits w all =
    let ids : List Id16 = copy.put_ids s.edit in (
      fits.0,
      publish_is mine more writer log w s.publish (the_first more s.publish.id ids all) fits.1,
      copy_has mine more writer log w (history_of log) s.pages s.edit s.block (behind_one more s.publish.id ids all) fits.2,
    )
names_suffice mine more writer k log (Uploading s view) fits w all = (
  fits.0,
  publish_is mine more writer log w s.publish (the_first more s.publish.id s.ids all) fits.1,
  record {
    listed = fits.2.listed;
    blocks = uploaded_are mine more writer log w (history_of log) s.base view s.ids s.touched (behind_one more s.publish.id s.ids all) fits.2.blocks;
    fetched = fits.2.fetched;
  },
  fits.3,
  fits.4,
  fits.5,
  fits.6,
)
names_suffice mine more writer k log (Cleaning s) fits w all = (fits.0, publish_is mine more writer log w s.publish (the_first more s.publish.id [] all) fits.1, fits.2)
names_suffice mine more writer k log Resolving fits w all = tt

-- ---- tasks

abbrev names_of : List Task → List Id16
names_of ts = flat_map (λ (t : Task). names_of_job t.job) ts

all_suffice : (mine more : List Id16) (writer : Id16) (k : Kept) (log : List Entry) (ts : List Task) → has_id writer more ≡ true → Includes more (names_of ts)
    → AllByRecursion (FitsTask mine writer k log) ts → AllByRecursion (FitsTask more writer k log) ts
all_suffice mine more writer k log [] w all fits = tt
all_suffice mine more writer k log (t ∷ ts) w all fits = (
  names_suffice mine more writer k log t.job fits.0 w (in_front more (names_of_job t.job) (names_of ts) all),
  all_suffice mine more writer k log ts w (in_rest more (names_of_job t.job) (names_of ts) all) fits.1,
)

-- the names of a client's tasks are its own
pub tasks_are_mine : (p : Parts) → Includes (mine_of p) (names_of p.tasks)
tasks_are_mine p =
    in_rest (mine_of p) (names_of_pending p.kept.pending) (names_of p.tasks)
    (behind_one (mine_of p) p.id (names_of_pending p.kept.pending ++ names_of p.tasks) (includes_all (mine_of p)))

pub client_is_mine : (p : Parts) → has_id p.id (mine_of p) ≡ true
client_is_mine p = has_id-first p.id (names_of_pending p.kept.pending ++ names_of p.tasks)

pub tasks_fit : TasksFit
tasks_fit mine log p entries ts fits each staged =
    let q : Parts = with_tasks ts p in
    record {
      named = fits.named;
      is_id = fits.is_id;
      ordered = fits.ordered;
      locals = fits.locals;
      known_order = fits.known_order;
      known_apart = fits.known_apart;
      known = fits.known;
      pending = fits.pending;
      latest = fits.latest;
      seen = fits.seen;
      txns = fits.txns;
      tasks = all_suffice mine (mine_of q) p.id p.kept log ts (client_is_mine q) (tasks_are_mine q) each;
      staged = staged;
      cached = fits.cached;
    }

all_append : {A : Type 0} (P : A → Type 0) (xs : List A) (x : A) → AllByRecursion P xs → P x → AllByRecursion P (xs ++ x ∷ [])
all_append P [] x all one = (one, tt)
all_append P (y ∷ ys) x all one = (all.0, all_append P ys x all.1 one)

all_filter : {A : Type 0} (P : A → Type 0) (test : A → Bool) (xs : List A) → AllByRecursion P xs → AllByRecursion P (filter test xs)
all_filter P test [] all = tt
all_filter P test (x ∷ xs) all =
    elim (test x) as (λ (b : Bool). AllByRecursion P (cond b (x ∷ filter test xs) (filter test xs))) [
      | true ↦ (all.0, all_filter P test xs all.1)
      | false ↦ all_filter P test xs all.1
    ]

all_found : {A : Type 0} (P : A → Type 0) (test : A → Bool) (xs : List A) (x : A) → AllByRecursion P xs → find test xs ≡ Some x → P x
all_found P test [] x all is = absurd (let e : None ≡ Some x = is in cc)
all_found P test (y ∷ ys) x all is =
    elim (test y) as (λ (b : Bool). cond b (Some y) (find test ys) ≡ Some x → P x) [
      | true ↦ λ e. subst P (same_Some y x e) all.0
      | false ↦ λ e. all_found P test ys x all.1 e
    ] is

-- the tasks that fit, and one more, under the names of both
pub task_fits_last : TaskFitsLast
task_fits_last mine log p entries t fits one staged =
    let both : List Id16 = mine_of p ++ names_of_job t.job in
    let front : Includes both (mine_of p) = in_front both (mine_of p) (names_of_job t.job) (includes_all both) in
    let rest : Includes both (names_of_job t.job) = in_rest both (mine_of p) (names_of_job t.job) (includes_all both) in
    let w : has_id p.id both ≡ true = front p.id (client_is_mine p) in
    tasks_fit both log p entries (p.tasks ++ t ∷ []) fits
    (all_append (FitsTask both p.id p.kept log) p.tasks t
    (all_suffice (mine_of p) both p.id p.kept log p.tasks w (λ i h. front i (tasks_are_mine p i h)) fits.tasks)
    (names_suffice mine both p.id p.kept log t.job one w rest))
    (all_append IsStagedTask p.tasks t fits.staged staged)

pub fits_without_task : FitsWithoutTask
fits_without_task log p entries n fits =
    tasks_fit (mine_of p) log p entries (filter (λ (t : Task). not (t.number == n)) p.tasks) fits
    (all_filter (FitsTask (mine_of p) p.id p.kept log) (λ (t : Task). not (t.number == n)) p.tasks fits.tasks)
    (all_filter IsStagedTask (λ (t : Task). not (t.number == n)) p.tasks fits.staged)

pub found_task_fits : FoundTaskFits
found_task_fits log p entries n t fits is = record {
  fits = all_found (FitsTask (mine_of p) p.id p.kept log) (λ (x : Task). x.number == n) p.tasks t fits.tasks is;
  staged = all_found IsStagedTask (λ (x : Task). x.number == n) p.tasks t fits.staged is;
}

-- ---- one part replaced

pub txns_fit : TxnsFit
txns_fit log p entries ts fits each = record {
  named = fits.named;
  is_id = fits.is_id;
  ordered = fits.ordered;
  locals = fits.locals;
  known_order = fits.known_order;
  known_apart = fits.known_apart;
  known = fits.known;
  pending = fits.pending;
  latest = fits.latest;
  seen = fits.seen;
  txns = each;
  tasks = fits.tasks;
  staged = fits.staged;
  cached = fits.cached;
}

pub fits_with_ended_txn : FitsWithEndedTxn
fits_with_ended_txn log p entries n fits =
    let left : List Task = filter (λ (t : Task). not (fetches_for n t.job)) p.tasks in
    txns_fit log (with_tasks left p) entries (filter (λ (t : OpenTxn). not (t.number == n)) p.txns)
    (tasks_fit (mine_of p) log p entries left fits
    (all_filter (FitsTask (mine_of p) p.id p.kept log) (λ (t : Task). not (fetches_for n t.job)) p.tasks fits.tasks)
    (all_filter IsStagedTask (λ (t : Task). not (fetches_for n t.job)) p.tasks fits.staged))
    (all_filter (FitsTxn (history_of log)) (λ (t : OpenTxn). not (t.number == n)) p.txns fits.txns)

pub entries_fit : EntriesFit
entries_fit log p entries cached fits each = record {
  named = fits.named;
  is_id = fits.is_id;
  ordered = fits.ordered;
  locals = fits.locals;
  known_order = fits.known_order;
  known_apart = fits.known_apart;
  known = fits.known;
  pending = fits.pending;
  latest = fits.latest;
  seen = fits.seen;
  txns = fits.txns;
  tasks = fits.tasks;
  staged = fits.staged;
  cached = each;
}

pub latest_fits : LatestFits
latest_fits log p entries l seen fits kept is_seen = record {
  named = fits.named;
  is_id = fits.is_id;
  ordered = fits.ordered;
  locals = fits.locals;
  known_order = fits.known_order;
  known_apart = fits.known_apart;
  known = fits.known;
  pending = fits.pending;
  latest = kept;
  seen = is_seen;
  txns = fits.txns;
  tasks = fits.tasks;
  staged = fits.staged;
  cached = fits.cached;
}

pub shut_fits : ShutFits
shut_fits log p entries fits = record {
  named = fits.named;
  is_id = fits.is_id;
  ordered = fits.ordered;
  locals = fits.locals;
  known_order = fits.known_order;
  known_apart = fits.known_apart;
  known = fits.known;
  pending = fits.pending;
  latest = fits.latest;
  seen = fits.seen;
  txns = fits.txns;
  tasks = fits.tasks;
  staged = fits.staged;
  cached = fits.cached;
}

-- ---- what is kept and known

kept_job : (mine : List Id16) (writer : Id16) (k after : Kept) (log : List Entry) (j : Job) → KeepsTaken k after → FitsJob mine writer k log j → FitsJob mine writer after log j
kept_job mine writer k after log (Fetching access txn page) keeps fits = tt
kept_job mine writer k after log Polling keeps fits = tt
kept_job mine writer k after log (Creating block retention id) keeps fits = fits
kept_job mine writer k after log (Copying s) keeps fits = fits
kept_job mine writer k after log (Uploading s view) keeps fits =
    (fits.0, fits.1, fits.2, fits.3, fits.4, fits.5, keeps s.base.entry.name s.base.number view fits.6)
kept_job mine writer k after log (Cleaning s) keeps fits = fits
kept_job mine writer k after log Resolving keeps fits = tt

all_kept : (mine : List Id16) (writer : Id16) (k after : Kept) (log : List Entry) (ts : List Task) → KeepsTaken k after
    → AllByRecursion (FitsTask mine writer k log) ts → AllByRecursion (FitsTask mine writer after log) ts
all_kept mine writer k after log [] keeps fits = tt
all_kept mine writer k after log (t ∷ ts) keeps fits = (kept_job mine writer k after log t.job keeps fits.0, all_kept mine writer k after log ts keeps fits.1)

pub kept_fits : KeptFits
kept_fits log p entries k known fits is keeps =
    let q : Parts = record p { kept = k; known = known } in
    record {
      named = is.named;
      is_id = fits.is_id;
      ordered = is.ordered;
      locals = is.locals;
      known_order = is.are_known.order;
      known_apart = is.are_known.apart;
      known = is.are_known.fits;
      pending = is.pending;
      latest = fits.latest;
      seen = fits.seen;
      txns = fits.txns;
      tasks =
          all_suffice (mine_of p) (mine_of q) p.id k log p.tasks (client_is_mine q) (tasks_are_mine q)
          (all_kept (mine_of p) p.id p.kept k log p.tasks keeps fits.tasks);
      staged = fits.staged;
      cached = fits.cached;
    }

-- while none publishes
quiet_job : (mine : List Id16) (writer : Id16) (k after : Kept) (log : List Entry) (j : Job) → is_publishing j ≡ false → FitsJob mine writer k log j → FitsJob mine writer after log j
quiet_job mine writer k after log (Fetching access txn page) quiet fits = tt
quiet_job mine writer k after log Polling quiet fits = tt
quiet_job mine writer k after log (Creating block retention id) quiet fits = fits
quiet_job mine writer k after log (Copying s) quiet fits = fits
quiet_job mine writer k after log (Uploading s view) quiet fits = absurd (let both : true ≡ false = quiet in cc)
quiet_job mine writer k after log (Cleaning s) quiet fits = fits
quiet_job mine writer k after log Resolving quiet fits = tt

all_quiet : (mine : List Id16) (writer : Id16) (k after : Kept) (log : List Entry) (ts : List Task) → list_any (λ (t : Task). is_publishing t.job) ts ≡ false
    → AllByRecursion (FitsTask mine writer k log) ts → AllByRecursion (FitsTask mine writer after log) ts
all_quiet mine writer k after log [] quiet fits = tt
all_quiet mine writer k after log (t ∷ ts) quiet fits =
    let q = or_parts (is_publishing t.job) (list_any (λ (x : Task). is_publishing x.job) ts) quiet in
    (quiet_job mine writer k after log t.job q.0 fits.0, all_quiet mine writer k after log ts q.1 fits.1)

pub kept_fits_quietly : KeptFitsQuietly
kept_fits_quietly log p entries k known fits is quiet =
    let q : Parts = record p { kept = k; known = known } in
    record {
      named = is.named;
      is_id = fits.is_id;
      ordered = is.ordered;
      locals = is.locals;
      known_order = is.are_known.order;
      known_apart = is.are_known.apart;
      known = is.are_known.fits;
      pending = is.pending;
      latest = fits.latest;
      seen = fits.seen;
      txns = fits.txns;
      tasks =
          all_suffice (mine_of p) (mine_of q) p.id k log p.tasks (client_is_mine q) (tasks_are_mine q)
          (all_quiet (mine_of p) p.id p.kept k log p.tasks quiet fits.tasks);
      staged = fits.staged;
      cached = fits.cached;
    }

pub risen_fits : RisenFits
risen_fits log id left seen is_id is is_seen = record {
  named = is.named;
  is_id = is_id;
  ordered = is.ordered;
  locals = is.locals;
  known_order = tt;
  known_apart = tt;
  known = tt;
  pending = is.pending;
  latest = tt;
  seen = is_seen;
  txns = tt;
  tasks = tt;
  staged = tt;
  cached = tt;
}
