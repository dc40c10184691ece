-- A client under entries that others append.
use Rattle.std.proofs.Common.{◌≡◌, ◌∙◌, ◌≤◌, ℕ, true, List, [], ◌∷◌, ◌++◌, map, Option, Some, None, IfSome, inl, inr, refl, sym, ap, subst, arith}
use Rattle.std.proofs.lemmas.Option.{same_Some}
use Rattle.std.specs.Option.{option_map}
use Rattle.std.specs.List.{AllByRecursion, flat_map}
use Rattle.bcv_base.specs.declared.id.Id16.{Id16}
use Rattle.bcv_base.specs.declared.log.Entry.{Entry}
use Rattle.bcv_base.specs.declared.manifest.DbEntry.{DbEntry}
use Rattle.bcv_base.specs.declared.manifest.Manifest.{Manifest}
use Rattle.bcv_base.specs.declared.seen.Latest.{Latest}
use Rattle.bcv_base.specs.declared.seen.Seen.{Seen}
use Rattle.bcv_base.specs.History.{Item, BlockPut, Published, Unreadable, BlockDeleted, ManifestDeleted, item_of, history_after, history_of, count_of, first_put}
use Rattle.bcv_base.specs.HistoryLaws.{first_put-stays, has_id-first, has_id-later, history_after-append}
use Rattle.bcv_base.specs.Ids.{has_id}
use Rattle.bcv_base.specs.Joined.{database_of}
use Rattle.bcv_base.specs.Keyed.{keyed}
use Rattle.bcv_base.specs.ManifestRules.{db_name}
use Rattle.bcv_base.specs.Version.{Database, Version, the_name}
use Rattle.bcv_cache.specs.Entry as cache
use Rattle.bcv_dbmap.specs.Growth.{AreLawful, IsUntouched}
use Rattle.bcv_dbmap.specs.Kept.{IsKept}
use Rattle.bcv_dbmap.specs.Outlived.{IsPublished}
use Rattle.bcv_dbmap.specs.Sound.{IsSoundLog}
use Rattle.bcv_machine.specs.State as m
use Rattle.bcv_model.specs.declared.kept.Kept.{Kept}
use Rattle.bcv_model.specs.declared.kept.PendingPub.{PendingPub}
use Rattle.bcv_model.specs.declared.kept.Local.{Local}
use Rattle.bcv_publish.specs.State as publish
use Rattle.bcv_clientstate.specs.BaseLaws.{FitsLocal}
use Rattle.bcv_clientstate.specs.Fits.{FitsEntry, FitsJob, FitsKnown, FitsPending, FitsPublish, FitsSeen, FitsTask, FitsTxn}
use Rattle.bcv_clientstate.specs.GrowthLaws.{GrowthFits, GrowthLeavesClient}
use Rattle.bcv_databases.specs.declared.known.Known.{Known}
use Rattle.bcv_clientstate.specs.Parts.{OpenTxn, Job, Fetching, Polling, Creating, Copying, Uploading as Uploads, Cleaning, Resolving, Task, Parts, mine_of, names_of_job, names_of_pending}
use Rattle.bcv_clientstate.specs.SeenClient.{seen_client, seen_txn, seen_up}
use Rattle.bcv_clientstate.specs.SeenContainer.{HasBase}
use Rattle.bcv_dbmap.proofs.KeptLaws.{kept_longer}
use Rattle.bcv_dbmap.proofs.OthersLaws.{others_leave_mine}
use Rattle.bcv_dbcopy.proofs.Owned.{blocks_stay_others}
use Rattle.bcv_upload.proofs.Owned.{blocks_stay_others as uploads_stay}
use Rattle.bcv_cleanup.proofs.Taken.{taken_stays}
use Rattle.bcv_dbmap.proofs.ManifestLaws.{images_stay}
use Rattle.bcv_clientstate.proofs.Bases.{published_after, stays}
use Rattle.bcv_clientstate.proofs.KeyedMaps.{keyed_map}

-- ---- lists and options

pub all_kept : {A : Type 0} (P Q : A → Type 0) → ((x : A) → P x → Q x) → (xs : List A) → AllByRecursion P xs → AllByRecursion Q xs
all_kept P Q f [] all = tt
all_kept P Q f (x ∷ xs) all = (f x all.0, all_kept P Q f xs all.1)

pub some_kept : {A : Type 0} (P Q : A → Type 0) → ((x : A) → P x → Q x) → (o : Option A) → IfSome o P → IfSome o Q
some_kept P Q f None h = tt
some_kept P Q f (Some x) h = f x h

pub same_maps : {A B : Type 0} (f g : A → B) (P : A → Type 0) → ((x : A) → P x → f x ≡ g x) → (xs : List A) → AllByRecursion P xs → map f xs ≡ map g xs
same_maps f g P e [] all = refl
same_maps f g P e (x ∷ xs) all = ap (λ y. y ∷ map f xs) (e x all.0) ∙ ap (λ ys. g x ∷ ys) (same_maps f g P e xs all.1)

-- ---- counts and first puts

pub more_counted : (x : Item) (past : List Item) → count_of past ≤ count_of (x ∷ past)
more_counted (BlockPut i bytes) past = omega arith
more_counted (Published k) past = omega arith
more_counted Unreadable past = omega arith
more_counted (BlockDeleted i at) past = omega arith
more_counted ManifestDeleted past = omega arith

pub rising : (past : List Item) (log : List Entry) (n : ℕ) → n ≤ count_of past → n ≤ count_of (history_after past log)
rising past [] n le = le
rising past (e ∷ es) n le = let more = more_counted (item_of e) past in rising (item_of e ∷ past) es n (omega arith)

pub put_later : (past : List Item) (log : List Entry) (i : Id16) (bytes : List ℕ) → first_put past i ≡ Some bytes → first_put (history_after past log) i ≡ Some bytes
put_later past [] i bytes h = h
put_later past (e ∷ es) i bytes h = put_later (item_of e ∷ past) es i bytes (first_put-stays (item_of e) past i bytes h)

-- ---- whatever is appended

module _ (log more : List Entry) where
  abbrev past : List Item
  past = history_of log

  abbrev later : List Item
  later = history_of (log ++ more)

  is_later : later ≡ history_after past more
  is_later = history_after-append [] log more

  base_later : (number block : ℕ) (e : DbEntry) → HasBase past number block e → HasBase later number block e
  base_later number block e has = stays log more number block e has

  published_later : (k : Manifest) → IsPublished k past → IsPublished k later
  published_later k there = subst (IsPublished k) (sym is_later) (published_after k past more there)

  -- the database of a base's entry is the same
  same_database : (number block : ℕ) (e : DbEntry) → IsSoundLog log → HasBase past number block e → database_of later e ≡ database_of past e
  same_database number block e sound has =
      let k : Manifest = has.manifest in
      let dbs : map (database_of later) k.dbs ≡ map (database_of past) k.dbs = ap (λ (v : Version). v.dbs) (images_stay log more k sound has.published) in
      same_Some (database_of later e) (database_of past e)
      (sym (keyed_map db_name the_name (database_of later) (λ d. refl) e.name k.dbs ∙ ap (option_map (database_of later)) has.listed)
      ∙ ap (keyed the_name e.name) dbs
      ∙ keyed_map db_name the_name (database_of past) (λ d. refl) e.name k.dbs ∙ ap (option_map (database_of past)) has.listed)

  same_txn : IsSoundLog log → (t : OpenTxn) → FitsTxn past t → seen_txn later t ≡ seen_txn past t
  same_txn sound t fits =
      ap (λ (d : Database). record (seen_txn past t) { image = d.image }) (same_database t.txn.base.number t.txn.base.block t.txn.base.entry sound fits.base)

  local_later : (l : Local) → FitsLocal past l → FitsLocal later l
  local_later l has = base_later l.number l.block l.entry has

  known_later : (k : Known) → FitsKnown past k → FitsKnown later k
  known_later k has = base_later k.number k.block k.entry has

  txn_later : (t : OpenTxn) → FitsTxn past t → FitsTxn later t
  txn_later t fits =
      record { base = base_later t.txn.base.number t.txn.base.block t.txn.base.entry fits.base; is_txn = fits.is_txn; size = fits.size; commits = fits.commits }

  seen_later : (s : Seen) → FitsSeen past s → FitsSeen later s
  seen_later s fits =
      record {
        block = some_kept (λ b. (k : Manifest) × IsPublished k past × (k.block ≡ b)) (λ b. (k : Manifest) × IsPublished k later × (k.block ≡ b)) (λ b h. (h.0, published_later h.0 h.1, h.2)) s.block fits.block;
        number = subst (λ (n : List Item). s.number ≤ count_of n) (sym is_later) (rising (history_of log) more s.number fits.number);
      }

  entry_later : (e : cache.Entry) → FitsEntry past e → FitsEntry later e
  entry_later e fits = subst (λ (n : List Item). first_put n e.id ≡ Some e.bytes) (sym is_later) (put_later (history_of log) more e.id e.bytes fits)

  latest_later : (l : Latest) → IsKept log l → IsKept (log ++ more) l
  latest_later l is = kept_longer log more l is

-- ---- what others append

module _ (mine : List Id16) (writer : Id16) (log others : List Entry) (sound : IsSoundLog log) (lawful : AreLawful mine (history_of log) others) where
  left : IsUntouched mine (history_of log) (history_of (log ++ others))
  left = others_leave_mine mine log others sound lawful

  publish_later : (p : publish.State) → FitsPublish mine writer log p → FitsPublish mine writer (log ++ others) p
  publish_later p fits =
      record { same_writer = fits.same_writer; writer_is_mine = fits.writer_is_mine; is_id = fits.is_id; is_mine = fits.is_mine; fresh = left.unpublished p.id fits.is_mine fits.fresh; read = some_kept (IsKept log) (IsKept (log ++ others)) (latest_later log others) p.latest fits.read }

  pending_later : (p : PendingPub) → has_id writer mine ≡ true → has_id p.id mine ≡ true → FitsPending (history_of log) writer p → FitsPending (history_of (log ++ others)) writer p
  pending_later p w i (inl fresh) = inl (left.unpublished p.id i fresh)
  pending_later p w i (inr made) =
      inr (record {
        number = made.number;
        last = left.last writer w ∙ made.last;
        entry = some_kept (λ u. HasBase (history_of log) made.number u.block u.entry) (λ u. HasBase (history_of (log ++ others)) made.number u.block u.entry) (λ u has. base_later log others made.number u.block u.entry has) p.upload made.entry;
      })

  job_later : (k : Kept) (j : Job) → FitsJob mine writer k log j → FitsJob mine writer k (log ++ others) j
  job_later k (Fetching access txn page) fits = tt
  job_later k Polling fits = tt
  job_later k (Creating block retention id) fits = (fits.0, fits.1, fits.2, fits.3, left.unpublished id fits.2 fits.4)
  job_later k (Copying s) fits = (fits.0, publish_later s.publish fits.1, blocks_stay_others mine log others s sound lawful fits.2)
  job_later k (Uploads s view) fits =
      (fits.0, publish_later s.publish fits.1, uploads_stay mine log others view s sound lawful fits.2, fits.3, fits.4, base_later log others s.base.number s.base.block s.base.entry fits.5, fits.6)
  job_later k (Cleaning s) fits = (fits.0, publish_later s.publish fits.1, taken_stays log others s fits.2)
  job_later k Resolving fits = tt

-- the id of the pending publication is mine
pub pending_mine : (p : Parts) (x : PendingPub) → p.kept.pending ≡ Some x → has_id x.id (mine_of p) ≡ true
pending_mine p x e =
    let rest : List Id16 = flat_map (λ (t : Task). names_of_job t.job) p.tasks in
    has_id-later x.id p.id (names_of_pending p.kept.pending ++ rest)
    (subst (λ (o : Option PendingPub). has_id x.id (names_of_pending o ++ rest) ≡ true) (sym e) (has_id-first x.id rest))

pub writer_mine : (p : Parts) → has_id p.id (mine_of p) ≡ true
writer_mine p = has_id-first p.id (names_of_pending p.kept.pending ++ flat_map (λ (t : Task). names_of_job t.job) p.tasks)

pub pending_fits : (log others : List Entry) (p : Parts) (o : Option PendingPub) → p.kept.pending ≡ o → IsSoundLog log → AreLawful (mine_of p) (history_of log) others
    → IfSome o (FitsPending (history_of log) p.id) → IfSome o (FitsPending (history_of (log ++ others)) p.id)
pending_fits log others p None e sound lawful fits = tt
pending_fits log others p (Some x) e sound lawful fits = pending_later (mine_of p) p.id log others sound lawful x (writer_mine p) (pending_mine p x e) fits

pub grows : GrowthFits
grows log others p entries sound lawful fits =
    let mine : List Id16 = mine_of p in
    record {
      named = fits.named;
      is_id = fits.is_id;
      ordered = fits.ordered;
      locals = all_kept (FitsLocal (history_of log)) (FitsLocal (history_of (log ++ others))) (local_later log others) p.kept.locals fits.locals;
      known_order = fits.known_order;
      known_apart = fits.known_apart;
      known = all_kept (FitsKnown (history_of log)) (FitsKnown (history_of (log ++ others))) (known_later log others) p.known fits.known;
      pending = pending_fits log others p p.kept.pending refl sound lawful fits.pending;
      latest = some_kept (IsKept log) (IsKept (log ++ others)) (latest_later log others) p.latest fits.latest;
      seen = seen_later log others p.seen fits.seen;
      txns = all_kept (FitsTxn (history_of log)) (FitsTxn (history_of (log ++ others))) (txn_later log others) p.txns fits.txns;
      tasks = all_kept (FitsTask mine p.id p.kept log) (FitsTask mine p.id p.kept (log ++ others)) (λ t h. job_later mine p.id log others sound lawful p.kept t.job h) p.tasks fits.tasks;
      staged = fits.staged;
      cached = all_kept (FitsEntry (history_of log)) (FitsEntry (history_of (log ++ others))) (entry_later log others) entries fits.cached;
    }

pub leaves_client : GrowthLeavesClient
leaves_client log more p entries f sound fits =
    ap (λ (ts : List m.Txn). record (seen_client (history_of log) p f) { up = Some (record (seen_up (history_of log) p) { txns = ts }) })
    (same_maps (seen_txn (history_of (log ++ more))) (seen_txn (history_of log)) (FitsTxn (history_of log)) (same_txn log more sound) p.txns fits.txns)
