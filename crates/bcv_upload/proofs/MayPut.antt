-- An upload that is ready may publish: its new blocks are its own, every other one is the base's, and it sweeps nothing.
use Rattle.std.proofs.Common.{◌≡◌, ◌∙◌, ◌⊎◌, inl, inr, ℕ, ◌+◌, ◌*◌, ◌<◌, ◌≤◌, Bool, true, false, not, ◌==◌, cond, List, [], ◌∷◌, length, slice_get, Option, Some, None, MatchOption, unwrap_or, nat_le, refl, sym, ap, subst, arith}
use Rattle.std.specs.Cmp.{first_so}
use Rattle.std.specs.List.{list_all}
use Rattle.std.specs.Str.{bytes_eq}
use Rattle.std.proofs.lemmas.Bool.{eqb-true, leb-true}
use Rattle.std.proofs.lemmas.Option.{slice_get-get_or}
use Rattle.bcv_base.specs.declared.id.Id16.{Id16}
use Rattle.bcv_base.specs.declared.log.Entry.{Entry}
use Rattle.bcv_base.specs.declared.manifest.DbEntry.{DbEntry}
use Rattle.bcv_base.specs.declared.manifest.Manifest.{Manifest}
use Rattle.bcv_base.specs.declared.seen.Latest.{Latest}
use Rattle.bcv_base.specs.declared.seen.TxnBase.{TxnBase}
use Rattle.bcv_base.specs.History.{Item, BlockPut, Published, Unreadable, BlockDeleted, ManifestDeleted, first_put, history_of}
use Rattle.bcv_base.specs.HistoryLaws.{id_eq-is}
use Rattle.bcv_base.specs.Ids.{has_id, id_eq}
use Rattle.bcv_base.specs.Image.{Writes, is_base, leaves_page}
use Rattle.bcv_base.specs.Keyed.{keyed}
use Rattle.bcv_base.specs.ManifestRules.{db_name, lists}
use Rattle.bcv_base.specs.Views.{has_local, view_size}
use Rattle.bcv_dbmap.specs.declared.fault.EditFault.{EditFault}
use Rattle.bcv_dbmap.specs.declared.fault.EditFault.TheVariants as fault
use Rattle.bcv_dbmap.specs.declared.plan.EditPlan.{EditPlan}
use Rattle.bcv_dbmap.specs.Applied.{dbs_after, swept_ids}
use Rattle.bcv_dbmap.specs.Checked.{checked, upload_fault, zero_id}
use Rattle.bcv_dbmap.specs.Honest.{GrewHonestly}
use Rattle.bcv_dbmap.specs.Merged.{taken_off}
use Rattle.bcv_dbmap.specs.Outlived.{IsPublished}
use Rattle.bcv_dbmap.specs.OwnBlock.{IsOwnBlock}
use Rattle.bcv_dbmap.specs.Past.{IsAmong, WasEntry}
use Rattle.bcv_dbmap.specs.Sound.{Sound}
use Rattle.bcv_dbmap.proofs.Bools.{or_left}
use Rattle.bcv_dbmap.proofs.Entries.{lists_among}
use Rattle.bcv_dbmap.proofs.KeptLaws.{kept_published}
use Rattle.bcv_dbmap.proofs.Moved.{taken}
use Rattle.bcv_dbmap.proofs.Passes.{passes_parts}
use Rattle.bcv_publish.specs.declared.work.PutEnd.{PutEnd}
use Rattle.bcv_publish.specs.ManifestPut.{MayPublish, ManifestPuts, ManifestPutSound}
use Rattle.bcv_publish.specs.State as publish
use Rattle.bcv_store.specs.StoreShown.{StoreTold, StoreShown}
use Rattle.bcv_upload.specs.BlockText.{per_block, view_block}
use Rattle.bcv_upload.specs.State.{State, IsTask, IsBase, asked_plan, base_id, block_id, id_at, is_among, is_ready, kept_id, needed, plan_of, put_id}
use Rattle.bcv_upload.specs.UploadPut.{MayPut}
use Rattle.bcv_upload.specs.UploadWork.{AreOwnBlocks, WasListed, old_text}
use Rattle.bcv_upload.proofs.Bools.{not_not}
use Rattle.bcv_upload.proofs.BlockNumbers.{full_of, inside_needed, needed_inside, touched_local}
use Rattle.bcv_upload.proofs.EntryIds.{all_put, made_of, none_put}
use Rattle.bcv_upload.proofs.Owned.{has_at}
use Rattle.bcv_upload.proofs.Ranges.{none_there}
use Rattle.bcv_upload.proofs.Tasks.{Ready, kept_of, ready_of}

-- ---- the base's entry is still the one of its name

more_entry : (d : DbEntry) (x : Item) (past : List Item) → WasEntry d past → WasEntry d (x ∷ past)
more_entry d (BlockPut j bytes) past was = was
more_entry d (Published k) past was = inr was
more_entry d Unreadable past was = was
more_entry d (BlockDeleted j at) past was = was
more_entry d ManifestDeleted past was = was

was_entry : (past : List Item) (m : Manifest) (d : DbEntry) → IsPublished m past → IsAmong d m.dbs → WasEntry d past
was_entry [] m d p among = absurd p
was_entry (x ∷ xs) m d (inl is) among = subst (λ (y : Item). WasEntry d (y ∷ xs)) (sym is) (inl among)
was_entry (x ∷ xs) m d (inr p) among = more_entry d x xs (was_entry xs m d p among)

keyed_among : (k : List ℕ) (ds : List DbEntry) (d : DbEntry) → keyed db_name k ds ≡ Some d → IsAmong d ds
keyed_among k [] d is = absurd (let both : ◌≡◌ {A = Option DbEntry} None (Some d) = is in cc)
keyed_among k (e ∷ es) d is = by_test (bytes_eq (db_name e) k) is (keyed_among k es d)
  where
    by_test : (b : Bool) → cond b (Some e) (keyed db_name k es) ≡ Some d → (keyed db_name k es ≡ Some d → IsAmong d es) → IsAmong d (e ∷ es)
    by_test true is rest = let both : ◌≡◌ {A = Option DbEntry} (Some e) (Some d) = is in inl (let same : d ≡ e = cc in same)
    by_test false is rest = inr (rest is)

-- an upload passes only over an entry with the tag on which it stands
same_tag : (o : Option DbEntry) (from : Id16) → upload_fault o from ≡ None → (d : DbEntry) × (o ≡ Some d) × (d.tag ≡ from)
same_tag None from h = absurd (cc)
same_tag (Some d) from h = by_test (id_eq d.tag from) refl h
  where
    by_test : (b : Bool) → id_eq d.tag from ≡ b → ◌≡◌ {A = Option EditFault} (cond b None (Some (fault.Conflict from d.tag))) None → (e : DbEntry) × (Some d ≡ Some e) × (e.tag ≡ from)
    by_test true is h = (d, refl, id_eq-is d.tag from is)
    by_test false is h = absurd (cc)

pub base_listed : (past : List Item) (s : State) (m : Manifest) → Sound past → WasListed past s.base → IsPublished m past → checked m (asked_plan s) s.publish.writer ≡ None → IsAmong s.base.entry m.dbs
base_listed past s m sound w p passes =
    let t = same_tag (keyed db_name s.base.entry.name m.dbs) s.base.entry.tag (passes_parts m (asked_plan s) s.publish.writer passes).plan in
    let among : IsAmong t.0 m.dbs = keyed_among s.base.entry.name m.dbs t.0 t.1 in
    subst (λ (d : DbEntry). IsAmong d m.dbs) (sound.tags t.0 s.base.entry (was_entry past m t.0 p among) (was_entry past w.manifest s.base.entry w.published w.among) t.2) among

-- ---- the blocks that stay

-- a block of the view that holds no local page is one of the base's
pub untouched_base : (base : TxnBase) (view : List Writes) (n : ℕ) → IsBase base → n * per_block base < view_size base.entry.pages view → has_local (per_block base) base.entry.pages view n ≡ false
    → n < length base.entry.blocks
untouched_base base view n is inside none =
    let per : ℕ = per_block base in
    let full = full_of base is in
    let first : not (is_base base.entry.pages view (n * per + 1 + 0)) ≡ false =
    none_there (λ p. not (is_base base.entry.pages view p)) (n * per + 1) _ 0 (omega (arith, full.per, inside)) none
    in
    let base_page : is_base base.entry.pages view (n * per + 1 + 0) ≡ true = not_not (is_base base.entry.pages view (n * per + 1 + 0)) first in
    let below : n * per + 1 + 0 ≤ base.entry.pages = leb-true (n * per + 1 + 0) base.entry.pages (first_so (nat_le (n * per + 1 + 0) base.entry.pages) (list_all (leaves_page (n * per + 1 + 0)) view) base_page) in
    subst (λ (x : ℕ). n < x) (sym is.entry.blocks) (inside_needed base base.entry.pages n full (omega (arith, below)))

-- ---- the blocks that were put

pub own_put : (mine : List Id16) (past : List Item) (base : TxnBase) (view : List Writes) (ids : List Id16) (ks : List ℕ) (n : ℕ) (i : Id16) → AreOwnBlocks mine past base view ids ks → put_id ids ks n ≡ Some i
    → IsOwnBlock mine past base.block i × (first_put past i ≡ Some (view_block base view (old_text past base n) n))
own_put mine past base view [] ks n i own is = absurd (let both : ◌≡◌ {A = Option Id16} None (Some i) = is in cc)
own_put mine past base view (j ∷ js) [] n i own is = absurd own
own_put mine past base view (j ∷ js) (k ∷ ks) n i own is = by_test (k == n) refl is (own_put mine past base view js ks n i own.2)
  where
    by_test : (b : Bool) → (k == n) ≡ b → cond b (Some j) (put_id js ks n) ≡ Some i → (put_id js ks n ≡ Some i → IsOwnBlock mine past base.block i × (first_put past i ≡ Some (view_block base view (old_text past base n) n)))
        → IsOwnBlock mine past base.block i × (first_put past i ≡ Some (view_block base view (old_text past base n) n))
    by_test true here is rest =
        let both : ◌≡◌ {A = Option Id16} (Some j) (Some i) = is in
        let same : j ≡ i = cc in
        let number : k ≡ n = eqb-true k n here in
        (subst (IsOwnBlock mine past base.block) same own.0, ap (first_put past) (sym same) ∙ own.1 ∙ ap (λ (m : ℕ). Some (view_block base view (old_text past base m) m)) number)
    by_test false here is rest = rest is

-- an id of the entry is one of the base's, or one that was put
pub entry_id : (s : State) (n : ℕ) → IsTask s → length s.ids ≡ length s.touched → n < needed s.base s.size
    → ((i : Id16) × (put_id s.ids s.touched n ≡ Some i) × (is_among n s.touched ≡ true)) ⊎ ((is_among n s.touched ≡ false) × (slice_get s.base.entry.blocks n ≡ Some (base_id s.base n)))
entry_id s n t whole below = by_touched (is_among n s.touched) refl
  where
    by_touched : (b : Bool) → is_among n s.touched ≡ b
        → ((i : Id16) × (put_id s.ids s.touched n ≡ Some i) × (is_among n s.touched ≡ true)) ⊎ ((is_among n s.touched ≡ false) × (slice_get s.base.entry.blocks n ≡ Some (base_id s.base n)))
    by_touched true is = let p = all_put s.ids s.touched n whole is in inl (p.0, p.1, is)
    by_touched false is =
        let full = full_of s.base t.base in
        let inside : n * per_block s.base < view_size s.base.entry.pages t.view = subst (λ (x : ℕ). n * per_block s.base < x) t.of_view.size_is (needed_inside s.base s.size n full below) in
        let none = sym (touched_local s.base t.view s.size s.touched n full t.of_view below) ∙ is in
        let there = slice_get-get_or s.base.entry.blocks n zero_id (untouched_base s.base t.view n t.base inside none) in
        inr (is, there ∙ sym (ap (λ (o : Option Id16). Some (unwrap_or o zero_id)) there))

own_or_listed : (mine : List Id16) (past : List Item) (view : List Writes) (s : State) (m : Manifest) (i : Id16) → IsTask s → length s.ids ≡ length s.touched → AreOwnBlocks mine past s.base view s.ids s.touched
    → IsAmong s.base.entry m.dbs → has_id i (taken_off (plan_of s)) ≡ true → lists m.dbs i ≡ false → IsOwnBlock mine past s.base.block i
own_or_listed mine past view s m i t whole own among has unlisted =
    let made = made_of (block_id s.base.entry.blocks s.touched s.ids) 0 (needed s.base s.size) i has in
    by_id made.number made.is (entry_id s made.number t whole (omega (arith, made.high)))
  where
    by_id : (n : ℕ) → block_id s.base.entry.blocks s.touched s.ids n ≡ i
        → ((j : Id16) × (put_id s.ids s.touched n ≡ Some j) × (is_among n s.touched ≡ true)) ⊎ ((is_among n s.touched ≡ false) × (slice_get s.base.entry.blocks n ≡ Some (base_id s.base n)))
        → IsOwnBlock mine past s.base.block i
    by_id n is (inl put) =
        let same : put.0 ≡ i = sym (ap (λ (o : Option Id16). unwrap_or o (kept_id s.base.entry.blocks s.touched n)) put.1) ∙ is in
        subst (IsOwnBlock mine past s.base.block) same (own_put mine past s.base view s.ids s.touched n put.0 own put.1).0
    by_id n is (inr stays) =
        let same : base_id s.base n ≡ i =
        sym (ap (λ (o : Option Id16). unwrap_or o (kept_id s.base.entry.blocks s.touched n)) (none_put s.ids s.touched n stays.0) ∙ ap (λ (b : Bool). cond b zero_id (id_at s.base.entry.blocks n)) stays.0) ∙ is
        in
        let listed : lists m.dbs i ≡ true = lists_among m.dbs s.base.entry i among (has_at s.base.entry.blocks n i (stays.1 ∙ ap (λ (x : Id16). Some x) same)) in
        absurd (let both : true ≡ false = sym listed ∙ unlisted in cc)

may_publish : (mine : List Id16) (log : List Entry) (view : List Writes) (s : State) (l : Latest) (moment : ℕ) → Sound (history_of log) → IsTask s → Ready s l → MayPut mine log view s l
    → MayPublish mine log s.publish l (plan_of s) moment
may_publish mine log view s l moment sound t r may =
    let past : List Item = history_of log in
    let among = base_listed past s l.manifest sound may.blocks.listed (kept_published log l may.kept) r.passed.passes in
    record {
      kept = may.kept;
      writer = may.writer;
      id = may.id;
      fresh = may.fresh;
      blocks =
          λ i listed unlisted. subst (λ (b : ℕ). IsOwnBlock mine past b i) (sym r.passed.block)
          (own_or_listed mine past view s l.manifest i t r.all_put may.blocks.blocks among
          (sym (taken (plan_of s) s.publish.id i l.manifest.dbs unlisted) ∙ or_left (lists (dbs_after (plan_of s) s.publish.id l.manifest.dbs) i) (has_id i (swept_ids (plan_of s))) listed) unlisted);
      swept = λ i h. absurd (cc);
    }

pub any_sound : (store : StoreTold) (mine : List Id16) (old new : StoreShown) (s : State) (plan : EditPlan) (moment : ℕ) (result : PutEnd) (q : publish.State) → plan ≡ plan_of s → IsTask s → is_ready s ≡ true
    → store.tells → Sound (history_of old.log) → GrewHonestly store.alone mine old.log new.log
    → MatchOption s.publish.latest ⊥ (λ read. ManifestPuts store old new s.publish read plan moment result q)
    → MatchOption s.publish.latest ⊥ (λ read. (view : List Writes) → MayPut mine old.log view s read → ManifestPutSound store mine old new s.publish read (plan_of s) moment result q)
any_sound store mine old new s plan moment result q is t ready tells sound honest puts =
    let k = kept_of s ready in
    let of_it = subst (λ (o : Option Latest). MatchOption o ⊥ (λ read. ManifestPuts store old new s.publish read (plan_of s) moment result q)) k.1
    (subst (λ (p : EditPlan). MatchOption s.publish.latest ⊥ (λ read. ManifestPuts store old new s.publish read p moment result q)) is puts) in
    subst (λ (o : Option Latest). MatchOption o ⊥ (λ read. (view : List Writes) → MayPut mine old.log view s read → ManifestPutSound store mine old new s.publish read (plan_of s) moment result q)) (sym k.1)
    (λ view may. of_it.sound tells mine sound honest (may_publish mine old.log view s k.0 moment sound t (ready_of s k.0 t ready k.1) may))
