-- What each step keeps of an upload.
use Rattle.std.proofs.Common.{◌≡◌, ◌∙◌, inl, inr, ℕ, ◌+◌, ◌-◌, ◌*◌, ◌<◌, ◌≤◌, Bool, true, false, ◌&&◌, ◌||◌, ◌==◌, cond, List, [], ◌∷◌, ◌++◌, length, get_or, length-append, Option, Some, None, IfSome, MatchOption, is_some, is_none, option_copied, Bor, nat_lt, refl, sym, ap, subst, arith}
use Rattle.std.specs.Cmp.{first_so, second_so}
use Rattle.std.specs.List.{AllByRecursion}
use Rattle.std.proofs.lemmas.Bool.{cases_lt, eqb-true, eqb-false}
use Rattle.std.proofs.lemmas.Grind.{get_or_default_zero}
use Rattle.std.proofs.lemmas.List.FromFn.{length-map-range_with_len}
use Rattle.std.proofs.Math.Seq.{get_or-append_seam}
use Rattle.std.proofs.lemmas.Option.{unwrap_or-slice_get}
use Rattle.bcv_base.specs.declared.id.Id16.{Id16}
use Rattle.bcv_base.specs.declared.manifest.Manifest.{Manifest}
use Rattle.bcv_base.specs.declared.seen.Latest.{Latest}
use Rattle.bcv_base.specs.declared.seen.Seen.{Seen}
use Rattle.bcv_base.specs.Ids.{IsId}
use Rattle.bcv_base.specs.Image.{Writes}
use Rattle.bcv_base.specs.Views.{view_size}
use Rattle.bcv_cache.specs.Entry.{Blocks}
use Rattle.bcv_cache.specs.Entry as cache
use Rattle.bcv_dbmap.specs.declared.plan.EditPlan.{EditPlan}
use Rattle.bcv_dbmap.specs.declared.plan.EditPlan.TheVariants as edit
use Rattle.bcv_dbmap.specs.Applied.{FitsPlan}
use Rattle.bcv_dbmap.specs.Checked.{checked}
use Rattle.bcv_dbmap.specs.Filled.{Fills}
use Rattle.bcv_dbmap.proofs.Limits.{applied_meets_limits}
use Rattle.bcv_pages.specs.Held.{Held}
use Rattle.bcv_publish.specs.declared.work.PutEnd.{PutEnd}
use Rattle.bcv_publish.specs.declared.work.PutEnd.TheVariants as put
use Rattle.bcv_publish.specs.declared.work.Work.{Work}
use Rattle.bcv_publish.specs.declared.work.Work.TheVariants as work
use Rattle.bcv_publish.specs.ManifestGet.{GetLeaves}
use Rattle.bcv_publish.specs.ManifestPut.{IsReady, PutLeaves, refused_once}
use Rattle.bcv_publish.specs.ManifestRead.{unlike, is_other, is_past}
use Rattle.bcv_publish.specs.State.{with_latest}
use Rattle.bcv_publish.specs.State as publish
use Rattle.bcv_upload.specs.Inside.{HasPlace, IsNext, IsUpload, listed_at}
use Rattle.bcv_upload.specs.declared.next_text.NextText.{NextText}
use Rattle.bcv_upload.specs.BlockText.{IsViewOf, per_block}
use Rattle.bcv_upload.specs.State.{State, IsFetched, IsRunning, IsTask, Passed, asked_plan, block_id, block_requests, entry_with, is_ready, left_of, manifest_requests, needed, next_block, plan_of, plan_with, view_in, with_block}
use Rattle.bcv_upload.specs.UploadPut.{behind_put, is_published}
use Rattle.bcv_upload.specs.UploadWork.{cache_asked, with_publish}
use Rattle.bcv_upload.proofs.Bools.{not_not}
use Rattle.bcv_upload.proofs.BlockIds.{ids_more}
use Rattle.bcv_upload.proofs.EntryIds.{ids_are, stays}
use Rattle.bcv_upload.proofs.BlockNumbers.{TouchedAre, all_at, full_of, needed_inside, touched_are}

-- what the touched blocks of an upload keep
pub touched_of : (s : State) → IsTask s → TouchedAre s.base s.size s.touched
touched_of s t = touched_are s.base t.view s.size s.touched (full_of s.base t.base) t.of_view

-- the next block is one of the view's
pub next_within : (s : State) → IsTask s → length s.ids < length s.touched → get_or s.touched (length s.ids) 0 < needed s.base s.size
next_within s t more = all_at (λ n. n < needed s.base s.size) s.touched (length s.ids) (touched_of s t).within more

-- the number that is read is that of the next block
pub next_is : (s : State) → next_block s ≡ get_or s.touched (length s.ids) 0
next_is s = unwrap_or-slice_get s.touched (length s.ids) 0

-- ---- the put of a block

pub has_place : (s : State) (plan : EditPlan) (n : ℕ) → plan ≡ plan_of s → n < needed s.base s.size → HasPlace plan n
has_place s plan n is within =
    subst (λ (p : EditPlan). HasPlace p n) (sym is)
    (subst (λ (k : ℕ). n < k) (sym (length-map-range_with_len (block_id s.base.entry.blocks s.touched s.ids) 0 (needed s.base s.size))) within)

passed_later : (s t : State) (o : Option Latest) → t.base ≡ s.base → asked_plan t ≡ asked_plan s → t.publish.writer ≡ s.publish.writer → IfSome o (Passed s) → IfSome o (Passed t)
passed_later s t None base asked writer passed = tt
passed_later s t (Some l) base asked writer passed = record {
  block = passed.block ∙ sym (ap (λ b. b.block) base);
  rules = passed.rules;
  limits = passed.limits;
  passes = ap (λ (p : EditPlan). checked l.manifest p t.publish.writer) asked ∙ ap (λ (w : Id16). checked l.manifest (asked_plan s) w) writer ∙ passed.passes;
}

task_block : (s : State) (i : Id16) → IsTask s → length s.ids < length s.touched → AllByRecursion IsId (s.ids ++ i ∷ []) → IsTask (with_block s i)
task_block s i t more are_ids = record {
  base = t.base;
  small = t.small;
  few = t.few;
  view = t.view;
  of_view = t.of_view;
  id = t.id;
  ids = are_ids;
  most = omega (arith, length-append s.ids (i ∷ []), more);
  fetched = tt;
  read = λ waits. passed_later s (with_block s i) s.publish.latest refl refl refl (t.read waits);
}

-- with one more id, which the edit lists
pub upload_block : (s : State) (asked plan listed : EditPlan) (i last : Id16) (ids : List Id16) (n : ℕ) → IsUpload s asked plan → length s.ids < length s.touched → n ≡ get_or s.touched (length s.ids) 0
    → ids ≡ s.ids ++ i ∷ [] → last ≡ i → listed ≡ listed_at plan n last → AllByRecursion IsId ids → IsUpload (record s { ids = ids; fetched = None }) asked listed
upload_block s asked plan listed i last ids n u more n_is ids_is last_is listed_is are_ids =
    subst (λ (x : List Id16). IsUpload (record s { ids = x; fetched = None }) asked listed) (sym ids_is)
    (record {
      task = task_block s i u.task more (subst (AllByRecursion IsId) ids_is are_ids);
      asked_is = u.asked_is;
      plan_is =
          listed_is ∙ ap (λ (p : EditPlan). listed_at p n last) u.plan_is ∙ ap (λ (x : Id16). listed_at (plan_of s) n x) last_is ∙ ap (λ (k : ℕ). listed_at (plan_of s) k i) n_is
          ∙ ap (λ (x : List Id16). edit.Upload s.base.entry.tag (record (entry_with s.base s.size s.touched s.ids s.publish.id) { blocks = x }))
          (ids_more s.base.entry.blocks s.touched s.ids i (needed s.base s.size) (touched_of s u.task).rises more (next_within s u.task more));
    })

-- the last of some ids
pub last_read : (ids new : List Id16) (i d : Id16) → new ≡ ids ++ i ∷ [] → get_or new (length new - 1) d ≡ i
last_read ids new i d is =
    ap (λ (x : List Id16). get_or x (length x - 1) d) is
    ∙ ap (λ (k : ℕ). get_or (ids ++ i ∷ []) k d) (at (length ids) (length (ids ++ i ∷ [])) (length-append ids (i ∷ []))) ∙ get_or-append_seam ids i [] d
  where
    at : (n m : ℕ) → m ≡ n + 1 → m - 1 ≡ n
    at n m is = omega (arith, is)

pub last_at : (ids new : List Id16) (i last : Id16) (k n : ℕ) → last ≡ get_or new (k - 1) last → k ≡ n → n ≡ length new → new ≡ ids ++ i ∷ [] → last ≡ i
last_at ids new i last k n read k_is n_is is = read ∙ ap (λ (x : ℕ). get_or new (x - 1) last) (k_is ∙ n_is) ∙ last_read ids new i last is

-- a number that is read at a place
pub number_read : (ns : List ℕ) (n k j : ℕ) → n ≡ get_or ns k n → k ≡ j → j < length ns → n ≡ get_or ns j 0
number_read ns n k j read is within = read ∙ ap (λ (x : ℕ). get_or ns x n) is ∙ get_or_default_zero ns j n within

-- ---- the manifest's get

-- a publication with the same names
pub record SameNames (p q : publish.State) : Type 0 where
  pub id : q.id ≡ p.id
  pub writer : q.writer ≡ p.writer

same_names : (p q : publish.State) → q ≡ p → SameNames p q
same_names p q is = record { id = ap (λ (x : publish.State). x.id) is; writer = ap (λ (x : publish.State). x.writer) is }

get_names : (seen : Seen) (plan : EditPlan) (p : publish.State) (result : Work) (q : publish.State) → GetLeaves seen plan p result q → SameNames p q
get_names seen plan p work.More q leaves = record { id = ap (λ (x : publish.State). x.id) leaves.5; writer = ap (λ (x : publish.State). x.writer) leaves.5 }
get_names seen plan p (work.Fault f) q leaves = same_names p q leaves
get_names seen plan p work.NoContainer q leaves = same_names p q leaves
get_names seen plan p (work.BadManifest at) q leaves = same_names p q leaves
get_names seen plan p work.StoreFault q leaves = same_names p q leaves
get_names seen plan p work.NoMemory q leaves = same_names p q leaves
get_names seen plan p work.Nothing q leaves = absurd leaves
get_names seen plan p work.Gone q leaves = absurd leaves
get_names seen plan p (work.BadBlock len) q leaves = absurd leaves
get_names seen plan p work.NameTaken q leaves = absurd leaves
get_names seen plan p work.NamesFault q leaves = absurd leaves
get_names seen plan p work.ClockFault q leaves = absurd leaves

-- a manifest that is taken has the block size that was seen
not_other : (a b c : Bool) → ◌≡◌ {A = Option ℕ} (cond a (Some 8) (cond (b || c) (Some 24) None)) None → b ≡ false
not_other true b c h = absurd (cc)
not_other false true c h = absurd (cc)
not_other false false true h = absurd (cc)
not_other false false false h = refl

seen_block : (p : publish.State) (seen : Seen) (m : Manifest) (block : ℕ) → seen.block ≡ Some block → unlike p seen m ≡ None → m.block ≡ block
seen_block p seen m block is like =
    let other : is_other seen.block m.block ≡ false = not_other (nat_lt m.number seen.number || is_past (publish.last_number p.refused) m.number) (is_other seen.block m.block) (is_other p.block m.block) like in
    let known : is_other (Some block) m.block ≡ false = sym (ap (λ (o : Option ℕ). is_other o m.block) is) ∙ other in
    sym (eqb-true block m.block (not_not (block == m.block) known))

-- with another publication, under the same id
task_publish : (s : State) (p : publish.State) (b : Bool) → IsTask s → p.id ≡ s.publish.id → (b ≡ false → IfSome p.latest (Passed (record s { publish = p; published = b }))) → IsTask (record s { publish = p; published = b })
task_publish s p b t id read = record {
  base = t.base;
  small = t.small;
  few = t.few;
  view = t.view;
  of_view = t.of_view;
  id = subst IsId (sym id) t.id;
  ids = t.ids;
  most = t.most;
  fetched = fetched_later s.fetched t.fetched;
  read = read;
}
  where
    fetched_later : (o : Option (List ℕ)) → IfSome o (IsFetched s) → IfSome o (IsFetched (record s { publish = p; published = b }))
    fetched_later None f = tt
    fetched_later (Some bytes) f = record { whole = f.whole; more = f.more }

read_other : (s : State) (p : publish.State) → IsTask s → p ≡ s.publish → IsTask (with_publish s p)
read_other s p t is = subst (λ (x : publish.State). IsTask (with_publish s x)) (sym is) t

task_read : (seen : Seen) (s : State) (result : Work) (p : publish.State) → IsTask s → seen.block ≡ Some s.base.block → GetLeaves seen (asked_plan s) s.publish result p → IsTask (with_publish s p)
task_read seen s work.More p t block leaves =
    subst (λ (x : publish.State). IsTask (with_publish s x)) (sym leaves.5)
    (task_publish s (with_latest s.publish leaves.0) s.published t refl
    (λ waits. record { block = seen_block s.publish seen leaves.0.manifest s.base.block block leaves.3; rules = leaves.1; limits = leaves.2; passes = leaves.4 }))
task_read seen s (work.Fault f) p t block leaves = read_other s p t leaves
task_read seen s work.NoContainer p t block leaves = read_other s p t leaves
task_read seen s (work.BadManifest at) p t block leaves = read_other s p t leaves
task_read seen s work.StoreFault p t block leaves = read_other s p t leaves
task_read seen s work.NoMemory p t block leaves = read_other s p t leaves
task_read seen s work.Nothing p t block leaves = absurd leaves
task_read seen s work.Gone p t block leaves = absurd leaves
task_read seen s (work.BadBlock len) p t block leaves = absurd leaves
task_read seen s work.NameTaken p t block leaves = absurd leaves
task_read seen s work.NamesFault p t block leaves = absurd leaves
task_read seen s work.ClockFault p t block leaves = absurd leaves

-- the plans are the same under the same id
pub plan_later : (s : State) (ids : List Id16) (p : publish.State) → p.id ≡ s.publish.id → plan_with s ids ≡ plan_with (with_publish s p) ids
plan_later s ids p id = ap (λ (i : Id16). edit.Upload s.base.entry.tag (entry_with s.base s.size s.touched ids i)) (sym id)

pub upload_read : (seen : Seen) (s : State) (asked plan : EditPlan) (result : Work) (p : publish.State) → IsUpload s asked plan → seen.block ≡ Some s.base.block → GetLeaves seen asked s.publish result p → IsUpload (with_publish s p) asked plan
upload_read seen s asked plan result p u block leaves =
    let left : GetLeaves seen (asked_plan s) s.publish result p = subst (λ (x : EditPlan). GetLeaves seen x s.publish result p) u.asked_is leaves in
    let id = (get_names seen (asked_plan s) s.publish result p left).id in
    record { task = task_read seen s result p u.task block left; asked_is = u.asked_is ∙ plan_later s [] p id; plan_is = u.plan_is ∙ plan_later s s.ids p id }

-- ---- the manifest's put

-- what an upload that is ready has
pub record Ready (s : State) (l : Latest) : Type 0 where
  pub still : s.published ≡ false
  pub passed : Passed s l
  pub all_put : length s.ids ≡ length s.touched
  pub none : s.fetched ≡ None

open_ready : (published : Bool) (n : ℕ) → ((cond published 0 n) == 1) ≡ true → (published ≡ false) × (n ≡ 1)
open_ready true n h = absurd (cc)
open_ready false n h = (refl, eqb-true n 1 h)

none_left : (s : State) (o : Option (List ℕ)) → IfSome o (IsFetched s) → length s.ids ≤ length s.touched → (2 * (length s.touched - length s.ids) - cond (is_some o) 1 0) + 1 ≡ 1
    → (length s.ids ≡ length s.touched) × (o ≡ None)
none_left s None f most one = (omega (arith, most, one), refl)
none_left s (Some bytes) f most one = absurd (omega (arith, f.more, one))

pub ready_of : (s : State) (l : Latest) → IsTask s → is_ready s ≡ true → s.publish.latest ≡ Some l → Ready s l
ready_of s l t ready there =
    let o = open_ready s.published (block_requests s + manifest_requests s.publish.latest) (second_so (is_some s.publish.latest) (left_of s == 1) ready) in
    let one : block_requests s + 1 ≡ 1 = sym (ap (λ (x : Option Latest). block_requests s + manifest_requests x) there) ∙ o.1 in
    let none = none_left s s.fetched t.fetched t.most one in
    record { still = o.0; passed = subst (λ (x : Option Latest). IfSome x (Passed s)) there (t.read o.0); all_put = none.0; none = none.1 }

fits_plan : (s : State) (l : Latest) → IsTask s → Passed s l → FitsPlan l.manifest.block (plan_of s)
fits_plan s l t p =
    let b = t.base.entry in
    subst (λ (block : ℕ). FitsPlan block (plan_of s)) (sym p.block)
    (record {
      name = b.name;
      tag = t.id;
      page_size = b.page_size;
      pages = t.small;
      blocks = length-map-range_with_len (block_id s.base.entry.blocks s.touched s.ids) 0 (needed s.base s.size);
      few = omega (arith, t.few, length-map-range_with_len (block_id s.base.entry.blocks s.touched s.ids) 0 (needed s.base s.size));
      ids = ids_are s.base.entry.blocks s.touched s.ids (needed s.base s.size) b.ids t.ids;
    })

pub fills : (s : State) → Fills (asked_plan s) (plan_of s)
fills s = (
  entry_with s.base s.size s.touched s.ids s.publish.id,
  refl,
  record { name = refl; page_size = refl; pages = refl; blocks = λ i h. stays s.base.entry.blocks s.touched s.ids (needed s.base s.size) i h },
)

put_ready : (s : State) (l : Latest) → IsTask s → Ready s l → IsReady l.manifest (plan_of s) s.publish.writer
put_ready s l t r =
    let fits = fits_plan s l t r.passed in
    record {
      rules = r.passed.rules;
      limits = r.passed.limits;
      passes = (applied_meets_limits l.manifest (asked_plan s) (plan_of s) s.publish.id s.publish.writer 0 r.passed.rules r.passed.limits fits r.passed.passes (fills s)).0;
      fits = fits;
    }

-- whatever is kept
pub some_kept : (o : Option Latest) → is_some o ≡ true → (l : Latest) × (o ≡ Some l)
some_kept None h = absurd (cc)
some_kept (Some l) h = (l, refl)

pub kept_of : (s : State) → is_ready s ≡ true → (l : Latest) × (s.publish.latest ≡ Some l)
kept_of s ready = some_kept s.publish.latest (first_so (is_some s.publish.latest) (left_of s == 1) ready)

pub any_ready : (s : State) (plan : EditPlan) → plan ≡ plan_of s → IsTask s → is_ready s ≡ true → MatchOption s.publish.latest ⊥ (λ l. IsReady l.manifest plan s.publish.writer)
any_ready s plan is t ready =
    let k = kept_of s ready in
    subst (λ (p : EditPlan). MatchOption s.publish.latest ⊥ (λ l. IsReady l.manifest p s.publish.writer)) (sym is)
    (subst (λ (o : Option Latest). MatchOption o ⊥ (λ l. IsReady l.manifest (plan_of s) s.publish.writer)) (sym k.1) (put_ready s k.0 t (ready_of s k.0 t ready k.1)))

put_refused : (s : State) (l : Latest) (p : publish.State) → IsTask s → p ≡ refused_once s.publish l → IsTask (record s { publish = p; published = false })
put_refused s l p t is = subst (λ (x : publish.State). IsTask (record s { publish = x; published = false })) (sym is) (task_publish s (refused_once s.publish l) false t refl (λ waits. tt))

put_same : (s : State) (p : publish.State) → IsTask s → s.published ≡ false → p ≡ s.publish → IsTask (record s { publish = p; published = false })
put_same s p t still is =
    subst (λ (x : publish.State). IsTask (record s { publish = x; published = false })) (sym is)
    (subst (λ (b : Bool). IsTask (record s { published = b })) still t)

task_put : (moment : ℕ) (s : State) (plan : EditPlan) (l : Latest) (end : PutEnd) (p : publish.State) → IsTask s → s.published ≡ false → PutLeaves plan moment s.publish l end p → IsTask (behind_put s p end)
task_put moment s plan l (put.Published n) p t still leaves = task_publish s p true t (ap (λ (x : publish.State). x.id) leaves.2) (λ waits. absurd (cc))
task_put moment s plan l put.Refused p t still leaves = put_refused s l p t leaves.1
task_put moment s plan l (put.Contended numbers) p t still leaves = put_refused s l p t leaves.3
task_put moment s plan l put.Unknown p t still leaves = put_same s p t still leaves
task_put moment s plan l put.NoMemory p t still leaves = put_same s p t still leaves

pub any_put : (moment : ℕ) (s : State) (plan : EditPlan) (end : PutEnd) (p : publish.State) → IsTask s → is_ready s ≡ true → MatchOption s.publish.latest ⊥ (λ l. PutLeaves plan moment s.publish l end p) → IsTask (behind_put s p end)
any_put moment s plan end p t ready leaves =
    let k = kept_of s ready in
    task_put moment s plan k.0 end p t (ready_of s k.0 t ready k.1).still (subst (λ (o : Option Latest). MatchOption o ⊥ (λ l. PutLeaves plan moment s.publish l end p)) k.1 leaves)

-- after a refused put the upload goes on
refused_few : (s : State) (l : Latest) (p : publish.State) → length s.publish.refused < 7 → p ≡ refused_once s.publish l → length p.refused < 8
refused_few s l p few is =
    let long : length p.refused ≡ length (s.publish.refused ++ l.manifest.number ∷ []) = ap (λ (x : publish.State). length x.refused) is in
    omega (arith, long, few, length-append s.publish.refused (l.manifest.number ∷ []))

pub any_refused : (moment : ℕ) (s : State) (plan : EditPlan) (end : PutEnd) (p : publish.State) → IsTask (behind_put s p end) → MatchOption s.publish.latest ⊥ (λ l. PutLeaves plan moment s.publish l end p) → end ≡ put.Refused
    → IsRunning (behind_put s p end)
any_refused moment s plan end p task leaves is = by_latest s.publish.latest leaves
  where
    by_latest : (o : Option Latest) → MatchOption o ⊥ (λ l. PutLeaves plan moment s.publish l end p) → IsRunning (behind_put s p end)
    by_latest None leaves = absurd leaves
    by_latest (Some l) leaves =
        let left : PutLeaves plan moment s.publish l put.Refused p = subst (λ (x : PutEnd). PutLeaves plan moment s.publish l x p) is leaves in
        record { task = task; waits = ap is_published is; few = refused_few s l p left.0 left.1 }

-- ---- the next step

left_more : (n i g : ℕ) → i ≤ n → ((2 * (n - i) - g) + 1 ≡ 1 → ⊥) → i < n
left_more n i g most some = elim (cases_lt i n) [
  | inl less ↦ less
  | inr past ↦ absurd (some (omega (arith, past)))
]

-- an upload that is not ready has a block to put, where a manifest is kept
pub more_left : (s : State) (l : Latest) → IsTask s → s.published ≡ false → s.publish.latest ≡ Some l → is_ready s ≡ false → length s.ids < length s.touched
more_left s l t still there not_ready =
    let left : left_of s ≡ block_requests s + 1 = ap (λ (b : Bool). cond b 0 (block_requests s + manifest_requests s.publish.latest)) still ∙ ap (λ (o : Option Latest). block_requests s + manifest_requests o) there in
    let test : (left_of s == 1) ≡ false = sym (ap (λ (o : Option Latest). is_some o && left_of s == 1) there) ∙ not_ready in
    left_more (length s.touched) (length s.ids) (cond (is_some s.fetched) 1 0) t.most (λ one. eqb-false (left_of s) 1 test (left ∙ one))

pub number_at : (s : State) (n k : ℕ) → n ≡ get_or s.touched k n → k ≡ length s.ids → length s.ids < length s.touched → n ≡ next_block s
number_at s n k read is more = number_read s.touched n k (length s.ids) read is more ∙ sym (next_is s)

-- the pages before the next block end within the view
pub next_inside : (s : State) (n : ℕ) (view : List Writes) → IsTask s → IsViewOf s.base view s.size s.touched → length s.ids < length s.touched → n ≡ next_block s → n * per_block s.base < view_size s.base.entry.pages view
next_inside s n view t of_view more is =
    subst (λ (x : ℕ). n * per_block s.base < x) of_view.size_is
    (needed_inside s.base s.size n (full_of s.base t.base) (subst (λ (x : ℕ). x < needed s.base s.size) (sym (is ∙ next_is s)) (next_within s t more)))

pub next_at : (s t : State) (h : Held) (n : ℕ) (es : List cache.Entry) (r : NextText) → s ≡ t → n ≡ next_block s → IsNext s.base (view_in h s.base) n s.fetched es r → IsNext t.base (view_in h t.base) (next_block t) t.fetched es r
next_at s t h n es r same is next =
    subst (λ (x : State). IsNext x.base (view_in h x.base) (next_block x) x.fetched es r) same (subst (λ (k : ℕ). IsNext s.base (view_in h s.base) k s.fetched es r) is next)

pub cache_at : (s t : State) (h : Held) (n : ℕ) (c new : Blocks) → s ≡ t → n ≡ next_block s → new ≡ cache_asked s.base (view_in h s.base) n s.fetched c → new ≡ cache_asked t.base (view_in h t.base) (next_block t) t.fetched c
cache_at s t h n c new same is asked =
    subst (λ (x : State). new ≡ cache_asked x.base (view_in h x.base) (next_block x) x.fetched c) same (subst (λ (k : ℕ). new ≡ cache_asked s.base (view_in h s.base) k s.fetched c) is asked)

-- what is known where a manifest is kept: the next block, by the number that was read
pub record HasNext (s t : State) (n : ℕ) : Type 0 where
  pub latest : Latest
  pub there : t.publish.latest ≡ Some latest
  pub more : length s.ids < length s.touched
  pub more_then : length t.ids < length t.touched
  pub number : n ≡ next_block s

some_copied : (o : Option (Bor Latest)) → is_none o ≡ false → (l : Latest) × (option_copied o ≡ Some l)
some_copied None h = absurd (cc)
some_copied (Some l) h = (l.now, refl)

pub has_next : (s t : State) (o : Option (Bor Latest)) (n k : ℕ) → s ≡ t → option_copied o ≡ s.publish.latest → is_none o ≡ false → IsRunning t → is_ready t ≡ false → n ≡ get_or s.touched k n → k ≡ length s.ids → HasNext s t n
has_next s t o n k same copied some running not_ready read is =
    let kept = some_copied o some in
    let there : t.publish.latest ≡ Some kept.0 = sym (ap (λ (x : State). x.publish.latest) same) ∙ sym copied ∙ kept.1 in
    let more : length t.ids < length t.touched = more_left t kept.0 running.task running.waits there not_ready in
    let before : length s.ids < length s.touched = subst (λ (x : State). length x.ids < length x.touched) (sym same) more in
    record { latest = kept.0; there = there; more = before; more_then = more; number = number_at s n k read is before }
