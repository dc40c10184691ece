-- Each step of a publishing task that goes on lowers it, whatever it publishes.
use Rattle.std.proofs.Common.{◌≡◌, ◌∙◌, ◌⊎◌, inl, inr, ℕ, ◌+◌, ◌-◌, ◌*◌, ◌<◌, ◌≤◌, ◌==◌, ◌&&◌, Bool, true, false, cond, List, [], ◌∷◌, ◌++◌, length, length-append, Option, Some, None, MatchOption, is_some, nat_le, nat_lt, refl, sym, ap, subst, arith}
use Rattle.std.specs.Cmp.{first_so, second_so}
use Rattle.std.specs.Int.{is_power_of_two}
use Rattle.std.proofs.lemmas.Bool.{eqb-false, eqb-true, leb-true, ltb-false, ltb-true}
use Rattle.std.proofs.Math.Nat.{mul-le-mul_left, suc-mul}
use Rattle.std.proofs.lemmas.Nat.{div_below}
use Rattle.bcv_base.specs.declared.id.Id16.{Id16}
use Rattle.bcv_base.specs.declared.seen.Latest.{Latest}
use Rattle.bcv_base.specs.declared.seen.Seen.{Seen}
use Rattle.bcv_base.specs.Image.{Page, Writes}
use Rattle.bcv_base.specs.ManifestRules.{blocks_needed, is_page_size}
use Rattle.bcv_cache.specs.Entry.{Blocks}
use Rattle.bcv_cleanup.specs.CleanupWork as cleaning
use Rattle.bcv_cleanup.specs.Released.{RuleAnswers, TakesDead}
use Rattle.bcv_cleanup.specs.State as cleanup
use Rattle.bcv_dbcopy.specs.State as copy
use Rattle.bcv_dbcopy.specs.TaskWork as copying
use Rattle.bcv_dbmap.specs.Deletions.{most_cleaned}
use Rattle.bcv_dbmap.specs.declared.plan.EditPlan.{EditPlan}
use Rattle.bcv_dbmap.specs.declared.plan.EditPlan.TheVariants as edit
use Rattle.bcv_publish.specs.declared.work.Work.TheVariants as work
use Rattle.bcv_publish.specs.State as publish
use Rattle.bcv_tasks.specs.declared.publish_task.PublishTask.{PublishTask}
use Rattle.bcv_tasks.specs.declared.publish_task.PublishTask.TheVariants as task
use Rattle.bcv_tasks.specs.declared.put_answer.PutAnswer.TheVariants as answer
use Rattle.bcv_tasks.specs.State.{IsRunning, is_ready, left_of, refused_of}
use Rattle.bcv_tasks.specs.TaskPut.{PutLeaves}
use Rattle.bcv_tasks.specs.TaskWork.{WorkLeaves}
use Rattle.bcv_upload.specs.State as upload
use Rattle.bcv_upload.specs.UploadWork as uploading
use Rattle.bcv_client.specs.Descent.{TaskFalls, refusals_of, requests_of}

-- ---- from what a step before the put lowers

-- no more requests of the manifest are left, and fewer in all
record Lowers (t u : PublishTask) : Type 0 where
  requests : requests_of u ≤ requests_of t
  left : left_of u < left_of t

by_requests : (a b : ℕ) → a ≤ b → (a < b) ⊎ (a ≡ b)
by_requests a b le = by (nat_lt a b) refl
  where
    by : (t : Bool) → nat_lt a b ≡ t → (a < b) ⊎ (a ≡ b)
    by true less = inl (ltb-true a b less)
    by false more = inr (omega (arith, le, ltb-false a b more))

work_below : (left : ℕ) (t u : PublishTask) → left ≡ left_of u → refused_of u ≡ refused_of t → Lowers t u → TaskFalls left t u
work_below left t u is same lowers =
    let refusals : refusals_of u ≡ refusals_of t = ap (λ (ns : List ℕ). 8 - length ns) same in
    record { left_is = is; below = inr (refusals, by (by_requests (requests_of u) (requests_of t) lowers.requests)); fewer = omega (arith, refusals, lowers.left) }
  where
    by : (requests_of u < requests_of t) ⊎ (requests_of u ≡ requests_of t) → (requests_of u < requests_of t) ⊎ ((requests_of u ≡ requests_of t) × (left_of u < left_of t))
    by (inl less) = inl less
    by (inr same) = inr (same, lowers.left)

-- ---- the manifest's requests

one_or_two : (o : Option Latest) → 1 ≤ copy.manifest_requests o
one_or_two None = omega arith
one_or_two (Some l) = omega arith

-- a task that is not ready has more to do than the manifest's put
some_left : (n left : ℕ) (o : Option Latest) (l : Latest) → o ≡ Some l → (is_some o && left == 1) ≡ false → left ≡ n + 1 → 0 < n
some_left n left (Some k) l is not_ready at = omega (arith, at, eqb-false left 1 not_ready)
some_left n left None l is not_ready at = absurd (cc)

-- the put is left where a task is ready
one_left : (left : ℕ) (read : Bool) → (read && left == 1) ≡ true → 1 ≤ left
one_left left true ready = omega (arith, eqb-true left 1 ready)
one_left left false ready = absurd (cc)

-- a get of the manifest leaves its put, and any other step its requests
read_lowers : (o x : Option Latest) (l : Latest) → x ≡ Some l → copy.manifest_requests x ≤ copy.manifest_requests o
read_lowers o x l is = subst (λ (y : Option Latest). copy.manifest_requests y ≤ copy.manifest_requests o) (sym is) (one_or_two o)

stays_lowers : (o x : Option Latest) → x ≡ o → copy.manifest_requests x ≤ copy.manifest_requests o
stays_lowers o x is = omega (arith, ap copy.manifest_requests is)

-- ---- new databases, copies and removals

-- blocks of at least a page each are at most as many as the pages
few_blocks : (block size pages : ℕ) → is_page_size block size ≡ true → blocks_needed block size pages ≤ pages
few_blocks block size pages is =
    let inside : size ≤ block = leb-true size block (second_so (nat_le 512 size && nat_le size 65536 && is_power_of_two size) (nat_le size block) is) in
    let large : 512 ≤ size =
    leb-true 512 size (first_so (nat_le 512 size) (nat_le size 65536)
    (first_so (nat_le 512 size && nat_le size 65536) (is_power_of_two size) (first_so (nat_le 512 size && nat_le size 65536 && is_power_of_two size) (nat_le size block) is)))
    in
    let most : pages * size ≤ pages * block = mul-le-mul_left pages inside in
    let one_more : (pages + 1) * block ≡ pages * block + block = ap (λ (n : ℕ). n * block) (omega arith) ∙ suc-mul pages block in
    let below : blocks_needed block size pages < pages + 1 = div_below (pages * size + (block - 1)) block (pages + 1) (omega (arith, inside, large)) (omega (arith, most, one_more, inside, large)) in
    omega (arith, below)

few_needed : (block : ℕ) (e : EditPlan) (pages : List Page) → copy.IsEdit e pages → copy.FitsBlock block e → copy.needed block e ≤ length pages
few_needed block (edit.New e) pages is fits = subst (λ (n : ℕ). copy.needed block (edit.New e) ≤ n) is.count (few_blocks block e.page_size e.pages fits.0)
few_needed block (edit.Upload from e) pages is fits = absurd is
few_needed block (edit.Copy from to) pages is fits = omega arith
few_needed block (edit.Remove name) pages is fits = omega arith
few_needed block (edit.Sweep ids) pages is fits = absurd is

-- the blocks of a size that are still to be put
abbrev blocks_left : ℕ → copy.State → ℕ
blocks_left block s = copy.needed block s.edit - length (copy.put_ids s.edit)

copy_left : (s : copy.State) (block : ℕ) (o : Option Latest) → s.published ≡ false → s.block ≡ Some block → s.publish.latest ≡ o → copy.left_of s ≡ blocks_left block s + copy.manifest_requests o
copy_left s block o waits known is =
    ap (λ (b : Bool). cond b 0 (copy.left_by s.block s)) waits ∙ ap (λ (b : Option ℕ). copy.left_by b s) known ∙ ap (λ (x : Option Latest). blocks_left block s + copy.manifest_requests x) is

-- the manifest is read
copy_reads : (seen : Seen) (s v : copy.State) → copy.IsRunning s → copy.IsRunning v → s.publish.latest ≡ None → copying.WorkLeaves None seen s work.More v → copy.left_of v < copy.left_of s
copy_reads seen s v run later none leaves =
    subst (λ (x : copy.State). copy.left_of x < copy.left_of s) (sym is) (by s.block refl (subst copy.IsRunning is later))
  where
    is : v ≡ copying.with_publish s (publish.with_latest s.publish leaves.1.0)
    is = leaves.2 ∙ ap (copying.with_publish s) leaves.1.5

    by : (b : Option ℕ) → s.block ≡ b → copy.IsRunning (copying.with_publish s (publish.with_latest s.publish leaves.1.0))
        → copy.left_of (copying.with_publish s (publish.with_latest s.publish leaves.1.0)) < copy.left_of s
    by None e run_after =
        let w : copy.State = copying.with_publish s (publish.with_latest s.publish leaves.1.0) in
        let block : ℕ = leaves.1.0.manifest.block in
        let known : w.block ≡ Some block = ap (λ (x : Option ℕ). copying.block_known x (Some leaves.1.0)) e in
        let way : copy.IsUnderWay w block = subst (λ (x : Option ℕ). MatchOption x (copy.IsFresh w) (copy.IsUnderWay w)) known (run_after.task.stage run_after.waits) in
        let few : copy.needed block s.edit ≤ length s.pages = few_needed block s.edit s.pages run.task.edit way.fits in
        let old : copy.left_of s ≡ length s.pages + 2 = ap (λ (b : Bool). cond b 0 (copy.left_by s.block s)) run.waits ∙ ap (λ (x : Option ℕ). copy.left_by x s) e in
        let new : copy.left_of w ≡ blocks_left block w + 1 = copy_left w block (Some leaves.1.0) run_after.waits known refl in
        omega (arith, few, old, new)
    by (Some block) e run_after =
        let w : copy.State = copying.with_publish s (publish.with_latest s.publish leaves.1.0) in
        let known : w.block ≡ Some block = ap (λ (x : Option ℕ). copying.block_known x (Some leaves.1.0)) e in
        let old : copy.left_of s ≡ blocks_left block s + 2 = copy_left s block None run.waits e none in
        let new : copy.left_of w ≡ blocks_left block w + 1 = copy_left w block (Some leaves.1.0) run_after.waits known refl in
        omega (arith, old, new)

-- a block is put
fewer_left : (block : ℕ) (i : Id16) (e : EditPlan) → 0 < copy.needed block e - length (copy.put_ids e)
    → copy.needed block (copy.with_id e i) - length (copy.put_ids (copy.with_id e i)) < copy.needed block e - length (copy.put_ids e)
fewer_left block i (edit.New e) some = omega (arith, some, length-append e.blocks (i ∷ []))
fewer_left block i (edit.Upload from e) some = absurd (omega (arith, some))
fewer_left block i (edit.Copy from to) some = absurd (omega (arith, some))
fewer_left block i (edit.Remove name) some = absurd (omega (arith, some))
fewer_left block i (edit.Sweep ids) some = absurd (omega (arith, some))

copy_puts : (seen : Seen) (s v : copy.State) (l : Latest) → copy.IsRunning s → copy.is_ready s ≡ false → s.publish.latest ≡ Some l → copying.WorkLeaves (Some l) seen s work.More v
    → copy.left_of v < copy.left_of s
copy_puts seen s v l run not_ready is leaves = subst (λ (x : copy.State). copy.left_of x < copy.left_of s) (sym leaves.1) (by s.block refl (run.task.stage run.waits))
  where
    by : (b : Option ℕ) → s.block ≡ b → MatchOption b (copy.IsFresh s) (copy.IsUnderWay s) → copy.left_of (copy.with_block s leaves.0) < copy.left_of s
    by None e fresh = absurd (let both : ◌≡◌ {A = Option Latest} None (Some l) = sym fresh.latest ∙ is in cc)
    by (Some block) e way =
        let old : copy.left_of s ≡ blocks_left block s + 1 = copy_left s block (Some l) run.waits e is in
        let new : copy.left_of (copy.with_block s leaves.0) ≡ blocks_left block (copy.with_block s leaves.0) + 1 = copy_left (copy.with_block s leaves.0) block (Some l) run.waits e is in
        let some : 0 < blocks_left block s = some_left (blocks_left block s) (copy.left_of s) s.publish.latest l is not_ready old in
        omega (arith, old, new, fewer_left block leaves.0 s.edit some)

copy_lowers : (id i : Id16) (seen : Seen) (s v : copy.State) → copy.IsRunning s → copy.IsRunning v → copy.is_ready s ≡ false → (o : Option Latest) → s.publish.latest ≡ o
    → copying.WorkLeaves o seen s work.More v → Lowers (task.Copy id s) (task.Copy i v)
copy_lowers id i seen s v run later not_ready None is leaves =
    let read : v.publish.latest ≡ Some leaves.1.0 = ap (λ (x : copy.State). x.publish.latest) leaves.2 ∙ ap (λ (p : publish.State). p.latest) leaves.1.5 in
    record { requests = read_lowers s.publish.latest v.publish.latest leaves.1.0 read; left = copy_reads seen s v run later is leaves }
copy_lowers id i seen s v run later not_ready (Some l) is leaves = record {
  requests = stays_lowers s.publish.latest v.publish.latest (ap (λ (x : copy.State). x.publish.latest) leaves.1);
  left = copy_puts seen s v l run not_ready is leaves;
}

-- ---- uploads

upload_left : (s : upload.State) (o : Option Latest) → s.published ≡ false → s.publish.latest ≡ o → upload.left_of s ≡ upload.block_requests s + copy.manifest_requests o
upload_left s o waits is = ap (λ (b : Bool). cond b 0 (upload.block_requests s + upload.manifest_requests s.publish.latest)) waits ∙ by s.publish.latest o is
  where
    by : (x y : Option Latest) → x ≡ y → upload.block_requests s + upload.manifest_requests x ≡ upload.block_requests s + copy.manifest_requests y
    by None None is = refl
    by None (Some l) is = absurd (cc)
    by (Some k) None is = absurd (cc)
    by (Some k) (Some l) is = refl

-- the manifest is read
upload_reads : (fetch : Bool) (seen : Seen) (s v : upload.State) → s.published ≡ false → s.publish.latest ≡ None → uploading.WorkLeaves None fetch seen s work.More v
    → upload.left_of v < upload.left_of s
upload_reads fetch seen s v waits none leaves =
    let w : upload.State = uploading.with_publish s (publish.with_latest s.publish leaves.1.0) in
    let is : v ≡ w = leaves.2 ∙ ap (uploading.with_publish s) leaves.1.5 in
    let old : upload.left_of s ≡ upload.block_requests s + 2 = upload_left s None waits none in
    let new : upload.left_of w ≡ upload.block_requests s + 1 = upload_left w (Some leaves.1.0) waits refl in
    subst (λ (x : upload.State). upload.left_of x < upload.left_of s) (sym is) (omega (arith, old, new))

-- old bytes are fetched, or a block is put
abbrev fetch_made : Option (List ℕ) → ℕ
fetch_made o = cond (is_some o) 1 0

upload_fetches : (s v : upload.State) (l : Latest) → s.published ≡ false → upload.is_ready s ≡ false → s.publish.latest ≡ Some l → uploading.FetchLeaves s work.More v
    → upload.left_of v < upload.left_of s
upload_fetches s v l waits not_ready is leaves =
    let w : upload.State = upload.with_fetched s leaves.0 in
    let old : upload.left_of s ≡ upload.block_requests s + 1 = upload_left s (Some l) waits is in
    let new : upload.left_of w ≡ upload.block_requests w + 1 = upload_left w (Some l) waits is in
    let some : 0 < upload.block_requests s = some_left (upload.block_requests s) (upload.left_of s) s.publish.latest l is not_ready old in
    let none : upload.block_requests s ≡ 2 * (length s.touched - length s.ids) - 0 = ap (λ (x : Option (List ℕ)). 2 * (length s.touched - length s.ids) - fetch_made x) leaves.1 in
    subst (λ (x : upload.State). upload.left_of x < upload.left_of s) (sym leaves.3) (omega (arith, old, new, some, none))

upload_puts : (s v : upload.State) (l : Latest) → upload.IsRunning s → upload.is_ready s ≡ false → s.publish.latest ≡ Some l → uploading.BlockLeaves s work.More v
    → upload.left_of v < upload.left_of s
upload_puts s v l run not_ready is leaves =
    let w : upload.State = upload.with_block s leaves.0 in
    let old : upload.left_of s ≡ upload.block_requests s + 1 = upload_left s (Some l) run.waits is in
    let new : upload.left_of w ≡ upload.block_requests w + 1 = upload_left w (Some l) run.waits is in
    let some : 0 < upload.block_requests s = some_left (upload.block_requests s) (upload.left_of s) s.publish.latest l is not_ready old in
    let one_more : length (s.ids ++ leaves.0 ∷ []) ≡ length s.ids + 1 = length-append s.ids (leaves.0 ∷ []) in
    let at_most : fetch_made s.fetched ≤ 1 = one_fetch s.fetched in
    subst (λ (x : upload.State). upload.left_of x < upload.left_of s) (sym leaves.1)
    (fewer_blocks (length s.touched) (length s.ids) (length (s.ids ++ leaves.0 ∷ [])) (fetch_made s.fetched) (upload.left_of s) (upload.left_of w) old new some one_more at_most)
  where
    one_fetch : (o : Option (List ℕ)) → fetch_made o ≤ 1
    one_fetch None = omega arith
    one_fetch (Some bytes) = omega arith

    fewer_blocks : (touched put after fetched left less : ℕ) → left ≡ (2 * (touched - put) - fetched) + 1 → less ≡ (2 * (touched - after) - 0) + 1 → 0 < 2 * (touched - put) - fetched → after ≡ put + 1
        → fetched ≤ 1 → less < left
    fewer_blocks touched put after fetched left less old new some more at_most = omega (arith, old, new, some, more, at_most)

upload_lowers : (id i : Id16) (fetch : Bool) (seen : Seen) (s v : upload.State) → upload.IsRunning s → upload.is_ready s ≡ false → (o : Option Latest) → s.publish.latest ≡ o
    → uploading.WorkLeaves o fetch seen s work.More v → Lowers (task.Upload id s) (task.Upload i v)
upload_lowers id i fetch seen s v run not_ready None is leaves =
    let read : v.publish.latest ≡ Some leaves.1.0 = ap (λ (x : upload.State). x.publish.latest) leaves.2 ∙ ap (λ (p : publish.State). p.latest) leaves.1.5 in
    record { requests = read_lowers s.publish.latest v.publish.latest leaves.1.0 read; left = upload_reads fetch seen s v run.waits is leaves }
upload_lowers id i true seen s v run not_ready (Some l) is leaves = record {
  requests = stays_lowers s.publish.latest v.publish.latest (ap (λ (x : upload.State). x.publish.latest) leaves.3);
  left = upload_fetches s v l run.waits not_ready is leaves;
}
upload_lowers id i false seen s v run not_ready (Some l) is leaves = record {
  requests = stays_lowers s.publish.latest v.publish.latest (ap (λ (x : upload.State). x.publish.latest) leaves.1);
  left = upload_puts s v l run not_ready is leaves;
}

-- ---- cleanups

abbrev cleanup_sum : Option Latest → cleanup.State → ℕ
cleanup_sum o s = cleanup.deletions_left o (cleanup.taken_ids s) s.deleted + cleanup.manifest_requests o

cleanup_left : (s : cleanup.State) (o : Option Latest) → s.published ≡ false → s.publish.latest ≡ o → cleanup.left_of s ≡ cleanup_sum o s
cleanup_left s o waits is = ap (λ (b : Bool). cond b 0 (cleanup_sum s.publish.latest s)) waits ∙ ap (λ (x : Option Latest). cleanup_sum x s) is

-- the manifest is read, and entries are taken where none were
cleanup_reads : (answers : RuleAnswers) (seen : Seen) (s v : cleanup.State) → cleanup.IsRunning s → cleanup.IsRunning v → s.publish.latest ≡ None
    → cleaning.WorkLeaves answers None seen s work.More v → cleanup.left_of v < cleanup.left_of s
cleanup_reads answers seen s v run later none leaves =
    let becomes = leaves.4.3.becomes in
    let waits : v.published ≡ false = ap (λ (x : cleanup.State). x.published) becomes ∙ run.waits in
    let read : v.publish.latest ≡ Some leaves.4.3.read = ap (λ (x : cleanup.State). x.publish.latest) becomes ∙ leaves.4.3.kept in
    let deleted : v.deleted ≡ s.deleted = ap (λ (x : cleanup.State). x.deleted) becomes in
    let taken : cleanup.taken_ids v ≡ leaves.4.0 = ap (λ (x : cleanup.State). cleanup.taken_ids x) becomes in
    let count : length leaves.4.0 ≤ most_cleaned = subst (λ (ids : List Id16). length ids ≤ most_cleaned) taken later.task.few_taken in
    let new : cleanup.left_of v ≡ (length (cleanup.taken_ids v) - v.deleted) + 1 = cleanup_left v (Some leaves.4.3.read) waits read in
    let same : length (cleanup.taken_ids v) ≡ length leaves.4.0 = ap (λ (ids : List Id16). length ids) taken in
    fewer (cleanup.taken_ids s) leaves.4.0 s.deleted (cleanup.left_of s) (cleanup.left_of v) (cleanup_left s None run.waits none) leaves.4.3.finds.takes count (omega (arith, new, same, deleted))
  where
    fewer : (before ids : List Id16) (deleted left less : ℕ) → left ≡ cleanup.deletions_left None before deleted + 2 → TakesDead answers leaves.0 leaves.4.3.read.manifest before ids
        → length ids ≤ most_cleaned → less ≡ (length ids - deleted) + 1 → less < left
    fewer [] ids deleted left less old takes count new = omega (arith, old, count, new)
    fewer (i ∷ is) ids deleted left less old takes count new =
        let same : length ids ≡ length (i ∷ is) = ap (λ (xs : List Id16). length xs) takes in
        omega (arith, old, new, same)

-- a block is deleted
cleanup_deletes : (s v : cleanup.State) (l : Latest) → s.published ≡ false → cleanup.is_ready s ≡ false → s.publish.latest ≡ Some l → cleaning.DeleteLeaves s work.More v
    → cleanup.left_of v < cleanup.left_of s
cleanup_deletes s v l waits not_ready is leaves =
    let w : cleanup.State = record s { deleted = s.deleted + 1 } in
    let old : cleanup.left_of s ≡ (length (cleanup.taken_ids s) - s.deleted) + 1 = cleanup_left s (Some l) waits is in
    let new : cleanup.left_of w ≡ (length (cleanup.taken_ids s) - (s.deleted + 1)) + 1 = cleanup_left w (Some l) waits is in
    let some : 0 < length (cleanup.taken_ids s) - s.deleted = some_left (length (cleanup.taken_ids s) - s.deleted) (cleanup.left_of s) s.publish.latest l is not_ready old in
    subst (λ (x : cleanup.State). cleanup.left_of x < cleanup.left_of s) (sym leaves) (omega (arith, old, new, some))

cleanup_lowers : (id i : Id16) (answers : RuleAnswers) (seen : Seen) (s v : cleanup.State) → cleanup.IsRunning s → cleanup.IsRunning v → cleanup.is_ready s ≡ false → (o : Option Latest)
    → s.publish.latest ≡ o → cleaning.WorkLeaves answers o seen s work.More v → Lowers (task.Cleanup id s) (task.Cleanup i v)
cleanup_lowers id i answers seen s v run later not_ready None is leaves =
    let read : v.publish.latest ≡ Some leaves.4.3.read = ap (λ (x : cleanup.State). x.publish.latest) leaves.4.3.becomes ∙ leaves.4.3.kept in
    record { requests = read_lowers s.publish.latest v.publish.latest leaves.4.3.read read; left = cleanup_reads answers seen s v run later is leaves }
cleanup_lowers id i answers seen s v run later not_ready (Some l) is leaves = record {
  requests = stays_lowers s.publish.latest v.publish.latest (ap (λ (x : cleanup.State). x.publish.latest) leaves);
  left = cleanup_deletes s v l run.waits not_ready is leaves;
}

-- ---- whatever it publishes

-- before the put
pub work_falls : (answers : RuleAnswers) (seen : Seen) (view : List Writes) (c : Blocks) (t u : PublishTask) (left : ℕ) → WorkLeaves answers seen view c t work.More u → IsRunning t → IsRunning u
    → is_ready t ≡ false → left ≡ left_of u → TaskFalls left t u
work_falls answers seen view c t u left leaves run later not_ready is = work_below left t u is leaves.same_refused (by t u leaves run later not_ready)
  where
    by : (t u : PublishTask) → WorkLeaves answers seen view c t work.More u → IsRunning t → IsRunning u → is_ready t ≡ false → Lowers t u
    by (task.Copy id s) (task.Copy i v) leaves run later not_ready = copy_lowers id i seen s v run.1 later.1 not_ready s.publish.latest refl leaves.kind
    by (task.Upload id s) (task.Upload i v) leaves run later not_ready =
        upload_lowers id i (uploading.is_fetch view c s) seen s v run.1 not_ready s.publish.latest refl leaves.kind
    by (task.Cleanup id s) (task.Cleanup i v) leaves run later not_ready = cleanup_lowers id i answers seen s v run.1 later.1 not_ready s.publish.latest refl leaves.kind
    by (task.Create a) u leaves run later not_ready = absurd leaves.kind
    by (task.Copy id s) (task.Create a) leaves run later not_ready = absurd leaves.kind
    by (task.Copy id s) (task.Upload i v) leaves run later not_ready = absurd leaves.kind
    by (task.Copy id s) (task.Cleanup i v) leaves run later not_ready = absurd leaves.kind
    by (task.Upload id s) (task.Create a) leaves run later not_ready = absurd leaves.kind
    by (task.Upload id s) (task.Copy i v) leaves run later not_ready = absurd leaves.kind
    by (task.Upload id s) (task.Cleanup i v) leaves run later not_ready = absurd leaves.kind
    by (task.Cleanup id s) (task.Create a) leaves run later not_ready = absurd leaves.kind
    by (task.Cleanup id s) (task.Copy i v) leaves run later not_ready = absurd leaves.kind
    by (task.Cleanup id s) (task.Upload i v) leaves run later not_ready = absurd leaves.kind

-- a put that was refused
refused_below : (left : ℕ) (t u : PublishTask) → left ≡ 2 → left_of u ≡ 2 → length (refused_of t) < 7 → length (refused_of u) ≡ length (refused_of t) + 1 → 1 ≤ left_of t → TaskFalls left t u
refused_below left t u is two few more some =
    let less : refusals_of u < refusals_of t = omega (arith, few, more) in
    record { left_is = is ∙ sym two; below = inl less; fewer = omega (arith, few, more, two, some) }

pub put_falls : (moment left : ℕ) (t u : PublishTask) → PutLeaves moment t answer.Refused u → IsRunning t → is_ready t ≡ true → left ≡ 2 → left_of u ≡ 2 → TaskFalls left t u
put_falls moment left (task.Create c) u leaves run ready is two = absurd (let both : ◌≡◌ {A = Option Latest} None (Some leaves.1.1.read) = sym run.waits ∙ leaves.1.1.kept in cc)
put_falls moment left (task.Copy id s) u leaves run ready is two =
    refused_below left (task.Copy id s) u is two leaves.0
    (ap (λ (x : PublishTask). length (refused_of x)) leaves.1.1.becomes ∙ length-append s.publish.refused (leaves.1.1.read.manifest.number ∷ []))
    (one_left (copy.left_of s) (is_some s.publish.latest) ready)
put_falls moment left (task.Upload id s) u leaves run ready is two =
    refused_below left (task.Upload id s) u is two leaves.0
    (ap (λ (x : PublishTask). length (refused_of x)) leaves.1.1.becomes ∙ length-append s.publish.refused (leaves.1.1.read.manifest.number ∷ []))
    (one_left (upload.left_of s) (is_some s.publish.latest) ready)
put_falls moment left (task.Cleanup id s) u leaves run ready is two =
    refused_below left (task.Cleanup id s) u is two leaves.0
    (ap (λ (x : PublishTask). length (refused_of x)) leaves.1.1.becomes ∙ length-append s.publish.refused (leaves.1.1.read.manifest.number ∷ []))
    (one_left (cleanup.left_of s) (is_some s.publish.latest) ready)
