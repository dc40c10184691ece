-- The steps of a publication before its put, in the machine's words.
use Rattle.std.proofs.Common.{◌≡◌, ◌∙◌, ◌+◌, ◌-◌, ◌/◌, ◌≤◌, ◌==◌, ◌&&◌, ◌⊎◌, ℕ, zero, suc, Bool, true, false, cond, List, [], ◌∷◌, length, Option, Some, None, IsSome, MatchOption, is_some, slice_get, unwrap_or, inl, inr, refl, sym, ap, subst, arith, length-append}
use Rattle.std.proofs.lemmas.Bool.{false≢true, leb-true}
use Rattle.std.proofs.lemmas.Option.{same_Some}
use Rattle.std.specs.Option.{option_map}
use Rattle.bcv_base.specs.declared.id.Id16.{Id16}
use Rattle.bcv_base.specs.declared.manifest.DbEntry.{DbEntry}
use Rattle.bcv_base.specs.declared.manifest.Dead.{Dead}
use Rattle.bcv_base.specs.declared.manifest.Manifest.{Manifest}
use Rattle.bcv_base.specs.declared.outcome.Outcome.TheVariants as outcome
use Rattle.bcv_base.specs.declared.seen.Latest.{Latest}
use Rattle.bcv_base.specs.History.{Item, last_of}
use Rattle.bcv_base.specs.HistoryLaws.{has_id-first}
use Rattle.bcv_base.specs.Ids.{has_id}
use Rattle.bcv_base.specs.Image.{Page, Writes}
use Rattle.bcv_base.specs.Joined.{database_of, joined}
use Rattle.bcv_base.specs.Keyed.{keyed}
use Rattle.bcv_base.specs.ManifestRules.{blocks_needed, dead_id}
use Rattle.bcv_base.specs.Version.{Database, Version}
use Rattle.bcv_base.specs.Versions.{version_of, versions_of}
use Rattle.bcv_base.specs.SizeLimits.{most_blocks}
use Rattle.bcv_base.specs.Views.{touched_blocks}
use Rattle.bcv_cleanup.specs.CleanupWork as cleaning
use Rattle.bcv_cleanup.specs.Released.{RuleAnswers, TakesDead}
use Rattle.bcv_cleanup.specs.State as cleanup
use Rattle.bcv_dbcopy.specs.State as copy
use Rattle.bcv_dbcopy.specs.TaskWork as copying
use Rattle.bcv_dbmap.specs.Checked.{checked}
use Rattle.bcv_dbmap.specs.declared.fault.EditFault.TheVariants as fault
use Rattle.bcv_dbmap.specs.declared.plan.EditPlan.{EditPlan}
use Rattle.bcv_dbmap.specs.declared.plan.EditPlan.TheVariants as edit
use Rattle.bcv_dbmap.specs.Outlived.{IsPublished}
use Rattle.bcv_dbmap.specs.Past.{is_old}
use Rattle.bcv_dbmap.specs.Sound.{Sound}
use Rattle.bcv_machine.specs.ManifestGet.{CanPublish, MayRelease, GetsManifest, IsLeft, IsLeftFirst, after_get, begun_after, begun_first}
use Rattle.bcv_machine.specs.MiddleStep.{GoesOn, IsBlockBegun, Lowers, deleted_by, requested, swept_at, swept_by}
use Rattle.bcv_machine.specs.Starting.{touched_count, upload_blocks}
use Rattle.bcv_machine.specs.Noting.{FaultEnds}
use Rattle.bcv_machine.specs.State as m
use Rattle.bcv_machine.specs.State.{with_up}
use Rattle.bcv_model.specs.declared.kept.PendingPub.{PendingPub}
use Rattle.bcv_model.specs.declared.reply.Reply.{Reply}
use Rattle.bcv_model.specs.declared.reply.Reply.TheVariants as reply
use Rattle.bcv_publish.specs.State as publish
use Rattle.bcv_publish.specs.State.{with_latest}
use Rattle.bcv_upload.specs.State as upload
use Rattle.bcv_upload.specs.UploadWork as uploading
use Rattle.bcv_clientstate.specs.CheckLaws.{IsAskedAs}
use Rattle.bcv_clientstate.specs.SeenClient.{kind_of, seen_cleaning, seen_copying, seen_uploading}
use Rattle.bcv_clientstate.specs.SeenContainer.{block_in, container_of, retention_in}
use Rattle.bcv_clientstate.specs.WorkSides.{CleanupGoesOn, CleanupReads, CopyGoesOn, CopyReads, IsOverLast, IsUploadOf, TakesOld, UploadGoesOn, UploadReads, with_deletion, ReadFails, ReadFindsFault, ReadFindsNone, RequestFails, RequestFindsGone}
use Rattle.bcv_clientstate.specs.Stages.{IsStageOf, IsSweptOf}
use Rattle.bcv_clientstate.proofs.Bases.{base_block, base_database, pages_len}
use Rattle.bcv_clientstate.proofs.CheckLaws.{passes_is_free}
use Rattle.bcv_clientstate.proofs.PutLaws.{last_is_last}
use Rattle.bcv_clientstate.proofs.Stamps.{stamps_are_moments}
use Rattle.bcv_dbmap.proofs.ManifestLaws.{published_is_version}

-- ---- what was read

module _ (moment : ℕ) (past : List Item) (l : Manifest) (x : m.Side) (over : IsOverLast moment past l x) where
  count_is : m.version_count x.container ≡ l.number
  count_is = ap m.version_count over.container ∙ (last_is_last moment past l over.sound over.last).number

  block_is : x.container.block ≡ l.block
  block_is = ap (λ (c : m.Container). c.block) over.container ∙ ap block_in over.last

  free_is : (kind : m.Kind) (plan : EditPlan) (writer : Id16) → IsAskedAs (container_of moment past) kind plan → checked l plan writer ≡ None → CanPublish x.container kind (m.last_version x.container)
  free_is kind plan writer is passes =
      subst (λ (c : m.Container). CanPublish c kind (m.last_version c)) (sym over.container) (passes_is_free moment past l kind plan writer over.sound over.last is passes)

-- the publication that has read a version of a number
read_is : (c : m.Container) (p : m.Publication) (left n : ℕ) → m.version_count c ≡ n → begun_after c p p.refused left ≡ p.begun
    → Some (record p { left = left; read = Some n }) ≡ Some (after_get c p left)
read_is c p left n count begun =
    ap (λ (k : ℕ). Some (record p { left = left; read = Some k })) (sym count)
    ∙ ap (λ (b : Option m.CleanupBegun). Some (record p { left = left; read = Some (m.version_count c); begun = b })) (sym begun)

-- ---- new databases, copies and removals

-- the edit of a task by itself
module _ (pages : List Page) where
  asked : (c : m.Container) (e : EditPlan) → copy.IsEdit e pages → IsAskedAs c (kind_of e pages) e
  asked c (edit.New e) is = (refl, refl, is.count, is.name)
  asked c (edit.Copy from to) is = (refl, refl, is.1)
  asked c (edit.Remove name) is = refl
  asked c (edit.Upload from e) is = absurd is
  asked c (edit.Sweep ids) is = absurd is

  left_first : (c : m.Container) (block : ℕ) (e : EditPlan) → copy.IsEdit e pages → copy.put_ids e ≡ [] → c.block ≡ block
      → IsLeftFirst c (kind_of e pages) ((copy.needed block e - length (copy.put_ids e)) + 1)
  left_first c block (edit.New e) is none same =
      (let long : length e.blocks ≡ 0 = ap length none in omega (arith, long))
      ∙ ap (λ (b : ℕ). blocks_needed b e.page_size e.pages + 1) (sym same)
      ∙ ap (λ (n : ℕ). blocks_needed c.block e.page_size n + 1) is.count
  left_first c block (edit.Copy from to) is none same = refl
  left_first c block (edit.Remove name) is none same = refl
  left_first c block (edit.Upload from e) is none same = absurd is
  left_first c block (edit.Sweep ids) is none same = absurd is

  begun_none : (c : m.Container) (p : m.Publication) (e : EditPlan) (refused : List ℕ) (left : ℕ) → copy.IsEdit e pages → p.kind ≡ kind_of e pages → p.begun ≡ None
      → begun_after c p refused left ≡ p.begun
  begun_none c p e (n ∷ ns) left is kind none = refl
  begun_none c p (edit.New e) [] left is kind none = ap (λ (k : m.Kind). begun_first c k left) kind ∙ sym none
  begun_none c p (edit.Copy from to) [] left is kind none = ap (λ (k : m.Kind). begun_first c k left) kind ∙ sym none
  begun_none c p (edit.Remove name) [] left is kind none = ap (λ (k : m.Kind). begun_first c k left) kind ∙ sym none
  begun_none c p (edit.Upload from e) [] left is kind none = absurd is
  begun_none c p (edit.Sweep ids) [] left is kind none = absurd is

  lowers : (block : ℕ) (e : EditPlan) (i : Id16) → copy.IsEdit e pages → 1 ≤ copy.needed block e - length (copy.put_ids e)
      → Lowers (kind_of e pages) ((copy.needed block e - length (copy.put_ids e)) + 1) ((copy.needed block (copy.with_id e i) - length (copy.put_ids (copy.with_id e i))) + 1)
  lowers block (edit.New e) i is some = let more = length-append e.blocks (i ∷ []) in omega (arith, more, some)
  lowers block (edit.Copy from to) i is some = absurd (omega (arith, some))
  lowers block (edit.Remove name) i is some = absurd (omega (arith, some))
  lowers block (edit.Upload from e) i is some = absurd is
  lowers block (edit.Sweep ids) i is some = absurd is

  same_kind : (e : EditPlan) (i : Id16) → kind_of (copy.with_id e i) pages ≡ kind_of e pages
  same_kind (edit.New e) i = refl
  same_kind (edit.Copy from to) i = refl
  same_kind (edit.Remove name) i = refl
  same_kind (edit.Upload from e) i = refl
  same_kind (edit.Sweep ids) i = refl

  deletes_none : (p : m.Publication) (c : m.Container) (e : EditPlan) → copy.IsEdit e pages → deleted_by p (kind_of e pages) c ≡ c
  deletes_none p c (edit.New e) is = refl
  deletes_none p c (edit.Copy from to) is = refl
  deletes_none p c (edit.Remove name) is = refl
  deletes_none p c (edit.Upload from e) is = absurd is
  deletes_none p c (edit.Sweep ids) is = absurd is

-- what is left of a task that was not published
left_waits : (s : copy.State) → s.published ≡ false → copy.left_of s ≡ copy.left_by s.block s
left_waits s waits = ap (λ (b : Bool). cond b 0 (copy.left_by s.block s)) waits

module _ (c : m.Container) (s : copy.State) (l : Latest) (same : c.block ≡ l.manifest.block) (run : copy.IsRunning s) (unread : s.publish.latest ≡ None) where
  abbrev read : copy.State
  read = copying.with_publish s (with_latest s.publish l)

  left_read : (o : Option ℕ) → s.block ≡ o → copy.left_of read ≡ copy.left_by (copying.block_known o (Some l)) read
  left_read o e = left_waits read run.waits ∙ ap (λ (b : Option ℕ). copy.left_by (copying.block_known b (Some l)) read) e

  later_left : (block : ℕ) (way : copy.IsRefused s block) → s.block ≡ Some block → (refused : List ℕ) → s.publish.refused ≡ refused → IsLeft c (kind_of s.edit s.pages) refused (copy.left_of read)
  later_left block way e [] none = let some = way.some in let long : length s.publish.refused ≡ 0 = ap length none in absurd (omega (arith, some, long))
  later_left block way e (n ∷ ns) is = let all = way.all_put in let left = left_read (Some block) e in omega (arith, all, left)

  is_left : (o : Option ℕ) → s.block ≡ o → MatchOption o (copy.IsFresh s) (copy.IsUnderWay s) → IsLeft c (kind_of s.edit s.pages) s.publish.refused (copy.left_of read)
  is_left None e fresh =
      subst (λ (ns : List ℕ). IsLeft c (kind_of s.edit s.pages) ns (copy.left_of read)) (sym fresh.refused)
      (subst (IsLeftFirst c (kind_of s.edit s.pages)) (sym (left_read None e)) (left_first s.pages c l.manifest.block s.edit run.task.edit fresh.ids same))
  is_left (Some block) e way = later_left block (subst (λ (o : Option Latest). copy.IsRead s o block) unread way.read) e s.publish.refused refl

pub copy_reads : CopyReads
copy_reads moment past waiting s l p x u over run unread checks =
    subst (λ (q : publish.State). GetsManifest x u (seen_copying waiting s) outcome.Ok (reply.Working (copy.left_of (copying.with_publish s q))) (with_up x u) (Some (seen_copying waiting (copying.with_publish s q)))) (sym checks.1) (
      free_is moment past l.manifest x over (kind_of s.edit s.pages) s.edit s.publish.writer (asked s.pages (container_of moment past) s.edit run.task.edit) checks.0,
      is_left x.container s l (block_is moment past l.manifest x over) run unread s.block refl (run.task.stage run.waits),
      refl,
      read_is x.container (seen_copying waiting s) (copy.left_of (copying.with_publish s (with_latest s.publish l))) l.manifest.number (count_is moment past l.manifest x over)
          (begun_none s.pages x.container (seen_copying waiting s) s.edit s.publish.refused (copy.left_of (copying.with_publish s (with_latest s.publish l))) run.task.edit refl refl),
    )

-- a number of requests that is not the put alone
some_more : (k : ℕ) → ((k + 1) == 1) ≡ false → 1 ≤ k
some_more zero e = absurd (false≢true (sym e))
some_more (suc k) e = omega arith

module _ (waiting : Option PendingPub) (s : copy.State) (l : Latest) (i : Id16) (x : m.Side) (u : m.Up) (run : copy.IsRunning s) (kept : s.publish.latest ≡ Some l) (more : copy.is_ready s ≡ false) where
  abbrev next : copy.State
  next = copy.with_block s i

  abbrev waits_for : ℕ → ℕ
  waits_for block = copy.needed block s.edit - length (copy.put_ids s.edit)

  left_kept : (t : copy.State) (block : ℕ) → t.published ≡ false → t.block ≡ Some block → t.publish.latest ≡ Some l → copy.left_of t ≡ (copy.needed block t.edit - length (copy.put_ids t.edit)) + 1
  left_kept t block waits e there =
      left_waits t waits ∙ ap (λ (o : Option ℕ). copy.left_by o t) e ∙ ap (λ (o : Option Latest). (copy.needed block t.edit - length (copy.put_ids t.edit)) + copy.manifest_requests o) there

  not_alone : (block : ℕ) → s.block ≡ Some block → 1 ≤ waits_for block
  not_alone block e =
      some_more (waits_for block)
      (ap (λ (n : ℕ). n == 1) (sym (left_kept s block run.waits e kept)) ∙ ap (λ (o : Option Latest). is_some o && (copy.left_of s == 1)) (sym kept) ∙ more)

  by_block : (o : Option ℕ) → s.block ≡ o → MatchOption o (copy.IsFresh s) (copy.IsUnderWay s) → Lowers (kind_of s.edit s.pages) (copy.left_of s) (copy.left_of next)
  by_block None e fresh = let none = fresh.latest in absurd (cc)
  by_block (Some block) e way =
      subst (λ (n : ℕ). Lowers (kind_of s.edit s.pages) n (copy.left_of next)) (sym (left_kept s block run.waits e kept))
      (subst (Lowers (kind_of s.edit s.pages) (waits_for block + 1)) (sym (left_kept next block run.waits e kept)) (lowers s.pages block s.edit i run.task.edit (not_alone block e)))

  goes_on : GoesOn x u (seen_copying waiting s) outcome.Ok (reply.Working (copy.left_of next)) (with_up x u) (Some (seen_copying waiting next))
  goes_on = (
    by_block s.block refl (run.task.stage run.waits),
    ap (λ (c : m.Container). with_up (record x { container = c }) u) (sym (deletes_none s.pages (seen_copying waiting s) x.container s.edit run.task.edit)),
    ap (λ (k : m.Kind). Some (record (seen_copying waiting s) { kind = k; left = copy.left_of next })) (same_kind s.pages s.edit i),
  )

pub copy_goes_on : CopyGoesOn
copy_goes_on waiting s l i x u run kept more = goes_on waiting s l i x u run kept more

-- ---- uploads

-- whether a get of old bytes was made, as a count
abbrev get_made : Option (List ℕ) → ℕ
get_made o = cond (is_some o) 1 0

module _ (moment : ℕ) (past : List Item) (l : Latest) (s : upload.State) (view : List Writes) (x : m.Side) (over : IsOverLast moment past l.manifest x) (is : IsUploadOf past s view) where
  abbrev e : DbEntry
  e = s.base.entry

  abbrev c : m.Container
  c = container_of moment past

  abbrev after : upload.State
  after = uploading.with_publish s (with_latest s.publish l)

  there : m.database_at c s.base.number e.name ≡ Some (database_of past e)
  there = base_database moment past s.base.number s.base.block e over.sound is.base

  same_block : c.block ≡ s.base.block
  same_block = base_block past s.base.number s.base.block e over.sound is.base

  upload_asked : IsAskedAs c (m.Uploading e.name s.base.number view) (upload.asked_plan s)
  upload_asked = (
    refl,
    record { mine = database_of past e; there = there; tag = refl },
    subst (λ (b : ℕ). blocks_needed b e.page_size s.size ≤ most_blocks) (sym same_block) is.running.task.few,
  )

  -- as many blocks are put as hold a page that the commits made
  touched_is : length s.touched ≡ upload_blocks c e.name s.base.number view
  touched_is =
      ap length is.of_view.touched_are
      ∙ ap (λ (b : ℕ). length (touched_blocks (b / e.page_size) e.pages view)) (sym same_block)
      ∙ ap (λ (n : ℕ). length (touched_blocks (c.block / e.page_size) n view)) (sym (pages_len e.pages e.page_size (joined past e.blocks)))
      ∙ ap (λ (o : Option Database). unwrap_or (option_map (touched_count c.block view) o) 0) (sym there)

  left_after : upload.left_of after ≡ upload.block_requests s + 1
  left_after = ap (λ (b : Bool). cond b 0 (upload.block_requests s + 1)) is.running.waits

  upload_left : (refused : List ℕ) → s.publish.refused ≡ refused → s.publish.latest ≡ None → IsStageOf refused s → IsLeft c (m.Uploading e.name s.base.number view) refused (upload.left_of after)
  upload_left [] none unread fresh =
      let ids : length s.ids ≡ 0 = ap length fresh.0 in
      let one : get_made s.fetched ≡ 0 = ap get_made fresh.1 in
      omega (arith, left_after, touched_is, ids, one)
  upload_left (n ∷ ns) some unread two =
      let now : upload.left_of s ≡ upload.block_requests s + 2 =
      ap (λ (b : Bool). cond b 0 (upload.block_requests s + upload.manifest_requests s.publish.latest)) is.running.waits
      ∙ ap (λ (o : Option Latest). upload.block_requests s + upload.manifest_requests o) unread in
      omega (arith, left_after, now, two)

  upload_begun : (p : m.Publication) (refused : List ℕ) (left : ℕ) → p.kind ≡ m.Uploading e.name s.base.number view → p.begun ≡ None → begun_after x.container p refused left ≡ p.begun
  upload_begun p [] left kind none = ap (λ (k : m.Kind). begun_first x.container k left) kind ∙ sym none
  upload_begun p (n ∷ ns) left kind none = refl

pub upload_reads : UploadReads
upload_reads moment past waiting s view l p x u over is unread checks =
    let kind : m.Kind = m.Uploading s.base.entry.name s.base.number view in
    subst (λ (q : publish.State). GetsManifest x u (seen_uploading waiting s view) outcome.Ok (reply.Working (upload.left_of (uploading.with_publish s q))) (with_up x u) (Some (seen_uploading waiting (uploading.with_publish s q) view))) (sym checks.1) (
      free_is moment past l.manifest x over kind (upload.asked_plan s) s.publish.writer (upload_asked moment past l s view x over is) checks.0,
      subst (λ (c : m.Container). IsLeft c kind s.publish.refused (upload.left_of (uploading.with_publish s (with_latest s.publish l)))) (sym over.container) (upload_left moment past l s view x over is s.publish.refused refl unread (is.staged unread)),
      refl,
      read_is x.container (seen_uploading waiting s view) (upload.left_of (uploading.with_publish s (with_latest s.publish l))) l.manifest.number (count_is moment past l.manifest x over)
          (upload_begun moment past l s view x over is (seen_uploading waiting s view) s.publish.refused (upload.left_of (uploading.with_publish s (with_latest s.publish l))) refl refl),
    )

-- ---- the blocks of an upload

left_with : (t : upload.State) (l : Latest) → t.published ≡ false → t.publish.latest ≡ Some l → upload.left_of t ≡ upload.block_requests t + 1
left_with t l waits kept =
    ap (λ (b : Bool). cond b 0 (upload.block_requests t + upload.manifest_requests t.publish.latest)) waits
    ∙ ap (λ (o : Option Latest). upload.block_requests t + upload.manifest_requests o) kept

module _ (s : upload.State) (l : Latest) (run : upload.IsRunning s) (kept : s.publish.latest ≡ Some l) (more : upload.is_ready s ≡ false) where
  requests_wait : 1 ≤ upload.block_requests s
  requests_wait =
      some_more (upload.block_requests s) (ap (λ (n : ℕ). n == 1) (sym (left_with s l run.waits kept)) ∙ ap (λ (o : Option Latest). is_some o && (upload.left_of s == 1)) (sym kept) ∙ more)

  -- the get of old bytes: one request less
  fetched_lowers : (bytes : List ℕ) → s.fetched ≡ None → upload.left_of (upload.with_fetched s bytes) + 1 ≡ upload.left_of s
  fetched_lowers bytes none =
      let wait = requests_wait in
      let now : upload.left_of s ≡ upload.block_requests s + 1 = left_with s l run.waits kept in
      let then : upload.left_of (upload.with_fetched s bytes) ≡ upload.block_requests (upload.with_fetched s bytes) + 1 = left_with (upload.with_fetched s bytes) l run.waits kept in
      let one : get_made s.fetched ≡ 0 = ap get_made none in
      omega (arith, wait, now, then, one)

  -- the put of a block: one request less where its old bytes were fetched, and else two, after a whole number of blocks
  put_lowers : (i : Id16) (o : Option (List ℕ)) → s.fetched ≡ o → (upload.left_of (upload.with_block s i) + 1 ≡ upload.left_of s) ⊎ (IsBlockBegun (upload.left_of s) × (upload.left_of (upload.with_block s i) + 2 ≡ upload.left_of s))
  put_lowers i (Some bytes) some =
      let wait = requests_wait in
      let now : upload.left_of s ≡ upload.block_requests s + 1 = left_with s l run.waits kept in
      let then : upload.left_of (upload.with_block s i) ≡ upload.block_requests (upload.with_block s i) + 1 = left_with (upload.with_block s i) l run.waits kept in
      let one : get_made s.fetched ≡ 1 = ap get_made some in
      let long = length-append s.ids (i ∷ []) in
      inl (omega (arith, wait, now, then, one, long))
  put_lowers i None none =
      let wait = requests_wait in
      let now : upload.left_of s ≡ upload.block_requests s + 1 = left_with s l run.waits kept in
      let then : upload.left_of (upload.with_block s i) ≡ upload.block_requests (upload.with_block s i) + 1 = left_with (upload.with_block s i) l run.waits kept in
      let one : get_made s.fetched ≡ 0 = ap get_made none in
      let long = length-append s.ids (i ∷ []) in
      inr (omega (arith, wait, now, one), omega (arith, wait, now, then, one, long))

pub upload_goes_on : UploadGoesOn
upload_goes_on waiting s t view l true seen x u run kept more leaves =
    subst (λ (n : upload.State). GoesOn x u (seen_uploading waiting s view) outcome.Ok (reply.Working (upload.left_of n)) (with_up x u) (Some (seen_uploading waiting n view))) (sym leaves.3)
    (inl (fetched_lowers s l run kept more leaves.0 leaves.1), refl, refl)
upload_goes_on waiting s t view l false seen x u run kept more leaves =
    subst (λ (n : upload.State). GoesOn x u (seen_uploading waiting s view) outcome.Ok (reply.Working (upload.left_of n)) (with_up x u) (Some (seen_uploading waiting n view))) (sym leaves.1)
    (put_lowers s l run kept more leaves.0 s.fetched refl, refl, refl)

-- ---- cleanups

-- a version since which the retention has passed
release_at : (c : m.Container) (vs : List Version) (n : ℕ) (v : Version) → slice_get vs n ≡ Some v → v.moment + c.retention ≤ c.moment → MayRelease c vs
release_at c [] n v there passed = absurd (cc)
release_at c (w ∷ ws) zero v there passed = inl (subst (λ (y : Version). y.moment + c.retention ≤ c.moment) (sym (same_Some w v there)) passed)
release_at c (w ∷ ws) (suc n) v there passed = inr (release_at c ws n v there passed)

-- the entry of a delete list that lies the retention back
by_dead : (past : List Item) (l : Manifest) (moment : ℕ) (i : Id16) (o : Option Dead) → keyed dead_id i.0 l.dead ≡ o → is_old o l.retention moment ≡ true → Sound past → last_of past ≡ Some l
    → MayRelease (container_of moment past) (versions_of past)
by_dead past l moment i None found old sound last = absurd (false≢true old)
by_dead past l moment i (Some e) found old sound last =
    let k : (k : Manifest) × IsPublished k past × (k.moment ≡ e.stamp) = stamps_are_moments past l i e sound last found in
    let passed : e.stamp + l.retention ≤ moment = leb-true (e.stamp + l.retention) moment old in
    let kept : retention_in (last_of past) ≡ l.retention = ap retention_in last in
    let stamp = k.2 in
    release_at (container_of moment past) (versions_of past) (k.0.number - 1) (version_of past k.0) (published_is_version past k.0 sound k.1).at (omega (arith, passed, kept, stamp))

first_taken : (past : List Item) (l : Manifest) (moment : ℕ) (ids : List Id16) → 1 ≤ length ids → ((i : Id16) → has_id i ids ≡ true → is_old (keyed dead_id i.0 l.dead) l.retention moment ≡ true)
    → Sound past → last_of past ≡ Some l → MayRelease (container_of moment past) (versions_of past)
first_taken past l moment [] some expired sound last = absurd (omega (arith, some))
first_taken past l moment (i ∷ is) some expired sound last = by_dead past l moment i (keyed dead_id i.0 l.dead) refl (expired i (has_id-first i is)) sound last

-- what is taken at the first get, and at a later one
takes_first : (at : ℕ) (l : Manifest) (before ids : List Id16) → before ≡ [] → TakesOld at l before ids → TakesOld at l [] ids
takes_first at l [] ids e takes = takes
takes_first at l (i ∷ is) ids e takes = absurd (cc)

takes_same : (at : ℕ) (l : Manifest) (before ids : List Id16) → 1 ≤ length before → TakesOld at l before ids → ids ≡ before
takes_same at l [] ids some takes = absurd (omega (arith, some))
takes_same at l (i ∷ is) ids some takes = takes

-- a rule's walk takes so
pub takes_old : (answers : RuleAnswers) (at : ℕ) (l : Manifest) (before ids : List Id16) → TakesDead answers at l before ids → TakesOld at l before ids
takes_old answers at l [] ids takes = takes.expired
takes_old answers at l (i ∷ is) ids takes = takes

moment_same : (o : Option ℕ) (at : ℕ) → IsSome o → cleaning.IsMoment o at → o ≡ Some at
moment_same None at some is = absurd (false≢true some)
moment_same (Some earlier) at some is = ap Some (sym is)

timed : (o : Option ℕ) (ids : List Id16) → 1 ≤ length ids → cleanup.IsTimed o ids → IsSome o
timed o [] some is = absurd (omega (arith, some))
timed o (i ∷ is) some known = known

module _ (moment at : ℕ) (past : List Item) (waiting : Option PendingPub) (s : cleanup.State) (l : Latest) (ids : List Id16) (more : Bool) (x : m.Side)
    (over : IsOverLast moment past l.manifest x) (run : cleanup.IsRunning s) (unread : s.publish.latest ≡ None) (takes : TakesOld at l.manifest (cleanup.taken_ids s) ids)
    (is_moment : cleaning.IsMoment s.moment at) where
  abbrev swept : cleanup.State
  swept = cleaning.with_taken s (with_latest s.publish l) at ids more

  left_swept : cleanup.left_of swept ≡ (length ids - s.deleted) + 1
  left_swept = ap (λ (b : Bool). cond b 0 ((length ids - s.deleted) + 1)) run.waits

  none_left : s.deleted ≡ length (cleanup.taken_ids s)
  none_left = subst (cleanup.IsRead s) unread (run.task.stage run.waits)

  left_then : (refused : List ℕ) → s.publish.refused ≡ refused → IsSweptOf refused s → cleanup.IsRunning swept → (s.moment ≡ None → at ≡ moment)
      → IsLeft (container_of moment past) m.Cleaning refused (cleanup.left_of swept)
  left_then [] e fresh runs now =
      let none : length (cleanup.taken_ids s) ≡ 0 = ap length fresh.1 in
      let some = runs.begun in
      let few = runs.task.few_taken in
      let first : TakesOld at l.manifest [] ids = takes_first at l.manifest (cleanup.taken_ids s) ids fresh.1 takes in (
        omega (arith, left_swept, none_left, none, some),
        omega (arith, left_swept, none_left, none, few),
        first_taken past l.manifest moment ids some (λ i among. subst (λ (n : ℕ). is_old (keyed dead_id i.0 l.manifest.dead) l.manifest.retention n ≡ true) (now fresh.0) (first i among)) over.sound over.last,
      )
  left_then (n ∷ ns) e some runs now =
      let same : length ids ≡ length (cleanup.taken_ids s) = ap length (takes_same at l.manifest (cleanup.taken_ids s) ids some takes) in
      omega (arith, left_swept, none_left, same)

  begun_then : (refused : List ℕ) → s.publish.refused ≡ refused → IsSweptOf refused s → (s.moment ≡ None → at ≡ moment)
      → begun_after (container_of moment past) (seen_cleaning waiting s) refused (cleanup.left_of swept) ≡ Some (record { moment = at; count = length ids })
  begun_then [] e fresh now =
      let none : length (cleanup.taken_ids s) ≡ 0 = ap length fresh.1 in
      let count : cleanup.left_of swept - 1 ≡ length ids = omega (arith, left_swept, none_left, none) in
      ap (λ (n : ℕ). Some (record { moment = n; count = cleanup.left_of swept - 1 })) (sym (now fresh.0)) ∙ ap (λ (n : ℕ). Some (record { moment = at; count = n })) count
  begun_then (n ∷ ns) e some now =
      ap (λ (o : Option ℕ). option_map (λ (k : ℕ). record { moment = k; count = length (cleanup.taken_ids s) }) o) (moment_same s.moment at (timed s.moment (cleanup.taken_ids s) some run.task.timed) is_moment)
      ∙ ap (λ (is : List Id16). Some (record { moment = at; count = length is })) (sym (takes_same at l.manifest (cleanup.taken_ids s) ids some takes))

-- the publication that has read a version, and began
began_is : (c : m.Container) (p : m.Publication) (left n : ℕ) (b : Option m.CleanupBegun) → m.version_count c ≡ n → begun_after c p p.refused left ≡ b
    → Some (record p { left = left; read = Some n; begun = b }) ≡ Some (after_get c p left)
began_is c p left n b count begun =
    ap (λ (k : ℕ). Some (record p { left = left; read = Some k; begun = b })) (sym count)
    ∙ ap (λ (o : Option m.CleanupBegun). Some (record p { left = left; read = Some (m.version_count c); begun = o })) (sym begun)

asks_sweep : (c : m.Container) (e : EditPlan) (ids : List Id16) → e ≡ edit.Sweep ids → IsAskedAs c m.Cleaning e
asks_sweep c e ids is = subst (IsAskedAs c m.Cleaning) (sym is) tt

module _ (moment at : ℕ) (past : List Item) (waiting : Option PendingPub) (s : cleanup.State) (l : Latest) (ids : List Id16) (more : Bool) (x : m.Side) (u : m.Up)
    (over : IsOverLast moment past l.manifest x) (run : cleanup.IsRunning s) (unread : s.publish.latest ≡ None) (takes : TakesOld at l.manifest (cleanup.taken_ids s) ids)
    (is_moment : cleaning.IsMoment s.moment at) (now : s.moment ≡ None → at ≡ moment) (swept_of : IsSweptOf s.publish.refused s) where
  abbrev taking : cleanup.State
  taking = cleaning.with_taken s (with_latest s.publish l) at ids more

  sweep_reads : cleanup.IsRunning taking → CanPublish x.container m.Cleaning (m.last_version x.container)
      → GetsManifest x u (seen_cleaning waiting s) outcome.Ok (reply.Working (cleanup.left_of taking)) (with_up x u) (Some (seen_cleaning waiting taking))
  sweep_reads runs free = (
    free,
    subst (λ (c : m.Container). IsLeft c m.Cleaning s.publish.refused (cleanup.left_of taking)) (sym over.container) (left_then moment at past waiting s l ids more x over run unread takes is_moment s.publish.refused refl swept_of runs now),
    refl,
    began_is x.container (seen_cleaning waiting s) (cleanup.left_of taking) l.manifest.number (Some (record { moment = at; count = length ids })) (count_is moment past l.manifest x over)
        (ap (λ (c : m.Container). begun_after c (seen_cleaning waiting s) s.publish.refused (cleanup.left_of taking)) over.container ∙ begun_then moment at past waiting s l ids more x over run unread takes is_moment s.publish.refused refl swept_of now),
  )

pub cleanup_reads : CleanupReads
cleanup_reads moment at past waiting s t l p ids more x u over run runs unread swept_of checks takes becomes is_moment now =
    let same : t ≡ cleaning.with_taken s (with_latest s.publish l) at ids more = becomes ∙ ap (λ (q : publish.State). cleaning.with_taken s q at ids more) checks.1 in
    subst (λ (n : cleanup.State). GetsManifest x u (seen_cleaning waiting s) outcome.Ok (reply.Working (cleanup.left_of n)) (with_up x u) (Some (seen_cleaning waiting n))) (sym same)
    (sweep_reads moment at past waiting s l ids more x u over run unread takes is_moment now (swept_of unread) (subst cleanup.IsRunning same runs)
    (free_is moment past l.manifest x over m.Cleaning s.edit s.publish.writer (asks_sweep (container_of moment past) s.edit (cleanup.taken_ids s) run.task.edit) checks.0))

left_taken : (t : cleanup.State) (l : Latest) → t.published ≡ false → t.publish.latest ≡ Some l → cleanup.left_of t ≡ (length (cleanup.taken_ids t) - t.deleted) + 1
left_taken t l waits kept =
    ap (λ (b : Bool). cond b 0 (cleanup.deletions_left t.publish.latest (cleanup.taken_ids t) t.deleted + cleanup.manifest_requests t.publish.latest)) waits
    ∙ ap (λ (o : Option Latest). cleanup.deletions_left o (cleanup.taken_ids t) t.deleted + cleanup.manifest_requests o) kept

module _ (moment at : ℕ) (past : List Item) (waiting : Option PendingPub) (s : cleanup.State) (i : Id16) (l : Latest) (x : m.Side) (u : m.Up)
    (same : x.container ≡ container_of moment past) (run : cleanup.IsRunning s) (kept : s.publish.latest ≡ Some l) (more : cleanup.is_ready s ≡ false) (known : s.moment ≡ Some at) where
  abbrev fewer : cleanup.State
  fewer = record s { deleted = s.deleted + 1 }

  some_wait : 1 ≤ length (cleanup.taken_ids s) - s.deleted
  some_wait =
      some_more (length (cleanup.taken_ids s) - s.deleted)
      (ap (λ (n : ℕ). n == 1) (sym (left_taken s l run.waits kept)) ∙ ap (λ (o : Option Latest). is_some o && (cleanup.left_of s == 1)) (sym kept) ∙ more)

  is_deletion : requested x (seen_cleaning waiting s) outcome.Ok ≡ with_deletion past moment i at x
  is_deletion =
      ap (λ (o : Option ℕ). record x { container = swept_by (option_map (λ (k : ℕ). record { moment = k; count = length (cleanup.taken_ids s) }) o) x.container }) known
      ∙ ap (λ (c : m.Container). record x { container = record c { swept = swept_at at c.swept } }) same

  deletes : GoesOn x u (seen_cleaning waiting s) outcome.Ok (reply.Working (cleanup.left_of fewer)) (with_up (with_deletion past moment i at x) u) (Some (seen_cleaning waiting fewer))
  deletes =
      let wait = some_wait in
      let before = left_taken s l run.waits kept in
      let after = left_taken fewer l run.waits kept in
      (omega (arith, wait, before, after), ap (λ (y : m.Side). with_up y u) (sym is_deletion), refl)

pub cleanup_goes_on : CleanupGoesOn
cleanup_goes_on moment at past waiting s t i l x u same run kept more known leaves =
    subst (λ (n : cleanup.State). GoesOn x u (seen_cleaning waiting s) outcome.Ok (reply.Working (cleanup.left_of n)) (with_up (with_deletion past moment i at x) u) (Some (seen_cleaning waiting n))) (sym leaves)
    (deletes moment at past waiting s i l x u same run kept more known)

-- ---- what ends a publication whose intent is not noted

-- it ends with the fault as the answer
ends_quietly : (intended : Bool) (x : m.Side) (u : m.Up) (fault : Reply) → intended ≡ false → FaultEnds intended x u fault fault (with_up x u)
ends_quietly true x u fault e = absurd (false≢true (sym e))
ends_quietly false x u fault e = (refl, refl)

pub read_fails : ReadFails
read_fails q outcome.Ok x u quiet not = absurd (not refl)
read_fails q outcome.Fail x u quiet not = (ends_quietly q.intended x u reply.StoreFault quiet, refl)
read_fails q outcome.Lost x u quiet not = (ends_quietly q.intended x u reply.StoreFault quiet, refl)

pub read_finds_fault : ReadFindsFault
read_finds_fault q fault.VersionsFull x u quiet found = ((reply.VersionsFull, found, ends_quietly q.intended x u reply.VersionsFull quiet), refl)
read_finds_fault q fault.Exists x u quiet found = ((reply.Exists, found, ends_quietly q.intended x u reply.Exists quiet), refl)
read_finds_fault q fault.PageTooLarge x u quiet found = ((reply.PageTooLarge, found, ends_quietly q.intended x u reply.PageTooLarge quiet), refl)
read_finds_fault q fault.TooLarge x u quiet found = ((reply.TooLarge, found, ends_quietly q.intended x u reply.TooLarge quiet), refl)
read_finds_fault q fault.TooManyDatabases x u quiet found = ((reply.TooManyDatabases, found, ends_quietly q.intended x u reply.TooManyDatabases quiet), refl)
read_finds_fault q fault.NoDatabase x u quiet found = ((reply.NoDatabase, found, ends_quietly q.intended x u reply.NoDatabase quiet), refl)
read_finds_fault q (fault.Conflict mine theirs) x u quiet found = ((reply.Conflict mine theirs, found, ends_quietly q.intended x u (reply.Conflict mine theirs) quiet), refl)
read_finds_fault q fault.WritersFull x u quiet found = ((reply.WritersFull, found, ends_quietly q.intended x u reply.WritersFull quiet), refl)
read_finds_fault q fault.DeleteListFull x u quiet found = ((reply.DeleteListFull, found, ends_quietly q.intended x u reply.DeleteListFull quiet), refl)
read_finds_fault q fault.ManifestTooLong x u quiet found = ((reply.ManifestTooLong, found, ends_quietly q.intended x u reply.ManifestTooLong quiet), refl)

pub read_finds_none : ReadFindsNone
read_finds_none q x u quiet found = ((reply.NoContainer, found, ends_quietly q.intended x u reply.NoContainer quiet), refl)

pub request_fails : RequestFails
request_fails q outcome.Ok x u quiet not = absurd (not refl)
request_fails q outcome.Fail x u quiet not = ((reply.StoreFault, refl, ends_quietly q.intended (requested x q outcome.Fail) u reply.StoreFault quiet), refl)
request_fails q outcome.Lost x u quiet not = ((reply.StoreFault, refl, ends_quietly q.intended (requested x q outcome.Lost) u reply.StoreFault quiet), refl)

pub request_finds_gone : RequestFindsGone
request_finds_gone q x u quiet gone = ((reply.Gone, gone, ends_quietly q.intended (requested x q outcome.Ok) u reply.Gone quiet), refl)
