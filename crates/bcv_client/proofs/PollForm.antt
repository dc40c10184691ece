-- A client stays in form once a manifest was read and is known.
use Rattle.std.proofs.Common.{◌≡◌, ◌∙◌, ℕ, Bool, true, false, cond, nat_lt, List, [], ◌∷◌, Option, Some, None, IfSome, inl, inr, refl, sym, ap, subst}
use Rattle.std.specs.List.{AllByRecursion}
use Rattle.std.proofs.lemmas.Option.{same_Some}
use Rattle.bcv_base.specs.declared.seen.Latest.{Latest}
use Rattle.bcv_base.specs.declared.seen.Seen.{Seen}
use Rattle.bcv_base.specs.ManifestRules.{MeetsRules, is_block_size}
use Rattle.bcv_clientlaws.specs.Forms.{AreInForm}
use Rattle.bcv_clientlaws.proofs.DatabaseForms.{reads_keep_form}
use Rattle.bcv_clientstate.specs.KnownLaws.{known_of}
use Rattle.bcv_databases.specs.Catalog.{Catalog, set_at}
use Rattle.bcv_databases.specs.Sound.{CanEnd, CanUpload, KeepsViews}
use Rattle.bcv_databases.specs.declared.known.Known.{Known}
use Rattle.bcv_model.specs.declared.kept.Kept.{Kept}
use Rattle.bcv_model.specs.declared.reply.Reply.{Reply}
use Rattle.bcv_model.specs.declared.reply.Reply.TheVariants as reply
use Rattle.bcv_pages.specs.Held.{Held}
use Rattle.bcv_poller.specs.ManifestPoll.{FollowsSeen}
use Rattle.bcv_publish.specs.ManifestRead.{is_other}
use Rattle.bcv_publisher.specs.PollStep.{IsReadForm, IsUnread, KnowsRead, PollLeaves, WasSeen, seen_with}
use Rattle.bcv_slots.specs.declared.Slot.{Slot}
use Rattle.bcv_tasks.specs.declared.publish_task.PublishTask.{PublishTask}
use Rattle.bcv_tasks.specs.declared.publish_task.PublishTask.TheVariants as task
use Rattle.bcv_transaction.specs.Open.{Open}
use Rattle.bcv_client.specs.ClientForm.{HasSize, IsInForm, JobInForm, ViewInForm}
use Rattle.bcv_client.specs.declared.job.Job.{Job}
use Rattle.bcv_client.specs.declared.job.Job.TheVariants as job
use Rattle.bcv_client.proofs.BlockSizes.{IsAlike, alike_other, sized}
use Rattle.bcv_client.proofs.FormKept.{form_stays}

-- ---- what was seen

alike_read : (b : Option ℕ) (block : ℕ) → b ≡ Some block → IsAlike b block
alike_read None block is = tt
alike_read (Some n) block is = sym (same_Some n block is)

other_by : (test : Bool) → ◌≡◌ {A = Option ℕ} (cond test (Some 24) None) None → test ≡ false
other_by false e = refl
other_by true e = absurd (let x : ◌≡◌ {A = Option ℕ} (Some 24) None = e in cc)

not_other : (past other : Bool) → ◌≡◌ {A = Option ℕ} (cond past (Some 8) (cond other (Some 24) None)) None → other ≡ false
not_other false other e = other_by other e
not_other true other e = absurd (let x : ◌≡◌ {A = Option ℕ} (Some 8) None = e in cc)

alike_new : (s : Seen) (x : Latest) → FollowsSeen s x → IsAlike s.block x.manifest.block
alike_new s x follows = alike_other s.block x.manifest.block (not_other (nat_lt x.manifest.number s.number) (is_other s.block x.manifest.block) follows.like)

-- what was seen and read is as before
pub read_still : (s t : Seen) (k l : Option Latest) → t ≡ s → l ≡ k → IsReadForm s k → IsReadForm t l
read_still s t k l sees keeps form = subst (λ (x : Option Latest). IsReadForm t x) (sym keeps) (subst (λ (y : Seen). IsReadForm y k) (sym sees) form)

-- ---- the tasks

seen_size : (b : Option ℕ) (block n : ℕ) → IsAlike b block → b ≡ Some n → Some block ≡ Some n
seen_size b block n alike is = ap Some (subst (λ (x : Option ℕ). IsAlike x block) is alike)

module _ (c : Catalog) (s t : Seen) (block : ℕ) (o : Open) (valid : is_block_size block ≡ true) (alike : IsAlike s.block block) (sees : t.block ≡ Some block) where
  still_view : (set taken : ℕ) (u : PublishTask) → ViewInForm s c set taken u → ViewInForm t c set taken u
  still_view set taken (task.Create x) view = tt
  still_view set taken (task.Copy id x) view = tt
  still_view set taken (task.Upload id x) view = record {
    held = view.held;
    is_held = view.is_held;
    view = view.view;
    size = sees ∙ seen_size s.block block x.base.block alike view.size;
    count = view.count;
  }
  still_view set taken (task.Cleanup id x) view = tt

  still_job : (j : Job) → JobInForm s c o j → JobInForm t c o j
  still_job (job.Fetch access txn page) form = form
  still_job job.Poll form = tt
  still_job (job.Publish set taken u) form =
      record { running = form.running; waits = form.waits; again = form.again; upload = form.upload; view = still_view set taken u form.view }
  still_job job.Resolve form = form

  still_jobs : (ss : List (Slot Job)) → AllByRecursion (λ (x : Slot Job). JobInForm s c o x.item) ss → AllByRecursion (λ (x : Slot Job). JobInForm t c o x.item) ss
  still_jobs [] all = tt
  still_jobs (x ∷ ss) all = (still_job x.item all.0, still_jobs ss all.1)

  -- a client that sees this in addition is in form
  pub form_seen : (ss : List (Slot Job)) → CanEnd c.kept.locals c.kept.pending → IsInForm s c o ss → IsInForm t c o ss
  form_seen ss can form = record {
    size = subst (λ (b : Option ℕ). HasSize b c o.cache) (sym sees) (sized s.block block c o.cache valid alike can form.size);
    txns = form.txns;
    tasks_are = record {
      few = form.tasks_are.few;
      differ = form.tasks_are.differ;
      single = form.tasks_are.single;
      each = still_jobs ss form.tasks_are.each;
    };
  }

-- ---- the databases

pub equal_views : (a b : List (Option Held)) → b ≡ a → KeepsViews a b
equal_views a b same place h at = (h, ap (λ (x : List (Option Held)). set_at x place) same ∙ at, (λ from to can. (can, refl)), refl)

-- what is kept and the sets are as before
pub record KeepsSets (c d : Catalog) : Type 0 where
  pub kept : d.kept ≡ c.kept
  pub sets : d.sets ≡ c.sets

module _ (c d : Catalog) (keeps : KeepsSets c d) (o : Open) (ss : List (Slot Job)) where
  -- where the databases that are known have the size
  pub form_known : (t : Seen) → IsInForm t c o ss → HasSize t.block d o.cache → IsInForm t d o ss
  form_known t form size =
      form_stays c d t o (record {
        pending = ap (λ (k : Kept). k.pending) keeps.kept;
        uploads = λ u can. subst (λ (k : Kept). CanUpload k.locals u) (sym keeps.kept) can;
        views = equal_views c.sets d.sets keeps.sets;
      }) ss form size

  -- and those that were known still are
  form_same : (s t : Seen) → t ≡ s → d.known ≡ c.known → IsInForm s c o ss → IsInForm t d o ss
  form_same s t sees known form =
      subst (λ (x : Seen). IsInForm x d o ss) (sym sees) (form_known s form (same_size s.block form.size))
    where
      same_size : (b : Option ℕ) → HasSize b c o.cache → HasSize b d o.cache
      same_size None size = (ap (λ (k : Kept). k.locals) keeps.kept ∙ size.0, known ∙ size.1, size.2)
      same_size (Some n) size =
          (size.0, subst (λ (k : Kept). AreInForm n k d.known) (sym keeps.kept) (subst (λ (ks : List Known). AreInForm n c.kept ks) (sym known) size.1), size.2)

  form_read : (s t : Seen) (x : Latest) → IsAlike s.block x.manifest.block → MeetsRules x.manifest → t ≡ seen_with s x.manifest → d.known ≡ known_of c.kept x.manifest
      → CanEnd c.kept.locals c.kept.pending → IsInForm s c o ss → IsInForm t d o ss
  form_read s t x alike rules sees known can form =
      let n : ℕ = x.manifest.block in
      let is : t.block ≡ Some n = ap (λ (y : Seen). y.block) sees in
      let here : IsInForm t c o ss = form_seen c s t n o rules.block alike is ss can form in
      let size : HasSize (Some n) c o.cache = subst (λ (b : Option ℕ). HasSize b c o.cache) is here.size in
      let read : AreInForm n c.kept (known_of c.kept x.manifest) = reads_keep_form n c.kept c.known x.manifest size.1 rules refl in
      let now : HasSize (Some n) d o.cache =
      (size.0, subst (λ (k : Kept). AreInForm n k d.known) (sym keeps.kept) (subst (λ (ks : List Known). AreInForm n c.kept ks) (sym known) read), size.2) in
      form_known t here (subst (λ (b : Option ℕ). HasSize b d o.cache) (sym is) now)

  module _ (s t : Seen) (k l : Option Latest) (form : IsInForm s c o ss) (was : IsReadForm s k) (can : CanEnd c.kept.locals c.kept.pending) where
    form_after : (n : ℕ) → KnowsRead c.kept d.known s t k l n → IsInForm t d o ss
    form_after n knows = elim knows.from [
      | inl is ↦ (let w : WasSeen s knows.latest = subst (λ (x : Option Latest). IfSome x (WasSeen s)) is was in
          form_read s t knows.latest (alike_read s.block knows.latest.manifest.block w.block) w.rules knows.sees knows.knows can form)
      | inr new ↦ form_read s t knows.latest (alike_new s knows.latest new) new.rules knows.sees knows.knows can form
    ]

    unread : IsUnread c.known d.known s t k l → IsInForm t d o ss
    unread same = form_same s t same.1 same.0 form

    -- a client that polled is in form
    pub form_polled : (r : Reply) → PollLeaves c.kept c.known d.known s t k l r → IsInForm t d o ss
    form_polled (reply.Polled n) leaves = form_after n leaves
    form_polled reply.NoContainer leaves = unread leaves
    form_polled (reply.BadManifest at) leaves = unread leaves
    form_polled reply.StoreFault leaves = unread leaves
    form_polled reply.NoMemory leaves = unread leaves
    form_polled _ leaves = absurd leaves
