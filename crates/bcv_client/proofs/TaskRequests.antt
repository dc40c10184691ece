-- The request of each kind of publishing task over the cache that the transactions share.
use Rattle.std.proofs.Common.{◌≡◌, ◌∙◌, ℕ, false, Option, Some, None, IfSome, is_none, unwrap_or, inl, inr, refl, sym, ap, subst}
use Rattle.std.proofs.lemmas.Bool.{false≢true}
use Rattle.std.proofs.lemmas.Option.{same_Some}
use Rattle.bcv_base.specs.declared.id.Id16.{Id16}
use Rattle.bcv_base.specs.declared.seen.Seen.{Seen}
use Rattle.bcv_base.specs.Drawn.{NamesShown}
use Rattle.bcv_base.specs.Moments.{ClockShown}
use Rattle.bcv_cache.specs.Entry.{Blocks}
use Rattle.bcv_cleanup.specs.CleanupWork as cleaning
use Rattle.bcv_cleanup.specs.Released.{RuleAnswers}
use Rattle.bcv_cleanup.specs.State as cleanup
use Rattle.bcv_databases.specs.Catalog.{Catalog, set_at}
use Rattle.bcv_dbcopy.specs.State as copy
use Rattle.bcv_dbcopy.specs.TaskWork as copying
use Rattle.bcv_pages.specs.Held.{Held}
use Rattle.bcv_publish.specs.declared.work.Work.{Work}
use Rattle.bcv_publish.specs.declared.work.Work.TheVariants as work
use Rattle.bcv_store.specs.StoreShown.{StoreShown, StoreTold}
use Rattle.bcv_tasks.specs.declared.create_task.CreateTask.{CreateTask}
use Rattle.bcv_tasks.specs.declared.publish_task.PublishTask.{PublishTask}
use Rattle.bcv_tasks.specs.declared.publish_task.PublishTask.TheVariants as task
use Rattle.bcv_tasks.specs.State.{IsRunning, is_ready}
use Rattle.bcv_tasks.proofs.KindsWork.{cleanup_works_as_task, copy_works_as_task, upload_works_as_task}
use Rattle.bcv_transaction.specs.Open.{Open}
use Rattle.bcv_transaction.specs.UploadCalls.{Moment, Uploads}
use Rattle.bcv_upload.specs.State.{HoldsView}
use Rattle.bcv_upload.specs.State as upload
use Rattle.bcv_client.specs.ClientForm.{HasSize, UploadInForm, ViewInForm}
use Rattle.bcv_client.specs.PublicationOver.{view_at}
use Rattle.bcv_client.specs.TaskParts.{no_set, sets_in}
use Rattle.bcv_client.specs.TaskRequests.{AsksTask, cache_for}

module _ (answers : RuleAnswers) (store : StoreTold) (before after : StoreShown) (names later_names : NamesShown) (clock later_clock : ClockShown) (seen : Seen) (c : Catalog) (set : ℕ) (o : Open)
    (id : Id16) (made : Work) where
  pub copy_asks : (s v : copy.State) → copy.is_ready s ≡ false → id ≡ s.publish.id → copying.WorkLeaves s.publish.latest seen s made v → copying.TaskWorks store before after names later_names seen s made v
      → copy.IsRunning v → AsksTask answers store before after names later_names clock clock seen c set o o (task.Copy id s) made (task.Copy id v)
  copy_asks s v not_ready same leaves works running =
      let view = view_at c set (task.Copy id s) in
      let over = cache_for o (task.Copy id s) in
      let step = copy_works_as_task answers store before after names later_names clock seen view over id s v made leaves works in
      inl (record {
        later = over;
        request = record { not_ready = not_ready; step = step; cache = refl; running = λ more. (same ∙ sym step.same_publication, running) };
        keeps = refl;
      })

  pub cleanup_asks : (s v : cleanup.State) → cleanup.is_ready s ≡ false → id ≡ s.publish.id → cleaning.WorkLeaves answers s.publish.latest seen s made v
      → cleaning.TaskWorks store before after clock later_clock seen s made v → (made ≡ work.More → cleanup.IsRunning v)
      → AsksTask answers store before after names names clock later_clock seen c set o o (task.Cleanup id s) made (task.Cleanup id v)
  cleanup_asks s v not_ready same leaves works running =
      let view = view_at c set (task.Cleanup id s) in
      let over = cache_for o (task.Cleanup id s) in
      let step = cleanup_works_as_task answers store before after names clock later_clock seen view over id s v made leaves works in
      inl (record {
        later = over;
        request = record { not_ready = not_ready; step = step; cache = refl; running = λ more. (same ∙ sym step.same_publication, running more) };
        keeps = refl;
      })

  -- over the view of the set that lies at the place
  upload_asks_in : (n : Open) (s v : upload.State) → upload.is_ready s ≡ false → id ≡ s.publish.id
      → Uploads store seen (view_at c set (task.Upload id s)) o (record { store = before; names = names; upload = s }) made n (record { store = after; names = later_names; upload = v })
      → upload.IsRunning v → AsksTask answers store before after names later_names clock clock seen c set o n (task.Upload id s) made (task.Upload id v)
  upload_asks_in n s v not_ready same (inl over) running =
      let view = view_at c set (task.Upload id s) in
      let step = upload_works_as_task answers store before after names later_names clock seen view (cache_for o (task.Upload id s)) id s v made over.2.leaves over.2.works in
      inl (record {
        later = over.0;
        request = record { not_ready = not_ready; step = step; cache = over.2.cache; running = λ more. (same ∙ sym step.same_publication, running) };
        keeps = over.1;
      })
  upload_asks_in n s v not_ready same (inr rests) running = inr (record {
    none = rests.none;
    memory = rests.no_memory;
    same = rests.same;
    task_is = ap (λ (x : Moment). task.Upload id x.upload) rests.rest;
    store_is = ap (λ (x : Moment). x.store) rests.rest;
    names_are = ap (λ (x : Moment). x.names) rests.rest;
    clock_is = refl;
  })

  pub upload_asks : (h : Held) (n : Open) (s v : upload.State) → Some h ≡ set_at c.sets set → upload.is_ready s ≡ false → id ≡ s.publish.id
      → Uploads store seen (upload.view_in h s.base) o (record { store = before; names = names; upload = s }) made n (record { store = after; names = later_names; upload = v })
      → upload.IsRunning v → AsksTask answers store before after names later_names clock clock seen c set o n (task.Upload id s) made (task.Upload id v)
  upload_asks h n s v there not_ready same uploads running =
      let is : h ≡ sets_in c set = ap (λ (x : Option Held). unwrap_or x no_set) there in
      upload_asks_in n s v not_ready same
      (subst (λ (x : Held). Uploads store seen (upload.view_in x s.base) o (record { store = before; names = names; upload = s }) made n (record { store = after; names = later_names; upload = v })) is uploads) running

-- ---- what each kind is given

never_create : (x : CreateTask) → IsRunning (task.Create x) → is_ready (task.Create x) ≡ false → ⊥
never_create x running not_ready = false≢true (sym not_ready ∙ ap is_none running.waits)

-- a create is ready until it is made
pub ready_create : (t : PublishTask) (x : CreateTask) → t ≡ task.Create x → IsRunning t → is_ready t ≡ false → ⊥
ready_create t x is running not_ready = never_create x (subst IsRunning is running) (subst (λ (y : PublishTask). is_ready y ≡ false) is not_ready)

module _ (seen : Seen) (c : Catalog) (set taken : ℕ) (t : PublishTask) (id : Id16) (s : upload.State) (is : t ≡ task.Upload id s) (form : ViewInForm seen c set taken t) where
  pub form_of : UploadInForm seen c set taken s
  form_of = subst (λ (x : PublishTask). ViewInForm seen c set taken x) is form

  pub holds_view : (h : Held) → Some h ≡ set_at c.sets set → HoldsView h s
  holds_view h there = subst (λ (x : Held). HoldsView x s) (sym (same_Some h form_of.held (there ∙ form_of.is_held))) form_of.view

  pub has_set : (x : Option Held) → x ≡ set_at c.sets set → x ≡ None → ⊥
  has_set x there none = absurd (let both : ◌≡◌ {A = Option Held} None (Some form_of.held) = sym none ∙ there ∙ form_of.is_held in cc)

  pub same_block : (x : Option Blocks) → HasSize seen.block c x → IfSome x (λ (d : Blocks). d.block ≡ s.base.block)
  same_block x has = (subst (λ (b : Option ℕ). HasSize b c x) form_of.size has).2
