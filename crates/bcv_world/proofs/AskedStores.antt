-- The store around an ask: with the planned outcome before it, and without what no request took after it.
use Rattle.std.proofs.Common.{◌≡◌, ◌∷◌, ℕ, List, ap, ◌∙◌, refl, subst}
use Rattle.bcv_base.specs.declared.log.Entry.{Entry}
use Rattle.bcv_base.specs.declared.outcome.Outcome.{Outcome}
use Rattle.bcv_base.specs.declared.outcome.Outcome.TheVariants as outcome
use Rattle.bcv_client.specs.Caching.{AskCaches, Caches, IsQuiet}
use Rattle.bcv_client.specs.declared.client.Client.{Client}
use Rattle.bcv_disk.specs.contracts.memory.MemDiskDisk.TheImpl.{ghosts}
use Rattle.bcv_disk.specs.declared.memory.MemDisk.{MemDisk}
use Rattle.bcv_memstore.specs.declared.mem_store.MemStore.{MemStore}
use Rattle.bcv_memstore.specs.Told.{faults_of, log_of, plan_of, shown_by, told_here}
use Rattle.bcv_model.specs.declared.ask.Ask.{Ask}
use Rattle.bcv_model.specs.declared.reply.Reply.{Reply}
use Rattle.bcv_model.specs.declared.reply.Reply.TheVariants as reply
use Rattle.bcv_store.specs.Plans.{rest_of}
use Rattle.bcv_store.specs.StoreShown.{StoreShown}
use Rattle.bcv_world.specs.declared.place.Place.TheVariants as place
use Rattle.bcv_world.specs.EventCaching.{AsksPlace, IsLeft, planned_for}

-- a store in which only the next outcome was set
pub record PlansNext (old new : MemStore) (o : Outcome) : Type 0 where
  pub log : log_of new ≡ log_of old
  pub plan : plan_of new ≡ o ∷ rest_of (plan_of old)
  pub faults : faults_of new ≡ faults_of old

abbrev shown_as : List Entry → List Outcome → ℕ → StoreShown
shown_as log plan faults = record { log = log; plan = plan; faults = faults }

planned_is : (old new : MemStore) (o : Outcome) → PlansNext old new o → shown_by new ≡ planned_for o old
planned_is old new o p =
    ap (λ (x : List Entry). shown_as x (plan_of new) (faults_of new)) p.log ∙ ap (λ (x : List Outcome). shown_as (log_of old) x (faults_of new)) p.plan
    ∙ ap (λ (x : ℕ). shown_as (log_of old) (o ∷ rest_of (plan_of old)) x) p.faults

-- what a client says of an ask, it says of its place over the store of the world
pub asked_place : (before planned called after : MemStore) (q : Ask) (o : Outcome) (old new : Client MemDisk ghosts) (r : Reply) → PlansNext before planned o
    → Caches told_here (shown_by planned) (shown_by called) q old new r → PlansNext called after outcome.Ok → AsksPlace before after q o (place.Up old) (place.Up new) r
asked_place before planned called after q o old new r plans caches unplans = record {
  last = shown_by called;
  left = record { log = unplans.log; plan = unplans.plan; faults = unplans.faults };
  quiet = subst (λ (s : StoreShown). IsQuiet q s (shown_by called)) (planned_is before planned o plans) caches.quiet;
  caches = subst (λ (s : StoreShown). AskCaches told_here s (shown_by called) q old new r) (planned_is before planned o plans) caches.does;
}

-- where a fuse has burnt its disk meanwhile it has crashed
pub asked_burnt : (before after : MemStore) (q : Ask) (o : Outcome) (old new : Client MemDisk ghosts) (disk : MemDisk) (r : Reply) → AsksPlace before after q o (place.Up old) (place.Up new) r
    → AsksPlace before after q o (place.Up old) (place.Down disk) reply.Crashed
asked_burnt before after q o old new disk r a = record { last = a.last; left = a.left; quiet = a.quiet; caches = refl }
