-- Which events make a request to the store, and what each does to the transactions of its client and to the cache that they share.
use Rattle.std.specs.Prelude.{◌≡◌, ℕ, [], ◌∷◌, Option, Some, None}
use Rattle.bcv_base.specs.declared.outcome.Outcome.{Outcome}
use Rattle.bcv_base.specs.declared.outcome.Outcome.TheVariants as outcome
use Rattle.bcv_client.specs.Caching.{AskCaches, IsQuiet}
use Rattle.bcv_memstore.specs.declared.mem_store.MemStore.{MemStore}
use Rattle.bcv_memstore.specs.Told.{faults_of, log_of, plan_of, told_here}
use Rattle.bcv_model.specs.declared.ask.Ask.{Ask}
use Rattle.bcv_model.specs.declared.event.Act.{Act}
use Rattle.bcv_model.specs.declared.event.Act.TheVariants as act
use Rattle.bcv_model.specs.declared.event.Event.{Event}
use Rattle.bcv_model.specs.declared.event.Event.TheVariants as event
use Rattle.bcv_model.specs.declared.reply.Reply.{Reply}
use Rattle.bcv_model.specs.declared.reply.Reply.TheVariants as reply
use Rattle.bcv_slots.specs.Numbered.{item_at}
use Rattle.bcv_store.specs.Plans.{rest_of}
use Rattle.bcv_store.specs.StoreShown.{StoreShown}
use Rattle.bcv_transaction.specs.Open.{Open}
use Rattle.bcv_world.specs.declared.place.Place.{Place}
use Rattle.bcv_world.specs.declared.place.Place.TheVariants as place
use Rattle.bcv_world.specs.declared.world.World.{World}

-- ---- an ask of a client that is up

-- what the store shows once an outcome is planned for the request of the ask
abbrev pub planned_for : Outcome → MemStore → StoreShown
planned_for o store = record { log = log_of store; plan = o ∷ rest_of (plan_of store); faults = faults_of store }

-- the store has the log and the faults that it showed after the ask; an outcome that no request took is gone
pub record IsLeft (shown : StoreShown) (store : MemStore) : Type 0 where
  pub log : log_of store ≡ shown.log
  pub plan : plan_of store ≡ outcome.Ok ∷ rest_of shown.plan
  pub faults : faults_of store ≡ shown.faults

-- a client that stays up does to its transactions and its cache what it says of the ask; where a fuse has burnt its disk meanwhile
-- it has crashed
abbrev pub PlaceCaches : StoreShown → StoreShown → Ask → Place → Place → Reply → Type 0
PlaceCaches first last q (place.Up c) (place.Up d) r = AskCaches told_here first last q c d r
PlaceCaches first last q (place.Up c) (place.Down disk) r = r ≡ reply.Crashed
PlaceCaches first last q (place.Down disk) new r = ⊥

-- only a step makes a request, with the outcome that is planned for it
pub record AsksPlace (before after : MemStore) (q : Ask) (o : Outcome) (old new : Place) (r : Reply) : Type 0 where
  pub last : StoreShown
  pub left : IsLeft last after
  pub quiet : IsQuiet q (planned_for o before) last
  pub caches : PlaceCaches (planned_for o before) last q old new r

-- ---- any act

-- the transactions of a client that is up, with their cache
abbrev pub open_in : Place → Option Open
open_in (place.Up c) = Some c.txns
open_in (place.Down disk) = None

-- no transaction is open, and no cache is made
abbrev pub HasNone : Option Open → Type 0
HasNone None = Unit {0}
HasNone (Some o) = (o.txns ≡ []) × (o.cache ≡ None)

-- nothing but an ask makes a request; a crash leaves no transaction and no cache, and every other act leaves them as they are
abbrev pub UpCaches : MemStore → MemStore → Act → Place → Place → Reply → Type 0
UpCaches before after (act.Ask q o) old new r = AsksPlace before after q o old new r
UpCaches before after act.Up old new r = (after ≡ before) × (open_in new ≡ open_in old)
UpCaches before after (act.Crash image) old new r = (after ≡ before) × (open_in new ≡ None)
UpCaches before after (act.Fuse calls image) old new r = (after ≡ before) × (open_in new ≡ open_in old)
UpCaches before after (act.FailAt calls) old new r = (after ≡ before) × (open_in new ≡ open_in old)

-- a client that is down makes no request, and comes up with an empty cache
abbrev pub ActCaches : MemStore → MemStore → Act → Place → Place → Reply → Type 0
ActCaches before after what (place.Up c) new r = UpCaches before after what (place.Up c) new r
ActCaches before after what (place.Down disk) new r = (after ≡ before) × HasNone (open_in new)

-- ---- an event

-- the client of a number acts, and every other place stays as it is
pub record ActsAlone (old new : World) (n : ℕ) (what : Act) (r : Reply) : Type 0 where
  pub before : Place
  pub after : Place
  pub was : item_at n old.places.items ≡ Some before
  pub becomes : item_at n new.places.items ≡ Some after
  pub caches : ActCaches old.around.store new.around.store what before after r
  pub others : (m : ℕ) → (m ≡ n → ⊥) → item_at m new.places.items ≡ item_at m old.places.items

-- time alone leaves the store and all places as they are
abbrev pub EventCaches : World → World → Event → Reply → Type 0
EventCaches old new (event.Tick seconds) r = (new.around.store ≡ old.around.store) × (new.places ≡ old.places)
EventCaches old new (event.Of number what) r = ActsAlone old new number what r
