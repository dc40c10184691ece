-- What a world stands for in the machine's words: its places over the log of its store.
use Rattle.std.specs.Prelude.{◌≡◌, ◌≢◌, ◌+◌, ◌-◌, ◌^◌, ◌<◌, ◌≤◌, ℕ, true, false, List, [], ◌++◌, length, is_some, MatchOption}
use Rattle.std.specs.List.{AllByRecursion}
use Rattle.bcv_base.specs.declared.id.Id16.{Id16}
use Rattle.bcv_base.specs.declared.log.Entry.{Entry}
use Rattle.bcv_base.specs.History.{history_of}
use Rattle.bcv_base.specs.Numbered.{Counter, numbered, numbered_names}
use Rattle.bcv_clientlaws.specs.OtherParts.{Includes}
use Rattle.bcv_clientstate.specs.SeenClient.{Free}
use Rattle.bcv_client.specs.CallNames.{LeavesFit}
use Rattle.bcv_client.specs.ClientParts.{entries_of, parts_of}
use Rattle.bcv_client.specs.Events.{StandsOver}
use Rattle.bcv_client.specs.Planned.{trouble_of}
use Rattle.bcv_client.specs.TaskCalls.{AreNew}
use Rattle.bcv_client.specs.declared.client.Client.{Client}
use Rattle.bcv_dbmap.specs.RequestGrowth.{RequestGrowth}
use Rattle.bcv_dbmap.specs.Sound.{IsSoundLog}
use Rattle.bcv_disk.specs.DiskShown.{Trouble}
use Rattle.bcv_disk.specs.Memory.{shown_of}
use Rattle.bcv_disk.specs.declared.memory.MemDisk.{MemDisk}
use Rattle.bcv_machine.specs.State as m
use Rattle.bcv_machine.specs.State.{first_state}
use Rattle.bcv_machine.specs.Step.{Acts, Choice, Next, drawn_by, drawn_by_act}
use Rattle.bcv_memstore.specs.Told.{log_of}
use Rattle.bcv_model.specs.declared.event.Act.{Act}
use Rattle.bcv_model.specs.declared.event.Event.{Event}
use Rattle.bcv_model.specs.declared.kept.Kept.{Kept}
use Rattle.bcv_model.specs.declared.reply.Reply.{Reply}
use Rattle.bcv_model.specs.declared.reply.Reply.TheVariants as reply
use Rattle.bcv_model.specs.declared.reply.Said.{Said}
use Rattle.bcv_publisher.specs.PutStep.{version_added}
use Rattle.bcv_risen.specs.RisenSides.{IsDown}
use Rattle.bcv_worldlaws.specs.Places.{ClientPlace, DownPlace, UpPlace, FitsPlace, WorldFits, place_at, place_names, place_side, seen_place, world_seen}
use Rattle.bcv_worldlaws.specs.WorldLaws.{IsNewPlace}
use Rattle.bcv_world.specs.declared.place.Place.{Place}
use Rattle.bcv_world.specs.declared.place.Place.TheVariants as place
use Rattle.bcv_world.specs.declared.world.World.{World}
use Rattle.bcv_world.specs.WorldForm.{HasPlaces}

-- ---- one place

-- what is set on a disk is set of the machine's client
pub record IsSetAs (t : Trouble) (f : Free) : Type 0 where
  pub fused : is_some t.fuse ≡ true → f.fused ≡ true
  pub failing : is_some t.failure ≡ true → f.failing ≡ true

-- a client that is up stands over the log, and what a crash may leave of its disk fits the log
pub record StandsUp {g : _} (log : List Entry) (c : Client MemDisk g) (f : Free) : Type 0 where
  pub over : StandsOver shown_of c log f
  pub left : LeavesFit shown_of c log
  pub set : IsSetAs (trouble_of shown_of c) f
  pub unburnt : (trouble_of shown_of c).burnt ≡ false

-- the disk is that of a client that is down
pub record LiesDown (log : List Entry) (disk : MemDisk) (id : Id16) (k : Kept) (f : Free) : Type 0 where
  pub down : IsDown (shown_of disk) log id k f
  pub set : IsSetAs (shown_of disk).trouble f

-- a place stands over a log for what the machine sees of it
abbrev pub StandsAs : List Entry → Place → ClientPlace → Type 0
StandsAs log (place.Up c) (UpPlace p entries f) = (p ≡ parts_of c) × (entries ≡ entries_of c) × StandsUp log c f
StandsAs log (place.Down disk) (DownPlace id k f) = LiesDown log disk id k f
StandsAs log _ _ = ⊥

-- how many slots the client's cache was given
abbrev pub slots_in : ClientPlace → ℕ
slots_in (UpPlace p entries f) = f.slots
slots_in (DownPlace id k f) = f.slots

-- ---- what one place does

-- the place after an act over a log that nobody else writes: it stands and fits, the log grew by its own entry, it has no other
-- names than before and the drawn ones, and where memory was there the machine takes the act
pub record ActsAs (before after : List Entry) (moment : ℕ) (ids : List Id16) (new : Place) (was : ClientPlace) (what : Act)
    (r : Reply) : Type 0 where
  pub now : ClientPlace
  pub stands : StandsAs after new now
  pub fits : FitsPlace after now
  pub slots : slots_in now ≡ slots_in was
  pub growth : RequestGrowth (Unit {0}) (place_names was ++ ids) before after
  pub names : Includes (place_names was ++ ids) (place_names now)
  pub event : r ≢ reply.NoMemory → (choice : Choice) × Includes ids (drawn_by_act what r choice.name)
      × Acts (place_side moment (history_of before) was) (seen_place (history_of before) was).up what
      (record { published = version_added (history_of before) (history_of after); reply = r }) choice
      (place_side moment (history_of after) now)

-- at most one name is drawn, and a place acts so wherever it stands over a sound log
pub record PlaceActs (before after : List Entry) (names later_names : Counter) (moment slots : ℕ) (old new : Place) (what : Act)
    (r : Reply) : Type 0 where
  pub ids : List Id16
  pub drawn : numbered_names later_names.count ≡ numbered_names names.count ++ ids
  pub few : length ids ≤ 1
  pub over : (was : ClientPlace) → later_names.count < 2 ^ 128 - 1 → IsSoundLog before → StandsAs before old was
      → FitsPlace before was → slots_in was ≡ slots → AreNew (history_of before) ids
      → ActsAs before after moment ids new was what r

-- ---- a new place

-- the place of a client that came up for the first time, with the next name as its id
pub record IsNewUp (names later_names : Counter) (slots : ℕ) (p : Place) : Type 0 where
  pub now : ClientPlace
  pub drawn : later_names.count ≡ names.count + 1
  pub stands : StandsAs [] p now
  pub fits : FitsPlace [] now
  pub is_new : IsNewPlace slots (numbered (names.count + 1)) now
  pub given : slots_in now ≡ slots

-- ---- the world

-- the place of a number stands for the machine's
abbrev pub StandsAt : List Entry → List ClientPlace → ℕ → Place → Type 0
StandsAt log places n p = MatchOption (place_at n places) ⊥ (StandsAs log p)

-- the world stands for these places: they fit the log of its store, all names were drawn, and each place stands
pub record Stands (w : World) (places : List ClientPlace) : Type 0 where
  pub count : length places ≡ w.spec.clients
  pub fits : WorldFits (numbered_names w.around.names.count) (log_of w.around.store) places
  pub each : HasPlaces (StandsAt (log_of w.around.store) places) w.spec.clients w.places.items
  pub slots : AllByRecursion (λ p. slots_in p ≡ w.spec.slots) places

-- the machine's state of these places
abbrev pub state_at : World → List ClientPlace → m.State
state_at w places = world_seen w.moment (history_of (log_of w.around.store)) places

-- the names that were drawn in a world
abbrev pub names_of : World → List Id16
names_of w = numbered_names w.around.names.count

-- an event takes a world from these places to others for which it stands: at most one name was drawn, the log grew by at
-- most one entry, a version that it published is told, and where memory was there it is the machine's
pub record EventTaken (old new : World) (event : Event) (said : Said) (places : List ClientPlace)
    : Type 0 where
  pub later : List ClientPlace
  pub stands : Stands new later
  pub ids : List Id16
  pub drawn : names_of new ≡ names_of old ++ ids
  pub few : length ids ≤ 1
  pub own : List Entry
  pub grew : log_of new.around.store ≡ log_of old.around.store ++ own
  pub one : length own ≤ 1
  pub published : said.published
      ≡ version_added (history_of (log_of old.around.store)) (history_of (log_of new.around.store))
  pub next : said.reply ≢ reply.NoMemory
      → (choice : Choice) × Includes ids (drawn_by event said choice)
      × Next (state_at old places) event said choice (state_at new later)

-- so it is for all places for which the world stood
abbrev pub TakesEvent : World → World → Event → Said → Type 0
TakesEvent old new event said =
    (places : List ClientPlace) → Stands old places → EventTaken old new event said places

-- a new world stands for the machine's first state
pub record IsFirst (w : World) : Type 0 where
  pub places : List ClientPlace
  pub stands : Stands w places
  pub state : state_at w places ≡ first_state w.spec.clients w.spec.slots
