-- The place of a client that was asked: it is up after the ask, or a fuse has burnt its disk and it is down.
use Rattle.std.proofs.Common.{◌≡◌, ◌≢◌, ◌∙◌, ◌⊎◌, ◌&&◌, ◌+◌, ◌-◌, ◌^◌, ◌≤◌, min, inl, inr, ℕ, Bool, true, false, if◌then◌else◌, List, [], ◌∷◌, ◌++◌, append-nil, Option, Some, None, IfSome, refl, sym, ap, subst, arith}
use Rattle.std.proofs.lemmas.List.{append_cancel_left}
use Rattle.bcv_base.specs.declared.id.Id16.{Id16}
use Rattle.bcv_base.specs.declared.log.Entry.{Entry}
use Rattle.bcv_base.specs.declared.outcome.Outcome.{Outcome}
use Rattle.bcv_base.specs.History.{history_of}
use Rattle.bcv_base.specs.Moments.{ClockShown}
use Rattle.bcv_base.specs.Numbered.{Counter, counted, numbered_names}
use Rattle.bcv_base.specs.SetMoment.{SetMoment, shown_by}
use Rattle.bcv_cache.specs.Entry as cache
use Rattle.bcv_clientlaws.specs.OtherParts.{Includes}
use Rattle.bcv_clientlaws.proofs.OtherParts.{in_front, in_rest, includes_all}
use Rattle.bcv_clientlog.specs.LogParts.{log_disk}
use Rattle.bcv_clientstate.specs.Parts.{Parts, mine_of}
use Rattle.bcv_clientstate.specs.SeenClient.{Free}
use Rattle.bcv_client.specs.AskCalls.{AsksAs, AsksOver}
use Rattle.bcv_client.specs.CallNames as call
use Rattle.bcv_client.specs.CallNames.{LeavesFit}
use Rattle.bcv_client.specs.ClientParts.{entries_of, parts_of}
use Rattle.bcv_client.specs.ClientUp.{LeavesDown}
use Rattle.bcv_client.specs.Events.{IsArmed, StandsOver, client_side, client_up}
use Rattle.bcv_client.specs.Falls.{Falls}
use Rattle.bcv_client.specs.Planned.{trouble_of}
use Rattle.bcv_client.specs.PublicationOver.{ReadsMoment}
use Rattle.bcv_client.specs.Steps.{RequestOver, said_over}
use Rattle.bcv_client.specs.TaskCalls.{AreNew}
use Rattle.bcv_client.specs.declared.client.Client.{Client}
use Rattle.bcv_disk.specs.contracts.memory.MemDiskDisk.TheImpl.{ghosts}
use Rattle.bcv_disk.specs.DiskShown.{Trouble}
use Rattle.bcv_disk.specs.Memory.{shown_of, tells_all}
use Rattle.bcv_disk.specs.Troubles.{Suffers}
use Rattle.bcv_disk.specs.declared.memory.MemDisk.{MemDisk}
use Rattle.bcv_machine.specs.State as m
use Rattle.bcv_machine.specs.Step.{Acts, Asks, Choice, drawn_by_act, is_task, publishes}
use Rattle.bcv_memstore.specs.Told.{told_here}
use Rattle.bcv_model.specs.declared.ask.Ask.{Ask}
use Rattle.bcv_model.specs.declared.event.Act.TheVariants as act
use Rattle.bcv_model.specs.declared.reply.Reply.{Reply}
use Rattle.bcv_model.specs.declared.reply.Reply.TheVariants as reply
use Rattle.bcv_publisher.specs.WorkStep.{IsEvent}
use Rattle.bcv_store.specs.Plans.{next_of}
use Rattle.bcv_store.specs.StoreShown.{StoreShown}
use Rattle.bcv_worldlaws.specs.Places.{ClientPlace, DownPlace, UpPlace, flight_names, place_names, place_side, seen_place}
use Rattle.bcv_worldlaws.specs.Strikes.{free_failing, free_struck}
use Rattle.bcv_worldlaws.specs.WorldLaws.{MovesPlace}
use Rattle.bcv_worldlaws.proofs.CrashedAsks.{struck_acts}
use Rattle.bcv_worldlaws.proofs.Names.{both_mine, none_mine}
use Rattle.bcv_worldlaws.proofs.PlacesStay.{place_falls}
use Rattle.bcv_world.specs.AskedOnce.{AskedOnce}
use Rattle.bcv_world.specs.Standing.{ActsAs, IsSetAs, PlaceActs, StandsAs, StandsUp}
use Rattle.bcv_world.specs.declared.place.Place.{Place}
use Rattle.bcv_world.specs.declared.place.Place.TheVariants as place
use Rattle.bcv_world.proofs.ArmedPlaces.{had_failure, had_fuse, memory_or, set_struck, still_set}
use Rattle.bcv_world.proofs.ArmedStays.{LeavesArmed, ask_leaves_armed}

-- ---- names

-- a name that a note in flight has
flights_same : (o : Option m.Note) → call.flight_names o ≡ flight_names o
flights_same None = refl
flights_same (Some (m.Committing name base w)) = refl
flights_same (Some (m.Reverting name)) = refl
flights_same (Some (m.Intending p)) = refl
flights_same (Some (m.Finishing n)) = refl
flights_same (Some m.Voiding) = refl

-- the name of a publication that started is the drawn one
drawn_own : (b : Bool) (ids : List Id16) (name : Id16) → (b ≡ true → ids ≡ name ∷ []) → Includes ids (if b then name ∷ [] else [])
drawn_own true ids name named = subst (λ (l : List Id16). Includes l (name ∷ [])) (sym (named refl)) (includes_all (name ∷ []))
drawn_own false ids name named = none_mine ids

-- a crash starts none
drawn_none : (b : Bool) (ids : List Id16) (name : Id16) → Includes ids (if b && false then name ∷ [] else [])
drawn_none true ids name = none_mine ids
drawn_none false ids name = none_mine ids

-- ---- what is free

abbrev with_armed : Bool → Bool → Free → Free
with_armed fused failing f = record f { fused = fused; failing = failing }

-- what is set on the disk does not count for where a client stands
rearmed : {g : _} (c : Client MemDisk g) (log : List Entry) (f : Free) (fused failing : Bool) → StandsOver shown_of c log f → StandsOver shown_of c log (with_armed fused failing f)
rearmed c log f fused failing s = record {
  sound = s.sound;
  fits = s.fits;
  saw = s.saw;
  journaled = record { settled = s.journaled.settled; still = s.journaled.still; images = s.journaled.images; within = s.journaled.within };
  slots = s.slots;
}

-- a count that stands at nothing has not risen
no_rise : (before now : ℕ) → now ≡ 0 → ((min (before + 1) (2 ^ 64 - 1) ≤ now) → ⊥)
no_rise before now none rose = absurd (omega (arith, none, rose))

-- the moment read is that of the clock
moment_read : (clock : SetMoment) (later : ClockShown) (moment : ℕ) (at : Option ℕ) → clock.moment ≡ moment → ReadsMoment (shown_by clock) later at → IfSome at (λ x. x ≡ moment)
moment_read clock later moment None is reads = tt
moment_read clock later moment (Some x) is reads = reads.is_set ∙ is

-- a failure that is answered was set
is_armed : (r : Reply) (f : Free) → (r ≡ reply.DiskFault → f.failing ≡ true) → IsArmed r f
is_armed reply.DiskFault f h = h refl
is_armed r f h = tt

-- ---- the call

module _ (first last : StoreShown) (names later_names : Counter) (clock later_clock : SetMoment) (old new : Client MemDisk ghosts) (q : Ask) (r : Reply) (moment : ℕ)
    (asks : AsksOver tells_all shown_of told_here first last (counted names) (counted later_names) (shown_by clock) (shown_by later_clock) old new q r) where
  abbrev before : List Entry
  before = first.log

  abbrev after : List Entry
  after = last.log

  abbrev ids : List Id16
  ids = asks.calls.ids

  -- what the call says for whatever is free
  abbrev Taken : List Id16 → Free → Type 0
  Taken mine f =
      RequestOver (AsksAs asks.name q) (IsEvent (counted names) (counted later_names) (shown_by clock) (shown_by later_clock) r) shown_of told_here mine first last old new moment f r

  -- where memory was there, it is the machine's
  asked : (o : Outcome) (mine : List Id16) (f : Free) → next_of first.plan ≡ o → later_names.faults ≡ 0 → (x : Taken mine f) → r ≢ reply.NoMemory → (second : Bool)
      × Asks (client_side moment before old f) (client_up before old) q o (said_over before after r) (record { name = asks.name; second = second }) (client_side moment after new x.free)
  asked o mine f planned no_faults x memory =
      let event = x.event (record { memory = memory; name = no_rise names.faults later_names.faults no_faults; moment = no_rise 0 0 refl }) in
      let goes = event.goes o (λ made. sym (event.planned tt made ∙ planned)) in
      let same_log : before ++ x.growth.others ≡ before = ap (λ (l : List Entry). before ++ l) (x.growth.none tt) ∙ append-nil before in (
        goes.0,
        subst
            (λ (log : List Entry). Asks (client_side moment log old f) (client_up log old) q o (said_over log after r) (record { name = asks.name; second = goes.0 }) (client_side moment after new x.free))
            same_log goes.1,
      )

  module _ (is_set : clock.moment ≡ moment) (slots : new.txns.slots ≡ old.txns.slots)
      (falls : Falls tells_all shown_of told_here first last (counted names) (counted later_names) old new)
      (suffers : Suffers (trouble_of shown_of old) (trouble_of shown_of new) (r ≡ reply.DiskFault))
      (o : Outcome) (planned : next_of first.plan ≡ o) (no_faults : later_names.faults ≡ 0) (f : Free) (was : StandsUp before old f) (news : AreNew (history_of before) ids) where
    abbrev old_place : ClientPlace
    old_place = UpPlace (parts_of old) (entries_of old) f

    abbrev new_place : Free → ClientPlace
    new_place free = UpPlace (parts_of new) (entries_of new) free

    abbrev mine : List Id16
    mine = place_names old_place ++ ids

    abbrev old_trouble : Trouble
    old_trouble = trouble_of shown_of old

    abbrev new_trouble : Trouble
    new_trouble = trouble_of shown_of new

    -- ---- names

    place_mine : Includes mine (place_names old_place)
    place_mine = in_front mine (place_names old_place) ids (includes_all mine)

    own : Includes mine (mine_of (parts_of old))
    own = in_front mine (mine_of (parts_of old)) (flight_names f.flight) place_mine

    flies : Includes mine (call.flight_names f.flight)
    flies = subst (Includes mine) (sym (flights_same f.flight)) (in_rest mine (mine_of (parts_of old)) (flight_names f.flight) place_mine)

    drawn : Includes mine ids
    drawn = in_rest mine (place_names old_place) ids (includes_all mine)

    names_now : (free : Free) → free.flight ≡ f.flight → (x : Taken mine free) → Includes mine (place_names (new_place x.free))
    names_now free same x =
        let here : Includes mine (call.flight_names free.flight) = subst (λ (y : Option m.Note). Includes mine (call.flight_names y)) (sym same) flies in
        both_mine mine (mine_of (parts_of new)) (flight_names x.free.flight) x.names (subst (Includes mine) (flights_same x.free.flight) (x.flight here))

    -- ---- what a crash may leave

    left_after : LeavesFit shown_of new after
    left_after =
        let same : falls.ids ≡ ids = append_cancel_left (numbered_names names.count) falls.ids ids (sym falls.drawn ∙ asks.calls.drawn) in
        falls.over tt tt mine f was.over own flies (subst (Includes mine) (sym same) drawn) (subst (AreNew (history_of before)) (sym same) news) (inl tt) was.left

    taken : (free : Free) → StandsOver shown_of old before free → IsArmed r free → Taken mine free
    taken free stands armed =
        asks.calls.over tt tt moment mine free stands own drawn news (moment_read clock (shown_by later_clock) moment asks.calls.at is_set asks.calls.reads) (inl tt) armed

    slots_same : (free : Free) (x : Taken mine free) → x.free.slots ≡ f.slots
    slots_same free x = x.stands.slots ∙ slots ∙ sym was.over.slots

    -- ---- the client is up

    module _ (unburnt : new_trouble.burnt ≡ false) where
      x : Taken mine f
      x = taken f was.over (is_armed r f (had_failure old_trouble new_trouble r suffers f was.set unburnt))

      -- with this free, which has what the call left but for what is set on the disk
      acted : (free : Free) → StandsOver shown_of new after free → free.slots ≡ f.slots → free.flight ≡ x.free.flight → IsSetAs new_trouble free
          → (r ≢ reply.NoMemory → (choice : Choice) × Includes ids (drawn_by_act (act.Ask q o) r choice.name)
          × Acts (place_side moment (history_of before) old_place) (seen_place (history_of before) old_place).up (act.Ask q o) (said_over before after r) choice
          (place_side moment (history_of after) (new_place free)))
          → ActsAs before after moment ids (place.Up new) old_place (act.Ask q o) r
      acted free over slots flight set event = record {
        now = new_place free;
        stands = (refl, refl, record { over = over; left = left_after; set = set; unburnt = unburnt });
        fits = over.fits;
        slots = slots;
        growth = x.growth;
        names = subst (λ (y : Option m.Note). Includes mine (mine_of (parts_of new) ++ flight_names y)) (sym flight) (names_now f refl x);
        event = event;
      }

      -- out of memory, what was set is taken to be set still
      without_memory : r ≡ reply.NoMemory → ActsAs before after moment ids (place.Up new) old_place (act.Ask q o) r
      without_memory none =
          let free : Free = with_armed f.fused f.failing x.free in
          acted free (rearmed new after x.free f.fused f.failing x.stands) (slots_same f x) refl
          (still_set old_trouble new_trouble r suffers f was.set free unburnt refl (λ other. refl)) (λ memory. absurd (memory none))

      with_memory : r ≢ reply.NoMemory → ActsAs before after moment ids (place.Up new) old_place (act.Ask q o) r
      with_memory memory =
          let event = asked o mine f planned no_faults x memory in
          let choice : Choice = record { name = asks.name; second = event.0 } in
          let armed : LeavesArmed r (client_side moment before old f) (client_side moment after new x.free) =
          ask_leaves_armed (client_side moment before old f) (client_up before old) q o (said_over before after r) choice (client_side moment after new x.free) event.1 in
          acted x.free x.stands (slots_same f x) refl (still_set old_trouble new_trouble r suffers f was.set x.free unburnt (armed.fused refl) armed.failing)
          (λ has. (choice, drawn_own (publishes q && is_task r) ids asks.name asks.named, event.1))

      stays_up : ActsAs before after moment ids (place.Up new) old_place (act.Ask q o) r
      stays_up = by (memory_or r)
        where
          by : (r ≡ reply.NoMemory) ⊎ (r ≢ reply.NoMemory) → ActsAs before after moment ids (place.Up new) old_place (act.Ask q o) r
          by (inl none) = without_memory none
          by (inr memory) = with_memory memory

    -- ---- the client is down

    module _ (burnt : new_trouble.burnt ≡ true) (down : LeavesDown shown_of new (log_disk new.ledger.log)) where
      fault : r ≡ reply.DiskFault
      fault = suffers.strikes was.unburnt burnt

      -- the disk is one that is set to fail
      struck_call : Taken mine (free_failing f)
      struck_call = taken (free_failing f) (rearmed old before f f.fused true was.over) (subst (λ (y : Reply). IsArmed y (free_failing f)) (sym fault) refl)

      abbrev left_free : Free
      left_free = free_struck f.failing struck_call.free

      moves : MovesPlace after (new_place struck_call.free) (DownPlace new.id new.ledger.databases.kept left_free)
      moves = place_falls after (parts_of new) (entries_of new) struck_call.free left_free refl struck_call.stands.fits

      has_memory : r ≢ reply.NoMemory
      has_memory none = absurd (let wrong : reply.DiskFault ≡ reply.NoMemory = sym fault ∙ none in cc)

      falls_down : ActsAs before after moment ids (place.Down (log_disk new.ledger.log)) old_place (act.Ask q o) reply.Crashed
      falls_down =
          let event = asked o mine (free_failing f) planned no_faults struck_call has_memory in
          let choice : Choice = record { name = asks.name; second = event.0 } in
          record {
            now = DownPlace new.id new.ledger.databases.kept left_free;
            stands = record {
              down = (down after left_free (rearmed new after struck_call.free false f.failing struck_call.stands) left_after).is_down;
              set = set_struck old_trouble new_trouble r suffers f was.set left_free was.unburnt burnt refl;
            };
            fits = moves.fits;
            slots = slots_same (free_failing f) struck_call;
            growth = struck_call.growth;
            names = λ i has. names_now (free_failing f) refl struck_call i (moves.names i has);
            event = λ memory. (
              choice,
              drawn_none (publishes q) ids asks.name,
              struck_acts moment (history_of before) (history_of after) old_place (new_place struck_call.free) (act.Ask q o) (said_over before after r) choice
                  (had_fuse old_trouble new_trouble r suffers f was.set was.unburnt burnt) fault event.1,
            );
          }

-- ---- the place

module _ (before after : List Entry) (names later_names : Counter) (moment : ℕ) (old new : Client MemDisk ghosts) (q : Ask) (o : Outcome) (r : Reply)
    (once : AskedOnce before after names later_names moment old new q o r) where
  abbrev started : List Entry
  started = once.first.log

  abbrev ended : List Entry
  ended = once.last.log

  -- the same over the logs that the call says
  from_call : (slots : ℕ) (later : Place) (said : Reply) → PlaceActs started ended names later_names moment slots (place.Up old) later (act.Ask q o) said
      → PlaceActs before after names later_names moment slots (place.Up old) later (act.Ask q o) said
  from_call slots later said acts =
      subst (λ (log : List Entry). PlaceActs log after names later_names moment slots (place.Up old) later (act.Ask q o) said) once.is_before
      (subst (λ (log : List Entry). PlaceActs started log names later_names moment slots (place.Up old) later (act.Ask q o) said) once.is_after acts)

  -- whatever the client stands for, it is what it has
  by_place : (later : Place) (said : Reply) → ((f : Free) → StandsUp started old f → ActsAs started ended moment once.asks.calls.ids later (UpPlace (parts_of old) (entries_of old) f) (act.Ask q o) said)
      → (was : ClientPlace) → StandsAs started (place.Up old) was → ActsAs started ended moment once.asks.calls.ids later was (act.Ask q o) said
  by_place later said acts (UpPlace p entries f) stands =
      subst (λ (y : Parts). ActsAs started ended moment once.asks.calls.ids later (UpPlace y entries f) (act.Ask q o) said) (sym stands.0)
      (subst (λ (y : List cache.Entry). ActsAs started ended moment once.asks.calls.ids later (UpPlace (parts_of old) y f) (act.Ask q o) said) (sym stands.1) (acts f stands.2))
  by_place later said acts (DownPlace id k f) stands = absurd stands

  pub asked_stays_up : (trouble_of shown_of new).burnt ≡ false → (slots : ℕ)
      → PlaceActs before after names later_names moment slots (place.Up old) (place.Up new) (act.Ask q o) r
  asked_stays_up unburnt slots =
      from_call slots (place.Up new) r
      (record {
        ids = once.asks.calls.ids;
        drawn = once.asks.calls.drawn;
        few = once.asks.calls.few;
        over = λ was small sound stands fits given news.
            by_place (place.Up new) r
            (λ f up.
            stays_up once.first once.last names later_names once.clock once.later_clock old new q r moment once.asks once.is_set once.same.slots once.falls (once.fails.troubles tt) o once.planned
            (once.no_faults small) f up news unburnt)
            was stands;
      })

  its_disk_falls : (trouble_of shown_of new).burnt ≡ true → LeavesDown shown_of new (log_disk new.ledger.log) → (slots : ℕ)
      → PlaceActs before after names later_names moment slots (place.Up old) (place.Down (log_disk new.ledger.log)) (act.Ask q o) reply.Crashed
  its_disk_falls burnt down slots =
      from_call slots (place.Down (log_disk new.ledger.log)) reply.Crashed
      (record {
        ids = once.asks.calls.ids;
        drawn = once.asks.calls.drawn;
        few = once.asks.calls.few;
        over = λ was small sound stands fits given news.
            by_place (place.Down (log_disk new.ledger.log)) reply.Crashed
            (λ f up.
            falls_down once.first once.last names later_names once.clock once.later_clock old new q r moment once.asks once.is_set once.same.slots once.falls (once.fails.troubles tt) o once.planned
            (once.no_faults small) f up news burnt down)
            was stands;
      })

  pub asked_falls_down : (trouble_of shown_of new).burnt ≡ true → (disk : MemDisk) → disk ≡ log_disk new.ledger.log → LeavesDown shown_of new disk → (slots : ℕ)
      → PlaceActs before after names later_names moment slots (place.Up old) (place.Down disk) (act.Ask q o) reply.Crashed
  asked_falls_down burnt disk is down slots =
      subst (λ (d : MemDisk). PlaceActs before after names later_names moment slots (place.Up old) (place.Down d) (act.Ask q o) reply.Crashed) (sym is)
      (its_disk_falls burnt (subst (λ (d : MemDisk). LeavesDown shown_of new d) is down) slots)
