-- A place acts without a request: what sets its disk, what takes its client down, and what a client that is down answers.
use Rattle.std.proofs.Common.{◌≡◌, ◌≢◌, ◌∙◌, ◌+◌, ◌&&◌, ℕ, Bool, true, false, List, [], ◌∷◌, ◌++◌, append-nil, Option, Some, None, if◌then◌else◌, map, refl, sym, ap, subst, arith}
use Rattle.std.proofs.lemmas.Bool.{eq-eqb}
use Rattle.bcv_base.specs.declared.id.Id16.{Id16}
use Rattle.bcv_base.specs.declared.log.Entry.{Entry}
use Rattle.bcv_base.specs.declared.seen.Latest.{Latest}
use Rattle.bcv_base.specs.declared.seen.Seen.{Seen}
use Rattle.bcv_base.specs.History.{Item, history_of}
use Rattle.bcv_base.specs.Numbered.{Counter, numbered_names}
use Rattle.bcv_cache.specs.Entry as cache
use Rattle.bcv_clientlaws.specs.OtherParts.{FitsKept, Includes}
use Rattle.bcv_clientlaws.proofs.OtherParts.{in_front, includes_all}
use Rattle.bcv_clientlog.specs.LogParts.{is_shut, log_disk}
use Rattle.bcv_clientstate.specs.Parts.{Parts, mine_of}
use Rattle.bcv_clientstate.specs.SeenClient.{Free}
use Rattle.bcv_clientstate.specs.SeenContainer.{container_of}
use Rattle.bcv_client.specs.ClientParts.{entries_of, parts_of, sets_in, task_part}
use Rattle.bcv_client.specs.Events.{StandsOver}
use Rattle.bcv_client.specs.InForm.{InForm, IsClient}
use Rattle.bcv_client.specs.Planned.{OnlyPlans, SetsOver, trouble_of, with_failure, with_fuse}
use Rattle.bcv_client.specs.declared.client.Client.{Client}
use Rattle.bcv_client.specs.declared.job.Job.{Job}
use Rattle.bcv_databases.specs.Catalog.{Catalog}
use Rattle.bcv_dbmap.specs.Sound.{IsSoundLog}
use Rattle.bcv_disk.specs.contracts.memory.MemDiskDisk.TheImpl.{ghosts}
use Rattle.bcv_disk.specs.DiskShown.{Trouble}
use Rattle.bcv_disk.specs.Memory.{shown_of}
use Rattle.bcv_disk.specs.Record.{Leaves}
use Rattle.bcv_disk.specs.Story.{with_crash}
use Rattle.bcv_disk.specs.declared.memory.MemDisk.{MemDisk}
use Rattle.bcv_machine.specs.CrashAndUp.{SetsFailure, SetsFuse}
use Rattle.bcv_machine.specs.State as m
use Rattle.bcv_machine.specs.State.{version_count}
use Rattle.bcv_machine.specs.Step.{Acts, Choice, drawn_by_act, publishes}
use Rattle.bcv_model.specs.declared.event.Act.{Act}
use Rattle.bcv_model.specs.declared.event.Act.TheVariants as act
use Rattle.bcv_model.specs.declared.kept.Kept.{Kept}
use Rattle.bcv_model.specs.declared.reply.Reply.{Reply}
use Rattle.bcv_model.specs.declared.reply.Reply.TheVariants as reply
use Rattle.bcv_publisher.specs.PollStep.{IsReadForm}
use Rattle.bcv_publisher.specs.PutStep.{version_added}
use Rattle.bcv_risen.specs.RisenSides.{IsDown}
use Rattle.bcv_slots.specs.declared.Slot.{Slot}
use Rattle.bcv_transaction.specs.MachineCalls.{open_part}
use Rattle.bcv_transaction.specs.Open.{Open}
use Rattle.bcv_worldlaws.specs.Places.{ClientPlace, DownPlace, UpPlace, FitsPlace, flight_names, place_names, place_side, seen_place}
use Rattle.bcv_worldlaws.specs.WorldLaws.{MovesPlace}
use Rattle.bcv_worldlaws.proofs.Names.{none_mine}
use Rattle.bcv_worldlaws.proofs.PlacesStay.{down_crashes, place_falls}
use Rattle.bcv_worldlaws.proofs.QuietPlaces.{quiet_acts}
use Rattle.bcv_worldlaws.proofs.WorldOn.{nothing_grows}
use Rattle.bcv_world.specs.declared.place.Place.{Place}
use Rattle.bcv_world.specs.declared.place.Place.TheVariants as place
use Rattle.bcv_world.specs.Standing.{ActsAs, IsSetAs, LiesDown, PlaceActs, StandsAs, StandsUp, slots_in}
use Rattle.bcv_world.specs.WorldForm.{PlaceWithin}
use Rattle.bcv_world.proofs.SetDisks.{crash_leaves}

-- ---- over a log that does not grow

-- no version is added
nothing_added : (past : List Item) → version_added past past ≡ None
nothing_added past =
    let n : ℕ = version_count (container_of 0 past) in
    ap (λ (b : Bool). if b then None else Some n) (eq-eqb n n refl)

module _ (log : List Entry) (sound : IsSoundLog log) (moment : ℕ) (ids : List Id16) (new : Place) (was now : ClientPlace) (what : Act) (r : Reply) (choice : Choice) where
  -- what the machine says where nothing is published
  abbrev pub QuietEvent : Type 0
  QuietEvent = Includes ids (drawn_by_act what r choice.name)
      × Acts (place_side moment (history_of log) was) (seen_place (history_of log) was).up what (record { published = None; reply = r }) choice
      (place_side moment (history_of log) now)

  -- a place that moves so acts
  pub moved_place : StandsAs log new now → slots_in now ≡ slots_in was → MovesPlace log was now → (r ≢ reply.NoMemory → QuietEvent)
      → ActsAs log log moment ids new was what r
  moved_place stands slots moves event = record {
    now = now;
    stands = stands;
    fits = moves.fits;
    slots = slots;
    growth = nothing_grows (place_names was ++ ids) log sound;
    names = λ i h. in_front (place_names was ++ ids) (place_names was) ids (includes_all (place_names was ++ ids)) i (moves.names i h);
    event = λ memory.
        let e : QuietEvent = event memory in (
          choice,
          e.0,
          subst (λ (o : Option ℕ). Acts (place_side moment (history_of log) was) (seen_place (history_of log) was).up what (record { published = o; reply = r }) choice
              (place_side moment (history_of log) now)) (sym (nothing_added (history_of log))) e.1,
        );
  }

-- a place that draws no name acts
pub draws_none : (log : List Entry) (names : Counter) (moment slots : ℕ) (old new : Place) (what : Act) (r : Reply)
    → ((was : ClientPlace) → IsSoundLog log → StandsAs log old was → FitsPlace log was → ActsAs log log moment [] new was what r)
    → PlaceActs log log names names moment slots old new what r
draws_none log names moment slots old new what r acts = record {
  ids = [];
  drawn = sym (append-nil (numbered_names names.count));
  few = omega arith;
  over = λ was small sound stands fits given are_new. acts was sound stands fits;
}

-- ---- a client that is down

abbrev pub some_choice : Id16 → Choice
some_choice id = record { name = id; second = false }

-- an ask without a task draws no name
no_task : (b : Bool) (i : Id16) → (if b && false then i ∷ [] else []) ≡ []
no_task true i = refl
no_task false i = refl

-- it is asked anything but to come up
abbrev pub IsRefusedDown : Act → Type 0
IsRefusedDown act.Up = ⊥
IsRefusedDown _ = Unit {0}

module _ (log : List Entry) (moment : ℕ) (disk : MemDisk) (sound : IsSoundLog log) (id : Id16) (k : Kept) (f : Free) where
  abbrev lies : ClientPlace
  lies = DownPlace id k f

  refused : (what : Act) → IsRefusedDown what → QuietEvent log sound moment [] (place.Down disk) lies lies what reply.Down (some_choice id)
  refused (act.Ask q o) other = (subst (Includes []) (sym (no_task (publishes q) id)) (none_mine []), quiet_acts moment (history_of log) (act.Ask q o) lies (some_choice id))
  refused act.Up other = absurd other
  refused (act.Crash image) other = (none_mine [], quiet_acts moment (history_of log) (act.Crash image) lies (some_choice id))
  refused (act.Fuse calls image) other = (none_mine [], quiet_acts moment (history_of log) (act.Fuse calls image) lies (some_choice id))
  refused (act.FailAt calls) other = (none_mine [], quiet_acts moment (history_of log) (act.FailAt calls) lies (some_choice id))

  down_stays_down : (what : Act) → IsRefusedDown what → StandsAs log (place.Down disk) lies → FitsPlace log lies → ActsAs log log moment [] (place.Down disk) lies what reply.Down
  down_stays_down what other stands fits =
      moved_place log sound moment [] (place.Down disk) lies lies what reply.Down (some_choice id) stands refl
      (record { fits = fits; names = includes_all (place_names lies) }) (λ memory. refused what other)

pub refused_down : (log : List Entry) (names : Counter) (moment slots : ℕ) (disk : MemDisk) (what : Act) → IsRefusedDown what
    → PlaceActs log log names names moment slots (place.Down disk) (place.Down disk) what reply.Down
refused_down log names moment slots disk what other = draws_none log names moment slots (place.Down disk) (place.Down disk) what reply.Down acts
  where
    acts : (was : ClientPlace) → IsSoundLog log → StandsAs log (place.Down disk) was → FitsPlace log was → ActsAs log log moment [] (place.Down disk) was what reply.Down
    acts (UpPlace p entries f) sound stands fits = absurd stands
    acts (DownPlace id k f) sound stands fits = down_stays_down log moment disk sound id k f what other stands fits

-- ---- a client that is up

-- what acts from the parts of a client acts from its place
module _ (log : List Entry) (c : Client MemDisk ghosts) (P : ClientPlace → Type 0) where
  pub from_parts : ((f : Free) → StandsUp log c f → P (UpPlace (parts_of c) (entries_of c) f)) → (was : ClientPlace) → StandsAs log (place.Up c) was → P was
  from_parts acts (UpPlace p entries f) stands =
      subst (λ (q : Parts). P (UpPlace q entries f)) (sym stands.0)
      (subst (λ (es : List cache.Entry). P (UpPlace (parts_of c) es f)) (sym stands.1) (acts f stands.2))
  from_parts acts (DownPlace id k f) stands = absurd stands

module _ (log : List Entry) (names : Counter) (moment slots : ℕ) (c : Client MemDisk ghosts) (new : Place) (what : Act) (r : Reply) where
  -- an act without a request and without a name
  pub quietly_up : ((f : Free) → StandsUp log c f → ActsAs log log moment [] new (UpPlace (parts_of c) (entries_of c) f) what r)
      → PlaceActs log log names names moment slots (place.Up c) new what r
  quietly_up acts =
      draws_none log names moment slots (place.Up c) new what r
      (λ was sound stands fits. from_parts log c (λ (w : ClientPlace). ActsAs log log moment [] new w what r) acts was stands)

-- a client that is up is told so
pub told_up : (log : List Entry) (names : Counter) (moment slots : ℕ) (c : Client MemDisk ghosts) → PlaceActs log log names names moment slots (place.Up c) (place.Up c) act.Up reply.IsUp
told_up log names moment slots c = quietly_up log names moment slots c (place.Up c) act.Up reply.IsUp acts
  where
    acts : (f : Free) → StandsUp log c f → ActsAs log log moment [] (place.Up c) (UpPlace (parts_of c) (entries_of c) f) act.Up reply.IsUp
    acts f up =
        let was : ClientPlace = UpPlace (parts_of c) (entries_of c) f in
        moved_place log up.over.sound moment [] (place.Up c) was was act.Up reply.IsUp (some_choice c.id) (refl, refl, up) refl
        (record { fits = up.over.fits; names = includes_all (place_names was) })
        (λ memory. (none_mine [], quiet_acts moment (history_of log) act.Up was (some_choice c.id)))

-- ---- what is set on a disk

-- a client's parts by what it has
abbrev parts_by : Id16 → Bool → Seen → Option Latest → Catalog → Open → List (Slot Job) → Parts
parts_by id shut seen latest c o tasks = record {
  id = id;
  closed = shut;
  seen = seen;
  latest = latest;
  kept = c.kept;
  known = c.known;
  txns = map (open_part (sets_in c)) o.txns;
  tasks = map (task_part c) tasks;
}

module _ {g : _} (old new : Client MemDisk g) (planned : Trouble) (only : OnlyPlans shown_of old new planned) where
  pub planned_parts : parts_of new ≡ parts_of old
  planned_parts =
      ap (λ (x : Id16). parts_by x (is_shut new.ledger.log) new.seen new.latest new.ledger.databases new.txns new.tasks.items) only.id
      ∙ ap (λ (x : Bool). parts_by old.id x new.seen new.latest new.ledger.databases new.txns new.tasks.items) only.log.shut
      ∙ ap (λ (x : Seen). parts_by old.id (is_shut old.ledger.log) x new.latest new.ledger.databases new.txns new.tasks.items) only.seen
      ∙ ap (λ (x : Option Latest). parts_by old.id (is_shut old.ledger.log) old.seen x new.ledger.databases new.txns new.tasks.items) only.latest
      ∙ ap (λ (x : Catalog). parts_by old.id (is_shut old.ledger.log) old.seen old.latest x new.txns new.tasks.items) only.databases
      ∙ ap (λ (x : Open). parts_by old.id (is_shut old.ledger.log) old.seen old.latest old.ledger.databases x new.tasks.items) only.txns
      ∙ ap (λ (x : _). parts_by old.id (is_shut old.ledger.log) old.seen old.latest old.ledger.databases old.txns x.items) only.tasks

  -- it stands with what is set, and a crash leaves of its disk what it could leave before
  planned_up : (log : List Entry) (f free : Free) → StandsUp log old f → StandsOver shown_of new log free → IsSetAs planned free
      → planned.burnt ≡ (trouble_of shown_of old).burnt → StandsUp log new free
  planned_up log f free up over set whole = record {
    over = over;
    left = λ image there left most loads.
        subst (λ (id : Id16). FitsKept log id left []) (sym only.id) (up.left image (only.log.disk.same.no_more image there) left most loads);
    set = subst (λ (t : Trouble). IsSetAs t free) (sym only.log.disk.trouble) set;
    unburnt = ap (λ (t : Trouble). t.burnt) only.log.disk.trouble ∙ whole ∙ up.unburnt;
  }

  planned_names : (f free : Free) → free.flight ≡ f.flight → Includes (place_names (UpPlace (parts_of old) (entries_of old) f)) (place_names (UpPlace (parts_of new) (entries_of new) free))
  planned_names f free flight =
      subst (λ (q : Parts). Includes (place_names (UpPlace (parts_of old) (entries_of old) f)) (place_names (UpPlace q (entries_of new) free))) (sym planned_parts)
      (subst (λ (o : Option m.Note). Includes (place_names (UpPlace (parts_of old) (entries_of old) f)) (mine_of (parts_of old) ++ flight_names o)) (sym flight)
      (includes_all (place_names (UpPlace (parts_of old) (entries_of old) f))))

module _ (old new : Client MemDisk ghosts) (planned : Trouble) (only : OnlyPlans shown_of old new planned) (log : List Entry) (moment : ℕ) (f free : Free) (what : Act)
    (up : StandsUp log old f) (same_slots : free.slots ≡ f.slots) (flight : free.flight ≡ f.flight) (set : IsSetAs planned free)
    (whole : planned.burnt ≡ (trouble_of shown_of old).burnt) (over : StandsOver shown_of new log free) where
  -- the machine sets it, too
  planned_acts : Includes [] (drawn_by_act what reply.Fine old.id)
      → Acts (place_side moment (history_of log) (UpPlace (parts_of old) (entries_of old) f)) (seen_place (history_of log) (UpPlace (parts_of old) (entries_of old) f)).up what
      (record { published = None; reply = reply.Fine }) (some_choice old.id) (place_side moment (history_of log) (UpPlace (parts_of new) (entries_of new) free))
      → ActsAs log log moment [] (place.Up new) (UpPlace (parts_of old) (entries_of old) f) what reply.Fine
  planned_acts draws acts =
      moved_place log up.over.sound moment [] (place.Up new) (UpPlace (parts_of old) (entries_of old) f) (UpPlace (parts_of new) (entries_of new) free) what reply.Fine (some_choice old.id)
      (refl, refl, planned_up old new planned only log f free up over set whole) same_slots
      (record { fits = over.fits; names = planned_names old new planned only f free flight }) (λ memory. (draws, acts))

-- it is in form, with as many commits as before
pub planned_within : (old new : Client MemDisk ghosts) (planned : Trouble) → OnlyPlans shown_of old new planned → IsClient old → InForm new → PlaceWithin (old.taken + 1) (place.Up new)
planned_within old new planned only was form = record {
  form = record {
    form = form;
    read = subst (λ (s : Seen). IsReadForm s new.latest) (sym only.seen) (subst (λ (l : Option Latest). IsReadForm old.seen l) (sym only.latest) was.read);
  };
  taken = omega (arith, only.taken);
}

-- a fuse is set
pub fused_up : (log : List Entry) (names : Counter) (moment slots calls image : ℕ) (old new : Client MemDisk ghosts)
    → OnlyPlans shown_of old new (record (trouble_of shown_of old) { fuse = Some (calls, image) }) → SetsOver shown_of with_fuse (λ s t. SetsFuse s reply.Fine t) old new
    → PlaceActs log log names names moment slots (place.Up old) (place.Up new) (act.Fuse calls image) reply.Fine
fused_up log names moment slots calls image old new only sets = quietly_up log names moment slots old (place.Up new) (act.Fuse calls image) reply.Fine acts
  where
    acts : (f : Free) → StandsUp log old f → ActsAs log log moment [] (place.Up new) (UpPlace (parts_of old) (entries_of old) f) (act.Fuse calls image) reply.Fine
    acts f up =
        let done = sets moment log f up.over in
        planned_acts old new (record (trouble_of shown_of old) { fuse = Some (calls, image) }) only log moment f (with_fuse f) (act.Fuse calls image) up refl refl
        (record { fused = λ is. refl; failing = up.set.failing }) refl done.0 (none_mine []) (refl, done.1)

-- a failure is set
pub failing_up : (log : List Entry) (names : Counter) (moment slots calls : ℕ) (old new : Client MemDisk ghosts)
    → OnlyPlans shown_of old new (record (trouble_of shown_of old) { failure = Some calls }) → SetsOver shown_of with_failure (λ s t. SetsFailure s reply.Fine t) old new
    → PlaceActs log log names names moment slots (place.Up old) (place.Up new) (act.FailAt calls) reply.Fine
failing_up log names moment slots calls old new only sets = quietly_up log names moment slots old (place.Up new) (act.FailAt calls) reply.Fine acts
  where
    acts : (f : Free) → StandsUp log old f → ActsAs log log moment [] (place.Up new) (UpPlace (parts_of old) (entries_of old) f) (act.FailAt calls) reply.Fine
    acts f up =
        let done = sets moment log f up.over in
        planned_acts old new (record (trouble_of shown_of old) { failure = Some calls }) only log moment f (with_failure f) (act.FailAt calls) up refl refl
        (record { fused = up.set.fused; failing = λ is. refl }) refl done.0 (none_mine []) (refl, done.1)

-- ---- a client goes down

-- its disk is that of a client that is down, with whatever note is in flight
pub stood_down : {g : _} (log : List Entry) (c : Client MemDisk g) (f : Free) → StandsUp log c f → IsDown (shown_of (log_disk c.ledger.log)) log c.id c.ledger.databases.kept f
stood_down log c f up = record { is_id = up.over.fits.is_id; ordered = up.over.fits.ordered; holds = up.over.journaled.images; fits = up.left }

-- a crash that is asked for
pub crashes_up : (log : List Entry) (names : Counter) (moment slots image : ℕ) (c : Client MemDisk ghosts) (disk : MemDisk)
    → disk ≡ record (log_disk c.ledger.log) { platter = with_crash image (log_disk c.ledger.log).platter }
    → PlaceActs log log names names moment slots (place.Up c) (place.Down disk) (act.Crash image) reply.Crashed
crashes_up log names moment slots image c disk is = quietly_up log names moment slots c (place.Down disk) (act.Crash image) reply.Crashed acts
  where
    was_disk : MemDisk
    was_disk = log_disk c.ledger.log

    lies : (f : Free) → StandsUp log c f → LiesDown log disk c.id c.ledger.databases.kept f
    lies f up = record {
      down =
          down_crashes shown_of was_disk disk log c.id c.ledger.databases.kept f f refl refl
          (λ left there. crash_leaves image was_disk.platter left (subst (λ (d : MemDisk). Leaves d.platter.acts left) is there)) (stood_down log c f up);
      set = subst (λ (d : MemDisk). IsSetAs (shown_of d).trouble f) (sym is) (record { fused = up.set.fused; failing = up.set.failing });
    }

    acts : (f : Free) → StandsUp log c f → ActsAs log log moment [] (place.Down disk) (UpPlace (parts_of c) (entries_of c) f) (act.Crash image) reply.Crashed
    acts f up =
        let was : ClientPlace = UpPlace (parts_of c) (entries_of c) f in
        moved_place log up.over.sound moment [] (place.Down disk) was (DownPlace c.id c.ledger.databases.kept f) (act.Crash image) reply.Crashed (some_choice c.id) (lies f up) refl
        (place_falls log (parts_of c) (entries_of c) f f refl up.over.fits) (λ memory. (none_mine [], quiet_acts moment (history_of log) (act.Crash image) was (some_choice c.id)))
