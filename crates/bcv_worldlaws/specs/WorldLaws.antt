-- Laws on a world of many clients: what one client's act is among the others, how places change,
-- and how a world begins.
use Rattle.std.specs.Prelude.{◌≡◌, ◌+◌, ◌-◌, ◌^◌, ◌<◌, ℕ, true, false, min, List, [], ◌∷◌, ◌++◌, None, Some, length}
use Rattle.std.specs.Option.{option_map}
use Rattle.bcv_base.specs.declared.id.Id16.{Id16}
use Rattle.bcv_base.specs.declared.log.Entry.{Entry}
use Rattle.bcv_base.specs.declared.seen.Seen.{Seen}
use Rattle.bcv_base.specs.History.{Item, history_of}
use Rattle.bcv_base.specs.Ids.{has_id}
use Rattle.bcv_base.specs.Numbered.{numbered_names}
use Rattle.bcv_cache.specs.Entry as cache
use Rattle.bcv_clientlaws.specs.OtherParts.{Includes}
use Rattle.bcv_clientstate.specs.Fits.{Fits, FitsJob, FitsSeen}
use Rattle.bcv_clientstate.specs.Parts.{Job, Parts, names_of_job}
use Rattle.bcv_clientstate.specs.SeenClient.{Free}
use Rattle.bcv_clientstate.specs.SeenKept.{seen_kept}
use Rattle.bcv_clientstate.specs.UpSides.{risen_free, risen_parts}
use Rattle.bcv_dbmap.specs.Growth.{AreLawful}
use Rattle.bcv_dbmap.specs.Honest.{AreApart}
use Rattle.bcv_dbmap.specs.RequestGrowth.{RequestGrowth}
use Rattle.bcv_dbmap.specs.Sound.{IsSoundLog}
use Rattle.bcv_disk.specs.DiskShown.{DiskShown}
use Rattle.bcv_machine.specs.CrashAndUp.{MayBeLeft}
use Rattle.bcv_machine.specs.State as m
use Rattle.bcv_machine.specs.State.{client_at, first_state, put_back}
use Rattle.bcv_machine.specs.Step as step
use Rattle.bcv_machine.specs.Step.{Acts, Choice, Next, drawn_by_act}
use Rattle.bcv_model.specs.declared.event.Act.{Act}
use Rattle.bcv_model.specs.declared.event.Event.TheVariants as event
use Rattle.bcv_model.specs.declared.kept.Kept.{Kept}
use Rattle.bcv_model.specs.declared.note.Note.TheVariants as note
use Rattle.bcv_model.specs.declared.reply.Reply.TheVariants as reply
use Rattle.bcv_model.specs.declared.reply.Said.{Said}
use Rattle.bcv_model.specs.Notes.{after_note, nothing_kept}
use Rattle.bcv_risen.specs.RisenSides.{IsDown, new_free}
use Rattle.bcv_worldlaws.specs.Places.{ClientPlace, DownPlace, UpPlace, ArePlacesApart, AwayFrom, FitsPlace, IsUnknown, PlacesFit, WorldFits, place_at, place_names, place_side, seen_place, with_place, world_seen}

-- ---- what others append

-- after more entries a place still fits the log, and is seen as it was
pub record StaysPlace (log more : List Entry) (p : ClientPlace) : Type 0 where
  pub fits : FitsPlace (log ++ more) p
  pub seen : seen_place (history_of (log ++ more)) p ≡ seen_place (history_of log) p

-- entries that keep away from a place's names leave it so
abbrev pub OthersStay : Type 0
OthersStay =
    (log others : List Entry) (p : ClientPlace) → IsSoundLog log
    → AreLawful (place_names p) (history_of log) others
    → FitsPlace log p → StaysPlace log others p

-- and so what was seen of a container stays
abbrev pub SeenStays : Type 0
SeenStays =
    (log more : List Entry) (seen : Seen) → FitsSeen (history_of log) seen
    → FitsSeen (history_of (log ++ more)) seen

-- ---- one client acts

-- the client of a number is that of its place
abbrev pub PlaceIsClient : Type 0
PlaceIsClient =
    (moment : ℕ) (past : List Item) (places : List ClientPlace) (n : ℕ)
    → client_at (world_seen moment past places) n ≡ option_map (seen_place past) (place_at n places)

-- the state is the one before with the side of the new place put back, and each place fits the log
pub record ActedInPlace (moment : ℕ) (before after : List Entry) (places : List ClientPlace) (n : ℕ)
    (new : ClientPlace) : Type 0 where
  pub state : world_seen moment (history_of after) (with_place n new places)
      ≡ put_back (world_seen moment (history_of before) places) n
      (place_side moment (history_of after) new)
  pub fit : PlacesFit after (with_place n new places)

-- so it is where the client of a place makes a request, over a log that nobody else writes, under its
-- names and drawn ones
abbrev pub ActsInPlace : Type 0
ActsInPlace =
    (moment : ℕ) (before after : List Entry) (places : List ClientPlace) (n : ℕ)
    (old new : ClientPlace) (drawn : List Id16)
    → IsSoundLog before → PlacesFit before places → ArePlacesApart places → AwayFrom drawn places
    → place_at n places ≡ Some old
    → RequestGrowth (Unit {0}) (place_names old ++ drawn) before after → FitsPlace after new
    → ActedInPlace moment before after places n new

-- where the machine takes what the client did from its side to that of the new place, that is an
-- event of the machine
abbrev pub ActIsNext : Type 0
ActIsNext =
    (moment : ℕ) (before after : List Entry) (places : List ClientPlace) (n : ℕ)
    (old new : ClientPlace) (drawn : List Id16) (what : Act) (said : Said) (choice : Choice)
    → place_at n places ≡ Some old → AwayFrom drawn places
    → Includes drawn (drawn_by_act what said.reply choice.name)
    → ActedInPlace moment before after places n new
    → Acts (place_side moment (history_of before) old)
    (seen_place (history_of before) old).up what said choice
    (place_side moment (history_of after) new)
    → Next (world_seen moment (history_of before) places) (event.Of n what) said choice
    (world_seen moment (history_of after) (with_place n new places))

-- without a request nothing grows
abbrev pub NothingGrows : Type 0
NothingGrows =
    (mine : List Id16) (log : List Entry) → IsSoundLog log → RequestGrowth (Unit {0}) mine log log

-- the world still fits, with the names drawn in the call
abbrev pub WorldGoesOn : Type 0
WorldGoesOn =
    (names drawn : List Id16) (before after : List Entry) (places : List ClientPlace) (n : ℕ)
    (old new : ClientPlace)
    → WorldFits names before places → AreApart names drawn → place_at n places ≡ Some old
    → RequestGrowth (Unit {0}) (place_names old ++ drawn) before after → FitsPlace after new
    → Includes (place_names old ++ drawn) (place_names new)
    → WorldFits (names ++ drawn) after (with_place n new places)

-- a world after an event of the client of a number: it fits, and the machine takes the event
pub record WorldStep (moment : ℕ) (before after : List Entry) (places later : List ClientPlace)
    (n : ℕ) (what : Act) (said : Said) (choice : Choice) (names : List Id16) : Type 0 where
  pub fits : WorldFits names after later
  pub next : Next (world_seen moment (history_of before) places) (event.Of n what) said choice
      (world_seen moment (history_of after) later)

-- both together: one request of one client is an event of the machine, and the world fits after it
abbrev pub ActGoesOn : Type 0
ActGoesOn =
    (moment : ℕ) (names drawn : List Id16) (before after : List Entry) (places : List ClientPlace)
    (n : ℕ) (old new : ClientPlace) (what : Act) (said : Said) (choice : Choice)
    → WorldFits names before places → AreApart names drawn → place_at n places ≡ Some old
    → RequestGrowth (Unit {0}) (place_names old ++ drawn) before after → FitsPlace after new
    → Includes (place_names old ++ drawn) (place_names new)
    → Includes drawn (drawn_by_act what said.reply choice.name)
    → Acts (place_side moment (history_of before) old)
    (seen_place (history_of before) old).up what said choice
    (place_side moment (history_of after) new)
    → WorldStep moment before after places (with_place n new places) n what said choice
    (names ++ drawn)

-- ---- names

-- names that were drawn after others are none of these, where no more than there are were drawn
abbrev pub NumbersAreNew : Type 0
NumbersAreNew =
    (count later : ℕ) (drawn : List Id16) → later < 2 ^ 128
    → numbered_names later ≡ numbered_names count ++ drawn
    → AreApart (numbered_names count) drawn

-- where all names of places were drawn, a new one is none of theirs, and unknown to the log
pub record AreAwayNames (log : List Entry) (places : List ClientPlace)
    (drawn : List Id16) : Type 0 where
  pub away : AwayFrom drawn places
  pub unknown : (i : Id16) → has_id i drawn ≡ true → IsUnknown (history_of log) i

-- so are names that are drawn anew
abbrev pub NewNamesAreAway : Type 0
NewNamesAreAway =
    (names drawn : List Id16) (log : List Entry) (places : List ClientPlace)
    → WorldFits names log places → AreApart names drawn
    → AreAwayNames log places drawn

-- places stay apart where the new names of the one that acts were drawn, and no place has one of
-- these
abbrev pub StayApart : Type 0
StayApart =
    (places : List ClientPlace) (n : ℕ) (old new : ClientPlace) (drawn : List Id16)
    → ArePlacesApart places → AwayFrom drawn places → place_at n places ≡ Some old
    → Includes (place_names old ++ drawn) (place_names new)
    → ArePlacesApart (with_place n new places)

-- ids that no place has are none of the machine's publications
abbrev pub DrawnAreApart : Type 0
DrawnAreApart =
    (moment : ℕ) (past : List Item) (places : List ClientPlace) (ids : List Id16)
    → AwayFrom ids places
    → step.AreApart (world_seen moment past places) ids

-- a job that fits a log by the names that are mine has no others
abbrev pub JobNamesAreMine : Type 0
JobNamesAreMine =
    (mine : List Id16) (writer : Id16) (k : Kept) (log : List Entry) (j : Job)
    → FitsJob mine writer k log j
    → Includes mine (names_of_job j)

-- ---- down and up

-- the new place fits the log, and has none but the names of the old one
pub record MovesPlace (log : List Entry) (old new : ClientPlace) : Type 0 where
  pub fits : FitsPlace log new
  pub names : Includes (place_names old) (place_names new)

-- a client that goes down keeps what it kept, with the note in flight
abbrev pub PlaceFalls : Type 0
PlaceFalls =
    (log : List Entry) (p : Parts) (entries : List cache.Entry) (f free : Free)
    → free.flight ≡ f.flight
    → FitsPlace log (UpPlace p entries f)
    → MovesPlace log (UpPlace p entries f) (DownPlace p.id p.kept free)

-- a client that comes up keeps what the machine says may be left
abbrev pub PlaceRises : Type 0
PlaceRises =
    (log : List Entry) (id : Id16) (k left : Kept) (seen : Seen) (f : Free)
    → MayBeLeft (seen_kept k) f.flight (seen_kept left) → Fits (risen_parts id left seen) [] log
    → MovesPlace log (DownPlace id k f) (UpPlace (risen_parts id left seen) [] (risen_free f))

-- others leave a client down that keep away from the names of its place
abbrev pub DownStays : {D : Type 0} → (D → DiskShown) → D → Type 0
DownStays shown disk =
    (log others : List Entry) (id : Id16) (k : Kept) (f : Free) → IsSoundLog log
    → AreLawful (place_names (DownPlace id k f)) (history_of log) others
    → IsDown (shown disk) log id k f
    → IsDown (shown disk) (log ++ others) id k f

-- so does a crash that leaves of its disk what could be left before, whatever is armed then
abbrev pub DownCrashes : {D : Type 0} → (D → DiskShown) → D → D → Type 0
DownCrashes shown was disk =
    (log : List Entry) (id : Id16) (k : Kept) (f free : Free) → free.noted ≡ f.noted
    → free.flight ≡ f.flight
    → ((image : List ℕ) → (shown disk).may_leave image → (shown was).may_leave image)
    → IsDown (shown was) log id k f → IsDown (shown disk) log id k free

-- where one place moves so, the world still fits, and the state is the one before with its side
abbrev pub PlaceMoves : Type 0
PlaceMoves =
    (moment : ℕ) (names : List Id16) (log : List Entry) (places : List ClientPlace) (n : ℕ)
    (old new : ClientPlace)
    → WorldFits names log places → place_at n places ≡ Some old → MovesPlace log old new
    → WorldFits names log (with_place n new places) × ActedInPlace moment log log places n new

-- ---- a world begins, and time goes on

-- the place of a client that is up for the first time: it is the machine's new client, and its id
-- is its only name
pub record IsNewPlace (slots : ℕ) (id : Id16) (p : ClientPlace) : Type 0 where
  pub seen : seen_place [] p ≡ m.new_client slots
  pub names : place_names p ≡ id ∷ []

-- what a client has in memory that keeps its id alone
abbrev pub new_parts : Id16 → Seen → Parts
new_parts id seen = risen_parts id (after_note nothing_kept (note.Me id)) seen

-- such a client has such a place
abbrev pub NewPlace : Type 0
NewPlace =
    (slots : ℕ) (id : Id16) (seen : Seen)
    → IsNewPlace slots id (UpPlace (new_parts id seen) [] (new_free slots))

-- places of new clients with these ids
abbrev pub AreNewPlaces : ℕ → List Id16 → List ClientPlace → Type 0
AreNewPlaces slots [] [] = Unit {0}
AreNewPlaces slots (i ∷ is) (p ∷ ps) = IsNewPlace slots i p × AreNewPlaces slots is ps
AreNewPlaces slots _ _ = ⊥

-- no id comes twice
abbrev pub DifferentIds : List Id16 → Type 0
DifferentIds [] = Unit {0}
DifferentIds (i ∷ is) = (has_id i is ≡ false) × DifferentIds is

-- over the empty log, at moment 0, these are the machine's first state, and apart
pub record IsFirstWorld (slots : ℕ) (places : List ClientPlace) : Type 0 where
  pub state : world_seen 0 [] places ≡ first_state (length places) slots
  pub apart : ArePlacesApart places

-- so are new clients of different ids
abbrev pub FirstState : Type 0
FirstState =
    (slots : ℕ) (ids : List Id16) (places : List ClientPlace) → AreNewPlaces slots ids places
    → DifferentIds ids → IsFirstWorld slots places

-- a world of such places fits, where each fits the empty log, and their ids alone were drawn
abbrev pub FirstWorldFits : Type 0
FirstWorldFits =
    (slots : ℕ) (ids : List Id16) (places : List ClientPlace) → AreNewPlaces slots ids places
    → DifferentIds ids → PlacesFit [] places
    → WorldFits ids [] places

-- time that goes on is the machine's tick
abbrev pub TickIsNext : Type 0
TickIsNext =
    (moment n : ℕ) (past : List Item) (places : List ClientPlace) (choice : Choice)
    → Next (world_seen moment past places) (event.Tick n)
    (record { published = None; reply = reply.Fine }) choice
    (world_seen (min (moment + n) (2 ^ 64 - 1)) past places)
