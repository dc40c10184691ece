-- The places of a world's clients, and what a world of them is in the machine's words.
use Rattle.std.specs.Prelude.{◌≡◌, ℕ, ◌-◌, ◌==◌, false, List, [], ◌∷◌, ◌++◌, map, Option, Some, None, if◌then◌else◌, slice_get, slice_set}
use Rattle.std.specs.List.{AllByRecursion}
use Rattle.bcv_base.specs.declared.id.Id16.{Id16}
use Rattle.bcv_base.specs.declared.log.Entry.{Entry}
use Rattle.bcv_base.specs.History.{Item, first_put, history_of}
use Rattle.bcv_base.specs.Ids.{IsId, has_id}
use Rattle.bcv_cache.specs.Entry as cache
use Rattle.bcv_clientlaws.specs.OtherParts.{FitsKept, Includes}
use Rattle.bcv_clientstate.specs.Fits.{Fits}
use Rattle.bcv_clientstate.specs.Parts.{Parts, mine_of, names_of_pending}
use Rattle.bcv_clientstate.specs.SeenClient.{Free, seen_client}
use Rattle.bcv_clientstate.specs.SeenContainer.{container_of}
use Rattle.bcv_dbmap.specs.Honest.{AreApart}
use Rattle.bcv_dbmap.specs.Past.{has_version, was_listed}
use Rattle.bcv_dbmap.specs.Sound.{IsSoundLog}
use Rattle.bcv_machine.specs.State as m
use Rattle.bcv_model.specs.declared.kept.Kept.{Kept}
use Rattle.bcv_risen.specs.RisenSides.{client_down}

-- a client of a world: one that is up, with what it has in memory, the entries of its cache and
-- what is free; or one that is down, with its id, what it keeps and what is free
pub data ClientPlace : Type 0 where
  UpPlace : Parts → List cache.Entry → Free → ClientPlace
  DownPlace : Id16 → Kept → Free → ClientPlace

-- ---- one place

-- the machine's client that a place is seen as
abbrev pub seen_place : List Item → ClientPlace → m.Client
seen_place past (UpPlace p entries f) = seen_client past p f
seen_place past (DownPlace id k f) = client_down k f

-- the container and the client of a place
abbrev pub place_side : ℕ → List Item → ClientPlace → m.Side
place_side moment past p =
    record { container = container_of moment past; client = seen_place past p }

-- the id of the publication whose intent is in flight
abbrev pub flight_names : Option m.Note → List Id16
flight_names (Some (m.Intending p)) = p.id ∷ []
flight_names _ = []

-- the names that are a place's: those of its client, and that of an intent in flight
abbrev pub place_names : ClientPlace → List Id16
place_names (UpPlace p entries f) = mine_of p ++ flight_names f.flight
place_names (DownPlace id k f) = id ∷ (names_of_pending k.pending ++ flight_names f.flight)

-- a client that is down fits a log by what it keeps
pub record FitsDown (log : List Entry) (id : Id16) (k : Kept) : Type 0 where
  pub is_id : IsId id
  pub kept : FitsKept log id k []

-- a place fits a log
abbrev pub FitsPlace : List Entry → ClientPlace → Type 0
FitsPlace log (UpPlace p entries f) = Fits p entries log
FitsPlace log (DownPlace id k f) = FitsDown log id k

-- ---- many places

-- the place of a number, from 1
abbrev pub place_at : ℕ → List ClientPlace → Option ClientPlace
place_at n places = if n == 0 then None else slice_get places (n - 1)

-- the places with another one in that of a number
abbrev pub with_place : ℕ → ClientPlace → List ClientPlace → List ClientPlace
with_place n p places = slice_set places (n - 1) p

-- the machine's state of a world: the container of its log, and the clients of its places in order
abbrev pub world_seen : ℕ → List Item → List ClientPlace → m.State
world_seen moment past places =
    record { container = container_of moment past; clients = map (seen_place past) places }

-- each place fits the log
abbrev pub PlacesFit : List Entry → List ClientPlace → Type 0
PlacesFit log places = AllByRecursion (FitsPlace log) places

-- no place has one of these names
abbrev pub AwayFrom : List Id16 → List ClientPlace → Type 0
AwayFrom names places = AllByRecursion (λ p. AreApart names (place_names p)) places

-- no two places have a name in common
abbrev pub ArePlacesApart : List ClientPlace → Type 0
ArePlacesApart [] = Unit {0}
ArePlacesApart (p ∷ ps) = AwayFrom (place_names p) ps × ArePlacesApart ps

-- ---- names that were drawn

-- each place has none but these names
abbrev pub NamedWithin : List Id16 → List ClientPlace → Type 0
NamedWithin names places = AllByRecursion (λ p. Includes names (place_names p)) places

-- an id that is none of these names was never put, never listed, and is no version's
pub record IsUnknown (past : List Item) (i : Id16) : Type 0 where
  pub unput : first_put past i ≡ None
  pub unlisted : was_listed past i ≡ false
  pub unpublished : has_version past i ≡ false

-- a log uses none but these names
abbrev pub UsesOnly : List Id16 → List Item → Type 0
UsesOnly names past = (i : Id16) → has_id i names ≡ false → IsUnknown past i

-- ---- the world

-- a world over a log, for which these names were drawn: the log is sound, the places fit it and are
-- apart, and all names were drawn
pub record WorldFits (names : List Id16) (log : List Entry) (places : List ClientPlace)
    : Type 0 where
  pub sound : IsSoundLog log
  pub fit : PlacesFit log places
  pub apart : ArePlacesApart places
  pub named : NamedWithin names places
  pub uses : UsesOnly names (history_of log)
