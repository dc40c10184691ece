-- What a talk with a client is in the machine: a run, for each client that stands over the log
-- as it begins.
use Rattle.std.specs.Prelude.{◌≡◌, ℕ, List, [], ◌∷◌, ◌++◌}
use Rattle.bcv_base.specs.declared.id.Id16.{Id16}
use Rattle.bcv_base.specs.History.{history_of}
use Rattle.bcv_clientlaws.specs.OtherParts.{Includes}
use Rattle.bcv_clientlog.specs.LogParts.{log_disk}
use Rattle.bcv_clientstate.specs.Parts.{mine_of}
use Rattle.bcv_clientstate.specs.SeenClient.{Free, seen_client}
use Rattle.bcv_client.specs.CallNames.{flight_names}
use Rattle.bcv_client.specs.ClientParts.{parts_of}
use Rattle.bcv_client.specs.Events.{StandsOver}
use Rattle.bcv_client.specs.Talk.{Exchange, Point, Talks}
use Rattle.bcv_client.specs.declared.client.Client.{Client}
use Rattle.bcv_dbmap.specs.Honest.{GrewHonestly}
use Rattle.bcv_disk.specs.DiskShown.{DiskShown, DiskTold}
use Rattle.bcv_store.specs.StoreShown.{StoreTold}
use Rattle.bcv_talks.specs.Runs.{DrawsNew, RunState, RunsOver}

-- ---- premises

-- in each call of a talk others append lawful entries alone
abbrev pub OthersAreHonest : {D : Type 0} {g : _} (told : DiskTold) (shown : D → DiskShown)
    (store : StoreTold) (mine : List Id16) (a : Point D g) (es : List Exchange) (b : Point D g)
    → Talks told shown store a es b → Type 0
OthersAreHonest told shown store mine a [] b talk = Unit {0}
OthersAreHonest told shown store mine a (e ∷ es) b talk =
    GrewHonestly store.alone mine a.store.log talk.0.store.log
    × OthersAreHonest told shown store mine talk.0 es b talk.2

-- the name that each call of a talk draws is new, and mine
abbrev pub NamesAreNew : {D : Type 0} {g : _} (told : DiskTold) (shown : D → DiskShown)
    (store : StoreTold) (mine used : List Id16) (a : Point D g) (es : List Exchange) (b : Point D g)
    → Talks told shown store a es b → Type 0
NamesAreNew told shown store mine used a [] b talk = Unit {0}
NamesAreNew told shown store mine used a (e ∷ es) b talk =
    DrawsNew mine used a.store.log talk.1.asks.calls.ids
    × NamesAreNew told shown store mine (used ++ talk.1.asks.calls.ids) talk.0 es b talk.2

-- a client stands over the log, and its names and that of an intent in flight are mine
pub record PointStands {D : Type 0} {g : _} (shown : D → DiskShown) (mine : List Id16)
    (a : Point D g) (f : Free) : Type 0 where
  pub over : StandsOver shown a.client a.store.log f
  pub names : Includes mine (mine_of (parts_of a.client))
  pub flight : Includes mine (flight_names f.flight)

-- ---- the run

-- what the machine sees between two calls
abbrev pub point_seen : {D : Type 0} {g : _} → (D → DiskShown) → Point D g → ℕ → Free → RunState
point_seen shown a moment f = record {
  store = a.store;
  names = a.names;
  clock = a.clock;
  failed = (shown (log_disk a.client.ledger.log)).faults;
  moment = moment;
  client = seen_client (history_of a.store.log) (parts_of a.client) f;
}

-- a state of a run is what a client is seen as that stands over the log
pub record IsSeen {D : Type 0} {g : _} (shown : D → DiskShown) (mine : List Id16) (p : Point D g)
    (x : RunState) : Type 0 where
  pub free : Free
  pub same : x ≡ point_seen shown p x.moment free
  pub stands : PointStands shown mine p free

-- after each call of a talk the run is where the client is seen, and drew the names of the call
abbrev pub FollowsTalk : {D : Type 0} {g : _} (told : DiskTold) (shown : D → DiskShown)
    (store : StoreTold) (mine used : List Id16) (a : Point D g) (es : List Exchange) (b : Point D g)
    → Talks told shown store a es b → (x y : RunState) → RunsOver store mine used x es y → Type 0
FollowsTalk told shown store mine used a [] b talk x y run = Unit {0}
FollowsTalk told shown store mine used a (e ∷ es) b talk x y run =
    (run.1.ids ≡ talk.1.asks.calls.ids) × IsSeen shown mine talk.0 run.0
    × FollowsTalk told shown store mine (used ++ run.1.ids) talk.0 es b talk.2 run.0 y run.2

-- the machine runs from what it sees as the talk begins to what it sees at its end, where the
-- client stands over the log, and follows the talk
pub record TalkRun {D : Type 0} {g : _} (told : DiskTold) (shown : D → DiskShown)
    (store : StoreTold) (mine used : List Id16) (a : Point D g) (es : List Exchange)
    (b : Point D g) (talk : Talks told shown store a es b) (moment : ℕ) (f : Free) : Type 0 where
  pub later : ℕ
  pub free : Free
  pub run :
      RunsOver store mine used (point_seen shown a moment f) es (point_seen shown b later free)
  pub follows :
      FollowsTalk told shown store mine used a es b talk (point_seen shown a moment f)
      (point_seen shown b later free) run
  pub stands : PointStands shown mine b free

-- so it is at every moment, for whatever is free, where a client stands, others are honest and
-- names are new
abbrev pub TalksAreRuns : {D : Type 0} {g : _} → DiskTold → (D → DiskShown) → StoreTold
    → Client D g → Type 0
TalksAreRuns told shown store client =
    (a b : Point _ _) (es : List Exchange) (talk : Talks told shown store a es b)
    (mine used : List Id16) (moment : ℕ) (f : Free)
    → a.client ≡ client → store.tells → told.tells → PointStands shown mine a f
    → OthersAreHonest told shown store mine a es b talk
    → NamesAreNew told shown store mine used a es b talk
    → TalkRun told shown store mine used a es b talk moment f
