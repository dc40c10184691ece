-- Talks over a store that nobody else writes: what is asked of the names is asked at the start.
use Rattle.std.specs.Prelude.{◌≡◌, ℕ, List, [], ◌∷◌}
use Rattle.bcv_base.specs.declared.id.Id16.{Id16}
use Rattle.bcv_client.specs.Talk.{Exchange, Point, Talks}
use Rattle.bcv_client.specs.declared.client.Client.{Client}
use Rattle.bcv_clientstate.specs.SeenClient.{Free}
use Rattle.bcv_disk.specs.DiskShown.{DiskShown, DiskTold}
use Rattle.bcv_machine.specs.Run.{AllDiffer}
use Rattle.bcv_publisher.specs.WorkStep.{IsEvent}
use Rattle.bcv_store.specs.StoreShown.{StoreTold}
use Rattle.bcv_talks.specs.Runs.{DrawsNew, side_at}
use Rattle.bcv_talks.specs.SideRuns.{SideRuns}
use Rattle.bcv_talks.specs.TalkRuns.{NamesAreNew, PointStands, TalkRun, point_seen}
use Rattle.bcv_talks.specs.TalkTotals.{talk_names}

-- the names that a talk draws differ, and each of them is mine, none of those used before, and new
-- in the log where the talk begins
pub record DrawsFresh {D : Type 0} {g : _} (told : DiskTold) (shown : D → DiskShown)
    (store : StoreTold) (mine used : List Id16) (a : Point D g) (es : List Exchange)
    (b : Point D g) (talk : Talks told shown store a es b) : Type 0 where
  pub fresh : DrawsNew mine used a.store.log (talk_names told shown store a es b talk)
  pub differ : AllDiffer (talk_names told shown store a es b talk)

-- so each call draws a new name, where the names that the client had as the talk began are among
-- those used before
abbrev pub NamesNewAlone : {D : Type 0} {g : _} → DiskTold → (D → DiskShown) → StoreTold
    → Client D g → Type 0
NamesNewAlone told shown store client =
    (a b : Point _ _) (es : List Exchange) (talk : Talks told shown store a es b)
    (mine used : List Id16) (f : Free)
    → a.client ≡ client → store.tells → told.tells → store.alone → PointStands shown used a f
    → DrawsFresh told shown store mine used a es b talk
    → NamesAreNew told shown store mine used a es b talk

-- in each call memory, names and the clock were there
abbrev pub TalkEvents : {D : Type 0} {g : _} (told : DiskTold) (shown : D → DiskShown)
    (store : StoreTold) (a : Point D g) (es : List Exchange) (b : Point D g)
    → Talks told shown store a es b → Type 0
TalkEvents told shown store a [] b talk = Unit {0}
TalkEvents told shown store a (e ∷ es) b talk =
    IsEvent a.names talk.0.names a.clock talk.0.clock e.reply
    × TalkEvents told shown store talk.0 es b talk.2

-- the talk is a run, and one from side to side
pub record AloneRun {D : Type 0} {g : _} (told : DiskTold) (shown : D → DiskShown)
    (store : StoreTold) (mine used : List Id16) (a : Point D g) (es : List Exchange)
    (b : Point D g) (talk : Talks told shown store a es b) (moment : ℕ) (f : Free) : Type 0 where
  pub run : TalkRun told shown store mine used a es b talk moment f
  pub sides :
      TalkEvents told shown store a es b talk
      → SideRuns (side_at (point_seen shown a moment f)) es
      (side_at (point_seen shown b run.later run.free))

-- so it is at every moment where the client stands and the names are fresh
abbrev pub TalkAloneIsRun : {D : Type 0} {g : _} → DiskTold → (D → DiskShown) → StoreTold
    → Client D g → Type 0
TalkAloneIsRun told shown store client =
    (a b : Point _ _) (es : List Exchange) (talk : Talks told shown store a es b)
    (mine used : List Id16) (moment : ℕ) (f : Free)
    → a.client ≡ client → store.tells → told.tells → store.alone → PointStands shown mine a f
    → PointStands shown used a f → DrawsFresh told shown store mine used a es b talk
    → AloneRun told shown store mine used a es b talk moment f
