-- A talk whose client goes down after it, with the disk that is handed back.
use Rattle.std.specs.Prelude.{◌≡◌, ℕ, List}
use Rattle.bcv_base.specs.declared.id.Id16.{Id16}
use Rattle.bcv_client.specs.CallNames.{LeavesFit}
use Rattle.bcv_client.specs.ClientUp.{GoesDown, LeavesDown}
use Rattle.bcv_client.specs.Talk.{Exchange, Point, Talks}
use Rattle.bcv_client.specs.declared.client.Client.{Client}
use Rattle.bcv_clientstate.specs.SeenClient.{Free}
use Rattle.bcv_disk.specs.DiskShown.{DiskShown, DiskTold}
use Rattle.bcv_store.specs.StoreShown.{StoreTold}
use Rattle.bcv_talks.specs.TalkFits.{NamesAgree}
use Rattle.bcv_talks.specs.TalkRuns.{NamesAreNew, OthersAreHonest, PointStands, TalkRun}

-- the talk is a run, and the disk after it is that of the run's last client, which is down
pub record TalkEnds {D : Type 0} {g : _} (told : DiskTold) (shown : D → DiskShown)
    (store : StoreTold) (mine used : List Id16) (a : Point D g) (es : List Exchange)
    (b : Point D g) (talk : Talks told shown store a es b) (disk : D) (moment : ℕ) (f : Free)
    : Type 0 where
  pub run : TalkRun told shown store mine used a es b talk moment f
  pub down : GoesDown shown b.client disk b.store.log run.free

-- so it is where what a crash may leave of the disk fitted the log as the talk began
abbrev pub TalksEnd : {D : Type 0} {g : _} → DiskTold → (D → DiskShown) → StoreTold
    → Client D g → Type 0
TalksEnd told shown store client =
    (a b : Point _ _) (es : List Exchange) (talk : Talks told shown store a es b)
    (mine used : List Id16) (moment : ℕ) (f : Free) (disk : _)
    → a.client ≡ client → store.tells → told.tells → PointStands shown mine a f
    → OthersAreHonest told shown store mine a es b talk
    → NamesAreNew told shown store mine used a es b talk
    → NamesAgree told shown store a es b talk → LeavesFit shown a.client a.store.log
    → LeavesDown shown b.client disk
    → TalkEnds told shown store mine used a es b talk disk moment f
