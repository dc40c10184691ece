-- What the talk of a command is in the machine, wherever its client stands over the log as it comes up.
use Rattle.std.specs.Prelude.{◌≡◌, ℕ, true, List, is_some}
use Rattle.bcv_base.specs.declared.id.Id16.{Id16}
use Rattle.bcv_client.specs.Talk.{Exchange, Point, Talks}
use Rattle.bcv_clientstate.specs.SeenClient.{Free}
use Rattle.bcv_disk.specs.DiskShown.{DiskShown, DiskTold}
use Rattle.bcv_store.specs.StoreShown.{StoreTold}
use Rattle.bcv_talks.specs.TalkEnds.{TalkEnds}
use Rattle.bcv_talks.specs.TalkRuns.{NamesAreNew, OthersAreHonest}
use Rattle.bcv_talks.specs.TalkStarts.{TalkBegins}

-- over a store and a disk that tell, and a source of names that tells what it drew: from every state for which the client
-- stands over the log, where others append lawful entries alone and each name that is drawn is new, the talk is a run of the
-- machine, and the disk that is handed back is that of the run's last client, which is down
abbrev pub IsMachineRun : {D : Type 0} {g : _} (told : DiskTold) (shown : D → DiskShown) (store : StoreTold) (a : Point D g)
    (es : List Exchange) (b : Point D g) → Talks told shown store a es b → D → Type 0
IsMachineRun told shown store a es b talk disk =
    (mine used : List Id16) (moment : ℕ) (f : Free)
    → store.tells → told.tells → is_some a.names.drawn ≡ true → TalkBegins shown mine a f
    → OthersAreHonest told shown store mine a es b talk → NamesAreNew told shown store mine used a es b talk
    → TalkEnds told shown store mine used a es b talk disk moment f
