-- A talk whose client goes down after it.
use Rattle.std.proofs.Common.{ℕ, List}
use Rattle.bcv_base.specs.declared.id.Id16.{Id16}
use Rattle.bcv_client.specs.CallNames.{LeavesFit}
use Rattle.bcv_client.specs.ClientUp.{LeavesDown}
use Rattle.bcv_client.specs.Talk.{Exchange, Point, Talks}
use Rattle.bcv_clientstate.specs.SeenClient.{Free}
use Rattle.bcv_disk.specs.DiskShown.{DiskShown, DiskTold}
use Rattle.bcv_store.specs.StoreShown.{StoreTold}
use Rattle.bcv_talks.specs.TalkEnds.{TalkEnds}
use Rattle.bcv_talks.specs.TalkFits.{NamesAgree}
use Rattle.bcv_talks.specs.TalkRuns.{NamesAreNew, OthersAreHonest, PointStands, TalkRun}
use Rattle.bcv_talks.proofs.TalkFits.{talk_leaves_fit}
use Rattle.bcv_talks.proofs.TalkRuns.{talk_run}

module _ {D : Type 0} {g : _} (told : DiskTold) (shown : D → DiskShown) (store : StoreTold) where
  pub talk_ends : (a b : Point D g) (es : List Exchange) (talk : Talks told shown store a es b) (mine used : List Id16) (moment : ℕ) (f : Free) (disk : D)
      → store.tells → told.tells → PointStands shown mine a f → OthersAreHonest told shown store mine a es b talk
      → NamesAreNew told shown store mine used a es b talk → NamesAgree told shown store a es b talk → LeavesFit shown a.client a.store.log
      → LeavesDown shown b.client disk → TalkEnds told shown store mine used a es b talk disk moment f
  talk_ends a b es talk mine used moment f disk tells disk_tells stands honest names same left down =
      let run : TalkRun told shown store mine used a es b talk moment f = talk_run told shown store a b es talk mine used moment f tells disk_tells stands honest names in
      record {
        run = run;
        down =
            down b.store.log run.free run.stands.over
            (talk_leaves_fit told shown store a b es talk mine used f tells disk_tells stands honest names same left);
      }
