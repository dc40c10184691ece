-- What a crash may leave after a call fits the log, by what its parts leave.
use Rattle.std.proofs.Common.{◌≡◌, ℕ, true, [], ap, subst, arith}
use Rattle.bcv_base.specs.Drawn.{NamesShown}
use Rattle.bcv_base.specs.Ids.{has_id}
use Rattle.bcv_base.specs.Moments.{ClockShown}
use Rattle.bcv_clientstate.specs.Parts as parts
use Rattle.bcv_clientstate.specs.Parts.{mine_of}
use Rattle.bcv_disk.specs.DiskShown.{DiskShown, DiskTold}
use Rattle.bcv_ledger.specs.declared.ledger.Ledger.{Ledger}
use Rattle.bcv_model.specs.declared.ask.Ask.{Ask}
use Rattle.bcv_model.specs.declared.reply.Reply.{Reply}
use Rattle.bcv_store.specs.StoreShown.{StoreShown, StoreTold}
use Rattle.bcv_tasks.specs.declared.publish_task.PublishTask.{PublishTask}
use Rattle.bcv_client.specs.AskCalls.{AsksOver}
use Rattle.bcv_client.specs.ClientParts.{parts_of}
use Rattle.bcv_client.specs.Falls.{Falls, FallsHere, FallsJob, FallsOver, FallsPut, FallsTask}
use Rattle.bcv_client.specs.PublicationOver.{StandsWith, mine_with}
use Rattle.bcv_client.specs.TaskTaken.{TaskOut}
use Rattle.bcv_client.specs.declared.client.Client.{Client}
use Rattle.bcv_client.specs.declared.job.Job.{Job}
use Rattle.bcv_client.specs.declared.job.Job.TheVariants as job
use Rattle.bcv_client.proofs.LeftFits.{same_left}
use Rattle.bcv_client.proofs.NumberSteps.{adds_none, mine_found, stands_found}
use Rattle.bcv_client.proofs.TasksTaken.{parts_without, stands_without, without_mine}

module _ {D : Type 0} {g : _} (told : DiskTold) (shown : D → DiskShown) (store : StoreTold) (before after : StoreShown) where
  -- a task at its put, in which no name is drawn
  pub put_falls_as : (names : NamesShown) (old new : Client D g) (set taken : ℕ) (t : PublishTask) → FallsPut told shown store before after old new set taken t
      → FallsTask told shown store before after names names old new set taken t
  put_falls_as names old new set taken t falls n = record { ids = []; drawn = adds_none names.drawn; few = omega arith; over = falls n }

  -- a task that was put back
  pub back_falls : (names later_names : NamesShown) (old mid new : Client D g) (n set taken : ℕ) (t : PublishTask) → new.id ≡ mid.id → new.ledger.log ≡ mid.ledger.log
      → FallsTask told shown store before after names later_names old mid set taken t
      → FallsOver (StandsWith shown old n set taken t) (mine_with old n set taken t) told shown store before after names later_names old new
  back_falls names later_names old mid new n set taken t id same falls =
      let at = falls n in
      record {
        ids = at.ids;
        drawn = at.drawn;
        few = at.few;
        over = λ store_tells tells mine f stands all flight drawn unused honest fits.
            same_left shown mid new after.log id same (at.over store_tells tells mine f stands all flight drawn unused honest fits);
      }

  -- ---- the task of a number

  module _ (old mid new : Client D g) (n : ℕ) where
    same_out : (j : Job) → TaskOut old mid n j → mid.ledger.log ≡ old.ledger.log
    same_out j out = ap (λ (l : Ledger D g). l.log) out.only.ledger

    pub publication_falls : (names later_names : NamesShown) (set taken : ℕ) (t : PublishTask) → TaskOut old mid n (job.Publish set taken t)
        → FallsOver (StandsWith shown mid n set taken t) (mine_with mid n set taken t) told shown store before after names later_names mid new
        → Falls told shown store before after names later_names old new
    publication_falls names later_names set taken t out falls = record {
      ids = falls.ids;
      drawn = falls.drawn;
      few = falls.few;
      over = λ store_tells tells mine f stands all flight drawn unused honest fits.
          falls.over store_tells tells mine f (stands_found shown old mid n set taken t out before.log f stands) (mine_found shown old mid n set taken t out mine all) flight drawn unused honest
          (same_left shown old mid before.log out.only.id (same_out (job.Publish set taken t) out) fits);
    }

    pub single_falls : (names : NamesShown) (j : Job) → TaskOut old mid n j → FallsJob told shown store before after mid new → Falls told shown store before after names names old new
    single_falls names j out falls = record {
      ids = [];
      drawn = adds_none names.drawn;
      few = omega arith;
      over = λ store_tells tells mine f stands all flight drawn unused honest fits.
          falls store_tells tells mine f (stands_without old mid n j out shown before.log f stands)
          (λ i has. all i (without_mine n (parts_of old) i (subst (λ (p : parts.Parts). has_id i (mine_of p) ≡ true) (parts_without old mid n j out) has))) flight drawn unused honest
          (same_left shown old mid before.log out.only.id (same_out j out) fits);
    }

-- ---- calls without a request

module _ {D : Type 0} {g : _} (told : DiskTold) (shown : D → DiskShown) (store : StoreTold) (before : StoreShown) (old new : Client D g) where
  -- nothing of the log has changed
  pub unmoved_falls : (names : NamesShown) → new.id ≡ old.id → new.ledger.log ≡ old.ledger.log → Falls told shown store before before names names old new
  unmoved_falls names id same = record {
    ids = [];
    drawn = adds_none names.drawn;
    few = omega arith;
    over = λ store_tells tells mine f stands all flight drawn unused honest fits. same_left shown old new before.log id same fits;
  }

  -- an ask of such a call, in which a name may be drawn
  pub ask_falls : (names later_names : NamesShown) (clock later_clock : ClockShown) (q : Ask) (r : Reply) → AsksOver told shown store before before names later_names clock later_clock old new q r
      → new.id ≡ old.id → new.ledger.log ≡ old.ledger.log → Falls told shown store before before names later_names old new
  ask_falls names later_names clock later_clock q r asks id same = record {
    ids = asks.calls.ids;
    drawn = asks.calls.drawn;
    few = asks.calls.few;
    over = λ store_tells tells mine f stands all flight drawn unused honest fits. same_left shown old new before.log id same fits;
  }

  -- an ask that notes something
  pub noting_falls : (names : NamesShown) → FallsHere told shown old new → Falls told shown store before before names names old new
  noting_falls names falls = record {
    ids = [];
    drawn = adds_none names.drawn;
    few = omega arith;
    over = λ store_tells tells mine f stands all flight drawn unused honest fits. falls tells before.log f stands fits;
  }
