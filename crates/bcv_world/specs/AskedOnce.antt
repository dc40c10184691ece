-- What a client says to an ask that is made under a planned outcome.
use Rattle.std.specs.Prelude.{◌≡◌, ◌-◌, ◌^◌, ◌<◌, ℕ, List}
use Rattle.bcv_base.specs.declared.log.Entry.{Entry}
use Rattle.bcv_base.specs.declared.outcome.Outcome.{Outcome}
use Rattle.bcv_base.specs.Numbered.{Counter, counted}
use Rattle.bcv_base.specs.SetMoment.{SetMoment, shown_by}
use Rattle.bcv_clientlog.specs.LogParts.{log_disk}
use Rattle.bcv_client.specs.AskCalls.{AsksOver, SameWith}
use Rattle.bcv_client.specs.Falls.{Falls}
use Rattle.bcv_client.specs.declared.client.Client.{Client}
use Rattle.bcv_disk.specs.DiskCalls.{DiskFails}
use Rattle.bcv_disk.specs.Memory.{shown_of, tells_all}
use Rattle.bcv_disk.specs.declared.memory.MemDisk.{MemDisk}
use Rattle.bcv_memstore.specs.Told.{told_here}
use Rattle.bcv_model.specs.declared.ask.Ask.{Ask}
use Rattle.bcv_model.specs.declared.reply.Reply.{Reply}
use Rattle.bcv_model.specs.declared.reply.Reply.TheVariants as reply
use Rattle.bcv_store.specs.Plans.{next_of}
use Rattle.bcv_store.specs.StoreShown.{StoreShown}

-- the log was this before and after the call, its request had the planned outcome, the clock is set to the moment, and names
-- fail only once all of them are drawn
pub record AskedOnce {g : _} (before after : List Entry) (names later_names : Counter) (moment : ℕ)
    (old new : Client MemDisk g) (q : Ask) (o : Outcome) (r : Reply) : Type 0 where
  pub first : StoreShown
  pub is_before : first.log ≡ before
  pub planned : next_of first.plan ≡ o
  pub last : StoreShown
  pub is_after : last.log ≡ after
  pub clock : SetMoment
  pub is_set : clock.moment ≡ moment
  pub later_clock : SetMoment
  pub no_faults : later_names.count < 2 ^ 128 - 1 → later_names.faults ≡ 0
  pub same : SameWith q old new
  pub fails : DiskFails tells_all (shown_of (log_disk old.ledger.log))
      (shown_of (log_disk new.ledger.log)) (r ≡ reply.DiskFault)
  pub falls :
      Falls tells_all shown_of told_here first last (counted names) (counted later_names) old new
  pub asks : AsksOver tells_all shown_of told_here first last (counted names) (counted later_names)
      (shown_by clock) (shown_by later_clock) old new q r
