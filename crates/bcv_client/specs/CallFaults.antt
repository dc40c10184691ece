-- Which faults of its disk, its store, its names and its clock a call of a client answers, and their causes.
use Rattle.std.specs.Prelude.{◌≡◌, ◌≤◌, Bool, true, false}
use Rattle.bcv_base.specs.Drawn.{NamesShown}
use Rattle.bcv_base.specs.Faults.{Rose}
use Rattle.bcv_base.specs.Moments.{ClockShown}
use Rattle.bcv_clientlog.specs.LogParts.{log_disk}
use Rattle.bcv_disk.specs.DiskCalls.{DiskFails}
use Rattle.bcv_disk.specs.DiskShown.{DiskShown, DiskTold}
use Rattle.bcv_model.specs.declared.reply.Reply.{Reply}
use Rattle.bcv_model.specs.declared.reply.Reply.TheVariants as reply
use Rattle.bcv_publisher.specs.WorkStep.{WorkCauses}
use Rattle.bcv_store.specs.StoreShown.{StoreShown}
use Rattle.bcv_client.specs.declared.client.Client.{Client}

-- a fault of the store, the disk, the names or the clock, or a put of which it is not known what became
abbrev pub is_io_fault : Reply → Bool
is_io_fault reply.StoreFault = true
is_io_fault reply.DiskFault = true
is_io_fault reply.NamesFault = true
is_io_fault reply.ClockFault = true
is_io_fault (reply.Unknown id) = true
is_io_fault _ = false

-- where a fault of the disk is answered a failure of it was counted in the call; its troubles, where they are told, are the cause
abbrev pub DiskFailsAs : {D : Type 0} {g : _} → DiskTold → (D → DiskShown) → Client D g → Client D g → Reply → Type 0
DiskFailsAs told shown old new r =
    DiskFails told (shown (log_disk old.ledger.log)) (shown (log_disk new.ledger.log)) (r ≡ reply.DiskFault)

-- a fault of the store, the names or the clock is answered only where its count rose in the call; and what became of a put is not
-- known only where that of the store did
abbrev pub CallCauses : StoreShown → StoreShown → NamesShown → NamesShown → ClockShown → ClockShown → Reply → Type 0
CallCauses before after names later_names clock later_clock (reply.Unknown id) = Rose before.faults after.faults
CallCauses before after names later_names clock later_clock r = WorkCauses before after names later_names clock later_clock r

-- the store, the names and the clock count no fewer faults after a call than before it
pub record CountsOn (before after : StoreShown) (drawn_before drawn_after : NamesShown) (told_before told_after : ClockShown)
    : Type 0 where
  pub store : before.faults ≤ after.faults
  pub names : drawn_before.faults ≤ drawn_after.faults
  pub clock : told_before.faults ≤ told_after.faults
