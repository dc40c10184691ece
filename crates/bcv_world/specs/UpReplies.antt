-- The reply of a client that came up, and of one that did not.
use Rattle.std.specs.Prelude.{Bool, true, false}
use Rattle.bcv_model.specs.declared.reply.Reply.{Reply}
use Rattle.bcv_model.specs.declared.reply.Reply.TheVariants as reply
use Rattle.bcv_risen.specs.declared.risen.RiseFault.{RiseFault}
use Rattle.bcv_risen.specs.declared.risen.RiseFault.TheVariants as fault

-- the table that it showed; where it showed none, memory was missing
abbrev pub up_reply : Reply → Reply
up_reply (reply.Table rows pending) = reply.UpAgain rows pending
up_reply _ = reply.NoMemory

-- a crash, where a fuse has burnt its disk; else the fault
abbrev pub down_reply : Bool → RiseFault → Reply
down_reply true why = reply.Crashed
down_reply false (fault.NotJournal place) = reply.NotJournal place
down_reply false fault.DiskFault = reply.DiskFault
down_reply false fault.NamesFault = reply.NamesFault
down_reply false fault.NoMemory = reply.NoMemory
