-- How a command ends by the last reply, and what it writes.
use Rattle.std.specs.Prelude.{◌≡◌, ◌≢◌, ◌<◌, ◌≤◌, ◌⊎◌, ℕ, Bool, true, false, List, [], length, take, Option, Some, None}
use Rattle.bcv_base.specs.Faults.{Rose}
use Rattle.bcv_commands.specs.declared.status.Status.{Status}
use Rattle.bcv_commands.specs.declared.status.Status.TheVariants as status
use Rattle.bcv_commands.specs.declared.status.What.TheVariants as what
use Rattle.bcv_model.specs.ReplyText.{said_text}
use Rattle.bcv_model.specs.declared.reply.Reply.{Reply}
use Rattle.bcv_model.specs.declared.reply.Reply.TheVariants as reply
use Rattle.bcv_risen.specs.declared.risen.RiseFault.{RiseFault}
use Rattle.bcv_risen.specs.declared.risen.RiseFault.TheVariants as fault
use Rattle.bcv_runner.specs.declared.ending.Ending.{Ending}
use Rattle.bcv_runner.specs.declared.ending.Ending.TheVariants as ending

-- ---- by a reply

-- the status of a reply that is a fault, or of which it is not known what became, or that shows a bad store
abbrev pub stop_of : Reply → Option Status
stop_of reply.StoreFault = Some status.StoreFault
stop_of reply.DiskFault = Some status.DiskFault
stop_of reply.NamesFault = Some status.NamesFault
stop_of reply.ClockFault = Some status.ClockFault
stop_of reply.NoMemory = Some status.NoMemory
stop_of (reply.Unknown id) = Some (status.Unknown id)
stop_of (reply.BadManifest at) = Some (status.BadStore what.Manifest at)
stop_of (reply.BadBlock len) = Some (status.BadStore what.Block len)
stop_of (reply.NotJournal at) = Some (status.BadStore what.Journal at)
stop_of _ = None

-- the reply is what was asked for; a publication that was not made is so where its resolve was asked for
abbrev pub is_success : Bool → Reply → Bool
is_success resolves reply.Fine = true
is_success resolves (reply.Done n) = true
is_success resolves (reply.Polled n) = true
is_success resolves (reply.Cleaned deleted more) = true
is_success resolves (reply.Resolved n) = true
is_success resolves (reply.Table rows pending) = true
is_success resolves reply.Voided = resolves
is_success resolves _ = false

abbrev pub ending_by : Option Status → Bool → Reply → Ending
ending_by (Some s) success r = ending.Stopped s
ending_by None true r = ending.Replied r
ending_by None false r = ending.Refused r

-- how a command ends whose last reply this is
abbrev pub ending_of : Bool → Reply → Ending
ending_of resolves r = ending_by (stop_of r) (is_success resolves r) r

-- how a command ends whose client does not come up
abbrev pub up_ending : RiseFault → Ending
up_ending (fault.NotJournal at) = ending.Stopped (status.BadStore what.Journal at)
up_ending fault.DiskFault = ending.Stopped status.DiskFault
up_ending fault.NamesFault = ending.Stopped status.NamesFault
up_ending fault.NoMemory = ending.Stopped status.NoMemory

-- ---- the output

-- a reply's line
abbrev pub line_of : Reply → List ℕ
line_of r = said_text (record { published = None; reply = r })

-- what is to be written: the line of a reply or of a refusal, the bytes that were read, and nothing where a fault ends it
abbrev pub output_of : Ending → List ℕ
output_of (ending.Replied r) = line_of r
output_of (ending.Refused r) = line_of r
output_of (ending.Read bytes) = bytes
output_of (ending.Stopped s) = []

abbrev pub status_of : Ending → Status
status_of (ending.Replied r) = status.Done
status_of (ending.Refused r) = status.Refused r
status_of (ending.Read bytes) = status.Done
status_of (ending.Stopped s) = s

-- the writing was cut off after some front of the text
abbrev pub IsCutOff : Status → List ℕ → List ℕ → Type 0
IsCutOff status.WriteFault text written = (0 < length text) × ((k : ℕ) × (written ≡ take k text))
IsCutOff status.NoMemory text written = (k : ℕ) × (written ≡ take k text)
IsCutOff _ text written = ⊥

-- the status, and what was written
abbrev pub Outputs : Ending → Status → List ℕ → Type 0
Outputs e s written = ((s ≡ status_of e) × (written ≡ output_of e)) ⊎ IsCutOff s (output_of e) written

-- ---- causes

-- the status may come from a client
abbrev pub is_clients : Status → Bool
is_clients status.BadWords = false
is_clients (status.BadScript line at) = false
is_clients status.ReadFault = false
is_clients status.WriteFault = false
is_clients status.TooLong = false
is_clients _ = true

-- the status is a store fault, or that it is not known what became of a publication
abbrev pub is_store_fault : Status → Bool
is_store_fault status.StoreFault = true
is_store_fault (status.Unknown id) = true
is_store_fault _ = false

-- a fault of the input or of the output is answered only where its count rose, and one of the output wherever it did
pub record StreamCauses (input_before input_now output_before output_now : ℕ) (s : Status) : Type 0 where
  pub read : s ≡ status.ReadFault → Rose input_before input_now
  pub write : s ≡ status.WriteFault → Rose output_before output_now
  pub steady : s ≢ status.WriteFault → output_now ≡ output_before

-- a count of faults has not fallen, and rose where this failed
pub record FaultCounted (before now : ℕ) (Failed : Type 0) : Type 0 where
  pub later : before ≤ now
  pub rose : Failed → Rose before now
