-- The exit status of each fault, and the fault that a status stands for.
use Rattle.std.specs.Prelude.{ℕ, Bool, true, false, Result, Ok, Err, String}
use Rattle.std.specs.Global.{Global}
use Rattle.bcv_commands.specs.declared.status.Status.{Status}
use Rattle.bcv_commands.specs.declared.status.Status.TheVariants as status
use Rattle.bcv_commands.specs.declared.status.What.{What}
use Rattle.bcv_commands.specs.declared.status.What.TheVariants as what
use Rattle.bcv_host.specs.declared.fault.OpenFault.{OpenFault}
use Rattle.bcv_host.specs.declared.fault.OpenFault.TheVariants as opening
use Rattle.bcvutil.specs.declared.fault.Fault.{Fault}
use Rattle.bcvutil.specs.declared.fault.Fault.TheVariants as fault
use Rattle.bcvutil.specs.declared.fault.Folder.{Folder}
use Rattle.bcvutil.specs.declared.fault.Folder.TheVariants as folder
use Rattle.bcvutil.specs.declared.fault.HexId.{HexId}

abbrev pub fault_code : Fault → ℕ
fault_code fault.BadWords = 2
fault_code (fault.BadScript line place) = 3
fault_code fault.ReadFault = 4
fault_code fault.WriteFault = 5
fault_code fault.NoMemory = 6
fault_code (fault.Store word) = 7
fault_code fault.StoreFault = 7
fault_code (fault.Client word) = 8
fault_code fault.DiskFault = 8
fault_code fault.Refused = 9
fault_code (fault.Unknown id) = 10
fault_code fault.NamesFault = 11
fault_code fault.ClockFault = 12
fault_code fault.TooLong = 13
fault_code (fault.BadManifest at) = 14
fault_code (fault.BadBlock len) = 14
fault_code (fault.BadJournal at) = 14

-- what of the store or of the journal could not be read
abbrev pub unreadable_of : What → ℕ → Fault
unreadable_of what.Manifest at = fault.BadManifest at
unreadable_of what.Block at = fault.BadBlock at
unreadable_of what.Journal at = fault.BadJournal at

-- none where the command was done
abbrev pub fault_of : Status → Result (Unit {0}) Fault
fault_of status.Done = Ok tt
fault_of status.BadWords = Err fault.BadWords
fault_of (status.BadScript line at) = Err (fault.BadScript line at)
fault_of status.ReadFault = Err fault.ReadFault
fault_of status.WriteFault = Err fault.WriteFault
fault_of status.NoMemory = Err fault.NoMemory
fault_of status.StoreFault = Err fault.StoreFault
fault_of status.DiskFault = Err fault.DiskFault
fault_of (status.Refused reply) = Err fault.Refused
fault_of (status.Unknown id) = Err (fault.Unknown (record { 0 = id }))
fault_of status.NamesFault = Err fault.NamesFault
fault_of status.ClockFault = Err fault.ClockFault
fault_of status.TooLong = Err fault.TooLong
fault_of (status.BadStore what at) = Err (unreadable_of what at)

-- the fault of a command that ended at a status: a write fault where its output was not flushed
abbrev pub ended_as : Bool → Status → Result (Unit {0}) Fault
ended_as true s = fault_of s
ended_as false s = Err fault.WriteFault

-- the fault of a folder's word that cannot be used
abbrev pub unusable_of : Folder → OpenFault → String Global → Fault
unusable_of which opening.NoMemory word = fault.NoMemory
unusable_of folder.Store _ word = fault.Store word
unusable_of folder.Client _ word = fault.Client word
