-- The exit status of each fault, and the fault that a folder or a client's fault stands for.
use Rattle.std.specs.Prelude.{ℕ, String}
use Rattle.std.specs.Global.{Global}
use Rattle.bcv_host.specs.declared.fault.OpenFault.{OpenFault}
use Rattle.bcv_host.specs.declared.fault.OpenFault.TheVariants as opening
use Rattle.bcv_risen.specs.declared.risen.RiseFault.{RiseFault}
use Rattle.bcv_risen.specs.declared.risen.RiseFault.TheVariants as rising
use Rattle.bcvd.specs.declared.fault.Fault.{Fault}
use Rattle.bcvd.specs.declared.fault.Fault.TheVariants as fault

abbrev pub fault_code : Fault → ℕ
fault_code fault.BadWords = 2
fault_code fault.WriteFault = 5
fault_code fault.NoMemory = 6
fault_code (fault.Store word) = 7
fault_code (fault.Client word) = 8
fault_code fault.DiskFault = 8
fault_code fault.NamesFault = 11
fault_code (fault.BadJournal at) = 14
fault_code (fault.Address word) = 15

-- the fault of a store's folder that cannot be used
abbrev pub store_fault : OpenFault → String Global → Fault
store_fault opening.NoMemory word = fault.NoMemory
store_fault _ word = fault.Store word

-- the fault of a client's folder that cannot be used
abbrev pub client_fault : OpenFault → String Global → Fault
client_fault opening.NoMemory word = fault.NoMemory
client_fault _ word = fault.Client word

-- the fault of a client that does not come up
abbrev pub rise_fault : RiseFault → Fault
rise_fault (rising.NotJournal at) = fault.BadJournal at
rise_fault rising.DiskFault = fault.DiskFault
rise_fault rising.NamesFault = fault.NamesFault
rise_fault rising.NoMemory = fault.NoMemory
