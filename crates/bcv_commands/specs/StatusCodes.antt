-- The exit status of each end of a command.
use Rattle.std.specs.Prelude.{ℕ}
use Rattle.bcv_commands.specs.declared.status.Status.{Status}
use Rattle.bcv_commands.specs.declared.status.Status.TheVariants as status

abbrev pub status_code : Status → ℕ
status_code status.Done = 0
status_code status.BadWords = 2
status_code (status.BadScript line at) = 3
status_code status.ReadFault = 4
status_code status.WriteFault = 5
status_code status.NoMemory = 6
status_code status.StoreFault = 7
status_code status.DiskFault = 8
status_code (status.Refused reply) = 9
status_code (status.Unknown id) = 10
status_code status.NamesFault = 11
status_code status.ClockFault = 12
status_code status.TooLong = 13
status_code (status.BadStore what at) = 14
