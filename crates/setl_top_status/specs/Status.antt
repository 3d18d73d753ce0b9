-- Statuses.
use Rattle.std.specs.Prelude.{ℕ}
use Rattle.setl_top_status.specs.declared.fault.Fault.{Fault}
use Rattle.setl_top_status.specs.declared.fault.Fault.TheVariants as fault
use Rattle.setl_top_status.specs.declared.status.Status.{Status}
use Rattle.setl_top_status.specs.declared.status.Status.TheVariants.{Done, Refused, Words, Stopped, Spent, ReadFault, WriteFault, NoMemory}

-- the number with which the program ends
abbrev pub status_number : Status → ℕ
status_number Done = 0
status_number Refused = 1
status_number Words = 2
status_number Stopped = 3
status_number Spent = 4
status_number ReadFault = 5
status_number WriteFault = 6
status_number NoMemory = 7

-- the status of a call that is broken off
abbrev pub fault_status : Fault → Status
fault_status fault.Read = ReadFault
fault_status fault.Write = WriteFault
fault_status fault.NoMemory = NoMemory
