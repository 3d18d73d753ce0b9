-- What is told at an end of the machine.
use Rattle.std.specs.Prelude.{ℕ, List, ◌++◌}
use Rattle.setl_model_runs.specs.Events as run
use Rattle.setl_machine_control.specs.Declaring.{Modes}
use Rattle.setl_machine_control.specs.Answers.{kind_of}
use Rattle.setl_machine_control.specs.declared.end.End.{End}
use Rattle.setl_machine_control.specs.declared.end.End.TheVariants as end
use Rattle.setl_watch.specs.Watches.{Watched}
use Rattle.setl_top.specs.Watching.{all_told}
use Rattle.setl_top_status.specs.Ends.{error_line}
use Rattle.setl_top_status.specs.Seen.{Seen}
use Rattle.setl_top_status.specs.code.Tells.{Tells, BreaksOff}
use Rattle.setl_top_status.specs.declared.fault.Fault.TheVariants as fault
use Rattle.setl_top_status.specs.declared.status.Status.{Status}
use Rattle.setl_top_status.specs.declared.status.Status.TheVariants as status

-- the reports of the watchers and then the line of an end of the machine, where these variables are declared, were told with
-- its status, or the line was tried at a fault
abbrev pub TellsEnd : Modes → Watched → End → (err err' : Seen (List ℕ)) → Status → Type 0
TellsEnd modes h end.Done err err' r = Tells status.Done (all_told h ++ error_line run.Done) err err' r
TellsEnd modes h (end.Stopped why line) err err' r = Tells status.Stopped (all_told h ++ error_line (run.Stopped (kind_of modes why) line)) err err' r
TellsEnd modes h end.Spent err err' r = Tells status.Spent (all_told h ++ error_line run.Spent) err err' r
TellsEnd modes h end.ReadFault err err' r = BreaksOff fault.Read err err' r
TellsEnd modes h end.WriteFault err err' r = BreaksOff fault.Write err err' r
TellsEnd modes h end.NoMemory err err' r = BreaksOff fault.NoMemory err err' r
TellsEnd modes h end.Paused err err' r = ⊥
TellsEnd modes h end.Stuck err err' r = ⊥
