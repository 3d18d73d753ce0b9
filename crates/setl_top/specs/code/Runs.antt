-- What a run of a program or of code does to its input and its output, and what its watchers are told, by what the words ask for: its
-- bound on turns, and whether declarations count.
use Rattle.std.specs.Prelude.{◌≡◌, ◌⊎◌, ◌<◌, ℕ, List, [], ◌++◌, length, take, if◌then◌else◌}
use Rattle.std.specs.Io.KnownBytes.{Appends, Consumes}
use Rattle.setl_io.specs.Faults.{more}
use Rattle.setl_model_runs.specs.Events as run
use Rattle.setl_program.specs.Program.{Program}
use Rattle.setl_program.specs.ProgramOf.{program_of}
use Rattle.setl_tree.specs.declared.tree.Tree.{Tree}
use Rattle.setl_program_laws.specs.Claims.{IsAccepted}
use Rattle.setl_machine_control.specs.Declaring.{Modes}
use Rattle.setl_machine_control.specs.Answers.{kind_of}
use Rattle.setl_machine_control.specs.declared.end.End.{End}
use Rattle.setl_machine_control.specs.declared.end.End.TheVariants as end
use Rattle.setl_machine.specs.Prints.{prints}
use Rattle.setl_top.specs.Headline.{IsInput, IsLeft}
use Rattle.setl_top.specs.Runnable.{Runnable, declared_by, Meant, IsAt, Printing, Reading}
use Rattle.setl_top_status.specs.Seen.{Seen, CountRose, CountStays}
use Rattle.setl_watch.specs.Watches.{Watched, told_all}
use Rattle.setl_top.specs.Watching.{headed}
use Rattle.setl_top_words.specs.Words.{Options, dumps}

-- what is seen of the input and of the output, and the watchers of a run
pub record Streams : Type 0 where
  pub input : Seen (List ℕ)
  pub output : Seen (List ℕ)
  pub watchers : Watched

abbrev pub streams : (input output : Seen (List ℕ)) → Watched → Streams
streams input output watchers = record { input = input; output = output; watchers = watchers }

-- it is what an accepted tree means
pub record IsMeant (program : Program) : Type 0 where
  pub tree : Tree
  pub accepted : IsAccepted tree
  pub meaning : program ≡ program_of tree

-- the declarations that count in a run
abbrev pub counted : Options → Runnable → Modes
counted asked r = if asked.based then declared_by r else []

-- the run came to this end of the meaning, whose output is added, each print as one piece, and left what the meaning's last state
-- has of the input, which is a state that it reaches; the watchers were told its events, and the dump stands before the reports
-- where it is asked for
pub record RunsTo (r : Runnable) (asked : Options) (before after : Streams) (end : run.End) : Type 0 where
  pub input : List ℕ
  pub known : IsInput before.input.held input
  pub out : List ℕ
  pub means : Meant r input asked.turns asked.based out end
  pub at_end : IsAt r input asked.turns asked.based out
  pub left : IsLeft before.input.held after.input.held means.left
  pub gained : Appends before.output.held after.output.held out
  pub writes : after.output.calls ≡ more (prints means.events) before.output.calls
  pub input_count : CountStays before.input after.input
  pub out_count : CountStays before.output after.output
  pub told : after.watchers ≡ headed (if dumps asked then means.dump else []) (told_all means.events before.watchers)

-- the run was broken off in a print: the output up to it is added, and some of its line
pub record RunsInto (r : Runnable) (asked : Options) (before after : Streams) : Type 0 where
  pub input : List ℕ
  pub known : IsInput before.input.held input
  pub out : List ℕ
  pub line : List ℕ
  pub n : ℕ
  pub still : List ℕ
  pub at : Printing r input asked.turns asked.based out line still
  pub part : n < length line
  pub gained : Appends before.output.held after.output.held (out ++ take n line)

-- a write failed there, and the input has what the run had left at that print
pub record WritesInto (r : Runnable) (asked : Options) (before after : Streams) : Type 0 where
  pub into : RunsInto r asked before after
  pub left : IsLeft before.input.held after.input.held into.still

-- the run was broken off at a read, before which this output was added
pub record RunsToRead (r : Runnable) (asked : Options) (before after : Streams) : Type 0 where
  pub input : List ℕ
  pub known : IsInput before.input.held input
  pub out : List ℕ
  pub at : Reading r input asked.turns asked.based out
  pub gained : Appends before.output.held after.output.held out

-- the run was broken off at a state, whose output is added
pub record RunsUpTo (r : Runnable) (asked : Options) (before after : Streams) : Type 0 where
  pub input : List ℕ
  pub known : IsInput before.input.held input
  pub out : List ℕ
  pub at : IsAt r input asked.turns asked.based out
  pub gained : Appends before.output.held after.output.held out

-- the machine ended so
abbrev pub Runs : Runnable → Options → (before after : Streams) → End → Type 0
Runs r asked before after end.Done = RunsTo r asked before after run.Done
Runs r asked before after (end.Stopped why line) = RunsTo r asked before after (run.Stopped (kind_of (counted asked r) why) line)
Runs r asked before after end.Spent = RunsTo r asked before after run.Spent
Runs r asked before after end.ReadFault = RunsToRead r asked before after × CountRose before.input after.input × CountStays before.output after.output
Runs r asked before after end.WriteFault = WritesInto r asked before after × CountRose before.output after.output × CountStays before.input after.input
Runs r asked before after end.NoMemory = (RunsInto r asked before after ⊎ RunsUpTo r asked before after) × CountStays before.input after.input × CountStays before.output after.output
Runs r asked before after end.Paused = ⊥
Runs r asked before after end.Stuck = ⊥

-- bytes were taken off the input of a run that has a `read` in hand at one of its states, and the output up to it is added
pub record TakesAtRead (r : Runnable) (asked : Options) (before after : Streams) : Type 0 where
  pub input : List ℕ
  pub known : IsInput before.input.held input
  pub out : List ℕ
  pub more : List ℕ
  pub taken : List ℕ
  pub at : Reading r input asked.turns asked.based out
  pub gained : Appends before.output.held after.output.held (out ++ more)
  pub consumed : Consumes before.input.held after.input.held taken

-- no byte was taken of the input, or a `read` took them
abbrev pub TakesInput : Runnable → Options → (before after : Streams) → Type 0
TakesInput r asked before after = (after.input.held ≡ before.input.held) ⊎ TakesAtRead r asked before after
