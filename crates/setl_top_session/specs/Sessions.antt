-- Sessions of the debugger: what the commands of a script tell of a program's run.
use Rattle.std.specs.Prelude.{◌≡◌, ◌<◌, ◌≤◌, ◌^◌, ℕ, Bool, List, ◌++◌, length, Option, None, Some, ⊤, codes, decimal}
use Rattle.std.specs.Io.KnownBytes.{Consumes}
use Rattle.setl_debug.specs.Sessions.{Follows}
use Rattle.setl_debug_machine.specs.Screens.{PlainRun, IsScreen}
use Rattle.setl_debug_script.specs.Lines.{lines}
use Rattle.setl_debug_script.specs.Scripts.{AreCommands, IsFirstFault, input_of}
use Rattle.setl_debug_script.specs.declared.command.Command.{Command}
use Rattle.setl_program.specs.Program.{Program}

-- a script that is followed over the states of a program's run, in which its declarations count or not
pub record Session : Type 0 where
  pub program : Program
  pub based : Bool
  pub script : List Command

-- that run, which reads the texts of the script's `input` lines
abbrev pub run_in : Session → PlainRun
run_in s = record { program = s.program; input = input_of s.script; based = s.based }

-- What these commands tell, from no turns on, over the screens of that run: after so many turns, that of the last state of
-- the program's meaning with so many.
pub record IsTold (s : Session) (commands : List Command) (told : List ℕ) : Type 0 where
  pub next : ℕ
  pub follows : Follows (IsScreen (run_in s)) commands 0 told next

-- ---- scripts

-- at most 2^20 bytes that spell these commands, one a line
pub record IsScript (bytes : List ℕ) (commands : List Command) : Type 0 where
  pub short : length bytes ≤ 2 ^ 20
  pub spelled : AreCommands (lines bytes) commands

-- the error line with which bytes are refused that are none
pub data ScriptRefusal (bytes : List ℕ) : List ℕ → Type 0 where
  long_script : 2 ^ 20 < length bytes → ScriptRefusal bytes (codes "script too long")
  faulty_line : (n : ℕ) → length bytes ≤ 2 ^ 20 → IsFirstFault (lines bytes) n → ScriptRefusal bytes (codes "script line " ++ decimal n)

-- where the bytes left of an input are told, they are these
abbrev pub IsAll : Option (List ℕ) → List ℕ → Type 0
IsAll None bytes = ⊤
IsAll (Some left) bytes = left ≡ bytes

-- these bytes were taken off an input: all that it had, or more than a script may have
abbrev pub TakesScript : (before after : Option (List ℕ)) → List ℕ → Type 0
TakesScript before after bytes = Consumes before after bytes × (length bytes ≤ 2 ^ 20 → IsAll before bytes)
