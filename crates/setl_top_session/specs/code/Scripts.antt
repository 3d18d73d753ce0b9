-- What becomes of the script of a session.
use Rattle.std.specs.Prelude.{ℕ, List, [], ◌∷◌, ◌++◌}
use Rattle.std.specs.Io.KnownBytes.{Consumes}
use Rattle.setl_debug_script.specs.declared.command.Command.{Command}
use Rattle.setl_top_status.specs.Lines.{TriesLine, fault_line}
use Rattle.setl_top_status.specs.Seen.{Seen, CountRose, CountStays}
use Rattle.setl_top_status.specs.code.Tells.{Tells}
use Rattle.setl_top_status.specs.declared.fault.Fault.TheVariants as fault
use Rattle.setl_top_status.specs.declared.status.Status.{Status}
use Rattle.setl_top_status.specs.declared.status.Status.TheVariants as status
use Rattle.setl_top_session.specs.Sessions.{IsScript, ScriptRefusal, TakesScript}

-- why bytes are not read as a script, and what was told of it
pub data NotSpelled (bytes : List ℕ) (err err' : Seen (List ℕ)) : Status → Type 0 where
  refused_bytes : (line : List ℕ) (ends : Status) → ScriptRefusal bytes line → Tells status.Refused (line ++ 10 ∷ []) err err' ends → NotSpelled bytes err err' ends
  starved_of_script : TriesLine (fault_line fault.NoMemory) err err' → NotSpelled bytes err err' status.NoMemory

-- a script was taken off an input
pub record TookScript (input input' : Seen (List ℕ)) (script : List Command) : Type 0 where
  pub bytes : List ℕ
  pub taken : TakesScript input.held input'.held bytes
  pub is_script : IsScript bytes script
  pub count : CountStays input input'

-- why none was, and what was told of it
pub data NoScript (input input' err err' : Seen (List ℕ)) : Status → Type 0 where
  not_spelled : (bytes : List ℕ) (ends : Status) → TakesScript input.held input'.held bytes → CountStays input input' → NotSpelled bytes err err' ends → NoScript input input' err err' ends
  unread_script : (taken : List ℕ) → Consumes input.held input'.held taken → CountRose input input' → TriesLine (fault_line fault.Read) err err' → NoScript input input' err err' status.ReadFault
  starved_script : (taken : List ℕ) → Consumes input.held input'.held taken → CountStays input input' → TriesLine (fault_line fault.NoMemory) err err' → NoScript input input' err err' status.NoMemory
