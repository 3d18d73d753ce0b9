-- What becomes of a session of the debugger.
use Rattle.std.specs.Prelude.{◌≡◌, ℕ, Bool, List}
use Rattle.setl_debug_script.specs.declared.command.Command.{Command}
use Rattle.setl_program.specs.ProgramOf.{program_of}
use Rattle.setl_tree.specs.declared.tree.Tree.{Tree}
use Rattle.setl_top_session.specs.Sessions.{Session}
use Rattle.setl_top_session.specs.code.Follows.{FollowsScript}
use Rattle.setl_top_session.specs.code.Scripts.{TookScript, NoScript}
use Rattle.setl_top_status.specs.Seen.{Seen, SeenFiles, LoadsOnce}
use Rattle.setl_top_status.specs.declared.status.Status.{Status}
use Rattle.setl_top.specs.code.Loads.{Loaded, NotLoaded}

-- the session over a tree's program with this script
abbrev pub session_of : Tree → Bool → List Command → Session
session_of tree based script = record { program = program_of tree; based = based; script = script }

-- what a session over the program of a file does, by what is seen of the files, of the input, of the output and of the error
-- output before and after
pub data Debugs (based : Bool) (name : List ℕ) (files files' : SeenFiles) (input input' out out' err err' : Seen (List ℕ)) : Status → Type 0 where
  debugged_so : (tree : Tree) (script : List Command) (ends : Status) → Loaded files.held name tree → LoadsOnce name files files' → TookScript input input' script → FollowsScript (session_of tree based script) out out' err err' ends → Debugs based name files files' input input' out out' err err' ends
  no_script : (tree : Tree) (ends : Status) → Loaded files.held name tree → LoadsOnce name files files' → NoScript input input' err err' ends → out' ≡ out → Debugs based name files files' input input' out out' err err' ends
  not_debugged : (ends : Status) → NotLoaded name files files' err err' ends → input' ≡ input → out' ≡ out → Debugs based name files files' input input' out out' err err' ends
