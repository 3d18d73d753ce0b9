-- Sessions of the debugger over the programs of sources.
use Rattle.std.proofs.Common.{◌≡◌, ◌∙◌, ℕ, Bool, List, [], refl, sym, ap, subst, arith}
use Rattle.setl_code.specs.Code.{Code}
use Rattle.setl_code.specs.CodeOf.{code_of}
use Rattle.setl_debug_script.specs.declared.command.Command.{Command}
use Rattle.setl_machine_control.specs.Declaring.{IsBare}
use Rattle.setl_program.specs.Program.{Program}
use Rattle.setl_program.specs.ProgramOf.{program_of}
use Rattle.setl_tree.specs.declared.tree.Tree.{Tree}
use Rattle.setl_top_session.specs.Sessions.{Session}
use Rattle.setl_top_session.specs.code.Follows.{FollowsScript, starved}
use Rattle.setl_top_session.specs.code.Scripts.{TookScript, NoScript}
use Rattle.std.proofs.KnownBytes.{Appends-nil}
use Rattle.setl_top_status.specs.Lines.{TriesLine, fault_line}
use Rattle.setl_top_status.specs.Seen.{Seen, SeenFiles}
use Rattle.setl_top_status.specs.code.Loads.{IsStill}
use Rattle.setl_top_status.specs.declared.fault.Fault.TheVariants as fault
use Rattle.setl_top_status.specs.declared.status.Status.{Status}
use Rattle.setl_top_status.specs.declared.status.Status.TheVariants as status
use Rattle.setl_top.specs.code.Debugs.{Debugs, debugged_so, no_script, session_of}
use Rattle.setl_top.specs.code.Loads.{Loaded}

-- the main body of a program's code has no parameters
pub bare_code : (p : Program) (c : Code) → c ≡ code_of p → IsBare c
bare_code p c same = subst IsBare (sym same) refl

-- memory was refused before the first command
pub starved_first : (s : Session) (out err err' : Seen (List ℕ)) → TriesLine (fault_line fault.NoMemory) err err' → FollowsScript s out out err err' status.NoMemory
starved_first s out err err' h = starved 0 [] 0 (record { next = 0; follows = (refl, refl) }) (omega arith) (Appends-nil out.held) refl h

-- the session over a program that is that of a tree
pub over_tree : (p : Program) (tree : Tree) (based : Bool) (script : List Command) (out out' err err' : Seen (List ℕ)) (ends : Status) → p ≡ program_of tree → FollowsScript (record { program = p; based = based; script = script }) out out' err err' ends → FollowsScript (session_of tree based script) out out' err err' ends
over_tree p tree based script out out' err err' ends same = subst (λ q. FollowsScript (record { program = q; based = based; script = script }) out out' err err' ends) same

-- ---- behind a load that told nothing

module _ (based : Bool) (name : List ℕ) (files files' : SeenFiles) (err mid : Seen (List ℕ)) (still : IsStill name files files' err mid) (tree : Tree) (l : Loaded files.held name tree) (input input' out out' err' : Seen (List ℕ)) where
  pub no_script_then : (ends : Status) → out' ≡ out → NoScript input input' mid err' ends → Debugs based name files files' input input' out out' err err' ends
  no_script_then ends none h = no_script tree ends l still.load (subst (λ (o : Seen (List ℕ)). NoScript input input' o err' ends) still.same h) none

  pub debugged_then : (script : List Command) (last : Seen (List ℕ)) (ends : Status) → last ≡ mid → TookScript input input' script → FollowsScript (session_of tree based script) out out' last err' ends → Debugs based name files files' input input' out out' err err' ends
  debugged_then script last ends same took h =
      debugged_so tree script ends l still.load took (subst (λ (o : Seen (List ℕ)). FollowsScript (session_of tree based script) out out' o err' ends) (same ∙ still.same) h)
