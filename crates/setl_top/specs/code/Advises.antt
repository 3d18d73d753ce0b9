-- What becomes of advice that is to be written.
use Rattle.std.specs.Prelude.{◌≡◌, ℕ, List, [], ◌∷◌, ◌++◌}
use Rattle.setl_io.specs.Files.{IsText}
use Rattle.setl_tree.specs.declared.tree.Tree.{Tree}
use Rattle.setl_top_status.specs.Lines.{TriesLine, fault_line}
use Rattle.setl_top_status.specs.Reasons.{reason_line}
use Rattle.setl_top_status.specs.Seen.{Seen, SeenFiles, LoadsOnce}
use Rattle.setl_top_status.specs.code.Tells.{Tells}
use Rattle.setl_top_status.specs.code.Writes.{Written}
use Rattle.setl_top_status.specs.declared.fault.Fault.TheVariants as fault
use Rattle.setl_top_status.specs.declared.reason.Reason.{Reason}
use Rattle.setl_top_status.specs.declared.status.Status.{Status}
use Rattle.setl_top_status.specs.declared.status.Status.TheVariants as status
use Rattle.setl_top.specs.Accepted.{IsProgram, IsRefusedFor}
use Rattle.setl_top_advice.specs.Advised.{IsAdvised, HasRepr}
use Rattle.setl_top.specs.code.Loads.{NotLoaded}

-- the advice was to be written to the output, or memory for it was refused
pub data WritesAdvice (source : List ℕ) (tree : Tree) (out out' err err' : Seen (List ℕ)) : Status → Type 0 where
  advised_so : (text : List ℕ) (ends : Status) → IsAdvised source tree text → Written text out out' err err' ends → WritesAdvice source tree out out' err err' ends
  starved_of_advice : out' ≡ out → TriesLine (fault_line fault.NoMemory) err err' → WritesAdvice source tree out out' err err' status.NoMemory

-- what is done where advice for a source is asked for
pub data AdvisesText (source : List ℕ) (out out' err err' : Seen (List ℕ)) : Status → Type 0 where
  of_program : (tree : Tree) (ends : Status) → IsProgram source tree → WritesAdvice source tree out out' err err' ends → AdvisesText source out out' err err' ends
  of_declared : (tree : Tree) (line : List ℕ) (ends : Status) → IsProgram source tree → HasRepr tree line → out' ≡ out → Tells status.Refused (line ++ 10 ∷ []) err err' ends → AdvisesText source out out' err err' ends
  of_refused : (why : Reason) (ends : Status) → IsRefusedFor source why → out' ≡ out → Tells status.Refused (reason_line why ++ 10 ∷ []) err err' ends → AdvisesText source out out' err err' ends
  not_read_through : out' ≡ out → TriesLine (fault_line fault.NoMemory) err err' → AdvisesText source out out' err err' status.NoMemory

-- what is done where advice for a file is asked for, by what is seen of the files, of the output and of the error output
-- before and after
pub data Advises (name : List ℕ) (files files' : SeenFiles) (out out' err err' : Seen (List ℕ)) : Status → Type 0 where
  of_source : (source : List ℕ) (ends : Status) → IsText files.held name source → LoadsOnce name files files' → AdvisesText source out out' err err' ends → Advises name files files' out out' err err' ends
  no_source : (ends : Status) → NotLoaded name files files' err err' ends → out' ≡ out → Advises name files files' out out' err err' ends
