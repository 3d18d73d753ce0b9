-- What becomes of an explanation that is to be written.
use Rattle.std.specs.Prelude.{◌≡◌, ◌<◌, ◌^◌, ℕ, List, length}
use Rattle.setl_io.specs.Files.{IsText}
use Rattle.setl_tree.specs.declared.tree.Tree.{Tree}
use Rattle.setl_top_status.specs.Lines.{TriesLine, fault_line}
use Rattle.setl_top_status.specs.Seen.{Seen, SeenFiles, LoadsOnce}
use Rattle.setl_top_status.specs.code.Loads.{NotRead}
use Rattle.setl_top_status.specs.code.Writes.{Written}
use Rattle.setl_top_status.specs.declared.fault.Fault.TheVariants as fault
use Rattle.setl_top_status.specs.declared.reason.Reason.{Reason}
use Rattle.setl_top_status.specs.declared.reason.Reason.TheVariants as reason
use Rattle.setl_top_status.specs.declared.status.Status.{Status}
use Rattle.setl_top_status.specs.declared.status.Status.TheVariants as status
use Rattle.setl_top.specs.Accepted.{IsProgram, IsRefusedFor}
use Rattle.setl_top.specs.Explained.{IsExplained}

-- the status of a refusal in place of that of what is done
abbrev pub refused_if_done : Status → Status
refused_if_done status.Done = status.Refused
refused_if_done ends = ends

-- the explanation was to be written to the output, or memory for it was refused
pub data WritesExplanation (source : List ℕ) (why : Reason) (out out' err err' : Seen (List ℕ)) : Status → Type 0 where
  explained_so : (text : List ℕ) (ends shown : Status) → IsExplained source why text → Written text out out' err err' ends → shown ≡ refused_if_done ends → WritesExplanation source why out out' err err' shown
  starved_of : out' ≡ out → TriesLine (fault_line fault.NoMemory) err err' → WritesExplanation source why out out' err err' status.NoMemory

-- what an explanation of a source does
pub data ExplainsText (source : List ℕ) (out out' err err' : Seen (List ℕ)) : Status → Type 0 where
  no_fault_in : (tree : Tree) → IsProgram source tree → out' ≡ out → err' ≡ err → ExplainsText source out out' err err' status.Done
  refused_for : (why : Reason) (ends : Status) → IsRefusedFor source why → WritesExplanation source why out out' err err' ends → ExplainsText source out out' err err' ends
  not_known : out' ≡ out → TriesLine (fault_line fault.NoMemory) err err' → ExplainsText source out out' err err' status.NoMemory

-- what an explanation of the source in a file does, by what is seen of the files, of the output and of the error output
-- before and after
pub data Explains (name : List ℕ) (files files' : SeenFiles) (out out' err err' : Seen (List ℕ)) : Status → Type 0 where
  of_text : (source : List ℕ) (ends : Status) → IsText files.held name source → LoadsOnce name files files' → ExplainsText source out out' err err' ends → Explains name files files' out out' err err' ends
  of_long : (source : List ℕ) (ends : Status) → IsText files.held name source → 2 ^ 24 < length source → LoadsOnce name files files' → WritesExplanation source reason.TooLong out out' err err' ends → Explains name files files' out out' err err' ends
  not_there : {ends : Status} → NotRead name files files' err err' ends → out' ≡ out → Explains name files files' out out' err err' ends
