-- What becomes of a code file that is to be built.
use Rattle.std.specs.Prelude.{◌≡◌, ℕ, List, [], ◌∷◌, ◌++◌}
use Rattle.setl_tree.specs.declared.tree.Tree.{Tree}
use Rattle.setl_top_images.specs.CodeFiles.{flaw_line}
use Rattle.setl_top_images.specs.declared.images.Flaw.TheVariants.{TooLong}
use Rattle.setl_top_status.specs.Lines.{TriesLine, fault_line}
use Rattle.setl_top_status.specs.Seen.{Seen, SeenFiles, LoadsOnce}
use Rattle.setl_top_status.specs.code.Tells.{Tells}
use Rattle.setl_top_status.specs.code.Writes.{Written}
use Rattle.setl_top_status.specs.declared.fault.Fault.TheVariants as fault
use Rattle.setl_top_status.specs.declared.status.Status.{Status}
use Rattle.setl_top_status.specs.declared.status.Status.TheVariants as status
use Rattle.setl_top.specs.Built.{IsBuilt, IsLongCode}
use Rattle.setl_top.specs.code.Loads.{Loaded, NotLoaded}

-- the code file of a tree's program was to be written to the output
pub data WritesCode (tree : Tree) (out out' err err' : Seen (List ℕ)) : Status → Type 0 where
  code_written : (bytes : List ℕ) (ends : Status) → IsBuilt tree bytes → Written bytes out out' err err' ends → WritesCode tree out out' err err' ends
  code_too_long : (ends : Status) → IsLongCode tree → out' ≡ out → Tells status.Refused (flaw_line TooLong ++ 10 ∷ []) err err' ends → WritesCode tree out out' err err' ends
  code_starved : out' ≡ out → TriesLine (fault_line fault.NoMemory) err err' → WritesCode tree out out' err err' status.NoMemory

-- what a build of a file does, by what is seen of the files, of the output and of the error output before and after
pub data Builds (name : List ℕ) (files files' : SeenFiles) (out out' err err' : Seen (List ℕ)) : Status → Type 0 where
  built_so : (tree : Tree) (ends : Status) → Loaded files.held name tree → LoadsOnce name files files' → WritesCode tree out out' err err' ends → Builds name files files' out out' err err' ends
  not_built : (ends : Status) → NotLoaded name files files' err err' ends → out' ≡ out → Builds name files files' out out' err err' ends
