-- What becomes of a source.
use Rattle.std.specs.Prelude.{ℕ, List, [], ◌∷◌, ◌++◌}
use Rattle.setl_io.specs.Files.{Texts, IsText}
use Rattle.setl_tree.specs.declared.tree.Tree.{Tree}
use Rattle.setl_top.specs.Accepted.{IsProgram, IsRefusedFor}
use Rattle.setl_top_status.specs.Lines.{TriesLine, fault_line}
use Rattle.setl_top_status.specs.Seen.{Seen, SeenFiles, LoadsOnce, FailsOnce, LoadsAtMost}
use Rattle.setl_top_status.specs.code.Loads.{IsStill}
use Rattle.setl_top_status.specs.Reasons.{reason_line}
use Rattle.setl_top_status.specs.code.Tells.{Tells}
use Rattle.setl_top_rules.specs.Rules.{AreModes}
use Rattle.setl_top.specs.declared.front.Checked.{Checked}
use Rattle.setl_top.specs.declared.front.Unread.{Unread}
use Rattle.setl_top.specs.declared.front.Unread.TheVariants as unread
use Rattle.setl_top_status.specs.declared.fault.Fault.TheVariants as fault
use Rattle.setl_top_status.specs.declared.reason.Reason.{Reason}
use Rattle.setl_top_status.specs.declared.status.Status.{Status}
use Rattle.setl_top_status.specs.declared.status.Status.TheVariants as status

-- a source that wasn't read is refused for this reason, or memory was refused
abbrev pub TellsWhy : List ℕ → Unread → Type 0
TellsWhy source (unread.Refused reason) = IsRefusedFor source reason
TellsWhy source unread.NoMemory = Unit {0}

-- a source with its tree and the modes of its declared variables
pub record IsChecked (source : List ℕ) (checked : Checked) : Type 0 where
  pub is_program : IsProgram source checked.tree
  pub modes : AreModes checked.tree checked.modes

-- the program of a file that was loaded
pub record Loaded (texts : Texts) (name : List ℕ) (tree : Tree) : Type 0 where
  pub source : List ℕ
  pub text : IsText texts name source
  pub is_program : IsProgram source tree

-- why there is no program to work on, and what was told of it, by what is seen of the files and of the error output before
-- and after
pub data NotLoaded (name : List ℕ) (files files' : SeenFiles) (err err' : Seen (List ℕ)) : Status → Type 0 where
  not_accepted : (source : List ℕ) (reason : Reason) (ends : Status) → IsText files.held name source → IsRefusedFor source reason → LoadsOnce name files files' → Tells status.Refused (reason_line reason ++ 10 ∷ []) err err' ends → NotLoaded name files files' err err' ends
  not_read : FailsOnce name files files' → TriesLine (fault_line fault.Read) err err' → NotLoaded name files files' err err' status.ReadFault
  no_room : LoadsAtMost name files files' → TriesLine (fault_line fault.NoMemory) err err' → NotLoaded name files files' err err' status.NoMemory

-- what a check of a file does
pub data Checks (name : List ℕ) (files files' : SeenFiles) (err err' : Seen (List ℕ)) : Status → Type 0 where
  checked_so : (tree : Tree) → Loaded files.held name tree → IsStill name files files' err err' → Checks name files files' err err' status.Done
  not_checked : (ends : Status) → NotLoaded name files files' err err' ends → Checks name files files' err err' ends
