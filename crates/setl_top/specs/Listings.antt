-- The code of a program, and its listing.
use Rattle.std.specs.Prelude.{◌≡◌, ℕ, List}
use Rattle.setl_code.specs.Code.{Code}
use Rattle.setl_code.specs.CodeOf.{code_of}
use Rattle.setl_code.specs.Listing.{listing}
use Rattle.setl_code_marked.specs.Marked.{declared_in, Marked}
use Rattle.setl_program.specs.Program.{Program}
use Rattle.setl_program.specs.ProgramOf.{program_of}
use Rattle.setl_tree.specs.declared.tree.Tree.{Tree}

-- it is the code of the program with `take` for `load` exactly at the last uses of variables that aren't declared
abbrev pub IsMarked : Program → Code → Type 0
IsMarked program code = Marked (declared_in program.modes) (code_of program) code

-- the text is the listing of that code
pub record IsListing (tree : Tree) (text : List ℕ) : Type 0 where
  pub code : Code
  pub marked : IsMarked (program_of tree) code
  pub lists : text ≡ listing code
