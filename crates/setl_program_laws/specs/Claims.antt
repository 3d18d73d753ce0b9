-- What holds of the program of an accepted tree.
use Rattle.std.specs.Prelude.{◌≡◌, None}
use Rattle.setl_tree.specs.Tokens.{Tokens}
use Rattle.setl_tree.specs.Programs.{Derives}
use Rattle.setl_tree.specs.declared.tree.Tree.{Tree}
use Rattle.setl_names.specs.Breaks.{breaks, first_break}
use Rattle.setl_program.specs.ProgramOf.{program_of}
use Rattle.setl_program.specs.Formed.{Formed}
use Rattle.setl_program.specs.Placed.{Placed}
use Rattle.setl_program.specs.Updating.{Updating}

-- some tokens derive the tree, and it breaks no rule
pub record IsAccepted (tree : Tree) : Type 0 where
  pub tokens : Tokens
  pub derived : Derives tokens tree
  pub sound : first_break (breaks tree) ≡ None

abbrev pub AcceptedIsFormed : Type 0
AcceptedIsFormed = (t : Tree) → IsAccepted t → Formed (program_of t)

abbrev pub AcceptedIsPlaced : Type 0
AcceptedIsPlaced = (t : Tree) → IsAccepted t → Placed (program_of t)

abbrev pub AcceptedIsUpdating : Type 0
AcceptedIsUpdating = (t : Tree) → IsAccepted t → Updating (program_of t)
