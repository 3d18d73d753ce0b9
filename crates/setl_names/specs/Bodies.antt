-- The bodies of a program, and what stands in their statements.
use Rattle.std.specs.Prelude.{Bool, true, false, List, [], ◌∷◌, map}
use Rattle.setl_tree.specs.declared.stmt.Stmt.{Stmt}
use Rattle.setl_tree.specs.declared.tree.Param.{Param}
use Rattle.setl_tree.specs.declared.tree.Proc.{Proc}
use Rattle.setl_tree.specs.declared.tree.Tree.{Tree}
use Rattle.setl_names.specs.declared.occurrence.Occurrence.{Occurrence}
use Rattle.setl_names.specs.Names.{Name}
use Rattle.setl_names.specs.Statements.{told}

-- The main program or a procedure.
pub record Body : Type 0 where
  pub name : Name
  pub params : List Param
  pub statements : List Stmt
  pub in_procedure : Bool

abbrev pub main_body : Tree → Body
main_body t = record { name = t.name; params = []; statements = t.body; in_procedure = false }

abbrev pub proc_body : Proc → Body
proc_body p = record { name = p.name; params = p.params; statements = p.body; in_procedure = true }

-- the main program, then the procedures in their order
abbrev pub bodies : Tree → List Body
bodies t = main_body t ∷ map proc_body t.procs

-- what stands in the statements of a body
abbrev pub occurrences : Body → List Occurrence
occurrences b = told b.statements (record { in_loop = false; in_procedure = b.in_procedure })
