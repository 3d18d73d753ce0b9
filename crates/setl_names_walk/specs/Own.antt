-- The names of a body's own as the code finds them.
use Rattle.std.specs.Prelude.{Bool, not, ◌&&◌, List, if◌then◌else◌}
use Rattle.setl_tree.specs.declared.tree.Proc.{Proc}
use Rattle.setl_names.specs.Names.{Name, has, with_name}
use Rattle.setl_names.specs.Procedures.{is_procedure}

-- whether a name is none of a procedure, of a parameter or in `var`
abbrev pub is_own_name : List Proc → (params vars : List Name) → Name → Bool
is_own_name procs params vars x = not (is_procedure procs x) && (not (has params x) && not (has vars x))

-- the names, with one more behind them if it is none of a procedure, of a parameter or in `var`, and isn't there
abbrev pub with_own_name : List Proc → (params vars : List Name) → List Name → Name → List Name
with_own_name procs params vars xs x = if is_own_name procs params vars x then with_name xs x else xs
