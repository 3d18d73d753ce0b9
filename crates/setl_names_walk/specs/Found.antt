-- What resolving finds, body by body.
use Rattle.std.specs.Prelude.{Bool, List, [], ◌∷◌, ◌++◌, fold}
use Rattle.setl_tree.specs.declared.stmt.Stmt.{Stmt}
use Rattle.setl_tree.specs.declared.tree.Param.{Param}
use Rattle.setl_tree.specs.declared.tree.Proc.{Proc}
use Rattle.setl_tree.specs.declared.tree.Tree.{Tree}
use Rattle.setl_names.specs.declared.occurrence.Occurrence.{Occurrence}
use Rattle.setl_names_walk.specs.declared.program.Resolution.{Resolution}
use Rattle.setl_names.specs.Names.{Name, in_order}
use Rattle.setl_names.specs.Bodies.{Body, bodies, occurrences}
use Rattle.setl_names.specs.Breaks.{earlier, all_occurrence_breaks, head_breaks, first_break}
use Rattle.setl_names.specs.Procedures.{param_names}
use Rattle.setl_names.specs.Variables.{names_with, slots_among, var_names}

abbrev pub body_of : Name → List Param → List Stmt → Bool → Body
body_of name params statements in_procedure = record { name = name; params = params; statements = statements; in_procedure = in_procedure }

-- with the breaks and the names of one more body, in whose statements this stands, where `vars` are the names in `var`
abbrev pub with_occurrences : List Proc → (vars : List Name) → Name → List Param → List Occurrence → Resolution → Resolution
with_occurrences procs vars name params us f = record {
  first = fold earlier f.first (all_occurrence_breaks procs us);
  names = f.names ++ names_with name params (slots_among procs (in_order (param_names params)) vars us) ∷ [];
}

-- with the breaks and the names of one more body
abbrev pub with_body : List Proc → (vars : List Name) → Body → Resolution → Resolution
with_body procs vars b f = with_occurrences procs vars b.name b.params (occurrences b) f

abbrev pub with_bodies : List Proc → (vars : List Name) → List Body → Resolution → Resolution
with_bodies procs vars [] f = f
with_bodies procs vars (b ∷ bs) f = with_bodies procs vars bs (with_body procs vars b f)

-- what resolving finds outside statements
abbrev pub heads_found : Tree → Resolution
heads_found t = record { first = first_break (head_breaks t); names = [] }

-- what resolving finds in a program
abbrev pub whole_program : Tree → Resolution
whole_program t = with_bodies t.procs (in_order (var_names t.vars)) (bodies t) (heads_found t)
