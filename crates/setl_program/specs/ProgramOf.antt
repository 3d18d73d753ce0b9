-- The program of a syntax tree: what a tree means, with each name in it resolved.
use Rattle.std.specs.Prelude.{ℕ, suc, List, [], ◌∷◌, map}
use Rattle.setl_tree.specs.declared.tree.Param.{Param}
use Rattle.setl_tree.specs.declared.tree.Proc.{Proc}
use Rattle.setl_tree.specs.declared.tree.Tree.{Tree}
use Rattle.setl_names.specs.Names.{Name, in_order}
use Rattle.setl_names.specs.Procedures.{param_names}
use Rattle.setl_names.specs.Variables.{var_names}
use Rattle.setl_model_runs.specs.Variable.{Variable}
use Rattle.setl_modes.specs.Modes.{Mode}
use Rattle.setl_modes.specs.Declarations.{variables_of}
use Rattle.setl_program.specs.Program.{Parameter, Procedure, Program}
use Rattle.setl_program.specs.Scope.{Scope, variable_of}
use Rattle.setl_program.specs.Statements.{body_of}

-- the scope of the main body, which is number 0
abbrev pub main_scope : Tree → Scope
main_scope t = record { body = 0; parameters = []; vars = in_order (var_names t.vars); formers = []; procedures = t.procs }

-- the scope in another body, with these parameters
abbrev pub in_body : ℕ → List Param → Scope → Scope
in_body n ps s = record s { body = n; parameters = in_order (param_names ps) }

abbrev pub parameter_of : Param → Parameter
parameter_of p = record { passing = p.passing; name = p.name; line = p.line }

abbrev pub procedure_of_tree : Scope → ℕ → Proc → Procedure
procedure_of_tree s n p = record {
  name = p.name;
  parameters = map parameter_of p.params;
  body = body_of p.body (in_body n p.params s);
  end_line = p.end_line;
}

-- the procedures, whose bodies are counted from n
abbrev pub procedures_from : Scope → ℕ → List Proc → List Procedure
procedures_from s n [] = []
procedures_from s n (p ∷ ps) = procedure_of_tree s n p ∷ procedures_from s (suc n) ps

abbrev pub declaration_of : Scope → Name × Mode → Variable × Mode
declaration_of s d = (variable_of s d.0, d.1)

-- the program of a tree
abbrev pub program_of : Tree → Program
program_of t = record {
  name = t.name;
  vars = var_names t.vars;
  main = body_of t.body (main_scope t);
  end_line = t.end_line;
  procedures = procedures_from (main_scope t) 1 t.procs;
  modes = map (declaration_of (main_scope t)) (variables_of t.modes);
}
