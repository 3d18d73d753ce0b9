-- Which variable a name stands for where it stands. What a name means is the name resolution of `setl_names`.
use Rattle.std.specs.Prelude.{ℕ, List, [], ◌∷◌, ◌++◌, map, Option, Some, None, if◌then◌else◌}
use Rattle.setl_tree.specs.declared.expr.Slot.{Slot}
use Rattle.setl_tree.specs.declared.expr.Slot.TheVariants as sl
use Rattle.setl_tree.specs.declared.expr.Bound.{Bound}
use Rattle.setl_tree.specs.declared.expr.Bound.TheVariants as bd
use Rattle.setl_tree.specs.declared.tree.Param.{Param}
use Rattle.setl_tree.specs.declared.tree.Proc.{Proc}
use Rattle.setl_names.specs.Names.{Name, has}
use Rattle.setl_names.specs.Procedures.{found_procedure}
use Rattle.setl_names.specs.Variables as meaning
use Rattle.setl_model_runs.specs.Variable as run
use Rattle.setl_program.specs.declared.kinds.Source.{Source}
use Rattle.setl_program.specs.Program.{Binding, Member, Components}

-- A former around a place: its number in its body, and the names that it binds there.
pub record Former : Type 0 where
  pub number : ℕ
  pub names : List Name

-- Where an expression stands: the number of its body, 0 for the main program, its parameters and the names in `var`, each
-- once, the formers around it, the innermost last, and the procedures.
pub record Scope : Type 0 where
  pub body : ℕ
  pub parameters : List Name
  pub vars : List Name
  pub formers : List Former
  pub procedures : List Proc

-- the same place where a former binds these names
abbrev pub in_former : ℕ → List Name → Scope → Scope
in_former m names s = record s { formers = s.formers ++ record { number = m; names = names } ∷ [] }

-- the names that formers bind
abbrev pub names_of_formers : List Former → List Name
names_of_formers [] = []
names_of_formers (f ∷ fs) = f.names ++ names_of_formers fs

-- the number of the innermost of these formers that binds a name, or else what was found before
abbrev pub innermost : Option ℕ → List Former → Name → Option ℕ
innermost found [] x = found
innermost found (f ∷ fs) x = innermost (if has f.names x then Some f.number else found) fs x

-- the number of the innermost former that binds a name
abbrev pub former_of : Scope → Name → Option ℕ
former_of s x = innermost None s.formers x

-- the variable of a name that the former of this number binds
abbrev pub of_former : Option ℕ → Scope → Name → run.Variable
of_former (Some m) s x = run.Bound m x
of_former None s x = run.Own s.body x

-- the variable of a name by what the name means
abbrev pub variable_by : Scope → Name → meaning.Variable → run.Variable
variable_by s x meaning.OfFormer = of_former (former_of s x) s x
variable_by s x meaning.OfParameter = run.Own s.body x
variable_by s x meaning.OfProgram = run.Global x
variable_by s x meaning.OfBody = run.Own s.body x

abbrev pub variable_of : Scope → Name → run.Variable
variable_of s x = variable_by s x (meaning.variable (names_of_formers s.formers) s.parameters s.vars x)

-- the variable of a name that a former binds, or else that the name stands for
abbrev pub bound_by : Option ℕ → Scope → Name → run.Variable
bound_by (Some m) s x = run.Bound m x
bound_by None s x = variable_of s x

abbrev pub slot_variable : (Name → run.Variable) → Slot → Option run.Variable
slot_variable v (sl.Name x) = Some (v x)
slot_variable v sl.Skip = None

abbrev pub binding_of : Bound → Source → (Name → run.Variable) → Binding
binding_of (bd.Name x) k v = Member k (v x)
binding_of (bd.Pattern slots) k v = Components k (map (slot_variable v) slots)

-- the place of the first procedure with this name, and its parameters
abbrev pub procedure_of : Scope → Name → Option (ℕ × List Param)
procedure_of s x = found_procedure s.procedures x
