-- The names of a program as the code lists them.
use Rattle.std.specs.Prelude.{Bool, not, ◌||◌, ◌&&◌, List, [], ◌∷◌, ◌++◌}
use Rattle.setl_tree.specs.declared.tree.Declared.{Declared}
use Rattle.setl_tree.specs.declared.tree.Proc.{Proc}
use Rattle.setl_names.specs.declared.bodies.BodyNames.{BodyNames}
use Rattle.setl_names.specs.Names.{Name, has, in_order, with_names}
use Rattle.setl_names.specs.Procedures.{is_procedure, param_names}
use Rattle.setl_names.specs.Variables.{var_names}

-- the parameters of a body and its slots
abbrev pub names_of_body : BodyNames → List Name
names_of_body b = param_names b.params ++ b.slots

abbrev pub names_of_all : List BodyNames → List Name
names_of_all [] = []
names_of_all (b ∷ bs) = names_of_body b ++ names_of_all bs

-- the names in `var` and those of some bodies
abbrev pub variable_names : List Declared → List BodyNames → List Name
variable_names vars bs = with_names (in_order (var_names vars)) (names_of_all bs)

-- whether a name is a procedure or one of these
abbrev pub is_among : List Proc → List Name → Name → Bool
is_among procs names x = is_procedure procs x || has names x

-- whether a name is none of these, or a procedure
abbrev pub is_none_of : List Proc → List Name → Name → Bool
is_none_of procs names x = not (has names x && not (is_procedure procs x))
