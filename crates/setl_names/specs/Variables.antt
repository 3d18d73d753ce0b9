-- Name resolution: which variable a name means.
use Rattle.std.specs.Prelude.{Bool, true, false, List, [], ◌∷◌, map, Option, Some, None, if◌then◌else◌}
use Rattle.setl_tree.specs.declared.tree.Declared.{Declared}
use Rattle.setl_tree.specs.declared.tree.Param.{Param}
use Rattle.setl_tree.specs.declared.tree.Proc.{Proc}
use Rattle.setl_names.specs.declared.bodies.BodyNames.{BodyNames}
use Rattle.setl_names.specs.declared.occurrence.What.{What}
use Rattle.setl_names.specs.declared.occurrence.What.TheVariants as what
use Rattle.setl_names.specs.declared.occurrence.Occurrence.{Occurrence}
use Rattle.setl_names.specs.Names.{Name, has, in_order}
use Rattle.setl_names.specs.Procedures.{is_procedure, param_names}
use Rattle.setl_names.specs.Bodies.{Body, occurrences}

-- What a name means: the own name of the innermost former that binds it, a parameter of the body, a name in `var`, which
-- all bodies see, or a variable of the body's own, one per activation.
pub data Variable : Type 0 where
  OfFormer OfParameter OfProgram OfBody : Variable

-- the first of the four that applies, where formers bind some names, in a body with these parameters
abbrev pub variable : (own params vars : List Name) → Name → Variable
variable own params vars x = if has own x then OfFormer else (if has params x then OfParameter else (if has vars x then OfProgram else OfBody))

abbrev pub is_of_body : Variable → Bool
is_of_body OfFormer = false
is_of_body OfParameter = false
is_of_body OfProgram = false
is_of_body OfBody = true

-- a name that stands in a statement and is no former's own name
abbrev pub free_name : What → Option Name
free_name (what.Name x own) = if own then None else Some x
free_name (what.Applied f own args) = if own then None else Some f
free_name _ = None

abbrev pub if_variable : List Proc → Option Name → List Name → List Name
if_variable procs None xs = xs
if_variable procs (Some x) xs = if is_procedure procs x then xs else x ∷ xs

-- The variables in statements: the names that stand there, and are neither a former's own nor a procedure's.
abbrev pub variables : List Proc → List Occurrence → List Name
variables procs [] = []
variables procs (u ∷ us) = if_variable procs (free_name u.what) (variables procs us)

abbrev pub var_names : List Declared → List Name
var_names ds = map (λ d. d.name) ds

-- the names among some that mean a variable of the body's own
abbrev pub of_body : (params vars : List Name) → List Name → List Name
of_body params vars [] = []
of_body params vars (x ∷ xs) = if is_of_body (variable [] params vars x) then x ∷ of_body params vars xs else of_body params vars xs

-- the body's own names in the order of their first appearance among these occurrences
abbrev pub slots_among : List Proc → (params vars : List Name) → List Occurrence → List Name
slots_among procs params vars us = in_order (of_body params vars (variables procs us))

abbrev pub slots : List Proc → (vars : List Name) → Body → List Name
slots procs vars b = slots_among procs (param_names b.params) vars (occurrences b)

abbrev pub names_with : Name → List Param → (slots : List Name) → BodyNames
names_with name params slots = record { name = name; params = params; slots = slots }

abbrev pub body_names : List Proc → (vars : List Name) → Body → BodyNames
body_names procs vars b = names_with b.name b.params (slots procs vars b)
