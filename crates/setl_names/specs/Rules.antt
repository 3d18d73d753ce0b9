-- Rules 9 to 18, each by whether something that stands in a statement breaks it.
use Rattle.std.specs.Prelude.{Bool, true, false, not, nat_eq, List, [], ◌∷◌, length, Option, Some, None, if◌then◌else◌}
use Rattle.std.specs.List.{list_any}
use Rattle.setl_tree.specs.declared.tree.Param.{Param}
use Rattle.setl_tree.specs.declared.tree.Passing.{Passing}
use Rattle.setl_tree.specs.declared.tree.Passing.TheVariants as pa
use Rattle.setl_tree.specs.declared.tree.Proc.{Proc}
use Rattle.setl_names.specs.declared.occurrence.Argument.{Argument}
use Rattle.setl_names.specs.declared.occurrence.Argument.TheVariants as arg
use Rattle.setl_names.specs.declared.occurrence.What.{What}
use Rattle.setl_names.specs.declared.occurrence.What.TheVariants as what
use Rattle.setl_names.specs.Names.{Name, has_repeat}
use Rattle.setl_names.specs.Procedures.{params_of, is_procedure}

-- ---- arguments

abbrev pub is_stored : Passing → Bool
is_stored pa.Rd = false
is_stored pa.Wr = true
is_stored pa.Rw = true

-- the arguments for the `wr` and `rw` parameters
abbrev pub stored : List Param → List Argument → List Argument
stored [] xs = []
stored (p ∷ ps) [] = []
stored (p ∷ ps) (x ∷ xs) = if is_stored p.passing then x ∷ stored ps xs else stored ps xs

-- no name of a variable
abbrev pub is_no_variable : Argument → Bool
is_no_variable arg.Other = true
is_no_variable (arg.Name x own inside) = own

-- a name that a former around the argument binds
abbrev pub is_bound_around : Argument → Bool
is_bound_around arg.Other = false
is_bound_around (arg.Name x own inside) = inside

abbrev pub argument_names : List Argument → List Name
argument_names [] = []
argument_names (arg.Other ∷ xs) = argument_names xs
argument_names (arg.Name x own inside ∷ xs) = x ∷ argument_names xs

abbrev pub is_empty : List Argument → Bool
is_empty [] = true
is_empty (x ∷ xs) = false

-- ---- the rules for a call of a procedure with these parameters, or for what isn't one

abbrev pub has_other_count : Option (List Param) → List Argument → Bool
has_other_count None xs = false
has_other_count (Some ps) xs = not (nat_eq (length xs) (length ps))

abbrev pub stores_no_variable : Option (List Param) → List Argument → Bool
stores_no_variable None xs = false
stores_no_variable (Some ps) xs = list_any is_no_variable (stored ps xs)

abbrev pub is_empty_selection : Option (List Param) → List Argument → Bool
is_empty_selection None xs = is_empty xs
is_empty_selection (Some ps) xs = false

abbrev pub stores_bound_around : Option (List Param) → List Argument → Bool
stores_bound_around None xs = false
stores_bound_around (Some ps) xs = list_any is_bound_around (stored ps xs)

abbrev pub stores_twice : Option (List Param) → List Argument → Bool
stores_twice None xs = false
stores_twice (Some ps) xs = has_repeat (argument_names (stored ps xs))

-- ---- the rules

module _ (procs : List Proc) where
  -- 9. A procedure's name stands only before a round list of arguments without `..`.
  abbrev pub rule_9 : What → Bool
  rule_9 (what.Name x own) = is_procedure procs x
  rule_9 _ = false

  -- 10. A call has as many arguments as the procedure has parameters.
  abbrev pub rule_10 : What → Bool
  rule_10 (what.Applied f own xs) = has_other_count (params_of procs f) xs
  rule_10 _ = false

  -- 11. An argument for a `wr` or `rw` parameter is a name of a variable.
  abbrev pub rule_11 : What → Bool
  rule_11 (what.Applied f own xs) = stores_no_variable (params_of procs f) xs
  rule_11 _ = false

  -- 12. A call statement names a procedure, and an empty list of arguments stands only after a procedure's name.
  abbrev pub rule_12 : What → Bool
  rule_12 (what.CallStatement f) = not (is_procedure procs f)
  rule_12 (what.Applied f own xs) = is_empty_selection (params_of procs f) xs
  rule_12 what.EmptyList = true
  rule_12 _ = false

  -- 13. `quit` and `continue` stand inside a loop of the same body.
  abbrev pub rule_13 : What → Bool
  rule_13 (what.Quit in_loop) = not in_loop
  rule_13 _ = false

  -- 14. `return` stands in a procedure.
  abbrev pub rule_14 : What → Bool
  rule_14 (what.Return in_procedure) = not in_procedure
  rule_14 _ = false

  -- 15. The bound names of one list of iterators are all different, and so are those of a former that collects what it
  -- binds.
  abbrev pub rule_15 : What → Bool
  rule_15 (what.Bound xs) = has_repeat xs
  rule_15 _ = false

  -- 16. Inside a former, a name that it binds is neither a quantifier's bound name nor an argument for a `wr` or `rw`
  -- parameter.
  abbrev pub rule_16 : What → Bool
  rule_16 (what.Quantified x inside) = inside
  rule_16 (what.Applied f own xs) = stores_bound_around (params_of procs f) xs
  rule_16 _ = false

  -- 17. A name stands at most once in a tuple target.
  abbrev pub rule_17 : What → Bool
  rule_17 (what.Target xs) = has_repeat xs
  rule_17 _ = false

  -- 18. Two `wr` or `rw` arguments of one call don't name the same variable.
  abbrev pub rule_18 : What → Bool
  rule_18 (what.Applied f own xs) = stores_twice (params_of procs f) xs
  rule_18 _ = false
