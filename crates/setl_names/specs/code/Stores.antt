-- What the code finds out of the arguments for `wr` and `rw` parameters, and the breaks of a call.
use Rattle.std.specs.Prelude.{ℕ, true, false, ◌||◌, List, [], ◌∷◌, ◌++◌, Option, Some, None, if◌then◌else◌}
use Rattle.std.specs.List.{list_any}
use Rattle.setl_tree.specs.declared.tree.Param.{Param}
use Rattle.setl_tree.specs.declared.tree.Proc.{Proc}
use Rattle.setl_names.specs.declared.broken.Break.{Break}
use Rattle.setl_names.specs.declared.occurrence.Argument.{Argument}
use Rattle.setl_names.specs.declared.occurrence.Argument.TheVariants as arg
use Rattle.setl_names.specs.declared.rules.Stores.{Stores}
use Rattle.setl_names.specs.Breaks.{broken}
use Rattle.setl_names.specs.Names.{Name, has_repeat}
use Rattle.setl_names.specs.Procedures.{params_of}
use Rattle.setl_names.specs.Rules.{is_stored, is_no_variable, is_bound_around, argument_names, is_empty, has_other_count, stores_no_variable, stores_bound_around, stores_twice}

abbrev pub no_stores : Stores
no_stores = record { no_variable = false; bound_around = false; names = [] }

abbrev pub with_store : Stores → Argument → Stores
with_store s arg.Other = record { no_variable = true; bound_around = s.bound_around; names = s.names }
with_store s (arg.Name x own inside) = record { no_variable = s.no_variable || own; bound_around = s.bound_around || inside; names = s.names ++ x ∷ [] }

-- with an argument for this parameter
abbrev pub with_argument : Stores → Param → Argument → Stores
with_argument s p x = if is_stored p.passing then with_store s x else s

-- with some more arguments
abbrev pub stores_from : Stores → List Argument → Stores
stores_from s xs = record { no_variable = s.no_variable || list_any is_no_variable xs; bound_around = s.bound_around || list_any is_bound_around xs; names = s.names ++ argument_names xs }

abbrev pub stores_of : List Argument → Stores
stores_of xs = stores_from no_stores xs

-- the breaks of what was found out of them
abbrev pub store_breaks : ℕ → Stores → List Break
store_breaks line s = broken line 11 s.no_variable ++ (broken line 16 s.bound_around ++ broken line 18 (has_repeat s.names))

-- the breaks of a call of a procedure with these parameters
abbrev pub call_breaks : ℕ → List Param → List Argument → List Break
call_breaks line ps xs =
    broken line 10 (has_other_count (Some ps) xs) ++ (broken line 11 (stores_no_variable (Some ps) xs)
    ++ (broken line 16 (stores_bound_around (Some ps) xs) ++ broken line 18 (stores_twice (Some ps) xs)))

abbrev pub applied_by : ℕ → Option (List Param) → List Argument → List Break
applied_by line None xs = broken line 12 (is_empty xs)
applied_by line (Some ps) xs = call_breaks line ps xs

-- the breaks of a name before a list in round brackets
abbrev pub applied_breaks : List Proc → ℕ → Name → List Argument → List Break
applied_breaks procs line f xs = applied_by line (params_of procs f) xs
