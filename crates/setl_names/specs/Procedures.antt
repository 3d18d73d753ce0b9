-- The procedures of a program, by their names.
use Rattle.std.specs.Prelude.{ℕ, suc, Bool, List, [], ◌∷◌, map, Option, Some, None, is_some, if◌then◌else◌, bytes_eq}
use Rattle.setl_tree.specs.declared.tree.Param.{Param}
use Rattle.setl_tree.specs.declared.tree.Proc.{Proc}
use Rattle.setl_names.specs.Names.{Name}

-- the parameters of the first procedure of a name
abbrev pub params_of : List Proc → Name → Option (List Param)
params_of [] x = None
params_of (p ∷ ps) x = if bytes_eq x p.name then Some p.params else params_of ps x

-- the place of the first procedure of a name, where the places are counted from n, and its parameters
abbrev pub found_from : ℕ → List Proc → Name → Option (ℕ × List Param)
found_from n [] x = None
found_from n (p ∷ ps) x = if bytes_eq x p.name then Some (n, p.params) else found_from (suc n) ps x

abbrev pub found_procedure : List Proc → Name → Option (ℕ × List Param)
found_procedure ps x = found_from 0 ps x

abbrev pub is_procedure : List Proc → Name → Bool
is_procedure ps x = is_some (params_of ps x)

abbrev pub param_names : List Param → List Name
param_names ps = map (λ p. p.name) ps
