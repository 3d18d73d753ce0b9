-- Counts of images, as tests.
use Rattle.std.specs.Prelude.{ℕ, ◌+◌, ◌^◌, Bool, true, false, ◌&&◌, nat_lt, List, [], ◌∷◌, length}
use Rattle.setl_tree.specs.declared.tree.Param.{Param}
use Rattle.setl_modes.specs.declared.mode.ModeTable.{ModeTable}
use Rattle.setl_code.specs.declared.code.Body.{Body}
use Rattle.setl_code.specs.declared.code.Code.{Code}

abbrev pub is_none : List Param → Bool
is_none [] = true
is_none (p ∷ ps) = false

-- whether the main program has no parameters
abbrev pub is_bare : List Body → Bool
is_bare [] = true
is_bare (b ∷ bs) = is_none b.parameters

abbrev pub few_in : Code → ModeTable → Bool
few_in c t =
    nat_lt 0 (length c.bodies) && nat_lt (length c.bodies) (2 ^ 32) && nat_lt (length c.vars) (2 ^ 32) && nat_lt (length t.vars) (2 ^ 32) && nat_lt (length t.bases) (2 ^ 32)
    && is_bare c.bodies

abbrev pub few_of : Body → Bool
few_of b = nat_lt (length b.steps) (2 ^ 32) && nat_lt (length b.parameters + length b.names) (2 ^ 32)
