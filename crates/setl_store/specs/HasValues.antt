-- Whether operands serve as values.
use Rattle.std.specs.Prelude.{ℕ, zero, suc, Bool, true, false, ◌&&◌, List, [], ◌∷◌, is_some}
use Rattle.setl_code.specs.CodeCore.{Operand, value_of}

-- whether so many results are on top
abbrev pub has_values : ℕ → List Operand → Bool
has_values zero xs = true
has_values (suc n) [] = false
has_values (suc n) (o ∷ xs) = is_some (value_of o) && has_values n xs
