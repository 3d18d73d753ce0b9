-- What kernels on sets in forms tell is what operators give of the operands on top.
use Rattle.std.proofs.Common.{◌≡◌, ℕ, Bool, List, [], ◌∷◌, Option, None, Some, IfSome, drop, sym, subst}
use Rattle.setl_value.specs.Datum.{Datum}
use Rattle.setl_operators_table.specs.declared.Operator.{Operator}
use Rattle.setl_operators_table.specs.declared.Operator.TheVariants.{In}
use Rattle.setl_operators_table.specs.Operators.{op_of}
use Rattle.setl_operators_table.specs.Outcome.{truth}
use Rattle.setl_code.specs.CodeCore.{Operand, Result as Holds}
use Rattle.setl_machine.specs.Held.{TellsOfTwo}

pub tells : (xs : List Operand) (a b : Option Datum) → xs ≡ Holds b ∷ Holds a ∷ drop 2 xs → (o : Operator) → o ≡ In → (x : Option Bool) → IfSome x (λ t. (left : ℕ) → op_of In (a ∷ b ∷ []) left ≡ truth t) → IfSome x (TellsOfTwo o xs)
tells xs a b on o is None h = h
tells xs a b on o is (Some t) h = (a, b, on, λ left. subst (λ w. op_of w (a ∷ b ∷ []) left ≡ truth t) (sym is) (h left))
