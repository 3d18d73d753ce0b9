-- What a fold combines, and how.
use Rattle.std.specs.Prelude.{ℕ}
use Rattle.setl_value.specs.Datum.{Datum}
use Rattle.setl_operators_table.specs.Outcome.{Outcome}
use Rattle.setl_operators_table.specs.Numbers.{plus, times, greater, lesser}
use Rattle.setl_operators_table.specs.Truths.{both, either}
use Rattle.setl_operators.specs.declared.folds.Combination.{Combination}
use Rattle.setl_operators.specs.declared.folds.Combination.TheVariants.{Sum, Product, Greatest, Least, All, Any}

-- what a combination makes of two values with the turns that are left
abbrev pub combination : Combination → ℕ → Datum → Datum → Outcome
combination Sum = λ left. plus
combination Product = times
combination Greatest = λ left. greater
combination Least = λ left. lesser
combination All = λ left. both
combination Any = λ left. either
