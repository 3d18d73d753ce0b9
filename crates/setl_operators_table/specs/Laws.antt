-- What `with` and `+` do to the depth of a value.
use Rattle.std.specs.Prelude.{◌≡◌, ◌≤◌, ◌+◌, ℕ, Some, max}
use Rattle.setl_value.specs.Datum.{Datum, depth}
use Rattle.setl_operators_table.specs.Collections.{with_datum}
use Rattle.setl_operators_table.specs.Numbers.{plus}
use Rattle.setl_operators_table.specs.Outcome.{Gives}

-- what `d with y` and `d + y` give is at least as deep as d, and no deeper than d and a set of y
abbrev pub WithGrows : Type 0
WithGrows = (d y e : Datum) (n : ℕ) → with_datum d y ≡ Gives (Some e) n → (depth d ≤ depth e) × (depth e ≤ max (depth d) (depth y + 1))

abbrev pub PlusGrows : Type 0
PlusGrows = (d y e : Datum) (n : ℕ) → plus d y ≡ Gives (Some e) n → (depth d ≤ depth e) × (depth e ≤ max (depth d) (depth y + 1))
