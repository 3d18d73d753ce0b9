-- Why operands have no items.
use Rattle.std.specs.Prelude.{◌≡◌, ℤ, List, [], ◌∷◌, Option, Some, None}
use Rattle.setl_value.specs.Datum.{Datum, int}
use Rattle.setl_operators_table.specs.Outcome.{OmFault, KindFault, ZeroFault}
use Rattle.setl_operators_table.specs.declared.OpFault.{OpFault}
use Rattle.setl_operators_table.specs.declared.OpFault.TheVariants.{Kind, Om, Zero, NoMemory}
use Rattle.setl_model.specs.Iterations.{Started, Refuses}

-- this fault is why there are none; want of memory tells nothing
abbrev pub Refused : OpFault → Started → Type 0
Refused Om s = s ≡ Refuses OmFault
Refused Kind s = s ≡ Refuses KindFault
Refused Zero s = s ≡ Refuses ZeroFault
Refused NoMemory s = Unit {0}
Refused e s = ⊥

-- one is `om`, or there are too many or too few
abbrev pub fault_of : Option (List Datum) → OpFault
fault_of None = Om
fault_of (Some ds) = Kind

-- three integers, of which the first two differ
pub record AreBounds (a b c : ℤ) (vs : List (Option Datum)) : Type 0 where
  pub are : vs ≡ Some (int a) ∷ Some (int b) ∷ Some (int c) ∷ []
  pub differ : a ≡ b → ⊥
