-- A member that is entered into its base and put into a set of numbers.
use Rattle.std.specs.Prelude.{◌≡◌, ℕ, ◌≤◌, [], ◌∷◌, Some}
use Rattle.std.specs.Ordering.{nat_cmp}
use Rattle.std.specs.FinSet as set
use Rattle.setl_value.specs.Datum.{Datum, part_depth}
use Rattle.setl_modes.specs.Modes.{Mode, Elements}
use Rattle.setl_operators_table.specs.declared.Operator.TheVariants.{With}
use Rattle.setl_operators_table.specs.Outcome.{Gives}
use Rattle.setl_operators_table.specs.Operators.{op_of}
use Rattle.setl_rep_bases.specs.declared.BaseId.{BaseId}
use Rattle.setl_rep_bases.specs.Bases.{BasesState}
use Rattle.setl_rep_forms.specs.Form.{Form, Layout, numbers}
use Rattle.setl_rep_forms.specs.Stands.{stands, IsOver}
use Rattle.setl_rep_entering.specs.Entering.{AreLengthened}
use Rattle.setl_rep_kernels.specs.Kernels.{IsAlike}

-- the mode of elements of the instance b
abbrev pub IsElementOn : (ℕ → BaseId) → BaseId → Mode → Type 0
IsElementOn name b m = (c : ℕ) × (k : Mode) × (m ≡ Elements c k) × (b ≡ name c)

-- a set that is held as numbers of the instance b
pub record HasNumbersOf (b : BaseId) (f : Form) : Type 0 where
  pub layout : Layout
  pub held : set.FinSet nat_cmp
  pub is : f ≡ numbers layout b held

-- the bases have d behind their members, and g is f with d
pub record IsPutIn (m : Mode) (n : ℕ) (d : Datum) (bs cs : BasesState) (f g : Form) : Type 0 where
  pub lengthened : AreLengthened m d n bs cs
  pub value : (left : ℕ) → op_of With (stands cs f ∷ Some d ∷ []) left ≡ Gives (stands cs g) 0
  pub over : IsOver cs g
  pub shallow : part_depth (stands cs g) ≤ 500
  pub alike : IsAlike f g
