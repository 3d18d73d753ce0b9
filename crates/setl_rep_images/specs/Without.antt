-- Maps without the images of a point.
use Rattle.std.specs.Prelude.{◌≡◌, ◌⊎◌, ℕ, [], ◌∷◌, Some, None}
use Rattle.setl_value.specs.Datum.{Datum}
use Rattle.setl_base.specs.Base.{find}
use Rattle.setl_operators_table.specs.declared.Operator.TheVariants.{Lessf}
use Rattle.setl_operators_table.specs.Operators.{op_of}
use Rattle.setl_operators_table.specs.Outcome.{Gives}
use Rattle.setl_rep_bases.specs.declared.BaseId.{BaseId}
use Rattle.setl_rep_bases.specs.Bases.{BasesState, base_at}
use Rattle.setl_rep_forms.specs.Form.{Form, table}
use Rattle.setl_rep_forms.specs.Stands.{stands, IsOver}
use Rattle.setl_rep_maps.specs.Contents.{HasBase, IsKeyedForm, IsPoint, PutsContent}

-- two maps as tables in the same layout on the same base, which keep their images in the same way
abbrev pub IsTableLike : Form → Form → Type 0
IsTableLike (table k b many es) (table l e some fs) = (l ≡ k) × (e ≡ b) × (some ≡ many)
IsTableLike f g = ⊥

-- g is f without the images of x
pub record IsWithoutPoint (bs : BasesState) (x : Datum) (f g : Form) : Type 0 where
  pub value : (left : ℕ) → op_of Lessf (stands bs f ∷ Some x ∷ []) left ≡ Gives (stands bs g) 0
  pub over : IsOver bs g
  pub alike : IsTableLike f g

-- the content of x was taken out of a map on the base b, where x is a member of the base
pub record IsTakenOut (bs : BasesState) (b : BaseId) (x : Datum) (f g : Form) : Type 0 where
  pub base : HasBase bs f
  pub keyed : IsKeyedForm f
  pub keyed_then : IsKeyedForm g
  pub taken : ((number : ℕ) × IsPoint bs f number x × PutsContent number None f g) ⊎ ((find (base_at bs b) x ≡ None) × (g ≡ f))
