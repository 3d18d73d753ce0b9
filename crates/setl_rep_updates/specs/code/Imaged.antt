-- An image that is put at a point of a map, and a point that loses its image.
use Rattle.std.specs.Prelude.{◌≡◌, ◌⊎◌, ℕ, Some, None}
use Rattle.setl_value.specs.Datum.{Datum}
use Rattle.setl_modes.specs.Modes.{Mode}
use Rattle.setl_base.specs.Base.{find}
use Rattle.setl_rep_bases.specs.declared.BaseId.{BaseId}
use Rattle.setl_rep_bases.specs.Bases.{BasesState, base_at, named}
use Rattle.setl_rep_forms.specs.Form.{Form}
use Rattle.setl_rep_forms.specs.Stands.{stands, IsOver}
use Rattle.setl_rep_building.specs.HasForm.{HasForm}
use Rattle.setl_rep_maps.specs.Contents.{IsKeyedForm, HasBase, IsPoint, PutsContent}

-- g is the map f with a content at the number of x that stands for y in the form of the mode r
pub record IsImagePut (bs : BasesState) (n : ℕ) (r : Mode) (x y : Datum) (f g : Form) : Type 0 where
  pub number : ℕ
  pub content : Form
  pub base : HasBase bs f
  pub point : IsPoint bs f number x
  pub over : IsOver bs content
  pub stands : stands bs content ≡ Some y
  pub form : HasForm (named bs n) r content
  pub keyed : IsKeyedForm f
  pub keyed_then : IsKeyedForm g
  pub put : PutsContent number (Some content) f g

-- g is the map f without a content at the number of x, or f itself, where x is no member of the base
pub record IsPointCut (bs : BasesState) (b : BaseId) (x : Datum) (f g : Form) : Type 0 where
  pub base : HasBase bs f
  pub keyed : IsKeyedForm f
  pub keyed_then : IsKeyedForm g
  pub cut : ((number : ℕ) × IsPoint bs f number x × PutsContent number None f g) ⊎ ((find (base_at bs b) x ≡ None) × (g ≡ f))
