-- Forms of modes, and `om`.
use Rattle.std.specs.Prelude.{ℕ}
use Rattle.std.proofs.Common.{sym, subst}
use Rattle.setl_modes.specs.Modes.{Mode}
use Rattle.setl_rep_bases.specs.declared.BaseId.{BaseId}
use Rattle.setl_rep_forms.specs.declared.held.Held.TheVariants as code
use Rattle.setl_rep_forms.specs.Form.{Form, om}
use Rattle.setl_rep_forms.specs.FormOf.{form, of_om}
use Rattle.setl_rep_building.specs.HasForm.{HasForm, HasFormOrOm}

pub has_form_or_om : (name : ℕ → BaseId) (m : Mode) (f : Form) → HasForm name m f → HasFormOrOm name m f
has_form_or_om name m om h = tt
has_form_or_om name m f h = h

pub om_has : (name : ℕ → BaseId) (m : Mode) → HasFormOrOm name m (form code.Om)
om_has name m = subst (λ f. HasFormOrOm name m f) (sym of_om) tt
