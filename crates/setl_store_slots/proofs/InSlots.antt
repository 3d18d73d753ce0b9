-- Values that go into slots in the forms of their modes.
use Rattle.std.proofs.Common.{◌≡◌, ◌∙◌, ℕ, true, Some, sym, ap, subst}
use Rattle.setl_value.specs.Datum.{Datum}
use Rattle.setl_value.specs.WellFormed.{IsValue}
use Rattle.setl_modes.specs.Modes.{Mode, mode_of}
use Rattle.setl_modes.specs.Fits.{fits, datum_fits}
use Rattle.setl_modes.specs.declared.mode.Mode.{Mode as ModeCode}
use Rattle.setl_rep_bases.specs.declared.BaseId.{BaseId}
use Rattle.setl_rep_bases.specs.Bases.{BasesState, named}
use Rattle.setl_rep_forms.specs.declared.held.Held.{Held as Code}
use Rattle.setl_rep_forms.specs.Form.{Form, om, plain, element, numbers, table, handles}
use Rattle.setl_rep_forms.specs.FormOf.{form}
use Rattle.setl_rep_forms.specs.Stands.{stands, IsOver}
use Rattle.setl_rep_building.specs.HasForm.{HasForm, HasFormOrOm}
use Rattle.setl_rep_entering.specs.Entering.{BasesAreThere}
use Rattle.setl_rep_entering.specs.Laws.{PlacesAreFound}
use Rattle.setl_rep_updates.specs.InForm.{IsInForm, IsValueOrOm, ArePlacesFound}
use Rattle.setl_store_slots.specs.declared.cells.Held.TheVariants as held
use Rattle.setl_store_slots.specs.Slots.{IsStanding}
use Rattle.setl_store_slots.proofs.Updated.{form_standing}

no_om : (name : ℕ → BaseId) (m : Mode) (f : Form) → HasForm name m f → HasFormOrOm name m f
no_om name m om h = tt
no_om name m (plain d) h = h
no_om name m (element b e) h = h
no_om name m (numbers l b ns) h = h
no_om name m (table l b many es) h = h
no_om name m (handles b es) h = h

-- the value in its form, beside an equal of its mode
pub formed_standing : (bs : BasesState) (m own : ModeCode) (d : Datum) (f : Code) → BasesAreThere bs 0 (mode_of m) → datum_fits (mode_of m) d ≡ true → IsValue d → PlacesAreFound bs 0 (mode_of m) d →
    IsOver bs (form f) → stands bs (form f) ≡ Some d → HasForm (named bs 0) (mode_of m) (form f) → mode_of own ≡ mode_of m → IsStanding bs (held.Based own f)
formed_standing bs m own d f there fit value found over is has same =
    form_standing bs own f (subst (λ k. IsInForm bs 0 k (form f)) (sym same)
    (record {
      there = there;
      over = over;
      form = no_om (named bs 0) (mode_of m) (form f) has;
      fits = ap (fits (mode_of m)) is ∙ fit;
      value = subst IsValueOrOm (sym is) value;
      found = subst (ArePlacesFound bs 0 (mode_of m)) (sym is) found;
    }))
