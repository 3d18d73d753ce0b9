-- Values held in the forms of modes, as bases grow.
use Rattle.std.proofs.Common.{◌≡◌, ◌∙◌, ℕ, ◌≤◌, true, Option, None, Some, sym, ap, subst, arith}
use Rattle.std.specs.Prelude.{Result, Ok, Err, IfOk, OnOk, OnErr}
use Rattle.setl_value.specs.Datum.{Datum, part_depth}
use Rattle.setl_value.specs.WellFormed.{IsValue}
use Rattle.setl_value.specs.declared.Value.{Value}
use Rattle.setl_value.specs.code.DatumOf.{datum}
use Rattle.setl_modes.specs.Fits.{fits}
use Rattle.setl_modes.specs.Modes.{Mode}
use Rattle.setl_rep_bases.specs.Bases.{BasesState, named}
use Rattle.setl_rep_forms.specs.declared.held.Held.{Held}
use Rattle.setl_rep_forms.specs.Form.{Form}
use Rattle.setl_rep_forms.specs.declared.held.Held.TheVariants as code
use Rattle.setl_rep_forms.specs.FormOf.{form, of_om, of_plain}
use Rattle.setl_rep_forms.specs.Laws.{FormsStay}
use Rattle.setl_rep_forms.specs.Stands.{stands, IsOver}
use Rattle.setl_rep_building.specs.HasForm.{HasFormOrOm}
use Rattle.setl_rep_entering.specs.Entering.{BasesAreThere}
use Rattle.setl_rep_entering.specs.Laws.{BlocksAreKept, NamesStay, PlacesAreMembers}
use Rattle.setl_rep_plain.specs.Standing.{held_value, IsHeldOver}
use Rattle.setl_rep_updates.specs.InForm.{ArePlacesFound, IsInForm, IsValueOrOm}
use Rattle.setl_rep.specs.Standing.{AreLengthenedBy}
use Rattle.setl_rep.specs.declared.conversion.ConvertFault.{ConvertFault}

-- ---- conversions

pub in_form : PlacesAreMembers → NamesStay → (m : Mode) (o : Option Datum) (bs cs : BasesState) (f : Form)
    → BasesAreThere bs 0 m → AreLengthenedBy m o 0 bs cs → IsOver cs f → stands cs f ≡ o → HasFormOrOm (named bs 0) m f → fits m o ≡ true → IsValueOrOm o → IsInForm cs 0 m f
in_form members names m None bs cs f there same over is has fit value = record {
  there = subst (λ x. BasesAreThere x 0 m) (sym same) there;
  over = over;
  form = subst (λ x. HasFormOrOm (named x 0) m f) (sym same) has;
  fits = ap (fits m) is ∙ fit;
  value = subst IsValueOrOm (sym is) value;
  found = subst (ArePlacesFound cs 0 m) (sym is) tt;
}
in_form members names m (Some d) bs cs f there more over is has fit value =
    let q = members m d 0 bs cs there more in
    let same : named cs 0 ≡ named bs 0 = (λ i b. names m d 0 bs cs more 0 b i) in
    record {
      there = q.0;
      over = over;
      form = subst (λ name. HasFormOrOm name m f) (sym same) has;
      fits = ap (fits m) is ∙ fit;
      value = subst IsValueOrOm (sym is) value;
      found = subst (ArePlacesFound cs 0 m) (sym is) q.1;
    }

stays : BlocksAreKept → FormsStay → (m : Mode) (o : Option Datum) (bs cs : BasesState) → AreLengthenedBy m o 0 bs cs → (g : Held) → IsHeldOver bs g → IsHeldOver cs g
stays kept stay m None bs cs same g h = subst (λ x. IsHeldOver x g) (sym same) h
stays kept stay m (Some d) bs cs more g h =
    let s = stay bs cs (form g) (kept m d 0 bs cs more) h.over in
    record { over = s.0; shallow = subst (λ o. part_depth o ≤ 500) (sym s.1) h.shallow }

pub stays_after : BlocksAreKept → FormsStay → (m : Mode) (o : Option Datum) (bs cs : BasesState) (r : Result Held ConvertFault) → OnOk r (AreLengthenedBy m o 0 bs cs) → OnErr r (cs ≡ bs) → (g : Held) → IsHeldOver bs g → IsHeldOver cs g
stays_after kept stay m o bs cs (Ok x) more same g h = stays kept stay m o bs cs more g h
stays_after kept stay m o bs cs (Err e) more same g h = subst (λ x. IsHeldOver x g) (sym same) h

pub shallow : (o : Option Datum) → IsValueOrOm o → part_depth o ≤ 500
shallow None h = omega arith
shallow (Some d) h = h.1

pub is_held : (n : ℕ) (m : Mode) (bs : BasesState) (g : Held) → IsInForm bs n m (form g) → IsHeldOver bs g
is_held n m bs g h = record { over = h.over; shallow = shallow (stands bs (form g)) h.value }

pub are_in_form : PlacesAreMembers → NamesStay → (m : Mode) (o : Option Datum) (bs cs : BasesState) (r : Result Held ConvertFault)
    → BasesAreThere bs 0 m → IsValueOrOm o → OnOk r (AreLengthenedBy m o 0 bs cs) → IfOk r (λ g. IsOver cs (form g)) → IfOk r (λ g. held_value cs g ≡ o) → IfOk r (λ g. HasFormOrOm (named bs 0) m (form g)) → OnOk r (fits m o ≡ true)
    → IfOk r (λ g. IsInForm cs 0 m (form g)) × IfOk r (λ g. IsHeldOver cs g) × IfOk r (λ g. IsValueOrOm (held_value cs g))
are_in_form members names m o bs cs (Ok g) there value more over is has fit = let h = in_form members names m o bs cs (form g) there more over is has fit value in (h, is_held 0 m cs g h, h.value)
are_in_form members names m o bs cs (Err e) there value more over is has fit = (tt, tt, tt)

-- ---- plain forms

pub om_held : (bs : BasesState) → IsHeldOver bs code.Om
om_held bs = record { over = subst (λ f. IsOver bs f) (sym of_om) tt; shallow = subst (λ f. part_depth (stands bs f) ≤ 500) (sym of_om) (omega arith) }

pub plain_held : (bs : BasesState) (v : Value) → IsValue (datum v) → IsHeldOver bs (code.Plain v)
plain_held bs v h = record { over = subst (λ f. IsOver bs f) (sym (of_plain v)) tt; shallow = subst (λ f. part_depth (stands bs f) ≤ 500) (sym (of_plain v)) h.1 }

pub om_value : (bs : BasesState) → IsValueOrOm (held_value bs code.Om)
om_value bs = subst (λ f. IsValueOrOm (stands bs f)) (sym of_om) tt

pub plain_value : (bs : BasesState) (v : Value) → IsValue (datum v) → IsValueOrOm (held_value bs (code.Plain v))
plain_value bs v h = subst (λ f. IsValueOrOm (stands bs f)) (sym (of_plain v)) h
