-- Updates of what slots hold.
use Rattle.std.proofs.Common.{◌≡◌, ◌≤◌, ℕ, Bool, true, false, Option, None, Some, refl, sym, subst, arith}
use Rattle.std.specs.Prelude.{Result, Ok, Err}
use Rattle.std.specs.declared.alloc.AllocError.{AllocError}
use Rattle.setl_value.specs.Datum.{Datum, part_depth}
use Rattle.setl_value.specs.WellFormed.{PartIsWellFormed}
use Rattle.setl_modes.specs.Modes.{mode_of}
use Rattle.setl_modes.specs.declared.mode.Mode.{Mode as ModeCode}
use Rattle.setl_operators_table.specs.Outcome.{Outcome}
use Rattle.setl_rep_bases.specs.Bases.{BasesState}
use Rattle.setl_rep_forms.specs.declared.held.Held.{Held as Form}
use Rattle.setl_rep_forms.specs.FormOf.{form}
use Rattle.setl_rep_forms.specs.Stands.{stands}
use Rattle.setl_rep_entering.specs.Laws.{BlocksAreKept}
use Rattle.setl_rep_updates.specs.InForm.{IsInForm, IsValueOrOm}
use Rattle.setl_rep_updates.specs.Updates.{IsUpdate}
use Rattle.setl_store_slots.specs.declared.cells.Held.{Held}
use Rattle.setl_store_slots.specs.declared.cells.Held.TheVariants as held
use Rattle.setl_store_slots.specs.Slots.{content_of, IsStanding}
use Rattle.setl_store_slots.specs.Updates.{IsEntered, IsSlotUpdate}
use Rattle.setl_store_slots.proofs.Growing.{same_grown, lengthened_grown}

-- a value is at most 500 deep
value_shallow : (v : Option Datum) → IsValueOrOm v → part_depth v ≤ 500
value_shallow None h = omega arith
value_shallow (Some d) h = h.1

-- and it is well-formed
value_formed : (v : Option Datum) → IsValueOrOm v → PartIsWellFormed v
value_formed None h = tt
value_formed (Some d) h = h.0

pub form_standing : (bs : BasesState) (m : ModeCode) (f : Form) → IsInForm bs 0 (mode_of m) (form f) → IsStanding bs (held.Based m f)
form_standing bs m f h = (record { over = h.over; shallow = value_shallow (stands bs (form f)) h.value }, h)

-- nothing was done
pub nothing_done : (gives : Option Datum → ℕ → Outcome) (bs cs : BasesState) (h g : Held) → cs ≡ bs → g ≡ h → IsStanding bs h → IsSlotUpdate gives bs cs h g (Ok false)
nothing_done gives bs cs h g same is standing = record {
  standing = subst (λ ds. IsStanding ds g) (sym same) (subst (IsStanding bs) (sym is) standing);
  grown = same_grown bs cs same;
  done = λ e. absurd (cc);
  entered = λ e. absurd (cc);
  nothing = λ e. (same, (λ i. content_of (same i) (is i)));
  refused = tt;
}

-- a form was updated
pub slot_updated : BlocksAreKept → (gives : Option Datum → ℕ → Outcome) (bs cs : BasesState) (m : ModeCode) (f g : Form) (r : Result Bool AllocError) → IsInForm bs 0 (mode_of m) (form f) →
    IsUpdate (mode_of m) 0 (gives (stands bs (form f))) bs cs (form f) (form g) r → IsSlotUpdate gives bs cs (held.Based m f) (held.Based m g) r
slot_updated kept gives bs cs m f g (Ok true) h u =
    let l = u.lengthened refl in
    record {
      standing = form_standing cs m g u.held;
      grown = lengthened_grown kept (mode_of m) l.0 bs cs l.2;
      done = λ e. record { before = stands bs (form f); after = stands cs (form g); was = refl; formed = value_formed (stands bs (form f)) h.value; is = refl; given = u.value refl };
      entered = λ e. subst (λ v. IsEntered bs cs (held.Based m f) (Some v)) (sym l.1) (h.there, l.2);
      nothing = λ e. absurd (cc);
      refused = tt;
    }
slot_updated kept gives bs cs m f g (Ok false) h u =
    let n = u.nothing refl in
    record {
      standing = form_standing cs m g u.held;
      grown = same_grown bs cs n.0;
      done = λ e. absurd (cc);
      entered = λ e. absurd (cc);
      nothing = λ e. (n.0, (λ i. Some (stands (n.0 i) (n.1 i))));
      refused = tt;
    }
slot_updated kept gives bs cs m f g (Err e) h u =
    record {
      standing = form_standing cs m g u.held;
      grown = same_grown bs cs u.refused.0;
      done = tt;
      entered = tt;
      nothing = tt;
      refused = (u.refused.0, (λ i. Some (stands (u.refused.0 i) (u.refused.1 i))));
    }
