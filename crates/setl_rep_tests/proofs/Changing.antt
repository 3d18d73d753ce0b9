-- What was held before an update.
use Rattle.std.proofs.Common.{ℕ, true, false, refl, sym, subst}
use Rattle.std.specs.Prelude.{Result, Ok, Err, Bool}
use Rattle.std.specs.declared.alloc.AllocError.{AllocError}
use Rattle.setl_modes.specs.Modes.{Mode}
use Rattle.setl_operators_table.specs.Outcome.{Outcome}
use Rattle.setl_rep_bases.specs.Bases.{BasesState}
use Rattle.setl_rep_forms.specs.Form.{Form}
use Rattle.setl_rep_updates.specs.InForm.{FormsOfModesStay, IsInForm}
use Rattle.setl_rep_updates.specs.Updates.{IsUpdate}

-- it is held as before
pub still : FormsOfModesStay → (m : Mode) (gives : ℕ → Outcome) (bs cs : BasesState) (f g h : Form) (r : Result Bool AllocError) → IsUpdate m 0 gives bs cs f g r → IsInForm bs 0 m h → IsInForm cs 0 m h
still law m gives bs cs f g h (Ok true) u i = let more = u.lengthened refl in law m m more.0 0 0 bs cs h more.2 i
still law m gives bs cs f g h (Ok false) u i = subst (λ x. IsInForm x 0 m h) (sym (u.nothing refl).0) i
still law m gives bs cs f g h (Err e) u i = subst (λ x. IsInForm x 0 m h) (sym u.refused.0) i
