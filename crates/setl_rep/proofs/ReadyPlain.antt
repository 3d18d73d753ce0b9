-- Plain values that are held in the form of a mode.
use Rattle.std.proofs.Common.{◌≡◌, ℕ, true, refl}
use Rattle.std.proofs.lemmas.Bool.{false≢true}
use Rattle.setl_value.specs.Datum.{Datum}
use Rattle.setl_modes.specs.Fits.{datum_fits}
use Rattle.setl_modes.specs.Modes.{Mode, General, Integers, Strings, Booleans, Atoms, Elements, Sets, Tuples, SingleMaps, MultiMaps}
use Rattle.setl_rep_bases.specs.Bases.{BasesState}
use Rattle.setl_rep_forms.specs.Form.{plain}
use Rattle.setl_rep.specs.OwnForm.{IsReady, IsSimple}

pub ready_plain : (m : Mode) (d : Datum) → IsSimple m → datum_fits m d ≡ true → (bs : BasesState) (n : ℕ) → IsReady bs n m (plain d)
ready_plain General d s h bs n = record { form = tt; value = d; stood = refl; fits = h; found = λ i x q. absurd (false≢true q) }
ready_plain Integers d s h bs n = record { form = tt; value = d; stood = refl; fits = h; found = λ i x q. absurd (false≢true q) }
ready_plain Strings d s h bs n = record { form = tt; value = d; stood = refl; fits = h; found = λ i x q. absurd (false≢true q) }
ready_plain Booleans d s h bs n = record { form = tt; value = d; stood = refl; fits = h; found = λ i x q. absurd (false≢true q) }
ready_plain Atoms d s h bs n = record { form = tt; value = d; stood = refl; fits = h; found = λ i x q. absurd (false≢true q) }
ready_plain (Elements c k) d s h bs n = absurd s
ready_plain (Sets a k) d s h bs n = absurd s
ready_plain (Tuples k) d s h bs n = absurd s
ready_plain (SingleMaps a k r) d s h bs n = absurd s
ready_plain (MultiMaps a k r) d s h bs n = absurd s
