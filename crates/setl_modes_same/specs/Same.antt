-- Whether modes are the same.
use Rattle.std.proofs.Common.{◌≡◌, ℕ, Bool, true, false, nat_eq, refl, ap, eq-eqb, eqb-true}
use Rattle.std.specs.Prelude.{◌&&◌}
use Rattle.setl_modes.specs.declared.mode.Form.{Form}
use Rattle.setl_modes.specs.declared.mode.Form.TheVariants.{Plain, Local, Remote, Sparse}
use Rattle.setl_modes.specs.Modes.{Mode, General, Integers, Strings, Booleans, Atoms, Elements, Sets, Tuples, SingleMaps, MultiMaps}

abbrev pub same_form : Form → Form → Bool
same_form Plain Plain = true
same_form Local Local = true
same_form Remote Remote = true
same_form Sparse Sparse = true
same_form f g = false

abbrev pub same_mode : Mode → Mode → Bool
same_mode General General = true
same_mode Integers Integers = true
same_mode Strings Strings = true
same_mode Booleans Booleans = true
same_mode Atoms Atoms = true
same_mode (Elements j m) (Elements k n) = nat_eq j k && same_mode m n
same_mode (Sets f m) (Sets g n) = same_form f g && same_mode m n
same_mode (Tuples m) (Tuples n) = same_mode m n
same_mode (SingleMaps f d r) (SingleMaps g e s) = same_form f g && same_mode d e && same_mode r s
same_mode (MultiMaps f d r) (MultiMaps g e s) = same_form f g && same_mode d e && same_mode r s
same_mode m n = false

-- ---- the test says yes exactly of a mode and itself

both : (a b : Bool) → a && b ≡ true → (a ≡ true) × (b ≡ true)
both true b h = (refl, h)
both false b h = cc

join : (a b : Bool) → a ≡ true → b ≡ true → a && b ≡ true
join true b h g = g
join false b h g = cc

form_is : (f g : Form) → same_form f g ≡ true → f ≡ g
form_is Plain Plain h = refl
form_is Local Local h = refl
form_is Remote Remote h = refl
form_is Sparse Sparse h = refl
form_is f g h = cc

form_itself : (f : Form) → same_form f f ≡ true
form_itself Plain = refl
form_itself Local = refl
form_itself Remote = refl
form_itself Sparse = refl

pub mode_is : (m n : Mode) → same_mode m n ≡ true → m ≡ n
mode_is General General h = refl
mode_is Integers Integers h = refl
mode_is Strings Strings h = refl
mode_is Booleans Booleans h = refl
mode_is Atoms Atoms h = refl
mode_is (Elements j m) (Elements k n) h = let two = both (nat_eq j k) (same_mode m n) h in let one = eqb-true j k two.0 in let rest = mode_is m n two.1 in cc
mode_is (Sets f m) (Sets g n) h = let two = both (same_form f g) (same_mode m n) h in let one = form_is f g two.0 in let rest = mode_is m n two.1 in cc
mode_is (Tuples m) (Tuples n) h = ap Tuples (mode_is m n h)
mode_is (SingleMaps f d r) (SingleMaps g e s) h =
    let two = both (same_form f g && same_mode d e) (same_mode r s) h in
    let more = both (same_form f g) (same_mode d e) two.0 in
    let one = form_is f g more.0 in let rest = mode_is d e more.1 in let last = mode_is r s two.1 in cc
mode_is (MultiMaps f d r) (MultiMaps g e s) h =
    let two = both (same_form f g && same_mode d e) (same_mode r s) h in
    let more = both (same_form f g) (same_mode d e) two.0 in
    let one = form_is f g more.0 in let rest = mode_is d e more.1 in let last = mode_is r s two.1 in cc
mode_is m n h = cc

pub mode_itself : (m : Mode) → same_mode m m ≡ true
mode_itself General = refl
mode_itself Integers = refl
mode_itself Strings = refl
mode_itself Booleans = refl
mode_itself Atoms = refl
mode_itself (Elements k m) = join (nat_eq k k) (same_mode m m) (eq-eqb k k refl) (mode_itself m)
mode_itself (Sets f m) = join (same_form f f) (same_mode m m) (form_itself f) (mode_itself m)
mode_itself (Tuples m) = mode_itself m
mode_itself (SingleMaps f d r) = join (same_form f f && same_mode d d) (same_mode r r) (join (same_form f f) (same_mode d d) (form_itself f) (mode_itself d)) (mode_itself r)
mode_itself (MultiMaps f d r) = join (same_form f f && same_mode d d) (same_mode r r) (join (same_form f f) (same_mode d d) (form_itself f) (mode_itself d)) (mode_itself r)
