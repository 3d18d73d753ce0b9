-- What the tests of modes tell.
use Rattle.std.proofs.Common.{◌≡◌, ℕ, zero, suc, Bool, true, false, List, [], ◌∷◌, map, Option, Some, None, refl, sym, ap, subst}
use Rattle.std.specs.Prelude.{slice_get, not, ◌&&◌, ◌↔◌, IsTrue}
use Rattle.std.specs.List.{AllByRecursion}
use Rattle.setl_modes.specs.declared.mode.NamedMode.{NamedMode}
use Rattle.setl_modes.specs.Modes.{Mode, Elements, Sets, Tuples, SingleMaps, MultiMaps, mode_of}
use Rattle.setl_modes_same.specs.Same.{same_mode, mode_is, mode_itself}
use Rattle.setl_image_modes.specs.SoundModes.{Named, has_element, keeps_rules, NamesBases, IsBaseMode, IsVariableMode, SoundModes, named_of, is_of_base, names_bases, bases_fit, vars_fit, modes_of}

both : (a b : Bool) → a && b ≡ true → (a ≡ true) × (b ≡ true)
both true b h = (refl, h)
both false b h = cc

join : (a b : Bool) → a ≡ true → b ≡ true → a && b ≡ true
join true b h g = g
join false b h g = cc

-- ---- bases

of_base : (o : Option Mode) (m : Mode) → is_of_base o m ≡ true → o ≡ Some m
of_base None m h = cc
of_base (Some n) m h = ap Some (mode_is n m h)

to_base : (o : Option Mode) (m : Mode) → o ≡ Some m → is_of_base o m ≡ true
to_base None m h = cc
to_base (Some n) m h = let same : n ≡ m = cc in subst (λ (k : Mode). same_mode k m ≡ true) (sym same) (mode_itself m)

pub told : (o : Option Mode) (m : Mode) → IsTrue (is_of_base o m) ↔ (o ≡ Some m)
told o m = (of_base o m, to_base o m)

names_of : (bases : List Mode) (m : Mode) → names_bases bases m ≡ true → NamesBases bases m
names_of bases (Elements k m) h = of_base (slice_get bases k) m h
names_of bases (Sets f m) h = names_of bases m h
names_of bases (Tuples m) h = names_of bases m h
names_of bases (SingleMaps f d r) h = let two = both (names_bases bases d) (names_bases bases r) h in (names_of bases d two.0, names_of bases r two.1)
names_of bases (MultiMaps f d r) h = let two = both (names_bases bases d) (names_bases bases r) h in (names_of bases d two.0, names_of bases r two.1)
names_of bases m h = tt

to_names : (bases : List Mode) (m : Mode) → NamesBases bases m → names_bases bases m ≡ true
to_names bases (Elements k m) h = to_base (slice_get bases k) m h
to_names bases (Sets f m) h = to_names bases m h
to_names bases (Tuples m) h = to_names bases m h
to_names bases (SingleMaps f d r) h = join (names_bases bases d) (names_bases bases r) (to_names bases d h.0) (to_names bases r h.1)
to_names bases (MultiMaps f d r) h = join (names_bases bases d) (names_bases bases r) (to_names bases d h.0) (to_names bases r h.1)
to_names bases m h = refl

get_mode : (bases : List NamedMode) (k : ℕ) (b : NamedMode) → slice_get bases k ≡ Some b → slice_get (modes_of bases) k ≡ Some (mode_of b.mode)
get_mode [] k b h = cc
get_mode (a ∷ bases) zero b h = let same : a ≡ b = cc in ap (λ (d : NamedMode). Some (mode_of d.mode)) same
get_mode (a ∷ bases) (suc k) b h = get_mode bases k b h

get_none : (bases : List NamedMode) (k : ℕ) → slice_get bases k ≡ None → slice_get (modes_of bases) k ≡ None
get_none [] k h = refl
get_none (a ∷ bases) zero h = cc
get_none (a ∷ bases) (suc k) h = get_none bases k h

pub base_there : (bases : List NamedMode) (k : ℕ) (b : NamedMode) (m : Mode) → slice_get bases k ≡ Some b → is_of_base (slice_get (modes_of bases) k) m ≡ same_mode (mode_of b.mode) m
base_there bases k b m h = ap (λ (o : Option Mode). is_of_base o m) (get_mode bases k b h)

pub base_none : (bases : List NamedMode) (k : ℕ) (m : Mode) → slice_get bases k ≡ None → is_of_base (slice_get (modes_of bases) k) m ≡ false
base_none bases k m h = ap (λ (o : Option Mode). is_of_base o m) (get_none bases k h)

-- ---- all

no_element : (b : Bool) → not b ≡ true → b ≡ false
no_element true h = cc
no_element false h = refl

is_no : (b : Bool) → b ≡ false → not b ≡ true
is_no true h = cc
is_no false h = refl

of_bases : (bs : List NamedMode) → bases_fit bs ≡ true → AllByRecursion (λ (b : Named). IsBaseMode b.1) (map named_of bs)
of_bases [] h = tt
of_bases (b ∷ bs) h =
    let two = both (not (has_element (mode_of b.mode)) && keeps_rules false (mode_of b.mode)) (bases_fit bs) h in
    let here = both (not (has_element (mode_of b.mode))) (keeps_rules false (mode_of b.mode)) two.0 in
    ((no_element (has_element (mode_of b.mode)) here.0, here.1), of_bases bs two.1)

to_bases : (bs : List NamedMode) → AllByRecursion (λ (b : Named). IsBaseMode b.1) (map named_of bs) → bases_fit bs ≡ true
to_bases [] h = refl
to_bases (b ∷ bs) h =
    join (not (has_element (mode_of b.mode)) && keeps_rules false (mode_of b.mode)) (bases_fit bs)
    (join (not (has_element (mode_of b.mode))) (keeps_rules false (mode_of b.mode)) (is_no (has_element (mode_of b.mode)) h.0.0) h.0.1)
    (to_bases bs h.1)

of_vars : (bases : List Mode) (vs : List NamedMode) → vars_fit bases vs ≡ true → AllByRecursion (λ (v : Named). IsVariableMode bases v.1) (map named_of vs)
of_vars bases [] h = tt
of_vars bases (v ∷ vs) h =
    let two = both (names_bases bases (mode_of v.mode) && keeps_rules true (mode_of v.mode)) (vars_fit bases vs) h in
    let here = both (names_bases bases (mode_of v.mode)) (keeps_rules true (mode_of v.mode)) two.0 in
    ((names_of bases (mode_of v.mode) here.0, here.1), of_vars bases vs two.1)

to_vars : (bases : List Mode) (vs : List NamedMode) → AllByRecursion (λ (v : Named). IsVariableMode bases v.1) (map named_of vs) → vars_fit bases vs ≡ true
to_vars bases [] h = refl
to_vars bases (v ∷ vs) h =
    join (names_bases bases (mode_of v.mode) && keeps_rules true (mode_of v.mode)) (vars_fit bases vs)
    (join (names_bases bases (mode_of v.mode)) (keeps_rules true (mode_of v.mode)) (to_names bases (mode_of v.mode) h.0.0) h.0.1)
    (to_vars bases vs h.1)

same_modes : (bs : List NamedMode) → map (λ (b : Named). b.1) (map named_of bs) ≡ modes_of bs
same_modes [] = refl
same_modes (b ∷ bs) = ap (λ (ms : List Mode). mode_of b.mode ∷ ms) (same_modes bs)

-- both tests tell
pub tells : (bases vars : List NamedMode) → IsTrue (bases_fit bases && vars_fit (modes_of bases) vars) ↔ SoundModes (map named_of bases) (map named_of vars)
tells bases vars = (
  λ h.
      let two = both (bases_fit bases) (vars_fit (modes_of bases) vars) h in
      record {
        of_bases = of_bases bases two.0;
        of_vars = subst (λ (ms : List Mode). AllByRecursion (λ (v : Named). IsVariableMode ms v.1) (map named_of vars)) (sym (same_modes bases)) (of_vars (modes_of bases) vars two.1);
      },
  λ sound.
      join (bases_fit bases) (vars_fit (modes_of bases) vars) (to_bases bases sound.of_bases)
      (to_vars (modes_of bases) vars (subst (λ (ms : List Mode). AllByRecursion (λ (v : Named). IsVariableMode ms v.1) (map named_of vars)) (same_modes bases) sound.of_vars)),
)

pub sound_by : (bases vars : List NamedMode) (x y : Bool) → x ≡ bases_fit bases → y ≡ vars_fit (modes_of bases) vars → IsTrue (x && y) ↔ SoundModes (map named_of bases) (map named_of vars)
sound_by bases vars x y is are = rw (is, are) (tells bases vars)

pub sound_then : (bases vars : List NamedMode) (x y : Bool) → x ≡ bases_fit bases → y ≡ vars_fit (modes_of bases) vars → x ≡ true → IsTrue y ↔ SoundModes (map named_of bases) (map named_of vars)
sound_then bases vars x y is are then = subst (λ (b : Bool). IsTrue (b && y) ↔ SoundModes (map named_of bases) (map named_of vars)) then (sound_by bases vars x y is are)

pub sound_else : (bases vars : List NamedMode) (x y : Bool) → x ≡ bases_fit bases → y ≡ vars_fit (modes_of bases) vars → x ≡ false → IsTrue x ↔ SoundModes (map named_of bases) (map named_of vars)
sound_else bases vars true y is are nope = cc
sound_else bases vars false y is are nope = sound_by bases vars false y is are
