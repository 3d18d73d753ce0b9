-- What is in a flow fits the mode that is advised for it.
use Rattle.std.proofs.Common.{◌≡◌, refl, Bool, true, false, List, [], ◌∷◌, Option, Some, None}
use Rattle.std.specs.Prelude.{◌&&◌}
use Rattle.std.specs.List.{AllByRecursion, list_all}
use Rattle.setl_value.specs.Datum.{Datum, bool, int, text, atom, tuple, set, element_list, part_list, set_of}
use Rattle.setl_value.specs.Pairs.{pair_parts, images}
use Rattle.setl_modes.specs.declared.mode.Form.{Form}
use Rattle.setl_modes.specs.declared.mode.Form.TheVariants as form
use Rattle.setl_modes.specs.Modes.{Mode, Integers, Strings, Atoms, Elements, Sets, Tuples, MultiMaps}
use Rattle.setl_modes.specs.Fits.{part_fits, multi_fits, datum_fits, is_taken}
use Rattle.setl_advise_flows.specs.Flow.{Kind, Whole, Letters, Truth, Token, Flow, Nothing, Scalar, Set, Tuple, Map, Any}
use Rattle.setl_advise_flows.specs.Has.{IsOf, HasPart, HasPair, Members, Components, Has, HasAt}
use Rattle.setl_advise_flows.specs.Advice.{kind_mode, plain_mode, Bases, image_mode, advised}
use Rattle.setl_advise_flows.proofs.Joining.{each_by}
use Rattle.setl_advise_flows.proofs.Lists.{set_has}
use Rattle.setl_advise_flows.proofs.Views.{images_in}

both_hold : (a b : Bool) → a ≡ true → b ≡ true → a && b ≡ true
both_hold true b h k = k
both_hold false b h k = cc

all_hold : {X : Type 0} (test : X → Bool) (xs : List X) → AllByRecursion (λ x. test x ≡ true) xs → list_all test xs ≡ true
all_hold test [] h = refl
all_hold test (x ∷ xs) h = both_hold (test x) (list_all test xs) h.0 (all_hold test xs h.1)

-- values of a predicate fit a mode
abbrev Fitting : (Datum → Type 0) → Mode → Type 0
Fitting P m = (d : Datum) → P d → datum_fits m d ≡ true

part_fitting : (P : Datum → Type 0) (m : Mode) → Fitting P m → (v : Option Datum) → HasPart P v → part_fits (datum_fits m) v ≡ true
part_fitting P m f None h = refl
part_fitting P m f (Some d) h = f d h

sets_fit : (P : Datum → Type 0) (t : Form) (m : Mode) → Fitting P m → Fitting (Members P) (Sets t m)
sets_fit P t m f (set ms) h = all_hold (datum_fits m) (element_list ms) (each_by P (λ d. datum_fits m d ≡ true) f (element_list ms) h)
sets_fit P t m f (bool z) h = absurd h
sets_fit P t m f (int z) h = absurd h
sets_fit P t m f (text z) h = absurd h
sets_fit P t m f (atom z) h = absurd h
sets_fit P t m f (tuple z) h = absurd h

tuples_fit : (P : Datum → Type 0) (m : Mode) → Fitting P m → Fitting (Components P) (Tuples m)
tuples_fit P m f (tuple ps) h = all_hold (part_fits (datum_fits m)) (part_list ps) (each_by (HasPart P) (λ v. part_fits (datum_fits m) v ≡ true) (part_fitting P m f) (part_list ps) h)
tuples_fit P m f (bool z) h = absurd h
tuples_fit P m f (int z) h = absurd h
tuples_fit P m f (text z) h = absurd h
tuples_fit P m f (atom z) h = absurd h
tuples_fit P m f (set z) h = absurd h

maps_fit : (P Q : Datum → Type 0) (t : Form) (m n : Mode) → Fitting P m → Fitting (Members Q) n → Fitting (Members (λ d. HasPair P Q (pair_parts d))) (MultiMaps t m n)
maps_fit P Q t m n f g (set ms) h =
    all_hold (λ d. multi_fits (datum_fits m) (datum_fits n) (element_list ms) (pair_parts d)) (element_list ms)
    (each_by (λ d. HasPair P Q (pair_parts d)) (λ d. multi_fits (datum_fits m) (datum_fits n) (element_list ms) (pair_parts d) ≡ true) (λ d k. one (pair_parts d) k) (element_list ms) h)
  where
    one : (o : Option (Datum × Datum)) → HasPair P Q o → multi_fits (datum_fits m) (datum_fits n) (element_list ms) o ≡ true
    one None k = absurd k
    one (Some q) k =
        both_hold (datum_fits m q.0) (datum_fits n (set_of (images q.0 (element_list ms)))) (f q.0 k.0)
        (g (set_of (images q.0 (element_list ms))) (set_has Q (images q.0 (element_list ms)) (images_in P Q q.0 (element_list ms) h)))
maps_fit P Q t m n f g (bool z) h = absurd h
maps_fit P Q t m n f g (int z) h = absurd h
maps_fit P Q t m n f g (text z) h = absurd h
maps_fit P Q t m n f g (atom z) h = absurd h
maps_fit P Q t m n f g (tuple z) h = absurd h

scalars_fit : (k : Kind) (d : Datum) → IsOf k d → datum_fits (kind_mode k) d ≡ true
scalars_fit Whole (bool z) h = absurd h
scalars_fit Whole (int z) h = refl
scalars_fit Whole (text z) h = absurd h
scalars_fit Whole (atom z) h = absurd h
scalars_fit Whole (tuple z) h = absurd h
scalars_fit Whole (set z) h = absurd h
scalars_fit Letters (bool z) h = absurd h
scalars_fit Letters (int z) h = absurd h
scalars_fit Letters (text z) h = refl
scalars_fit Letters (atom z) h = absurd h
scalars_fit Letters (tuple z) h = absurd h
scalars_fit Letters (set z) h = absurd h
scalars_fit Truth (bool z) h = refl
scalars_fit Truth (int z) h = absurd h
scalars_fit Truth (text z) h = absurd h
scalars_fit Truth (atom z) h = absurd h
scalars_fit Truth (tuple z) h = absurd h
scalars_fit Truth (set z) h = absurd h
scalars_fit Token (bool z) h = absurd h
scalars_fit Token (int z) h = absurd h
scalars_fit Token (text z) h = absurd h
scalars_fit Token (atom z) h = refl
scalars_fit Token (tuple z) h = absurd h
scalars_fit Token (set z) h = absurd h

-- a value in a flow fits the plain mode of the flow
pub plain_fits : (f : Flow) → Fitting (Has f) (plain_mode f)
plain_fits Nothing d h = absurd h
plain_fits (Scalar k) d h = scalars_fit k d h
plain_fits (Set f) d h = sets_fit (Has f) form.Plain (plain_mode f) (plain_fits f) d h
plain_fits (Tuple f) d h = tuples_fit (Has f) (plain_mode f) (plain_fits f) d h
plain_fits (Map f g) d h =
    maps_fit (Has f) (Has g) form.Plain (plain_mode f) (Sets form.Plain (plain_mode g)) (plain_fits f) (sets_fit (Has g) form.Plain (plain_mode g) (plain_fits g)) d h
plain_fits Any d h = refl

images_fit : (b : Bases) (g : Flow) → Fitting (Members (Has g)) (image_mode b g)
images_fit b (Scalar Whole) d h = sets_fit (IsOf Whole) form.Sparse (Elements (b Whole) Integers) (scalars_fit Whole) d h
images_fit b (Scalar Letters) d h = sets_fit (IsOf Letters) form.Sparse (Elements (b Letters) Strings) (scalars_fit Letters) d h
images_fit b (Scalar Token) d h = sets_fit (IsOf Token) form.Sparse (Elements (b Token) Atoms) (scalars_fit Token) d h
images_fit b (Scalar Truth) d h = sets_fit (Has (Scalar Truth)) form.Plain (plain_mode (Scalar Truth)) (plain_fits (Scalar Truth)) d h
images_fit b Nothing d h = sets_fit (Has Nothing) form.Plain (plain_mode Nothing) (plain_fits Nothing) d h
images_fit b (Set f) d h = sets_fit (Has (Set f)) form.Plain (plain_mode (Set f)) (plain_fits (Set f)) d h
images_fit b (Tuple f) d h = sets_fit (Has (Tuple f)) form.Plain (plain_mode (Tuple f)) (plain_fits (Tuple f)) d h
images_fit b (Map f k) d h = sets_fit (Has (Map f k)) form.Plain (plain_mode (Map f k)) (plain_fits (Map f k)) d h
images_fit b Any d h = sets_fit (Has Any) form.Plain (plain_mode Any) (plain_fits Any) d h

-- what a variable's flow has is taken by its advised mode
pub advised_takes : (b : Bases) (f : Flow) (v : Option Datum) → HasAt f v → is_taken (advised b f) v ≡ true
advised_takes b Nothing v h = refl
advised_takes b Any v h = refl
advised_takes b (Scalar Whole) (Some d) h = plain_fits (Scalar Whole) d h
advised_takes b (Scalar Whole) None h = refl
advised_takes b (Scalar Letters) (Some d) h = plain_fits (Scalar Letters) d h
advised_takes b (Scalar Letters) None h = refl
advised_takes b (Scalar Truth) (Some d) h = plain_fits (Scalar Truth) d h
advised_takes b (Scalar Truth) None h = refl
advised_takes b (Scalar Token) (Some d) h = plain_fits (Scalar Token) d h
advised_takes b (Scalar Token) None h = refl
advised_takes b (Set (Scalar Whole)) (Some d) h = sets_fit (IsOf Whole) form.Remote (Elements (b Whole) (kind_mode Whole)) (scalars_fit Whole) d h
advised_takes b (Set (Scalar Whole)) None h = refl
advised_takes b (Tuple (Scalar Whole)) (Some d) h = tuples_fit (IsOf Whole) (Elements (b Whole) (kind_mode Whole)) (scalars_fit Whole) d h
advised_takes b (Tuple (Scalar Whole)) None h = refl
advised_takes b (Map (Scalar Whole) g) (Some d) h = maps_fit (IsOf Whole) (Has g) form.Sparse (Elements (b Whole) (kind_mode Whole)) (image_mode b g) (scalars_fit Whole) (images_fit b g) d h
advised_takes b (Map (Scalar Whole) g) None h = refl
advised_takes b (Set (Scalar Letters)) (Some d) h = sets_fit (IsOf Letters) form.Remote (Elements (b Letters) (kind_mode Letters)) (scalars_fit Letters) d h
advised_takes b (Set (Scalar Letters)) None h = refl
advised_takes b (Tuple (Scalar Letters)) (Some d) h = tuples_fit (IsOf Letters) (Elements (b Letters) (kind_mode Letters)) (scalars_fit Letters) d h
advised_takes b (Tuple (Scalar Letters)) None h = refl
advised_takes b (Map (Scalar Letters) g) (Some d) h = maps_fit (IsOf Letters) (Has g) form.Sparse (Elements (b Letters) (kind_mode Letters)) (image_mode b g) (scalars_fit Letters) (images_fit b g) d h
advised_takes b (Map (Scalar Letters) g) None h = refl
advised_takes b (Set (Scalar Truth)) (Some d) h = plain_fits (Set (Scalar Truth)) d h
advised_takes b (Set (Scalar Truth)) None h = refl
advised_takes b (Tuple (Scalar Truth)) (Some d) h = plain_fits (Tuple (Scalar Truth)) d h
advised_takes b (Tuple (Scalar Truth)) None h = refl
advised_takes b (Map (Scalar Truth) g) (Some d) h = plain_fits (Map (Scalar Truth) g) d h
advised_takes b (Map (Scalar Truth) g) None h = refl
advised_takes b (Set (Scalar Token)) (Some d) h = sets_fit (IsOf Token) form.Remote (Elements (b Token) (kind_mode Token)) (scalars_fit Token) d h
advised_takes b (Set (Scalar Token)) None h = refl
advised_takes b (Tuple (Scalar Token)) (Some d) h = tuples_fit (IsOf Token) (Elements (b Token) (kind_mode Token)) (scalars_fit Token) d h
advised_takes b (Tuple (Scalar Token)) None h = refl
advised_takes b (Map (Scalar Token) g) (Some d) h = maps_fit (IsOf Token) (Has g) form.Sparse (Elements (b Token) (kind_mode Token)) (image_mode b g) (scalars_fit Token) (images_fit b g) d h
advised_takes b (Map (Scalar Token) g) None h = refl
advised_takes b (Set Nothing) (Some d) h = plain_fits (Set Nothing) d h
advised_takes b (Set Nothing) None h = refl
advised_takes b (Set Any) (Some d) h = plain_fits (Set Any) d h
advised_takes b (Set Any) None h = refl
advised_takes b (Set (Set f)) (Some d) h = plain_fits (Set (Set f)) d h
advised_takes b (Set (Set f)) None h = refl
advised_takes b (Set (Tuple f)) (Some d) h = plain_fits (Set (Tuple f)) d h
advised_takes b (Set (Tuple f)) None h = refl
advised_takes b (Set (Map f g)) (Some d) h = plain_fits (Set (Map f g)) d h
advised_takes b (Set (Map f g)) None h = refl
advised_takes b (Tuple Nothing) (Some d) h = plain_fits (Tuple Nothing) d h
advised_takes b (Tuple Nothing) None h = refl
advised_takes b (Tuple Any) (Some d) h = plain_fits (Tuple Any) d h
advised_takes b (Tuple Any) None h = refl
advised_takes b (Tuple (Set f)) (Some d) h = plain_fits (Tuple (Set f)) d h
advised_takes b (Tuple (Set f)) None h = refl
advised_takes b (Tuple (Tuple f)) (Some d) h = plain_fits (Tuple (Tuple f)) d h
advised_takes b (Tuple (Tuple f)) None h = refl
advised_takes b (Tuple (Map f g)) (Some d) h = plain_fits (Tuple (Map f g)) d h
advised_takes b (Tuple (Map f g)) None h = refl
advised_takes b (Map Nothing g) (Some d) h = plain_fits (Map Nothing g) d h
advised_takes b (Map Nothing g) None h = refl
advised_takes b (Map Any g) (Some d) h = plain_fits (Map Any g) d h
advised_takes b (Map Any g) None h = refl
advised_takes b (Map (Set f) g) (Some d) h = plain_fits (Map (Set f) g) d h
advised_takes b (Map (Set f) g) None h = refl
advised_takes b (Map (Tuple f) g) (Some d) h = plain_fits (Map (Tuple f) g) d h
advised_takes b (Map (Tuple f) g) None h = refl
advised_takes b (Map (Map f k) g) (Some d) h = plain_fits (Map (Map f k) g) d h
advised_takes b (Map (Map f k) g) None h = refl
