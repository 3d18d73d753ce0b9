-- A mode and its bare form are fitted alike.
use Rattle.std.proofs.Common.{◌≡◌, refl, ap, Some, None}
use Rattle.std.specs.List.{list_all}
use Rattle.setl_value.specs.Datum.{Datum, set, tuple, element_list, part_list}
use Rattle.setl_value.specs.Pairs.{pair_parts}
use Rattle.setl_modes.specs.declared.mode.Form.{Form}
use Rattle.setl_modes.specs.declared.mode.Form.TheVariants.{Plain}
use Rattle.setl_modes.specs.Modes.{Mode, General, Integers, Strings, Booleans, Atoms, Elements, Sets, Tuples, SingleMaps, MultiMaps}
use Rattle.setl_modes.specs.Fits.{part_fits, single_fits, multi_fits, datum_fits}
use Rattle.setl_modes.specs.FitLaws.{bare, FormsChangeNothing}

sets_alike : (form : Form) (m n : Mode) → datum_fits m ≡ datum_fits n → (d : Datum) → datum_fits (Sets Plain m) d ≡ datum_fits (Sets form n) d
sets_alike form m n same (set ms) = ap (λ t. list_all t (element_list ms)) same
sets_alike form m n same d = refl

tuples_alike : (m n : Mode) → datum_fits m ≡ datum_fits n → (d : Datum) → datum_fits (Tuples m) d ≡ datum_fits (Tuples n) d
tuples_alike m n same (tuple ps) = ap (λ t. list_all (part_fits t) (part_list ps)) same
tuples_alike m n same d = refl

single_alike : (form : Form) (m n o p : Mode) → datum_fits m ≡ datum_fits n → datum_fits o ≡ datum_fits p → (d : Datum) → datum_fits (SingleMaps Plain m o) d ≡ datum_fits (SingleMaps form n p) d
single_alike form m n o p first second (set ms) =
    λ k. list_all (λ q. single_fits (first k) (second k) (element_list ms) (pair_parts q)) (element_list ms)
single_alike form m n o p first second d = refl

multi_alike : (form : Form) (m n o p : Mode) → datum_fits m ≡ datum_fits n → datum_fits o ≡ datum_fits p → (d : Datum) → datum_fits (MultiMaps Plain m o) d ≡ datum_fits (MultiMaps form n p) d
multi_alike form m n o p first second (set ms) =
    λ k. list_all (λ q. multi_fits (first k) (second k) (element_list ms) (pair_parts q)) (element_list ms)
multi_alike form m n o p first second d = refl

bare_alike : (m : Mode) → datum_fits (bare m) ≡ datum_fits m
bare_alike General = refl
bare_alike Integers = refl
bare_alike Strings = refl
bare_alike Booleans = refl
bare_alike Atoms = refl
bare_alike (Elements base m) = bare_alike m
bare_alike (Sets form m) = let same = bare_alike m in λ k d. sets_alike form (bare m) m same d k
bare_alike (Tuples m) = let same = bare_alike m in λ k d. tuples_alike (bare m) m same d k
bare_alike (SingleMaps form m o) = let first = bare_alike m in let second = bare_alike o in λ k d. single_alike form (bare m) m (bare o) o first second d k
bare_alike (MultiMaps form m o) = let first = bare_alike m in let second = bare_alike o in λ k d. multi_alike form (bare m) m (bare o) o first second d k

pub forms_change_nothing : FormsChangeNothing
forms_change_nothing m None = refl
forms_change_nothing m (Some d) = ap (λ t. t d) (bare_alike m)
