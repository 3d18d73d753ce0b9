-- The folds give values where what combines two members does.
use Rattle.std.specs.Prelude.{ℕ, List, [], ◌∷◌, map, Option, Some}
use Rattle.std.specs.List.{AllByRecursion}
use Rattle.setl_value.specs.Datum.{Datum, tuple, set, part_list, element_list}
use Rattle.setl_value.specs.WellFormed.{IsValue}
use Rattle.setl_operators_table.specs.Folds.{combined, fold_on, fold_list, fold_datum, folded}
use Rattle.setl_operators_table.specs.Outcome.{Outcome, all_values}
use Rattle.setl_operators_laws.specs.ValueLaws.{IsValueOrOm}
use Rattle.setl_operators_laws.specs.Lists.{all_weaker, all_map}
use Rattle.setl_operators_laws.specs.Outcomes.{GivesValue, then_gives, operands, unary_gives, binary_gives}
use Rattle.setl_operators_laws.specs.SetValues.{Stands, members, higher}
use Rattle.setl_operators_laws.specs.TupleValues.{PartStands, components, part_is_value}

-- it gives values of values
abbrev pub CombinesValues : (ℕ → Datum → Datum → Outcome) → Type 0
CombinesValues f = (left : ℕ) (a b : Datum) → IsValue a → IsValue b → GivesValue (f left a b)

fold_on_gives : (f : ℕ → Datum → Datum → Outcome) → CombinesValues f → (v : Option Datum) (ws : List (Option Datum)) (left : ℕ) → IsValueOrOm v → AllByRecursion IsValueOrOm ws → GivesValue (fold_on f v ws left)
fold_on_gives f c v [] left h a = h
fold_on_gives f c v (w ∷ ws) left h a =
    then_gives (combined f v w left) left (λ new later. fold_on f new ws later) (binary_gives (f left) (all_values (v ∷ w ∷ [])) (c left) (operands (v ∷ w ∷ []) (h, (a.0, tt))))
    (λ new later k. fold_on_gives f c new ws later k a.1)

fold_list_gives : (f : ℕ → Datum → Datum → Outcome) → CombinesValues f → (vs : List (Option Datum)) (left : ℕ) → AllByRecursion IsValueOrOm vs → GivesValue (fold_list f vs left)
fold_list_gives f c [] left a = tt
fold_list_gives f c (v ∷ vs) left a = fold_on_gives f c v vs left a.0 a.1

fold_datum_gives : (f : ℕ → Datum → Datum → Outcome) → CombinesValues f → (left : ℕ) (d : Datum) → IsValue d → GivesValue (fold_datum f left d)
fold_datum_gives f c left (set ms) h = fold_list_gives f c (map Some (element_list ms)) left (all_map (Stands 499) IsValueOrOm (λ d. Some d) (element_list ms) higher (members ms h))
fold_datum_gives f c left (tuple ps) h = fold_list_gives f c (part_list ps) left (all_weaker (PartStands 499) IsValueOrOm (part_list ps) part_is_value (components ps h))
fold_datum_gives f c left d h = tt

pub folded_gives : (f : ℕ → Datum → Datum → Outcome) → CombinesValues f → (vs : List (Option Datum)) (left : ℕ) → AllByRecursion IsValueOrOm vs → GivesValue (folded f vs left)
folded_gives f c vs left a = unary_gives (fold_datum f left) (all_values vs) (fold_datum_gives f c left) (operands vs a)
