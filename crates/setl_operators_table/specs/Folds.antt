-- The folds `op/ v`: the members or components combined from the left.
use Rattle.std.specs.Prelude.{ℕ, List, [], ◌∷◌, map, Option, Some, None}
use Rattle.setl_value.specs.Datum.{Datum, tuple, set, part_list, element_list}
use Rattle.setl_operators_table.specs.Outcome.{Outcome, Gives, Fails, KindFault, then_with, all_values, unary, binary}

-- what two members give, with the turns that are left
abbrev pub combined : (ℕ → Datum → Datum → Outcome) → Option Datum → Option Datum → ℕ → Outcome
combined f v w left = binary (f left) (all_values (v ∷ w ∷ []))

-- each next member is combined with what the earlier ones gave, with the turns that these left
abbrev pub fold_on : (ℕ → Datum → Datum → Outcome) → Option Datum → List (Option Datum) → ℕ → Outcome
fold_on f v [] left = Gives v 0
fold_on f v (w ∷ ws) left = then_with (combined f v w left) left (λ new later. fold_on f new ws later)

-- one member alone is itself; of none comes `om`
abbrev pub fold_list : (ℕ → Datum → Datum → Outcome) → List (Option Datum) → ℕ → Outcome
fold_list f [] left = Gives None 0
fold_list f (v ∷ vs) left = fold_on f v vs left

abbrev pub fold_datum : (ℕ → Datum → Datum → Outcome) → ℕ → Datum → Outcome
fold_datum f left (set ms) = fold_list f (map Some (element_list ms)) left
fold_datum f left (tuple ps) = fold_list f (part_list ps) left
fold_datum f left d = Fails KindFault

abbrev pub folded : (ℕ → Datum → Datum → Outcome) → List (Option Datum) → ℕ → Outcome
folded f vs left = unary (fold_datum f left) (all_values vs)
