-- What contracts see of an iterator.
use Rattle.std.specs.Prelude.{Bool, true, false, List, Option, None, refl}
use Rattle.std.specs.Coded.{Coded, code_by, coded×, coded_bool, coded_list, coded_option}
use Rattle.std.proofs.Common.{◌≡◌}
use Rattle.setl_value.specs.Datum.{Datum}
use Rattle.setl_value.specs.code.DatumCode.{coded_datum}
use Rattle.setl_model.specs.Core.{Item, One, Two}

-- whether its items are pairs, and the items that are left
pub record IteratorState : Type 0 where
  pub pairs : Bool
  pub left : List Item

-- ---- how ghost state stores it

-- an item as whether it is a pair, and its two parts
abbrev pub item_parts : Item → Bool × (Option Datum × Option Datum)
item_parts (One v) = (false, (v, None))
item_parts (Two x y) = (true, (x, y))

abbrev pub item_from : Bool × (Option Datum × Option Datum) → Item
item_from (false, p) = One p.0
item_from (true, p) = Two p.0 p.1

abbrev pub item_same : (i : Item) → item_from (item_parts i) ≡ i
item_same (One v) = refl
item_same (Two x y) = refl

abbrev pub item_code : Coded Item
item_code = code_by (Bool × (Option Datum × Option Datum)) (coded× coded_bool (coded× (coded_option coded_datum) (coded_option coded_datum))) item_parts item_from item_same

abbrev pub state_code : Coded IteratorState
state_code = code_by (Bool × List Item) (coded× coded_bool (coded_list item_code)) (λ s. (s.pairs, s.left)) (λ p. record { pairs = p.0; left = p.1 }) (λ _. refl)
