-- Operators give values of values.
use Rattle.std.specs.Prelude.{◌≡◌, ℕ, ◌<◌, ◌^◌, List, [], ◌∷◌, length, Option, Some, None}
use Rattle.std.specs.List.{AllByRecursion}
use Rattle.setl_value.specs.Datum.{Datum, text, tuple, set, part_list, element_list}
use Rattle.setl_value.specs.WellFormed.{IsValue}
use Rattle.setl_operators_table.specs.declared.Operator.{Operator}
use Rattle.setl_operators_table.specs.declared.Operator.TheVariants.{Size}
use Rattle.setl_operators_table.specs.Operators.{op_of}
use Rattle.setl_operators_table.specs.Outcome.{Gives}
use Rattle.setl_operators_table.specs.Puts.{add_image}
use Rattle.setl_operators_table.specs.Takes.{Takeout, TakesOut, take_least, take_first, take_last}

-- a value, or `om`
abbrev pub IsValueOrOm : Option Datum → Type 0
IsValueOrOm None = Unit {0}
IsValueOrOm (Some d) = IsValue d

-- fewer than 2^127 members, components or bytes, so that their number is an integer in range
abbrev pub IsCounted : Datum → Type 0
IsCounted (set ms) = length (element_list ms) < 2 ^ 127
IsCounted (tuple ps) = length (part_list ps) < 2 ^ 127
IsCounted (text t) = length t < 2 ^ 127
IsCounted d = Unit {0}

-- what `#` counts is counted; of other operators nothing is asked
abbrev pub CountFits : Operator → List (Option Datum) → Type 0
CountFits Size (Some d ∷ []) = IsCounted d
CountFits o vs = Unit {0}

-- of values an operator gives a value or `om`
abbrev pub OperatorsGiveValues : Type 0
OperatorsGiveValues = (o : Operator) (vs : List (Option Datum)) (left n : ℕ) (v : Option Datum) → AllByRecursion IsValueOrOm vs → CountFits o vs → op_of o vs left ≡ Gives v n → IsValueOrOm v

-- and so does `f{x} with:= y`
abbrev pub AddedImagesGiveValues : Type 0
AddedImagesGiveValues = (d x y : Datum) (n : ℕ) (v : Option Datum) → IsValue d → IsValue x → IsValue y → add_image d x y ≡ Gives v n → IsValueOrOm v

-- of a value a take leaves a value, and takes out a value or `om`
abbrev pub TakesValues : (Datum → Takeout) → Type 0
TakesValues take = (d left : Datum) (taken : Option Datum) → IsValue d → take d ≡ TakesOut left taken → IsValue left × IsValueOrOm taken

-- `from`, `fromb` and `frome`
abbrev pub LeastIsValue : Type 0
LeastIsValue = TakesValues take_least

abbrev pub FirstIsValue : Type 0
FirstIsValue = TakesValues take_first

abbrev pub LastIsValue : Type 0
LastIsValue = TakesValues take_last
