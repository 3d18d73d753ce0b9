-- Which updates of a variable keep that it holds what its declaration takes, as the new part alone tells.
use Rattle.std.specs.Prelude.{Bool, true, false, List, [], ◌∷◌, Option, Some, None, option_and_then}
use Rattle.setl_value.specs.Datum.{Datum}
use Rattle.setl_modes.specs.Modes.{Mode}
use Rattle.setl_modes.specs.Fits.{fits}
use Rattle.setl_modes_parts.specs.Parts.{value_mode, images_mode, combines}
use Rattle.setl_modes_parts.specs.Laws.{ValuesFit, ImagesFit, PutsFit, SetPutsFit, CombinedFit, LeastTakenFits, FirstTakenFits, LastTakenFits}
use Rattle.setl_model.specs.Core.{Selected, Round, Brace}
use Rattle.setl_operators_table.specs.declared.Operator.{Operator}

-- the mode of the part at a selector, and at several, the outermost first; None where the selectors alone don't tell it
abbrev pub mode_at : Mode → Selected → Option Mode
mode_at m (Round x) = value_mode m x
mode_at m (Brace x) = images_mode m x

abbrev pub part_mode : Mode → List Selected → Option Mode
part_mode m [] = Some m
part_mode m (s ∷ ss) = option_and_then (λ n. part_mode n ss) (mode_at m s)

-- whether there is a mode and it passes the test
abbrev pub passes : (Mode → Bool) → Option Mode → Bool
passes test None = false
passes test (Some m) = test m

-- Whether a variable takes its new whole where its declaration took the old one: a part is put at some selectors, or the
-- part there is combined with a value, or has a value taken out. A variable that isn't declared takes every value.
abbrev pub decides_put : Option Mode → List Selected → Option Datum → Bool
decides_put None at v = true
decides_put (Some m) at v = passes (λ n. fits n v) (part_mode m at)

abbrev pub decides_combined : Operator → Option Mode → List Selected → Option Datum → Bool
decides_combined o None at v = true
decides_combined o (Some m) at v = passes (λ n. combines o n v) (part_mode m at)

abbrev pub decides_taken : Option Mode → List Selected → Bool
decides_taken None at = true
decides_taken (Some m) at = passes (λ n. true) (part_mode m at)

-- the laws of parts
pub record PartLaws : Type 0 where
  pub values : ValuesFit
  pub images : ImagesFit
  pub puts : PutsFit
  pub set_puts : SetPutsFit
  pub combined : CombinedFit
  pub least : LeastTakenFits
  pub first : FirstTakenFits
  pub last : LastTakenFits
