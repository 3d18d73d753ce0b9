-- What the tests of parts decide.
use Rattle.std.specs.Prelude.{◌≡◌, ℕ, true, List, [], ◌∷◌, reverse, Option, Some}
use Rattle.setl_value.specs.Datum.{Datum, set_of, tuple_of}
use Rattle.setl_value.specs.Order.{IsRising}
use Rattle.setl_value.specs.WellFormed.{PartIsWellFormed, trim}
use Rattle.setl_modes.specs.Modes.{Mode}
use Rattle.setl_modes.specs.Fits.{fits, datum_fits}
use Rattle.setl_operators_table.specs.declared.Operator.{Operator}
use Rattle.setl_operators_table.specs.declared.Operator.TheVariants.{Get, Images, Put, PutImages}
use Rattle.setl_operators_table.specs.Operators.{op_of}
use Rattle.setl_operators_table.specs.Outcome.{Gives}
use Rattle.setl_modes_parts.specs.Parts.{value_mode, images_mode, combines}

-- a value, or `om`, that fits a mode
abbrev pub Fitting : Mode → Option Datum → Type 0
Fitting m v = PartIsWellFormed v × (fits m v ≡ true)

-- the part at a selector fits the mode that it has there
abbrev pub ValuesFit : Type 0
ValuesFit = (m n : Mode) (x whole v : Option Datum) (left charged : ℕ) → value_mode m x ≡ Some n → Fitting m whole → op_of Get (whole ∷ x ∷ []) left ≡ Gives v charged → Fitting n v

abbrev pub ImagesFit : Type 0
ImagesFit = (m n : Mode) (x whole v : Option Datum) (left charged : ℕ) → images_mode m x ≡ Some n → Fitting m whole → op_of Images (whole ∷ x ∷ []) left ≡ Gives v charged → Fitting n v

-- a new part of that mode keeps that the whole fits
abbrev pub PutsFit : Type 0
PutsFit = (m n : Mode) (x whole v w : Option Datum) (left charged : ℕ) → value_mode m x ≡ Some n → Fitting m whole → fits n v ≡ true → op_of Put (whole ∷ x ∷ v ∷ []) left ≡ Gives w charged → fits m w ≡ true

abbrev pub SetPutsFit : Type 0
SetPutsFit = (m n : Mode) (x whole v w : Option Datum) (left charged : ℕ) → images_mode m x ≡ Some n → Fitting m whole → fits n v ≡ true → op_of PutImages (whole ∷ x ∷ v ∷ []) left ≡ Gives w charged → fits m w ≡ true

-- where the value decides so, a whole that is combined with it keeps that it fits
abbrev pub CombinedFit : Type 0
CombinedFit = (o : Operator) (m : Mode) (whole v w : Option Datum) (left charged : ℕ) → combines o m v ≡ true → Fitting m whole → op_of o (whole ∷ v ∷ []) left ≡ Gives w charged → fits m w ≡ true

-- a set without its least member, and a tuple without its first or last component, keep that they fit
abbrev pub LeastTakenFits : Type 0
LeastTakenFits = (m : Mode) (d : Datum) (ds : List Datum) → IsRising (d ∷ ds) → datum_fits m (set_of (d ∷ ds)) ≡ true → datum_fits m (set_of ds) ≡ true

abbrev pub FirstTakenFits : Type 0
FirstTakenFits = (m : Mode) (p : Option Datum) (ps : List (Option Datum)) → datum_fits m (tuple_of (p ∷ ps)) ≡ true → datum_fits m (tuple_of (trim ps)) ≡ true

abbrev pub LastTakenFits : Type 0
LastTakenFits = (m : Mode) (p : Option Datum) (ps qs : List (Option Datum)) → reverse ps ≡ p ∷ qs → datum_fits m (tuple_of ps) ≡ true → datum_fits m (tuple_of (trim (reverse qs))) ≡ true
