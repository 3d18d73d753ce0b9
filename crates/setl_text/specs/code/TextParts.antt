-- The parts of which texts are made.
use Rattle.std.specs.Prelude.{ℕ, zero, suc, List, [], ◌∷◌, Option, Some, None}
use Rattle.setl_value.specs.Datum.{Datum}
use Rattle.setl_text.specs.Texts.{inner_text}

-- the blank before the i-th of some texts
abbrev pub blank_before : ℕ → List ℕ
blank_before zero = []
blank_before (suc i) = 32 ∷ []

-- the text of a component of a tuple
abbrev pub component_text : Option Datum → List ℕ
component_text None = 42 ∷ []
component_text (Some d) = inner_text d
