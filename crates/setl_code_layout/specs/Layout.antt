-- The dump of a state of code: the members of each base, and what each declared variable holds.
use Rattle.std.specs.Prelude.{◌≡◌, ◌<◌, ℕ, true, List, [], ◌∷◌, ◌++◌, Option, slice_get}
use Rattle.std.specs.Option.{option_map_or}
use Rattle.setl_value.specs.Datum.{Datum}
use Rattle.setl_model_runs.specs.Variable.{Variable, name_of}
use Rattle.setl_modes.specs.Modes.{Mode}
use Rattle.setl_modes_places.specs.Places.{names}
use Rattle.setl_modes_dump.specs.Dump.{Bases, variable_line, base_lines}
use Rattle.setl_model.specs.Entered.{Base}
use Rattle.setl_code.specs.CodeCore.{main_held, CodeCore}
use Rattle.setl_code_events.specs.Told.{value_held}

-- ---- the variables of the main program

-- what a variable of the whole program or of the main program has; one that was taken has none
abbrev pub main_value : Variable → CodeCore → Option Datum
main_value x k = value_held (main_held x k)

-- ---- the dump

abbrev pub variable_lines : Bases → List (Variable × Mode) → CodeCore → List ℕ
variable_lines bases [] k = []
variable_lines bases (m ∷ ms) k = variable_line bases (name_of m.0) m.1 (main_value m.0 k) ++ variable_lines bases ms k

-- the dump of a state over these members of the bases, with the names of the bases and the modes of the variables in the
-- order of their declarations
abbrev pub code_layout : List (List ℕ) → List (Variable × Mode) → Bases → CodeCore → List ℕ
code_layout names modes bases k = base_lines bases 0 names ++ variable_lines bases modes k

-- ---- bases that are told

-- the mode names none but so many bases
abbrev pub NamesWithin : ℕ → Mode → Type 0
NamesWithin count m = (b : ℕ) → names b m ≡ true → b < count

-- the members of each of these bases by its number; none beyond them
abbrev pub members_of : List Base → Bases
members_of bases n = option_map_or (λ (b : Base). b.members) (slice_get bases n) []
