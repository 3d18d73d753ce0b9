-- The dump of a core is that of every core with the same variables.
use Rattle.std.proofs.Common.{◌≡◌, ◌∙◌, ℕ, List, [], ◌∷◌, ◌++◌, refl, ap}
use Rattle.setl_model_runs.specs.Variable.{Variable, Global, Own, Bound, name_of}
use Rattle.setl_modes.specs.Modes.{Mode}
use Rattle.setl_modes_dump.specs.Dump.{Bases, variable_line, base_lines}
use Rattle.setl_code.specs.CodeCore.{Cells, held_in, main_held, outermost, Activation, CodeCore}
use Rattle.setl_code_events.specs.Told.{value_held}
use Rattle.setl_code_layout.specs.Layout.{variable_lines}
use Rattle.setl_code_layout.specs.Claims.{LaysOutVariablesAlone}

outermost_cells : (now other : Activation) (callers : List Activation) → other.own ≡ now.own → (outermost other callers).own ≡ (outermost now callers).own
outermost_cells now other [] same = same
outermost_cells now other (a ∷ callers) same = refl

module _ (a b : CodeCore) (globals : b.globals ≡ a.globals) (own : b.now.own ≡ a.now.own) (callers : b.callers ≡ a.callers) where
  main_cells : (outermost b.now b.callers).own ≡ (outermost a.now a.callers).own
  main_cells = ap (λ (cs : List Activation). (outermost b.now cs).own) callers ∙ outermost_cells a.now b.now a.callers own

  same_held : (x : Variable) → main_held x b ≡ main_held x a
  same_held (Global name) = ap (λ (s : Cells). held_in s (Global name)) globals
  same_held (Own body name) = ap (λ (s : Cells). held_in s (Own body name)) main_cells
  same_held (Bound former name) = ap (λ (s : Cells). held_in s (Bound former name)) main_cells

  same_lines : (bases : Bases) (modes : List (Variable × Mode)) → variable_lines bases modes b ≡ variable_lines bases modes a
  same_lines bases [] = refl
  same_lines bases (d ∷ ds) =
      let later = same_lines bases ds in
      let first = same_held d.0 in
      λ i. variable_line bases (name_of d.0) d.1 (value_held (first i)) ++ later i

pub of_variables_alone : LaysOutVariablesAlone
of_variables_alone names modes bases a b globals own callers = ap (λ (rest : List ℕ). base_lines bases 0 names ++ rest) (same_lines a b globals own callers bases modes)
