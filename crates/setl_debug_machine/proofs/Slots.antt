-- Cores with the same slots show the same.
use Rattle.std.proofs.Common.{◌≡◌, ◌∙◌, refl, sym, ap, subst, List, [], ◌∷◌, ◌++◌, map}
use Rattle.setl_model_runs.specs.Variable.{Variable, Global, Own, Bound}
use Rattle.setl_code.specs.CodeCore.{CodeCore, Cells, held, held_in}
use Rattle.setl_code.specs.Plain.{Variables}
use Rattle.setl_store.specs.Standing.{variables}
use Rattle.setl_machine.specs.Outcome.{HasSameSlots}
use Rattle.setl_debug_screen.specs.code.Standing.{named_line, held_line, held_lines}

pub same_held : (a b : CodeCore) → HasSameSlots a b → (x : Variable) → held x b ≡ held x a
same_held a b s (Global name) = ap (λ (cells : Cells). held_in cells (Global name)) s.globals
same_held a b s (Own body name) = ap (λ (cells : Cells). held_in cells (Own body name)) s.own
same_held a b s (Bound former name) = ap (λ (cells : Cells). held_in cells (Bound former name)) s.own

same_line : (a b : CodeCore) → HasSameSlots a b → (x : Variable) → held_line b x ≡ held_line a x
same_line a b s (Global name) = ap (named_line name) (same_held a b s (Global name))
same_line a b s (Own body name) = ap (named_line name) (same_held a b s (Own body name))
same_line a b s (Bound former name) = refl

same_lines : (a b : CodeCore) → HasSameSlots a b → (xs : List Variable) → held_lines xs b ≡ held_lines xs a
same_lines a b s [] = refl
same_lines a b s (x ∷ xs) = ap (λ l. l ++ held_lines xs b) (same_line a b s x) ∙ ap (λ ls. held_line a x ++ ls) (same_lines a b s xs)

pub same_variables : (a b : CodeCore) → HasSameSlots a b → variables b ≡ variables a
same_variables a b s = ap (λ (g : Cells). record { global = map (λ c. c.0) g; own = map (λ c. c.0) b.now.own }) s.globals ∙ ap (λ (o : Cells). record { global = map (λ c. c.0) a.globals; own = map (λ c. c.0) o }) s.own

-- the lines of all variables
pub same_shown : (a b : CodeCore) → HasSameSlots a b → held_lines (variables b).global b ++ held_lines (variables b).own b ≡ held_lines (variables a).global a ++ held_lines (variables a).own a
same_shown a b s =
    ap (λ (vs : Variables). held_lines vs.global b ++ held_lines vs.own b) (same_variables a b s)
    ∙ ap (λ ls. ls ++ held_lines (variables a).own b) (same_lines a b s (variables a).global)
    ∙ ap (λ ls. held_lines (variables a).global a ++ ls) (same_lines a b s (variables a).own)
