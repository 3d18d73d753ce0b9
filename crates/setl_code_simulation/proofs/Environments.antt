-- A write changes what one slot holds.
use Rattle.std.proofs.Common.{◌≡◌, Bool, true, false, Option, refl, sym, ap, ◌∙◌, subst}
use Rattle.std.specs.Prelude.{cond}
use Rattle.setl_model_runs.specs.Variable.{Variable, is_variable, Environment, value_in, with_value}
use Rattle.setl_model_runs.specs.VariableLaws.{same_variable, value_stored, value_elsewhere}
use Rattle.setl_value.specs.Datum.{Datum}
use Rattle.setl_code_simulation.specs.States.{Alike}
use Rattle.setl_code.specs.CodeCore.{There, Cells, held_in, with_held}
use Rattle.setl_code.specs.CellLaws.{held_after}

-- a write on both sides
pub alike_written : (g : Cells) (e : Environment) (x : Variable) (v : Option Datum) → Alike g e → Alike (with_held g x (There v)) (with_value e x v)
alike_written g e x v same y = go (is_variable x y) refl
  where
    go : (b : Bool) → is_variable x y ≡ b → held_in (with_held g x (There v)) y ≡ There (value_in (with_value e x v) y)
    go true h =
        let equal = same_variable x y h in
        held_after g x (There v) y ∙ ap (λ b. cond b (There v) (held_in g y)) h ∙ ap There (sym (subst (λ z. value_in (with_value e x v) z ≡ v) equal (value_stored e x v)))
    go false h =
        held_after g x (There v) y ∙ ap (λ b. cond b (There v) (held_in g y)) h ∙ same y ∙ ap There (sym (value_elsewhere e x y v h))
