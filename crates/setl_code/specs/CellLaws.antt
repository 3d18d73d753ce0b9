-- A write changes what one cell holds.
use Rattle.std.specs.Prelude.{◌≡◌, Bool, true, false, [], ◌∷◌, cond, refl}
use Rattle.std.proofs.Common.{sym, ap, ◌∙◌, subst}
use Rattle.setl_model_runs.specs.Variable.{Variable, is_variable}
use Rattle.setl_model_runs.specs.VariableLaws.{same_variable}
use Rattle.setl_code.specs.CodeCore.{Held, Cells, held_in, with_held}

pub held_after : (g : Cells) (x : Variable) (h : Held) (y : Variable) → held_in (with_held g x h) y ≡ cond (is_variable x y) h (held_in g y)
held_after [] x h y = refl
held_after (b ∷ bs) x h y = go (is_variable b.0 x) refl (is_variable x y) refl (held_after bs x h y)
  where
    go : (t : Bool) → is_variable b.0 x ≡ t → (u : Bool) → is_variable x y ≡ u → held_in (with_held bs x h) y ≡ cond (is_variable x y) h (held_in bs y) → held_in (cond t ((x, h) ∷ bs) (b ∷ with_held bs x h)) y ≡ cond (is_variable x y) h (held_in (b ∷ bs) y)
    go true p true q ih = rw q refl
    go true p false q ih =
        let apart : is_variable b.0 y ≡ false = subst (λ z. is_variable z y ≡ false) (sym (same_variable b.0 x p)) q in
        rw (q, apart) refl
    go false p true q ih =
        let apart : is_variable b.0 y ≡ false = subst (λ z. is_variable b.0 z ≡ false) (same_variable x y q) p in
        rw (apart, ih, q) refl
    go false p false q ih = ap (λ w. cond (is_variable b.0 y) b.1 w) (ih ∙ ap (λ t. cond t h (held_in bs y)) q) ∙ sym (ap (λ t. cond t h (held_in (b ∷ bs) y)) q)
