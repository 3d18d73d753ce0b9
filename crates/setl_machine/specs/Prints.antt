-- How many lines a run prints.
use Rattle.std.specs.Prelude.{◌≡◌, ℕ, zero, suc, List, [], ◌∷◌, refl}
use Rattle.setl_model_runs.specs.Events.{Event, Called, Returned, Stored, Printed, Kept, Back, Forgot}

-- those of its events
abbrev pub prints : List Event → ℕ
prints [] = zero
prints (Called line name ∷ es) = prints es
prints (Returned name ∷ es) = prints es
prints (Stored line x v ∷ es) = prints es
prints (Printed bytes ∷ es) = suc (prints es)
prints (Kept ∷ es) = prints es
prints (Back ∷ es) = prints es
prints (Forgot ∷ es) = prints es

two_lines : prints (Kept ∷ Printed (10 ∷ []) ∷ Back ∷ Printed (49 ∷ 10 ∷ []) ∷ []) ≡ 2
two_lines = refl
