-- A member less in a set.
use Rattle.std.proofs.Common.{◌≡◌, ◌∙◌, ap, sym, ℕ, ◌≤◌, ◌+◌, Bool, true, false, not, List, [], ◌∷◌, Some, arith}
use Rattle.std.specs.Prelude.{max, if◌then◌else◌}
use Rattle.std.specs.List.{filter}
use Rattle.std.specs.Ordering.{is_eq}
use Rattle.setl_value.specs.Order.{datum_cmp}
use Rattle.setl_value.specs.Datum.{Datum, depth, set_of, elements_depth, elements_of, element_list-elements_of}
use Rattle.setl_set.specs.Sets.{remove_datum}
use Rattle.setl_operators_table.specs.Outcome.{set_value, value}
use Rattle.setl_machine_updates.specs.Changing.{IsLessened}

depth_kept : (keep : Datum → Bool) (ds : List Datum) → elements_depth (elements_of (filter keep ds)) ≤ elements_depth (elements_of ds)
depth_kept keep [] = omega arith
depth_kept keep (d ∷ ds) = go (keep d) (depth_kept keep ds)
  where
    go : (t : Bool) → elements_depth (elements_of (filter keep ds)) ≤ elements_depth (elements_of ds) → elements_depth (elements_of (if t then d ∷ filter keep ds else filter keep ds)) ≤ elements_depth (elements_of (d ∷ ds))
    go true h = omega (arith, h)
    go false h = omega (arith, h)

pub lessened : (d : Datum) (old new : List Datum) → new ≡ remove_datum d old → IsLessened d (set_of old) (set_of new)
lessened d old new is = record { given = λ left. ap (λ ds. set_value (remove_datum d ds)) (element_list-elements_of old) ∙ ap (λ ds. value (set_of ds)) (sym is) }

pub lessened_depth : (d : Datum) (old new : List Datum) → new ≡ remove_datum d old → depth (set_of new) ≤ max (depth (set_of old)) 1
lessened_depth d old new is = omega (arith, ap (λ ds. elements_depth (elements_of ds)) is, depth_kept (λ e. not (is_eq (datum_cmp d e))) old)
