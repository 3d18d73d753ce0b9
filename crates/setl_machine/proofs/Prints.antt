-- Lines that events print, and counts of pieces after them.
use Rattle.std.proofs.Common.{◌≡◌, ◌∙◌, ◌+◌, ℕ, zero, suc, List, [], ◌∷◌, ◌++◌, Option, ap, arith}
use Rattle.std.specs.Option.{option_map}
use Rattle.setl_io.specs.Faults.{one_more, more}
use Rattle.setl_value.specs.Datum.{Datum}
use Rattle.setl_model_runs.specs.Events.{Event, Called, Returned, Stored, Printed, Kept, Back, Forgot}
use Rattle.setl_model_runs.specs.Variable.{Variable}
use Rattle.setl_machine.specs.Writing.{prints, pieces_by}

pub prints_both : (es ds : List Event) → prints (es ++ ds) ≡ prints es + prints ds
prints_both [] ds = omega arith
prints_both (Called line name ∷ es) ds = prints_both es ds
prints_both (Returned name ∷ es) ds = prints_both es ds
prints_both (Stored line x v ∷ es) ds = prints_both es ds
prints_both (Printed bytes ∷ es) ds = omega (arith, prints_both es ds)
prints_both (Kept ∷ es) ds = prints_both es ds
prints_both (Back ∷ es) ds = prints_both es ds
prints_both (Forgot ∷ es) ds = prints_both es ds

-- a store isn't printed
pub store_prints : (es : List Event) (line : ℕ) (x : Variable) (v : Option Datum) → prints (es ++ Stored line x v ∷ []) ≡ prints es
store_prints es line x v = omega (arith, prints_both es (Stored line x v ∷ []))

more_both : (n k : ℕ) (count : Option ℕ) → more (n + k) count ≡ more k (more n count)
more_both zero k count = let e : 0 + k ≡ k = omega arith in ap (λ j. more j count) e
more_both (suc n) k count = let e : suc n + k ≡ suc (n + k) = omega arith in ap (λ j. more j count) e ∙ more_both n k (option_map one_more count)

-- events in two parts leave the count that they leave as a whole
pub pieces_in_parts : (es ds : List Event) (count : Option ℕ) → pieces_by (es ++ ds) count ≡ pieces_by ds (pieces_by es count)
pieces_in_parts es ds count = ap (λ n. more n count) (prints_both es ds) ∙ more_both (prints es) (prints ds) count
