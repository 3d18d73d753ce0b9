-- The components of a tuple from a place on.
use Rattle.std.specs.Prelude.{◌≡◌, ℕ, zero, suc, ◌+◌, Bool, false, ◌&&◌, List, [], ◌∷◌, Option, None, slice_get, drop, refl}
use Rattle.std.specs.Option.{unwrap_or}
use Rattle.std.specs.List.{list_all}
use Rattle.std.proofs.Common.{ap, ◌∙◌, arith}
use Rattle.setl_value.specs.Datum.{Datum}
use Rattle.setl_modes.specs.Fits.{part_fits}

from_next : (test : Datum → Bool) (ps : List (Option Datum)) (i : ℕ)
    → list_all (part_fits test) (drop i ps) ≡ (part_fits test (unwrap_or (slice_get ps i) None) && list_all (part_fits test) (drop (suc i) ps))
from_next test [] zero = refl
from_next test [] (suc i) = refl
from_next test (p ∷ ps) zero = refl
from_next test (p ∷ ps) (suc i) = from_next test ps i

pub all_from : (test : Datum → Bool) (ps : List (Option Datum)) (i : ℕ)
    → list_all (part_fits test) (drop i ps) ≡ (part_fits test (unwrap_or (slice_get ps i) None) && list_all (part_fits test) (drop (i + 1) ps))
all_from test ps i = from_next test ps i ∙ ap (λ n. part_fits test (unwrap_or (slice_get ps i) None) && list_all (part_fits test) (drop n ps)) {x = suc i} {y = i + 1} (omega arith)

pub stops : (test : Datum → Bool) (ps : List (Option Datum)) (i : ℕ) → part_fits test (unwrap_or (slice_get ps i) None) ≡ false → list_all (part_fits test) (drop i ps) ≡ false
stops test ps i h = all_from test ps i ∙ ap (λ b. b && list_all (part_fits test) (drop (i + 1) ps)) h
