-- What a tuple keeps of its first component.
use Rattle.std.specs.Prelude.{◌≡◌, ◌⊎◌, ℤ, negsuc, List, ◌∷◌, Option, Some, FitsSigned}
use Rattle.std.specs.Int.{w32}
use Rattle.setl_value.specs.Datum.{Datum, int}

-- the least i32, which says that nothing is kept
abbrev pub no_lead : ℤ
no_lead = negsuc 2147483647

-- n is the first component where that is an integer of 32 bits, and `no_lead` otherwise
abbrev pub IsLead : ℤ → List (Option Datum) → Type 0
IsLead n (Some (int z) ∷ ps) = (n ≡ z) ⊎ ((n ≡ no_lead) × (FitsSigned w32 z → ⊥))
IsLead n ps = n ≡ no_lead
