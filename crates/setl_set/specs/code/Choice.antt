-- The choice of some members of a set by their places.
use Rattle.std.specs.Prelude.{◌⊎◌, ℕ, ◌+◌, ◌<◌, ◌≤◌, List, [], ◌∷◌, slice_get}
use Rattle.std.specs.List.{filter_map}
use Rattle.setl_value.specs.Datum.{Datum}

-- the members at these places
abbrev pub members_at : List Datum → List ℕ → List Datum
members_at ds places = filter_map (λ i. slice_get ds i) places

-- the places rise from `low` on and stay below `high`
abbrev pub ArePlaces : ℕ → List ℕ → ℕ → Type 0
ArePlaces low [] high = low ≤ high
ArePlaces low (i ∷ is) high = (low ≤ i) × ArePlaces (i + 1) is high

-- no subset with at least `least` and at most `most` of `size` members adds places from `next` on to `count` places:
-- these are as many as may be, or too few are left, or none
abbrev pub IsFull : ℕ → ℕ → ℕ → ℕ → ℕ → Type 0
IsFull least most size count next = (most ≤ count) ⊎ ((size + count < least + next) ⊎ (size ≤ next))
