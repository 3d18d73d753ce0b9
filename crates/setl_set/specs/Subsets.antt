-- The sets of all subsets, and of all subsets with n members.
use Rattle.std.specs.Prelude.{◌≡◌, ◌==◌, ◌&&◌, nat_le, ℕ, List, [], ◌∷◌, ◌++◌, length, map, refl, pos}
use Rattle.std.specs.List.{filter}
use Rattle.setl_value.specs.Datum.{Datum, int, set_of}
use Rattle.setl_set.specs.Sets.{set_from}

-- the subsets, those with the first member before the others
abbrev pub subsets : List Datum → List (List Datum)
subsets [] = [] ∷ []
subsets (d ∷ ds) = map (λ xs. d ∷ xs) (subsets ds) ++ subsets ds

abbrev pub subsets_of_size : ℕ → List Datum → List (List Datum)
subsets_of_size n ds = filter (λ xs. length xs == n) (subsets ds)

-- the subsets with at least `least` and at most `most` members
abbrev pub subsets_between : ℕ → ℕ → List Datum → List (List Datum)
subsets_between least most ds = filter (λ xs. nat_le least (length xs) && nat_le (length xs) most) (subsets ds)

-- the set of the sets of these members
abbrev pub set_of_sets : List (List Datum) → List Datum
set_of_sets lists = set_from (map set_of lists)

-- the set of all subsets
abbrev pub pow_of : List Datum → List Datum
pow_of ds = set_of_sets (subsets ds)

-- the set of all subsets with n members
abbrev pub npow_of : ℕ → List Datum → List Datum
npow_of n ds = set_of_sets (subsets_of_size n ds)

-- worked rows
abbrev one : Datum
one = int (pos 1)

abbrev two : Datum
two = int (pos 2)

abbrev three : Datum
three = int (pos 3)

subsets_of_two : pow_of (one ∷ two ∷ []) ≡ set_of [] ∷ set_of (one ∷ []) ∷ set_of (one ∷ two ∷ []) ∷ set_of (two ∷ []) ∷ []
subsets_of_two = refl

pairs_of_three : npow_of 2 (one ∷ two ∷ three ∷ []) ≡ set_of (one ∷ two ∷ []) ∷ set_of (one ∷ three ∷ []) ∷ set_of (two ∷ three ∷ []) ∷ []
pairs_of_three = refl

too_many : npow_of 3 (one ∷ two ∷ []) ≡ []
too_many = refl
