-- Which members each operation leaves: a result is the one strictly rising list of the data that pass a test.
use Rattle.std.specs.Prelude.{◌≡◌, ◌↔◌, ◌⊎◌, ℕ, List, length, IsTrue}
use Rattle.std.specs.List.{Contains}
use Rattle.setl_value.specs.Datum.{Datum, set_of}
use Rattle.setl_value.specs.Order.{IsRising}
use Rattle.setl_set.specs.Sets.{has_datum, is_subset, insert_datum, remove_datum, set_from, union_of, minus_of, meet_of, symm_of}
use Rattle.setl_set.specs.Subsets.{pow_of, npow_of}

-- the strictly rising list of exactly the data with P
pub record IsSetOf (P : Datum → Type 0) (ds : List Datum) : Type 0 where
  pub rising : IsRising ds
  pub members : (d : Datum) → Contains ds d ↔ P d

-- each member of the first is one of the second
abbrev pub IsSubset : List Datum → List Datum → Type 0
IsSubset xs ys = (d : Datum) → Contains xs d → Contains ys d

-- d is the set of members that ds has too
pub record IsSubsetOf (ds : List Datum) (d : Datum) : Type 0 where
  pub chosen : List Datum
  pub is : d ≡ set_of chosen
  pub rising : IsRising chosen
  pub within : IsSubset chosen ds

-- the same, of n members
pub record IsSubsetOfSize (n : ℕ) (ds : List Datum) (d : Datum) : Type 0 where
  pub subset : IsSubsetOf ds d
  pub size : length subset.chosen ≡ n

-- two rising lists with the same members are one list
abbrev pub RisingListsAgree : Type 0
RisingListsAgree = (xs ys : List Datum) → IsRising xs → IsRising ys → ((d : Datum) → Contains xs d ↔ Contains ys d) → xs ≡ ys

abbrev pub TestsMembership : Type 0
TestsMembership = (d : Datum) (ds : List Datum) → IsTrue (has_datum d ds) ↔ Contains ds d

abbrev pub TestsSubset : Type 0
TestsSubset = (xs ys : List Datum) → IsTrue (is_subset xs ys) ↔ IsSubset xs ys

abbrev pub Inserts : Type 0
Inserts = (d : Datum) (ds : List Datum) → IsRising ds → IsSetOf (λ e. (e ≡ d) ⊎ Contains ds e) (insert_datum d ds)

abbrev pub Removes : Type 0
Removes = (d : Datum) (ds : List Datum) → IsRising ds → IsSetOf (λ e. Contains ds e × (e ≡ d → ⊥)) (remove_datum d ds)

abbrev pub Gathers : Type 0
Gathers = (ds : List Datum) → IsSetOf (λ d. Contains ds d) (set_from ds)

abbrev pub Unites : Type 0
Unites = (xs ys : List Datum) → IsSetOf (λ d. Contains xs d ⊎ Contains ys d) (union_of xs ys)

abbrev pub Subtracts : Type 0
Subtracts = (xs ys : List Datum) → IsRising xs → IsSetOf (λ d. Contains xs d × (Contains ys d → ⊥)) (minus_of xs ys)

abbrev pub Intersects : Type 0
Intersects = (xs ys : List Datum) → IsRising xs → IsSetOf (λ d. Contains xs d × Contains ys d) (meet_of xs ys)

abbrev pub Differs : Type 0
Differs =
    (xs ys : List Datum)
    → IsSetOf (λ d. (Contains xs d × (Contains ys d → ⊥)) ⊎ (Contains ys d × (Contains xs d → ⊥))) (symm_of xs ys)

abbrev pub HasAllSubsets : Type 0
HasAllSubsets = (ds : List Datum) → IsRising ds → IsSetOf (IsSubsetOf ds) (pow_of ds)

abbrev pub HasAllSubsetsOfSize : Type 0
HasAllSubsetsOfSize = (n : ℕ) (ds : List Datum) → IsRising ds → IsSetOf (IsSubsetOfSize n ds) (npow_of n ds)
