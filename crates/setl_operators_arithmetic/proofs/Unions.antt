-- The union of two sets either way round.
use Rattle.std.proofs.Common.{◌≡◌, inl, inr, List, ap}
use Rattle.std.specs.List.{Contains}
use Rattle.setl_value.specs.Datum.{Datum, set_of, element_list, elements_of}
use Rattle.setl_set.specs.Sets.{union_of}
use Rattle.setl_set.specs.Laws.{RisingListsAgree, Unites}
use Rattle.setl_operators_table.specs.Numbers.{plus}
use Rattle.setl_operators_table.specs.Outcome.{set_value}

turned : (xs ys : List Datum) → Unites → (d : Datum) → Contains (union_of xs ys) d → Contains (union_of ys xs) d
turned xs ys unites d h = elim (((unites xs ys).members d).0 h) [ inl p ↦ ((unites ys xs).members d).1 (inr p) | inr p ↦ ((unites ys xs).members d).1 (inl p) ]

union_turned : (xs ys : List Datum) → RisingListsAgree → Unites → union_of xs ys ≡ union_of ys xs
union_turned xs ys agree unites = agree (union_of xs ys) (union_of ys xs) (unites xs ys).rising (unites ys xs).rising (λ d. (turned xs ys unites d, turned ys xs unites d))

pub plus_turned : (xs ys : List Datum) → RisingListsAgree → Unites → plus (set_of xs) (set_of ys) ≡ plus (set_of ys) (set_of xs)
plus_turned xs ys agree unites = ap set_value (union_turned (element_list (elements_of xs)) (element_list (elements_of ys)) agree unites)
