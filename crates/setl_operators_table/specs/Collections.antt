-- The operators on whole sets and tuples, and those on maps.
use Rattle.std.specs.Prelude.{ℕ, ◌^◌, pos, negsuc, List, [], ◌∷◌, length, Option, Some, None, if◌then◌else◌}
use Rattle.setl_value.specs.Datum.{Datum, int, text, tuple, set, part_list, element_list, set_of, tuple_of}
use Rattle.setl_value.specs.WellFormed.{trim}
use Rattle.setl_value.specs.Pairs.{is_map}
use Rattle.setl_set.specs.Sets.{insert_datum, remove_datum, set_from}
use Rattle.setl_set.specs.Subsets.{pow_of, npow_of, subsets_of_size}
use Rattle.setl_tuple.specs.Tuples.{with_of}
use Rattle.setl_map.specs.Maps.{domain_of, range_of, without_point}
use Rattle.setl_operators_table.specs.Outcome.{Outcome, Gives, Fails, OmFault, KindFault, RangeFault, value, set_value, within_depth, charging}

-- the number of members, components or bytes
abbrev pub size : Datum → Outcome
size (set ms) = value (int (pos (length (element_list ms))))
size (tuple ps) = value (int (pos (length (part_list ps))))
size (text t) = value (int (pos (length t)))
size d = Fails KindFault

abbrev pub least : List Datum → Option Datum
least [] = None
least (d ∷ ds) = Some d

abbrev pub least_member : Datum → Outcome
least_member (set ms) = Gives (least (element_list ms)) 0
least_member d = Fails KindFault

-- the set of all subsets, which charges their number
abbrev pub all_subsets : ℕ → Datum → Outcome
all_subsets left (set ms) = charging (2 ^ length (element_list ms)) left (within_depth (set_of (pow_of (element_list ms))))
all_subsets left d = Fails KindFault

-- the set of all subsets with n members, which charges their number
abbrev pub some_subsets : ℕ → Datum → Datum → Outcome
some_subsets left (int (pos n)) (set ms) =
    charging (length (subsets_of_size n (element_list ms))) left (within_depth (set_of (npow_of n (element_list ms))))
some_subsets left (int (negsuc n)) (set ms) = Fails RangeFault
some_subsets left n d = Fails KindFault

-- `s with d` and `t with d`
abbrev pub with_datum : Datum → Datum → Outcome
with_datum (set ms) d = within_depth (set_of (insert_datum d (element_list ms)))
with_datum (tuple ps) d = within_depth (tuple_of (with_of (part_list ps) d))
with_datum v d = Fails KindFault

abbrev pub less_datum : Datum → Datum → Outcome
less_datum (set ms) d = set_value (remove_datum d (element_list ms))
less_datum v d = Fails KindFault

-- ---- enumerations

abbrev pub enumerate_set : Option (List Datum) → Outcome
enumerate_set None = Fails OmFault
enumerate_set (Some ds) = within_depth (set_of (set_from ds))

abbrev pub enumerate_tuple : List (Option Datum) → Outcome
enumerate_tuple vs = within_depth (tuple_of (trim vs))

-- ---- maps

-- what is made of the pairs of a map; a set that is no map is of the wrong kind
abbrev pub on_map : (List Datum → Outcome) → List Datum → Outcome
on_map make f = if is_map f then make f else Fails KindFault

abbrev pub domain : Datum → Outcome
domain (set ms) = on_map (λ f. set_value (domain_of f)) (element_list ms)
domain d = Fails KindFault

abbrev pub range : Datum → Outcome
range (set ms) = on_map (λ f. set_value (range_of f)) (element_list ms)
range d = Fails KindFault

abbrev pub lessf_datum : Datum → Datum → Outcome
lessf_datum (set ms) x = on_map (λ f. set_value (without_point x f)) (element_list ms)
lessf_datum d x = Fails KindFault
