-- The operators on booleans and those that give booleans.
use Rattle.std.specs.Prelude.{Bool, true, false, not, ◌&&◌, ◌||◌, List, [], ◌∷◌, int_lt, int_le, Option, Some, None}
use Rattle.std.specs.Option.{option_cmp}
use Rattle.std.specs.Ordering.{nat_cmp, is_eq, is_lt}
use Rattle.std.specs.Cmp.Lexicographic.{slice_cmp}
use Rattle.std.specs.List.{list_any}
use Rattle.setl_value.specs.Datum.{Datum, bool, int, text, atom, tuple, set, part_list, element_list}
use Rattle.setl_value.specs.Order.{datum_cmp}
use Rattle.setl_value.specs.Pairs.{is_datum, is_map}
use Rattle.setl_set.specs.Sets.{has_datum, is_subset}
use Rattle.setl_operators_table.specs.Outcome.{Outcome, Gives, Fails, KindFault, truth}

abbrev pub negation : Datum → Outcome
negation (bool b) = truth (not b)
negation d = Fails KindFault

abbrev pub both : Datum → Datum → Outcome
both (bool a) (bool b) = truth (a && b)
both a b = Fails KindFault

abbrev pub either : Datum → Datum → Outcome
either (bool a) (bool b) = truth (a || b)
either a b = Fails KindFault

-- integers by size, strings by their bytes
abbrev pub is_below : Datum → Datum → Outcome
is_below (int a) (int b) = truth (int_lt a b)
is_below (text a) (text b) = truth (is_lt (slice_cmp nat_cmp a b))
is_below a b = Fails KindFault

abbrev pub is_at_most : Datum → Datum → Outcome
is_at_most (int a) (int b) = truth (int_le a b)
is_at_most (text a) (text b) = truth (not (is_lt (slice_cmp nat_cmp b a)))
is_at_most a b = Fails KindFault

-- whether the first is a member or a component of the second
abbrev pub is_in : Datum → Datum → Outcome
is_in d (set ms) = truth (has_datum d (element_list ms))
is_in d (tuple ps) = truth (list_any (λ p. is_datum d p) (part_list ps))
is_in d e = Fails KindFault

abbrev pub subset : Datum → Datum → Outcome
subset (set a) (set b) = truth (is_subset (element_list a) (element_list b))
subset a b = Fails KindFault

-- the opposite of a boolean
abbrev pub opposite : Outcome → Outcome
opposite (Gives (Some (bool b)) n) = Gives (Some (bool (not b))) n
opposite o = o

-- ---- equality and kinds, where an operand may be `om`

abbrev pub equality : List (Option Datum) → Outcome
equality (a ∷ b ∷ []) = truth (is_eq (option_cmp datum_cmp a b))
equality vs = Fails KindFault

abbrev pub kind_test : (Datum → Bool) → List (Option Datum) → Outcome
kind_test test (None ∷ []) = truth false
kind_test test (Some d ∷ []) = truth (test d)
kind_test test vs = Fails KindFault

abbrev pub is_integer_datum : Datum → Bool
is_integer_datum (int z) = true
is_integer_datum d = false

abbrev pub is_string_datum : Datum → Bool
is_string_datum (text t) = true
is_string_datum d = false

abbrev pub is_boolean_datum : Datum → Bool
is_boolean_datum (bool b) = true
is_boolean_datum d = false

abbrev pub is_atom_datum : Datum → Bool
is_atom_datum (atom n) = true
is_atom_datum d = false

abbrev pub is_tuple_datum : Datum → Bool
is_tuple_datum (tuple ps) = true
is_tuple_datum d = false

abbrev pub is_set_datum : Datum → Bool
is_set_datum (set ms) = true
is_set_datum d = false

abbrev pub is_map_datum : Datum → Bool
is_map_datum (set ms) = is_map (element_list ms)
is_map_datum d = false
