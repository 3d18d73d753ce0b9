-- The canonical order of data: by kinds, and inside a kind by its own order. It is this project's choice.
use Rattle.std.specs.Prelude.{◌≡◌, ℕ, pos, negsuc, false, List, [], ◌∷◌, Some, None, refl}
use Rattle.std.specs.declared.cmp.Ordering.{Ordering}
use Rattle.std.specs.declared.cmp.Ordering.TheVariants.{Less, Equal, Greater}
use Rattle.std.specs.Ordering.{ordering_then, nat_cmp, int_cmp, bool_cmp}
use Rattle.std.specs.Cmp.Lexicographic.{slice_cmp}
use Rattle.std.specs.List.Sorted.{IsStrictlySortedBy}
use Rattle.setl_value.specs.Datum.{Datum, bool, int, text, atom, tuple, set, Parts, no_part, om_then, part_then, Elements, no_element, element_then, set_of, tuple_of}

-- where a kind stands among the kinds
abbrev pub kind_of : Datum → ℕ
kind_of (bool b) = 0
kind_of (int z) = 1
kind_of (text t) = 2
kind_of (atom n) = 3
kind_of (tuple ps) = 4
kind_of (set ms) = 5

abbrev mutual
  pub datum_cmp : Datum → Datum → Ordering
  datum_cmp (bool a) (bool b) = bool_cmp a b
  datum_cmp (int a) (int b) = int_cmp a b
  datum_cmp (text a) (text b) = slice_cmp nat_cmp a b
  datum_cmp (atom a) (atom b) = nat_cmp a b
  datum_cmp (tuple a) (tuple b) = parts_cmp a b
  datum_cmp (set a) (set b) = elements_cmp a b
  datum_cmp a b = nat_cmp (kind_of a) (kind_of b)

  -- component by component, `om` the least
  pub parts_cmp : Parts → Parts → Ordering
  parts_cmp no_part no_part = Equal
  parts_cmp no_part b = Less
  parts_cmp a no_part = Greater
  parts_cmp (om_then a) (om_then b) = parts_cmp a b
  parts_cmp (om_then a) (part_then d b) = Less
  parts_cmp (part_then c a) (om_then b) = Greater
  parts_cmp (part_then c a) (part_then d b) = ordering_then (datum_cmp c d) (parts_cmp a b)

  -- member by member
  pub elements_cmp : Elements → Elements → Ordering
  elements_cmp no_element no_element = Equal
  elements_cmp no_element b = Less
  elements_cmp a no_element = Greater
  elements_cmp (element_then c a) (element_then d b) = ordering_then (datum_cmp c d) (elements_cmp a b)

-- each datum is below those after it
abbrev pub IsRising : List Datum → Type 0
IsRising ds = IsStrictlySortedBy datum_cmp ds

-- the kind comes first, `om` is the least component, and a proper prefix comes first
false_first : datum_cmp (bool false) (int (negsuc 4)) ≡ Less
false_first = refl

tuples_first : datum_cmp (tuple_of (Some (int (pos 7)) ∷ [])) (set_of []) ≡ Less
tuples_first = refl

om_first : datum_cmp (tuple_of (None ∷ Some (atom 1) ∷ [])) (tuple_of (Some (bool false) ∷ [])) ≡ Less
om_first = refl

prefix_first : datum_cmp (set_of (int (pos 1) ∷ [])) (set_of (int (pos 1) ∷ int (pos 2) ∷ [])) ≡ Less
prefix_first = refl
