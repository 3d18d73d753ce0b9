-- Operations on finite sets, over the strictly rising lists of their members.
use Rattle.std.specs.Prelude.{◌≡◌, Bool, true, not, List, [], ◌∷◌, ◌++◌, refl, pos}
use Rattle.std.specs.List.{filter, list_any, list_all}
use Rattle.std.specs.declared.cmp.Ordering.{Ordering}
use Rattle.std.specs.declared.cmp.Ordering.TheVariants.{Less, Equal, Greater}
use Rattle.std.specs.Ordering.{is_eq}
use Rattle.setl_value.specs.Datum.{Datum, int}
use Rattle.setl_value.specs.Order.{datum_cmp}

-- whether d is a member
abbrev pub has_datum : Datum → List Datum → Bool
has_datum d ds = list_any (λ e. is_eq (datum_cmp d e)) ds

-- whether each member of the first is one of the second
abbrev pub is_subset : List Datum → List Datum → Bool
is_subset xs ys = list_all (λ x. has_datum x ys) xs

-- the set of e and es with the member d, by how d stands to e, the least member
abbrev pub insert_by : Ordering → Datum → Datum → List Datum → List Datum → List Datum
insert_by Less d e es inserted = d ∷ e ∷ es
insert_by Equal d e es inserted = e ∷ es
insert_by Greater d e es inserted = e ∷ inserted

-- the set with the member d
abbrev pub insert_datum : Datum → List Datum → List Datum
insert_datum d [] = d ∷ []
insert_datum d (e ∷ es) = insert_by (datum_cmp d e) d e es (insert_datum d es)

-- the set without the member d
abbrev pub remove_datum : Datum → List Datum → List Datum
remove_datum d ds = filter (λ e. not (is_eq (datum_cmp d e))) ds

-- the set of all data of a list, in any order and with repeats
abbrev pub set_from : List Datum → List Datum
set_from [] = []
set_from (d ∷ ds) = insert_datum d (set_from ds)

-- union, difference, intersection and symmetric difference
abbrev pub union_of : List Datum → List Datum → List Datum
union_of xs ys = set_from (xs ++ ys)

abbrev pub minus_of : List Datum → List Datum → List Datum
minus_of xs ys = filter (λ x. not (has_datum x ys)) xs

abbrev pub meet_of : List Datum → List Datum → List Datum
meet_of xs ys = filter (λ x. has_datum x ys) xs

abbrev pub symm_of : List Datum → List Datum → List Datum
symm_of xs ys = union_of (minus_of xs ys) (minus_of ys xs)

-- worked rows, with {1 2} and {2 3}
abbrev one : Datum
one = int (pos 1)

abbrev two : Datum
two = int (pos 2)

abbrev three : Datum
three = int (pos 3)

abbrev one_two : List Datum
one_two = one ∷ two ∷ []

abbrev two_three : List Datum
two_three = two ∷ three ∷ []

an_enumeration : set_from (three ∷ one ∷ two ∷ one ∷ []) ≡ one ∷ two_three
an_enumeration = refl

the_union : union_of one_two two_three ≡ one ∷ two_three
the_union = refl

the_difference : minus_of one_two two_three ≡ one ∷ []
the_difference = refl

the_intersection : meet_of one_two two_three ≡ two ∷ []
the_intersection = refl

the_symmetric_difference : symm_of one_two two_three ≡ one ∷ three ∷ []
the_symmetric_difference = refl

the_set_without_two : remove_datum two one_two ≡ one ∷ []
the_set_without_two = refl

a_subset : is_subset one_two (one ∷ two_three) ≡ true
a_subset = refl
