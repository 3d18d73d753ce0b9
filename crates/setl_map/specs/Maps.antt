-- Operations on maps, over the rising lists of their pairs (Schwartz, Dewar, Dubinsky and Schonberg, Programming with
-- Sets, 1986). The images of a point and the test for a map stand with the pairs of setl_value.
use Rattle.std.specs.Prelude.{◌≡◌, ℕ, not, List, [], ◌∷◌, map, Option, Some, None, refl, pos}
use Rattle.std.specs.List.{filter, filter_map}
use Rattle.setl_value.specs.Datum.{Datum, int}
use Rattle.setl_value.specs.Pairs.{pair, pair_parts, first_of, second_of, is_datum, images}
use Rattle.setl_set.specs.Sets.{insert_datum, set_from, union_of}

-- the one member of a list
abbrev pub only : List Datum → Option Datum
only (y ∷ []) = Some y
only ys = None

-- f(x): the one image of x; `om` where x has none or several
abbrev pub image : Datum → List Datum → Option Datum
image x f = only (images x f)

-- the set of first parts, and the set of images
abbrev pub domain_of : List Datum → List Datum
domain_of f = set_from (filter_map (λ d. first_of (pair_parts d)) f)

abbrev pub range_of : List Datum → List Datum
range_of f = set_from (filter_map (λ d. second_of (pair_parts d)) f)

-- f without the pairs whose first part is x
abbrev pub without_point : Datum → List Datum → List Datum
without_point x f = filter (λ d. not (is_datum x (first_of (pair_parts d)))) f

-- f after f(x) := y: y is the one image of x, or x has none where y is `om`
abbrev pub put_image : Datum → Option Datum → List Datum → List Datum
put_image x None f = without_point x f
put_image x (Some y) f = insert_datum (pair x y) (without_point x f)

-- f after f{x} := ys: the images of x are ys
abbrev pub put_images : Datum → List Datum → List Datum → List Datum
put_images x ys f = union_of (without_point x f) (map (λ y. pair x y) ys)

-- ---- worked rows, with {[1 2] [1 3] [2 5]}
abbrev number : ℕ → Datum
number n = int (pos n)

abbrev three_pairs : List Datum
three_pairs = pair (number 1) (number 2) ∷ pair (number 1) (number 3) ∷ pair (number 2) (number 5) ∷ []

one_image : image (number 2) three_pairs ≡ Some (number 5)
one_image = refl

several_images : image (number 1) three_pairs ≡ None
several_images = refl

the_domain : domain_of three_pairs ≡ number 1 ∷ number 2 ∷ []
the_domain = refl

the_range : range_of three_pairs ≡ number 2 ∷ number 3 ∷ number 5 ∷ []
the_range = refl

without_one : without_point (number 1) three_pairs ≡ pair (number 2) (number 5) ∷ []
without_one = refl

put_of_seven : put_image (number 1) (Some (number 7)) three_pairs ≡ pair (number 1) (number 7) ∷ pair (number 2) (number 5) ∷ []
put_of_seven = refl

put_of_none : put_images (number 2) [] three_pairs ≡ pair (number 1) (number 2) ∷ pair (number 1) (number 3) ∷ []
put_of_none = refl
