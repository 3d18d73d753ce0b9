-- The texts of the dump: the members of each base, and the value of each declared variable by its mode. Bases, and the
-- attributes of modes on them, are those of the data representation sublanguage (Schwartz, Dewar, Dubinsky and Schonberg,
-- Programming with Sets, 1986).
use Rattle.std.specs.Prelude.{ℕ, suc, List, [], ◌∷◌, ◌++◌, length, map, cond, codes, decimal, Option, Some, None}
use Rattle.std.specs.Ordering.{is_eq}
use Rattle.setl_value.specs.Datum.{Datum, tuple, set, element_list, part_list, set_of}
use Rattle.setl_value.specs.Order.{datum_cmp}
use Rattle.setl_value.specs.Pairs.{images}
use Rattle.setl_set.specs.Sets.{has_datum}
use Rattle.setl_text.specs.Texts.{spaced, inner_text}
use Rattle.setl_modes.specs.declared.mode.Form.{Form}
use Rattle.setl_modes.specs.declared.mode.Form.TheVariants.{Plain, Local, Remote, Sparse}
use Rattle.setl_modes.specs.Modes.{Mode, Elements, Sets, Tuples, SingleMaps, MultiMaps}

-- the members of each base by its number
abbrev pub Bases : Type 0
Bases = ℕ → List Datum

-- ---- parts

-- the block number of a member, from 1; 0 for another value
abbrev pub number_from : ℕ → Datum → List Datum → ℕ
number_from n d [] = 0
number_from n d (e ∷ es) = cond (is_eq (datum_cmp d e)) n (number_from (suc n) d es)

abbrev pub block_number : Datum → List Datum → ℕ
block_number d members = number_from 1 d members

-- `-` where there is nothing to list
abbrev pub listed : List (List ℕ) → List (List ℕ)
listed [] = codes "-" ∷ []
listed (t ∷ ts) = t ∷ ts

-- a component of a tuple of elements: its block number
abbrev pub component : List Datum → Option Datum → List ℕ
component members None = codes "*"
component members (Some d) = decimal (block_number d members)

-- a digit for each block, 1 for a member of the set
abbrev pub digits_of : List Datum → List Datum → List ℕ
digits_of s [] = []
digits_of s (e ∷ es) = cond (has_datum e s) 49 48 ∷ digits_of s es

abbrev pub digits_or_none : List Datum → List Datum → List ℕ
digits_or_none s [] = codes "-"
digits_or_none s (e ∷ es) = digits_of s (e ∷ es)

-- the numbers of the blocks whose members are in the set, rising
abbrev pub numbers_from : ℕ → List Datum → List Datum → List (List ℕ)
numbers_from n s [] = []
numbers_from n s (e ∷ es) = cond (has_datum e s) (decimal n ∷ numbers_from (suc n) s es) (numbers_from (suc n) s es)

-- the images of a block's member: its number and, in brackets, the part text of what it has
abbrev pub image_text : (List Datum → List ℕ) → ℕ → List Datum → List (List ℕ)
image_text text n [] = []
image_text text n (y ∷ ys) = (decimal n ++ 40 ∷ text (y ∷ ys) ++ 41 ∷ []) ∷ []

abbrev pub images_from : (List Datum → List ℕ) → ℕ → List Datum → List Datum → List (List ℕ)
images_from text n f [] = []
images_from text n f (e ∷ es) = image_text text n (images e f) ++ images_from text (suc n) f es

abbrev pub form_word : Form → List ℕ
form_word Plain = codes "plain"
form_word Local = codes "local"
form_word Remote = codes "remote"
form_word Sparse = codes "sparse"

abbrev pub plain_text : Datum → List ℕ
plain_text d = spaced (codes "plain" ∷ inner_text d ∷ [])

-- a set on a base in its form
abbrev pub set_text : Form → List Datum → List Datum → List ℕ
set_text Plain members s = plain_text (set_of s)
set_text Sparse members s = spaced (codes "sparse" ∷ listed (numbers_from 1 s members))
set_text form members s = spaced (form_word form ∷ digits_or_none s members ∷ [])

-- a map on a base in its form, by the text of a block's images
abbrev pub map_text : Form → (List Datum → List ℕ) → List Datum → List Datum → List ℕ
map_text form text members f = spaced (form_word form ∷ listed (images_from text 1 f members))

-- the text of the one image
abbrev pub only_text : (Datum → List ℕ) → List Datum → List ℕ
only_text text [] = []
only_text text (y ∷ ys) = text y

-- the part text of a value by its mode
abbrev pub part_text : Bases → Mode → Datum → List ℕ
part_text bases (Elements b m) d = spaced (codes "elmt" ∷ decimal (block_number d (bases b)) ∷ [])
part_text bases (Tuples (Elements b m)) (tuple ps) = spaced (codes "tuple" ∷ listed (map (component (bases b)) (part_list ps)))
part_text bases (Sets form (Elements b m)) (set ms) = set_text form (bases b) (element_list ms)
part_text bases (SingleMaps form (Elements b m) r) (set ms) = map_text form (only_text (part_text bases r)) (bases b) (element_list ms)
part_text bases (MultiMaps form (Elements b m) s) (set ms) = map_text form (λ ys. part_text bases s (set_of ys)) (bases b) (element_list ms)
part_text bases m d = plain_text d

-- ---- lines

-- `base NAME COUNT:` and the members by block number
abbrev pub base_line : List ℕ → List Datum → List ℕ
base_line name members =
    spaced ((codes "base " ++ name ++ codes " " ++ decimal (length members) ++ codes ":") ∷ map inner_text members) ++ 10 ∷ []

abbrev pub variable_line : Bases → List ℕ → Mode → Option Datum → List ℕ
variable_line bases name m None = name ++ codes " om\n"
variable_line bases name m (Some d) = spaced (name ∷ part_text bases m d ∷ []) ++ 10 ∷ []

abbrev pub base_lines : Bases → ℕ → List (List ℕ) → List ℕ
base_lines bases n [] = []
base_lines bases n (name ∷ names) = base_line name (bases n) ++ base_lines bases (suc n) names
