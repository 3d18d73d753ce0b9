-- Maps that are held as tables: their contents by number, and puts of one.
use Rattle.std.specs.Prelude.{◌≡◌, ℕ, ◌==◌, Bool, cond, List, [], Option, Some, None, is_some, option_and_then}
use Rattle.std.specs.FinSet as set
use Rattle.setl_value.specs.Datum.{Datum}
use Rattle.setl_base.specs.Base.{IsBase}
use Rattle.setl_rep_bases.specs.declared.BaseId.{BaseId}
use Rattle.setl_rep_bases.specs.Bases.{BasesState, base_at}
use Rattle.setl_rep_forms.specs.Form.{Form, numbers, table}
use Rattle.setl_rep_forms.specs.Stands.{value_at, stands, IsOver, IsContent}
use Rattle.setl_rep_tables.specs.Tables.{content_in, IsKeyed, images_of, table_pairs}

-- ---- the parts of a map

-- the base of a map, and whether it keeps its images as sets
abbrev pub table_of : Form → Option (BaseId × Bool)
table_of (table layout b many es) = Some (b, many)
table_of f = None

abbrev pub IsTable : Form → Type 0
IsTable (table layout b many es) = Unit {0}
IsTable f = ⊥

-- the content of a number
abbrev pub content_of : Form → ℕ → Option Form
content_of (table layout b many es) n = content_in es n
content_of f n = None

-- each number has one entry
abbrev pub IsKeyedForm : Form → Type 0
IsKeyedForm (table layout b many es) = IsKeyed es
IsKeyedForm f = Unit {0}

-- the base of the points has different members, as every base has
abbrev pub HasBase : BasesState → Form → Type 0
HasBase bs (table layout b many es) = IsBase (base_at bs b)
HasBase bs f = Unit {0}

-- x is the member at the number n of the base of the points
abbrev pub IsPoint : BasesState → Form → ℕ → Datum → Type 0
IsPoint bs (table layout b many es) n x = value_at (base_at bs b) n ≡ Some x
IsPoint bs f n x = ⊥

-- ---- what it stands for

-- the pairs of a map, in rising order
abbrev pub map_pairs : BasesState → Form → List Datum
map_pairs bs (table layout b many es) = table_pairs bs (base_at bs b) many es
map_pairs bs f = []

-- the images that a content of this map has
abbrev pub images_from : BasesState → Form → Option Form → List Datum
images_from bs (table layout b many es) c = images_of many (option_and_then (stands bs) c)
images_from bs f c = []

-- a content that this map may have, or none
abbrev pub MayHave : BasesState → Form → Option Form → Type 0
MayHave bs f None = Unit {0}
MayHave bs (table layout b many es) (Some c) = IsOver bs c × IsContent many (stands bs c)
MayHave bs f (Some c) = ⊥

-- ---- changes

-- the second map is the first with the content c, or none, at the number n
abbrev pub PutsContent : ℕ → Option Form → Form → Form → Type 0
PutsContent n c (table k b many es) (table l d some fs) =
    (l ≡ k) × (d ≡ b) × (some ≡ many) × ((q : ℕ) → content_in fs q ≡ cond (n == q) c (content_in es q))
PutsContent n c old new = ⊥

-- the set has the numbers of the map's points, on the same base and in the same layout
abbrev pub IsDomain : Form → Form → Type 0
IsDomain (table k b many es) (numbers l d ns) = (l ≡ k) × (d ≡ b) × ((n : ℕ) → set.contains ns n ≡ is_some (content_in es n))
IsDomain f g = ⊥
