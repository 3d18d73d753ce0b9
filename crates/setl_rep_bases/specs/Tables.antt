-- How a table stands for the instances of bases.
use Rattle.std.specs.Prelude.{◌≡◌, ◌<◌, ◌≤◌, ◌^◌, length, ℕ, Bool, List, cond, Option, Some, None, option_and_then}
use Rattle.std.specs.Option.{option_map, option_map_or}
use Rattle.std.specs.Map.{lookup}
use Rattle.std.specs.BTreeMap.{is_at}
use Rattle.std.specs.FinMap as map
use Rattle.setl_value.specs.Datum.{Datum}
use Rattle.setl_base.specs.Base.{BaseState, empty, entered, cut_back, undone}
use Rattle.setl_rep_bases.specs.declared.BaseId.{BaseId}
use Rattle.setl_rep_bases.specs.declared.marks.Mark.{Mark}
use Rattle.setl_rep_bases.specs.declared.tables.Instance.{Instance}
use Rattle.setl_rep_bases.specs.BaseId.{id_cmp}
use Rattle.setl_rep_bases.specs.Bases.{BasesState}
use Rattle.setl_rep_bases.specs.Marks.{as_cut}

-- what a table has at a name
abbrev pub found : List (BaseId × Instance) → BaseId → Option Instance
found es i = lookup (is_at (id_cmp i)) es

abbrev pub state_of : ℕ → List (BaseId × Instance) → BasesState
state_of count es = record { count = count; instances = map.from_entries es }

-- the base of an instance that is there
abbrev pub base_in : Option Instance → BaseState
base_in x = option_map_or (λ y. y.base) x empty

-- the table has w at the name i, or nothing there, and has elsewhere what it had
abbrev pub Puts : BaseId → Option Instance → List (BaseId × Instance) → List (BaseId × Instance) → Type 0
Puts i w old new = (j : BaseId) → found new j ≡ cond (is_at (id_cmp i) j) w (found old j)

-- the instance that the table has at the name i is changed by f, and it has elsewhere what it had
abbrev pub Alters : (Instance → Instance) → BaseId → List (BaseId × Instance) → List (BaseId × Instance) → Type 0
Alters f i old new = Puts i (option_map f (found old i)) old new

-- the table has everywhere what it had
abbrev pub Stays : List (BaseId × Instance) → List (BaseId × Instance) → Type 0
Stays old new = (j : BaseId) → found new j ≡ found old j

abbrev pub with_value : Datum → Instance → Instance
with_value d x = record x { base = entered x.base d }

abbrev pub cut_to : ℕ → Instance → Instance
cut_to n x = record x { base = cut_back x.base n }

abbrev pub undone_to : ℕ → Instance → Instance
undone_to n x = record x { base = undone x.base n }

abbrev pub gone_as : Bool → Instance → Instance
gone_as gone x = record x { gone = gone }

-- what is there and isn't gone
abbrev pub not_gone : Option Instance → Option Instance
not_gone x = option_and_then (λ y. cond y.gone None (Some y)) x

-- what a table of marks has at a name
abbrev pub marked_at : List (BaseId × Mark) → BaseId → Option Mark
marked_at ms i = lookup (is_at (id_cmp i)) ms

-- the instance of a mark, where it has one, as f makes it
abbrev pub brought : (Instance → Mark → Instance) → Option Mark → Option Instance → Option Instance
brought f w o = option_and_then (λ x. option_map (f x) w) o

-- each marked instance is cut to its mark, and the others are gone from the table
abbrev pub Brings : List (BaseId × Mark) → List (BaseId × Instance) → List (BaseId × Instance) → Type 0
Brings ms old new = (i : BaseId) → found new i ≡ brought as_cut (marked_at ms i) (found old i)

-- an instance may be cut to its mark, where it has one
abbrev pub MayBeCut : Option Mark → Instance → Type 0
MayBeCut w x = (x.base.cuts < 2 ^ 63) × ((m : Mark) → w ≡ Some m → m.count ≤ length x.base.members)
