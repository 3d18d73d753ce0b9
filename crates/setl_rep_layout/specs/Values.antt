-- The texts of values by their modes over the main program's bases, piece by piece.
use Rattle.std.specs.Prelude.{◌≡◌, ℕ, List, [], ◌∷◌, ◌++◌, map, codes, decimal, Option, Some, None}
use Rattle.std.specs.Option.{option_map}
use Rattle.setl_value.specs.Datum.{Datum, tuple, set, element_list, part_list, set_of}
use Rattle.setl_base.specs.Base.{BaseState}
use Rattle.setl_modes_dump.specs.Dump.{component, listed, map_text, only_text, part_text, plain_text, set_text}
use Rattle.setl_modes.specs.declared.mode.Form.{Form as Attribute}
use Rattle.setl_modes.specs.Modes.{Mode, Elements, Sets, Tuples, SingleMaps, MultiMaps}
use Rattle.setl_rep_bases.specs.BaseId.{main}
use Rattle.setl_rep_bases.specs.Bases.{BasesState, base_at}
use Rattle.setl_rep_building.specs.HasForm.{base_of}
use Rattle.setl_rep_forms.specs.Stands.{value_at}
use Rattle.setl_rep_layout.specs.Found.{images_at}
use Rattle.setl_rep_layout.specs.Laid.{attribute_of}
use Rattle.setl_rep_layout.specs.Members.{members_by}
use Rattle.setl_rep_layout.specs.Texts.{after_blanks}

-- the base by whose numbers values of a mode are written; none where they are written plain
abbrev pub text_base : Mode → Option ℕ
text_base (Elements b m) = Some b
text_base (Sets a m) = base_of m
text_base (Tuples m) = base_of m
text_base (SingleMaps a d r) = base_of d
text_base (MultiMaps a d s) = base_of d
text_base m = None

-- it is this one of the main program
abbrev pub IsBaseOf : BasesState → Mode → BaseState → Type 0
IsBaseOf bs m b = option_map (λ n. base_at bs (main n)) (text_base m) ≡ Some b

-- the texts of a tuple and a set on a base; other values are written plain
abbrev pub tuple_text : List Datum → Datum → List ℕ
tuple_text members (tuple ps) = codes "tuple" ++ after_blanks (listed (map (component members) (part_list ps)))
tuple_text members d = plain_text d

abbrev pub based_text : Attribute → List Datum → Datum → List ℕ
based_text a members (set ms) = set_text a members (element_list ms)
based_text a members d = plain_text d

-- the text of a point's images by the mode of the map
abbrev pub images_by : BasesState → Mode → List Datum → List ℕ
images_by bs (SingleMaps a d r) ys = only_text (part_text (members_by bs) r) ys
images_by bs (MultiMaps a d s) ys = part_text (members_by bs) s (set_of ys)
images_by bs m ys = []

-- the text of a map on a base by its mode
abbrev pub table_text : BasesState → Mode → List Datum → Datum → List ℕ
table_text bs m members (set ms) = map_text (attribute_of m) (images_by bs m) members (element_list ms)
table_text bs m members d = plain_text d

-- the number of a block, and in brackets the text of its member's images
abbrev pub point_text : BasesState → Mode → List Datum → BaseState → ℕ → List ℕ
point_text bs m f b n = decimal n ++ 40 ∷ images_by bs m (images_at (value_at b n) f) ++ 41 ∷ []

abbrev pub point_texts : BasesState → Mode → List Datum → BaseState → List ℕ → List (List ℕ)
point_texts bs m f b ns = map (point_text bs m f b) ns
