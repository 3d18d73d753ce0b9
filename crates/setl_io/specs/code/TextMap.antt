-- Texts by name, as finite maps on the names' bytes.
use Rattle.std.specs.Prelude.{ℕ, List, map as list_map, Vec, String, string_bytes}
use Rattle.std.specs.Ordering.{nat_cmp}
use Rattle.std.specs.Cmp.Lexicographic.{slice_cmp}
use Rattle.std.specs.Coded.{Coded, coded_ℕ, coded_list}
use Rattle.std.specs.FinMap as map

-- the text of each name that has one
abbrev pub TextMap : Type 0
TextMap = map.FinMap (slice_cmp nat_cmp) (List ℕ)

abbrev pub text_map_code : Coded TextMap
text_map_code = map.code (coded_list coded_ℕ) (coded_list coded_ℕ)

-- the texts of these entries
abbrev pub text_map : {Y Z : Type 0} → List (String Y × Vec ℕ Z) → TextMap
text_map entries = map.from_entries (list_map (λ e. (string_bytes e.0, e.1.items)) entries)
