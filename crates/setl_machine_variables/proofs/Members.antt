-- What the table of operators reads of a body, which is its list.
use Rattle.std.specs.Prelude.{◌≡◌, List, Option}
use Rattle.setl_value.specs.Datum.{Datum, element_list, elements_of, element_list-elements_of, part_list, parts_of, part_list-parts_of}

pub members_back : (ds : List Datum) → element_list (elements_of ds) ≡ ds
members_back ds = element_list-elements_of ds

pub parts_back : (ps : List (Option Datum)) → part_list (parts_of ps) ≡ ps
parts_back ps = part_list-parts_of ps
