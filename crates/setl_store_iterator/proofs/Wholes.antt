-- The items of sets and tuples.
use Rattle.std.specs.Prelude.{◌≡◌, true, false, List, Option}
use Rattle.std.specs.Bool.{if◌then◌else◌}
use Rattle.std.proofs.Common.{ap, ◌∙◌}
use Rattle.setl_value.specs.Datum.{Datum, set_of, tuple_of, element_list-elements_of, part_list-parts_of}
use Rattle.setl_value.specs.Pairs.{is_map}
use Rattle.setl_map.specs.Maps.{domain_of}
use Rattle.setl_operators_table.specs.Outcome.{KindFault}
use Rattle.setl_model.specs.Iterations.{Starts, Refuses, members, singles, map_points, place_points, values_of, points_of}
use Rattle.setl_store_iterator.specs.Points.{points}

pub set_values : (ms : List Datum) → values_of (set_of ms) ≡ Starts (members ms)
set_values ms = ap (λ l. Starts (members l)) (element_list-elements_of ms)

pub tuple_values : (ps : List (Option Datum)) → values_of (tuple_of ps) ≡ Starts (singles ps)
tuple_values ps = ap (λ l. Starts (singles l)) (part_list-parts_of ps)

set_points : (ms : List Datum) → points_of (set_of ms) ≡ (if is_map ms then Starts (points ms) else Refuses KindFault)
set_points ms = ap (λ l. if is_map l then Starts (map_points l (domain_of l)) else Refuses KindFault) (element_list-elements_of ms)

pub map_points_of : (ms : List Datum) → is_map ms ≡ true → points_of (set_of ms) ≡ Starts (points ms)
map_points_of ms h = set_points ms ∙ ap (λ t. if t then Starts (points ms) else Refuses KindFault) h

pub no_points_of : (ms : List Datum) → is_map ms ≡ false → points_of (set_of ms) ≡ Refuses KindFault
no_points_of ms h = set_points ms ∙ ap (λ t. if t then Starts (points ms) else Refuses KindFault) h

pub tuple_points : (ps : List (Option Datum)) → points_of (tuple_of ps) ≡ Starts (place_points 1 ps)
tuple_points ps = ap (λ l. Starts (place_points 1 l)) (part_list-parts_of ps)
