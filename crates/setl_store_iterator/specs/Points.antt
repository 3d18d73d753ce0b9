-- The arguments of a map with their images. No public clause cites this module.
use Rattle.std.specs.Prelude.{List}
use Rattle.setl_value.specs.Datum.{Datum}
use Rattle.setl_map.specs.Maps.{domain_of}
use Rattle.setl_model.specs.Core.{Item}
use Rattle.setl_model.specs.Iterations.{map_points}

-- the items of a map, or of the rest of it from an argument on
abbrev pub points : List Datum → List Item
points f = map_points f (domain_of f)
