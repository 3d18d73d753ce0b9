-- What a hash of a value reads.
use Rattle.std.specs.Prelude.{◌++◌, Option, Some, None}
use Rattle.std.specs.Hash as fed
use Rattle.std.specs.Hash.{HashWrites}
use Rattle.setl_value.specs.Datum.{Datum, bool, int, text, atom, tuple, set, Parts, no_part, om_then, part_then, Elements, no_element, element_then}

abbrev mutual
  pub writes : Datum → HashWrites
  writes (bool b) = fed.u8 0 ++ fed.bool b
  writes (int z) = fed.u8 1 ++ fed.i128 z
  writes (text t) = fed.u8 2 ++ fed.slice fed.u8 t
  writes (atom n) = fed.u8 3 ++ fed.u64 n
  writes (tuple ps) = fed.u8 4 ++ parts_writes ps
  writes (set ms) = fed.u8 5 ++ elements_writes ms

  pub parts_writes : Parts → HashWrites
  parts_writes no_part = fed.u8 0
  parts_writes (om_then ps) = fed.u8 1 ++ parts_writes ps
  parts_writes (part_then d ps) = fed.u8 2 ++ (writes d ++ parts_writes ps)

  pub elements_writes : Elements → HashWrites
  elements_writes no_element = fed.u8 0
  elements_writes (element_then d ms) = fed.u8 1 ++ (writes d ++ elements_writes ms)

abbrev pub part_writes : Option Datum → HashWrites
part_writes None = fed.u8 1
part_writes (Some d) = fed.u8 2 ++ writes d
