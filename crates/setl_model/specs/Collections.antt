-- Sets and tuples of collected values.
use Rattle.std.specs.Prelude.{List, [], reverse, nat_le, if◌then◌else◌, Option, Some, None}
use Rattle.setl_value.specs.Datum.{Datum, set_of, tuple_of, depth}
use Rattle.setl_set.specs.Sets.{set_from}
use Rattle.setl_operators_table.specs.Outcome.{Fault, OmFault, DeepFault, all_values}
use Rattle.setl_value.specs.WellFormed.{trim}
use Rattle.setl_program.specs.declared.kinds.Collection.{Collection}
use Rattle.setl_program.specs.declared.kinds.Collection.TheVariants.{OfSet, OfTuple}

-- Why a value isn't collected, if it isn't: a set has no `om`, and no member or component has depth 500.
abbrev pub refusal : Collection → Option Datum → Option Fault
refusal OfSet None = Some OmFault
refusal OfTuple None = None
refusal k (Some d) = if nat_le 500 (depth d) then Some DeepFault else None

-- a set has no `om`
abbrev pub collected : Collection → List (Option Datum) → Option (List Datum) → Datum
collected OfTuple vs ds = tuple_of (trim vs)
collected OfSet vs None = set_of []
collected OfSet vs (Some ds) = set_of (set_from ds)

-- the set or tuple of what was collected, the latest first
abbrev pub collection : Collection → List (Option Datum) → Datum
collection k got = collected k (reverse got) (all_values got)
