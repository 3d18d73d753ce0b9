use Rattle.std.proofs.Common.{◌≡◌, ◌++◌, map, drop}
use Rattle.std.specs.List.{filter_map}
use Rattle.setl_value.specs.code.DatumOf.{datum}
use Rattle.setl_rep_forms.specs.Stands.{value_at}
use Rattle.setl_rep_based.proofs.plain.values_at.Given as goal

abbrev pub invariant-loop-n : goal.invariant-loop-n
invariant-loop-n l = map datum l.values.items ++ filter_map (value_at l.base) (drop l.n-index l.numbers) ≡ filter_map (value_at l.base) l.numbers
