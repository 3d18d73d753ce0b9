use Rattle.std.proofs.Common.{◌≡◌, ◌++◌, map, drop}
use Rattle.setl_value.specs.code.DatumOf.{part}
use Rattle.setl_rep_forms.specs.Stands.{parts_at}
use Rattle.setl_rep_based.proofs.plain.tuple_of_handles.Given as goal

abbrev pub invariant-loop-e : goal.invariant-loop-e
invariant-loop-e l = map part l.parts.items ++ parts_at l.base (drop l.e-index l.list) ≡ parts_at l.base l.list
