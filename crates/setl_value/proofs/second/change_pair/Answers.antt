use Rattle.std.proofs.Common.{ap, ◌∙◌}
use Rattle.setl_value.specs.code.DatumOf.{datum}
use Rattle.setl_value.proofs.second.change_pair.Goals as goal

pub change_second_part-requires-clause-grows : goal.change_second_part-requires-clause-grows
change_second_part-requires-clause-grows g c = λ x y e. c.requires.grows x y (ap datum c.in-Tuple.is ∙ e)
