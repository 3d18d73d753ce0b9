use Rattle.std.proofs.Common.{arith, map}
use Rattle.setl_value.specs.code.DatumOf.{datum}
use Rattle.setl_rep_plain.proofs.Depths.{gathered_depth}
use Rattle.setl_rep_plain.proofs.values.set_of_pairs.Goals as goal

pub gathered-requires : goal.gathered-requires
gathered-requires c =
    omega (arith, gathered_depth c.tests_are_exact.ensures.membership c.operations_have_their_members.ensures.gather (map datum c.args.pairs.items), c.requires)
