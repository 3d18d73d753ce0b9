use Rattle.std.proofs.Common.{arith}
use Rattle.std.specs.Prelude.{is_some}
use Rattle.setl_value.proofs.Others.{count_more, at_most_one}
use Rattle.setl_value.specs.code.DatumOf.{datum}
use Rattle.setl_value.specs.Pairs.{pair_parts}
use Rattle.setl_value.proofs.counts.others_in.Goals as goal

pub overflow_add-count : goal.overflow_add-count
overflow_add-count c = omega (arith, c.loop-v.invariant.1, c.other-count.ensures, at_most_one (is_some (pair_parts (datum c.v-item.result))))

pub loop-v-preserved : goal.loop-v-preserved
loop-v-preserved c = (
  omega (arith, c.loop-v.invariant.0, c.other-count.ensures, count_more c.args.members.now c.loop-v.v-index c.v-item.result (omega arith) c.v-item.is),
  omega (arith, c.loop-v.invariant.1, c.other-count.ensures, at_most_one (is_some (pair_parts (datum c.v-item.result)))),
)
