use Rattle.std.proofs.Common.{arith, ap, map}
use Rattle.std.proofs.lemmas.Bool.Decides.{nat_tests}
use Rattle.setl_value.specs.Datum.{elements_depth, elements_of}
use Rattle.setl_value.specs.code.DatumOf.{datum}
use Rattle.setl_operators_enumerations.proofs.Lists.{take_whole}
use Rattle.setl_operators_enumerations.proofs.Operands.{depth_at, depth_more}
use Rattle.setl_operators_enumerations.proofs.enumerations.are_deep.Goals as goal

pub returns-then-depth-eq500 : goal.returns-then-depth-eq500
returns-then-depth-eq500 c = let d = depth_at c.args.values.now c.loop-v.v-index c.v-item.result (omega arith) c.v-item.is in grind (arith, nat_tests)

pub loop-v-preserved : goal.loop-v-preserved
loop-v-preserved c =
    omega (arith, depth_more c.args.values.now c.loop-v.v-index c.v-item.result (omega arith) c.v-item.is, c.learn.ensures.1, c.depth.ensures, c.if-depth-eq500.false, c.loop-v.invariant)

pub returns : goal.returns
returns c =
    let w = ap (λ l. elements_depth (elements_of (map datum l))) (take_whole c.args.values.now c.loop-v.v-index (omega arith)) in
    let i = c.loop-v.invariant in
    grind (arith, nat_tests)
