use Rattle.std.proofs.Common.{arith, ap, map}
use Rattle.std.proofs.lemmas.Bool.Decides.{nat_tests}
use Rattle.setl_value.specs.Datum.{parts_depth, parts_of}
use Rattle.setl_value.specs.code.DatumOf.{part}
use Rattle.setl_operators_enumerations.proofs.Lists.{take_whole}
use Rattle.setl_operators_enumerations.proofs.Operands.{parts_at, parts_more}
use Rattle.setl_operators_enumerations.proofs.enumerations.has_deep.Goals as goal

pub returns-then-part_depth-eq500 : goal.returns-then-part_depth-eq500
returns-then-part_depth-eq500 c = let d = parts_at c.args.parts.now c.loop-p.p-index c.p-item.result (omega arith) c.p-item.is in grind (arith, nat_tests)

pub loop-p-preserved : goal.loop-p-preserved
loop-p-preserved c =
    omega (arith, parts_more c.args.parts.now c.loop-p.p-index c.p-item.result (omega arith) c.p-item.is, c.part_depth.ensures.value, c.part_depth.ensures.bound, c.if-part_depth-eq500.false, c.loop-p.invariant)

pub returns : goal.returns
returns c =
    let w = ap (λ l. parts_depth (parts_of (map part l))) (take_whole c.args.parts.now c.loop-p.p-index (omega arith)) in
    let i = c.loop-p.invariant in
    grind (arith, nat_tests)
