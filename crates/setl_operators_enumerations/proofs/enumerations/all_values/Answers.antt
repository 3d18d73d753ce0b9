use Rattle.std.proofs.Common.{arith, ap, sym, ◌∙◌, map, Some}
use Rattle.setl_value.specs.code.DatumOf.{datum, part}
use Rattle.setl_operators_table.specs.Outcome.{all_values}
use Rattle.setl_operators_enumerations.proofs.Lists.{take_whole}
use Rattle.setl_operators_enumerations.proofs.Operands.{some_none, one_value_more}
use Rattle.setl_operators_enumerations.proofs.enumerations.all_values.Goals as goal

pub returns-in-None : goal.returns-in-None
returns-in-None c = some_none c.args.operands.now c.loop-operand.operand-index c.operand-item.result (omega arith) c.operand-item.is c.in-None.is

pub loop-operand-preserved : goal.loop-operand-preserved
loop-operand-preserved c =
    one_value_more c.args.operands.now c.loop-operand.operand-index c.operand-item.result c.in-Some.v (map datum c.loop-operand.values.items) (omega arith) c.operand-item.is c.in-Some.is c.loop-operand.invariant
    ∙ ap Some (sym c.in_ok-push_copy-in-Some.ensures)

pub returns : goal.returns
returns c = ap (λ l. all_values (map part l)) (sym (take_whole c.args.operands.now c.loop-operand.operand-index (omega arith))) ∙ c.loop-operand.invariant
