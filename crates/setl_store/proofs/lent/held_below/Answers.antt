use Rattle.std.proofs.Common.{◌∙◌, ◌-◌, ap, arith}
use Rattle.std.specs.Prelude.{slice_get}
use Rattle.setl_store.proofs.lent.held_below.Goals as goal

pub returns : goal.returns
returns c = record {
  operand = c.operand.result.now;
  there = omega (arith, c.if-operands-lowest.false, c.operands-operands.ensures, c.lowest.ensures, c.requires.low);
  is = c.operand.ensures ∙ ap (λ n. slice_get c.args.environment.now.now.operands (n - 1 - c.args.count)) c.operands-operands.ensures;
  value = c.in-Some.ensures.value;
  over = c.in-Some.ensures.over;
}
