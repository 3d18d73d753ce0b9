use Rattle.std.proofs.Common.{◌∙◌, ◌+◌, ◌-◌, ◌∷◌, drop, ap, arith}
use Rattle.setl_store.proofs.HasValues.{at_from_top}
use Rattle.setl_store.proofs.StandingOperands.{over_at}
use Rattle.setl_store.proofs.store.Store.part_below.Goals as goal

pub part_in-requires : goal.part_in-requires
part_in-requires c = over_at c.self.inside.bases c.self.inside.environment.now.operands (c.operands-operands.result - 1 - c.args.count) c.operand-operand.result.now c.self.invariant.1.operands c.operand-operand.ensures

pub returns : goal.returns
returns c =
    at_from_top c.self.inside.code.now c.self.inside.bases c.self.inside.at c.self.inside.environment.now c.self.inside.environment.kept c.args.self.now c.self.invariant.1 c.self.view_is c.operands-operands.result c.lowest.result c.args.count c.operand-operand.result.now
    c.operands-operands.ensures c.lowest.ensures (omega (arith, c.if-operands-lowest.false)) c.operand-operand.ensures
    ∙ ap (λ o. o ∷ drop (c.args.count + 1) c.args.self.now.core.now.operands) (c.in-Some.ensures c.self.inside.environment.now.members)
