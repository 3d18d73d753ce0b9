use Rattle.std.proofs.Common.{◌-◌, drop, ap}
use Rattle.setl_store.specs.Standing.{over}
use Rattle.setl_store.proofs.LastOperand.{last_off, last_within}
use Rattle.setl_store.proofs.OperandLists.{Changed}
use Rattle.setl_store.proofs.store.Store.drop_top.Goals as goal
use Rattle.setl_store.proofs.store.Store.drop_top.Goals.{In_ok-drop_operand}

pub drop_operand-requires-clause-fewer : goal.drop_operand-requires-clause-fewer
drop_operand-requires-clause-fewer c =
    last_within c.self.inside.code.now c.self.inside.bases c.self.inside.keeps c.self.inside.at c.self.inside.environment.now c.self.inside.environment.kept c.args.self.now c.self.invariant c.self.view_is c.requires c.operand.result.now (c.operands-last.result - 1) (ap (λ n. n - 1) c.operands-last.ensures) c.operand.ensures
    c.members_below-lowest.result c.members-members.result c.members_below-lowest.ensures c.members-members.ensures

done : (c : In_ok-drop_operand) → Changed c.self.inside.code.now c.self.inside.bases c.self.inside.keeps c.self.inside.at c.drop_operand.new.environment.now c.drop_operand.new.environment.kept c.args.self.now (over (drop 1 c.args.self.now.core.now.operands) c.args.self.now.core)
done c =
    last_off c.self.inside.code.now c.self.inside.bases c.self.inside.keeps c.self.inside.at c.self.inside.environment.now c.self.inside.environment.kept c.args.self.now c.self.invariant c.self.view_is c.requires c.operand.result.now (c.operands-last.result - 1) (ap (λ n. n - 1) c.operands-last.ensures) c.operand.ensures
    c.members_below-lowest.result c.members-members.result c.members_below-lowest.ensures c.members-members.ensures
    c.drop_operand.new.environment.now c.drop_operand.new.environment.kept c.in_ok-drop_operand.ensures.now c.in_ok-drop_operand.ensures.kept

pub returns : goal.returns
returns c = (done c).stands

pub invariant_of-self-2 : goal.invariant_of-self-2
invariant_of-self-2 c = (done c).holds
