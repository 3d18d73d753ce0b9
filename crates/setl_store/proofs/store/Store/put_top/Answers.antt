use Rattle.std.proofs.Common.{◌∷◌, drop}
use Rattle.setl_code.specs.CodeCore.{Result as Holds}
use Rattle.setl_value.specs.code.DatumOf.{part}
use Rattle.setl_store.specs.Standing.{over}
use Rattle.setl_store.proofs.LastOperand.{plain_there, top_set}
use Rattle.setl_store.proofs.OperandLists.{Changed}
use Rattle.setl_store.proofs.store.Store.put_top.Goals as goal
use Rattle.setl_store.proofs.store.Store.put_top.Goals.{In_ok-put_operand}

pub put_operand-requires : goal.put_operand-requires
put_operand-requires c = plain_there c.self.inside.code.now c.self.inside.bases c.self.inside.keeps c.self.inside.at c.self.inside.environment.now c.self.inside.environment.kept c.args.self.now c.self.invariant c.self.view_is c.requires

done : (c : In_ok-put_operand) → Changed c.self.inside.code.now c.self.inside.bases c.self.inside.keeps c.self.inside.at c.put_operand.new.environment.now c.put_operand.new.environment.kept c.args.self.now (over (Holds (part c.args.value) ∷ drop 1 c.args.self.now.core.now.operands) c.args.self.now.core)
done c =
    top_set c.self.inside.code.now c.self.inside.bases c.self.inside.keeps c.self.inside.at c.self.inside.environment.now c.self.inside.environment.kept c.args.self.now c.self.invariant c.self.view_is c.put_operand.new.environment.now c.put_operand.new.environment.kept
    c.operand.result (Holds (part c.args.value)) c.requires c.in_ok-put_operand.ensures.now c.in_ok-put_operand.ensures.kept c.operand.ensures.alone tt (c.operand.ensures.over c.self.inside.bases) (c.operand.ensures.stands c.self.inside.bases c.self.inside.environment.now.members)

pub returns : goal.returns
returns c = (done c).stands

pub invariant_of-self-2 : goal.invariant_of-self-2
invariant_of-self-2 c = (done c).holds
